use Rattle.std.proofs.Common.{◌∙◌, ap, ap₂, map, ℕ, List, ◌≡◌}
use Rattle.std.specs.Prelude.{flat_map}
use Rattle.std.proofs.lemmas.Result.{IfOk-weaker}
use Rattle.certificate.specs.Contents.{said_fact}
use Rattle.checker_calls.specs.Actuals.{actual_of}
use Rattle.checker_calls.specs.Exit.{Change, Touches, changes_of}
use Rattle.checker_calls.specs.View.{said_bindings}
use Rattle.checker_calls.specs.ExitView.{AtExit, said_change, touches_by}
use Rattle.checker_calls.proofs.exit.touches_of.Goals as goal

pub returns : goal.returns
returns c =
    let bindings = said_bindings c.args.bindings in
    let listed = c.args.listed.now in
    let touching : List ℕ → List Change → Touches = λ touched changes. record { touched = touched; changes = changes } in
    let whole = touches_by c.args.rows.now c.args.pairs.now c.args.caller bindings listed (map said_fact c.args.exit.now) in
    IfOk-weaker c.of-2.result (λ touches. touches ≡ touching c.in_ok-touched.touched.items (map said_change c.in_ok-changes.changes.items))
    (λ touches. touches ≡ whole)
    (λ touches is.
    is
    ∙ ap₂ touching c.in_ok-touched.ensures
    (c.in_ok-changes.ensures
    ∙ ap (λ (at_end : AtExit). flat_map (λ root. changes_of at_end.tree at_end.facts root (actual_of bindings root)) listed) c.in_ok-at_end.ensures))
    c.of-2.ensures
