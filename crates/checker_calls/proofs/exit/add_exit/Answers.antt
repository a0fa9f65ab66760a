use Rattle.std.proofs.Common.{◌∙◌, sym, ap, ap₂, ℕ, List, Option}
use Rattle.certificate.specs.declared.facts.Fact.{Fact}
use Rattle.certificate.specs.Contents.{said_fact}
use Rattle.domain.specs.Facts.{said_path, said_spans}
use Rattle.checker_state.specs.State.{Span}
use Rattle.checker_trail.specs.Trail.{seen}
use Rattle.checker_trail.proofs.Ways.{moves-as}
use Rattle.checker_calls.specs.Actuals.{all_of_rows}
use Rattle.checker_calls.specs.Exit.{bearers_defined, with_exit}
use Rattle.checker_calls.specs.View.{said_bindings}
use Rattle.checker_calls.proofs.GoneBehind.{outside-defined}
use Rattle.checker_calls.proofs.exit.add_exit.Goals as goal

pub returns-in-Defined : goal.returns-in-Defined
returns-in-Defined c =
    let tree = c.args.rows.now in
    let block = c.args.block in
    let bindings = said_bindings c.args.bindings in
    let touches = c.args.touches.now in
    let state = seen c.args.state.now in
    moves-as (with_exit tree block bindings touches (said_fact c.args.fact.now)) c.define_rows.ensures
    (ap₂ (λ (found : Option (List Span)) (rows : List ℕ). bearers_defined tree found (all_of_rows rows) state) c.exit_spans-within.ensures
    c.rows_outside-outside.ensures
    ∙ outside-defined tree block bindings touches (said_path c.in-Defined.path) (said_spans c.in-Defined.spans) state
    ∙ ap (λ (fact : Fact). with_exit tree block bindings touches (said_fact fact) state) (sym c.in-Defined.is))
