use Rattle.std.proofs.Common.{◌∙◌, ◌∷◌, [], sym, ap, map, take}
use Rattle.std.proofs.lemmas.List.{map-append}
use Rattle.certificate.specs.Contents.{said_fact}
use Rattle.checker_trail.proofs.Ways.{moves-more}
use Rattle.checker_calls.specs.Exit.{with_exit, with_exits}
use Rattle.checker_calls.specs.View.{said_bindings}
use Rattle.checker_calls.proofs.GoneBehind.{exits-append}
use Rattle.checker_calls.proofs.exit.add_exits.Goals as goal

pub loop-fact-preserved : goal.loop-fact-preserved
loop-fact-preserved c =
    let tree = c.args.rows.now in
    let block = c.args.block in
    let bindings = said_bindings c.args.bindings in
    let touches = c.args.touches.now in
    let facts = c.args.exit.now in
    let i = c.loop-fact.fact-index in
    let fact = c.fact-item.result in
    moves-more (λ some. with_exits tree block bindings touches (map said_fact some)) (with_exit tree block bindings touches (said_fact fact)) facts i fact
    c.loop-fact-test.true c.fact-item.is c.loop-fact.invariant c.add_exit.ensures
    (λ state. exits-append tree block bindings touches (map said_fact (take i facts)) (said_fact fact) state
    ∙ ap (λ some. with_exits tree block bindings touches some state) (sym (map-append said_fact (take i facts) (fact ∷ []))))
