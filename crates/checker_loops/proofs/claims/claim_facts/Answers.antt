use Rattle.std.proofs.Common.{map, take, ap, ◌∙◌, sym, [], ◌∷◌}
use Rattle.std.proofs.lemmas.List.{map-append}
use Rattle.certificate.specs.Contents.{said_fact}
use Rattle.checker_state.specs.Loops.{with_claims}
use Rattle.checker_loops.specs.Loops.{all_said, said}
use Rattle.checker_trail.proofs.Ways.{moves-more}
use Rattle.checker_loops.proofs.Stepped.{claims-fact}
use Rattle.checker_loops.proofs.claims.claim_facts.Goals as goal

pub loop-fact-preserved : goal.loop-fact-preserved
loop-fact-preserved c =
    let tree = c.table-rows.result.now in
    let facts = c.args.facts.now in
    let i = c.loop-fact.fact-index in
    let fact = c.fact-item.result in
    moves-more (λ some. with_claims (all_said tree (map said_fact some))) (with_claims (said tree (said_fact fact))) facts i fact
    c.loop-fact-test.true c.fact-item.is c.loop-fact.invariant c.claim_fact.ensures
    (λ state. claims-fact tree (map said_fact (take i facts)) (said_fact fact) state
    ∙ ap (λ some. with_claims (all_said tree some) state) (sym (map-append said_fact (take i facts) (fact ∷ []))))
