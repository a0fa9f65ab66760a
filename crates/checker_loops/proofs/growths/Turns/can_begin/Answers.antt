use Rattle.std.proofs.Common.{◌∙◌, ap, sym}
use Rattle.std.specs.List.{list_all}
use Rattle.std.proofs.lemmas.List.{take_all}
use Rattle.std.proofs.lemmas.List.Folds.{list_all-map, list_all_at}
use Rattle.certificate.specs.declared.facts.Fact.{Fact}
use Rattle.certificate.specs.Contents.{said_fact}
use Rattle.checker_trail.specs.Trail.{seen}
use Rattle.checker_loops.specs.Growths.{can_begin}
use Rattle.checker_loops.proofs.growths.Turns.can_begin.Goals as goal

pub returns : goal.returns
returns c =
    let test = can_begin (seen c.args.state.now) in
    let facts = c.args.self.now.round.facts.now in
    sym c.loop-fact.invariant
    ∙ ap (list_all (λ fact. test (said_fact fact))) (take_all c.loop-fact.fact-index facts c.loop-fact-test.false)
    ∙ sym (list_all-map test said_fact facts)

pub returns-then-not-can_begin : goal.returns-then-not-can_begin
returns-then-not-can_begin c =
    let test = can_begin (seen c.args.state.now) in
    let facts = c.args.self.now.round.facts.now in
    sym (list_all-map test said_fact facts
    ∙ list_all_at (λ fact. test (said_fact fact)) facts c.loop-fact.fact-index c.fact-item.result c.loop-fact-test.true
    (ap (λ (fact : Fact). test (said_fact fact)) (sym c.fact-item.is) ∙ sym c.can_begin.ensures ∙ c.if-not-can_begin.true))
