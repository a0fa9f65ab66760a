use Rattle.std.proofs.Common.{◌∙◌, ap, sym}
use Rattle.std.specs.List.{list_all}
use Rattle.std.proofs.lemmas.List.{take_all}
use Rattle.std.proofs.lemmas.List.Folds.{list_all-map, list_all_at}
use Rattle.certificate.specs.declared.facts.Fact.{Fact}
use Rattle.certificate.specs.Contents.{said_fact}
use Rattle.checker_trail.specs.Trail.{seen}
use Rattle.checker_loops.specs.Growths.{has_turned}
use Rattle.checker_loops.specs.View.{said_turns}
use Rattle.checker_loops.proofs.growths.Turns.are_given.Goals as goal

pub returns : goal.returns
returns c =
    let test = has_turned (said_turns c.args.self.now) (seen c.args.state.now) in
    let facts = c.args.self.now.round.facts.now in
    sym c.loop-fact.invariant
    ∙ ap (list_all (λ fact. test (said_fact fact))) (take_all c.loop-fact.fact-index facts c.loop-fact-test.false)
    ∙ sym (list_all-map test said_fact facts)

pub returns-then-not-is_given : goal.returns-then-not-is_given
returns-then-not-is_given c =
    let test = has_turned (said_turns c.args.self.now) (seen c.args.state.now) in
    let facts = c.args.self.now.round.facts.now in
    sym (list_all-map test said_fact facts
    ∙ list_all_at (λ fact. test (said_fact fact)) facts c.loop-fact.fact-index c.fact-item.result c.loop-fact-test.true
    (ap (λ (fact : Fact). test (said_fact fact)) (sym c.fact-item.is) ∙ sym c.is_given.ensures ∙ c.if-not-is_given.true))
