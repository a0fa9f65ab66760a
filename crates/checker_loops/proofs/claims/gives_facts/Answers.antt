use Rattle.std.proofs.Common.{◌∙◌, ap, sym}
use Rattle.std.specs.List.{list_all}
use Rattle.std.proofs.lemmas.List.{take_all}
use Rattle.std.proofs.lemmas.List.Folds.{list_all_at}
use Rattle.certificate.specs.declared.facts.Fact.{Fact}
use Rattle.certificate.specs.Contents.{said_fact}
use Rattle.checker_state.specs.Loops.{gives_all}
use Rattle.checker_state.specs.State.{state_gives, table_of}
use Rattle.checker_trail.specs.Trail.{seen}
use Rattle.checker_loops.specs.Loops.{asked}
use Rattle.checker_loops.proofs.Stepped.{claims_given}
use Rattle.checker_loops.proofs.claims.gives_facts.Goals as goal

pub returns : goal.returns
returns c =
    let tree = c.args.state.now.table.now in
    let state = seen c.args.state.now in
    let facts = c.args.facts.now in
    sym c.loop-fact.invariant
    ∙ ap (list_all (λ fact. gives_all (table_of tree) state (asked tree (said_fact fact))))
    (take_all c.loop-fact.fact-index facts c.loop-fact-test.false)
    ∙ claims_given (state_gives (table_of tree) state) tree facts

pub returns-then-not-gives_fact : goal.returns-then-not-gives_fact
returns-then-not-gives_fact c =
    let tree = c.args.state.now.table.now in
    let state = seen c.args.state.now in
    let facts = c.args.facts.now in
    sym (sym (claims_given (state_gives (table_of tree) state) tree facts)
    ∙ list_all_at (λ fact. gives_all (table_of tree) state (asked tree (said_fact fact))) facts c.loop-fact.fact-index c.fact-item.result
    c.loop-fact-test.true
    (ap (λ (fact : Fact). gives_all (table_of tree) state (asked tree (said_fact fact))) (sym c.fact-item.is) ∙ sym c.gives_fact.ensures
    ∙ c.if-not-gives_fact.true))
