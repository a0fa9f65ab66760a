use Rattle.std.proofs.Common.{ap, ◌∙◌, subst, ℕ, List, ◌∷◌, ◌++◌}
use Rattle.typed_tree.specs.declared.tree.Expr.{Expr}
use Rattle.typed_tree.specs.Entries.{access_entries, entries_of_expression, index_entries}
use Rattle.checker_state.specs.View.{said_reach}
use Rattle.checker_expressions.specs.Visits.{all_counted}
use Rattle.checker_expressions.specs.Walk.{index_pieces}
use Rattle.cert_checker.specs.StepsView.{said_valued}
use Rattle.checker_expressions.specs.declared.noting.Noted.{Noted}
use Rattle.cert_checker.specs.declared.walk.Walk.{Walk}
use Rattle.cert_checker.specs.View.{WalkGoes, context_of}
use Rattle.cert_checker.specs.Walk.{assign_value, reach_stored}
use Rattle.cert_checker.proofs.Assigned.{assignment-goes, both-counted}
use Rattle.cert_checker.proofs.Steps.{lifted}
use Rattle.cert_checker.proofs.walk.Walk.assignment.Goals as goal

pub returns-clause-goes : goal.returns-clause-goes
returns-clause-goes g c =
    let assignment = c.args.assignment.now in
    let reach = said_reach c.access-reach.result in
    let tested : Walk = record c.noted_where-valued.new.self { flow = c.fitting-passed.new.self } in
    let new = c.assign_value.new.self in
    assignment-goes c.args.assignment.now c.deref.result.now c.deref-2.result.now reach (said_reach c.reach_stored-reach.result)
    (said_valued c.noted_where-valued.result)
    c.fitting-passed.result c.deref.ensures.value c.access-reach.ensures.goes c.noted_where-valued.ensures.goes (lifted c.fitting-passed.ensures)
    c.deref-2.ensures.value
    (c.reach_stored-reach.ensures
    ∙ ap (λ (later : List Expr). reach_stored (context_of tested) c.deref-2.result.now (index_pieces later) reach) c.from_ref-later.ensures.value)
    (subst
    (λ (notes : List Noted). WalkGoes (assign_value assignment (said_reach c.reach_stored-reach.result) notes c.fitting-passed.result) tested new tt)
    c.deref-3.ensures.value c.assign_value.ensures)

pub returns-clause-counts : goal.returns-clause-counts
returns-clause-counts g c =
    let assignment = c.args.assignment.now in
    let entries : List Expr → List ℕ = λ indexes. access_entries assignment.target (index_entries indexes) in
    let value = entries_of_expression assignment.value in
    let before = c.args.visits.now in
    both-counted g.C.Count.counted assignment.number (entries c.deref.result.now) value before c.tick.ensures c.access-reach.ensures.counts
    c.noted_where-valued.ensures.counts
    ∙ ap (λ (indexes : List Expr). all_counted g.C.Count.counted (assignment.number ∷ (entries indexes ++ value)) before) c.deref.ensures.value
