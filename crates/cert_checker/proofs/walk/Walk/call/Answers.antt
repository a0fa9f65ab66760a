use Rattle.std.proofs.Common.{◌∙◌, ap, subst, List, map}
use Rattle.typed_tree.specs.Entries.{call_entries, entries_of_passed}
use Rattle.typed_tree.specs.declared.tree.Passed.{Passed}
use Rattle.checker_expressions.specs.Visits.{all_counted}
use Rattle.checker_expressions.specs.Walk.{call_walk, passed_piece_of}
use Rattle.cert_checker.specs.View.{WalkGoes}
use Rattle.cert_checker.proofs.Steps.{lifted}
use Rattle.cert_checker.proofs.walk.Walk.call.Goals as goal

pub returns-clause-goes : goal.returns-clause-goes
returns-clause-goes g c =
    let old = c.args.self.now in
    subst (λ (actuals : List Passed).
    WalkGoes (call_walk c.args.calling.now.call (map passed_piece_of actuals)) old (record old { flow = c.call.new.self }) tt) c.deref.ensures.value
    (lifted c.call.ensures.goes)

pub returns-clause-counts : goal.returns-clause-counts
returns-clause-counts g c =
    c.call.ensures.counts
    ∙ ap (λ (actuals : List Passed). all_counted g.C.Count.counted (call_entries c.args.calling.now.call (map entries_of_passed actuals)) c.args.visits.now)
    c.deref.ensures.value
