use Rattle.std.proofs.Common.{ap₂, ◌∙◌, ℕ, List, ◌∷◌, ◌++◌, subst}
use Rattle.typed_tree.specs.Accesses.{origin_of}
use Rattle.typed_tree.specs.Entries.{access_entries, index_entries, whole_entries}
use Rattle.typed_tree.specs.declared.tree.Expr.{Expr}
use Rattle.domain.specs.Interval.{Interval}
use Rattle.checker_state.specs.View.{said_reach}
use Rattle.cert_checker.specs.View.{WalkGoes}
use Rattle.cert_checker.specs.Walk.{copy_to}
use Rattle.checker_expressions.specs.Visits.{all_counted}
use Rattle.cert_checker.proofs.Assigned.{both-counted, copying-goes}
use Rattle.cert_checker.proofs.walk.Walk.copying.Goals as goal

pub returns-clause-goes : goal.returns-clause-goes
returns-clause-goes g c =
    let copying = c.args.copying.now in
    let target = copying.target in
    let held = said_reach c.reach_stored-reach.result in
    copying-goes copying c.deref.result.now c.deref-2.result.now c.as_slice-later.result.now c.deref-3.result.now (said_reach c.access-reach.result)
    held c.whole_value-ranges.result.items c.deref.ensures.value c.access-reach.ensures.goes c.deref-2.ensures.value c.whole_value-ranges.ensures.goes
    c.deref-3.ensures.value
    c.as_slice-later.ensures.value
    c.reach_stored-reach.ensures
    (subst (λ (ranges : List Interval). WalkGoes (copy_to copying.becomes (origin_of target) target.selectors.items held ranges) c.whole_value-ranges.new.self
    c.copy_to.new.self tt) c.deref-4.ensures.value c.copy_to.ensures)

pub returns-clause-counts : goal.returns-clause-counts
returns-clause-counts g c =
    let copying = c.args.copying.now in
    let target : List Expr → List ℕ = λ indexes. access_entries copying.target (index_entries indexes) in
    let value : List Expr → List ℕ = λ indexes. whole_entries copying.value (index_entries indexes) in
    let before = c.args.visits.now in
    both-counted g.C.Count.counted copying.number (target c.deref.result.now) (value c.deref-2.result.now) before c.tick.ensures c.access-reach.ensures.counts
    c.whole_value-ranges.ensures.counts
    ∙ ap₂ (λ (one other : List Expr). all_counted g.C.Count.counted (copying.number ∷ (target one ++ value other)) before) c.deref.ensures.value
    c.deref-2.ensures.value
