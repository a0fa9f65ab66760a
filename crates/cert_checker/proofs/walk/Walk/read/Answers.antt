use Rattle.std.proofs.Common.{◌∙◌, List, ◌∷◌, ap, map, refl, subst}
use Rattle.std.specs.Prelude.{flat_map}
use Rattle.typed_tree.specs.declared.tree.ReadVariable.{ReadVariable}
use Rattle.typed_tree.specs.Entries.{entries_of_read}
use Rattle.checker_expressions.specs.Visits.{all_counted}
use Rattle.cert_checker.specs.View.{WalkGoes}
use Rattle.cert_checker.specs.Walk.{all_of, from_entry, read_walk}
use Rattle.cert_checker.proofs.Steps.{all-end, all-step, counted-end, counted-step, goes-from_entry}
use Rattle.cert_checker.proofs.walk.Walk.read.Goals as goal

pub loop-one-init : goal.loop-one-init
loop-one-init g c = (
  λ new goes. goes,
  ap (λ visits. all_counted g.C.Count.counted (flat_map entries_of_read c.deref-one-items.result.now) visits) c.tick.ensures,
)

pub loop-one-preserved : goal.loop-one-preserved
loop-one-preserved g c =
    let here = c.loop-one in
    let variables = c.deref-one-items.result.now in (
      λ new goes. here.invariant.0 new
          (all-step (read_walk c.args.reading.now.name) variables here.one-index c.one-item.result c.loop-one-test.true c.one-item.is
          c.read_variable.ensures.goes goes),
      counted-step g.C.Count.counted (flat_map entries_of_read) entries_of_read (λ x xs. refl) variables here.one-index c.one-item.result _ c.loop-one-test.true
          c.one-item.is c.read_variable.ensures.counts here.invariant.1,
    )

pub returns-clause-goes : goal.returns-clause-goes
returns-clause-goes g c =
    let here = c.loop-one in
    let variables = c.deref-one-items.result.now in
    let number = c.args.reading.now.number in
    let walk = read_walk c.args.reading.now.name in
    subst (λ (own : List ReadVariable). WalkGoes (from_entry number (all_of (map walk own))) c.args.self.now here.self tt) c.deref-one-items.ensures.value
    (goes-from_entry number (all_of (map walk variables))
    (here.invariant.0 here.self (all-end walk variables here.one-index here.self c.loop-one-test.false)))

pub returns-clause-counts : goal.returns-clause-counts
returns-clause-counts g c =
    let here = c.loop-one in
    let number = c.args.reading.now.number in
    counted-end g.C.Count.counted (flat_map entries_of_read) entries_of_read (λ x xs. refl) c.deref-one-items.result.now here.one-index _ c.loop-one-test.false
    refl
    here.invariant.1
    ∙ ap (λ (own : List ReadVariable). all_counted g.C.Count.counted (number ∷ flat_map entries_of_read own) c.args.visits.now) c.deref-one-items.ensures.value
