use Rattle.std.proofs.Common.{◌∙◌, List, ◌∷◌, ap, map, refl, subst}
use Rattle.std.specs.Prelude.{flat_map}
use Rattle.typed_tree.specs.declared.tree.WriteParameter.{WriteParameter}
use Rattle.typed_tree.specs.Entries.{entries_of_parameter}
use Rattle.checker_expressions.specs.Visits.{all_counted}
use Rattle.checker_expressions.specs.Walk.{parameter_walk}
use Rattle.cert_checker.specs.View.{WalkGoes}
use Rattle.cert_checker.specs.Walk.{all_of, from_entry}
use Rattle.cert_checker.proofs.Steps.{all-end, all-step, counted-end, counted-step, goes-from_entry, lifted}
use Rattle.cert_checker.proofs.walk.Walk.write.Goals as goal

pub loop-parameter-init : goal.loop-parameter-init
loop-parameter-init g c = (
  λ new goes. goes,
  ap (λ visits. all_counted g.C.Count.counted (flat_map entries_of_parameter c.deref-parameter-items.result.now) visits) c.tick.ensures,
)

pub loop-parameter-preserved : goal.loop-parameter-preserved
loop-parameter-preserved g c =
    let here = c.loop-parameter in
    let parameters = c.deref-parameter-items.result.now in (
      λ new goes. here.invariant.0 new
          (all-step parameter_walk parameters here.parameter-index c.parameter-item.result c.loop-parameter-test.true c.parameter-item.is
          (lifted c.parameter.ensures.goes) goes),
      counted-step g.C.Count.counted (flat_map entries_of_parameter) entries_of_parameter (λ x xs. refl) parameters here.parameter-index c.parameter-item.result
          _
          c.loop-parameter-test.true c.parameter-item.is c.parameter.ensures.counts here.invariant.1,
    )

pub returns-clause-goes : goal.returns-clause-goes
returns-clause-goes g c =
    let here = c.loop-parameter in
    let parameters = c.deref-parameter-items.result.now in
    let number = c.args.writing.now.number in
    subst (λ (own : List WriteParameter). WalkGoes (from_entry number (all_of (map parameter_walk own))) c.args.self.now here.self tt)
    c.deref-parameter-items.ensures.value
    (goes-from_entry number (all_of (map parameter_walk parameters))
    (here.invariant.0 here.self (all-end parameter_walk parameters here.parameter-index here.self c.loop-parameter-test.false)))

pub returns-clause-counts : goal.returns-clause-counts
returns-clause-counts g c =
    let here = c.loop-parameter in
    let number = c.args.writing.now.number in
    counted-end g.C.Count.counted (flat_map entries_of_parameter) entries_of_parameter (λ x xs. refl) c.deref-parameter-items.result.now here.parameter-index _
    c.loop-parameter-test.false refl here.invariant.1
    ∙ ap (λ (own : List WriteParameter). all_counted g.C.Count.counted (number ∷ flat_map entries_of_parameter own) c.args.visits.now)
    c.deref-parameter-items.ensures.value
