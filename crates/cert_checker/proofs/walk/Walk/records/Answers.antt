use Rattle.std.proofs.Common.{refl}
use Rattle.std.specs.Prelude.{flat_map}
use Rattle.typed_tree.specs.Entries.{entries_of_record}
use Rattle.cert_checker.specs.Walk.{record_walk}
use Rattle.cert_checker.proofs.Steps.{all-end, all-step, counted-end, counted-step}
use Rattle.cert_checker.proofs.walk.Walk.records.Goals as goal

pub loop-one-init : goal.loop-one-init
loop-one-init g c = (λ new goes. goes, refl)

pub loop-one-preserved : goal.loop-one-preserved
loop-one-preserved g c =
    let here = c.loop-one in
    let records = c.args.records.now in (
      λ new goes. here.invariant.0 new
          (all-step record_walk records here.one-index c.one-item.result c.loop-one-test.true c.one-item.is c.record_of.ensures.goes goes),
      counted-step g.C.Count.counted (flat_map entries_of_record) entries_of_record (λ x xs. refl) records here.one-index c.one-item.result _
          c.loop-one-test.true
          c.one-item.is c.record_of.ensures.counts here.invariant.1,
    )

pub returns-clause-goes : goal.returns-clause-goes
returns-clause-goes g c =
    let here = c.loop-one in
    here.invariant.0 here.self (all-end record_walk c.args.records.now here.one-index here.self c.loop-one-test.false)

pub returns-clause-counts : goal.returns-clause-counts
returns-clause-counts g c =
    let here = c.loop-one in
    counted-end g.C.Count.counted (flat_map entries_of_record) entries_of_record (λ x xs. refl) c.args.records.now here.one-index _ c.loop-one-test.false refl
    here.invariant.1
