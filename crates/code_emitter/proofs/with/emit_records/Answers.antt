use Rattle.std.proofs.Common.{◌≡◌, ◌≤◌, ◌+◌, drop, max, ap, arith}
use Rattle.std.proofs.lemmas.List.{drop_all}
use Rattle.code_scheme.specs.Code.{records_code}
use Rattle.code_scheme.specs.Depth.{access_depth, index_depths, records_depth}
use Rattle.code_scheme.specs.Scopes.{with_records}
use Rattle.code_scheme.specs.Sizes.{capped}
use Rattle.code_scheme.proofs.Depths.{address_takes_one}
use Rattle.code_emitter.proofs.Emitted.{left_none, next_of}
use Rattle.code_emitter.proofs.Records.{record_held, record_left}
use Rattle.code_emitter.proofs.with.emit_records.Goals as goal

pub loop-one-preserved : goal.loop-one-preserved
loop-one-preserved c =
    let scope = c.args.scope.now in
    let records = c.args.records.now in
    let i = c.loop-one.one-index in
    let one = c.one-item.result in
    let cells = c.loop-one.cells in
    let held = c.loop-one.held.items in
    let its = c.emit_record-address.ensures in
    let so_far = c.loop-one.invariant in
    let next = next_of records i one c.loop-one-test.true c.one-item.is in
    let deep : records_depth (drop i records)
    ≡ max (access_depth one.access.selectors.items (index_depths one.indexes.items)) (records_depth (drop (i + 1) records) + 1) = ap records_depth next in
    let one_at_least = address_takes_one one.access.selectors.items (index_depths one.indexes.items) in
    let behind : c.saturating_add.result ≡ capped (access_depth one.access.selectors.items (index_depths one.indexes.items) + i) =
    omega (arith, so_far.cells, its.needs, c.saturating_add.ensures) in
    let greatest : c.max-depth.result ≡ max c.loop-one.depth (capped (access_depth one.access.selectors.items (index_depths one.indexes.items) + i)) =
    omega (arith, behind, c.max-depth.ensures) in
    let least : capped (i + 1) ≤ c.max-depth.result = omega (arith, greatest, one_at_least) in
    let most : c.max-depth.result ≤ 4294967295 = omega (arith, so_far.most, greatest) in
    let needs : capped (max c.max-depth.result (records_depth (drop (i + 1) records) + (i + 1))) ≡ capped (records_depth records) =
    omega (arith, so_far.needs, so_far.most, greatest, deep) in
    record {
      emits = λ first. record_left scope its.few records i cells so_far.cells held one next (so_far.held first) (so_far.emits first) its.emits;
      held = λ first. record_held scope its.few records i cells so_far.cells held c.emit_record-address.new.held.items (so_far.held first) its.emits its.held;
      cells = omega (arith, so_far.cells, c.saturating_add-cells.ensures);
      least = least;
      most = most;
      needs = needs;
    }

pub returns-clause-emits : goal.returns-clause-emits
returns-clause-emits c = λ first.
    let i = c.loop-one.one-index in
    left_none (c.loop-one.invariant.emits first)
    (ap (records_code (with_records i c.args.scope.now)) (drop_all i c.args.records.now c.loop-one-test.false))

pub returns-clause-needs : goal.returns-clause-needs
returns-clause-needs c =
    let i = c.loop-one.one-index in
    let none = ap records_depth (drop_all i c.args.records.now c.loop-one-test.false) in
    omega (arith, none, c.loop-one.invariant.needs, c.loop-one.invariant.least, c.loop-one.invariant.most)
