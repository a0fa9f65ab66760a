use Rattle.std.proofs.Common.{arith, ap, get_or, ◌≡◌, ◌∙◌, ◌+◌, ◌-◌, ◌<◌, drop, length, take}
use Rattle.std.proofs.lemmas.List.{length-set}
use Rattle.std.proofs.lemmas.Option.{slice_get-get_or}
use Rattle.stack_machine.specs.declared.cell.Cell.TheVariants.{Undefined}
use Rattle.stack_machine.proofs.Called.{along_more, still_there}
use Rattle.stack_machine.proofs.Used.{read_cell}
use Rattle.stack_machine.proofs.store.Store.take_along.Goals as goal

pub loop-offset-preserved : goal.loop-offset-preserved
loop-offset-preserved c =
    let kept = c.loop-offset.invariant in
    let old = c.args.self.now in
    let now = c.loop-offset.self in
    let offset = c.loop-offset.offset in
    let first = old.used - c.args.results in
    let cell = get_or now.cells (first + offset) Undefined in
    let long : length now.cells ≡ length old.cells = omega (arith, kept.0) in
    let below : now.frame < first = omega (arith, kept.2) in
    let within : first + offset < length old.cells = omega (arith, c.loop-offset-test.true) in
    let read = read_cell now.cells (first + offset) cell (omega (arith, long, within))
    (slice_get-get_or now.cells (first + offset) Undefined (omega (arith, long, within))) in (
      ap length c.copy.ensures ∙ length-set now.cells (now.frame + offset) cell ∙ kept.0,
      kept.1,
      kept.2,
      kept.3,
      kept.4,
      ap (take (now.frame + (offset + 1))) c.copy.ensures
          ∙ along_more old.cells now.cells now.frame first offset cell long below within kept.5 kept.6 read,
      ap (drop (first + (offset + 1))) c.copy.ensures ∙ still_there old.cells now.cells now.frame first offset cell below kept.6,
    )
