use Rattle.std.proofs.Common.{rules, map, arith}
use Rattle.typed_tree.specs.Kinds.{is_held_record}
use Rattle.typed_tree.specs.Look.{look_record}
use Rattle.typing.specs.Passing.{each}
use Rattle.typing.specs.Statements.{opened, written_record}
use Rattle.typing.specs.Outcomes.{IsFault}
use Rattle.resolver.proofs.HeldStatements.{held_more}
use Rattle.resolver.proofs.MadeRows.{row_goes_on, row_stops}
use Rattle.resolver.proofs.records.opened_records.Goals as goal

-- the next record is opened
pub loop-next-preserved : goal.loop-next-preserved
loop-next-preserved c = record {
  from =
      row_goes_on written_record opened look_record c.args.written.now c.args.typer.now c.loop-next.next-index c.next-item.result
      c.loop-next.made.items c.loop-next.typer c.loop-next-test.true c.next-item.is c.loop-next.invariant.from c.in_ok-opened.field-0
      c.push_reserved.new.self.items c.opened.new.typer c.push_reserved.ensures.items c.in_ok-opened.ensures.made;
  held =
      held_more is_held_record c.loop-next.made.items c.in_ok-opened.field-0 c.push_reserved.new.self.items c.push_reserved.ensures.items
      c.loop-next.invariant.held c.in_ok-opened.ensures.held;
  count = omega (arith, c.push_reserved.ensures.len);
  room = omega (arith, c.push_reserved.ensures.capacity);
}

-- it is refused
pub returns-in_err-opened-clause-made : goal.returns-in_err-opened-clause-made
returns-in_err-opened-clause-made c =
    let why = c.in_err-opened.field-0.0 in
    let stops : IsFault (each opened (map written_record c.args.written.now) c.args.typer.now) why =
    row_stops written_record opened look_record c.args.written.now c.args.typer.now c.loop-next.next-index c.next-item.result
    c.loop-next.made.items c.loop-next.typer c.loop-next-test.true c.next-item.is c.loop-next.invariant.from why c.in_err-opened.ensures.made in
    search rules
