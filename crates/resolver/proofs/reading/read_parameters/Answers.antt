use Rattle.std.proofs.Common.{rules, map, arith}
use Rattle.typed_tree.specs.Kinds.{is_held_read}
use Rattle.typed_tree.specs.Look.{look_read}
use Rattle.typing.specs.Passing.{each}
use Rattle.typing.specs.Expressions.{written_actual}
use Rattle.typing.specs.Statements.{read_parameter}
use Rattle.typing.specs.Outcomes.{IsFault}
use Rattle.resolver.proofs.HeldStatements.{held_more}
use Rattle.resolver.proofs.MadeRows.{row_goes_on, row_stops}
use Rattle.resolver.proofs.reading.read_parameters.Goals as goal

-- the next variable is read
pub loop-next-preserved : goal.loop-next-preserved
loop-next-preserved c = record {
  from =
      row_goes_on written_actual read_parameter look_read c.args.written.now c.args.typer.now c.loop-next.next-index c.next-item.result
      c.loop-next.made.items c.loop-next.typer c.loop-next-test.true c.next-item.is c.loop-next.invariant.from c.in_ok-read_parameter.field-0
      c.push_reserved.new.self.items c.read_parameter.new.typer c.push_reserved.ensures.items c.in_ok-read_parameter.ensures.made;
  held =
      held_more is_held_read c.loop-next.made.items c.in_ok-read_parameter.field-0 c.push_reserved.new.self.items c.push_reserved.ensures.items
      c.loop-next.invariant.held c.in_ok-read_parameter.ensures.held;
  count = omega (arith, c.push_reserved.ensures.len);
  room = omega (arith, c.push_reserved.ensures.capacity);
}

-- it is refused
pub returns-in_err-read_parameter-clause-made : goal.returns-in_err-read_parameter-clause-made
returns-in_err-read_parameter-clause-made c =
    let why = c.in_err-read_parameter.field-0.0 in
    let stops : IsFault (each read_parameter (map written_actual c.args.written.now) c.args.typer.now) why =
    row_stops written_actual read_parameter look_read c.args.written.now c.args.typer.now c.loop-next.next-index c.next-item.result
    c.loop-next.made.items c.loop-next.typer c.loop-next-test.true c.next-item.is c.loop-next.invariant.from why c.in_err-read_parameter.ensures.made in
    search rules
