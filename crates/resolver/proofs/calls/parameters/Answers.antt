use Rattle.std.proofs.Common.{rules, map, arith}
use Rattle.typed_tree.specs.Kinds.{is_held_parameter}
use Rattle.typed_tree.specs.Look.{look_parameter}
use Rattle.typing.specs.Passing.{each}
use Rattle.typing.specs.Expressions.{written_actual}
use Rattle.typing.specs.Statements.{parameter}
use Rattle.typing.specs.Outcomes.{IsFault}
use Rattle.resolver.proofs.HeldStatements.{held_more}
use Rattle.resolver.proofs.MadeRows.{row_goes_on, row_stops}
use Rattle.resolver.proofs.calls.parameters.Goals as goal

-- the next value is made
pub loop-value-preserved : goal.loop-value-preserved
loop-value-preserved c = record {
  from =
      row_goes_on written_actual parameter look_parameter c.args.values.now c.args.typer.now c.loop-value.value-index c.value-item.result
      c.loop-value.parameters.items c.loop-value.typer c.loop-value-test.true c.value-item.is c.loop-value.invariant.from c.in_ok-parameter.field-0
      c.push_reserved.new.self.items c.parameter.new.typer c.push_reserved.ensures.items c.in_ok-parameter.ensures.made;
  held =
      held_more is_held_parameter c.loop-value.parameters.items c.in_ok-parameter.field-0 c.push_reserved.new.self.items c.push_reserved.ensures.items
      c.loop-value.invariant.held c.in_ok-parameter.ensures.held;
  count = omega (arith, c.push_reserved.ensures.len);
  room = omega (arith, c.push_reserved.ensures.capacity);
}

-- it is refused
pub returns-in_err-parameter-clause-made : goal.returns-in_err-parameter-clause-made
returns-in_err-parameter-clause-made c =
    let why = c.in_err-parameter.field-0.0 in
    let stops : IsFault (each parameter (map written_actual c.args.values.now) c.args.typer.now) why =
    row_stops written_actual parameter look_parameter c.args.values.now c.args.typer.now c.loop-value.value-index c.value-item.result
    c.loop-value.parameters.items c.loop-value.typer c.loop-value-test.true c.value-item.is c.loop-value.invariant.from why c.in_err-parameter.ensures.made in
    search rules
