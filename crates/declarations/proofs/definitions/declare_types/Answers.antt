use Rattle.std.proofs.Common.{[]}
use Rattle.typing.specs.Routines.{type_definition}
use Rattle.typing.proofs.Rows.{each_next}
use Rattle.declarations.proofs.Kept.{type_definition_keeps, types_stay}
use Rattle.declarations.proofs.definitions.declare_types.Goals as goal

-- one definition more is passed
pub loop-definition-preserved : goal.loop-definition-preserved
loop-definition-preserved c =
    let definitions = c.args.definitions.now in
    let item = c.definition-item.result in
    let now = c.loop-definition.typer in
    let new = c.declare_type.new.typer in
    let passes = c.in_ok-declare_type.ensures in
    record {
      left =
          each_next type_definition definitions c.args.typer.now c.loop-definition.definition-index item [] [] now new c.loop-definition-test.true
          c.definition-item.is c.loop-definition.invariant.left passes;
      known = types_stay (type_definition item) (type_definition_keeps item) tt [] now new passes definitions c.loop-definition.invariant.known;
    }
