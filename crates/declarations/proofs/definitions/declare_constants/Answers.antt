use Rattle.std.proofs.Common.{[]}
use Rattle.std.proofs.lemmas.List.{get_or_default}
use Rattle.typing.specs.Routines.{definition}
use Rattle.typing.proofs.Rows.{each_next}
use Rattle.declarations.proofs.Kept.{definition_keeps, definitions_stay}
use Rattle.declarations.proofs.definitions.declare_constants.Goals as goal

-- one definition more is passed
pub loop-definition-preserved : goal.loop-definition-preserved
loop-definition-preserved c =
    let definitions = c.args.definitions.now in
    let i = c.loop-definition.definition-index in
    let now = c.loop-definition.typer in
    let new = c.declare_constant.new.typer in
    let passes = c.in_ok-declare_constant.ensures in
    record {
      left =
          each_next definition definitions c.args.typer.now i _ [] [] now new c.loop-definition-test.true
          (get_or_default definitions i _ _ c.loop-definition-test.true)
          c.loop-definition.invariant.left passes;
      known = definitions_stay _ (definition_keeps _) _ [] now new passes definitions c.loop-definition.invariant.known;
    }
