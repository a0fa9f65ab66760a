use Rattle.std.proofs.Common.{[]}
use Rattle.std.proofs.lemmas.List.{get_or_default}
use Rattle.typing.specs.Typing.{parameter_of_program}
use Rattle.typing.proofs.Rows.{each_next}
use Rattle.declarations.proofs.Kept.{parameter_keeps, names_stay}
use Rattle.declarations.proofs.parameters.declare_parameters.Goals as goal

-- one parameter more is passed
pub loop-name-preserved : goal.loop-name-preserved
loop-name-preserved c =
    let names = c.args.names.now in
    let i = c.loop-name.name-index in
    let now = c.loop-name.typer in
    let new = c.declare_parameter.new.typer in
    let passes = c.in_ok-declare_parameter.ensures in
    record {
      left =
          each_next parameter_of_program names c.args.typer.now i _ [] [] now new c.loop-name-test.true (get_or_default names i _ _ c.loop-name-test.true)
          c.loop-name.invariant.left passes;
      known = names_stay _ (parameter_keeps _) _ [] now new passes names c.loop-name.invariant.known;
    }
