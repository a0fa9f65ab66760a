use Rattle.std.proofs.Common.{[]}
use Rattle.std.proofs.lemmas.List.{get_or_default}
use Rattle.typing.specs.Routines.{local}
use Rattle.typing.proofs.Rows.{each_next}
use Rattle.declarations.proofs.Kept.{local_keeps, names_stay}
use Rattle.declarations.proofs.definitions.declare_variables.Goals as goal

-- one variable more is passed
pub loop-name-preserved : goal.loop-name-preserved
loop-name-preserved c =
    let names = c.args.names.now in
    let i = c.loop-name.name-index in
    let now = c.loop-name.typer in
    let new = c.local.new.self in
    let passes = c.in_ok-local.ensures in
    record {
      left =
          each_next (local c.args.type_id) names c.args.typer.now i _ [] [] now new c.loop-name-test.true (get_or_default names i _ _ c.loop-name-test.true)
          c.loop-name.invariant.left passes;
      known = names_stay _ (local_keeps c.args.type_id _) _ [] now new passes names c.loop-name.invariant.known;
    }
