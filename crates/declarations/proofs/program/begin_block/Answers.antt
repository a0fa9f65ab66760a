use Rattle.std.proofs.Common.{◌∙◌, ap}
use Rattle.typing.specs.Routines.{typed_block}
use Rattle.declarations.specs.Parts.{texts}
use Rattle.declarations.proofs.Opened.{begun_known}
use Rattle.declarations.proofs.program.begin_block.Goals as goal

-- its region knows the names
pub returns-clause-known : goal.returns-clause-known
returns-clause-known c =
    begun_known (typed_block c.args.block.now).names c.args.number c.deref.result.now c.args.typer.now c.begin_block.result c.begin_block.new.self
    (ap texts c.deref.ensures.value ∙ c.in_ok-names.ensures) c.begin_block.ensures
