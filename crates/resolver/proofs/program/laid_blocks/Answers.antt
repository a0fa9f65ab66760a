use Rattle.resolver.proofs.Programs.{laid_from}
use Rattle.resolver.proofs.program.laid_blocks.Goals as goal

-- its blocks are laid out
pub returns : goal.returns
returns c =
    laid_from c.args.program.now c.program_blocks.new.typer c.program_blocks.new.made.items c.in_ok-program_blocks.ensures.made c.laid_out.result
    c.laid_out.ensures
