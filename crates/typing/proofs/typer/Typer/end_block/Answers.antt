use Rattle.std.proofs.Common.{rules}
use Rattle.typing.specs.Blocks.{block_ends}
use Rattle.typing.specs.Steps.{close_block, with_enclosing}
use Rattle.typing.proofs.typer.Typer.end_block.Goals as goal

pub returns : goal.returns
unfolding block_ends close_block with_enclosing
returns c = search rules
