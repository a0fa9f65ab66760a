use Rattle.std.proofs.Common.{rules}
use Rattle.typing.specs.Blocks.{block_begins}
use Rattle.typing.specs.Steps.{enclosing_now, heading_at, open_beside, with_enclosing}
use Rattle.typing.proofs.typer.Typer.begin_block.Goals as goal

pub returns : goal.returns
unfolding block_begins enclosing_now with_enclosing open_beside heading_at
returns c = search rules
