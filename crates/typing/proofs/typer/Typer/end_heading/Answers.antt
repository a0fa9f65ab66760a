use Rattle.std.proofs.Common.{arith}
use Rattle.std.proofs.lemmas.Grind.{common_steps}
use Rattle.typing.specs.Blocks.{heading_ends}
use Rattle.typing.specs.Steps.{add_heading, close_block, enclosing_now, with_enclosing}
use Rattle.typing.proofs.typer.Typer.end_heading.Goals as goal

pub returns : goal.returns
unfolding heading_ends close_block enclosing_now with_enclosing add_heading
returns c = grind (arith, common_steps)
