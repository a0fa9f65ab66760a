use Rattle.std.proofs.Common.{rules}
use Rattle.typing.specs.Routines.{told_waiting}
use Rattle.typing.specs.Steps.{enclosing_now, with_enclosing}
use Rattle.typing.proofs.typer.Typer.told_waiting.Goals as goal

pub returns : goal.returns
unfolding told_waiting enclosing_now with_enclosing
returns c = search rules
