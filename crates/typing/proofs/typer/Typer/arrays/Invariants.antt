use Rattle.std.proofs.Common.{◌≡◌, length}
use Rattle.typing.specs.Denoters.{arrays}
use Rattle.typing.proofs.typer.Typer.arrays.Given as goal

-- what is left
abbrev pub invariant-loop-index : goal.invariant-loop-index
invariant-loop-index l = arrays l.packed l.place l.indexes l.initial.element l.initial.self ≡ arrays l.packed l.place l.left l.element l.self

abbrev pub decreases-loop-index : goal.decreases-loop-index
decreases-loop-index l = length l.left
