use Rattle.std.proofs.Common.{◌≡◌, map, take}
use Rattle.checker_state.specs.View.{said_held}
use Rattle.checker_trail.proofs.shorter.are_same.Given as goal

abbrev pub invariant-loop-place : goal.invariant-loop-place
invariant-loop-place l = map said_held (take l.place l.held) ≡ map said_held (take l.place l.others)
