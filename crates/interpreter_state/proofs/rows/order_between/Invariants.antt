use Rattle.std.proofs.Common.{◌≡◌, drop, map}
use Rattle.meaning.specs.Effect.{number_of}
use Rattle.meaning.specs.Meaning.{order_of}
use Rattle.interpreter_state.proofs.rows.order_between.Given as goal

-- no difference was found so far
abbrev pub invariant-loop-place : goal.invariant-loop-place
invariant-loop-place l =
    order_of (map number_of (drop l.place l.row)) (map number_of (drop l.place l.other)) ≡ order_of (map number_of l.row) (map number_of l.other)
