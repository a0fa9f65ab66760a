use Rattle.std.proofs.Common.{◌≡◌, ◌+◌, ◌-◌, ℕ, vec_len}
use Rattle.checker_loops.specs.View.{partners_at}
use Rattle.checker_loops.proofs.pairs.widen.Given as goal

-- the rows that are there hold what they held
abbrev pub invariant-loop-alloc : goal.invariant-loop-alloc
invariant-loop-alloc l = (root : ℕ) → partners_at l.rows.items root ≡ partners_at l.fn.rows.items root

abbrev pub decreases-loop-alloc : goal.decreases-loop-alloc
decreases-loop-alloc l = l.number + 1 - vec_len l.rows
