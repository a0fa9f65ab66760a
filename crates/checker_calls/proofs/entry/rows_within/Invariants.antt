use Rattle.std.proofs.Common.{◌≡◌, true}
use Rattle.std.specs.List.{list_all}
use Rattle.domain.specs.Interval.{is_included}
use Rattle.checker_state.specs.State.{range_of}
use Rattle.checker_trail.specs.Trail.{seen}
use Rattle.checker_loops.proofs.Stepped.{rows_to}
use Rattle.checker_calls.proofs.entry.rows_within.Given as goal

-- the rows so far
abbrev pub invariant-loop-row : goal.invariant-loop-row
invariant-loop-row l = list_all (λ row. is_included (range_of (seen l.state) row) l.range) (rows_to l.initial.row l.row) ≡ true
