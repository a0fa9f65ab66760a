use Rattle.std.proofs.Common.{◌≡◌, true}
use Rattle.std.specs.List.{list_all}
use Rattle.checker_state.specs.View.{said_reach}
use Rattle.checker_calls.specs.Actuals.{Reached}
use Rattle.checker_calls.specs.Entry.{is_borne_between}
use Rattle.checker_calls.specs.View.{said_limits}
use Rattle.checker_trail.specs.Trail.{seen}
use Rattle.checker_loops.proofs.Stepped.{rows_to}
use Rattle.checker_calls.proofs.entry.rows_between.Given as goal

-- the rows so far
abbrev pub invariant-loop-row : goal.invariant-loop-row
invariant-loop-row l =
    let between = is_borne_between l.state.table.now (seen l.state) (said_limits l.limits) in
    list_all (λ row. between (Reached row (said_reach l.reach))) (rows_to l.initial.row l.row) ≡ true
