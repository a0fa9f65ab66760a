use Rattle.checker_rows.specs.View.{numbers}
use Rattle.checker_trail.specs.declared.state.State.{State as Kept}
use Rattle.checker_trail.specs.Trail.{Moves}
use Rattle.checker_expressions.specs.Walk.{all_defined}
use Rattle.checker_expressions.proofs.RowUses.{rows_from}
use Rattle.checker_expressions.proofs.uses.define_all.Given as goal

-- with the rows that are left, all are defined
abbrev pub invariant-loop-row : goal.invariant-loop-row
invariant-loop-row l =
    (new : Kept) → Moves (all_defined (rows_from l.row l.row-end)) l.state new → Moves (all_defined (numbers l.fn.span)) l.fn.state new
