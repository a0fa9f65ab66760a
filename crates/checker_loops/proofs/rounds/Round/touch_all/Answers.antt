use Rattle.std.proofs.Common.{ap, ◌∙◌, ℕ, List}
use Rattle.checker_rows.specs.Limits.{row_limits}
use Rattle.checker_rows.specs.Rows.{rows_of, rows_touched}
use Rattle.checker_state.specs.Loops.{with_limits}
use Rattle.checker_state.specs.State.{State}
use Rattle.checker_trail.specs.Trail.{seen}
use Rattle.checker_trail.proofs.Ways.{moves-as, moves-then}
use Rattle.checker_loops.specs.Loops.{touched}
use Rattle.checker_loops.specs.View.{head_round, loop_of_round}
use Rattle.checker_loops.proofs.Stepped.{rows-over, touched-steps}
use Rattle.checker_loops.proofs.rounds.Round.touch_all.Goals as goal

pub returns : goal.returns
returns c =
    let tree = c.args.rows.now in
    let limits = row_limits (rows_of tree) in
    let round = c.args.self.now in
    let inside = loop_of_round round in
    let state = seen c.args.state.now in
    let steps : List ℕ → State → State = λ roots. with_limits limits (rows_touched tree roots) in
    moves-as (steps (touched (head_round round)))
    (moves-then (moves-then (moves-then c.touch_roots.ensures c.touch_roots-2.ensures) c.touch_roots-3.ensures) c.touch_roots-4.ensures)
    (ap (λ (own : List ℕ). steps inside.aliases (steps inside.changes (steps inside.controls (steps own state)))) c.own_controls.ensures
    ∙ touched-steps steps round.own inside state (rows-over limits tree))
