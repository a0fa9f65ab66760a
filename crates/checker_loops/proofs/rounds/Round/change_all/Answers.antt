use Rattle.std.proofs.Common.{ap, ◌∙◌, ℕ, List}
use Rattle.checker_state.specs.Changes.{all_changed}
use Rattle.checker_trail.specs.Trail.{seen}
use Rattle.checker_trail.proofs.Ways.{moves-as, moves-then}
use Rattle.checker_loops.specs.Loops.{touched}
use Rattle.checker_loops.specs.View.{head_round, loop_of_round}
use Rattle.checker_loops.proofs.Stepped.{changed-over, touched-steps}
use Rattle.checker_loops.proofs.rounds.Round.change_all.Goals as goal

pub returns : goal.returns
returns c =
    let round = c.args.self.now in
    let inside = loop_of_round round in
    let state = seen c.args.state.now in
    moves-as (all_changed (touched (head_round round)))
    (moves-then (moves-then (moves-then c.change_all.ensures c.change_all-2.ensures) c.change_all-3.ensures) c.change_all-4.ensures)
    (ap (λ (own : List ℕ). all_changed inside.aliases (all_changed inside.changes (all_changed inside.controls (all_changed own state))))
    c.own_controls.ensures
    ∙ touched-steps all_changed round.own inside state changed-over)
