use Rattle.std.proofs.Common.{ap, ◌∙◌, ℕ, List}
use Rattle.checker_state.specs.Loops.{all_forgotten}
use Rattle.checker_trail.specs.Trail.{seen}
use Rattle.checker_trail.proofs.Ways.{moves-as, moves-then}
use Rattle.checker_loops.specs.View.{head_round, loop_of_round}
use Rattle.checker_loops.proofs.Stepped.{own-forgotten}
use Rattle.checker_loops.proofs.rounds.Round.forget_all.Goals as goal

pub returns : goal.returns
returns c =
    let round = c.args.self.now in
    let inside = loop_of_round round in
    let state = seen c.args.state.now in
    moves-as (all_forgotten (head_round round).controls) (moves-then c.forget_all.ensures c.forget_all-2.ensures)
    (ap (λ (own : List ℕ). all_forgotten inside.controls (all_forgotten own state)) c.own_controls.ensures
    ∙ own-forgotten round.own inside state)
