use Rattle.std.proofs.Common.{◌∙◌, ap, map, not, List, ℕ}
use Rattle.checker_state.specs.Changes.{all_changed}
use Rattle.checker_state.specs.Knows.{rests_on_any}
use Rattle.checker_state.specs.View.{said_held}
use Rattle.checker_trail.specs.Trail.{all_ungrown, seen}
use Rattle.checker_trail.proofs.Ways.{moves-as, moves-then}
use Rattle.checker_calls.proofs.HeldBehind.{left-out}
use Rattle.checker_calls.proofs.exit.forget.Goals as goal

pub returns-in-Ok : goal.returns-in-Ok
returns-in-Ok c =
    let state = c.args.state.now in
    let roots = c.args.touches.now.touched in
    let still = moves-as (all_ungrown roots) c.stop_growing.ensures (ap (λ (some : List ℕ). all_ungrown some (seen state)) c.touched.ensures) in
    moves-as (all_changed roots) (moves-then still c.retain.ensures)
    (left-out state roots c.deref.result.now
    (c.deref.ensures.value ∙ c.in-Ok.ensures ∙ ap (map (λ one. not (rests_on_any roots (said_held one)))) c.held.ensures))
