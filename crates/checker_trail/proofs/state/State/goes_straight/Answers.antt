use Rattle.checker_trail.proofs.ShorterWays.{went}
use Rattle.checker_trail.proofs.state.State.goes_straight.Goals as goal

pub returns-clause-goes : goal.returns-clause-goes
returns-clause-goes c = went c.set_rows.ensures c.retain.ensures c.hold_all.ensures
