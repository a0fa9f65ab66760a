use Rattle.checker_trail.proofs.ShorterWays.{joins-shorter}
use Rattle.checker_trail.proofs.state.State.join.Goals as goal

pub returns-clause-meets : goal.returns-clause-meets
returns-clause-meets c = λ start end marks way ends.
    joins-shorter (c.come_together.ensures.meets start end marks way ends) (c.shorten.ensures.shortens start marks) c.shorten.ensures.long
