use Rattle.checker_known.specs.Knowledge.{core}
use Rattle.checker_trail.proofs.Meeting.{joins-behind}
use Rattle.checker_trail.proofs.state.State.join_behind.Goals as goal

pub returns-clause-meets : goal.returns-clause-meets
returns-clause-meets c = λ start end marks way ends.
    joins-behind end c.leave-here.result c.args.first.now way ends (c.leave-here.ensures.back start marks way) c.go.ensures.comes
    (c.join.ensures.meets start (core c.args.self.now.known) marks) c.go.ensures.long c.join.ensures.long
