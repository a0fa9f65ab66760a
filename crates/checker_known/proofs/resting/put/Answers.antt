use Rattle.checker_known.proofs.Listed.{puts-pushed}
use Rattle.checker_known.proofs.resting.put.Goals as goal

pub returns-in_default : goal.returns-in_default
returns-in_default c = puts-pushed c.args.held.now c.args.list.now.items c.push.new.self.items c.push.result c.push.ensures.items
