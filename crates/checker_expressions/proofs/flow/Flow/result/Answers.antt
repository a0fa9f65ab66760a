use Rattle.checker_expressions.proofs.OfCalls.{result-goes}
use Rattle.checker_expressions.proofs.flow.Flow.result.Goals as goal

pub returns : goal.returns
returns c = result-goes c.args.call c.result_range-range.result c.args.self.now c.unless_empty.ensures c.result_range-range.ensures
