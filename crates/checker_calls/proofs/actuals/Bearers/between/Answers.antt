use Rattle.std.proofs.Common.{◌≡◌, length, min, rules}
use Rattle.checker_calls.proofs.Spans.{passed-cut, reached-cut}
use Rattle.checker_calls.proofs.actuals.Bearers.between.Goals as goal

pub returns-in-Passed : goal.returns-in-Passed
returns-in-Passed c =
    let ranges = c.in-Passed.ranges in
    let to : c.min-end.result ≡ min c.args.end (length ranges.now) = search rules in
    let from : c.min.result ≡ min c.args.first c.min-end.result = search rules in
    passed-cut c.args.self.now ranges c.args.first c.args.end c.min.result c.min-end.result c.in-Passed.is to from

pub returns-in-Reached : goal.returns-in-Reached
returns-in-Reached c =
    reached-cut c.args.self.now c.in-Reached.rows c.part.result _ c.args.first c.args.end c.in-Reached.is c.part.ensures
