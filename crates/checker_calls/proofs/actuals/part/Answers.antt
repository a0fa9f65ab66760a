use Rattle.std.proofs.Common.{◌≡◌, min, rules}
use Rattle.checker_calls.proofs.Spans.{range-cut}
use Rattle.checker_calls.proofs.actuals.part.Goals as goal

pub returns : goal.returns
returns c =
    let to : c.min-end.result ≡ min c.args.end c.args.rows.count = search rules in
    let from : c.min-first.result ≡ min c.args.first c.min-end.result = search rules in
    range-cut c.args.rows.first c.args.rows.count c.args.first c.args.end c.min-first.result c.min-end.result to from
