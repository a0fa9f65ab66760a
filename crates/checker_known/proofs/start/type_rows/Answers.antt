use Rattle.std.proofs.Common.{arith}
use Rattle.checker_known.proofs.Types.{types-more}
use Rattle.checker_known.proofs.start.type_rows.Goals as goal

pub loop-row-preserved : goal.loop-row-preserved
loop-row-preserved c =
    types-more c.args.table.now c.loop-row.rows.items c.push.new.self.items c.loop-row.row c.row_limits.result c.loop-row.invariant
    c.in_ok-push.ensures.items c.row_limits.ensures (omega (arith, c.loop-row-test.true, c.count-row-end.ensures))
