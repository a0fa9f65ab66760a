use Rattle.std.proofs.Common.{arith}
use Rattle.checker_known.proofs.Growing.{row-recounted}
use Rattle.checker_known.proofs.knowledge.Knowledge.set_row.Goals as goal

pub invariant_of-self-clause-growing_counted : goal.invariant_of-self-clause-growing_counted
invariant_of-self-clause-growing_counted c =
    let self = c.args.self.now in
    row-recounted self.rows.items c.args.row c.args.now c.index.result.now self.growing.items c.recount.new.knots.items c.depth.result
    c.depth-then-row-len.result
    (omega (arith, c.if-row-len.true, c.len.ensures)) (omega (arith, c.len.type_inv, c.len.ensures)) c.index.ensures c.depth.ensures
    c.depth-then-row-len.ensures c.recount.ensures self.growing_counted
