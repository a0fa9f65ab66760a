use Rattle.checker_expressions.proofs.RowUses.{defined-begun, defined-cut, defined-past}
use Rattle.checker_expressions.proofs.uses.define_all.Goals as goal

pub loop-row-init : goal.loop-row-init
loop-row-init c = λ new moves. defined-begun c.args.span c.end-row-end.result c.end-row-end.ensures moves

pub loop-row-preserved : goal.loop-row-preserved
loop-row-preserved c = λ new moves.
    c.loop-row.invariant new (defined-cut c.loop-row.row c.end-row-end.result c.loop-row-test.true c.define.ensures moves)

pub returns : goal.returns
returns c =
    c.loop-row.invariant c.loop-row.state (defined-past c.loop-row.row c.end-row-end.result c.loop-row.state c.loop-row-test.false)
