use Rattle.cert_checker.proofs.Steps.{lifted}
use Rattle.cert_checker.proofs.StepsBlocks.{begun, block-inside}
use Rattle.cert_checker.proofs.walk.Walk.block_inside.Goals as goal

pub returns-clause-goes : goal.returns-clause-goes
returns-clause-goes g c =
    block-inside c.args.number c.args.block.now c.args.declared.now
    (begun c.args.number c.args.declared.now c.args.self.now c.begin.ensures.only c.begin.ensures.long c.begin.ensures.begins)
    c.statement.ensures.goes c.use_result.ensures (lifted c.ask_exit.ensures)
