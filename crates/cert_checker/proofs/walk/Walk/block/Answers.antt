use Rattle.cert_checker.proofs.StepsBlocks.{block-done}
use Rattle.cert_checker.proofs.walk.Walk.block.Goals as goal

pub returns-clause-goes : goal.returns-clause-goes
returns-clause-goes g c =
    block-done c.args.number c.args.block.now c.args.declared.now c.mark-mark.result.length _ c.replace-before.result c.args.self.now
    c.replace-before.ensures.after c.replace-before.ensures.value c.mark-mark.ensures c.block_inside.ensures.goes c.leave-end.ensures.long
    c.leave-end.ensures.back
