use Rattle.std.proofs.Common.{◌+◌, sym, subst, arith}
use Rattle.pcode_assembler.specs.Reading.{seen_by}
use Rattle.pcode_assembler.specs.Text.{body}
use Rattle.pcode_assembler.proofs.Steps.{SoFar, so_far-next}
use Rattle.pcode_assembler.proofs.assembler.lines_below.Goals as goal

pub loop-line-preserved : goal.loop-line-preserved
loop-line-preserved c =
    let seen = seen_by c.args.labels.now in
    let all = body c.args.below.now in
    let more = body c.in-Some.more.now in
    let next = so_far-next seen all c.loop-line.code c.add.new.code c.loop-line.above c.loop-line.number (body c.loop-line.rest.now)
    c.in-Some.line.now more c.in-Ok.content c.loop-line.invariant.0 c.in-Some.ensures.0
    (sym c.in-Ok.ensures) c.in_ok-add.ensures in (
      subst (λ above. SoFar seen all c.add.new.code above (c.loop-line.number + 1) more) (sym c.below-above.ensures) next,
      omega (arith, c.loop-line.invariant.1, c.in-Some.ensures.1),
    )
