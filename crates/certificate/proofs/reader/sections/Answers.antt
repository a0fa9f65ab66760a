use Rattle.std.proofs.Common.{◌+◌, sym, subst, arith, map}
use Rattle.text_lines.specs.Lines.{lines}
use Rattle.certificate.specs.Building.{said_above, said_content}
use Rattle.certificate.specs.Contents.{section_of}
use Rattle.certificate.proofs.Reading.{SoFar, so_far-next}
use Rattle.certificate.proofs.reader.sections.Goals as goal

pub loop-line-preserved : goal.loop-line-preserved
loop-line-preserved c =
    let all = lines c.args.below.now in
    let more = lines c.in-Some.more.now in
    let new = map section_of c.add.new.sections.items in
    let said = c.in_ok-content.ensures in
    let next = so_far-next c.args.version all more (map section_of c.loop-line.sections.items) new (said_above c.loop-line.above) c.loop-line.number
    (lines c.loop-line.rest.now) _ (said_content c.in_ok-content.content) c.loop-line.invariant.0 c.in-Some.ensures.0
    said.0 said.1 said.2 c.in_ok-add.ensures in (
      subst (λ above. SoFar c.args.version all new above (c.loop-line.number + 1) more) (sym c.below-above.ensures) next,
      omega (arith, c.loop-line.invariant.1, c.in-Some.ensures.1),
    )
