use Rattle.std.proofs.Common.{◌<◌, length, arith}
use Rattle.pcode_assembler.proofs.Bodies.{next_body}
use Rattle.pcode_assembler.proofs.lines.next_above_last.Goals as goal

pub returns : goal.returns
returns c =
    let some : 0 < length c.in_ok-line.more.now = grind (arith, c.if-is_empty.false, c.is_empty.ensures) in
    let next = c.in_ok-line.ensures in
    (next_body c.args.text.now c.in_ok-line.more.now _ (next.0) some, next.1)
