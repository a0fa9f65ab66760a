use Rattle.std.proofs.Common.{◌+◌, ◌*◌, ◌-◌, arith}
use Rattle.std.proofs.lemmas.List.Sums.{fold_more}
use Rattle.lexer.proofs.Digits.{value_of_front}
use Rattle.lexer.proofs.piece.value_of.Goals as goal

pub returns-then-value-gt-MAX_NUMBER : goal.returns-then-value-gt-MAX_NUMBER
returns-then-value-gt-MAX_NUMBER c =
    let next = fold_more (λ value digit. value * 10 + (digit - 48)) 0 c.args.digits.now c.loop-digit.digit-index 0 (omega arith) in
    let front = value_of_front c.args.digits.now (c.loop-digit.digit-index + 1) in
    omega (arith, c.loop-digit.invariant.1, c.if-value-gt-MAX_NUMBER.true)
