use Rattle.std.proofs.Common.{◌+◌, ◌*◌, ◌-◌, arith}
use Rattle.std.proofs.lemmas.List.Sums.{fold_more}
use Rattle.text_lines.proofs.Digits.{value_above, value_of_front}
use Rattle.text_lines.proofs.numerals.value_up_to.Goals as goal

pub returns-then-value-from-clause-read : goal.returns-then-value-from-clause-read
returns-then-value-from-clause-read c =
    let next = fold_more (λ value digit. value * 10 + (digit - 48)) 0 c.args.digits.now c.loop-digit.digit-index 0 (omega arith) in
    let front = value_of_front c.args.digits.now (c.loop-digit.digit-index + 1) in
    value_above c.args.limit c.args.digits.now (omega (arith, c.loop-digit.invariant.1, c.if-value-from.true))
