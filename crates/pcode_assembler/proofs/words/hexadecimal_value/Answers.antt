use Rattle.std.proofs.Common.{◌+◌, ◌*◌, get_or, arith}
use Rattle.std.proofs.lemmas.List.Sums.{fold_more}
use Rattle.pcode_assembler.specs.Words.{nibble_of}
use Rattle.pcode_assembler.proofs.Numbers.{digit_at, next_fits, next_power, nibble_small}
use Rattle.pcode_assembler.proofs.words.hexadecimal_value.Goals as goal

pub overflow_mul-value : goal.overflow_mul-value
overflow_mul-value c =
    let within = next_fits c.loop-digit.value c.loop-digit.digit-index 0 c.loop-digit.invariant.0 (omega arith)
    (omega (arith, c.requires.count, c.loop-digit-test.true)) in
    record { fits = omega (arith, within) }

pub overflow_add-value : goal.overflow_add-value
overflow_add-value c =
    let low = nibble_small (get_or c.args.digits.now c.loop-digit.digit-index 0)
    (digit_at c.args.digits.now c.loop-digit.digit-index c.requires.digits c.loop-digit-test.true) in
    let within = next_fits c.loop-digit.value c.loop-digit.digit-index c.from.result c.loop-digit.invariant.0
    (omega (arith, low, c.from.ensures, c.nibble_of.ensures)) (omega (arith, c.requires.count, c.loop-digit-test.true)) in
    record { fits = within }

pub loop-digit-preserved : goal.loop-digit-preserved
loop-digit-preserved c =
    let low = nibble_small (get_or c.args.digits.now c.loop-digit.digit-index 0)
    (digit_at c.args.digits.now c.loop-digit.digit-index c.requires.digits c.loop-digit-test.true) in
    let more = fold_more (λ value digit. value * 16 + nibble_of digit) 0 c.args.digits.now c.loop-digit.digit-index 0 c.loop-digit-test.true in (
      next_power c.loop-digit.value c.loop-digit.digit-index c.from.result c.loop-digit.invariant.0
          (omega (arith, low, c.from.ensures, c.nibble_of.ensures)),
      cc,
    )
