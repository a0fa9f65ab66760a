use Rattle.std.proofs.Common.{◌≡◌, ◌*◌, ◌+◌, true, min, ◌∙◌, ap, arith}
use Rattle.std.proofs.lemmas.Int.{ints}
use Rattle.text_input.specs.Input.{is_digit}
use Rattle.interpreter_state.specs.Views.{left_in}
use Rattle.interpreter_state.proofs.Inputs.{digits_held}
use Rattle.interpreter_state.proofs.input.Input.digits.Goals as goal

pub loop-byte-preserved : goal.loop-byte-preserved
loop-byte-preserved c =
    let held = c.min-magnitude.ensures in
    let before = c.loop-byte.magnitude in
    let digit : is_digit c.in-Some.byte ≡ true = grind (arith, ints) in
    record {
      held = omega (arith, held);
      reads = c.loop-byte.invariant.reads
          ∙ digits_held c.args.is_negative before c.in-Some.byte c.min-magnitude.result (left_in c.in-Some.rest) (left_in c.loop-byte.left) c.in-Some.ensures
          digit (held ∙ ap (λ n. min (before * 10 + n) 2147483648) c.from.ensures);
    }
