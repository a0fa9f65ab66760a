use Rattle.std.proofs.Common.{true, false, sym, ◌∙◌, take, drop}
use Rattle.lexer.proofs.Digits.{all_digits}
use Rattle.lexer.proofs.Runs.{digits_at}
use Rattle.lexer.proofs.Numbers.{number_large, number_touches, number_taken, letter_behind, nothing_behind}
use Rattle.lexer.proofs.piece.number.Goals as goal
use Rattle.lexer.proofs.piece.number.Goals.{else-length-text-via-then-length-text+else-is_ascii_alphabetic, else-length-text-via-else-length-text}

pub value_of-requires : goal.value_of-requires
value_of-requires c = all_digits c.args.text.now _ c.digits_length-length.ensures

pub returns-in_default : goal.returns-in_default
returns-in_default c =
    let text = c.args.text.now in
    let n = c.digits_length-length.result in
    sym (digits_at text n c.requires c.digits_length-length.ensures ∙ number_large n (take n text) (drop n text) c.in_default.ensures)

pub returns-then-is_ascii_alphabetic : goal.returns-then-is_ascii_alphabetic
returns-then-is_ascii_alphabetic c =
    let text = c.args.text.now in
    let n = c.digits_length-length.result in
    sym (digits_at text n c.requires c.digits_length-length.ensures
    ∙ number_touches n (take n text) (drop n text) c.in-Some.value c.in-Some.ensures.0 c.in-Some.ensures.1
    (letter_behind text n true c.if-length-text.true (sym c.if-is_ascii_alphabetic.ensures.value)))

pub returns : goal.returns
returns c =
    let text = c.args.text.now in
    let n = c.digits_length-length.result in
    let at = digits_at text n c.requires c.digits_length-length.ensures in
    elim c.else-length-text.branch [
      | else-length-text-via-then-length-text+else-is_ascii_alphabetic w ↦
          sym (at ∙ number_taken n (take n text) (drop n text) c.in-Some.value c.in-Some.ensures.0 c.in-Some.ensures.1
          (letter_behind text n false w.if-length-text.true (sym w.if-is_ascii_alphabetic.ensures.value)))
      | else-length-text-via-else-length-text w ↦
          sym (at ∙ number_taken n (take n text) (drop n text) c.in-Some.value c.in-Some.ensures.0 c.in-Some.ensures.1
          (nothing_behind text n w.if-length-text.false))
    ]
