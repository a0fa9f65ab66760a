-- Inputs, with the line end that is supplied behind them, and numbers that are too large.
use Rattle.std.proofs.Common.{◌≡◌, ℕ, ◌≤◌, ◌*◌, ◌+◌, ◌-◌, ◌++◌, List, [], ◌∷◌, Bool, true, false, if◌then◌else◌, min, nat_eq, nat_le, not}
use Rattle.std.proofs.Common.{refl, ap, sym, ◌∙◌, arith}
use Rattle.std.proofs.Math.Nat.{min-eq_left, min-eq_right}
use Rattle.std.proofs.lemmas.Int.{ints}
use Rattle.text_input.specs.declared.InputFault.TheVariants as fault
use Rattle.text_input.specs.Input.{Reads, Fails, completed, digits, is_digit, number, signed}

-- a line end is supplied behind the last byte, unless that is one
supplied_behind : (last : ℕ) (is_end : Bool) →
    last ∷ (if not is_end then 10 ∷ [] else []) ≡ (if is_end then last ∷ [] else last ∷ 10 ∷ [])
supplied_behind last true = refl
supplied_behind last false = refl

supplied : (bytes : List ℕ) (last : ℕ) → (bytes ++ last ∷ []) ++ (if not (nat_eq last 10) then 10 ∷ [] else []) ≡ completed (bytes ++ last ∷ [])
supplied [] last = supplied_behind last (nat_eq last 10)
supplied (b ∷ []) last = ap (λ l. b ∷ l) (supplied [] last)
supplied (b ∷ c ∷ bytes) last = ap (λ l. b ∷ l) (supplied (c ∷ bytes) last)

pub completed_behind : (all bytes : List ℕ) (last : ℕ) → all ≡ bytes ++ last ∷ [] →
    all ++ (if not (nat_eq last 10) then 10 ∷ [] else []) ≡ completed all
completed_behind all bytes last is =
    ap (λ l. l ++ (if not (nat_eq last 10) then 10 ∷ [] else [])) is ∙ supplied bytes last ∙ ap completed (sym is)

-- numbers that are too large are alike, also where more is read of them
too_large : (is_negative : Bool) (n : ℕ) (rest : List ℕ) → 2147483648 ≤ n → number is_negative n rest ≡ Fails fault.NumberTooLarge
too_large is_negative n rest large =
    let so : nat_le n 2147483647 ≡ false = grind (arith, ints) in
    ap (λ b. if b then Reads (signed is_negative n) rest else Fails fault.NumberTooLarge) so

either : {A : Type 0} (more : Bool) (a b c d : A) → a ≡ b → c ≡ d → (if more then a else c) ≡ (if more then b else d)
either true a b c d is are = is
either false a b c d is are = are

digits_alike : (is_negative : Bool) (a b : ℕ) (bytes : List ℕ) → 2147483648 ≤ a → 2147483648 ≤ b → digits is_negative a bytes ≡ digits is_negative b bytes
digits_alike is_negative a b [] one other = refl
digits_alike is_negative a b (byte ∷ bytes) one other =
    either (is_digit byte) _ _ _ _
    (digits_alike is_negative (a * 10 + (byte - 48)) (b * 10 + (byte - 48)) bytes (omega (arith, one)) (omega (arith, other)))
    (too_large is_negative a (byte ∷ bytes) one ∙ sym (too_large is_negative b (byte ∷ bytes) other))

held_alike : (is_negative : Bool) (n held : ℕ) (bytes : List ℕ) (is_small : Bool) → nat_le n 2147483648 ≡ is_small → held ≡ min n 2147483648 →
    digits is_negative n bytes ≡ digits is_negative held bytes
held_alike is_negative n held bytes true small is =
    let less : n ≤ 2147483648 = grind (arith, ints) in
    ap (λ m. digits is_negative m bytes) (sym (is ∙ min-eq_left less))
held_alike is_negative n held bytes false large is =
    let more : 2147483648 ≤ n = grind (arith, ints) in
    let same : held ≡ 2147483648 = is ∙ min-eq_right more in
    digits_alike is_negative n held bytes more (omega (arith, same))

-- a digit more, of a number that is held where it is too large
pub digits_held : (is_negative : Bool) (n byte held : ℕ) (bytes all : List ℕ) → all ≡ byte ∷ bytes → is_digit byte ≡ true →
    held ≡ min (n * 10 + (byte - 48)) 2147483648 → digits is_negative n all ≡ digits is_negative held bytes
digits_held is_negative n byte held bytes all is digit held_is =
    let more = n * 10 + (byte - 48) in
    ap (digits is_negative n) is
    ∙ ap (λ b. if b then digits is_negative more bytes else number is_negative n (byte ∷ bytes)) digit
    ∙ held_alike is_negative more held bytes (nat_le more 2147483648) refl held_is
