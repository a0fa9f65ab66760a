-- Numbers of type integer: what the machine's operations give of them, in 32 bits, is what the program means, and all
-- but a checked result is of type integer again.
use Rattle.code_generator.proofs.Words.{◌≡◌, ℕ, zero, suc, ◌<◌, ◌≤◌, refl, sym, ap, ◌∙◌, subst, arith, Bool, true, false, ℤ, pos, ◌-ℤ◌, int_le, ◌&&◌}
use Rattle.code_generator.proofs.Words.{if◌then◌else◌, w32, and_parts}
use Rattle.std.specs.Prelude.{negsuc, neg_ℤ, ◌+ℤ◌, ◌*ℤ◌, ◌/◌, ◌%◌, ◌-◌, int_div, unsigned_abs}
use Rattle.std.specs.Int.{cast_signed, int_rem_euclid, int_wrapping_add, int_wrapping_sub, int_wrapping_mul, int_wrapping_div, int_wrapping_neg}
use Rattle.std.specs.Int.RustNames.{FitsSigned}
use Rattle.std.proofs.Math.Nat.{div-le_self, mod-lt}
use Rattle.std.proofs.lemmas.Int.{ints, int_wrap_fits, to_z-of_z, to_z_pos, wrapping_add_is, wrapping_sub_is, wrapping_mul_is, wrapping_neg_is}
use Rattle.types.specs.declared.form.OrdinalRange.{OrdinalRange}
use Rattle.meaning.specs.declared.value.Value.TheVariants as value
use Rattle.meaning.specs.Effect.{is_in}
use Rattle.meaning.specs.Integers.{is_integer_number, is_within, magnitude, maxint}
use Rattle.meaning.specs.Integers as meant
use Rattle.stack_machine.specs.Frames.{is_integer}
use Rattle.stack_machine.specs.Frames as frames

-- a number of the type integer
pub record Fits (n : ℤ) : Type 0 where
  pub is : is_integer n ≡ true

-- an absolute value that is small enough
pub fits_by_abs : (n : ℤ) → unsigned_abs n ≤ 2147483647 → Fits n
fits_by_abs (pos n) h = record { is = grind (arith, ints) }
fits_by_abs (negsuc n) h = record { is = grind (arith, ints) }

abs_within : (n : ℤ) → Fits n → unsigned_abs n ≤ 2147483647
abs_within (pos n) h = let e = h.is in grind (arith, ints)
abs_within (negsuc n) h = let e = h.is in grind (arith, ints)

pub fits_signed : (n : ℤ) → Fits n → FitsSigned w32 n
fits_signed n h = let e = h.is in grind (arith, ints)

-- results that are checked
pub sum_is : (a b : ℤ) → Fits a → Fits b → Fits (a +ℤ b) → int_wrapping_add w32 a b ≡ a +ℤ b
sum_is a b f g h = wrapping_add_is w32 a b (fits_signed a f) (fits_signed b g) ∙ int_wrap_fits w32 (a +ℤ b) (fits_signed (a +ℤ b) h)

pub difference_is : (a b : ℤ) → Fits a → Fits b → Fits (a -ℤ b) → int_wrapping_sub w32 a b ≡ a -ℤ b
difference_is a b f g h = wrapping_sub_is w32 a b (fits_signed a f) (fits_signed b g) ∙ int_wrap_fits w32 (a -ℤ b) (fits_signed (a -ℤ b) h)

pub product_is : (a b : ℤ) → Fits a → Fits b → Fits (a *ℤ b) → int_wrapping_mul w32 a b ≡ a *ℤ b
product_is a b f g h = wrapping_mul_is w32 a b (fits_signed a f) (fits_signed b g) ∙ int_wrap_fits w32 (a *ℤ b) (fits_signed (a *ℤ b) h)

-- the negation
pub fits_negated : (n : ℤ) → Fits n → Fits (neg_ℤ n)
fits_negated n h = let e = h.is in record { is = grind (arith, ints) }

pub negated_is : (n : ℤ) → Fits n → int_wrapping_neg w32 n ≡ neg_ℤ n
negated_is n h = wrapping_neg_is w32 n (fits_signed n h) ∙ int_wrap_fits w32 (neg_ℤ n) (fits_signed (neg_ℤ n) (fits_negated n h))

-- the magnitude
magnitude_by_abs : (n : ℤ) → magnitude n ≡ pos (unsigned_abs n)
magnitude_by_abs (pos zero) = refl
magnitude_by_abs (pos (suc n)) = refl
magnitude_by_abs (negsuc n) = refl

pub fits_magnitude : (n : ℤ) → Fits n → Fits (magnitude n)
fits_magnitude n h = subst Fits (sym (magnitude_by_abs n)) (fits_by_abs (pos (unsigned_abs n)) (abs_within n h))

pub magnitude_is : (n : ℤ) → Fits n → cast_signed w32 (unsigned_abs n) ≡ magnitude n
magnitude_is n h =
    let within = abs_within n h in
    to_z_pos w32 (unsigned_abs n) (omega arith) ∙ sym (magnitude_by_abs n)

-- the quotient is no larger than the dividend
abs_negated : (n : ℕ) → unsigned_abs (neg_ℤ (pos n)) ≡ n
abs_negated zero = refl
abs_negated (suc n) = refl

abs_divided : (a b : ℤ) → unsigned_abs (int_div a b) ≤ unsigned_abs a
abs_divided (pos a) (pos b) = div-le_self a b
abs_divided (pos a) (negsuc b) = omega (arith, abs_negated (a / suc b), div-le_self a (suc b))
abs_divided (negsuc a) (pos b) = omega (arith, abs_negated (suc a / b), div-le_self (suc a) b)
abs_divided (negsuc a) (negsuc b) = div-le_self (suc a) (suc b)

pub fits_quotient : (a b : ℤ) → Fits a → Fits (int_div a b)
fits_quotient a b h =
    let within = abs_within a h in
    fits_by_abs (int_div a b) (omega (arith, abs_divided a b))

pub quotient_is : (a b : ℤ) → Fits a → int_wrapping_div w32 a b ≡ int_div a b
quotient_is a b h = to_z-of_z w32 (int_div a b) (fits_signed (int_div a b) (fits_quotient a b h))

-- the remainder is below the divisor
remainder_within : (a : ℤ) (b : ℕ) → 0 < b → b ≤ 2147483647 → Fits (int_rem_euclid a (pos b))
remainder_within (pos a) b h k =
    fits_by_abs (pos (a % b)) (omega (arith, mod-lt a h))
remainder_within (negsuc a) b h k =
    fits_by_abs (pos (b - 1 - a % b)) (omega arith)

pub fits_remainder : (a b : ℤ) → Fits b → int_le (pos 1) b ≡ true → Fits (int_rem_euclid a b)
fits_remainder a (pos b) h positive =
    let within = abs_within (pos b) h in
    remainder_within a b (grind (arith, ints)) within
fits_remainder a (negsuc b) h positive = absurd (grind (arith, ints))

-- the number behind one that isn't behind the last, and the number before one that isn't before the first
pub fits_next : (n last : ℤ) → Fits n → Fits (last +ℤ pos 1) → int_le n last ≡ true → Fits (n +ℤ pos 1)
fits_next n last h k low = let e = h.is in let f = k.is in record { is = grind (arith, ints) }

pub fits_previous : (n first : ℤ) → Fits n → Fits (first -ℤ pos 1) → int_le first n ≡ true → Fits (n -ℤ pos 1)
fits_previous n first h k high = let e = h.is in let f = k.is in record { is = grind (arith, ints) }

-- truth values
pub fits_truth : (b : Bool) → Fits (frames.truth b)
fits_truth true = record { is = refl }
fits_truth false = record { is = refl }

pub same_truth : (b : Bool) → frames.truth b ≡ meant.truth b
same_truth true = refl
same_truth false = refl

both_or_none : (a b : Bool) → (if a then b else false) ≡ (a && b)
both_or_none true b = refl
both_or_none false b = refl

-- both tests of a number are the same
pub same_test : (n : ℤ) → is_integer_number n ≡ is_integer n
same_test n = both_or_none (int_le (neg_ℤ maxint) n) (int_le n maxint)

-- a number of type integer lies in a range as the machine tests it
pub same_range : (range : OrdinalRange) (n : ℤ) → Fits n → is_in range (value.Number n) ≡ (int_le range.first n && int_le n range.last)
same_range range n h =
    ap (λ b. b && is_within range.first range.last n) (same_test n ∙ h.is) ∙ both_or_none (int_le range.first n) (int_le n range.last)

and_true : (b : Bool) → (b && true) ≡ b
and_true true = refl
and_true false = refl

-- and it is positive
pub same_positive : (n : ℤ) → Fits n → (int_le (pos 1) n && int_le n (pos 2147483647)) ≡ int_le (pos 1) n
same_positive n h =
    ap (λ b. int_le (pos 1) n && b) (and_parts _ _ h.is).1 ∙ and_true (int_le (pos 1) n)
