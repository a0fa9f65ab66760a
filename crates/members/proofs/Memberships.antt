-- Members of what is made of sets, by bits.
use Rattle.std.proofs.Common.{◌≡◌, ℕ, zero, suc, ◌+◌, ◌-◌, ◌^◌, ◌<◌, ◌≤◌, refl, ap, sym, ◌∙◌, arith, true, false, inl, inr, bit_and, bit_or}
use Rattle.std.specs.Prelude.{◌==◌, ◌&&◌, ◌||◌, ◌↔◌, not, Bool, IsTrue, ℤ, pos, negsuc, int_le, nat_le, nat_lt, min, max}
use Rattle.std.specs.Int.{w128, bit_at, bit_not}
use Rattle.std.specs.Ordering.{int_eq}
use Rattle.std.proofs.lemmas.Bool.{and_from, and_parts, cases_lt, eqb-true, eq-eqb, false≢true}
use Rattle.std.proofs.lemmas.Bool.Decides.{nat_tests}
use Rattle.std.proofs.lemmas.Int.{ints}
use Rattle.std.proofs.lemmas.Nat.{and_le_l, or_lt, pow_pos}
use Rattle.std.proofs.lemmas.Nat.Bits.{bit_at-lt, bit_at_above, bit_at_and, bit_at_not, bit_at_or, bit_at-zero, bit_at_mask_above, bit_at_mask_below}
use Rattle.std.proofs.lemmas.Nat.Bits.{bit_at_mask_inside, same_from_bits}
use lib.Pow.{pow_mono}
use Rattle.members.specs.declared.sets.Operator.{Operator}
use Rattle.members.specs.declared.sets.Operator.TheVariants as operator
use Rattle.members.specs.Laws.{IsSet}
use Rattle.members.specs.Members.{can_be_member, count_below, count_to, has, is_inside, is_within, of_one, of_range, of_two}

-- two bits, and what is made of them
one_of : (x y : ℕ) → x < 2 → y < 2 → (max x y == 1) ≡ ((x == 1) || (y == 1))
one_of zero zero h k = refl
one_of zero (suc zero) h k = refl
one_of (suc zero) zero h k = refl
one_of (suc zero) (suc zero) h k = refl
one_of x (suc (suc y)) h k = absurd (omega (arith, k))
one_of (suc (suc x)) y h k = absurd (omega (arith, h))

both_of : (x y : ℕ) → x < 2 → y < 2 → (min x y == 1) ≡ ((x == 1) && (y == 1))
both_of zero zero h k = refl
both_of zero (suc zero) h k = refl
both_of (suc zero) zero h k = refl
both_of (suc zero) (suc zero) h k = refl
both_of x (suc (suc y)) h k = absurd (omega (arith, k))
both_of (suc (suc x)) y h k = absurd (omega (arith, h))

first_of : (x y : ℕ) → x < 2 → y < 2 → (min x (1 - y) == 1) ≡ ((x == 1) && not (y == 1))
first_of zero zero h k = refl
first_of zero (suc zero) h k = refl
first_of (suc zero) zero h k = refl
first_of (suc zero) (suc zero) h k = refl
first_of x (suc (suc y)) h k = absurd (omega (arith, k))
first_of (suc (suc x)) y h k = absurd (omega (arith, h))

same_of : (x y : ℕ) → x < 2 → y < 2 → (x == 1) ≡ (y == 1) → x ≡ y
same_of zero zero h k e = refl
same_of zero (suc zero) h k e = absurd (false≢true e)
same_of (suc zero) zero h k e = absurd (false≢true (sym e))
same_of (suc zero) (suc zero) h k e = refl
same_of x (suc (suc y)) h k e = absurd (omega (arith, k))
same_of (suc (suc x)) y h k e = absurd (omega (arith, h))

-- what the operators give
pub union_has : (a b : ℕ) (n : ℤ) → has (bit_or a b) n ≡ (has a n || has b n)
union_has a b (pos n) = ap (λ x. x == 1) (bit_at_or a b n) ∙ one_of (bit_at a n) (bit_at b n) (bit_at-lt a n) (bit_at-lt b n)
union_has a b (negsuc n) = refl

pub intersection_has : (a b : ℕ) (n : ℤ) → has (bit_and a b) n ≡ (has a n && has b n)
intersection_has a b (pos n) = ap (λ x. x == 1) (bit_at_and a b n) ∙ both_of (bit_at a n) (bit_at b n) (bit_at-lt a n) (bit_at-lt b n)
intersection_has a b (negsuc n) = refl

none_in : (y : ℕ) → (min 0 y == 1) ≡ false
none_in y = let none : min 0 y ≡ 0 = omega arith in ap (λ n. n == 1) none

none_above : (x y : ℕ) (t : Bool) → x ≡ 0 → (min x y == 1) ≡ ((x == 1) && t)
none_above x y t e = ap (λ n. min n y == 1) e ∙ none_in y ∙ ap (λ n. (n == 1) && t) (sym e)

pub difference_has : (a b : ℕ) (n : ℤ) → IsSet a → IsSet b → has (bit_and a (bit_not w128 b)) n ≡ (has a n && not (has b n))
difference_has a b (pos n) h k =
    ap (λ x. x == 1) (bit_at_and a (bit_not w128 b) n) ∙ elim (cases_lt n 128) [
      | inl below ↦ ap (λ x. min (bit_at a n) x == 1) (bit_at_not w128 b n k below)
          ∙ first_of (bit_at a n) (bit_at b n) (bit_at-lt a n) (bit_at-lt b n)
      | inr above ↦ none_above (bit_at a n) (bit_at (bit_not w128 b) n) (not (bit_at b n == 1)) (bit_at_above a 128 n h above)
    ]
difference_has a b (negsuc n) h k = refl

-- a range
range_bit : (first end m : ℕ) → (bit_at (2 ^ end - 2 ^ first) m == 1) ≡ (nat_le first m && nat_lt m end)
range_bit first end m = elim (cases_lt m first) [
  | inl before ↦ ap (λ x. x == 1) (bit_at_mask_below first end m before) ∙ outside_before first end m before
  | inr from ↦ elim (cases_lt m end) [
    | inl inside ↦ ap (λ x. x == 1) (bit_at_mask_inside first end m from inside) ∙ within first end m from inside
    | inr behind ↦ ap (λ x. x == 1) (bit_at_mask_above first end m behind) ∙ outside_behind first end m behind
  ]
] where
  outside_before : (first end m : ℕ) → m < first → false ≡ (nat_le first m && nat_lt m end)
  outside_before first end m h = grind (arith, nat_tests)

  within : (first end m : ℕ) → first ≤ m → m < end → true ≡ (nat_le first m && nat_lt m end)
  within first end m h k = grind (arith, nat_tests)

  outside_behind : (first end m : ℕ) → end ≤ m → false ≡ (nat_le first m && nat_lt m end)
  outside_behind first end m h = grind (arith, nat_tests)

up_up : (l h m : ℕ) → (nat_le (min l 128) m && nat_lt m (min (h + 1) 128)) ≡ ((nat_le 0 m && nat_le m 127) && (nat_le l m && nat_le m h))
up_up l h m = grind (arith, nat_tests)

down_up : (h m : ℕ) → (nat_le 0 m && nat_lt m (min (h + 1) 128)) ≡ ((nat_le 0 m && nat_le m 127) && nat_le m h)
down_up h m = grind (arith, nat_tests)

up_down : (l m : ℕ) → (nat_le (min l 128) m && nat_lt m 0) ≡ ((nat_le 0 m && nat_le m 127) && (nat_le l m && false))
up_down l m = grind (arith, nat_tests)

down_down : (m : ℕ) → (nat_le 0 m && nat_lt m 0) ≡ ((nat_le 0 m && nat_le m 127) && false)
down_down m = grind (arith, nat_tests)

range_place : (low high : ℤ) (m : ℕ) → (nat_le (count_below low) m && nat_lt m (count_to high))
    ≡ (can_be_member (pos m) && (int_le low (pos m) && int_le (pos m) high))
range_place (pos l) (pos h) m = up_up l h m
range_place (negsuc l) (pos h) m = down_up h m
range_place (pos l) (negsuc h) m = up_down l m
range_place (negsuc l) (negsuc h) m = down_down m

pub range_has : (low high n : ℤ) → has (of_range low high) n ≡ (can_be_member n && (int_le low n && int_le n high))
range_has low high (pos m) = range_bit (count_below low) (count_to high) m ∙ range_place low high m
range_has low high (negsuc m) = refl

-- and one number
both_orders : (a b : ℤ) → (int_le a b && int_le b a) ≡ int_eq b a
both_orders a b = grind (arith, nat_tests, ints)

pub one_has : (one n : ℤ) → has (of_one one) n ≡ (can_be_member n && int_eq n one)
one_has one n = range_has one one n ∙ ap (λ t. can_be_member n && t) (both_orders one n)

-- a member can be one
low_enough : (m : ℕ) → m < 128 → (nat_le 0 m && nat_le m 127) ≡ true
low_enough m h = grind (arith, nat_tests)

pub can_be : (set : ℕ) (n : ℤ) → IsSet set → has set n ≡ true → can_be_member n ≡ true
can_be set (pos m) h e = elim (cases_lt m 128) [
  | inl below ↦ low_enough m below
  | inr above ↦ absurd (omega (arith, bit_at_above set 128 m h above, eqb-true (bit_at set m) 1 e))
]
can_be set (negsuc m) h e = absurd (false≢true e)

-- one set inside another
pub inside_has : (a b : ℕ) → IsTrue (is_inside a b) ↔ ((n : ℤ) → has a n ≡ true → has b n ≡ true)
inside_has a b = (within, back) where
  within : IsTrue (is_inside a b) → (n : ℤ) → has a n ≡ true → has b n ≡ true
  within same (pos m) one =
      let x : bit_at (bit_and a b) m ≡ bit_at a m = ap (λ n. bit_at n m) (eqb-true _ _ same) in
      eq-eqb (bit_at b m) 1 (omega (arith, x, bit_at_and a b m, eqb-true (bit_at a m) 1 one, bit_at-lt b m))
  within same (negsuc m) one = one

  back : ((n : ℤ) → has a n ≡ true → has b n ≡ true) → IsTrue (is_inside a b)
  back each = eq-eqb (bit_and a b) a (same_from_bits (bit_and a b) a (λ bit. elim (cases_lt (bit_at a bit) 1) [
    | inl none ↦ omega (arith, bit_at_and a b bit, none)
    | inr some ↦
        let one : bit_at a bit ≡ 1 = omega (arith, bit_at-lt a bit) in
        let two : bit_at b bit ≡ 1 = eqb-true _ _ (each (pos bit) (eq-eqb (bit_at a bit) 1 one)) in
        omega (arith, bit_at_and a b bit, one, two)
  ]))

-- a set in a range
pub within_has : (set : ℕ) (low high : ℤ) → IsSet set → IsTrue (is_within set low high)
    ↔ ((n : ℤ) → has set n ≡ true → (int_le low n && int_le n high) ≡ true)
within_has set low high h = (
  λ all n one. (and_parts (can_be_member n) _ (sym (range_has low high n) ∙ (inside_has set (of_range low high)).0 all n one)).1,
  λ each. (inside_has set (of_range low high)).1 (λ n one. range_has low high n ∙ and_from (can_be_member n) _ (can_be set n h one) (each n one)),
)

-- sets by their members
pub same_members : (a b : ℕ) → ((n : ℤ) → has a n ≡ has b n) → a ≡ b
same_members a b each = same_from_bits a b (λ bit. same_of (bit_at a bit) (bit_at b bit) (bit_at-lt a bit) (bit_at-lt b bit) (each (pos bit)))

pub empty_has : (n : ℤ) → has 0 n ≡ false
empty_has (pos m) = ap (λ x. x == 1) (bit_at-zero m)
empty_has (negsuc m) = refl

-- what stays a set
pub operators_stay : (operator : Operator) (a b : ℕ) → IsSet a → IsSet b → IsSet (of_two operator a b)
operators_stay operator.Union a b h k = or_lt 128 a b h k
operators_stay operator.Intersection a b h k = omega (arith, and_le_l a b)
operators_stay operator.Difference a b h k = omega (arith, and_le_l a (bit_not w128 b))

few_to : (n : ℤ) → count_to n ≤ 128
few_to (pos n) = omega arith
few_to (negsuc n) = omega arith

pub range_stays : (low high : ℤ) → IsSet (of_range low high)
range_stays low high =
    let bound : 2 ^ count_to high ≤ 2 ^ 128 = pow_mono (few_to high) in
    omega (arith, bound, pow_pos (count_below low))

-- a place that is too far has no member
pub no_place : (set place : ℕ) → IsSet set → 128 ≤ place → (bit_at set place == 1) ≡ false
no_place set place h above = ap (λ x. x == 1) (bit_at_above set 128 place h above)
