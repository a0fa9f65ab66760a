-- Proofs of the laws of ranges, which the `impl` of `Domain` and the methods of `Interval` name. No promise rests on
-- reading them.
use Rattle.std.proofs.Common.{◌≡◌, ◌⊎◌, inl, inr, ⊎_elim, ℤ, pos, negsuc, ◌+ℤ◌, ◌-ℤ◌, ◌*ℤ◌, neg_ℤ, ◌≤ℤ◌, ◌<ℤ◌, int_le}
use Rattle.std.proofs.Common.{int_lt, int_div, Bool, true, false, cond, not, ◌||◌, ◌&&◌, arith, refl, ap, sym, ◌∙◌, ◌↔◌}
use Rattle.std.proofs.Common.{IsTrue, w64, to_z, of_z}
use Rattle.std.proofs.lemmas.Int.{ints, clamps, by_lt_z, to_z-of_z}
use Rattle.std.proofs.lemmas.Bool.{cond_both, false_from_ne_true, false≢true, not-true, not_from_false, and_parts}
use Rattle.std.proofs.lemmas.Bool.{and_from, and_left, and_right, or_parts, or_from, or_left, or_right, or_cases}
use Rattle.std.specs.Int.{int_min, int_max, int_rem_euclid}
use Rattle.std.specs.Ordering.{int_eq}
use Rattle.domain.specs.Interval.{Interval, vacant, IsPlain, IsInner, IsEnd, limit, nearest_end, HasMember, Includes}
use Rattle.domain.specs.Interval.{has_number, is_vacant, is_included, joined, between, common, sum, difference, negated}
use Rattle.domain.specs.Interval.{extent, product, magnitude, size, squared, absolute, without_zero_end, at_least}
use Rattle.domain.specs.Interval.{at_most, quotient, remainder, truth, is_true, always_true, never_true, truths, both}
use Rattle.domain.specs.Interval.{either, complement, held}
use Rattle.domain.specs.Order.{span, span-ascending, span-descending, product-between, product-between_right, square-le}
use Rattle.domain.specs.Order.{quotient-between, quotient-between_positive, quotient-between_negative}
use Rattle.domain.specs.Order.{quotient-le_magnitude, remainder-below, remainder-le}

not-vacant : (first last : ℤ) → first ≤ℤ last → int_lt last first ≡ false
not-vacant first last ordered = grind (arith, ints)

-- an included range has no number of its own
pub included-has : (a b : Interval) (z : ℤ) → is_included a b ≡ true → HasMember a z → HasMember b z
included-has a b z included has = (grind (arith, ints), grind (arith, ints))

-- a range that has no number of its own is included
pub has-included : (a b : Interval) → Includes b a → is_included a b ≡ true
has-included a b has =
    by_lt_z a.last a.first
    (λ below. grind (arith, ints))
    (λ above.
    let first : HasMember b a.first = has a.first (omega (arith, ints), above) in
    let last : HasMember b a.last = has a.last (above, omega (arith, ints)) in
    grind (arith, ints))

pub joined-has_left : (a b : Interval) (z : ℤ) → HasMember a z → HasMember (joined a b) z
joined-has_left a b z has = (grind (arith, ints, clamps), grind (arith, ints, clamps))

pub joined-has_right : (a b : Interval) (z : ℤ) → HasMember b z → HasMember (joined a b) z
joined-has_right a b z has = (grind (arith, ints, clamps), grind (arith, ints, clamps))

pub joined-least : (a b c : Interval) → Includes c a → Includes c b → Includes c (joined a b)
joined-least a b c left right z has =
    by_lt_z a.last a.first
    (λ below. right z (grind (arith, ints), grind (arith, ints)))
    (λ above. by_lt_z b.last b.first
    (λ below. left z (grind (arith, ints), grind (arith, ints)))
    (λ above'.
    let a-first : HasMember c a.first = left a.first (omega (arith, ints), above) in
    let a-last : HasMember c a.last = left a.last (above, omega (arith, ints)) in
    let b-first : HasMember c b.first = right b.first (omega (arith, ints), above') in
    let b-last : HasMember c b.last = right b.last (above', omega (arith, ints)) in
    (grind (arith, ints, clamps), grind (arith, ints, clamps))))

pub common-has : (a b : Interval) (z : ℤ) → HasMember a z → HasMember b z → HasMember (common a b) z
common-has a b z left right = (grind (arith, ints, clamps), grind (arith, ints, clamps))

pub common-has_left : (a b : Interval) (z : ℤ) → HasMember (common a b) z → HasMember a z
common-has_left a b z has = (grind (arith, ints, clamps), grind (arith, ints, clamps))

pub common-has_right : (a b : Interval) (z : ℤ) → HasMember (common a b) z → HasMember b z
common-has_right a b z has = (grind (arith, ints, clamps), grind (arith, ints, clamps))

-- the lesser and the greater of two ends are ends
pub end-min : (x y z : ℤ) → IsEnd x → IsEnd y → z ≡ int_min x y → IsEnd z
end-min x y z left right is = (grind (arith, ints, clamps), grind (arith, ints, clamps))

pub end-max : (x y z : ℤ) → IsEnd x → IsEnd y → z ≡ int_max x y → IsEnd z
end-max x y z left right is = (grind (arith, ints, clamps), grind (arith, ints, clamps))

-- the negatives of a range that has numbers
pub negated-present : (a : Interval) (first last : ℤ)
    → false ≡ is_vacant a → first ≡ neg_ℤ a.last → last ≡ neg_ℤ a.first
    → ◌≡◌ {A = Interval} (record { first = first; last = last }) (negated a)
negated-present a first last present first_is last_is = grind (arith, ints)

-- the range that joins two and two of four numbers is their extent
pub joined-extent : (a b c : Interval) (p q r s : ℤ) → a ≡ span p q → b ≡ span r s → c ≡ joined a b → c ≡ extent p q r s
joined-extent a b c p q r s left right whole =
    whole ∙ ap (λ x. joined x b) left ∙ ap (λ x. joined (span p q) x) right
    ∙ rw (
      not-vacant (int_min p q) (int_max p q) (omega (arith, ints, clamps)),
      not-vacant (int_min r s) (int_max r s) (omega (arith, ints, clamps)),
    )
    refl

neither : (u v : Bool) (x y : Interval) → false ≡ u → false ≡ v → y ≡ cond (u || v) x y
neither true v x y left right = cc
neither false true x y left right = cc
neither false false x y left right = refl

-- where one of two ranges has no number, what is made of both has none
pub left-vacant : (a b r : Interval) → is_vacant a ≡ true → vacant ≡ cond (is_vacant a || is_vacant b) vacant r
left-vacant a b r left = rw left refl

pub right-vacant : (a b r : Interval) → is_vacant a ≡ false → is_vacant b ≡ true
    → vacant ≡ cond (is_vacant a || is_vacant b) vacant r
right-vacant a b r left right = rw (left, right) refl

pub same_ends : (r : Interval) (first last : ℤ) → r.first ≡ first → r.last ≡ last
    → ◌≡◌ {A = Interval} r (record { first = first; last = last })
same_ends r first last first_is last_is =
    ap (λ (z : ℤ). let i : Interval = record { first = z; last = r.last } in i) first_is
    ∙ ap (λ (z : ℤ). let i : Interval = record { first = first; last = z } in i) last_is

-- the sums and the differences of ranges that have numbers
pub sum-present : (a b r : Interval) → false ≡ is_vacant a → false ≡ is_vacant b
    → r.first ≡ nearest_end (a.first +ℤ b.first) → r.last ≡ nearest_end (a.last +ℤ b.last) → r ≡ held (sum a b)
sum-present a b r left right first last =
    same_ends r (nearest_end (a.first +ℤ b.first)) (nearest_end (a.last +ℤ b.last)) first last
    ∙ ap held (neither (is_vacant a) (is_vacant b) vacant
    (record { first = a.first +ℤ b.first; last = a.last +ℤ b.last }) left right)

pub difference-present : (a b r : Interval) → false ≡ is_vacant a → false ≡ is_vacant b
    → r.first ≡ nearest_end (a.first -ℤ b.last) → r.last ≡ nearest_end (a.last -ℤ b.first) → r ≡ held (difference a b)
difference-present a b r left right first last =
    same_ends r (nearest_end (a.first -ℤ b.last)) (nearest_end (a.last -ℤ b.first)) first last
    ∙ ap held (neither (is_vacant a) (is_vacant b) vacant
    (record { first = a.first -ℤ b.last; last = a.last -ℤ b.first }) left right)

-- ---- what the operators make of numbers that lie in ranges

pub sum-has : (a b : Interval) (x y : ℤ) → HasMember a x → HasMember b y → HasMember (sum a b) (x +ℤ y)
sum-has a b x y left right = (grind (arith, ints), grind (arith, ints))

pub difference-has : (a b : Interval) (x y : ℤ) → HasMember a x → HasMember b y → HasMember (difference a b) (x -ℤ y)
difference-has a b x y left right = (grind (arith, ints), grind (arith, ints))

pub negated-has : (a : Interval) (x : ℤ) → HasMember a x → HasMember (negated a) (neg_ℤ x)
negated-has a x has = (grind (arith, ints), grind (arith, ints))

-- a range with a number isn't vacant
pub has-present : (a : Interval) (x : ℤ) → HasMember a x → is_vacant a ≡ false
has-present a x has = grind (arith, ints)

if-present : (a : Interval) (x z : ℤ) (r : Interval) → HasMember a x → HasMember r z
    → HasMember (cond (is_vacant a) vacant r) z
if-present a x z r has inside = rw (has-present a x has) inside

if-both_present : (a b : Interval) (x y z : ℤ) (r : Interval) → HasMember a x → HasMember b y → HasMember r z
    → HasMember (cond (is_vacant a || is_vacant b) vacant r) z
if-both_present a b x y z r left right inside = rw (has-present a x left, has-present b y right) inside

-- a number between two that lie between the first two and the last two of four lies in their extent
extent-has : (p q r s u v z : ℤ) → HasMember (span p q) u → HasMember (span r s) v → HasMember (span u v) z
    → HasMember (extent p q r s) z
extent-has p q r s u v z first last inside = (omega (arith, ints, clamps), omega (arith, ints, clamps))

pub product-has : (a b : Interval) (x y : ℤ) → HasMember a x → HasMember b y → HasMember (product a b) (x *ℤ y)
product-has a b x y left right =
    if-both_present a b x y (x *ℤ y)
    (extent (a.first *ℤ b.first) (a.first *ℤ b.last) (a.last *ℤ b.first) (a.last *ℤ b.last)) left right
    (extent-has (a.first *ℤ b.first) (a.first *ℤ b.last) (a.last *ℤ b.first) (a.last *ℤ b.last)
    (a.first *ℤ y) (a.last *ℤ y) (x *ℤ y)
    (product-between_right b.first y b.last a.first right.0 right.1)
    (product-between_right b.first y b.last a.last right.0 right.1)
    (product-between a.first x a.last y left.0 left.1))

-- no magnitude of a range's number is above its size
pub size-has : (a : Interval) (x : ℤ) → HasMember a x → magnitude x ≤ℤ size a
size-has a x has = omega (arith, ints, clamps)

-- a range that 0 doesn't lie in is above or below it
zero-outside : (a : Interval) → has_number a (pos 0) ≡ false → (pos 0 <ℤ a.first) ⊎ (a.last <ℤ pos 0)
zero-outside a outside =
    by_lt_z (pos 0) a.first inl (λ low. by_lt_z a.last (pos 0) inr (λ high. absurd (grind (arith, ints))))

pub absolute-has : (a : Interval) (x : ℤ) → HasMember a x → HasMember (absolute a) (magnitude x)
absolute-has a x has =
    if-present a x (magnitude x) _ has
    (cond_both (has_number a (pos 0)) (record { first = pos 0; last = size a })
    (record { first = int_min (magnitude a.first) (magnitude a.last); last = size a }) (λ r. HasMember r (magnitude x))
    (λ holds. (omega (arith, ints, clamps), size-has a x has))
    (λ outside. (
      ⊎_elim (λ above. omega (arith, ints, clamps)) (λ below. omega (arith, ints, clamps)) (zero-outside a outside),
      size-has a x has,
    )))

-- an own magnitude is that of the size
size-magnitude : (a : Interval) → magnitude (size a) ≡ size a
size-magnitude a = omega (arith, ints, clamps)

pub squared-has : (a : Interval) (x : ℤ) → HasMember a x → HasMember (squared a) (x *ℤ x)
squared-has a x has =
    if-present a x (x *ℤ x) _ has
    (cond_both (has_number a (pos 0)) (record { first = pos 0; last = size a *ℤ size a })
    (span (a.first *ℤ a.first) (a.last *ℤ a.last)) (λ r. HasMember r (x *ℤ x))
    (λ holds.
    (square-le (pos 0) x (omega (arith, ints, clamps)), square-le x (size a) (rw (size-magnitude a) (size-has a x has)))
    )
    (λ outside. ⊎_elim
    (λ above. span-ascending (a.first *ℤ a.first) (a.last *ℤ a.last) (x *ℤ x)
    (square-le a.first x (omega (arith, ints, clamps))) (square-le x a.last (omega (arith, ints, clamps))))
    (λ below. span-descending (a.first *ℤ a.first) (a.last *ℤ a.last) (x *ℤ x)
    (square-le a.last x (omega (arith, ints, clamps))) (square-le x a.first (omega (arith, ints, clamps))))
    (zero-outside a outside)))

-- no quotient's magnitude is above the dividend's size
pub quotient-within_size : (a : Interval) (x y : ℤ) → HasMember a x
    → HasMember (record { first = neg_ℤ (size a); last = size a }) (int_div x y)
quotient-within_size a x y has =
    let most = size-has a x has in
    let less = quotient-le_magnitude x y in
    (omega (arith, ints, most, less.0), omega (arith, ints, most, less.1))

pub quotient-has : (a b : Interval) (x y : ℤ) → HasMember a x → HasMember b y → is_true y ≡ true
    → HasMember (quotient a b) (int_div x y)
quotient-has a b x y left right present =
    if-both_present a b x y (int_div x y) _ left right
    (cond_both (has_number b (pos 0)) (record { first = neg_ℤ (size a); last = size a })
    (extent (int_div a.first b.first) (int_div a.first b.last) (int_div a.last b.first) (int_div a.last b.last))
    (λ r. HasMember r (int_div x y))
    (λ holds. quotient-within_size a x y left)
    (λ outside. extent-has
    (int_div a.first b.first) (int_div a.first b.last) (int_div a.last b.first) (int_div a.last b.last)
    (int_div a.first y) (int_div a.last y) (int_div x y)
    (by-divisor b y a.first right outside) (by-divisor b y a.last right outside)
    (quotient-between a.first x a.last y left.0 left.1)))
  where
    by-divisor : (b : Interval) (y x : ℤ) → HasMember b y → has_number b (pos 0) ≡ false
        → HasMember (span (int_div x b.first) (int_div x b.last)) (int_div x y)
    by-divisor b y x has outside =
        ⊎_elim
        (λ above. quotient-between_positive b.first y b.last x above has.0 has.1)
        (λ below. quotient-between_negative b.first y b.last x below has.0 has.1)
        (zero-outside b outside)

between-has : (first last z : ℤ) → first ≤ℤ z → z ≤ℤ last → HasMember (between first last) z
between-has first last z low high = (grind (arith, ints), grind (arith, ints))

-- the numbers from a first to a last one are those between them
pub between-members : (first last z : ℤ) → HasMember (between first last) z ↔ ((first ≤ℤ z) × (z ≤ℤ last))
between-members first last z =
    (λ has. (grind (arith, ints), grind (arith, ints)), λ bounds. between-has first last z bounds.0 bounds.1)

-- one number
pub between-same : (n : ℤ) → between n n ≡ record { first = n; last = n }
between-same n = grind (arith, ints)

-- a remainder below the divisor, and at most the last dividend where none is negative
below-greatest : (nonnegative : Bool) (z divisor last : ℤ) → z <ℤ divisor → (nonnegative ≡ true → z ≤ℤ last)
    → z ≤ℤ cond nonnegative (int_min (divisor -ℤ pos 1) last) (divisor -ℤ pos 1)
below-greatest true z divisor last below least = let other = least refl in omega (arith, ints, clamps)
below-greatest false z divisor last below least = omega (arith, ints)

-- no remainder is above the last dividend where no dividend is negative
pub remainder-le_last : (a : Interval) (x y : ℤ) → HasMember a x → pos 0 ≤ℤ a.first → int_rem_euclid x y ≤ℤ a.last
remainder-le_last a x y has first =
    let less = remainder-le x y (omega (arith, ints)) in
    omega (arith, ints)

pub remainder-has : (a b : Interval) (x y : ℤ) → HasMember a x → HasMember b y → int_le (pos 1) y ≡ true
    → HasMember (remainder a b) (int_rem_euclid x y)
remainder-has a b x y left right present =
    let divisor : pos 1 ≤ℤ y = grind (arith, ints) in
    let below = remainder-below x y divisor in
    if-both_present a b x y (int_rem_euclid x y) _ left right
    (between-has (pos 0) (cond (int_le (pos 0) a.first) (int_min (b.last -ℤ pos 1) a.last) (b.last -ℤ pos 1))
    (int_rem_euclid x y) below.0
    (below-greatest (int_le (pos 0) a.first) (int_rem_euclid x y) b.last a.last (omega (arith, ints))
    (λ nonnegative. remainder-le_last a x y left (grind (arith, ints)))))

-- ---- ends and numbers that are 0

zero-is : (z : ℤ) → int_eq z (pos 0) ≡ true → z ≡ pos 0
zero-is z zero =
    by_lt_z z (pos 0)
    (λ below. absurd (grind (arith, ints)))
    (λ low. by_lt_z (pos 0) z (λ above. absurd (grind (arith, ints))) (λ high. omega (arith, ints)))

present-is : (z : ℤ) → is_true z ≡ true → (z <ℤ pos 0) ⊎ (pos 0 <ℤ z)
present-is z present = by_lt_z z (pos 0) inl (λ low. by_lt_z (pos 0) z inr (λ high. absurd (grind (arith, ints))))

first-cut : (first x : ℤ) (zero : Bool)
    → int_eq first (pos 0) ≡ zero → first ≤ℤ x → (x <ℤ pos 0) ⊎ (pos 0 <ℤ x) → cond zero (pos 1) first ≤ℤ x
first-cut first x true is low sides =
    let first-is = zero-is first is in
    ⊎_elim (λ below. omega (arith, ints)) (λ above. omega (arith, ints)) sides
first-cut first x false is low sides = low

last-cut : (last x : ℤ) (zero : Bool)
    → int_eq last (pos 0) ≡ zero → x ≤ℤ last → (x <ℤ pos 0) ⊎ (pos 0 <ℤ x) → x ≤ℤ cond zero (neg_ℤ (pos 1)) last
last-cut last x true is high sides =
    let last-is = zero-is last is in
    ⊎_elim (λ below. omega (arith, ints)) (λ above. omega (arith, ints)) sides
last-cut last x false is high sides = high

pub without_zero_end-has : (a : Interval) (x : ℤ) → HasMember a x → is_true x ≡ true → HasMember (without_zero_end a) x
without_zero_end-has a x has present =
    between-has (cond (int_eq a.first (pos 0)) (pos 1) a.first) (cond (int_eq a.last (pos 0)) (neg_ℤ (pos 1)) a.last) x
    (first-cut a.first x (int_eq a.first (pos 0)) refl has.0 (present-is x present))
    (last-cut a.last x (int_eq a.last (pos 0)) refl has.1 (present-is x present))

pub at_least-has : (n : ℤ) (a : Interval) (x : ℤ) → HasMember a x → n ≤ℤ x → HasMember (at_least n a) x
at_least-has n a x has low = between-has (int_max n a.first) a.last x (omega (arith, ints, clamps)) has.1

pub at_most-has : (n : ℤ) (a : Interval) (x : ℤ) → HasMember a x → x ≤ℤ n → HasMember (at_most n a) x
at_most-has n a x has high = between-has a.first (int_min n a.last) x has.0 (omega (arith, ints, clamps))

-- ---- truth values

truths-has : (first value last : Bool) → (first ≡ true → value ≡ true) → (value ≡ true → last ≡ true)
    → HasMember (truths first last) (truth value)
truths-has true true true low high = (omega (arith, ints), omega (arith, ints))
truths-has first true false low high = let none = high refl in cc
truths-has true false last low high = let none = low refl in cc
truths-has false true true low high = (omega (arith, ints), omega (arith, ints))
truths-has false false true low high = (omega (arith, ints), omega (arith, ints))
truths-has false false false low high = (omega (arith, ints), omega (arith, ints))

true-is : (z : ℤ) → (z <ℤ pos 0) ⊎ (pos 0 <ℤ z) → is_true z ≡ true
true-is z sides = ⊎_elim (λ below. grind (arith, ints)) (λ above. grind (arith, ints)) sides

-- each number of a range that is always true is true
always-true : (a : Interval) (x : ℤ) → HasMember a x → always_true a ≡ true → is_true x ≡ true
always-true a x has always =
    true-is x (⊎_elim (λ above. inr (omega (arith, ints))) (λ below. inl (omega (arith, ints)))
    (zero-outside a (not-true (has_number a (pos 0)) always)))

-- a range with a true number may be true
not-never_true : (a : Interval) (x : ℤ) → HasMember a x → is_true x ≡ true → never_true a ≡ false
not-never_true a x has present =
    false_from_ne_true (never_true a) (λ never.
    let zeros = and_parts (int_eq a.first (pos 0)) (int_eq a.last (pos 0)) never in
    let first-is = zero-is a.first zeros.0 in
    let last-is = zero-is a.last zeros.1 in
    ⊎_elim (λ below. omega (arith, ints)) (λ above. omega (arith, ints)) (present-is x present))

pub both-has : (a b : Interval) (x y : ℤ) → HasMember a x → HasMember b y
    → HasMember (both a b) (truth (is_true x && is_true y))
both-has a b x y left right =
    if-both_present a b x y (truth (is_true x && is_true y))
    (truths (always_true a && always_true b) (not (never_true a || never_true b))) left right
    (truths-has (always_true a && always_true b) (is_true x && is_true y) (not (never_true a || never_true b))
    (λ always.
    let each = and_parts (always_true a) (always_true b) always in
    and_from (is_true x) (is_true y) (always-true a x left each.0) (always-true b y right each.1))
    (λ is.
    let each = and_parts (is_true x) (is_true y) is in
    not_from_false (never_true a || never_true b)
    (or_from (never_true a) (never_true b) (not-never_true a x left each.0) (not-never_true b y right each.1))))

pub either-has : (a b : Interval) (x y : ℤ) → HasMember a x → HasMember b y
    → HasMember (either a b) (truth (is_true x || is_true y))
either-has a b x y left right =
    if-both_present a b x y (truth (is_true x || is_true y))
    (truths (always_true a || always_true b) (not (never_true a && never_true b))) left right
    (truths-has (always_true a || always_true b) (is_true x || is_true y) (not (never_true a && never_true b))
    (λ always. ⊎_elim
    (λ one. or_left (is_true x) (is_true y) (always-true a x left one))
    (λ other. or_right (is_true x) (is_true y) (always-true b y right other))
    (or_cases (always_true a) (always_true b) always))
    (λ is. not_from_false (never_true a && never_true b) (⊎_elim
    (λ one. and_left (never_true a) (never_true b) (not-never_true a x left one))
    (λ other. and_right (never_true a) (never_true b) (not-never_true b y right other))
    (or_cases (is_true x) (is_true y) is))))

pub complement-has : (a : Interval) (x : ℤ) → HasMember a x → HasMember (complement a) (truth (not (is_true x)))
complement-has a x has =
    if-present a x (truth (not (is_true x))) (truths (never_true a) (not (always_true a))) has
    (truths-has (never_true a) (not (is_true x)) (not (always_true a))
    (λ never. not_from_false (is_true x)
    (false_from_ne_true (is_true x) (λ present. false≢true (sym (not-never_true a x has present) ∙ never))))
    (λ is. not_from_false (always_true a)
    (false_from_ne_true (always_true a)
    (λ always. false≢true (sym (not-true (is_true x) is) ∙ always-true a x has always)))))

-- ---- held ends

max-near : (first low : ℤ) → first ≤ℤ limit → neg_ℤ limit <ℤ low → int_max (nearest_end first) low ≡ int_max first low
max-near first low near above = omega (arith, ints, clamps)

min-near : (last high : ℤ) → neg_ℤ limit ≤ℤ last → high <ℤ limit → int_min (nearest_end last) high ≡ int_min last high
min-near last high near below = omega (arith, ints, clamps)

vacant-between : (first last : ℤ) → last <ℤ first → between first last ≡ vacant
vacant-between first last below = grind (arith, ints)

-- the code's tests of the numbers that are cut off
pub at_least-none : (n : ℤ) (a : Interval) → a.last <ℤ n → at_least n a ≡ vacant
at_least-none n a above = vacant-between (int_max n a.first) a.last (omega (arith, ints, clamps))

pub at_most-none : (n : ℤ) (a : Interval) → n <ℤ a.first → at_most n a ≡ vacant
at_most-none n a below = vacant-between a.first (int_min n a.last) (omega (arith, ints, clamps))

-- what a range has in common with the numbers from a first to a last one
pub common-between : (a : Interval) (first last : ℤ)
    → common a (between first last) ≡ common a (record { first = first; last = last })
common-between a first last =
    by_lt_z last first
    (λ below. ap (common a) (vacant-between first last below)
    ∙ vacant-between (int_max a.first (pos 1)) (int_min a.last (pos 0)) (omega (arith, ints, clamps))
    ∙ sym (vacant-between (int_max a.first first) (int_min a.last last) (omega (arith, ints, clamps))))
    (λ above. ap (common a) (grind (arith, ints)))

-- held ends make no difference within limits that are nearer
pub held-common : (a limits : Interval) → IsInner limits → common (held a) limits ≡ common a limits
held-common a limits (low, ordered, high) =
    by_lt_z limit a.first
    (λ above.
    vacant-between (int_max (nearest_end a.first) limits.first) (int_min (nearest_end a.last) limits.last)
    (omega (arith, ints, clamps))
    ∙ sym (vacant-between (int_max a.first limits.first) (int_min a.last limits.last) (omega (arith, ints, clamps))))
    (λ near. by_lt_z a.last (neg_ℤ limit)
    (λ below.
    vacant-between (int_max (nearest_end a.first) limits.first) (int_min (nearest_end a.last) limits.last)
    (omega (arith, ints, clamps))
    ∙ sym (vacant-between (int_max a.first limits.first) (int_min a.last limits.last) (omega (arith, ints, clamps))))
    (λ near'.
    ap (λ x. between x (int_min (nearest_end a.last) limits.last)) (max-near a.first limits.first near low)
    ∙ ap (λ x. between (int_max a.first limits.first) x) (min-near a.last limits.last near' high)))

first-near : (low first : ℤ) → neg_ℤ limit <ℤ low → low ≤ℤ limit → int_le low (nearest_end first) ≡ int_le low first
first-near low first above near =
    by_lt_z first low (λ less. grind (arith, ints, clamps)) (λ more. grind (arith, ints, clamps))

last-near : (high last : ℤ) → neg_ℤ limit ≤ℤ high → high <ℤ limit → int_le (nearest_end last) high ≡ int_le last high
last-near high last near below =
    by_lt_z high last (λ more. grind (arith, ints, clamps)) (λ less. grind (arith, ints, clamps))

nearest-ordered : (first last : ℤ) → first ≤ℤ last → nearest_end first ≤ℤ nearest_end last
nearest-ordered first last ordered = omega (arith, ints, clamps)

pub present-ordered : (a : Interval) → is_vacant a ≡ false → a.first ≤ℤ a.last
present-ordered a present = grind (arith, ints)

pub held-included : (a limits : Interval) → IsPlain a → IsInner limits
    → is_included (held a) limits ≡ is_included a limits
held-included a limits (inl none) inner =
    ap (λ r. is_included (held r) limits) none ∙ sym (ap (λ r. is_included r limits) none)
held-included a limits (inr present) (low, ordered, high) =
    let a-ordered = present-ordered a present in
    ap (λ t. t || (int_le limits.first (nearest_end a.first) && int_le (nearest_end a.last) limits.last))
    (not-vacant (nearest_end a.first) (nearest_end a.last) (nearest-ordered a.first a.last a-ordered) ∙ sym present)
    ∙ ap (λ t. is_vacant a || (t && int_le (nearest_end a.last) limits.last))
    (first-near limits.first a.first low (omega (arith, ints)))
    ∙ ap (λ t. is_vacant a || (int_le limits.first a.first && t))
    (last-near limits.last a.last (omega (arith, ints)) high)

-- the values of integer (6.4.2.2) are such limits
pub integer-inner : IsInner (record { first = neg_ℤ (pos 2147483647); last = pos 2147483647 })
integer-inner = (omega (arith, ints), omega (arith, ints), omega (arith, ints))

if-plain : (test : Bool) (a : Interval) → (test ≡ false → a.first ≤ℤ a.last) → IsPlain (cond test vacant a)
if-plain true a ordered = inl refl
if-plain false a ordered = inr (not-vacant a.first a.last (ordered refl))

pub sum-plain : (a b : Interval) → IsPlain (sum a b)
sum-plain a b =
    if-plain (is_vacant a || is_vacant b) (record { first = a.first +ℤ b.first; last = a.last +ℤ b.last }) (λ present.
    let each = or_parts (is_vacant a) (is_vacant b) present in
    let left = present-ordered a each.0 in
    let right = present-ordered b each.1 in
    omega (arith, ints))

pub difference-plain : (a b : Interval) → IsPlain (difference a b)
difference-plain a b =
    if-plain (is_vacant a || is_vacant b) (record { first = a.first -ℤ b.last; last = a.last -ℤ b.first }) (λ present.
    let each = or_parts (is_vacant a) (is_vacant b) present in
    let left = present-ordered a each.0 in
    let right = present-ordered b each.1 in
    omega (arith, ints))

extent-ordered : (p q r s : ℤ) → int_min (int_min p q) (int_min r s) ≤ℤ int_max (int_max p q) (int_max r s)
extent-ordered p q r s = omega (arith, ints, clamps)

pub product-plain : (a b : Interval) → IsPlain (product a b)
product-plain a b =
    if-plain (is_vacant a || is_vacant b)
    (extent (a.first *ℤ b.first) (a.first *ℤ b.last) (a.last *ℤ b.first) (a.last *ℤ b.last)) (λ present.
    extent-ordered (a.first *ℤ b.first) (a.first *ℤ b.last) (a.last *ℤ b.first) (a.last *ℤ b.last))

pub squared-plain : (a : Interval) → IsPlain (squared a)
squared-plain a =
    if-plain (is_vacant a)
    (cond (has_number a (pos 0)) (record { first = pos 0; last = size a *ℤ size a })
    (span (a.first *ℤ a.first) (a.last *ℤ a.last))) (λ present.
    cond_both (has_number a (pos 0)) (record { first = pos 0; last = size a *ℤ size a })
    (span (a.first *ℤ a.first) (a.last *ℤ a.last)) (λ r. r.first ≤ℤ r.last)
    (λ holds. square-le (pos 0) (size a) (omega (arith, ints, clamps)))
    (λ outside. omega (arith, ints, clamps)))

-- ---- the code's ends

nearest-min : (x y : ℤ) → nearest_end (int_min x y) ≡ int_min (nearest_end x) (nearest_end y)
nearest-min x y = omega (arith, ints, clamps)

nearest-max : (x y : ℤ) → nearest_end (int_max x y) ≡ int_max (nearest_end x) (nearest_end y)
nearest-max x y = omega (arith, ints, clamps)

held-span : (x y : ℤ) → span (nearest_end x) (nearest_end y) ≡ held (span x y)
held-span x y = rw (nearest-min x y, nearest-max x y) refl

held-extent : (x y z u : ℤ)
    → extent (nearest_end x) (nearest_end y) (nearest_end z) (nearest_end u) ≡ held (extent x y z u)
held-extent x y z u =
    rw (
      nearest-min (int_min x y) (int_min z u),
      nearest-min x y,
      nearest-min z u,
      nearest-max (int_max x y) (int_max z u),
      nearest-max x y,
      nearest-max z u,
    )
    refl

same_extent : (p q r s p' q' r' s' : ℤ) → p ≡ p' → q ≡ q' → r ≡ r' → s ≡ s' → extent p q r s ≡ extent p' q' r' s'
same_extent p q r s p' q' r' s' p-is q-is r-is s-is = λ i. extent (p-is i) (q-is i) (r-is i) (s-is i)

pub product-present : (a b c : Interval) (p q r s : ℤ) → is_vacant a ≡ false → is_vacant b ≡ false → c ≡ extent p q r s
    → p ≡ nearest_end (a.first *ℤ b.first) → q ≡ nearest_end (a.first *ℤ b.last)
    → r ≡ nearest_end (a.last *ℤ b.first) → s ≡ nearest_end (a.last *ℤ b.last)
    → c ≡ held (product a b)
product-present a b c p q r s left right whole p-is q-is r-is s-is =
    whole
    ∙ same_extent p q r s
    (nearest_end (a.first *ℤ b.first)) (nearest_end (a.first *ℤ b.last))
    (nearest_end (a.last *ℤ b.first)) (nearest_end (a.last *ℤ b.last)) p-is q-is r-is s-is
    ∙ held-extent (a.first *ℤ b.first) (a.first *ℤ b.last) (a.last *ℤ b.first) (a.last *ℤ b.last)
    ∙ ap held (neither (is_vacant a) (is_vacant b) vacant
    (extent (a.first *ℤ b.first) (a.first *ℤ b.last) (a.last *ℤ b.first) (a.last *ℤ b.last)) (sym left) (sym right))

pub quotient-present : (a b c : Interval) (p q r s : ℤ)
    → is_vacant a ≡ false → is_vacant b ≡ false → has_number b (pos 0) ≡ false → c ≡ extent p q r s
    → p ≡ int_div a.first b.first → q ≡ int_div a.first b.last → r ≡ int_div a.last b.first → s ≡ int_div a.last b.last
    → c ≡ quotient a b
quotient-present a b c p q r s left right outside whole p-is q-is r-is s-is =
    whole
    ∙ same_extent p q r s
    (int_div a.first b.first) (int_div a.first b.last) (int_div a.last b.first) (int_div a.last b.last)
    p-is q-is r-is s-is
    ∙ rw (left, right, outside) refl

pub quotient-by_zero : (a b : Interval) (first last : ℤ)
    → is_vacant a ≡ false → is_vacant b ≡ false → has_number b (pos 0) ≡ true
    → first ≡ neg_ℤ (size a) → last ≡ size a
    → ◌≡◌ {A = Interval} (record { first = first; last = last }) (quotient a b)
quotient-by_zero a b first last left right holds first-is last-is =
    same_ends (record { first = first; last = last }) (neg_ℤ (size a)) (size a) first-is last-is
    ∙ rw (left, right, holds) refl

pub squared-present : (a c : Interval) (p q : ℤ) → is_vacant a ≡ false → has_number a (pos 0) ≡ false → c ≡ span p q
    → p ≡ nearest_end (a.first *ℤ a.first) → q ≡ nearest_end (a.last *ℤ a.last) → c ≡ held (squared a)
squared-present a c p q present outside whole p-is q-is =
    whole ∙ ap (λ x. span x q) p-is ∙ ap (λ x. span (nearest_end (a.first *ℤ a.first)) x) q-is
    ∙ held-span (a.first *ℤ a.first) (a.last *ℤ a.last) ∙ rw (present, outside) refl

pub squared-with_zero : (a c : Interval) (last : ℤ)
    → is_vacant a ≡ false → has_number a (pos 0) ≡ true → c ≡ span (pos 0) last
    → last ≡ nearest_end (size a *ℤ size a) → c ≡ held (squared a)
squared-with_zero a c last present holds whole last-is =
    let square = square-le (pos 0) (size a) (omega (arith, ints, clamps)) in
    let above : pos 0 ≤ℤ nearest_end (size a *ℤ size a) = omega (arith, ints, clamps) in
    whole ∙ ap (λ x. span (pos 0) x) last-is
    ∙ same_ends (span (pos 0) (nearest_end (size a *ℤ size a))) (pos 0) (nearest_end (size a *ℤ size a))
    (omega (arith, ints, clamps)) (omega (arith, ints, clamps))
    ∙ rw (present, holds) refl

-- a held range has those of the numbers that are ends
pub held-has : (a : Interval) (z : ℤ) → IsEnd z → HasMember a z → HasMember (held a) z
held-has a z (low, high) has = (omega (arith, ints, clamps), omega (arith, ints, clamps))

-- neither end of a range that 0 doesn't lie in is 0
pub ends-true : (a : Interval) → is_vacant a ≡ false → has_number a (pos 0) ≡ false
    → (is_true a.first ≡ true) × (is_true a.last ≡ true)
ends-true a present outside =
    let ordered = present-ordered a present in
    ⊎_elim
    (λ above. (true-is a.first (inr above), true-is a.last (inr (omega (arith, ints)))))
    (λ below. (true-is a.first (inl (omega (arith, ints))), true-is a.last (inl below)))
    (zero-outside a outside)

-- ---- what the code's tests and ends say

-- an end is read as it was written
pub as_is : (z : ℤ) → IsEnd z → to_z w64 (of_z w64 z) ≡ z
as_is (pos n) (low, high) = to_z-of_z w64 (pos n) (record { sfits = omega (arith, ints) })
as_is (negsuc n) (low, high) = to_z-of_z w64 (negsuc n) (record { sfits = omega (arith, ints) })

pub less_one : (z : ℤ) → IsEnd z → pos 1 ≤ℤ z → to_z w64 (of_z w64 (to_z w64 (of_z w64 z) -ℤ pos 1)) ≡ z -ℤ pos 1
less_one z fits least =
    ap (λ x. to_z w64 (of_z w64 (x -ℤ pos 1))) (as_is z fits)
    ∙ as_is (z -ℤ pos 1) (omega (arith, ints), omega (arith, ints))

pub same_le : (x y x' y' : ℤ) → x ≡ x' → y ≡ y' → int_le x y ≡ int_le x' y'
same_le x y x' y' x-is y-is = λ i. int_le (x-is i) (y-is i)

pub same_lt : (x y x' y' : ℤ) → x ≡ x' → y ≡ y' → int_lt x y ≡ int_lt x' y'
same_lt x y x' y' x-is y-is = λ i. int_lt (x-is i) (y-is i)

pub same_min : (x y x' y' : ℤ) → x ≡ x' → y ≡ y' → int_min x y ≡ int_min x' y'
same_min x y x' y' x-is y-is = λ i. int_min (x-is i) (y-is i)

pub same_max : (x y x' y' : ℤ) → x ≡ x' → y ≡ y' → int_max x y ≡ int_max x' y'
same_max x y x' y' x-is y-is = λ i. int_max (x-is i) (y-is i)

pub same_product : (x y x' y' : ℤ) → x ≡ x' → y ≡ y' → nearest_end (x *ℤ y) ≡ nearest_end (x' *ℤ y')
same_product x y x' y' x-is y-is = λ i. nearest_end (x-is i *ℤ y-is i)

pub same_span : (p q p' q' : ℤ) → p ≡ p' → q ≡ q' → span p q ≡ span p' q'
same_span p q p' q' p-is q-is = λ i. span (p-is i) (q-is i)

pub same_between : (p q p' q' : ℤ) → p ≡ p' → q ≡ q' → between p q ≡ between p' q'
same_between p q p' q' p-is q-is = λ i. between (p-is i) (q-is i)

-- a test that a range is vacant says that it has no number
pub vacant-tells : (a : Interval) (test : Bool) → test ≡ is_vacant a → IsTrue test ↔ ((z : ℤ) → ¬ HasMember a z)
vacant-tells a test is = (
  λ holds z has. false≢true (sym (has-present a z has) ∙ sym is ∙ holds),
  λ none. is ∙ by_lt_z a.last a.first
      (λ below. grind (arith, ints)) (λ ordered. absurd (none a.first (omega (arith, ints), ordered))),
)

-- a test for a number says that the range has it
pub member-tells : (a : Interval) (z : ℤ) (test : Bool) → test ≡ has_number a z → IsTrue test ↔ HasMember a z
member-tells a z test is = (
  λ holds.
      let each = and_parts (int_le a.first z) (int_le z a.last) (sym is ∙ holds) in
      (grind (arith, ints), grind (arith, ints)),
  λ has. is ∙ grind (arith, ints),
)

pub has-low : (a : Interval) (z : ℤ) (test : Bool) → int_le a.first z ≡ true → test ≡ int_le z a.last
    → test ≡ has_number a z
has-low a z test low is = is ∙ rw low refl

pub has-below : (a : Interval) (z : ℤ) (test : Bool) → test ≡ int_le a.first z → test ≡ false → test ≡ has_number a z
has-below a z test is none = none ∙ rw (sym is ∙ none) refl

pub included-low : (a b : Interval) (test : Bool)
    → is_vacant a ≡ false → int_le b.first a.first ≡ true → test ≡ int_le a.last b.last → test ≡ is_included a b
included-low a b test present low is = is ∙ rw (present, low) refl

pub included-below : (a b : Interval) (test : Bool)
    → is_vacant a ≡ false → test ≡ int_le b.first a.first → test ≡ false → test ≡ is_included a b
included-below a b test present is none = none ∙ rw (present, sym is ∙ none) refl

pub joined-present : (a b r : Interval) → is_vacant a ≡ false → is_vacant b ≡ false
    → r.first ≡ int_min a.first b.first → r.last ≡ int_max a.last b.last → r ≡ joined a b
joined-present a b r left right first last =
    same_ends r (int_min a.first b.first) (int_max a.last b.last) first last ∙ rw (left, right) refl

pub common-none : (a b : Interval) → int_lt (int_min a.last b.last) (int_max a.first b.first) ≡ true
    → vacant ≡ common a b
common-none a b below = rw below refl

pub common-present : (a b r : Interval) → int_lt (int_min a.last b.last) (int_max a.first b.first) ≡ false
    → r.first ≡ int_max a.first b.first → r.last ≡ int_min a.last b.last → r ≡ common a b
common-present a b r ordered first last =
    same_ends r (int_max a.first b.first) (int_min a.last b.last) first last ∙ rw ordered refl

pub absolute-with_zero : (a r : Interval) → is_vacant a ≡ false → has_number a (pos 0) ≡ true
    → r.first ≡ pos 0 → r.last ≡ size a → r ≡ absolute a
absolute-with_zero a r present holds first last = same_ends r (pos 0) (size a) first last ∙ rw (present, holds) refl

pub absolute-apart : (a r : Interval) (p q : ℤ) → is_vacant a ≡ false → has_number a (pos 0) ≡ false
    → r ≡ span p q → p ≡ magnitude a.first → q ≡ magnitude a.last → r ≡ absolute a
absolute-apart a r p q present outside whole p-is q-is =
    whole ∙ same_span p q (magnitude a.first) (magnitude a.last) p-is q-is ∙ rw (present, outside) refl

pub complement-present : (a r : Interval) (never always : Bool) → is_vacant a ≡ false
    → never ≡ never_true a → always ≡ always_true a → r ≡ truths never (not always) → r ≡ complement a
complement-present a r never always present never-is always-is whole = whole ∙ rw (never-is, always-is, present) refl
