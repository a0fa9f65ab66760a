-- Proofs of the laws of hulls, which the `impl` of `Domain` and the methods of `Hull` name. No promise rests on reading
-- them.
use Rattle.std.proofs.Common.{◌≡◌, ◌⊎◌, inl, inr, ⊎_elim, ℕ, zero, suc, ◌+◌, ◌/◌, ◌%◌, ◌^◌, ◌≤◌, ◌<◌, min, max, ℤ, pos}
use Rattle.std.proofs.Common.{negsuc, ◌≤ℤ◌, Bool, true, false, arith, refl, ap, sym, ◌∙◌, ◌↔◌, IsTrue}
use Rattle.std.proofs.lemmas.Bool.{false≢true, eqb-true, eq-eqb, cases_lt}
use Rattle.std.proofs.lemmas.Int.{ints, clamps}
use Rattle.std.proofs.lemmas.Nat.{mod_below, shr_split}
use Rattle.std.proofs.lemmas.Nat.Bits.{bit_at-zero, bit_at-lt, bit_at_and, bit_at_or, bit_at_above, bit_at_cat_low}
use Rattle.std.proofs.lemmas.Nat.Bits.{bit_at_mask_inside, bit_at_mask_below, bit_at_mask_above, same_from_bits}
use Rattle.std.specs.Int.{w128, bit_at, bit_not}
use Rattle.members.specs.declared.sets.Operator.TheVariants as operator
use Rattle.members.specs.Laws.{IsSet}
use Rattle.members.specs.Members.{has, empty, of_two, count_below, count_to, of_range, of_one}
use Rattle.domain.specs.Interval.{Interval, HasMember, Includes, is_included, joined, common, at_least, at_most}
use Rattle.domain.specs.Hull.{HasSet, IncludesSets, IsHull, members, hull_of, hull_between}
use Rattle.domain.specs.Ranges.{included-has, has-included, joined-has_left, joined-has_right, joined-least, common-has}
use Rattle.domain.specs.Ranges.{common-has_left, common-has_right, at_least-has, at_most-has}

-- ---- members

-- a bit is 1 or 0
bit-cases : {P : Type 0} (set i : ℕ) → (bit_at set i ≡ 1 → P) → (bit_at set i ≡ 0 → P) → P
bit-cases set i one none = some (bit_at set i) (bit_at-lt set i) one none
  where
    some : {P : Type 0} (bit : ℕ) → bit < 2 → (bit ≡ 1 → P) → (bit ≡ 0 → P) → P
    some zero fits one none = none refl
    some (suc zero) fits one none = one (omega arith)
    some (suc (suc bit)) fits one none = absurd (omega arith)

by_lt : {P : Type 0} (m n : ℕ) → (m < n → P) → (n ≤ m → P) → P
by_lt m n below above = ⊎_elim below above (cases_lt m n)

-- the members of a union are those of either
union-cases : (a b : ℕ) (n : ℤ) → has (of_two operator.Union a b) n ≡ true → (has a n ≡ true) ⊎ (has b n ≡ true)
union-cases a b (negsuc k) is = absurd (false≢true is)
union-cases a b (pos k) is =
    let bit = eqb-true (bit_at (of_two operator.Union a b) k) 1 is in
    let one : max (bit_at a k) (bit_at b k) ≡ 1 = sym (bit_at_or a b k) ∙ bit in
    bit-cases a k
    (λ left. inl (eq-eqb (bit_at a k) 1 left))
    (λ none. inr (eq-eqb (bit_at b k) 1 (omega (arith, one, none))))

-- those of an intersection are those of both
intersection-members : (a b : ℕ) (n : ℤ) → has (of_two operator.Intersection a b) n ≡ true
    → (has a n ≡ true) × (has b n ≡ true)
intersection-members a b (negsuc k) is = absurd (false≢true is)
intersection-members a b (pos k) is =
    let bit = eqb-true (bit_at (of_two operator.Intersection a b) k) 1 is in
    let one : min (bit_at a k) (bit_at b k) ≡ 1 = sym (bit_at_and a b k) ∙ bit in (
      eq-eqb (bit_at a k) 1 (omega (arith, one, bit_at-lt a k)),
      eq-eqb (bit_at b k) 1 (omega (arith, one, bit_at-lt b k)),
    )

-- a member of a difference is one of the first
difference-member : (a b : ℕ) (n : ℤ) → has (of_two operator.Difference a b) n ≡ true → has a n ≡ true
difference-member a b n is = (intersection-members a (bit_not w128 b) n is).0

-- how many numbers below and up to another can be members
count_below-above : (low : ℤ) (k : ℕ) → count_below low ≤ k → k < 128 → low ≤ℤ pos k
count_below-above (negsuc m) k above fits = omega (arith, ints)
count_below-above (pos m) k above fits = omega (arith, ints)

count_to-below : (high : ℤ) (k : ℕ) → k < count_to high → (pos k ≤ℤ high) × (k < 128)
count_to-below (pos m) k below = (omega (arith, ints), omega (arith, ints))
count_to-below (negsuc m) k below = absurd (omega arith)

-- a member of a range lies between its ends, and is a number that can be a member
range-member : (low high n : ℤ) → has (of_range low high) n ≡ true → HasMember members n × (low ≤ℤ n) × (n ≤ℤ high)
range-member low high (negsuc k) is = absurd (false≢true is)
range-member low high (pos k) is =
    let first = count_below low in
    let end = count_to high in
    let one = eqb-true (bit_at (of_range low high) k) 1 is in
    let above : first ≤ k =
    by_lt k first (λ below. absurd (omega (arith, one, bit_at_mask_below first end k below))) (λ above. above) in
    let below : k < end =
    by_lt k end (λ below. below) (λ above. absurd (omega (arith, one, bit_at_mask_above first end k above))) in
    let last = count_to-below high k below in
    ((omega (arith, ints), omega (arith, ints)), count_below-above low k above last.1, last.0)

-- a number that can be a member is one of the set of it alone
one-member : (n : ℤ) → HasMember members n → has (of_one n) n ≡ true
one-member (negsuc k) (low, high) = absurd low.le
one-member (pos k) (low, high) =
    eq-eqb (bit_at (of_one (pos k)) k) 1
    (bit_at_mask_inside (min k 128) (min (k + 1) 128) k (omega arith) (omega (arith, ints)))

-- a number with its bits below a width is below a power of two
bits-fit : (width set : ℕ) → 0 < 2 ^ width → ((k : ℕ) → bit_at set k ≡ 1 → k < width) → set < 2 ^ width
bits-fit width set some each =
    let low = set % 2 ^ width in
    let fits = mod_below set (2 ^ width) some in
    let same : set ≡ low = same_from_bits set low (λ k. by_lt k width
    (λ below.
    ap (λ n. bit_at n k) (sym (shr_split set width)) ∙ bit_at_cat_low (set / 2 ^ width) width low k below)
    (λ above. bit-cases set k
    (λ one. let below = each k one in absurd (omega arith))
    (λ none. none ∙ sym (bit_at_above low width k fits above)))) in
    omega (arith, same, fits)

-- a set of a hull is a set of numbers from 0 to 127
pub sets-fit : (hull : Interval) (set : ℕ) → IsHull hull → HasSet hull set → IsSet set
sets-fit hull set (low, high) each =
    bits-fit 128 set (omega arith) (λ k one.
    let inside = each (pos k) (eq-eqb (bit_at set k) 1 one) in
    omega (arith, ints))

-- ---- inclusion

pub included-has_set : (a b : Interval) (set : ℕ) → is_included a b ≡ true → HasSet a set → HasSet b set
included-has_set a b set included each = λ n is. included-has a b n included (each n is)

-- where a hull has the sets of another, its range has the numbers of the other's
pub sets-include : (a b : Interval) → IsHull a → IncludesSets b a → Includes b a
sets-include a b (low, high) sets = λ n inside.
    let one = one-member n (omega (arith, ints), omega (arith, ints)) in
    sets (of_one n) (λ m is.
    let only = range-member n n m is in
    (omega (arith, ints), omega (arith, ints)))
    n one

pub leq-tells : (a b : Interval) (test : Bool) → IsHull a → test ≡ is_included a b → IsTrue test ↔ IncludesSets b a
leq-tells a b test fits is = (
  λ holds set each. included-has_set a b set (sym is ∙ holds) each,
  λ sets. is ∙ has-included a b (sets-include a b fits sets),
)

-- ---- joins and meets

pub joined-has_set_left : (a b : Interval) (set : ℕ) → HasSet a set → HasSet (joined a b) set
joined-has_set_left a b set each = λ n is. joined-has_left a b n (each n is)

pub joined-has_set_right : (a b : Interval) (set : ℕ) → HasSet b set → HasSet (joined a b) set
joined-has_set_right a b set each = λ n is. joined-has_right a b n (each n is)

pub joined-least_sets : (a b c : Interval) → IsHull a → IsHull b → IncludesSets c a → IncludesSets c b
    → IncludesSets c (joined a b)
joined-least_sets a b c left right left-sets right-sets = λ set each n is.
    joined-least a b c (sets-include a c left left-sets) (sets-include b c right right-sets) n (each n is)

pub common-has_set : (a b : Interval) (set : ℕ) → HasSet a set → HasSet b set → HasSet (common a b) set
common-has_set a b set left right = λ n is. common-has a b n (left n is) (right n is)

pub common-has_set_left : (a b : Interval) (set : ℕ) → HasSet (common a b) set → HasSet a set
common-has_set_left a b set each = λ n is. common-has_left a b n (each n is)

pub common-has_set_right : (a b : Interval) (set : ℕ) → HasSet (common a b) set → HasSet b set
common-has_set_right a b set each = λ n is. common-has_right a b n (each n is)

pub common-sets : (a b : Interval) (set : ℕ) → HasSet (common a b) set ↔ (HasSet a set × HasSet b set)
common-sets a b set = (
  λ each. (common-has_set_left a b set each, common-has_set_right a b set each),
  λ each. common-has_set a b set each.0 each.1,
)

-- the empty set is a set of each hull
pub has_set-empty : (hull : Interval) → HasSet hull empty
has_set-empty hull (negsuc k) is = absurd (false≢true is)
has_set-empty hull (pos k) is =
    let one = eqb-true (bit_at empty k) 1 is in
    absurd (omega (arith, one, bit_at-zero k))

-- so no hull is vacant
pub never_vacant : (hull : Interval) (set : ℕ) → HasSet hull set → false ≡ false
never_vacant hull set each = refl

-- ---- operators

pub union-has_set : (a b : Interval) (s t : ℕ) → HasSet a s → HasSet b t
    → HasSet (joined a b) (of_two operator.Union s t)
union-has_set a b s t left right = λ n is.
    ⊎_elim
    (λ one. joined-has_left a b n (left n one)) (λ other. joined-has_right a b n (right n other)) (union-cases s t n is)

pub intersection-has_set : (a b : Interval) (s t : ℕ) → HasSet a s → HasSet b t
    → HasSet (common a b) (of_two operator.Intersection s t)
intersection-has_set a b s t left right = λ n is.
    let each = intersection-members s t n is in
    common-has a b n (left n each.0) (right n each.1)

pub difference-has_set : (a : Interval) (s t : ℕ) → HasSet a s → HasSet a (of_two operator.Difference s t)
difference-has_set a s t each = λ n is. each n (difference-member s t n is)

-- ---- sets that are made of members

pub hull_of-sets : (range : Interval) (set : ℕ) → IsSet set → HasSet (hull_of range) set ↔ HasSet range set
hull_of-sets range set fits = (
  λ each. common-has_set_left range members set each,
  λ each. common-has_set range members set each (members-has_set set fits),
)
  where
    members-has_set : (set : ℕ) → IsSet set → HasSet members set
    members-has_set set fits (negsuc k) is = absurd (false≢true is)
    members-has_set set fits (pos k) is =
        let one = eqb-true (bit_at set k) 1 is in
        by_lt k 128 (λ below. (omega (arith, ints), omega (arith, ints)))
        (λ above. absurd (omega (arith, one, bit_at_above set 128 k fits above)))

pub hull_of-has_one : (range : Interval) (n : ℤ) → HasMember range n → HasSet (hull_of range) (of_one n)
hull_of-has_one range n inside = λ m is.
    let only = range-member n n m is in
    common-has range members m (omega (arith, ints), omega (arith, ints)) only.0

pub hull_between-has_set : (first last : Interval) (low high : ℤ) → HasMember first low → HasMember last high
    → HasSet (hull_between first last) (of_range low high)
hull_between-has_set first last low high from to = λ n is.
    let inside = range-member low high n is in
    at_most-has last.last (at_least first.first members) n
    (at_least-has first.first members n inside.0 (omega (arith, ints))) (omega (arith, ints))

-- ---- the ends of hulls

pub hull_between-is_hull : (first last : Interval) → IsHull (hull_between first last)
hull_between-is_hull first last = (grind (arith, ints, clamps), grind (arith, ints, clamps))

pub hull_between-made : (first last from made : Interval) (low high : ℤ) → from ≡ at_least low members
    → made ≡ at_most high from → low ≡ first.first → high ≡ last.last → made ≡ hull_between first last
hull_between-made first last from made low high from-is made-is low-is high-is =
    made-is ∙ (λ i. at_most (high-is i) ((from-is ∙ ap (λ n. at_least n members) low-is) i))
