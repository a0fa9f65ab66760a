-- Values that lie in ranges: what the tests of values and the operations make of them.
use Rattle.std.proofs.Common.{arith, ◌≡◌, ℕ, ℤ, pos, bit_and, ◌≤ℤ◌, int_le, Bool, true, false, not, refl, subst}
use Rattle.std.proofs.lemmas.Int.{ints}
use Rattle.std.proofs.lemmas.Bool.{and_parts, and_from, eqb-true}
use Rattle.std.proofs.lemmas.Nat.{and_le_r}
use Rattle.members.specs.Laws.{IsSet}
use Rattle.members.specs.Members as sets
use Rattle.members.proofs.Memberships.{can_be, range_stays, within_has}
use Rattle.domain.specs.Hull.{HasSet}
use Rattle.domain.specs.Hulls.{common-has_set, common-has_set_right, included-has_set, joined-has_set_left, joined-has_set_right}
use Rattle.domain.specs.Ranges.{common-has_left, common-has_right}
use Rattle.types.specs.declared.form.OrdinalRange.{OrdinalRange}
use Rattle.domain.specs.Interval as domain
use Rattle.domain.specs.Interval.{Interval, HasMember, has_number, is_vacant, common, truth_values}
use Rattle.domain.specs.contracts.interval.IntervalDomain.TheImpl.Laws.{leq_includes-law, meet_has_common-law}
use Rattle.domain.specs.contracts.interval.IntervalDomain.TheImpl.Laws.{has_present-law, join_has_left-law, join_has_right-law}
use Rattle.meaning.specs.declared.value.Value.{Value}
use Rattle.meaning.specs.declared.value.Value.TheVariants.{Members, Number}
use Rattle.meaning.specs.Effect.{is_in}
use Rattle.meaning.specs.Integers.{is_integer_number, is_within, truth, is_true}
use Rattle.checker_rows.specs.Limits.{integer, limits_of}
use Rattle.checker_state.specs.Holds.{IsIn}

-- a range with a number isn't empty
pub in-present : (range : Interval) (n : ℤ) → HasMember range n → is_vacant range ≡ false
in-present range n inside = has_present-law range n inside

-- a constant is the one number of its range
pub constant-in : (n : ℤ) → IsIn (record { first = n; last = n }) (Number n)
constant-in n = (omega (arith, ints), omega (arith, ints))

-- ---- truth values

-- the meaning and the ranges number truth values alike
same-truth : (b : Bool) → domain.truth b ≡ truth b
same-truth true = refl
same-truth false = refl

pub truth-in : (range : Interval) (b : Bool) → HasMember range (domain.truth b) → HasMember range (truth b)
truth-in range b inside = subst (HasMember range) (same-truth b) inside

pub truth_values-has : (b : Bool) → HasMember truth_values (truth b)
truth_values-has true = (omega (arith, ints), omega (arith, ints))
truth_values-has false = (omega (arith, ints), omega (arith, ints))

-- ---- tests

-- the test of a number tells whether it lies in limits
pub is_within-has : (first last n : ℤ) → is_within first last n ≡ true → HasMember (record { first = first; last = last }) n
is_within-has first last n passes = (grind (arith, ints), grind (arith, ints))

pub has-is_within : (first last n : ℤ) → HasMember (record { first = first; last = last }) n → is_within first last n ≡ true
has-is_within first last n inside = grind (arith, ints)

-- the test of the members of a set tells whether they lie in limits
within-set : (set : ℕ) (first last : ℤ) → sets.is_within set first last ≡ true → IsSet set
within-set set first last passes =
    let same = eqb-true (bit_and set (sets.of_range first last)) set passes in
    let few = and_le_r set (sets.of_range first last) in
    let fits = range_stays first last in
    omega (arith, same, few, fits)

within-members : (set : ℕ) (first last : ℤ) → sets.is_within set first last ≡ true → (n : ℤ) → sets.has set n ≡ true
    → HasMember (record { first = first; last = last }) n
within-members set first last passes n one =
    let both = and_parts (int_le first n) (int_le n last) ((within_has set first last (within-set set first last passes)).0 passes n one) in
    (grind (arith, ints), grind (arith, ints))

member-integer : (set : ℕ) → IsSet set → (n : ℤ) → sets.has set n ≡ true → HasMember integer n
member-integer set fits n one =
    let both = and_parts (int_le (pos 0) n) (int_le n (pos 127)) (can_be set n fits one) in
    (grind (arith, ints), grind (arith, ints))

has-within : (set : ℕ) (first last : ℤ) → IsSet set → HasSet (record { first = first; last = last }) set → sets.is_within set first last ≡ true
has-within set first last fits each =
    (within_has set first last fits).1
    (λ n one. let inside = each n one in and_from (int_le first n) (int_le n last) (grind (arith, ints)) (grind (arith, ints)))

-- the test of a value for a type tells whether it lies in the limits of the type
pub is_in-integer : (range : OrdinalRange) (v : Value) → is_in range v ≡ true → IsIn integer v
is_in-integer range (Number n) passes =
    is_within-has integer.first integer.last n (and_parts (is_integer_number n) (is_within range.first range.last n) passes).0
is_in-integer range (Members set) passes =
    let fits = within-set set range.first range.last passes in (fits, member-integer set fits)

pub is_in-limits : (range : OrdinalRange) (v : Value) → is_in range v ≡ true → IsIn (limits_of range) v
is_in-limits range (Number n) passes =
    let each = and_parts (is_integer_number n) (is_within range.first range.last n) passes in
    meet_has_common-law integer (record { first = range.first; last = range.last }) n
    (is_within-has integer.first integer.last n each.0) (is_within-has range.first range.last n each.1)
is_in-limits range (Members set) passes =
    let own : Interval = record { first = range.first; last = range.last } in
    let fits = within-set set range.first range.last passes in
    (fits, common-has_set integer own set (member-integer set fits) (within-members set range.first range.last passes))

pub limits-is_in : (range : OrdinalRange) (v : Value) → IsIn (limits_of range) v → is_in range v ≡ true
limits-is_in range (Number n) inside =
    let own : Interval = record { first = range.first; last = range.last } in
    and_from (is_integer_number n) (is_within range.first range.last n)
    (has-is_within integer.first integer.last n (common-has_left integer own n inside))
    (has-is_within range.first range.last n (common-has_right integer own n inside))
limits-is_in range (Members set) (fits, each) =
    has-within set range.first range.last fits (common-has_set_right integer (record { first = range.first; last = range.last }) set each)

pub included-in : (range limits : Interval) (v : Value) → domain.is_included range limits ≡ true → IsIn range v → IsIn limits v
included-in range limits (Number n) included inside = leq_includes-law range limits n included inside
included-in range limits (Members set) included (fits, each) = (fits, included-has_set range limits set included each)

pub in-left : (a b : Interval) (v : Value) → IsIn a v → IsIn (domain.joined a b) v
in-left a b (Number n) inside = join_has_left-law a b n inside
in-left a b (Members set) (fits, each) = (fits, joined-has_set_left a b set each)

pub in-right : (a b : Interval) (v : Value) → IsIn b v → IsIn (domain.joined a b) v
in-right a b (Number n) inside = join_has_right-law a b n inside
in-right a b (Members set) (fits, each) = (fits, joined-has_set_right a b set each)

pub common-in : (a b : Interval) (v : Value) → IsIn a v → IsIn b v → IsIn (common a b) v
common-in a b (Number n) left right = meet_has_common-law a b n left right
common-in a b (Members set) (fits, left) (also, right) = (fits, common-has_set a b set left right)

-- each number of a range whose first is at least 1 is
pub first-positive : (range : Interval) (n : ℤ) → int_le (pos 1) range.first ≡ true → HasMember range n → int_le (pos 1) n ≡ true
first-positive range n first inside = grind (arith, ints)

pub is-positive : (n : ℤ) → int_le (pos 1) n ≡ true → pos 1 ≤ℤ n
is-positive n passes = grind (arith, ints)

-- no number of a range without 0 is 0
pub without-zero : (range : Interval) (n : ℤ) → not (has_number range (pos 0)) ≡ true → HasMember range n → is_true n ≡ true
without-zero range n without inside = grind (arith, ints)
