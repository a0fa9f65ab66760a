-- The results of operations are tested and told alike, whether the ends of their ranges are held or not.
use Rattle.std.proofs.Common.{arith, ◌≡◌, ◌∙◌, sym, ap, refl, ℕ, ℤ, pos, neg_ℤ, ◌+ℤ◌, ◌≤ℤ◌, false, ◌||◌, Option, Some, None}
use Rattle.std.proofs.lemmas.Int.{clamps, ints}
use Rattle.std.proofs.lemmas.Option.{none-some}
use Rattle.types.specs.declared.form.OrdinalRange.{OrdinalRange}
use Rattle.domain.specs.Interval.{HasMember, Interval, IsEnd, IsPlain, common, held, is_included, is_vacant}
use Rattle.domain.specs.Ranges.{difference-plain, held-common, held-included, integer-inner, product-plain, squared-plain, sum-plain}
use Rattle.typed_tree.specs.declared.tree.RangeTest.{RangeTest}
use Rattle.typed_tree.specs.declared.tree.Monadic.{Monadic}
use Rattle.typed_tree.specs.declared.tree.Monadic.TheVariants as monadic
use Rattle.typed_tree.specs.declared.tree.Calculation.{Calculation}
use Rattle.typed_tree.specs.declared.tree.Calculation.TheVariants as calculation
use Rattle.typed_tree.specs.declared.tree.Shift.{Shift}
use Rattle.typed_tree.specs.declared.tree.Shift.TheVariants as shift
use Rattle.typed_tree.specs.declared.tree.Dyadic.{Dyadic}
use Rattle.typed_tree.specs.declared.tree.Dyadic.TheVariants as dyadic
use Rattle.meaning.specs.Meaning.{overflow_of, overflow_of_both}
use Rattle.checker_state.specs.declared.value.Known.{Known}
use Rattle.checker_state.specs.Values.{known_range}
use Rattle.checker_rows.specs.Limits.{integer, limits_of}
use Rattle.checker_loops.proofs.Behind.{held-itself, held-moved}
use Rattle.checker_expressions.specs.declared.flow.Flow.{Flow}
use Rattle.checker_expressions.specs.View.{FlowGoes, IsRangeOf}
use Rattle.checker_expressions.proofs.Flows.{goes-as}
use Rattle.checker_expressions.specs.Walk.{Walking, ◌>>=◌, calculated, calculated_both, combined, divides, of_both, operated, ordinal, shifted, tested}
use Rattle.checker_expressions.specs.Walk.{unless_overflow, within}

-- ---- results that are tested

within-held : (range : Interval) (site : ℕ) → IsPlain range → within integer site (held range) ≡ within integer site range
within-held range site plain =
    ap (λ passed. tested (is_included (held range) integer) site passed) (held-common range integer integer-inner)
    ∙ ap (λ closed. tested closed site (common range integer)) (held-included range integer plain integer-inner)

-- what is tested has no ends that cross
abbrev IsPlainBehind : Option ℕ → Interval → Type 0
IsPlainBehind overflow range = (site : ℕ) → overflow ≡ Some site → IsPlain range

unless-held : (overflow : Option ℕ) (kept range : Interval) → IsRangeOf overflow kept range → IsPlainBehind overflow range
    → unless_overflow overflow kept ≡ unless_overflow overflow range
unless-held None kept range is plain = ap ordinal is
unless-held (Some site) kept range is plain = ap (unless_overflow (Some site)) is ∙ ap (λ test. test >>= ordinal) (within-held range site (plain site refl))

calculated-plain : (does : Calculation) (range : Interval) → IsPlainBehind (overflow_of does) (calculated does range)
calculated-plain calculation.Same range site is = absurd (none-some site is)
calculated-plain calculation.Negative range site is = absurd (none-some site is)
calculated-plain calculation.Complement range site is = absurd (none-some site is)
calculated-plain calculation.Absolute range site is = absurd (none-some site is)
calculated-plain (calculation.Square overflow) range site is = squared-plain range
calculated-plain calculation.Parity range site is = absurd (none-some site is)
calculated-plain calculation.Ordinal range site is = absurd (none-some site is)

of_both-plain : (operation : Dyadic) (left right : Interval) → IsPlainBehind (overflow_of_both operation) (of_both operation left right)
of_both-plain (dyadic.Plus overflow) left right site is = sum-plain left right
of_both-plain (dyadic.Minus overflow) left right site is = difference-plain left right
of_both-plain (dyadic.Times overflow) left right site is = product-plain left right
of_both-plain (dyadic.Div by_zero) left right site is = absurd (none-some site is)
of_both-plain (dyadic.Mod by_zero_or_less) left right site is = absurd (none-some site is)
of_both-plain dyadic.And left right site is = absurd (none-some site is)
of_both-plain dyadic.Or left right site is = absurd (none-some site is)
of_both-plain (dyadic.Relation relation) left right site is = absurd (none-some site is)
of_both-plain dyadic.Union left right site is = absurd (none-some site is)
of_both-plain dyadic.Difference left right site is = absurd (none-some site is)
of_both-plain dyadic.Intersection left right site is = absurd (none-some site is)
of_both-plain (dyadic.SetRelation relation) left right site is = absurd (none-some site is)
of_both-plain dyadic.In left right site is = absurd (none-some site is)

-- a result of which the checker keeps the range
result-goes : {told : Option ℕ} (overflow : Option ℕ) (kept range : Interval) {old new : Flow} {known : Known}
    → told ≡ overflow → IsRangeOf overflow kept range → IsPlainBehind overflow range
    → FlowGoes (unless_overflow told kept) old new known → FlowGoes (unless_overflow overflow range) old new known
result-goes overflow kept range told_is is plain goes =
    goes-as (ap (λ (o : Option ℕ). unless_overflow o kept) told_is ∙ unless-held overflow kept range is plain) goes

pub calculated-goes : (operation : Monadic) (does : Calculation) (known : Known) {told : Option ℕ} (kept range : Interval) {old new : Flow} {result : Known}
    → operation ≡ monadic.Plain does → range ≡ known_range known → told ≡ overflow_of does
    → IsRangeOf (overflow_of does) kept (calculated does range) → FlowGoes (unless_overflow told kept) old new result
    → FlowGoes (operated operation known) old new result
calculated-goes operation does known kept range is range_is told_is kept_is goes =
    goes-as (sym (ap (λ o. operated o known) is ∙ ap (λ r. unless_overflow (overflow_of does) (calculated does r)) (sym range_is)))
    (result-goes (overflow_of does) kept (calculated does range) told_is kept_is (calculated-plain does range) goes)

-- a test, and what comes behind it
pub tested-as : (operation : Monadic) (fits : RangeTest) (does : Shift) (known : Known) (limits range : Interval) → operation ≡ monadic.Tested fits does
    → range ≡ known_range known → limits ≡ limits_of fits.range
    → operated operation known ≡ (within limits fits.site range >>= λ passed. ordinal (shifted does passed))
tested-as operation fits does known limits range is range_is limits_are =
    ap (λ o. operated o known) is
    ∙ ap (λ r. within (limits_of fits.range) fits.site r >>= λ passed. ordinal (shifted does passed)) (sym range_is)
    ∙ ap (λ l. within l fits.site range >>= λ passed. ordinal (shifted does passed)) (sym limits_are)

-- an operation on two operands behind the test of the right one
abbrev pub behind : Dyadic → Interval → Interval → Walking Known
behind operation left passed = unless_overflow (overflow_of_both operation) (of_both operation left passed)

-- an operation on the ranges of two numbers
pub calculated_both-as : (operation : Dyadic) (left right one two : Interval) → one ≡ left → two ≡ right
    → calculated_both operation left right ≡ (divides operation two >>= behind operation one)
calculated_both-as operation left right one two left_is right_is =
    ap (λ l. calculated_both operation l right) (sym left_is) ∙ ap (calculated_both operation one) (sym right_is)

-- an operation on two operands that are numbers
pub of-numbers : {operation : Dyadic} (same : Dyadic) (left right : Known) {old new : Flow} {result : Known} → operation ≡ same
    → combined same left right ≡ calculated_both same (known_range left) (known_range right)
    → FlowGoes (calculated_both operation (known_range left) (known_range right)) old new result → FlowGoes (combined operation left right) old new result
of-numbers same left right is of_numbers goes =
    goes-as (ap (λ o. calculated_both o (known_range left) (known_range right)) is ∙ sym of_numbers ∙ ap (λ o. combined o left right) (sym is)) goes

pub both-goes : (operation : Dyadic) {told : Option ℕ} (one passed kept : Interval) {old new : Flow} {result : Known}
    → told ≡ overflow_of_both operation → IsRangeOf (overflow_of_both operation) kept (of_both operation one passed)
    → FlowGoes (unless_overflow told kept) old new result → FlowGoes (behind operation one passed) old new result
both-goes operation one passed kept told_is is goes =
    result-goes (overflow_of_both operation) kept (of_both operation one passed) told_is is (of_both-plain operation one passed) goes

-- ---- results behind a test

-- a range whose ends are integers
abbrev IsInteger : Interval → Type 0
IsInteger a = HasMember integer a.first × HasMember integer a.last

limits-integer : (a : Interval) → IsInteger (common integer a)
limits-integer a = ((grind (arith, ints, clamps), grind (arith, ints, clamps)), (grind (arith, ints, clamps), grind (arith, ints, clamps)))

common-integer : (a limits : Interval) → IsInteger limits → IsInteger (common a limits)
common-integer a limits ((low, high), (last_low, last_high)) =
    ((grind (arith, ints, clamps), grind (arith, ints, clamps)), (grind (arith, ints, clamps), grind (arith, ints, clamps)))

moved-end : (n k : ℤ) → HasMember integer n → neg_ℤ (pos 1) ≤ℤ k → k ≤ℤ pos 1 → IsEnd (n +ℤ k)
moved-end n k (low, high) least most = (omega (arith, ints), omega (arith, ints))

integer-end : (n : ℤ) → HasMember integer n → IsEnd n
integer-end n (low, high) = (omega (arith, ints), omega (arith, ints))

module _ (range : Interval) (fits : OrdinalRange) where
  abbrev passed : Interval
  passed = common range (limits_of fits)

  ends : IsInteger passed
  ends = common-integer range (limits_of fits) (limits-integer (record { first = fits.first; last = fits.last }))

  moved : (k : ℤ) → neg_ℤ (pos 1) ≤ℤ k → k ≤ℤ pos 1 → IsEnd (passed.first +ℤ k) × IsEnd (passed.last +ℤ k)
  moved k least most = (moved-end passed.first k ends.0 least most, moved-end passed.last k ends.1 least most)

  -- what passes, and what is next to it, has ends that needn't be held
  pub shifted-held : (does : Shift) → held (shifted does passed) ≡ shifted does passed
  shifted-held shift.Same = held-itself passed (integer-end passed.first ends.0) (integer-end passed.last ends.1)
  shifted-held shift.Next = held-moved passed (pos 1) (is_vacant passed || false) (λ present. moved (pos 1) (omega (arith, ints)) (omega (arith, ints)))
  shifted-held shift.Previous =
      held-moved passed (neg_ℤ (pos 1)) (is_vacant passed || false) (λ present. moved (neg_ℤ (pos 1)) (omega (arith, ints)) (omega (arith, ints)))
