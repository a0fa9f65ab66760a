use Rattle.std.proofs.Common.{◌≡◌, pos, ◌-ℤ◌, ◌≤ℤ◌, ◌<ℤ◌, int_le, true, false, w64, arith, refl, ap, sym, subst, ◌∙◌}
use Rattle.std.proofs.lemmas.Int.{ints, clamps, to_z-of_z}
use Rattle.std.specs.Int.{int_min, int_rem_euclid}
use Rattle.domain.specs.Interval.{Interval, HasMember, vacant, is_vacant, between, remainder}
use Rattle.domain.specs.Ranges.{left-vacant, right-vacant, remainder-has, as_is, end-min, less_one, same_min, same_between}
use Rattle.domain.proofs.interval.Interval.remainder.Goals as goal
use Rattle.domain.proofs.interval.Interval.remainder.Goals.{then-is_empty-via-then-is_empty, then-is_empty-via-else-is_empty+then-is_empty-2}
use Rattle.domain.proofs.interval.Interval.remainder.Goals.{then-is_empty-via-else-is_empty+else-is_empty-2+then-last-lt1}

-- no divisor is at least 1
of_low_divisor : (a b : Interval) → is_vacant a ≡ false → is_vacant b ≡ false → b.last <ℤ pos 1 → vacant ≡ remainder a b
of_low_divisor a b left right low = rw (left, right) (grind (arith, ints, clamps))

-- the remainders where some dividend is negative
of_negative : (a b c : Interval) → is_vacant a ≡ false → is_vacant b ≡ false → a.first <ℤ pos 0 → c ≡ between (pos 0) (b.last -ℤ pos 1) → c ≡ remainder a b
of_negative a b c left right sign whole =
    let test : int_le (pos 0) a.first ≡ false = grind (arith, ints) in
    whole ∙ rw (left, right, test) refl

-- the remainders where no dividend is negative
of_positive : (a b c : Interval) → is_vacant a ≡ false → is_vacant b ≡ false → pos 0 ≤ℤ a.first → c ≡ between (pos 0) (int_min (b.last -ℤ pos 1) a.last)
    → c ≡ remainder a b
of_positive a b c left right sign whole =
    let test : int_le (pos 0) a.first ≡ true = grind (arith, ints) in
    whole ∙ rw (left, right, test) refl

pub returns-then-is_empty-clause-ends : goal.returns-then-is_empty-clause-ends
returns-then-is_empty-clause-ends c =
    let a = c.args.self.now in
    let b = c.args.divisor.now in
    elim c.then-is_empty.branch [
      | then-is_empty-via-then-is_empty w ↦ left-vacant a b _ (sym c.is_empty.ensures.answer ∙ w.if-is_empty.true)
      | then-is_empty-via-else-is_empty+then-is_empty-2 w ↦
          right-vacant a b _ (sym c.is_empty.ensures.answer ∙ w.if-is_empty.false) (sym w.is_empty-else-is_empty.ensures.answer ∙ w.if-is_empty-2.true)
      | then-is_empty-via-else-is_empty+else-is_empty-2+then-last-lt1 w ↦
          of_low_divisor a b (sym c.is_empty.ensures.answer ∙ w.if-is_empty.false) (sym w.is_empty-else-is_empty.ensures.answer ∙ w.if-is_empty-2.false)
          (omega (arith, ints))
    ]

pub returns-then-is_empty-clause-members : goal.returns-then-is_empty-clause-members
returns-then-is_empty-clause-members c = λ x y left right present.
    subst (λ (i : Interval). HasMember i (int_rem_euclid x y)) (sym (returns-then-is_empty-clause-ends c))
    (remainder-has c.args.self.now c.args.divisor.now x y left right present)

-- the greatest remainder is an end
pub between_ends-requires-clause-last_end : goal.between_ends-requires-clause-last_end
between_ends-requires-clause-last_end c =
    let last = c.last-greatest.result in
    rw (less_one last c.last-greatest.ensures.bounds (omega (arith, ints))) (omega (arith, ints), omega (arith, ints))

pub between_ends-requires-2-clause-last_end : goal.between_ends-requires-2-clause-last_end
between_ends-requires-2-clause-last_end c =
    let last = c.last-greatest.result in
    let greatest = less_one last c.last-greatest.ensures.bounds (omega (arith, ints)) in
    let own = as_is c.last-2.result c.last-2.ensures.bounds in
    let least = to_z-of_z w64 c.min.result (record { sfits = c.min.type_inv }) ∙ c.min.ensures.value ∙ same_min _ _
    (last -ℤ pos 1) c.last-2.result greatest own in
    end-min (last -ℤ pos 1) c.last-2.result _ (omega (arith, ints), omega (arith, ints)) c.last-2.ensures.bounds least

pub returns-then-first-lt0-clause-ends : goal.returns-then-first-lt0-clause-ends
returns-then-first-lt0-clause-ends c =
    let last = c.last-greatest.result in
    let greatest = less_one last c.last-greatest.ensures.bounds (omega (arith, ints)) ∙ ap (λ x. x -ℤ pos 1) c.last-greatest.ensures.value in
    of_negative c.args.self.now c.args.divisor.now c.between_ends.result
    (sym c.is_empty.ensures.answer ∙ c.if-is_empty.false) (sym c.is_empty-else-is_empty.ensures.answer ∙ c.if-is_empty-2.false)
    (omega (arith, ints)) (c.between_ends.ensures ∙ same_between (pos 0) _ (pos 0) _ refl greatest)

pub returns-then-first-lt0-clause-members : goal.returns-then-first-lt0-clause-members
returns-then-first-lt0-clause-members c = λ x y left right present.
    rw (returns-then-first-lt0-clause-ends c) (remainder-has c.args.self.now c.args.divisor.now x y left right present)

pub returns-clause-ends : goal.returns-clause-ends
returns-clause-ends c =
    let last = c.last-greatest.result in
    let greatest = less_one last c.last-greatest.ensures.bounds (omega (arith, ints)) ∙ ap (λ x. x -ℤ pos 1) c.last-greatest.ensures.value in
    let own = as_is c.last-2.result c.last-2.ensures.bounds ∙ c.last-2.ensures.value in
    let least = to_z-of_z w64 c.min.result (record { sfits = c.min.type_inv }) ∙ c.min.ensures.value ∙ same_min _ _ _ _ greatest own in
    of_positive c.args.self.now c.args.divisor.now c.between_ends-2.result
    (sym c.is_empty.ensures.answer ∙ c.if-is_empty.false) (sym c.is_empty-else-is_empty.ensures.answer ∙ c.if-is_empty-2.false)
    (omega (arith, ints)) (c.between_ends-2.ensures ∙ same_between (pos 0) _ (pos 0) _ refl least)

pub returns-clause-members : goal.returns-clause-members
returns-clause-members c = λ x y left right present.
    rw (returns-clause-ends c) (remainder-has c.args.self.now c.args.divisor.now x y left right present)
