-- What those tell together that stand beside one another: after one more, one less, or another one.
use Rattle.std.proofs.Common.{arith, ◌≡◌, refl, ℕ, zero, suc, ◌+◌, ◌-◌, ◌<◌, ◌≤◌, List, [], ◌∷◌, get_or, length, set}
use Rattle.std.specs.List.{insert, remove}
use Rattle.checker_state.specs.State.{Held}
use Rattle.checker_known.specs.Pairs.{told_around, told_at, told_before, told_of}

module _ (told : Held → Held → ℕ) where
  pub none-first : (held : List Held) → told_at told zero held ≡ 0
  none-first [] = refl
  none-first (one ∷ held) = refl

  pub told-insert : (held : List Held) (place : ℕ) (one : Held) → place ≤ length held
      → told_of told (insert held place one) + told_at told place held ≡ told_of told held + told_around told place (insert held place one)
  told-insert held zero one inside = omega (arith, none-first held)
  told-insert [] (suc place) one inside = absurd (omega (arith, inside))
  told-insert (first ∷ held) (suc zero) one inside = omega arith
  told-insert (first ∷ []) (suc (suc place)) one inside = absurd (omega (arith, inside))
  told-insert (first ∷ next ∷ held) (suc (suc place)) one inside =
      omega (arith, told-insert (next ∷ held) (suc place) one (omega (arith, inside)))

  pub told-remove : (held : List Held) (place : ℕ) → place < length held
      → told_of told (remove held place) + told_around told place held ≡ told_of told held + told_at told place (remove held place)
  told-remove [] place inside = absurd (omega (arith, inside))
  told-remove (first ∷ held) zero inside = omega (arith, none-first held)
  told-remove (first ∷ []) (suc place) inside = absurd (omega (arith, inside))
  told-remove (first ∷ next ∷ held) (suc zero) inside = omega arith
  told-remove (first ∷ next ∷ held) (suc (suc place)) inside =
      omega (arith, told-remove (next ∷ held) (suc place) (omega (arith, inside)))

  pub told-set : (held : List Held) (place : ℕ) (one : Held) → place < length held
      → told_of told (set held place one) + told_around told place held ≡ told_of told held + told_around told place (set held place one)
  told-set [] place one inside = absurd (omega (arith, inside))
  told-set (first ∷ held) zero one inside = omega arith
  told-set (first ∷ []) (suc place) one inside = absurd (omega (arith, inside))
  told-set (first ∷ next ∷ held) (suc zero) one inside = omega arith
  told-set (first ∷ next ∷ held) (suc (suc place)) one inside =
      omega (arith, told-set (next ∷ held) (suc place) one (omega (arith, inside)))

  pub at-within : (place : ℕ) (held : List Held) → told_at told place held ≤ told_of told held
  at-within place [] = omega arith
  at-within zero (one ∷ held) = omega arith
  at-within (suc zero) (one ∷ held) = omega arith
  at-within (suc (suc place)) (one ∷ held) = omega (arith, at-within (suc place) held)

  pub around-within : (place : ℕ) (held : List Held) → told_around told place held ≤ told_of told held
  around-within place [] = omega arith
  around-within zero (one ∷ held) = omega arith
  around-within (suc zero) (one ∷ []) = omega arith
  around-within (suc zero) (one ∷ next ∷ held) = omega arith
  around-within (suc (suc place)) (one ∷ held) = omega (arith, around-within (suc place) held)

  pub told-past : (place : ℕ) (held : List Held) → length held ≤ place → 0 ≡ told_at told place held
  told-past place [] past = refl
  told-past zero (one ∷ held) past = absurd (omega (arith, past))
  told-past (suc zero) (one ∷ []) past = refl
  told-past (suc zero) (one ∷ next ∷ held) past = absurd (omega (arith, past))
  told-past (suc (suc place)) (one ∷ held) past = told-past (suc place) held (omega (arith, past))

  pub told-there : (held : List Held) (place : ℕ) (none : Held) → suc place < length held
      → told (get_or held place none) (get_or held (suc place) none) ≡ told_at told (suc place) held
  told-there [] place none inside = absurd (omega (arith, inside))
  told-there (one ∷ []) place none inside = absurd (omega (arith, inside))
  told-there (one ∷ next ∷ held) zero none inside = refl
  told-there (one ∷ next ∷ held) (suc place) none inside = told-there (next ∷ held) place none (omega (arith, inside))

  -- where all tell nothing, each does
  pub told-nothing : (held : List Held) (i : ℕ) (none : Held) → told_of told held ≡ 0 → suc i < length held
      → told (get_or held i none) (get_or held (suc i) none) ≡ 0
  told-nothing held i none is inside =
      let there = told-there held i none inside in
      omega (arith, there, at-within (suc i) held, is)

  module _ (few : (one next : Held) → told one next ≤ 1) where
    before-few : (one : Held) (held : List Held) → told_before told one held ≤ length held
    before-few one [] = omega arith
    before-few one (next ∷ held) = omega (arith, few one next)

    -- all but the last may
    few-behind : (one : Held) (held : List Held) → told_of told (one ∷ held) ≤ length held
    few-behind one [] = omega arith
    few-behind one (next ∷ held) = omega (arith, few one next, few-behind next held)

    pub told-few : (held : List Held) → told_of told held ≤ length held - 1
    told-few [] = omega arith
    told-few (one ∷ held) = omega (arith, few-behind one held)

    pub at-few : (place : ℕ) (held : List Held) → told_at told place held ≤ 1
    at-few place [] = omega arith
    at-few zero (one ∷ held) = omega arith
    at-few (suc zero) (one ∷ []) = omega arith
    at-few (suc zero) (one ∷ next ∷ held) = few one next
    at-few (suc (suc place)) (one ∷ held) = at-few (suc place) held
