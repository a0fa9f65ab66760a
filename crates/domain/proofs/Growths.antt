-- What the code makes of the numbers of growths, with ends of ranges and numbers of turns.
use Rattle.std.proofs.Common.{◌≡◌, ℤ, pos, negsuc, ◌+ℤ◌, ◌≤ℤ◌, int_le, Bool, true, false, ◌&&◌, arith, refl, ap, ◌∙◌, Option, Some, neg_ℤ}
use Rattle.std.proofs.Common.{SFits, w32, w64, to_z, of_z}
use Rattle.std.proofs.lemmas.Bool.{and_parts}
use Rattle.std.proofs.lemmas.Int.{ints, clamps, to_z-of_z}
use Rattle.std.specs.Int.{int_min, int_max, saturate_signed}
use Rattle.domain.specs.declared.growth.Growth.{Growth}
use Rattle.domain.specs.GrowthLaws.{is-le}
use Rattle.domain.specs.Growths.{behind, stepped, written}
use Rattle.domain.specs.Interval.{Interval, IsEnd, has_number, nearest_end}

pub same_growth : (first first_step last last_step first' first_step' last' last_step' : ℤ)
    → first ≡ first' → first_step ≡ first_step' → last ≡ last' → last_step ≡ last_step'
    → ◌≡◌ {A = Growth} (record { first = first; first_step = first_step; last = last; last_step = last_step })
    (record { first = first'; first_step = first_step'; last = last'; last_step = last_step' })
same_growth a b c d a' b' c' d' a-is b-is c-is d-is =
    λ i. record { first = a-is i; first_step = b-is i; last = c-is i; last_step = d-is i }

pub same_behind : (begun step k begun' step' k' : ℤ) → begun ≡ begun' → step ≡ step' → k ≡ k'
    → nearest_end (behind begun step k) ≡ nearest_end (behind begun' step' k')
same_behind begun step k begun' step' k' begun-is step-is k-is = λ i. nearest_end (behind (begun-is i) (step-is i) (k-is i))

-- both parts of a test
pub and-then : (test p q : Bool) → p ≡ true → test ≡ q → test ≡ (p && q)
and-then test p q holds is = is ∙ rw holds refl

pub and-else : (test p q : Bool) → p ≡ false → test ≡ false → test ≡ (p && q)
and-else test p q fails none = none ∙ rw fails refl

-- a number that may be written has 32 bits
pub written-fits : (z : ℤ) → has_number written z ≡ true → SFits w32 z
written-fits z holds =
    let each = and_parts (int_le written.first z) (int_le z written.last) holds in
    let low = is-le written.first z each.0 in
    let high = is-le z written.last each.1 in
    small z low high
  where
    small : (z : ℤ) → neg_ℤ (pos 2147483647) ≤ℤ z → z ≤ℤ pos 2147483647 → SFits w32 z
    small (pos n) low high = record { sfits = omega (arith, ints) }
    small (negsuc n) low high = record { sfits = omega (arith, ints) }

-- both sums may be written
pub stepped-some : (range : Interval) (g : Growth) (first first_step last last_step : ℤ)
    → has_number written (g.first +ℤ range.first) ≡ true → has_number written (g.last +ℤ range.last) ≡ true
    → first ≡ g.first +ℤ range.first → first_step ≡ g.first_step → last ≡ g.last +ℤ range.last → last_step ≡ g.last_step
    → ◌≡◌ {A = Option Growth}
    (Some (record { first = first; first_step = first_step; last = last; last_step = last_step })) (stepped range g)
stepped-some range g first first_step last last_step low high first-is first_step-is last-is last_step-is =
    ap Some (same_growth first first_step last last_step _ _ _ _ first-is first_step-is last-is last_step-is) ∙ rw (low, high) refl

-- what the code makes of a number and an end
pub sum-as_is : (a b own end : ℤ) → SFits w32 own → IsEnd end → a ≡ own → b ≡ end → to_z w64 (of_z w64 (a +ℤ b)) ≡ own +ℤ end
sum-as_is a b own end fits is-end a-is b-is =
    let whole = long (own +ℤ end) (omega (arith, ints, fits, is-end.0)) (omega (arith, ints, fits, is-end.1)) in
    ap (λ z. to_z w64 (of_z w64 (z +ℤ b))) a-is ∙ ap (λ z. to_z w64 (of_z w64 (own +ℤ z))) b-is ∙ to_z-of_z w64 (own +ℤ end) whole
  where
    long : (z : ℤ) → neg_ℤ (pos 9223372036854775807) ≤ℤ z → z ≤ℤ pos 9223372036854775807 → SFits w64 z
    long (pos n) low high = record { sfits = omega (arith, ints) }
    long (negsuc n) low high = record { sfits = omega (arith, ints) }

pub end-small : (z : ℤ) → SFits w32 z → IsEnd z
end-small z fits = (omega (arith, ints, fits), omega (arith, ints, fits))

saturated-is : (z : ℤ) → saturate_signed w64 z ≡ int_max (int_min z (pos 9223372036854775807)) (neg_ℤ (pos 9223372036854775808))
saturated-is (pos n) = omega (arith, ints, clamps)
saturated-is (negsuc n) = omega (arith, ints, clamps)

-- a sum that is held in 64 bits, and its product before it, has the same nearest end
pub nearest-saturated : (begun product held sum : ℤ) → SFits w32 begun → held ≡ saturate_signed w64 product
    → sum ≡ saturate_signed w64 (held +ℤ begun) → nearest_end sum ≡ nearest_end (begun +ℤ product)
nearest-saturated begun product held sum fits held-is sum-is =
    let inner = held-is ∙ saturated-is product in
    let outer = sum-is ∙ saturated-is (held +ℤ begun) in
    omega (arith, ints, clamps, inner, outer, fits)

-- the lesser of a small number and the nearest end to another is the nearest end to the lesser
pub nearest-least : (small z : ℤ) → SFits w32 small → int_min small (nearest_end z) ≡ nearest_end (int_min small z)
nearest-least small z fits = omega (arith, ints, clamps, fits)

pub nearest-greatest : (small z : ℤ) → SFits w32 small → int_max small (nearest_end z) ≡ nearest_end (int_max small z)
nearest-greatest small z fits = omega (arith, ints, clamps, fits)
