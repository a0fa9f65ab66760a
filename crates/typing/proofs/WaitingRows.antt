-- The first of some routines that waits.
use Rattle.std.proofs.Common.{◌≡◌, ℕ, true, false, is_some, zero, suc, ◌+◌, ◌<◌, ◌≤◌, List, [], ◌∷◌, Option, Some, None, drop, length, slice_get, refl, arith}
use Rattle.std.proofs.Common.{ap, sym, ◌∙◌}
use Rattle.std.proofs.lemmas.List.{at_drop_all}
use Rattle.std.specs.Option.{option_or}
use Rattle.place.specs.declared.Place.{Place}
use Rattle.typing.specs.Blocks.{place_of}
use Rattle.typing.specs.Routines.{first_waiting}

-- the one at a place comes before those behind it
pub first_from : (rows : List (ℕ × Option Place)) (i : ℕ) → i < length rows
    → first_waiting (drop i rows) ≡ option_or (place_of (slice_get rows i)) (first_waiting (drop (i + 1) rows))
first_from [] i within = absurd (omega arith)
first_from (row ∷ rows) zero within = refl
first_from (row ∷ rows) (suc i) within =
    let next : suc i + 1 ≡ suc (i + 1) = omega arith in
    first_from rows i (omega arith) ∙ ap (λ n. option_or (place_of (slice_get rows i)) (first_waiting (drop n (row ∷ rows)))) (sym next)

-- behind all of them there is none
pub none_behind : (rows : List (ℕ × Option Place)) (i : ℕ) → length rows ≤ i → first_waiting (drop i rows) ≡ None
none_behind rows i all = at_drop_all first_waiting rows i all

module _ (rows : List (ℕ × Option Place)) (i : ℕ) (within : i < length rows) (place : Option Place) (is : place ≡ place_of (slice_get rows i)) where
  -- it waits
  pub waits_here : is_some place ≡ true → place ≡ first_waiting (drop i rows)
  waits_here some = by place some ∙ ap (λ p. option_or p behind) is ∙ sym (first_from rows i within)
    where
      behind : Option Place
      behind = first_waiting (drop (i + 1) rows)

      by : (p : Option Place) → is_some p ≡ true → p ≡ option_or p behind
      by None none = absurd cc
      by (Some at) some = refl

  -- it doesn't
  pub waits_not_here : is_some place ≡ false → first_waiting (drop i rows) ≡ first_waiting (drop (i + 1) rows)
  waits_not_here none = first_from rows i within ∙ ap (λ p. option_or p behind) (sym is) ∙ by place none
    where
      behind : Option Place
      behind = first_waiting (drop (i + 1) rows)

      by : (p : Option Place) → is_some p ≡ false → option_or p behind ≡ behind
      by None none = refl
      by (Some at) some = absurd cc
