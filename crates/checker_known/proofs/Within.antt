-- What is held of the indexes of a row, by the first two of their values.
use Rattle.std.proofs.Common.{if◌then◌else◌, ◌≡◌, refl, sym, ap, ℕ, Bool, true, false, ◌&&◌, List, [], ◌∷◌, Some, None, drop}
use Rattle.std.proofs.lemmas.Option.{none-some, same_Some}
use Rattle.std.specs.Prelude.{slice_get}
use Rattle.types.specs.declared.form.OrdinalRange.{OrdinalRange}
use Rattle.checker_rows.specs.Leaves.{index_before}
use Rattle.domain.specs.Versions.{has}
use Rattle.domain.specs.declared.versions.Extension.TheVariants.{Boxes}
use Rattle.checker_state.specs.State.{Facts, Span, Wanted, all_indexes, has_span, have_spans, is_covered, is_had, is_joined, is_joined_inside}
use Rattle.checker_state.specs.State.{is_spanned, wanted_of}

and-own : (b : Bool) → b ≡ (b && true)
and-own true = refl
and-own false = refl

module _ (known : Facts) where
  -- all of an index, by the span of all its values
  pub all-has : (range : OrdinalRange) (held : Span) → has_span (wanted_of known (all_indexes range)) held ≡ have_spans known (range ∷ []) [] (held ∷ [])
  all-has range held = and-own (has_span (wanted_of known (all_indexes range)) held)

  -- all of the second index
  pub inner_has : (indexes : List OrdinalRange) (held : Span)
      → have_spans known (index_before (slice_get indexes 1) []) [] (held ∷ []) ≡ have_spans known (drop 1 indexes) [] (held ∷ [])
  inner_has [] held = refl
  inner_has (first ∷ []) held = refl
  inner_has (first ∷ second ∷ indexes) held = refl

  -- two together, by the second index
  module _ (row : ℕ) (one : Wanted) where
    pub inside_none : (indexes : List OrdinalRange) → slice_get indexes 1 ≡ None → is_joined_inside known indexes row (one ∷ []) ≡ false
    inside_none [] is = refl
    inside_none (first ∷ []) is = refl
    inside_none (first ∷ second ∷ indexes) is = absurd (none-some second (sym is))

    pub inside_some : (indexes : List OrdinalRange) (range : OrdinalRange) → slice_get indexes 1 ≡ Some range
        → is_joined_inside known indexes row (one ∷ []) ≡ is_joined known indexes row (one ∷ wanted_of known (all_indexes range) ∷ []) true
    inside_some [] range is = absurd (none-some range is)
    inside_some (first ∷ []) range is = absurd (none-some range is)
    inside_some (first ∷ second ∷ indexes) range is =
        ap (λ (own : OrdinalRange). is_joined known (first ∷ second ∷ indexes) row (one ∷ wanted_of known (all_indexes own) ∷ []) true)
        (same_Some second range is)

  -- all of the first
  pub spanned_none : (row : ℕ) (indexes : List OrdinalRange) → slice_get indexes 0 ≡ None → is_spanned known row indexes ≡ false
  spanned_none row [] is = refl
  spanned_none row (range ∷ indexes) is = absurd (none-some range (sym is))

  pub spanned_some : (row : ℕ) (indexes : List OrdinalRange) (range : OrdinalRange) → slice_get indexes 0 ≡ Some range
      → is_spanned known row indexes ≡ (let wanted = wanted_of known (all_indexes range) ∷ [] in
      if has known.rules Boxes then is_had known indexes row wanted else is_covered known indexes row wanted)
  spanned_some row [] range is = absurd (none-some range is)
  spanned_some row (first ∷ indexes) range is = ap
      (λ (own : OrdinalRange). let wanted = wanted_of known (all_indexes own) ∷ [] in
      if has known.rules Boxes then is_had known (first ∷ indexes) row wanted else is_covered known (first ∷ indexes) row wanted)
      (same_Some first range is)
