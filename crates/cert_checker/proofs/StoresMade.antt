-- Rows that get values, by their places among them.
use Rattle.std.proofs.Common.{arith, ◌≡◌, ◌∙◌, sym, ap, ap₂, subst, refl, ℕ, zero, suc, ◌+◌, ◌<◌, List, [], ◌∷◌, ◌++◌, Some, length, map, get_or, take, true}
use Rattle.std.specs.Bool.{◌==◌}
use Rattle.std.specs.Prelude.{min, slice_get}
use Rattle.std.specs.List.{range_with_len}
use Rattle.std.specs.Option.{option_map}
use Rattle.std.proofs.lemmas.Bool.{eqb-true}
use Rattle.std.proofs.lemmas.List.{length-map, map-append, take_more}
use Rattle.std.proofs.lemmas.List.FromFn.{get_or-range_with_len, length-range_with_len}
use Rattle.std.proofs.lemmas.Option.{get_or_from_slice_get, none-some, same_Some, slice_get-get_or, slice_get-map}
use denote.Ref.{Bor}
use Rattle.domain.specs.Interval.{Interval}
use Rattle.typed_tree.specs.declared.tree.Tree.{Tree}
use Rattle.checker_rows.specs.View.{numbers}
use Rattle.checker_rows.specs.declared.span.Span.{Span}
use Rattle.checker_state.specs.State.{State}
use Rattle.checker_ways.specs.declared.aliases.Stored.{Stored as KeptStored}
use Rattle.checker_loops.specs.Aliases.{Stored, all_joined_to, with_aliases_stored}
use Rattle.checker_ways.specs.View.{said_stored}
use Rattle.cert_checker.specs.declared.stores.Stores.{Stores as KeptStores}
use Rattle.cert_checker.specs.declared.stores.Stores.TheVariants as kept
use Rattle.cert_checker.specs.StoresView.{said_stores}
use Rattle.cert_checker.specs.View.{row_stored}
use Rattle.cert_checker.specs.Walk.{Stores, paired}

number-at : (first count place : ℕ) → place < count → slice_get (range_with_len first count) place ≡ Some (first + place)
number-at first count place inside =
    let within : place < length (range_with_len first count) = subst (λ n. place < n) (sym (length-range_with_len first count)) inside in
    slice_get-get_or (range_with_len first count) place 0 within ∙ ap Some (get_or-range_with_len first count place 0 inside)

length-paired : (rows : List ℕ) (ranges : List Interval) → length (paired rows ranges) ≡ min (length rows) (length ranges)
length-paired [] ranges = omega arith
length-paired (row ∷ rows) [] = omega arith
length-paired (row ∷ rows) (range ∷ ranges) = let more = length-paired rows ranges in omega arith

paired-at : (rows : List ℕ) (ranges : List Interval) (place row : ℕ) (range : Interval) → slice_get rows place ≡ Some row
    → slice_get ranges place ≡ Some range → slice_get (paired rows ranges) place ≡ Some (row, range)
paired-at [] ranges zero row range is also = absurd (none-some row is)
paired-at [] ranges (suc place) row range is also = absurd (none-some row is)
paired-at (one ∷ rows) [] zero row range is also = absurd (none-some range also)
paired-at (one ∷ rows) [] (suc place) row range is also = absurd (none-some range also)
paired-at (one ∷ rows) (first ∷ ranges) zero row range is also =
    ap₂ (λ (r : ℕ) (x : Interval). Some (r, x)) (same_Some one row is) (same_Some first range also)
paired-at (one ∷ rows) (first ∷ ranges) (suc place) row range is also = paired-at rows ranges place row range is also

-- ---- rows that get the same range

module _ (stores : KeptStores) (rows : Span) (range : Interval) (is : stores ≡ kept.Alike rows range) where
  pub alike-count : length (said_stores stores) ≡ rows.count
  alike-count =
      ap (λ (s : KeptStores). length (said_stores s)) is ∙ length-map (numbers rows) (λ (row : ℕ). (row, range))
      ∙ length-range_with_len rows.first rows.count

  pub alike-inside : (place : ℕ) → place < length (said_stores stores) → place < rows.count
  alike-inside place inside = subst (λ n. place < n) alike-count inside

  pub alike-at : (place : ℕ) → place < length (said_stores stores) → slice_get (said_stores stores) place ≡ Some (rows.first + place, range)
  alike-at place inside =
      ap (λ (s : KeptStores). slice_get (said_stores s) place) is ∙ slice_get-map (λ (row : ℕ). (row, range)) (numbers rows) place
      ∙ ap (option_map (λ (row : ℕ). (row, range))) (number-at rows.first rows.count place (alike-inside place inside))

-- ---- rows that have their own

module _ (stores : KeptStores) (rows : Span) (ranges : Bor (List Interval)) (is : stores ≡ kept.Paired rows ranges) where
  pub paired-count : length (said_stores stores) ≡ min rows.count (length ranges.now)
  paired-count =
      ap (λ (s : KeptStores). length (said_stores s)) is ∙ length-paired (numbers rows) ranges.now
      ∙ ap (λ n. min n (length ranges.now)) (length-range_with_len rows.first rows.count)

  pub paired-inside : (place : ℕ) → place < length (said_stores stores) → place < rows.count
  paired-inside place inside = let count = paired-count in omega arith

  pub ranged-inside : (place : ℕ) → place < length (said_stores stores) → place < length ranges.now
  ranged-inside place inside = let count = paired-count in omega arith

  pub own-at : (place : ℕ) (range : Interval) → place < length (said_stores stores) → slice_get ranges.now place ≡ Some range
      → slice_get (said_stores stores) place ≡ Some (rows.first + place, range)
  own-at place range inside at =
      ap (λ (s : KeptStores). slice_get (said_stores s) place) is
      ∙ paired-at (numbers rows) ranges.now place (rows.first + place) range
      (number-at rows.first rows.count place (paired-inside place inside))
      at

-- ---- one more of them

pub there : (stores : Stores) (place : ℕ) (one : ℕ × Interval) → slice_get stores place ≡ Some one → one ≡ get_or stores place one
there stores place one at = sym (get_or_from_slice_get stores place one one at)

pub stored-more : (tree : Tree) (stores : Stores) (place : ℕ) (one : ℕ × Interval) (made more : List KeptStored) (next : KeptStored)
    → place < length stores → slice_get stores place ≡ Some one → more ≡ made ++ next ∷ [] → said_stored next ≡ row_stored tree one
    → map said_stored made ≡ map (row_stored tree) (take place stores)
    → map said_stored more ≡ map (row_stored tree) (take (place + 1) stores)
stored-more tree stores place one made more next inside at more_is next_is so_far =
    ap (map said_stored) more_is ∙ map-append said_stored made (next ∷ [])
    ∙ ap₂ (λ (first : List Stored) (last : Stored). first ++ last ∷ []) so_far next_is
    ∙ sym (map-append (row_stored tree) (take place stores) (one ∷ []))
    ∙ ap (λ (last : ℕ × Interval). map (row_stored tree) (take place stores ++ last ∷ [])) (there stores place one at)
    ∙ sym (ap (map (row_stored tree)) (take_more stores place one inside))

-- ---- where there are no aliases

joined-none : (tree : Tree) (stored : List Stored) (state : State) → all_joined_to tree stored [] state ≡ state
joined-none tree [] state = refl
joined-none tree (one ∷ stored) state = joined-none tree stored state

pub unseen : (tree : Tree) (aliases : List ℕ) (stored : List Stored) (state : State) → (length aliases == 0) ≡ true
    → with_aliases_stored tree aliases stored state ≡ state
unseen tree [] stored state is = joined-none tree stored state
unseen tree (alias ∷ aliases) stored state is =
    let none = eqb-true (length (alias ∷ aliases)) 0 is in absurd (omega (arith, none))
