-- The leaves of a variable that a callee changes, by places: the rows of the variable, and those that bear it.
use Rattle.std.proofs.Common.{arith, ◌≡◌, ◌∙◌, sym, ap, ap₂, refl, ℕ, zero, suc, ◌+◌, List, [], ◌∷◌, ◌++◌, append_assoc, map, min}
use Rattle.std.specs.List.{range_with_len}
use Rattle.typed_tree.specs.declared.tree.Tree.{Tree}
use Rattle.domain.specs.Facts.{Fact}
use Rattle.checker_calls.specs.Actuals.{Bearer}
use Rattle.checker_calls.specs.Exit.{Change, row_change, rows_changed}
use Rattle.checker_calls.proofs.RowsBehind.{none-changed}

module _ (tree : Tree) (facts : List Fact) (bear : ℕ → Bearer) where
  -- those of so many places
  abbrev pub leaves_to : (own borne count : ℕ) → List Change
  leaves_to own borne count = rows_changed tree facts (range_with_len own count) (map bear (range_with_len borne count))

  leaf-last : (own borne count : ℕ)
      → leaves_to own borne (suc count) ≡ leaves_to own borne count ++ row_change tree facts (own + count) (bear (borne + count)) ∷ []
  leaf-last own borne zero =
      let own_is : own ≡ own + 0 = omega arith in
      let borne_is : borne ≡ borne + 0 = omega arith in
      ap₂ (λ row other. row_change tree facts row (bear other) ∷ []) own_is borne_is
  leaf-last own borne (suc count) =
      let own_is : own + 1 + count ≡ own + suc count = omega arith in
      let borne_is : borne + 1 + count ≡ borne + suc count = omega arith in
      ap (λ rest. row_change tree facts own (bear borne) ∷ rest)
      (leaf-last (own + 1) (borne + 1) count
      ∙ ap₂ (λ row other. leaves_to (own + 1) (borne + 1) count ++ row_change tree facts row (bear other) ∷ []) own_is borne_is)

  -- one place more
  leaf-more : (own borne count : ℕ)
      → leaves_to own borne (count + 1) ≡ leaves_to own borne count ++ row_change tree facts (own + count) (bear (borne + count)) ∷ []
  leaf-more own borne count =
      let e : count + 1 ≡ suc count = omega arith in ap (leaves_to own borne) e ∙ leaf-last own borne count

  -- as many as there are of both
  pub leaves-whole : (own rows borne others count : ℕ) → count ≡ min rows others
      → leaves_to own borne count ≡ rows_changed tree facts (range_with_len own rows) (map bear (range_with_len borne others))
  leaves-whole own zero borne others count is =
      let e : count ≡ 0 = omega (arith, is) in ap (leaves_to own borne) e
  leaves-whole own (suc rows) borne zero count is =
      let e : count ≡ 0 = omega (arith, is) in
      ap (leaves_to own borne) e ∙ sym (none-changed tree facts (range_with_len own (suc rows)))
  leaves-whole own (suc rows) borne (suc others) count is =
      let e : count ≡ suc (min rows others) = omega (arith, is) in
      ap (leaves_to own borne) e
      ∙ ap (λ rest. row_change tree facts own (bear borne) ∷ rest) (leaves-whole (own + 1) rows (borne + 1) others (min rows others) refl)

-- a leaf more behind others
pub leaves-push : (tree : Tree) (facts : List Fact) (bear : ℕ → Bearer) (own borne place : ℕ) (before found : List Change) (leaf : Change)
    → found ≡ before ++ leaves_to tree facts bear own borne place → leaf ≡ row_change tree facts (own + place) (bear (borne + place))
    → found ++ leaf ∷ [] ≡ before ++ leaves_to tree facts bear own borne (place + 1)
leaves-push tree facts bear own borne place before found leaf so_far is =
    ap₂ (λ some one. some ++ one ∷ []) so_far is
    ∙ append_assoc before (leaves_to tree facts bear own borne place) (row_change tree facts (own + place) (bear (borne + place)) ∷ [])
    ∙ ap (λ more. before ++ more) (sym (leaf-more tree facts bear own borne place))
