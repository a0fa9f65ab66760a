-- Variables that calls leave as they are: entire ones that aren't structured, and no others.
use Rattle.std.proofs.Common.{arith, ◌≡◌, ⊎_elim, ◌⊎◌, ◌∙◌, ap, ap₂, refl, sym, ℕ, ℤ, Bool, true, false, cond, not, ◌&&◌}
use Rattle.std.proofs.Common.{nat_eq, List, [], ◌∷◌, ◌++◌, length, map, Option, Some, None}
use Rattle.std.specs.List.{Contains}
use Rattle.std.specs.Prelude.{slice_get}
use Rattle.std.proofs.lemmas.Bool.{false_from_ne_true, false≢true}
use Rattle.std.proofs.lemmas.Option.{slice_get_within}
use Rattle.types.specs.Forms.{Form}
use Rattle.types.specs.Types.{is_structured}
use Rattle.typed_tree.specs.WellFormed.{of_one}
use Rattle.typed_tree.specs.Accesses.{Origin, root_of, step_of}
use Rattle.typed_tree.specs.declared.tree.PathStep.{PathStep}
use Rattle.typed_tree.specs.declared.tree.Selector.{Selector}
use Rattle.typed_tree.specs.declared.tree.Tree.{Tree}
use Rattle.typed_tree.specs.declared.tree.Variable.{Variable}
use Rattle.checker_rows.specs.Rows.{is_under, is_variable_row, leaf_rows, numbers_where, own_row, rows_accessed, rows_under}
use Rattle.checker_state.specs.Bounds.{plus}
use Rattle.checker_state.specs.Stores.{Reach}
use Rattle.checker_loops.proofs.VariableRows.{variable-row}
use Rattle.checker_calls.specs.Actuals.{OfVariable, Reached, bearers_of, way_accessed}
use Rattle.checker_calls.specs.Exit.{Touches, is_steady, steady_bound}
use Rattle.checker_calls.proofs.Headings.{one-there}
use Rattle.checker_calls.proofs.Origins.{whole-rows}

-- a variable that isn't structured
plain-one : (types : List Form) (found : Option Variable) → of_one (λ variable. not (is_structured types variable.type_id)) found ≡ true
    → of_one (λ variable. is_structured types variable.type_id) found ≡ false
plain-one types None is = refl
plain-one types (Some variable) is = by (is_structured types variable.type_id) is
  where
    by : (structured : Bool) → not structured ≡ true → structured ≡ false
    by true is = absurd (false≢true is)
    by false is = refl

module _ (tree : Tree) (touches : Touches) (n : ℤ) (root : ℕ) (reach : Reach) where
  -- the bound of an entire one
  pub steady-entire : is_variable_row tree root ≡ true
      → steady_bound tree touches n (map (λ row. Reached row reach) (rows_under tree root [])) ≡ cond (is_steady touches root) (Some (plus root n)) None
  steady-entire own =
      ap (λ (structured : Bool). steady_bound tree touches n (map (λ row. Reached row reach)
      (cond structured (numbers_where (is_under root []) (length tree.variables.items) (leaf_rows tree)) (own_row root []))))
      (plain-one tree.types (slice_get tree.variables.items root) own)
      ∙ ap (λ (b : Bool). cond (b && is_steady touches root) (Some (plus root n)) None) own

  none-steady : (rows : List ℕ) → ((row : ℕ) → Contains rows row → is_variable_row tree row ≡ false)
      → steady_bound tree touches n (map (λ row. Reached row reach) rows) ≡ None
  none-steady [] each = refl
  none-steady (row ∷ other ∷ rows) each = refl
  none-steady (row ∷ []) each = ap (λ (b : Bool). cond (b && is_steady touches row) (Some (plus row n)) None) (each row (0, omega arith, refl))

module _ (tree : Tree) (touches : Touches) (n : ℤ) (root : ℕ) (reach : Reach) (origin : Origin) (selectors : List Selector)
    (root_is : root_of origin ≡ root) where
  abbrev is_whole : Bool
  is_whole = nat_eq (length (way_accessed origin selectors)) 0

  -- an entire variable that is accessed
  pub steady-whole : is_whole ≡ true → is_variable_row tree root ≡ true
      → steady_bound tree touches n (bearers_of tree (OfVariable origin selectors reach)) ≡ cond (is_steady touches root) (Some (plus root n)) None
  steady-whole whole own =
      ap (λ (rows : List ℕ). steady_bound tree touches n (map (λ row. Reached row reach) rows))
      (whole-rows tree origin selectors whole ∙ ap (λ (r : ℕ). rows_under tree r []) root_is)
      ∙ steady-entire tree touches n root reach own

  -- a part, or a structured one, has none
  pub steady-parts : (is_variable_row tree root ≡ false) ⊎ (is_whole ≡ false)
      → steady_bound tree touches n (bearers_of tree (OfVariable origin selectors reach)) ≡ None
  steady-parts other =
      none-steady tree touches n root reach (rows_accessed tree origin selectors)
      (λ row inside.
      false_from_ne_true (is_variable_row tree row)
      (λ own.
      let found = one-there (λ (v : Variable). not (is_structured tree.types v.type_id)) (slice_get tree.variables.items row) own in
      let (same, none, first) = variable-row tree origin selectors row inside (slice_get_within tree.variables.items row found.0 found.1) in
      ⊎_elim (λ isnt. false≢true (sym isnt ∙ ap (is_variable_row tree) (sym root_is ∙ same) ∙ own))
      (λ part.
      false≢true
      (sym part
      ∙ ap₂ (λ (steps : List PathStep) (rest : List Selector). nat_eq (length (steps ++ map step_of rest)) 0) first none))
      other))
