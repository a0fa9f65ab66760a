-- What has the values of a leaf of a formal parameter for the caller, found among the bearers of what a path names.
use Rattle.std.proofs.Common.{arith, ◌≡◌, ◌∙◌, sym, ap, refl, subst, ℕ, zero, suc, Bool, true, false, cond}
use Rattle.std.proofs.Common.{List, [], ◌∷◌, Option, Some, None}
use Rattle.std.specs.List.{Contains}
use Rattle.std.specs.Prelude.{slice_get, slice_index_or}
use Rattle.std.proofs.lemmas.Option.{none-some, same_Some, slice_get_within}
use Rattle.types.specs.declared.form.Step.{Step}
use Rattle.typed_tree.specs.declared.tree.Tree.{Tree}
use Rattle.typed_tree.specs.declared.tree.Variable.{Variable as DeclaredVariable}
use Rattle.domain.specs.Facts.{Path}
use Rattle.checker_rows.specs.Rows.{Named, all_parts, no_parts, part_named, rows_under, variable_named}
use Rattle.checker_rows.proofs.Accessed.{IsOf}
use Rattle.checker_rows.proofs.Numbered.{under-root}
use Rattle.checker_state.specs.Loops.{is_among}
use Rattle.checker_loops.specs.Loops.{rows_in, rows_named}
use Rattle.checker_loops.proofs.VariableRows.{under-plain, under-whole}
use Rattle.checker_loops.proofs.Lists.{contains-more}
use Rattle.checker_calls.specs.Actuals.{Bearer, bearers_at}

-- ---- the bearers of rows

-- the bearer at the place of a row that is wanted
pub bearer-at : (wanted rows : List ℕ) (bearers : List Bearer) (j row : ℕ) (bearer : Bearer) → is_among row wanted ≡ true → slice_get rows j ≡ Some row
    → slice_get bearers j ≡ Some bearer → Contains (bearers_at wanted rows bearers) bearer
bearer-at wanted [] bearers j row bearer among row_at bearer_at = absurd (none-some row row_at)
bearer-at wanted (first ∷ rows) [] j row bearer among row_at bearer_at = absurd (none-some bearer bearer_at)
bearer-at wanted (first ∷ rows) (one ∷ bearers) zero row bearer among row_at bearer_at =
    let passes : is_among first wanted ≡ true = ap (λ (r : ℕ). is_among r wanted) (same_Some first row row_at) ∙ among in
    subst (λ (b : Bool). Contains (cond b (one ∷ bearers_at wanted rows bearers) (bearers_at wanted rows bearers)) bearer) (sym passes)
    (0, omega arith, same_Some one bearer bearer_at)
bearer-at wanted (first ∷ rows) (one ∷ bearers) (suc j) row bearer among row_at bearer_at =
    by (is_among first wanted) (bearer-at wanted rows bearers j row bearer among row_at bearer_at)
  where
    by : (b : Bool) → Contains (bearers_at wanted rows bearers) bearer
        → Contains (cond b (one ∷ bearers_at wanted rows bearers) (bearers_at wanted rows bearers)) bearer
    by true later = contains-more one (bearers_at wanted rows bearers) bearer later
    by false later = later

-- and the other way round
pub bearer-from : (wanted rows : List ℕ) (bearers : List Bearer) (bearer : Bearer) → Contains (bearers_at wanted rows bearers) bearer
    → (j : ℕ) × (row : ℕ) × (is_among row wanted ≡ true) × (slice_get rows j ≡ Some row) × (slice_get bearers j ≡ Some bearer)
bearer-from wanted [] bearers bearer inside = absurd (omega (arith, inside.1))
bearer-from wanted (first ∷ rows) [] bearer inside = absurd (omega (arith, inside.1))
bearer-from wanted (first ∷ rows) (one ∷ bearers) bearer inside =
    by (is_among first wanted) refl inside (λ later. bearer-from wanted rows bearers bearer later)
  where
    more : (j : ℕ) × (row : ℕ) × (is_among row wanted ≡ true) × (slice_get rows j ≡ Some row) × (slice_get bearers j ≡ Some bearer)
        → (j : ℕ) × (row : ℕ) × (is_among row wanted ≡ true) × (slice_get (first ∷ rows) j ≡ Some row) × (slice_get (one ∷ bearers) j ≡ Some bearer)
    more (j, row, among, row_at, at) = (suc j, row, among, row_at, at)

    by : (b : Bool) → is_among first wanted ≡ b → Contains (cond b (one ∷ bearers_at wanted rows bearers) (bearers_at wanted rows bearers)) bearer
        → (Contains (bearers_at wanted rows bearers) bearer
        → (j : ℕ) × (row : ℕ) × (is_among row wanted ≡ true) × (slice_get rows j ≡ Some row) × (slice_get bearers j ≡ Some bearer))
        → (j : ℕ) × (row : ℕ) × (is_among row wanted ≡ true) × (slice_get (first ∷ rows) j ≡ Some row) × (slice_get (one ∷ bearers) j ≡ Some bearer)
    by true passes (zero, within, at) rest = (0, first, passes, refl, ap Some at)
    by true passes (suc k, within, at) rest = more (rest (k, omega (arith, within), at))
    by false passes inside rest = more (rest inside)

-- ---- rows that a path names

module _ (tree : Tree) (path : Path) where
  -- what is there is a part of a variable
  named-variable : (named : Named) → part_named tree path ≡ Some named
      → (variable : DeclaredVariable) × (slice_get tree.variables.items path.root ≡ Some variable)
  named-variable named is = by (slice_get tree.variables.items path.root) refl is
    where
      by : (found : Option DeclaredVariable) → slice_get tree.variables.items path.root ≡ found → variable_named tree.types path.steps found ≡ Some named
          → (variable : DeclaredVariable) × (slice_get tree.variables.items path.root ≡ Some variable)
      by None found is = absurd (none-some named is)
      by (Some variable) found is = (variable, found)

  under-named : (row : ℕ) → Contains (rows_named tree path) row
      → (named : Named) × (part_named tree path ≡ Some named) × Contains (rows_under tree path.root named.steps) row
  under-named row inside = by (part_named tree path) refl inside
    where
      by : (found : Option Named) → part_named tree path ≡ found → Contains (rows_in tree path.root found) row
          → (named : Named) × (part_named tree path ≡ Some named) × Contains (rows_under tree path.root named.steps) row
      by None is inside = absurd (omega (arith, inside.1))
      by (Some named) is inside = (named, is, inside)

  -- each row there is one of the variable's
  pub named-root : (row : ℕ) → Contains (rows_named tree path) row → (slice_index_or (all_parts tree) row no_parts).root ≡ path.root
  named-root row inside =
      let (named, is, under) = under-named row inside in
      let variable = named-variable named is in
      under-root tree path.root named.steps row (slice_get_within tree.variables.items path.root variable.0 variable.1) under

  -- and, if it has a component, one of those under it
  pub named-under : (row : ℕ) (steps : List Step) → Contains (rows_named tree path) row → IsOf tree row steps → Contains (rows_under tree path.root []) row
  named-under row steps inside of_row =
      let (named, is, under) = under-named row inside in
      subst (λ (root : ℕ). Contains (rows_under tree root []) row) (named-root row inside)
      (under-whole tree row steps of_row (under-plain tree path.root named.steps row under))
