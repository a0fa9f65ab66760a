-- What the checker knows of the actual parameters of a call, and what has the values of the formal ones for the caller
-- (ISO 7185:1990, 6.6.3). It says nothing of what a call does.
use Rattle.std.specs.Prelude.{ℕ, ◌++◌, Bool, List, [], ◌∷◌, Option, Some, None, if◌then◌else◌, map, nat_eq}
use Rattle.typed_tree.specs.declared.tree.PathStep.{PathStep}
use Rattle.typed_tree.specs.declared.tree.Tree.{Tree}
use Rattle.typed_tree.specs.declared.tree.Selector.{Selector}
use Rattle.typed_tree.specs.Accesses.{Origin, step_of, steps_of}
use Rattle.domain.specs.Interval.{Interval}
use Rattle.domain.specs.Facts.{Path}
use Rattle.checker_rows.specs.Limits.{integer}
use Rattle.checker_rows.specs.Rows.{rows_accessed, rows_under}
use Rattle.checker_state.specs.Bounds.{Bound}
use Rattle.checker_state.specs.Loops.{is_among}
use Rattle.checker_state.specs.Stores.{Index, Reach, entire}
use Rattle.checker_loops.specs.Loops.{rows_named}

-- the way from a variable to what is accessed in it, its indexes aside
abbrev pub way_accessed : Origin → List Selector → List PathStep
way_accessed origin selectors = steps_of origin ++ map step_of selectors

-- an actual parameter: an ordinal or a set, where it or its members lie, and its bound form, if it has one; a copy,
-- where its components lie, leaf by leaf; or a variable, by where its access begins, its selectors and what they reach
pub data Actual : Type 0 where
  OfValue : Interval → Option Bound → Actual
  OfRows : List Interval → Actual
  OfVariable : Origin → List Selector → Reach → Actual

-- what has the values of a leaf of a formal parameter for the caller: a value of its own, which lies in a range; or
-- what is reached in a row
pub data Bearer : Type 0 where
  Passed : Interval → Bearer
  Reached : (row : ℕ) → Reach → Bearer

-- all of some rows
abbrev pub all_of_rows : List ℕ → List Bearer
all_of_rows rows = map (λ row. Reached row entire) rows

-- what has the values of the leaves of a formal parameter, leaf by leaf
abbrev pub bearers_of : Tree → Actual → List Bearer
bearers_of tree (OfValue range form) = Passed range ∷ []
bearers_of tree (OfRows ranges) = map Passed ranges
bearers_of tree (OfVariable origin selectors reach) =
    map (λ row. Reached row reach) (rows_accessed tree origin selectors)

-- a formal parameter, by its root, with its actual one
pub record Binding : Type 0 where
  pub root : ℕ
  pub actual : Actual

-- the formal parameters with their actual ones
abbrev pub bound_to : List ℕ → List Actual → List Binding
bound_to [] actuals = []
bound_to (root ∷ roots) [] = []
bound_to (root ∷ roots) (actual ∷ actuals) = record { root = root; actual = actual } ∷ bound_to roots actuals

-- the actual parameter of a formal one, if a root is that of one
abbrev pub actual_of : List Binding → ℕ → Option Actual
actual_of [] root = None
actual_of (binding ∷ bindings) root =
    if nat_eq binding.root root then Some binding.actual else actual_of bindings root

-- the bearers of some rows among the rows of a formal parameter
abbrev pub bearers_at : (wanted rows : List ℕ) → List Bearer → List Bearer
bearers_at wanted [] bearers = []
bearers_at wanted (row ∷ rows) [] = []
bearers_at wanted (row ∷ rows) (bearer ∷ bearers) =
    if is_among row wanted then bearer ∷ bearers_at wanted rows bearers else bearers_at wanted rows bearers

-- the bearers of what a path names of a variable that is no formal parameter, or of one with such an actual parameter
abbrev pub bearers_for : Tree → Path → Option Actual → List Bearer
bearers_for tree path None = all_of_rows (rows_named tree path)
bearers_for tree path (Some actual) =
    bearers_at (rows_named tree path) (rows_under tree path.root []) (bearers_of tree actual)

-- the bearers of what a path names, as the callee knows it
abbrev pub bearers_named : Tree → List Binding → Path → List Bearer
bearers_named tree bindings path = bearers_for tree path (actual_of bindings path.root)

-- ---- where an actual parameter holds a call

-- nothing is known of the forms and indexes any longer that were evaluated before it
abbrev pub unknown_index : Index
unknown_index = record { form = None; range = integer }

abbrev pub unknown_reach : Reach → Reach
unknown_reach reach = record reach { indexes = map (λ index. unknown_index) reach.indexes }

abbrev pub after_call : Actual → Actual
after_call (OfValue range form) = OfValue range None
after_call (OfRows ranges) = OfRows ranges
after_call (OfVariable origin selectors reach) = OfVariable origin selectors (unknown_reach reach)

-- the actual parameters of a call, of which one may hold a call
abbrev pub settled : Bool → List Actual → List Actual
settled holds_call actuals = if holds_call then map after_call actuals else actuals
