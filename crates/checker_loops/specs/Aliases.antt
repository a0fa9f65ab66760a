-- What is known after a store through one variable, of the others that may share places with it, its aliases
-- (ISO 7185:1990, 6.6.3.3). It says nothing of the variable itself.
use Rattle.std.specs.Prelude.{ℕ, Bool, false, List, [], ◌∷◌, Option, Some, None, if◌then◌else◌, map}
use Rattle.std.specs.List.{list_any}
use Rattle.types.specs.Types.{is_same}
use Rattle.types.specs.declared.form.TypeId.{TypeId}
use Rattle.typed_tree.specs.declared.tree.Tree.{Tree}
use Rattle.domain.specs.Interval.{Interval}
use Rattle.checker_rows.specs.Rows.{rows_of, rows_under, type_at}
use Rattle.checker_state.specs.Bounds.{Bound}
use Rattle.checker_state.specs.State.{State}
use Rattle.checker_state.specs.Changes.{all_changed, bound_rests_on}
use Rattle.checker_state.specs.Stores.{Index, Reach, with_joined}

-- an ordinal or a set that is stored: the type of its place, if that is there, and where it lies, or its members do
pub record Stored : Type 0 where
  pub type_id : Option TypeId
  pub range : Interval

-- two types are there and the same. A place has one type, by whichever variable it is reached, since what is passed to
-- a variable parameter has its type (6.6.3.3); so places of two types are never one, though a subrange may have the
-- values of another
abbrev pub same_types : Option TypeId → Option TypeId → Bool
same_types (Some one) (Some other) = is_same one other
same_types one other = false

-- a row may have the value that is stored, if its components have that type
abbrev pub row_joined : Tree → Stored → ℕ → State → State
row_joined tree stored row state =
    if same_types stored.type_id (type_at (rows_of tree) row) then with_joined row stored.range state else state

abbrev pub rows_joined : Tree → Stored → List ℕ → State → State
rows_joined tree stored [] state = state
rows_joined tree stored (row ∷ rows) state = rows_joined tree stored rows (row_joined tree stored row state)

-- an alias may have it, as a whole or in its components
abbrev pub alias_joined : Tree → Stored → ℕ → State → State
alias_joined tree stored alias state = rows_joined tree stored (rows_under tree alias []) state

abbrev pub aliases_joined : Tree → Stored → List ℕ → State → State
aliases_joined tree stored [] state = state
aliases_joined tree stored (alias ∷ aliases) state =
    aliases_joined tree stored aliases (alias_joined tree stored alias state)

-- aliases may have each of several that are stored
abbrev pub all_joined_to : Tree → List Stored → List ℕ → State → State
all_joined_to tree [] aliases state = state
all_joined_to tree (stored ∷ more) aliases state =
    all_joined_to tree more aliases (aliases_joined tree stored aliases state)

-- what is known of aliases through which others see what is stored
abbrev pub with_aliases_stored : Tree → List ℕ → List Stored → State → State
with_aliases_stored tree aliases stored state = all_joined_to tree stored aliases (all_changed aliases state)

-- a form, unless its variable is an alias
abbrev pub unless_alias : List ℕ → Option Bound → Option Bound
unless_alias aliases None = None
unless_alias aliases (Some form) =
    if list_any (λ alias. bound_rests_on alias form) aliases then None else Some form

abbrev pub index_unless_alias : List ℕ → Index → Index
index_unless_alias aliases index = record index { form = unless_alias aliases index.form }

-- what an access reaches, whose indexes count by their forms unless their variables are aliases
abbrev pub reach_unless_alias : List ℕ → Reach → Reach
reach_unless_alias aliases reach =
    record reach { indexes = map (index_unless_alias aliases) reach.indexes }
