-- What calls change as the checker keeps it. It does not say what is known of it.
use Rattle.std.specs.Prelude.{ℕ, ℤ, ◌≡◌, List, [], ◌∷◌, ◌++◌, Option, Some, None, filter, flat_map}
use Rattle.std.specs.Prelude.{if◌then◌else◌, nat_eq, slice_get}
use Rattle.std.specs.HashMap.{get}
use Rattle.std.specs.HashSet.{HashSet, contains}
use Rattle.types.specs.declared.form.TypeId.{TypeId}
use Rattle.typed_tree.specs.declared.tree.Tree.{Tree}
use Rattle.domain.specs.Interval.{Interval, common, joined}
use Rattle.domain.specs.Facts.{Fact, Path}
use Rattle.checker_rows.specs.Limits.{row_limits}
use Rattle.checker_rows.specs.Rows.{rows_of}
use Rattle.checker_state.specs.Bounds.{Bound, plus}
use Rattle.checker_state.specs.Loops.{is_among}
use Rattle.checker_state.specs.State.{State}
use Rattle.checker_state.specs.Stores.{is_entire}
use Rattle.checker_state.specs.View.{said_reach}
use Rattle.checker_loops.specs.Pairs.{Listed, all_aliases_in}
use Rattle.checker_calls.specs.declared.changes.Change.{Change as KeptChange}
use Rattle.checker_calls.specs.declared.ranges.Ranges.{Ranges}
use Rattle.checker_calls.specs.Actuals.{Bearer, Binding, Passed, Reached, actual_of, bearers_named}
use Rattle.checker_calls.specs.Exit.{Change, Touches, all_common, all_joined, changes_of, is_own_path, is_row}
use Rattle.checker_calls.specs.Exit.{is_steady, range_at_end, roots_changed, touched_behind, with_exits}

-- ---- ranges by numbers

abbrev pub range_at : Ranges → ℕ → Option Interval
range_at ranges number = get nat_eq ranges.by_number number

-- a number has a range, and the others have what they had
abbrev pub HasRange : ℕ → Interval → (old new : Ranges) → Type 0
HasRange number range old new = (other : ℕ) → range_at new other
    ≡ (if nat_eq number other then Some range else range_at old other)

-- ---- what is claimed of the end of a block

pub record AtExit : Type 0 where
  pub tree : Tree
  pub facts : List Fact

-- where the values of a row lie by a range that is known, or else by its type
abbrev pub known_of : Tree → ℕ → Option Interval → Interval
known_of tree row None = row_limits (rows_of tree) row
known_of tree row (Some range) = range

abbrev pub known_at : Tree → Ranges → ℕ → Interval
known_at tree ranges row = known_of tree row (range_at ranges row)

-- this is known by facts
abbrev pub AreKnown : Tree → List Fact → Ranges → Type 0
AreKnown tree facts ranges = (row : ℕ) → known_at tree ranges row ≡ range_at_end tree facts row

-- ---- what is changed

abbrev pub said_change : KeptChange → Change
said_change change = record {
  bearer = Reached change.row (said_reach change.reach);
  type_id = change.type_id;
  range = change.range;
}

-- the variables of the caller that a call may change, and their aliases there
abbrev pub touched_by : Listed → ℕ → List Binding → List ℕ → List ℕ
touched_by listed caller bindings changes =
    roots_changed bindings changes ++ all_aliases_in listed caller (roots_changed bindings changes)

-- what a call touches, by what the callee lists and by the facts at its end
abbrev pub touches_by : Tree → Listed → (caller : ℕ) → List Binding → List ℕ → List Fact → Touches
touches_by tree listed caller bindings changes facts = record {
  touched = touched_by listed caller bindings changes;
  changes = flat_map (λ root. changes_of tree facts root (actual_of bindings root)) changes;
}

-- what is known behind a call that touches this, and of whose end these facts are claimed
abbrev pub left_behind : Tree → ℕ → List Binding → Touches → List Fact → State → State
left_behind tree block bindings touches facts state =
    with_exits tree block bindings touches facts (touched_behind tree touches.changes touches.touched state)

-- a range beside one that is known, if one is
abbrev pub met : Option Interval → Interval → Interval
met None range = range
met (Some known) range = common known range

-- the values of all of some changes, if there are any
abbrev pub common_of : List Change → Option Interval
common_of [] = None
common_of (change ∷ changes) = Some (all_common changes change.range)

-- the changes of all of a row
abbrev pub just : ℕ → List Change → List Change
just row changes = filter (λ change. is_row row change.bearer) changes

-- the values of a range and those that are known, if some are
abbrev pub joined_with : Option Interval → Interval → Interval
joined_with None range = range
joined_with (Some known) range = joined range known

-- values that are known, if some are, and those of a range
abbrev pub added : Option Interval → Interval → Interval
added None range = range
added (Some known) range = joined known range

-- the range of a type, if it is there
abbrev pub range_of_type : Ranges → Option TypeId → Option Interval
range_of_type ranges None = None
range_of_type ranges (Some id) = range_at ranges id.index

-- where the values lie of each row of which all is changed, and those of each type of which some are
abbrev pub AreRows : List Change → Ranges → Type 0
AreRows changes ranges = (row : ℕ) → range_at ranges row ≡ common_of (just row changes)

abbrev pub AreTypes : List Change → Ranges → Type 0
AreTypes changes ranges = (type_id : Option TypeId) (range : Interval)
    → joined_with (range_of_type ranges type_id) range ≡ all_joined type_id changes range

-- the variables of a list
abbrev pub AreRoots : {S : Type 0} → List ℕ → HashSet ℕ S → Type 0
AreRoots roots found = (root : ℕ) → contains nat_eq found root ≡ is_among root roots

-- ---- bearers and bounds

-- the rows of which all bears leaves
abbrev pub whole_rows : List Bearer → List ℕ
whole_rows [] = []
whole_rows (Passed range ∷ bearers) = whole_rows bearers
whole_rows (Reached row reach ∷ bearers) = if is_entire reach then row ∷ whole_rows bearers else whole_rows bearers

-- those of what a path names, unless that is the callee's own
abbrev pub rows_outside : Tree → ℕ → List Binding → Path → List ℕ
rows_outside tree block bindings path =
    if is_own_path block path bindings (slice_get tree.variables.items path.root) then []
    else whole_rows (bearers_named tree bindings path)

-- a variable with a number more, if it is steady
abbrev pub steady_at : Touches → ℕ → ℤ → Option Bound
steady_at touches root n = if is_steady touches root then Some (plus root n) else None
