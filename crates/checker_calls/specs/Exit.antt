-- What is known behind a call (ISO 7185:1990, 6.7.3, 6.8.2.3), from what is known before it and from what a certificate
-- claims of the callee: the variables that it changes, and the facts that hold where it ends, in which each formal
-- parameter stands for its actual one. It does not say that the callee keeps to these claims.
use Rattle.std.specs.Prelude.{ℕ, ℤ, pos, ◌-ℤ◌, Bool, true, false, not, ◌&&◌, ◌||◌, List, [], ◌∷◌, ◌++◌, Option}
use Rattle.std.specs.Prelude.{Some, None, if◌then◌else◌, filter, flat_map, nat_eq, slice_get}
use Rattle.std.specs.List.{list_any}
use Rattle.types.specs.declared.form.TypeId.{TypeId}
use Rattle.typed_tree.specs.declared.tree.Tree.{Tree}
use Rattle.typed_tree.specs.declared.tree.Variable.{Variable as DeclaredVariable}
use Rattle.typed_tree.specs.Accesses.{root_of}
use Rattle.domain.specs.Interval.{Interval, common, joined}
use Rattle.domain.specs.Facts as fact
use Rattle.domain.specs.Facts.{Path}
use Rattle.checker_rows.specs.Limits.{row_limits}
use Rattle.checker_rows.specs.Rows.{index_at, is_variable_row, rows_of, rows_touched, rows_under, type_at}
use Rattle.checker_state.specs.Bounds.{Bound, constant, moved_bound, plus}
use Rattle.checker_state.specs.State.{Span, State, in_spans, range_of, with_range}
use Rattle.checker_state.specs.Changes.{all_changed, both_there, bound_rests_on, ordered, span_between, with_some}
use Rattle.checker_state.specs.Loops.{is_among, with_claim}
use Rattle.checker_state.specs.Stores.{all_of_row, is_entire}
use Rattle.checker_loops.specs.Loops.{rows_named}
use Rattle.checker_loops.specs.Pairs.{Listed, all_aliases_in}
use Rattle.checker_loops.specs.Sections.{BlockClaims}
use Rattle.checker_loops.specs.Aliases.{same_types}
use Rattle.checker_calls.specs.Actuals.{Actual, OfValue, OfRows, OfVariable, Bearer, Passed, Reached, Binding}
use Rattle.checker_calls.specs.Actuals.{actual_of, all_of_rows, bearers_named, bearers_of}

-- ---- what is changed

-- the variable that the caller knows by a root of the callee's change lines; what is passed as a value is not the
-- caller's
abbrev pub root_changed : ℕ → Option Actual → List ℕ
root_changed root None = root ∷ []
root_changed root (Some (OfValue range form)) = []
root_changed root (Some (OfRows ranges)) = []
root_changed root (Some (OfVariable origin selectors reach)) = root_of origin ∷ []

-- the variables of the caller that a call may change
abbrev pub roots_changed : List Binding → List ℕ → List ℕ
roots_changed bindings changes = flat_map (λ root. root_changed root (actual_of bindings root)) changes

-- a leaf of a variable that the callee may change: what bears it for the caller, its type, if that is there, and where
-- its values lie where the callee ends
pub record Change : Type 0 where
  pub bearer : Bearer
  pub type_id : Option TypeId
  pub range : Interval

-- a claim on where values lie, if it is on a row
abbrev pub claimed_of_row : Tree → ℕ → fact.Fact → Interval → Interval
claimed_of_row tree row (fact.Range path range) known =
    if is_among row (rows_named tree path) then common known range else known
claimed_of_row tree row other known = known

-- where the values of a row lie by all claims
abbrev pub exit_range : Tree → ℕ → List fact.Fact → Interval → Interval
exit_range tree row [] known = known
exit_range tree row (claim ∷ claims) known = exit_range tree row claims (claimed_of_row tree row claim known)

-- the same beside the values of its type
abbrev pub range_at_end : Tree → List fact.Fact → ℕ → Interval
range_at_end tree claims row = exit_range tree row claims (row_limits (rows_of tree) row)

abbrev pub row_change : Tree → List fact.Fact → ℕ → Bearer → Change
row_change tree claims row bearer = record {
  bearer = bearer;
  type_id = type_at (rows_of tree) row;
  range = range_at_end tree claims row;
}

-- the rows of a variable of the callee with their bearers
abbrev pub rows_changed : Tree → List fact.Fact → List ℕ → List Bearer → List Change
rows_changed tree claims [] bearers = []
rows_changed tree claims (row ∷ rows) [] = []
rows_changed tree claims (row ∷ rows) (bearer ∷ bearers) =
    row_change tree claims row bearer ∷ rows_changed tree claims rows bearers

-- what bears the leaves of a variable that the callee changes
abbrev pub bearers_changed : Tree → ℕ → Option Actual → List Bearer
bearers_changed tree root None = all_of_rows (rows_under tree root [])
bearers_changed tree root (Some (OfValue range form)) = []
bearers_changed tree root (Some (OfRows ranges)) = []
bearers_changed tree root (Some (OfVariable origin selectors reach)) =
    bearers_of tree (OfVariable origin selectors reach)

-- the leaves of a variable that the callee lists
abbrev pub changes_of : Tree → List fact.Fact → ℕ → Option Actual → List Change
changes_of tree claims root actual =
    rows_changed tree claims (rows_under tree root []) (bearers_changed tree root actual)

abbrev pub all_changes : Tree → List Binding → BlockClaims → List Change
all_changes tree bindings claims =
    flat_map (λ root. changes_of tree claims.exit root (actual_of bindings root)) claims.changes

-- ---- where values lie behind the call

-- a bearer is all of a row
abbrev pub is_row : ℕ → Bearer → Bool
is_row row (Passed range) = false
is_row row (Reached other reach) = nat_eq row other && is_entire reach

-- the values of all of some changes
abbrev pub all_common : List Change → Interval → Interval
all_common [] range = range
all_common (change ∷ changes) range = all_common changes (common range change.range)

-- the values of those of one type beside others
abbrev pub all_joined : Option TypeId → List Change → Interval → Interval
all_joined type_id [] range = range
all_joined type_id (change ∷ changes) range =
    all_joined type_id changes (if same_types type_id change.type_id then joined range change.range else range)

-- where the values lie of what was in a range, by the changes of just this, or else by all
abbrev pub range_behind : Option TypeId → List Change → (exact : List Change) → Interval → Interval
range_behind type_id changes [] range = all_joined type_id changes range
range_behind type_id changes (change ∷ exact) range = all_common exact change.range

abbrev pub row_behind : Tree → List Change → ℕ → State → State
row_behind tree changes row state =
    with_range row
    (range_behind (type_at (rows_of tree) row) changes (filter (λ change. is_row row change.bearer) changes)
    (range_of state row)) state

abbrev pub rows_behind : Tree → List Change → List ℕ → State → State
rows_behind tree changes [] state = state
rows_behind tree changes (row ∷ rows) state = rows_behind tree changes rows (row_behind tree changes row state)

-- what is known of what a call touches, where nothing is claimed of its end but where values lie
abbrev pub touched_behind : Tree → List Change → List ℕ → State → State
touched_behind tree changes touched state =
    rows_behind tree changes (rows_touched tree touched) (all_changed touched state)

-- ---- the facts at the end

-- which variables a call touches, and which of them it changes just as they are
pub record Touches : Type 0 where
  pub touched : List ℕ
  pub changes : List Change

-- a variable is untouched, or changed just as it is: what is said of it at the end is said of it behind the call
abbrev pub is_steady : Touches → ℕ → Bool
is_steady touches root =
    not (is_among root touches.touched)
    || list_any (λ change. is_row root change.bearer) touches.changes

-- a bound of an actual parameter with a number more, if its variable is untouched
abbrev pub untouched_form : Touches → ℤ → Option Bound → Option Bound
untouched_form touches n None = None
untouched_form touches n (Some bound) =
    if list_any (λ root. bound_rests_on root bound) touches.touched then None else moved_bound n bound

-- an entire variable with a number more
abbrev pub steady_bound : Tree → Touches → ℤ → List Bearer → Option Bound
steady_bound tree touches n (Reached row reach ∷ []) =
    if is_variable_row tree row && is_steady touches row then Some (plus row n) else None
steady_bound tree touches n bearers = None

-- a variable of the callee plus a number at its end: it says nothing of its own variables but parameters
abbrev pub exit_bound_of : Tree → Touches → ℕ → ℤ → Option Actual → Option Bound
exit_bound_of tree touches root n None = if is_steady touches root then Some (plus root n) else None
exit_bound_of tree touches root n (Some (OfValue range form)) = untouched_form touches n form
exit_bound_of tree touches root n (Some (OfRows ranges)) = None
exit_bound_of tree touches root n (Some (OfVariable origin selectors reach)) =
    steady_bound tree touches n (bearers_of tree (OfVariable origin selectors reach))

abbrev pub exit_plus : Tree → List Binding → Touches → ℕ → ℤ → Option Bound
exit_plus tree bindings touches root n = exit_bound_of tree touches root n (actual_of bindings root)

-- a bound of the callee at its end
abbrev pub exit_bound : Tree → List Binding → Touches → fact.Bound → Option Bound
exit_bound tree bindings touches (fact.Number n) = Some (constant n)
exit_bound tree bindings touches (fact.Plus root n) = exit_plus tree bindings touches root n

-- a span of the callee at its end, if both of its bounds are there
abbrev pub exit_span : Tree → List Binding → Touches → fact.Span → Option Span
exit_span tree bindings touches span =
    span_between (exit_bound tree bindings touches span.first) (exit_bound tree bindings touches span.last)

-- spans of the callee at its end, if all are there
abbrev pub exit_spans : Tree → List Binding → Touches → List fact.Span → Option (List Span)
exit_spans tree bindings touches [] = Some []
exit_spans tree bindings touches (span ∷ spans) =
    both_there (exit_span tree bindings touches span) (exit_spans tree bindings touches spans)

-- all of a row is defined, or what lies in spans; a variable that is no structured one has no elements
abbrev pub row_defined : Tree → Option (List Span) → ℕ → State → State
row_defined tree None row state = state
row_defined tree (Some []) row state = with_claim (all_of_row (index_at (rows_of tree) row) row) state
row_defined tree (Some (span ∷ spans)) row state =
    if is_variable_row tree row then state
    else with_claim (in_spans row (span ∷ spans)) state

-- so is what bears a leaf, where this is all of a row
abbrev pub bearer_defined : Tree → Option (List Span) → Bearer → State → State
bearer_defined tree spans (Passed range) state = state
bearer_defined tree spans (Reached row reach) state =
    if is_entire reach then row_defined tree spans row state else state

abbrev pub bearers_defined : Tree → Option (List Span) → List Bearer → State → State
bearers_defined tree spans [] state = state
bearers_defined tree spans (bearer ∷ bearers) state =
    bearers_defined tree spans bearers (bearer_defined tree spans bearer state)

-- one bound is at most another, where both have variables
abbrev pub variables_ordered : Option ℕ → ℤ → Option ℕ → ℤ → State → State
variables_ordered (Some root) m (Some other) n state = with_some (ordered root other (n -ℤ m)) state
variables_ordered root m other n state = state

abbrev pub bounds_ordered : Option Bound → Option Bound → State → State
bounds_ordered (Some a) (Some b) state = variables_ordered a.root a.number b.root b.number state
bounds_ordered a b state = state

abbrev pub has_actual : Option Actual → Bool
has_actual None = false
has_actual (Some actual) = true

-- a path names a part of a variable of the callee's own: its result
abbrev pub is_own_path : ℕ → Path → List Binding → Option DeclaredVariable → Bool
is_own_path block path bindings None = false
is_own_path block path bindings (Some variable) =
    nat_eq variable.block block && not (has_actual (actual_of bindings path.root))

-- a claim on the end of the block of a number is known behind the call; a claim on its own result is none of another
-- activation's
abbrev pub with_exit : Tree → ℕ → List Binding → Touches → fact.Fact → State → State
with_exit tree block bindings touches (fact.Range path range) state = state
with_exit tree block bindings touches (fact.Defined path spans) state =
    if is_own_path block path bindings (slice_get tree.variables.items path.root) then state
    else bearers_defined tree (exit_spans tree bindings touches spans) (bearers_named tree bindings path) state
with_exit tree block bindings touches (fact.Order root other number) state =
    bounds_ordered (exit_plus tree bindings touches root (pos 0)) (exit_plus tree bindings touches other number) state
with_exit tree block bindings touches (fact.Grows root growth) state = state

abbrev pub with_exits : Tree → ℕ → List Binding → Touches → List fact.Fact → State → State
with_exits tree block bindings touches [] state = state
with_exits tree block bindings touches (fact ∷ facts) state =
    with_exits tree block bindings touches facts (with_exit tree block bindings touches fact state)

-- ---- behind the call

-- what a call touches in the block that makes it: the variables that it may change, and their aliases there
abbrev pub touches_of : Tree → Listed → (caller : ℕ) → List Binding → BlockClaims → Touches
touches_of tree listed caller bindings claims =
    let roots = roots_changed bindings claims.changes in
    record { touched = roots ++ all_aliases_in listed caller roots; changes = all_changes tree bindings claims }

-- what is known in one block behind a call of another
abbrev pub behind_call : Tree → Listed → (caller block : ℕ) → List Binding → BlockClaims → State → State
behind_call tree listed caller block bindings claims state =
    let touches = touches_of tree listed caller bindings claims in
    with_exits tree block bindings touches claims.exit (touched_behind tree touches.changes touches.touched state)

-- where the value of a function lies: its result, by its root
abbrev pub result_range : Tree → BlockClaims → ℕ → Interval
result_range tree claims root = range_at_end tree claims.exit root
