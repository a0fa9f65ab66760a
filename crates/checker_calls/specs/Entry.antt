-- The facts that hold where a called block begins, as they are given where it is called (ISO 7185:1990, 6.6.3): each
-- formal parameter stands for its actual one. It does not say what the block goes by then.
use Rattle.std.specs.Prelude.{ℕ, ℤ, pos, Bool, true, false, not, ◌&&◌, ◌||◌, List, [], ◌∷◌, Option, Some, None}
use Rattle.std.specs.Prelude.{if◌then◌else◌, map, option_map}
use Rattle.std.specs.List.{list_all, list_any}
use Rattle.typed_tree.specs.declared.tree.Tree.{Tree}
use Rattle.domain.specs.Interval.{Interval, is_included}
use Rattle.domain.specs.Facts as fact
use Rattle.checker_state.specs.Bounds.{Bound, constant, plus, raised_bound}
use Rattle.checker_state.specs.State.{Dead, Live, State, Wanted, at_most, bound_range, has_value, is_below, is_dead}
use Rattle.checker_state.specs.State.{is_had, moved, range_of}
use Rattle.checker_state.specs.Stores.{Index, Reach, gives_reached}
use Rattle.checker_state.specs.State.{table_of}
use Rattle.checker_rows.specs.Rows.{is_ordinal_variable, is_variable_row}
use Rattle.checker_calls.specs.Actuals.{Actual, OfValue, OfRows, OfVariable, Bearer, Passed, Reached, Binding}
use Rattle.checker_calls.specs.Actuals.{actual_of, bearers_named, bearers_of}

-- ---- what bears a leaf

-- where its values lie
abbrev pub range_borne : State → Bearer → Interval
range_borne state (Passed range) = range
range_borne state (Reached row reach) = range_of state row

-- it is known to be defined
abbrev pub is_defined_borne : Tree → State → Bearer → Bool
is_defined_borne tree state (Passed range) = true
is_defined_borne tree state (Reached row reach) = gives_reached (table_of tree) state reach row

-- ---- bounds

-- what a bound of the callee is where it is called: a bound form, if there is one; where it lies; whether it is known
-- to have a value
pub record Limit : Type 0 where
  pub form : Option Bound
  pub range : Interval
  pub has_value : Bool

-- one of a bound form
abbrev pub limit_of : Tree → State → Bound → Limit
limit_of tree state bound = record {
  form = Some bound;
  range = bound_range state bound;
  has_value = has_value (table_of tree) state bound;
}

-- greater by a number
abbrev pub limit_moved : ℤ → Limit → Limit
limit_moved n limit = record {
  form = option_map (raised_bound n) limit.form;
  range = moved n limit.range;
  has_value = limit.has_value;
}

-- a variable of the callee that stands in a bound: only an entire variable can, or a value
abbrev pub limit_of_variable : Tree → State → List Bearer → Option Limit
limit_of_variable tree state (Reached row reach ∷ []) =
    if is_variable_row tree row then Some (limit_of tree state (plus row (pos 0))) else None
limit_of_variable tree state bearers = None

-- the value of a set is no bound
abbrev pub limit_of_actual : Tree → State → ℕ → Option Actual → Option Limit
limit_of_actual tree state root None = Some (limit_of tree state (plus root (pos 0)))
limit_of_actual tree state root (Some (OfValue range form)) =
    Some (record { form = form; range = range; has_value = is_ordinal_variable tree root })
limit_of_actual tree state root (Some (OfRows ranges)) = None
limit_of_actual tree state root (Some (OfVariable origin selectors reach)) =
    limit_of_variable tree state (bearers_of tree (OfVariable origin selectors reach))

-- a variable of the callee plus a number
abbrev pub limit_of_plus : Tree → State → List Binding → ℕ → ℤ → Option Limit
limit_of_plus tree state bindings root n =
    option_map (limit_moved n) (limit_of_actual tree state root (actual_of bindings root))

-- a bound of the callee
abbrev pub limit_of_bound : Tree → State → List Binding → fact.Bound → Option Limit
limit_of_bound tree state bindings (fact.Number n) = Some (limit_of tree state (constant n))
limit_of_bound tree state bindings (fact.Plus root n) = limit_of_plus tree state bindings root n

-- two forms are there, and the first is known to be at most the second
abbrev pub forms_at_most : State → Option Bound → Option Bound → Bool
forms_at_most state (Some a) (Some b) = at_most state a b
forms_at_most state a b = false

-- the first is known to be at most the second, by forms or by ranges
abbrev pub is_at_most : State → Limit → Limit → Bool
is_at_most state a b = forms_at_most state a.form b.form || is_below a.range b.range

-- ---- what is given

-- the limits of a span of the callee
pub record Between : Type 0 where
  pub first : Limit
  pub last : Limit

-- both have values
abbrev pub have_values : Between → Bool
have_values limits = limits.first.has_value && limits.last.has_value

-- no index lies between them
abbrev pub is_empty_between : State → Between → Bool
is_empty_between state limits = is_at_most state (limit_moved (pos 1) limits.last) limits.first

-- what is asked of the span between them
abbrev pub wanted_between : Tree → State → Between → Wanted
wanted_between tree state limits = record {
  begins = λ bound. is_at_most state (limit_of tree state bound) limits.first;
  ends = λ bound. is_at_most state limits.last (limit_of tree state bound);
}

-- what is held of a row has what lies between limits
abbrev pub holds_between : Tree → State → ℕ → List Between → Bool
holds_between tree Dead row limits = false
holds_between tree (Live known) row limits =
    is_had known ((table_of tree).indexes row) row (map (wanted_between tree (Live known)) limits)

-- the components of a row between limits are known to be defined, where all of it is passed; or where a part is
abbrev pub are_reached : Tree → State → List Between → ℕ → Reach → List Index → Bool
are_reached tree state limits row reach [] =
    gives_reached (table_of tree) state reach row || holds_between tree state row limits
are_reached tree state limits row reach (index ∷ indexes) = gives_reached (table_of tree) state reach row

-- the row of a variable that is no structured one is its own: it has no elements
abbrev pub is_borne_between : Tree → State → List Between → Bearer → Bool
is_borne_between tree state limits (Passed range) = true
is_borne_between tree state limits (Reached row reach) =
    not (is_variable_row tree row) && are_reached tree state limits row reach reach.indexes

-- of each bearer the components between limits are: all have values, and there are none between some, or they are
abbrev pub are_borne_between : Tree → State → List Bearer → Option (List Between) → Bool
are_borne_between tree state bearers None = false
are_borne_between tree state bearers (Some limits) =
    list_all have_values limits
    && (list_any (is_empty_between state) limits || list_all (is_borne_between tree state limits) bearers)

-- the limits of spans of the callee, if all are there
abbrev pub both_limits : Option Limit → Option Limit → Option Between
both_limits (Some first) (Some last) = Some (record { first = first; last = last })
both_limits first last = None

abbrev pub between_and : Option Between → Option (List Between) → Option (List Between)
between_and (Some one) (Some more) = Some (one ∷ more)
between_and one more = None

abbrev pub limits_of_span : Tree → State → List Binding → fact.Span → Option Between
limits_of_span tree state bindings span =
    both_limits (limit_of_bound tree state bindings span.first) (limit_of_bound tree state bindings span.last)

abbrev pub limits_of : Tree → State → List Binding → List fact.Span → Option (List Between)
limits_of tree state bindings [] = Some []
limits_of tree state bindings (span ∷ spans) =
    between_and (limits_of_span tree state bindings span) (limits_of tree state bindings spans)

-- two limits have values, and the first is at most the second
abbrev pub are_ordered : State → Option Limit → Option Limit → Bool
are_ordered state (Some first) (Some last) =
    (first.has_value && last.has_value) && is_at_most state first last
are_ordered state first last = false

-- of each bearer all is known to be defined, or what lies in spans of the callee
abbrev pub are_borne : Tree → List Binding → State → List fact.Span → List Bearer → Bool
are_borne tree bindings state [] bearers = list_all (is_defined_borne tree state) bearers
are_borne tree bindings state (span ∷ spans) bearers =
    are_borne_between tree state bearers (limits_of tree state bindings (span ∷ spans))

-- a fact of the callee holds where it is called; a growth, which none claims where it begins, isn't known to
abbrev pub is_given : Tree → List Binding → State → fact.Fact → Bool
is_given tree bindings state (fact.Range path range) =
    list_all (λ bearer. is_included (range_borne state bearer) range) (bearers_named tree bindings path)
is_given tree bindings state (fact.Defined path spans) =
    are_borne tree bindings state spans (bearers_named tree bindings path)
is_given tree bindings state (fact.Order root other number) =
    are_ordered state (limit_of_plus tree state bindings root (pos 0))
    (limit_of_plus tree state bindings other number)
is_given tree bindings state (fact.Grows root growth) = false

-- each fact of the callee holds where it is called; at a dead point each does
abbrev pub are_given : Tree → List Binding → State → List fact.Fact → Bool
are_given tree bindings state facts = is_dead state || list_all (is_given tree bindings state) facts
