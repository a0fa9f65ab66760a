-- What is known after the value of a variable changed (ISO 7185:1990, 6.8.2.2). It says nothing of the value's range.
use Rattle.std.specs.Prelude.{ℕ, ℤ, ◌+ℤ◌, ◌-ℤ◌, neg_ℤ, Bool, ◌||◌, List, [], ◌∷◌, Option, Some, None}
use Rattle.std.specs.Prelude.{if◌then◌else◌, nat_eq}
use Rattle.std.specs.List.{filter_map, list_any}
use Rattle.domain.specs.Interval.{Interval}
use Rattle.meaning.specs.Integers.{is_integer_number}
use Rattle.checker_state.specs.Bounds.{Bound, is_variable, moved_bound}
use Rattle.checker_state.specs.Growths.{behind_step, growth_of, stepped_growth}
use Rattle.checker_state.specs.State.{Dead, Held, Live, Ordered, Span, State, Stretched}
use Rattle.checker_state.specs.State.{with_growth, with_one, with_value}

-- ---- what is held, and the values that it rests on

abbrev pub bound_rests_on : ℕ → Bound → Bool
bound_rests_on root bound = is_variable root bound.root

abbrev pub span_rests_on : ℕ → Span → Bool
span_rests_on root span = bound_rests_on root span.first || bound_rests_on root span.last

-- it rests on the value of a variable
abbrev pub rests_on : ℕ → Held → Bool
rests_on root (Stretched stretch) = list_any (span_rests_on root) stretch.spans
rests_on root (Ordered a b number) = nat_eq root a || nat_eq root b

-- ---- bounds with others in their place

-- a span with other bounds, if both are there
abbrev pub span_between : Option Bound → Option Bound → Option Span
span_between (Some first) (Some last) = Some (record { first = first; last = last })
span_between first last = None

abbrev pub with_bounds : (Bound → Option Bound) → Span → Option Span
with_bounds change span = span_between (change span.first) (change span.last)

abbrev pub both_there : Option Span → Option (List Span) → Option (List Span)
both_there (Some span) (Some spans) = Some (span ∷ spans)
both_there span spans = None

-- spans with other bounds, if all are there
abbrev pub all_with_bounds : (Bound → Option Bound) → List Span → Option (List Span)
all_with_bounds change [] = Some []
all_with_bounds change (span ∷ spans) = both_there (with_bounds change span) (all_with_bounds change spans)

abbrev pub stretch_of : ℕ → Option (List Span) → Option Held
stretch_of row None = None
stretch_of row (Some spans) = Some (Stretched (record { row = row; spans = spans }))

-- an order, if its number is one that facts have
abbrev pub ordered : ℕ → ℕ → ℤ → Option Held
ordered root other number = if is_integer_number number then Some (Ordered root other number) else None

-- the number of an order after a variable in it rose by a number: to its left, to its right, on both sides
abbrev pub raised_number : Bool → Bool → ℤ → ℤ → ℤ
raised_number left right k number =
    if left then (if right then number else number +ℤ k) else (if right then number -ℤ k else number)

-- ---- after a change

-- a bound after a variable got a value of a form: it moves with a variable that rose by a number
abbrev pub changed_bound_by : ℕ → Bound → Bound → Option Bound
changed_bound_by root form bound =
    if is_variable root form.root then moved_bound (neg_ℤ form.number) bound else None

-- the same, where the value has a form or none
abbrev pub changed_bound : ℕ → Option Bound → Bound → Option Bound
changed_bound root None bound = if bound_rests_on root bound then None else Some bound
changed_bound root (Some form) bound =
    if bound_rests_on root bound then changed_bound_by root form bound else Some bound

-- an order, where a variable rose by a number
abbrev pub raised : ℕ → ℤ → ℕ → ℕ → ℤ → Option Held
raised root k a b number = ordered a b (raised_number (nat_eq root a) (nat_eq root b) k number)

-- an order that doesn't rest on a variable
abbrev pub unless_resting : ℕ → ℕ → ℕ → ℤ → Option Held
unless_resting root a b number = if nat_eq root a || nat_eq root b then None else Some (Ordered a b number)

-- an order after a variable got a value, perhaps of a form
abbrev pub changed_order : ℕ → Option Bound → ℕ → ℕ → ℤ → Option Held
changed_order root None a b number = unless_resting root a b number
changed_order root (Some form) a b number =
    if is_variable root form.root then raised root form.number a b number else unless_resting root a b number

-- what is left of what is held
abbrev pub changed : ℕ → Option Bound → Held → Option Held
changed root form (Stretched stretch) =
    stretch_of stretch.row (all_with_bounds (changed_bound root form) stretch.spans)
changed root form (Ordered a b number) = changed_order root form a b number

-- a variable got a value, perhaps of a bound form: it isn't known to grow any longer
abbrev pub with_change : ℕ → Option Bound → State → State
with_change root form Dead = Dead
with_change root form (Live known) =
    Live (record (with_growth root None known) { held = filter_map (changed root form) known.held })

-- several variables may have other values
abbrev pub all_changed : List ℕ → State → State
all_changed [] state = state
all_changed (root ∷ roots) state = all_changed roots (with_change root None state)

-- more is held, if there is more
abbrev pub with_some : Option Held → State → State
with_some more Dead = Dead
with_some None (Live known) = Live known
with_some (Some more) (Live known) = Live (record known { held = with_one more known.held })

-- a variable is known to be another plus a number
abbrev pub with_equal_to : ℕ → Option ℕ → ℤ → State → State
with_equal_to root None n state = state
with_equal_to root (Some other) n state =
    if nat_eq root other then state
    else with_some (ordered other root (neg_ℤ n)) (with_some (ordered root other n) state)

abbrev pub with_equal : ℕ → Option Bound → State → State
with_equal root None state = state
with_equal root (Some form) state = with_equal_to root form.root form.number state

-- a variable has a value of a range from here on, perhaps of a bound form, and perhaps the one that it had plus a
-- number of a step: then it goes on growing
abbrev pub assigned : ℕ → Interval → Option Bound → (step : Option Interval) → State → State
assigned root range form step state =
    behind_step root (stepped_growth step (growth_of state root))
    (with_equal root form (with_value root range (with_change root form state)))

-- ---- a bound in the place of a variable

-- a bound of a variable with its own bound in the variable's place
abbrev pub bound_in_place : ℕ → Bound → Bound → Option Bound
bound_in_place root own bound = if bound_rests_on root bound then moved_bound bound.number own else Some bound

-- a variable with another in its place
abbrev pub instead : ℕ → ℕ → ℕ → ℕ
instead root by a = if nat_eq root a then by else a

-- an order with a bound in the place of a variable: it goes, if the bound is a number
abbrev pub order_in_place : ℕ → Option ℕ → ℤ → ℕ → ℕ → ℤ → Option Held
order_in_place root None k a b number = None
order_in_place root (Some by) k a b number =
    ordered (instead root by a) (instead root by b)
    (raised_number (nat_eq root a) (nat_eq root b) (neg_ℤ k) number)

-- what is held with a bound in the place of a variable
abbrev pub in_place : ℕ → Bound → Held → Option Held
in_place root own (Stretched stretch) = stretch_of stretch.row (all_with_bounds (bound_in_place root own) stretch.spans)
in_place root own (Ordered a b number) =
    if nat_eq root a || nat_eq root b then order_in_place root own.root own.number a b number
    else Some (Ordered a b number)
