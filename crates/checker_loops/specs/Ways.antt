-- The way of a control variable from one bound to another (ISO 7185:1990, 6.8.3.9): what is known where it has values
-- at all, where a turn begins, where another follows, and where the last one ends. It does not say what a body does.
use Rattle.std.specs.Prelude.{ℕ, ℤ, pos, ◌+ℤ◌, ◌-ℤ◌, neg_ℤ, Bool, true, false, List, Option, Some, None, if◌then◌else◌}
use Rattle.std.specs.List.{list_any}
use Rattle.typed_tree.specs.declared.tree.Direction.{Direction}
use Rattle.typed_tree.specs.declared.tree.Direction.TheVariants.{To, DownTo}
use Rattle.typed_tree.specs.declared.tree.Expr.{Expr}
use Rattle.typed_tree.specs.declared.tree.Fitted.{Fitted}
use Rattle.typed_tree.specs.declared.tree.ForHead.{ForHead}
use Rattle.typed_tree.specs.declared.tree.RangeTest.{RangeTest}
use Rattle.typed_tree.specs.Calls.{holds_call}
use Rattle.typed_tree.specs.declared.tree.Relation.{Relation}
use Rattle.typed_tree.specs.declared.tree.Relation.TheVariants as relation
use Rattle.domain.specs.declared.versions.Version.{Version}
use Rattle.domain.specs.Interval.{Interval, at_least, at_most, difference, sum}
use Rattle.checker_state.specs.Bounds.{Bound, plus}
use Rattle.checker_state.specs.declared.value.Known.{Known}
use Rattle.checker_state.specs.State.{State, bound_range, range_of, unless_empty, with_defined}
use Rattle.checker_state.specs.Changes.{assigned, bound_rests_on}
use Rattle.checker_state.specs.Conditions.{bound_form, narrowed, related_forms, with_order}
use Rattle.checker_state.specs.Loops.{replaced}
use Rattle.checker_state.specs.Values.{known_range}

-- a bound of a for statement: its form, the test of its value, and where that lies
pub record End : Type 0 where
  pub form : Option Bound
  pub fits : RangeTest
  pub values : Interval

-- a control variable on its way from a first bound to a last one
pub record Way : Type 0 where
  pub control : ℕ
  pub direction : Direction
  pub first : End
  pub last : End

-- by what is told of variables, which of them are ordinals, and by the rules of a version
module _ (ordinal : ℕ → Bool) (version : Version) where
  -- a bound with what is known of its value
  abbrev pub end_of : Fitted → Known → End
  end_of bound known =
      record { form = bound_form ordinal version bound.value; fits = bound.fits; values = known_range known }

  -- the form of an expression behind which another was evaluated
  abbrev pub form_before : Expr → (later : Expr) → Option Bound
  form_before expression later = if holds_call later then None else bound_form ordinal version expression

  -- the way of a for statement, from what is known of the values of its bounds
  abbrev pub way_of : ForHead → (from to : Known) → Way
  way_of head from to = record {
    control = head.control;
    direction = head.direction;
    first = record (end_of head.first from) { form = form_before head.first.value head.last.value };
    last = end_of head.last to;
  }

-- ---- whether there are values

-- the relation of the first bound to the last where there are values, and where there are none
abbrev pub relation_of : Direction → Bool → Relation
relation_of To true = relation.LessOrEqual
relation_of To false = relation.Greater
relation_of DownTo true = relation.GreaterOrEqual
relation_of DownTo false = relation.Less

-- what is known there
abbrev pub where_counts : Bool → Way → State → State
where_counts counts way state =
    related_forms (relation_of way.direction counts) way.first.form way.last.form state

-- the values of a range are met with what is known of their form
abbrev pub met : Option Bound → State → Interval → Interval
met None state range = range
met (Some bound) state range =
    at_least (bound_range state bound).first (at_most (bound_range state bound).last range)

-- a way whose bounds have values of these ranges
abbrev pub with_values : (first last : Interval) → Way → Way
with_values first last way =
    record way { first = record (way.first) { values = first }; last = record (way.last) { values = last } }

-- ---- a turn

-- a form, unless its variable is touched
abbrev pub unless_touched : List ℕ → Option Bound → Option Bound
unless_touched touched None = None
unless_touched touched (Some bound) =
    if list_any (λ root. bound_rests_on root bound) touched then None else Some bound

-- a way with the forms of its bounds that turns leave as they are
abbrev pub steady : List ℕ → Way → Way
steady touched way =
    record way {
      first = record (way.first) { form = unless_touched touched way.first.form };
      last = record (way.last) { form = unless_touched touched way.last.form };
    }

-- one bound comes before another on a way
abbrev pub in_order : Direction → Option Bound → Option Bound → State → State
in_order To (Some a) (Some b) state = with_order a (pos 0) b state
in_order DownTo (Some a) (Some b) state = with_order b (pos 0) a state
in_order direction a b state = state

-- the numbers of a range that lie on a way
abbrev pub on_way : Direction → (first last : Interval) → Interval → Interval
on_way To first last range = at_least first.first (at_most last.last range)
on_way DownTo first last range = at_least last.first (at_most first.last range)

-- where the first turn begins: no run comes there if no value of the first bound lies on the way, since then the least
-- of them lies behind the greatest of the last one
abbrev pub entered : Way → State → State
entered way state =
    unless_empty (on_way way.direction way.first.values way.last.values way.first.values) state

-- the control variable as a bound
abbrev pub own : Way → Option Bound
own way = Some (plus way.control (pos 0))

-- the control variable has a value on the way
abbrev pub present : Way → State → State
present way state =
    with_defined way.control
    (narrowed way.control (on_way way.direction way.first.values way.last.values (range_of state way.control)) state)

-- where a turn begins
abbrev pub turn_begun : Way → State → State
turn_begun way state =
    in_order way.direction (own way) way.last.form (in_order way.direction way.first.form (own way) (present way state))

-- what a turn adds
abbrev pub step : Direction → ℤ
step To = pos 1
step DownTo = neg_ℤ (pos 1)

-- the control variable's next value as a bound
abbrev pub next : Way → Option Bound
next way = Some (plus way.control (step way.direction))

-- a single number
abbrev pub single : Interval
single = record { first = pos 1; last = pos 1 }

-- the numbers behind those of a range that aren't the last of a way
abbrev pub values_behind : Direction → (last : Interval) → Interval → Interval
values_behind To last range = sum (at_most (last.last -ℤ pos 1) range) single
values_behind DownTo last range = difference (at_least (last.first +ℤ pos 1) range) single

-- the control variable has one of them
abbrev pub moved_on : Way → Interval → State → State
moved_on way range state =
    unless_empty range (assigned way.control range (next way) None state)

-- where a turn ends and another follows: the control variable has its next value
abbrev pub turn_ended : Way → State → State
turn_ended way state =
    in_order way.direction (own way) way.last.form
    (moved_on way (values_behind way.direction way.last.values (range_of state way.control)) state)

-- where the last turn ends: the control variable is the last bound
abbrev pub way_out : Way → State → State
way_out way state = replaced way.control way.last.form state
