-- What a checker knows of the value of an expression, an ordinal or a set (ISO 7185:1990, 6.7.1, 6.7.2.4, 6.7.2.5), and
-- when the tests of members surely pass. It does not say which value an expression has.
use Rattle.std.specs.Prelude.{int_lt, Bool, ◌&&◌, ◌||◌}
use Rattle.members.specs.Laws.{IsSet}
use Rattle.members.specs.declared.sets.Operator.{Operator}
use Rattle.members.specs.declared.sets.Operator.TheVariants as operator
use Rattle.domain.specs.Hull.{HasSet, hull_between, hull_of, members}
use Rattle.domain.specs.Interval.{Interval, HasMember, common, is_included, joined, vacant}
use Rattle.meaning.specs.declared.value.Value.{Value}
use Rattle.meaning.specs.declared.value.Value.TheVariants.{Members, Number}
use Rattle.checker_state.specs.declared.value.Known.{Known}
use Rattle.checker_state.specs.declared.value.Known.TheVariants.{Ordinal, Set}
use Rattle.checker_state.specs.State.{State, unless_empty}

-- the range of the number of an ordinal, or of the members of a set
abbrev pub known_range : Known → Interval
known_range (Ordinal range) = range
known_range (Set hull) = hull

-- a value is as it is known: an ordinal with its number in the range, or a set with all members there
abbrev pub IsKnown : Known → Value → Type 0
IsKnown (Ordinal range) (Number n) = HasMember range n
IsKnown (Ordinal range) (Members set) = ⊥
IsKnown (Set hull) (Number n) = ⊥
IsKnown (Set hull) (Members set) = IsSet set × HasSet hull set

-- no run goes on from an empty range of an ordinal; a set with an empty range is the empty set
abbrev pub unless_none : Known → State → State
unless_none (Ordinal range) state = unless_empty range state
unless_none (Set hull) state = state

-- ---- set constructors (6.7.1)

-- the test of a member surely passes, and where the member lies behind the test
abbrev pub is_closed_member : Interval → Bool
is_closed_member range = is_included range members

abbrev pub tested_member : Interval → Interval
tested_member range = common range members

-- that of the members from a first to a last one surely passes: there are surely none, or both can surely be members
abbrev pub is_closed_range : (first last : Interval) → Bool
is_closed_range first last =
    int_lt last.last first.first || (is_closed_member first && is_closed_member last)

-- the members of the empty set, of one with a member more, and of one with all members from a first to a last more
abbrev pub no_members : Interval
no_members = vacant

abbrev pub with_member : Interval → Interval → Interval
with_member hull range = joined hull (hull_of range)

abbrev pub with_members : Interval → (first last : Interval) → Interval
with_members hull first last = joined hull (hull_between first last)

-- ---- operators of sets (6.7.2.4)

abbrev pub operated_sets : Operator → Interval → Interval → Interval
operated_sets operator.Union a b = joined a b
operated_sets operator.Intersection a b = common a b
operated_sets operator.Difference a b = a
