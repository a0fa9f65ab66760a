-- How variables grow with the turns of for statements (ISO 7185:1990, 6.8.3.9): what is known of that where two ways
-- meet, after a step, where a turn begins and where it ends, and behind the statement. It does not say which statements
-- are steps, nor how many turns there are.
use Rattle.std.specs.Prelude.{ℕ, Bool, true, false, ◌&&◌, Option, Some, None, if◌then◌else◌, map, nat_eq, nat_lt}
use Rattle.std.specs.Ordering.{int_eq}
use Rattle.domain.specs.declared.growth.Growth.{Growth}
use Rattle.domain.specs.Growths.{is_within, joined, next, reach, stepped}
use Rattle.domain.specs.Interval.{Interval, between, common, is_included}
use Rattle.checker_state.specs.declared.growing.Growing.{Growing}
use Rattle.checker_state.specs.State.{Dead, Live, RowState, State, range_of, row_at, unless_empty, with_row}

-- how a variable grows
abbrev pub growth_of : State → ℕ → Option Growing
growth_of Dead root = None
growth_of (Live known) root = (row_at known root).growth

-- where that leads in all turns
abbrev pub reached : Growing → Interval
reached growing = reach growing.most growing.growth

-- ---- where two ways meet

-- a growth with as many turns of the same for statement on both ways
abbrev pub growing_on_both : Growing → Growing → Option Growing
growing_on_both one other =
    if nat_eq one.depth other.depth && int_eq one.most other.most
    then Some (record one { growth = joined one.growth other.growth }) else None

-- on both ways a variable grows
abbrev pub joined_growth : Option Growing → Option Growing → Option Growing
joined_growth (Some one) (Some other) = growing_on_both one other
joined_growth one other = None

-- ---- where a turn begins, and after a step

-- a variable grows so from here on, and its values lie where that leads
abbrev pub with_growing : ℕ → Growing → State → State
with_growing root growing Dead = Dead
with_growing root growing (Live known) =
    Live (with_row root (record (row_at known root) {
      range = common (row_at known root).range (reached growing);
      growth = Some growing;
    }) known)

-- the same with another growth, if there is one
abbrev pub growing_by : Growing → Option Growth → Option Growing
growing_by growing None = None
growing_by growing (Some growth) = Some (record growing { growth = growth })

-- how a variable grows after a step
abbrev pub stepped_growth : (step : Option Interval) → Option Growing → Option Growing
stepped_growth (Some step) (Some growing) = growing_by growing (stepped step growing.growth)
stepped_growth step growing = None

-- after a step a variable that grows has a value: no run goes on where there is none
abbrev pub behind_step : ℕ → Option Growing → State → State
behind_step root None state = state
behind_step root (Some growing) state =
    unless_empty (common (range_of state root) (reached growing)) (with_growing root growing state)

-- ---- what is asked

-- before the first turn the value of a variable lies between the numbers with which a growth begins
abbrev pub can_grow : State → ℕ → Growth → Bool
can_grow state root growth = is_included (range_of state root) (between growth.first growth.last)

-- behind a turn of a for statement so deep a variable that grew with it has the growth of the next turn
abbrev pub has_grown_by : Option Growing → (depth : ℕ) → Growth → Bool
has_grown_by None depth growth = false
has_grown_by (Some growing) depth growth = nat_eq growing.depth depth && is_within growing.growth (next growth)

abbrev pub has_grown : State → ℕ → (depth : ℕ) → Growth → Bool
has_grown Dead root depth growth = true
has_grown (Live known) root depth growth = has_grown_by (row_at known root).growth depth growth

-- ---- behind a for statement

-- a growth with the turns of one that stands round this one
abbrev pub growing_outside : (depth : ℕ) → Option Growing → Option Growing
growing_outside depth None = None
growing_outside depth (Some growing) = if nat_lt growing.depth depth then Some growing else None

abbrev pub row_outside : ℕ → RowState → RowState
row_outside depth row = record row { growth = growing_outside depth row.growth }

-- behind a for statement that stands so deep nothing grows with its turns any longer
abbrev pub without_turns : ℕ → State → State
without_turns depth Dead = Dead
without_turns depth (Live known) = Live (record known { rows = map (row_outside depth) known.rows })
