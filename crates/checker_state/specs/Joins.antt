-- What a checker knows where two ways meet (ISO 7185:1990, 6.8.3.4, 6.8.3.5). It does not say which way a run takes.
use Rattle.std.specs.Prelude.{ℕ, ◌&&◌, ◌||◌, filter, length, map, max}
use Rattle.std.specs.List.{range_with_len}
use Rattle.domain.specs.Interval.{joined}
use Rattle.checker_state.specs.Growths.{joined_growth}
use Rattle.checker_state.specs.State.{Dead, Facts, Live, RowState, State, Table, gives, is_whole, row_at, with_more}

module _ (table : Table) where
  -- what is known of a row on both ways: all of it is defined where one says so, and the other gives it; and a variable
  -- grows as both say
  abbrev pub joined_row : Facts → Facts → ℕ → RowState
  joined_row one other row = record {
    range = joined (row_at one row).range (row_at other row).range;
    is_defined =
        ((row_at one row).is_defined && is_whole table other row)
        || ((row_at other row).is_defined && is_whole table one row);
    growth = joined_growth (row_at one row).growth (row_at other row).growth;
  }

  -- that of each row, and what either way holds and the other gives
  abbrev pub joined_facts : Facts → Facts → Facts
  joined_facts one other = record {
    rows = map (joined_row one other) (range_with_len 0 (max (length one.rows) (length other.rows)));
    held = with_more (filter (gives table one) other.held) (filter (gives table other) one.held);
    rules = one.rules;
  }

  -- what is known behind two ways that meet; one that no run takes adds nothing
  abbrev pub joined_states : State → State → State
  joined_states Dead other = other
  joined_states (Live one) Dead = Live one
  joined_states (Live one) (Live other) = Live (joined_facts one other)
