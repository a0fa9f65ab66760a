-- Where two ways of the state of the program meet: the rows that are set, and what is known behind both.
use Rattle.std.specs.Prelude.{None, ◌≡◌, ◌⊎◌, ℕ, List, [], ◌∷◌, length}
use Rattle.std.specs.Prelude.{slice_index_or}
use Rattle.std.specs.Prelude.{Contains}
use Rattle.checker_known.specs.declared.knowledge.Row.{Row}
use Rattle.checker_trail.specs.declared.state.State.{State as Kept}
use Rattle.checker_state.specs.Joins.{joined_states}
use Rattle.checker_state.specs.State.{State}
use Rattle.checker_known.specs.Knowledge.{Core, seen_core}
use Rattle.checker_trail.specs.Trail.{TrailGoes, seen, with_state}
use Rattle.checker_known.specs.View.{said_row}
use Rattle.checker_state.specs.State.{table_of}
use Rattle.checker_known.specs.Told.{none}

-- this is known of rows from here on
abbrev pub with_rows : List (ℕ × Row) → State → State
with_rows [] state = state
with_rows (one ∷ rows) state = with_rows rows (with_state one.0 (said_row one.1) state)

-- as many rows, of which the same is known but for some
pub record AreAlike (rows : List ℕ) (one other : Core) : Type 0 where
  pub count : length other.rows ≡ length one.rows
  pub each : (row : ℕ)
      → Contains rows row ⊎ (slice_index_or one.rows row none ≡ slice_index_or other.rows row none)

-- a state that has come from a start meets another way from there
pub record Joined (start : Kept) (end : Core) (old new : Kept) : Type 0 where
  pub was_long : old.refused ≡ None
  pub seen_is : seen new ≡ joined_states (table_of old.table.now) (seen old) (seen_core end)
  pub goes : TrailGoes start new

pub record Joins (start : Kept) (end : Core) (old new : Kept) : Type 0 where
  pub unless_short : new.refused ≡ None → Joined start end old new

-- the same where the other way was walked before
pub record JoinedBehind (start : Kept) (end : Core) (old new : Kept) : Type 0 where
  pub was_long : old.refused ≡ None
  pub seen_is : seen new ≡ joined_states (table_of old.table.now) (seen_core end) (seen old)
  pub goes : TrailGoes start new

pub record JoinsBehind (start : Kept) (end : Core) (old new : Kept) : Type 0 where
  pub unless_short : new.refused ≡ None → JoinedBehind start end old new
