-- How the way to a state is made shorter: the same is known there, and what is made on the way is less.
use Rattle.std.specs.Prelude.{None, ◌≡◌, false, ℕ, List, map}
use Rattle.checker_known.specs.declared.knowledge.Row.{Row}
use Rattle.checker_state.specs.declared.held.Held.{Held as KeptHeld}
use Rattle.checker_trail.specs.declared.state.State.{State as Kept}
use Rattle.checker_state.specs.State.{Facts, RowState, row_at}
use Rattle.checker_state.specs.View.{said_held}
use Rattle.checker_trail.specs.Meets.{with_rows}
use Rattle.checker_trail.specs.Trail.{TrailGoes, over_held, seen}

-- what is known of a row, with its number
abbrev pub at_row : Facts → ℕ → ℕ × RowState
at_row facts row = (row, row_at facts row)

-- a state has gone on from another
pub record Went (old new : Kept) : Type 0 where
  pub was_long : old.refused ≡ None
  pub goes : TrailGoes old new

pub record Goes (old new : Kept) : Type 0 where
  pub unless_short : new.refused ≡ None → Went old new

-- to where this is known of rows, and this is held
pub record IsStraight (rows : List (ℕ × Row)) (held : List KeptHeld) (old new : Kept) : Type 0 where
  pub is_live : new.known.is_dead ≡ false
  pub seen_is : new.refused ≡ None → seen new ≡ over_held (λ _. map said_held held) (with_rows rows (seen old))

-- the same is known of a state that has come from a start, on another way
pub record Shortened (start old new : Kept) : Type 0 where
  pub was_long : old.refused ≡ None
  pub seen_is : seen new ≡ seen old
  pub same_table : new.table.now ≡ old.table.now
  pub goes : TrailGoes start new

pub record Shortens (start old new : Kept) : Type 0 where
  pub unless_short : new.refused ≡ None → Shortened start old new
