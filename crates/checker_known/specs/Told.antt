-- What the end of a way tells of what is held elsewhere, and of rows that were changed. It does not say what is known
-- where two ways meet.
use Rattle.std.specs.Prelude.{◌≡◌, ◌&&◌, ◌||◌, Bool, ℕ, List, [], ◌∷◌, None, false, filter, flat_map, map}
use Rattle.std.specs.Prelude.{slice_index_or}
use Rattle.domain.specs.Interval.{joined, vacant}
use Rattle.checker_state.specs.declared.held.Held.{Held as KeptHeld}
use Rattle.checker_known.specs.declared.told.Arrival.{Arrival}
use Rattle.checker_known.specs.declared.told.Told.{Told}
use Rattle.checker_known.specs.declared.knowledge.Row.{Row}
use Rattle.checker_known.specs.declared.change.Change.{Change}
use Rattle.checker_known.specs.declared.change.Change.TheVariants as change
use Rattle.checker_state.specs.Growths.{joined_growth}
use Rattle.checker_state.specs.State.{Facts, Held, RowState, Table, gives, with_more}
use Rattle.checker_state.specs.State.{is_whole, row_at}
use Rattle.checker_known.specs.Knowledge.{Core, viewed}
use Rattle.checker_state.specs.View.{said_held}
use Rattle.checker_known.specs.View.{said_row}

-- ---- rows that are changed

-- the row of a change, and those of changes
abbrev pub row_changed : Change → List ℕ
row_changed (change.Row row was now) = row ∷ []
row_changed (change.Inserted place held) = []
row_changed (change.Removed place held) = []
row_changed (change.Replaced place was now) = []
row_changed change.Died = []
row_changed change.Revived = []

abbrev pub rows_changed : List Change → List ℕ
rows_changed changes = flat_map row_changed changes

-- what stands for a row that isn't there
abbrev pub none : Row
none = record { range = vacant; is_defined = false; growth = None }

-- what is known of a row at the end of a way
abbrev pub arrival_at : Table → Core → ℕ → Arrival
arrival_at table there row = record {
  row = row;
  known = slice_index_or there.rows row none;
  is_whole = is_whole table (viewed there) row;
}

-- a row by its number, and what is known of it
abbrev pub said_at : ℕ × Row → ℕ × RowState
said_at one = (one.0, said_row one.1)

-- what is known of a row here and at the end of another way
abbrev pub joined_at : Table → Facts → Arrival → ℕ × RowState
joined_at table one other = (
  other.row,
  record {
    range = joined (row_at one other.row).range other.known.range;
    is_defined =
        ((row_at one other.row).is_defined && other.is_whole)
        || (other.known.is_defined && is_whole table one other.row);
    growth = joined_growth (row_at one other.row).growth other.known.growth;
  },
)

-- ---- what is told

-- some of what is held there are left out, but nothing else is held behind, whichever of them are held
abbrev pub ToldLeaves : (left there stay : List Held) → Type 0
ToldLeaves left there stay = (test : Held → Bool) → with_more (filter test left) stay ≡ with_more (filter test there)
    stay

-- what the end of a way tells of what is held elsewhere, and of some rows
pub record AreTold (table : Table) (there : Core) (asked : List KeptHeld) (rows : List ℕ) (told : Told) : Type 0 where
  pub kept_are : told.kept.items ≡ map (gives table (viewed there)) (map said_held asked)
  pub held_are :
      ToldLeaves (map said_held told.held.items) (map said_held there.held)
      (filter (gives table (viewed there)) (map said_held asked))
  pub rows_are : told.rows.items ≡ map (arrival_at table there) rows
