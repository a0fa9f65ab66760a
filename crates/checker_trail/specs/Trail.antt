-- How the state of the program changes: each change can be taken back, and stands on a trail until it is. It does not
-- say which changes are made.
use Rattle.std.specs.Prelude.{Option, None, ◌≡◌, List, [], ◌∷◌, ◌++◌, ℕ}
use Rattle.std.specs.Prelude.{take, drop}
use Rattle.typed_tree.specs.declared.tree.Tree.{Tree}
use Rattle.domain.specs.declared.versions.Version.{Version}
use Rattle.checker_trail.specs.declared.state.State.{State as Kept}
use Rattle.checker_known.specs.declared.change.Branch.{Branch}
use Rattle.checker_known.specs.declared.change.Change.{Change}
use Rattle.checker_state.specs.declared.growing.Growing.{Growing}
use Rattle.checker_state.specs.Growths.{row_outside}
use Rattle.checker_state.specs.State.{Dead, Held, Live, RowState, State, of_types, row_at, with_growth, with_row}
use Rattle.checker_known.specs.View.{type_rows}
use Rattle.checker_known.specs.Knowledge.{Core, core, inverse, made, redone, seen_core, undone}

abbrev pub seen : Kept → State
seen state = seen_core (core state.known)

-- ---- ways

-- a state has come from another: what was changed stands on the trail behind what stood there, and leads forth and back
pub record TrailGoes (old new : Kept) : Type 0 where
  pub same_table : new.table.now ≡ old.table.now
  pub more : List Change
  pub trail_is : new.trail.items ≡ old.trail.items ++ more
  pub forth : redone more (core old.known) ≡ core new.known
  pub back : undone more (core new.known) ≡ core old.known

-- what a step makes of what is seen; it was not short of memory
pub record Moved (step : State → State) (old new : Kept) : Type 0 where
  pub was_long : old.refused ≡ None
  pub seen_is : seen new ≡ step (seen old)
  pub goes : TrailGoes old new

-- the same unless memory ran out
pub record Moves (step : State → State) (old new : Kept) : Type 0 where
  pub unless_short : new.refused ≡ None → Moved step old new

-- a single change
pub record Made (change : Change) (old new : Kept) : Type 0 where
  pub was_long : old.refused ≡ None
  pub same_table : new.table.now ≡ old.table.now
  pub trail_is : new.trail.items ≡ old.trail.items ++ change ∷ []
  pub core_is : core new.known ≡ made change (core old.known)

pub record Makes (change : Change) (old new : Kept) : Type 0 where
  pub unless_short : new.refused ≡ None → Made change old new

-- a state that is not short knows what types tell, by some rules, and nothing can be taken back
pub record Started (rules : Version) (tree : Tree) (state : Kept) : Type 0 where
  pub table_is : state.table.now ≡ tree
  pub seen_is : seen state ≡ of_types rules (type_rows tree)
  pub no_trail : state.trail.items ≡ []

pub record Starts (rules : Version) (tree : Tree) (state : Kept) : Type 0 where
  pub unless_short : state.refused ≡ None → Started rules tree state

-- ---- branches

-- a way from one point ended at another
pub record EndsAt (start : Core) (branch : Branch) (end : Core) : Type 0 where
  pub forth : redone branch.changes.items start ≡ end
  pub back : undone branch.changes.items end ≡ start
  pub dead_is : branch.is_dead ≡ end.is_dead

-- a state is again as it was at its start, and the way from there ended where it was
pub record Left (start old new : Kept) (branch : Branch) : Type 0 where
  pub was_long : old.refused ≡ None
  pub same_table : new.table.now ≡ start.table.now
  pub trail_is : new.trail.items ≡ start.trail.items
  pub core_is : core new.known ≡ core start.known
  pub ends : EndsAt (core start.known) branch (core old.known)

pub record TrailLeaves (start old new : Kept) (branch : Branch) : Type 0 where
  pub unless_short : new.refused ≡ None → Left start old new branch

-- a state has come to an end
pub record Come (end : Core) (old new : Kept) : Type 0 where
  pub was_long : old.refused ≡ None
  pub core_is : core new.known ≡ end
  pub goes : TrailGoes old new

pub record Comes (end : Core) (old new : Kept) : Type 0 where
  pub unless_short : new.refused ≡ None → Come end old new

-- what is known of a row from here on, where a run comes
abbrev pub with_state : ℕ → RowState → State → State
with_state row known Dead = Dead
with_state row known (Live facts) = Live (with_row row known facts)

-- a variable grows so from here on, or isn't known to, where a run comes
abbrev pub with_growth_at : ℕ → Option Growing → State → State
with_growth_at root growth Dead = Dead
with_growth_at root growth (Live facts) = Live (with_growth root growth facts)

-- several variables aren't known to
abbrev pub all_ungrown : List ℕ → State → State
all_ungrown [] state = state
all_ungrown (root ∷ roots) state = all_ungrown roots (with_growth_at root None state)

-- a row doesn't grow any longer with the turns of a for statement so deep
abbrev pub at_outside : (depth row : ℕ) → State → State
at_outside depth row Dead = Dead
at_outside depth row (Live facts) = Live (with_row row (row_outside depth (row_at facts row)) facts)

-- something else is held from here on, where a run comes
abbrev pub over_held : (List Held → List Held) → State → State
over_held change Dead = Dead
over_held change (Live facts) = Live (record facts { held = change facts.held })

-- ---- steps of taking back

pub record WasCut (length : ℕ) (old new : Kept) (changes : List Change) : Type 0 where
  pub was_long : old.refused ≡ None
  pub same_table : new.table.now ≡ old.table.now
  pub same_core : core new.known ≡ core old.known
  pub trail_is : new.trail.items ≡ take length old.trail.items
  pub changes_are : changes ≡ drop length old.trail.items

-- the changes from a length on were cut off
pub record IsCut (length : ℕ) (old new : Kept) (changes : List Change) : Type 0 where
  pub unless_short : new.refused ≡ None → WasCut length old new changes

pub record TakenBack (change : Change) (old new : Kept) : Type 0 where
  pub was_long : old.refused ≡ None
  pub same_table : new.table.now ≡ old.table.now
  pub same_trail : new.trail.items ≡ old.trail.items
  pub core_is : core new.known ≡ made (inverse change) (core old.known)

-- a change was taken back
pub record TakesBack (change : Change) (old new : Kept) : Type 0 where
  pub unless_short : new.refused ≡ None → TakenBack change old new
