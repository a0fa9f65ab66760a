-- What is known at a point of a program, and its changes, each of which can be taken back. It does not say which
-- changes are made.
use Rattle.std.specs.Prelude.{◌≡◌, true, false, Bool, List, [], ◌∷◌, ◌++◌, if◌then◌else◌, length, map, slice_set, ℕ}
use Rattle.std.specs.Prelude.{suc, ◌≤◌, take, drop}
use Rattle.std.specs.Prelude.{Option, Some, None}
use Rattle.std.specs.List.{filter_map, insert, remove}
use Rattle.domain.specs.declared.versions.Version.{Version}
use Rattle.checker_state.specs.declared.held.Held.{Held as KeptHeld}
use Rattle.checker_known.specs.declared.knowledge.Knowledge.{Knowledge}
use Rattle.checker_known.specs.declared.knowledge.Row.{Row}
use Rattle.checker_known.specs.declared.change.Change.{Change}
use Rattle.checker_known.specs.declared.change.Change.TheVariants as change
use Rattle.checker_state.specs.State.{Dead, Facts, Held, Live, State, with_one}
use Rattle.checker_state.specs.View.{said_held}
use Rattle.checker_known.specs.View.{said_row}

-- what changes: what is known of rows, what is held, and whether no run comes here; and by whose rules, which stay
pub record Core : Type 0 where
  pub rows : List Row
  pub held : List KeptHeld
  pub is_dead : Bool
  pub rules : Version

abbrev pub core : Knowledge → Core
core known =
    record { rows = known.rows.items; held = known.held.items; is_dead = known.is_dead; rules = known.rules }

-- no list by variables was refused its growth
abbrev pub AllGrew : Knowledge → Type 0
AllGrew known = known.resting.refused ≡ None

-- as the definitions see it
abbrev pub viewed : Core → Facts
viewed core = record { rows = map said_row core.rows; held = map said_held core.held; rules = core.rules }

abbrev pub seen_core : Core → State
seen_core core = if core.is_dead then Dead else Live (viewed core)

-- ---- changes

-- what a change makes of it
abbrev pub made : Change → Core → Core
made (change.Row row was now) core = record core { rows = slice_set core.rows row now }
made (change.Inserted place held) core = record core { held = insert core.held place held }
made (change.Removed place held) core = record core { held = remove core.held place }
made (change.Replaced place was now) core = record core { held = slice_set core.held place now }
made change.Died core = record core { is_dead = true }
made change.Revived core = record core { is_dead = false }

-- the change that takes one back
abbrev pub inverse : Change → Change
inverse (change.Row row was now) = change.Row row now was
inverse (change.Inserted place held) = change.Removed place held
inverse (change.Removed place held) = change.Inserted place held
inverse (change.Replaced place was now) = change.Replaced place now was
inverse change.Died = change.Revived
inverse change.Revived = change.Died

-- changes, one after another
abbrev pub redone : List Change → Core → Core
redone [] core = core
redone (one ∷ more) core = redone more (made one core)

-- changes taken back, the last one first
abbrev pub undone : List Change → Core → Core
undone [] core = core
undone (one ∷ more) core = made (inverse one) (undone more core)

-- ---- what is held

-- the one at a place became another, or went
abbrev pub changed_at : (Held → Option Held) → ℕ → List Held → List Held
changed_at change place held =
    (take place held ++ filter_map change (take 1 (drop place held))) ++ drop (suc place) held

-- those that stand where this says so, and those behind
abbrev pub kept_by : List Bool → List Held → List Held
kept_by kept [] = []
kept_by [] (one ∷ held) = one ∷ held
kept_by (is_kept ∷ kept) (one ∷ held) = if is_kept then one ∷ kept_by kept held else kept_by kept held

-- where one comes among others: at a place, or nowhere, since they have it
abbrev pub IsPlace : Held → List Held → Option ℕ → Type 0
IsPlace one held None = with_one one held ≡ held
IsPlace one held (Some place) = (place ≤ length held) × (with_one one held ≡ insert held place one)
