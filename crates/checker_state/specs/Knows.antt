-- What a checker knows of a run at a point of it: that a state holds there, of rows that are as it is told; and what an
-- assignment, stores and turns of loops keep (ISO 7185:1990, 6.5.1, 6.8.2.2, 6.8.3.7 to 6.8.3.9). It does not say that
-- a run keeps it.
use Rattle.std.specs.Prelude.{◌≡◌, ℕ, ℤ, ◌+ℤ◌, ◌<◌, ◌≤◌, ◌⊎◌, Bool, true, false, List, [], ◌∷◌, Option, Some, None}
use Rattle.std.specs.Prelude.{Contains, slice_index_or}
use Rattle.std.specs.List.{list_any}
use Rattle.domain.specs.Interval.{Interval, HasMember}
use Rattle.meaning.specs.Integers.{is_integer_number}
use Rattle.meaning.specs.declared.value.Value.{Value}
use Rattle.meaning.specs.declared.value.Value.TheVariants.{Members, Number}
use Rattle.meaning.specs.Store.{Environment, Store}
use Rattle.types.specs.declared.form.Step.{Step}
use Rattle.checker_rows.specs.Rows.{Parts, indexes_of, no_parts}
use Rattle.checker_state.specs.Bounds.{Bound}
use Rattle.checker_state.specs.declared.growing.Growing.{Growing}
use Rattle.checker_state.specs.State.{Dead, Facts, Held, Live, State, Table, row_at}
use Rattle.checker_state.specs.Changes.{bound_rests_on, rests_on}
use Rattle.checker_state.specs.Loops.{is_among}
use Rattle.checker_state.specs.Stores.{Index, Reach}
use Rattle.checker_state.specs.Holds.{GrowsSo, HasComponent, HasNumber, HasValue, IndexesLie}
use Rattle.checker_state.specs.Holds.{IsBound, IsIn, IsOfRow, Moment, StateHolds, component_at, moment, value_at}

-- an environment shows none but so many variables
pub record Shows (variables : ℕ) (env : Environment) : Type 0 where
  pub only : (root : ℕ) → variables ≤ root → env.variables root ≡ None

-- the value of an expression that may have a bound form: the number that the bound is
abbrev pub IsOfForm : Moment → Option Bound → Value → Type 0
IsOfForm moment None v = Unit {0}
IsOfForm moment (Some bound) v = (n : ℤ) × (v ≡ Number n) × IsBound moment bound n

-- the value of an expression that may be a step of a variable: the one that it had plus a number of a range, which is
-- one of integer
abbrev pub IsStep : Moment → ℕ → Option Interval → Value → Type 0
IsStep moment root None v = Unit {0}
IsStep moment root (Some step) v =
    (old number : ℤ) × HasNumber moment root old × HasMember step number × (v ≡ Number (old +ℤ number))
    × (is_integer_number (old +ℤ number) ≡ true)

-- a value is a number of integer
abbrev pub IsInteger : Value → Type 0
IsInteger (Number n) = is_integer_number n ≡ true
IsInteger (Members set) = ⊥

-- a variable grows so where a turn begins, and its value, if it has one, is one of integer
abbrev pub IsBegun : Moment → (variables root : ℕ) → Growing → Type 0
IsBegun moment variables root growing =
    (root < variables) × GrowsSo root growing moment
    × ((v : Value) → value_at moment root [] ≡ Some v → IsInteger v)

-- ---- what rests on some variables

abbrev pub bound_rests : List ℕ → Bound → Bool
bound_rests roots bound = list_any (λ root. bound_rests_on root bound) roots

abbrev pub rests_on_any : List ℕ → Held → Bool
rests_on_any roots held = list_any (λ root. rests_on root held) roots

-- a form rests on none of them
abbrev pub IsFormApart : List ℕ → Option Bound → Type 0
IsFormApart roots form = (bound : Bound) → form ≡ Some bound → bound_rests roots bound ≡ false

-- ---- what is kept

-- from a store to a later one a variable that isn't touched has the values that it had, and one that isn't among the
-- controls is still defined where it was
pub record IsKept (env : Environment) (touched controls : List ℕ) (before after : Store) : Type 0 where
  pub values : (root : ℕ) → is_among root touched ≡ false → (steps : List Step)
      → value_at (moment env after) root steps ≡ value_at (moment env before) root steps
  pub defined : (root : ℕ) → is_among root controls ≡ false → (steps : List Step)
      → HasValue (moment env before) root steps → HasValue (moment env after) root steps

-- a variable may have another value, and so may its aliases and parts of these; all else of a store is as it was, and
-- what was defined still is
pub record OneChanges (env : Environment) (root : ℕ) (aliases : List ℕ) (before after : Store) : Type 0 where
  pub others : (other : ℕ) (steps : List Step) → (other ≡ root → steps ≡ [] → ⊥) → is_among other aliases ≡ false
      → value_at (moment env after) other steps ≡ value_at (moment env before) other steps
  pub defined : (other : ℕ) (steps : List Step) → (other ≡ root → steps ≡ [] → ⊥)
      → HasValue (moment env before) other steps → HasValue (moment env after) other steps

-- ---- what stores reach

-- the form of an index is a number
abbrev pub IsIndex : Environment → Store → Index → ℤ → Type 0
IsIndex env store index number = (bound : Bound) → index.form ≡ Some bound → IsBound (moment env store) bound number

-- those of several
abbrev pub AreIndexes : Environment → Store → List Index → List ℤ → Type 0
AreIndexes env store [] [] = Unit {0}
AreIndexes env store [] (number ∷ numbers) = ⊥
AreIndexes env store (index ∷ indexes) [] = ⊥
AreIndexes env store (index ∷ indexes) (number ∷ numbers) =
    IsIndex env store index number × AreIndexes env store indexes numbers

-- the first of some indexes are these numbers
abbrev pub BeginWith : List ℤ → List ℤ → Type 0
BeginWith [] indexes = Unit {0}
BeginWith (number ∷ numbers) [] = ⊥
BeginWith (number ∷ numbers) (index ∷ indexes) = (index ≡ number) × BeginWith numbers indexes

-- where all of certain first indexes is reached, these are numbers
abbrev pub IsReach : Environment → Store → Reach → Type 0
IsReach env store reach =
    reach.is_all ≡ true → (numbers : List ℤ) × AreIndexes env store reach.indexes numbers

-- their forms rest on none of some variables
abbrev pub IsReachApart : List ℕ → Reach → Type 0
IsReachApart aliases reach =
    reach.is_all ≡ true → (index : Index) → Contains reach.indexes index → IsFormApart aliases index.form

-- a component is one of those that are surely reached
abbrev pub IsReached : Environment → Store → Reach → List Step → Type 0
IsReached env store reach steps =
    (reach.is_all ≡ true)
    × ((numbers : List ℤ) × AreIndexes env store reach.indexes numbers × BeginWith numbers (indexes_of steps))

-- with the components of each row
module _ (rows : List Parts) where
  -- the rows are as it is told: the first are those of variables, each of which has its own; no row behind them has a
  -- variable as a whole; no component is of two rows; and the indexes lie where that is told
  pub record AreRows (table : Table) : Type 0 where
    pub own : (root : ℕ) → root < table.variables
        → slice_index_or rows root no_parts ≡ record { root = root; components = [] ∷ [] }
    pub inner : (row : ℕ) → table.variables ≤ row → IsOfRow rows row [] → ⊥
    pub apart : (row other : ℕ) (steps : List Step) → IsOfRow rows row steps → IsOfRow rows other steps
        → (slice_index_or rows row no_parts).root ≡ (slice_index_or rows other no_parts).root → row ≡ other
    pub indexes : (row : ℕ) → IndexesLie rows row (table.indexes row)

  -- a state holds, in an environment that shows none but so many variables
  pub record Knows (roots : ℕ) (env : Environment) (state : State) (store : Store) : Type 0 where
    pub shows : Shows roots env
    pub holds : StateHolds rows state (moment env store)

  -- what is known rests on none of some variables, none of which is known to grow, and the components that these have
  -- in a later store lie where their rows say
  pub record IsLoose (env : Environment) (aliases : List ℕ) (known : Facts) (after : Store) : Type 0 where
    pub held : (one : Held) → Contains known.held one → rests_on_any aliases one ≡ false
    pub growths : (root : ℕ) → is_among root aliases ≡ true → (row_at known root).growth ≡ None
    pub ranges : (row : ℕ) (steps : List Step) (v : Value)
        → is_among (slice_index_or rows row no_parts).root aliases ≡ true → IsOfRow rows row steps
        → component_at rows (moment env after) row steps ≡ Some v → IsIn (row_at known row).range v

  -- so it is of a state
  abbrev pub IsLooseIn : Environment → List ℕ → State → Store → Type 0
  IsLooseIn env aliases Dead after = Unit {0}
  IsLooseIn env aliases (Live known) after = IsLoose env aliases known after

  -- the values of some rows lie in the limits of their types
  abbrev pub InLimits : (limits : ℕ → Interval) → List ℕ → Environment → Store → Type 0
  InLimits limits touched env store =
      (row : ℕ) (steps : List Step) (v : Value) → Contains touched row → IsOfRow rows row steps
      → component_at rows (moment env store) row steps ≡ Some v → IsIn (limits row) v

  -- the components of all others have no values but those that they had
  abbrev pub AreUntouched : Environment → List ℕ → (before after : Store) → Type 0
  AreUntouched env touched before after =
      (row : ℕ) (steps : List Step) (v : Value) → (Contains touched row → ⊥) → IsOfRow rows row steps
      → component_at rows (moment env after) row steps ≡ Some v
      → component_at rows (moment env before) row steps ≡ Some v

  -- control variables are no structured ones: no row behind those of so many variables is of one of them
  abbrev pub AreEntire : ℕ → List ℕ → Type 0
  AreEntire variables controls =
      (row : ℕ) (steps : List Step) → variables ≤ row → IsOfRow rows row steps
      → is_among (slice_index_or rows row no_parts).root controls ≡ false

  -- values were stored to components of rows, each row with the range of its values; aliases may have them too
  pub record AreStored (env : Environment) (aliases : List ℕ) (reach : Reach) (stores : List (ℕ × Interval))
      (before after : Store) : Type 0 where
    -- what lies in no such row is as it was
    pub others : (root : ℕ) (steps : List Step) → is_among root aliases ≡ false
        → ((one : ℕ × Interval) → Contains stores one → IsOfRow rows one.0 steps
        → (slice_index_or rows (one.0) no_parts).root ≡ root → ⊥)
        → value_at (moment env after) root steps ≡ value_at (moment env before) root steps
    -- a component of such a row has the value that it had, or one of the range
    pub values : (one : ℕ × Interval) (steps : List Step) (v : Value) → Contains stores one → IsOfRow rows one.0 steps
        → component_at rows (moment env after) (one.0) steps ≡ Some v
        → (component_at rows (moment env before) (one.0) steps ≡ Some v) ⊎ IsIn (one.1) v
    -- what is defined stays so
    pub defined : (root : ℕ) (steps : List Step) → HasValue (moment env before) root steps
        → HasValue (moment env after) root steps
    -- what is reached has a value, and where all is, it is one of the range
    pub reached : (one : ℕ × Interval) (steps : List Step) → Contains stores one → IsOfRow rows one.0 steps
        → IsReached env before reach steps → HasComponent rows (moment env after) (one.0) steps
    pub all : (one : ℕ × Interval) (steps : List Step) (v : Value) → reach.is_all ≡ true → reach.indexes ≡ []
        → Contains stores one → IsOfRow rows one.0 steps
        → component_at rows (moment env after) (one.0) steps ≡ Some v → IsIn (one.1) v
