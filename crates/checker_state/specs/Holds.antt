-- What states say of a moment of a run, and when variables share no place (ISO 7185:1990, 6.5.1). It does not say that
-- a run keeps them.
use Rattle.std.specs.Prelude.{◌≡◌, ◌≢◌, ℕ, ℤ, pos, ◌+ℤ◌, ◌≤◌, ◌≤ℤ◌, true, ◌⊎◌, Bool, List, [], ◌∷◌, ◌++◌}
use Rattle.std.specs.Prelude.{Option, Some, None, Contains, length, slice_get, slice_index_or}
use Rattle.members.specs.Laws.{IsSet}
use Rattle.domain.specs.Growths.{HasPair}
use Rattle.domain.specs.Hull.{HasSet}
use Rattle.domain.specs.Interval.{Interval, HasMember}
use Rattle.meaning.specs.declared.value.Value.{Value}
use Rattle.meaning.specs.declared.value.Value.TheVariants.{Members, Number}
use Rattle.meaning.specs.Store.{Place, Store, Environment, stored, overlap}
use Rattle.types.specs.declared.form.OrdinalRange.{OrdinalRange}
use Rattle.types.specs.declared.form.Step.{Step}
use Rattle.checker_rows.specs.Rows.{LieIn, Parts, first_index, indexes_of, no_parts}
use Rattle.checker_state.specs.Bounds.{Bound}
use Rattle.checker_state.specs.declared.growing.Growing.{Growing}
use Rattle.checker_state.specs.State.{Claim, Dead, Defined, Facts, Held, Holds as Holding, Live, Ordered, Range, Span}
use Rattle.checker_state.specs.State.{State, Stretch, Stretched, row_at}

-- where and with what a run is: the visible variables with their places, and the store
pub record Moment : Type 0 where
  pub environment : Environment
  pub store : Store

abbrev pub moment : Environment → Store → Moment
moment env store = record { environment = env; store = store }

-- what the part of a place has as its value, if it is defined
abbrev pub part_of : Store → Option Place → List Step → Option Value
part_of store None steps = None
part_of store (Some place) steps = stored store (record place { steps = place.steps ++ steps })

-- what a part of a variable has as its value, if the variable is visible and the part is defined
abbrev pub value_at : Moment → ℕ → List Step → Option Value
value_at moment root steps = part_of moment.store (moment.environment.variables root) steps

-- a value is a number of a range, or a set with all its members there
abbrev pub IsIn : Interval → Value → Type 0
IsIn range (Number number) = HasMember range number
IsIn range (Members set) = IsSet set × HasSet range set

-- the value of a part of a variable is defined
abbrev pub HasValue : Moment → ℕ → List Step → Type 0
HasValue moment root steps = (v : Value) × (value_at moment root steps ≡ Some v)

-- an entire variable has a number as its value
abbrev pub HasNumber : Moment → ℕ → ℤ → Type 0
HasNumber moment root number = value_at moment root [] ≡ Some (Number number)

-- each variable that is told to be an ordinal has a number as its value, where it has one
abbrev pub HoldNumbers : (ordinal : ℕ → Bool) → Moment → Type 0
HoldNumbers ordinal moment =
    (root : ℕ) (v : Value) → ordinal root ≡ true → value_at moment root [] ≡ Some v → (n : ℤ) × (v ≡ Number n)

-- a variable grows so: the for statement that stands so deep round the point has finished some turns, no more than the
-- most, and the variable has no value but one behind as many
abbrev pub GrowsSo : ℕ → Growing → Moment → Type 0
GrowsSo root growing moment =
    (k : ℕ) × (slice_get moment.environment.turns growing.depth ≡ Some k) × (pos k ≤ℤ growing.most)
    × ((n : ℤ) → HasNumber moment root n → HasPair growing.growth (k, n))

abbrev pub GrowthHolds : ℕ → Option Growing → Moment → Type 0
GrowthHolds root None moment = Unit {0}
GrowthHolds root (Some growing) moment = GrowsSo root growing moment

-- what number a bound is
abbrev pub IsBoundBy : Moment → Option ℕ → ℤ → ℤ → Type 0
IsBoundBy moment None m n = m ≡ n
IsBoundBy moment (Some root) m n = (number : ℤ) × HasNumber moment root number × ((number +ℤ m) ≡ n)

abbrev pub IsBound : Moment → Bound → ℤ → Type 0
IsBound moment bound n = IsBoundBy moment bound.root bound.number n

-- the numbers from a first to a last
pub record Numbers : Type 0 where
  pub first : ℤ
  pub last : ℤ

-- what numbers the bounds of spans are
abbrev pub AreBounds : Moment → List Span → List Numbers → Type 0
AreBounds moment [] [] = Unit {0}
AreBounds moment [] (one ∷ numbers) = ⊥
AreBounds moment (span ∷ spans) [] = ⊥
AreBounds moment (span ∷ spans) (one ∷ numbers) =
    IsBound moment span.first one.first × IsBound moment span.last one.last × AreBounds moment spans numbers

-- indexes lie between these numbers, the first index between the first two, and so on; one behind them is any
abbrev pub LieBetween : List Numbers → List ℤ → Type 0
LieBetween [] indexes = Unit {0}
LieBetween (one ∷ numbers) [] = ⊥
LieBetween (one ∷ numbers) (index ∷ indexes) =
    (one.first ≤ℤ index) × (index ≤ℤ one.last) × LieBetween numbers indexes

-- with the components of each row
module _ (rows : List Parts) where
  -- steps lead to a component of a row
  abbrev pub IsOfRow : ℕ → List Step → Type 0
  IsOfRow row steps = Contains (slice_index_or rows row no_parts).components steps

  -- what such a component has as its value, if it is defined
  abbrev pub component_at : Moment → ℕ → List Step → Option Value
  component_at moment row steps = value_at moment (slice_index_or rows row no_parts).root steps

  abbrev pub HasComponent : Moment → ℕ → List Step → Type 0
  HasComponent moment row steps = HasValue moment (slice_index_or rows row no_parts).root steps

  -- each component of a row is defined
  abbrev pub IsWhole : ℕ → Moment → Type 0
  IsWhole row moment = (steps : List Step) → IsOfRow row steps → HasComponent moment row steps

  -- each component with a first index, whose indexes lie between numbers, is
  abbrev pub AreDefined : ℕ → List Numbers → Moment → Type 0
  AreDefined row numbers moment =
      (steps : List Step) (index : ℤ) → IsOfRow row steps → first_index steps ≡ Some index
      → LieBetween numbers (indexes_of steps) → HasComponent moment row steps

  -- the bounds of a stretch are numbers, between which each component is defined
  abbrev pub StretchHolds : Stretch → Moment → Type 0
  StretchHolds stretch moment =
      (numbers : List Numbers) × AreBounds moment stretch.spans numbers × AreDefined stretch.row numbers moment

  -- the indexes on the way to each component of a row are of these values
  abbrev pub IndexesLie : ℕ → List OrdinalRange → Type 0
  IndexesLie row ranges = (steps : List Step) → IsOfRow row steps → LieIn ranges (indexes_of steps)

  -- what is held is so
  abbrev pub HeldHolds : Held → Moment → Type 0
  HeldHolds (Stretched stretch) moment = StretchHolds stretch moment
  HeldHolds (Ordered root other number) moment =
      (m n : ℤ) × HasNumber moment root m × HasNumber moment other n × (m ≤ℤ (n +ℤ number))

  -- each value of a component of a row lies in a range
  abbrev pub ValuesLie : ℕ → Interval → Moment → Type 0
  ValuesLie row range moment =
      (steps : List Step) (v : Value) → IsOfRow row steps → component_at moment row steps ≡ Some v → IsIn range v

  -- what a claim says of a moment
  abbrev pub Holds : Claim → Moment → Type 0
  Holds (Range row range) moment = ValuesLie row range moment
  Holds (Defined row) moment = IsWhole row moment
  Holds (Holding held) moment = HeldHolds held moment

  -- the range of each row, each row that is defined, how variables grow, and what is held; there is what is known for
  -- each row
  pub record FactsHold (known : Facts) (moment : Moment) : Type 0 where
    pub count : length rows ≤ length known.rows
    pub ranges : (row : ℕ) → ValuesLie row (row_at known row).range moment
    pub defined : (row : ℕ) → (row_at known row).is_defined ≡ true → IsWhole row moment
    pub growths : (root : ℕ) → GrowthHolds root (row_at known root).growth moment
    pub held : (one : Held) → Contains known.held one → HeldHolds one moment

  -- what a state says of a moment: no run comes to a dead one
  abbrev pub StateHolds : State → Moment → Type 0
  StateHolds Dead moment = ⊥
  StateHolds (Live known) moment = FactsHold known moment

-- two visible variables whose places overlap are a listed pair
abbrev pub Separate : Environment → List (ℕ × ℕ) → Type 0
Separate environment pairs =
    (a b : ℕ) (p q : Place) → environment.variables a ≡ Some p → environment.variables b ≡ Some q → a ≢ b
    → overlap p q ≡ true → Contains pairs (a, b) ⊎ Contains pairs (b, a)
