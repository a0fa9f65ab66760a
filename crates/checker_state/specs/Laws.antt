-- What holds of states at the moments of a run: where a state holds, those hold that follow from it, over an
-- assignment, a condition, stores of components, the turns of a loop, and where two ways meet (ISO 7185:1990, 6.5.1,
-- 6.7.2.3, 6.7.2.5, 6.8). They do not say that a state which follows is the best that could be known.
use Rattle.std.specs.Prelude.{◌≡◌, ℕ, ℤ, ◌+◌, ◌<◌, ◌≤◌, Bool, true, List, [], Option, Some, Contains, length}
use Rattle.std.specs.List.{All}
use Rattle.typed_tree.specs.declared.tree.Expr.{Expr}
use Rattle.types.specs.declared.form.OrdinalRange.{OrdinalRange}
use Rattle.members.specs.Members.{can_be_member, empty, of_one, of_range, of_two, range_fits}
use Rattle.members.specs.declared.sets.Operator.{Operator}
use Rattle.members.specs.declared.sets.Operator.TheVariants as operator
use Rattle.domain.specs.declared.growth.Growth.{Growth}
use Rattle.domain.specs.declared.versions.Version.{Version}
use Rattle.domain.specs.Growths.{HasPair}
use Rattle.domain.specs.Interval.{Interval, HasMember, common, is_included}
use Rattle.meaning.specs.declared.value.Value.{Value}
use Rattle.meaning.specs.declared.value.Value.TheVariants.{Members, Number}
use Rattle.meaning.specs.Effect as effect
use Rattle.meaning.specs.Effect.{Gives, is_in}
use Rattle.meaning.specs.Meaning.{Surroundings, is_so, value_of}
use Rattle.meaning.specs.Store.{Environment, Store, inside_for}
use Rattle.checker_rows.specs.Limits.{limits_of}
use Rattle.checker_rows.specs.Rows.{Parts}
use Rattle.checker_state.specs.Bounds.{Bound}
use Rattle.checker_state.specs.declared.growing.Growing.{Growing}
use Rattle.checker_state.specs.Growths.{can_grow, has_grown, with_growing, without_turns}
use Rattle.checker_state.specs.State.{Claim, State, Table, state_gives}
use Rattle.checker_state.specs.Joins.{joined_states}
use Rattle.checker_state.specs.Changes.{assigned}
use Rattle.checker_state.specs.Conditions.{bound_form, branched}
use Rattle.checker_state.specs.Loops.{head, replaced, with_undefined}
use Rattle.checker_state.specs.Stores.{Reach, all_stored}
use Rattle.checker_state.specs.declared.value.Known.{Known}
use Rattle.checker_state.specs.Values.{IsKnown, is_closed_member, is_closed_range, known_range, no_members}
use Rattle.checker_state.specs.Values.{operated_sets, tested_member, unless_none, with_member, with_members}
use Rattle.checker_state.specs.Holds.{HasNumber, HoldNumbers, Holds, IsBound, IsIn, moment, value_at}
use Rattle.checker_state.specs.Knows.{AreEntire, AreRows, AreStored, AreUntouched, InLimits, IsBegun, IsFormApart}
use Rattle.checker_state.specs.Knows.{IsKept, IsLooseIn, IsOfForm, IsReach, IsReachApart, IsStep, Knows, OneChanges}

-- where two ways meet, what is known behind them holds, whichever was taken
pub record JoinHolds : Type 0 where
  pub from_one : (rows : List Parts) (table : Table) → AreRows rows table
      → (env : Environment) (one other : State) (store : Store) → HoldNumbers table.ordinal (moment env store)
      → Knows rows table.variables env one store
      → Knows rows table.variables env (joined_states table one other) store
  pub from_other : (rows : List Parts) (table : Table) → AreRows rows table
      → (env : Environment) (one other : State) (store : Store) → HoldNumbers table.ordinal (moment env store)
      → Knows rows table.variables env other store
      → Knows rows table.variables env (joined_states table one other) store

-- claims that a state gives hold where it does
abbrev pub GivenHolds : Type 0
GivenHolds =
    (rows : List Parts) (table : Table) → AreRows rows table
    → (env : Environment) (state : State) (store : Store) (claim : Claim)
    → HoldNumbers table.ordinal (moment env store) → Knows rows table.variables env state store
    → state_gives table state claim ≡ true → Holds rows claim (moment env store)

-- the value of an expression of a bound form is its bound
abbrev pub FormsTell : Type 0
FormsTell =
    (ordinal : ℕ → Bool) (version : Version) (expression : Expr) (env : Surroundings) (s t : effect.State) (v : Value)
    → value_of expression env s ≡ Gives v t → HoldNumbers ordinal (moment env.visible t.store)
    → IsOfForm (moment env.visible t.store) (bound_form ordinal version expression) v

-- after a value was written to a variable, which its aliases may have then too, and no other changed, what is known
-- after its assignment holds
abbrev pub AssignmentsHold : Type 0
AssignmentsHold =
    (rows : List Parts) (table : Table) → AreRows rows table
    → (env : Environment) (aliases : List ℕ) (state : State) (before after : Store) (root : ℕ) (range : Interval)
    (form : Option Bound) (step : Option Interval) (v : Value)
    → root < table.variables → OneChanges env root aliases before after
    → value_at (moment env after) root [] ≡ Some v → Knows rows table.variables env state before
    → IsLooseIn rows env aliases state after → IsIn range v → IsOfForm (moment env before) form v
    → IsFormApart aliases form → IsStep (moment env before) root step v
    → Knows rows table.variables env (assigned root range form step state) after

-- where a condition had a truth value, what is known of that branch holds
abbrev pub ConditionsTell : Type 0
ConditionsTell =
    (rows : List Parts) (table : Table) → AreRows rows table
    → (ordinal : ℕ → Bool) (env : Surroundings) (condition : Expr) (s t : effect.State) (n : ℤ) (range : Interval)
    (state : State)
    → value_of condition env s ≡ Gives (Number n) t → HasMember range n
    → HoldNumbers ordinal (moment env.visible t.store) → Knows rows table.variables env.visible state t.store
    → Knows rows table.variables env.visible (branched ordinal (is_so (Number n)) condition range state) t.store

-- what is known at the head of a loop holds after any turns, if the claims do
abbrev pub HeadsHold : Type 0
HeadsHold =
    (rows : List Parts) (table : Table) → AreRows rows table
    → (env : Environment) (limits : ℕ → Interval) (roots touched controls : List ℕ) (claims : List Claim)
    (state : State) (before after : Store)
    → IsKept env roots controls before after → AreUntouched rows env touched before after
    → AreEntire rows table.variables controls → InLimits rows limits touched env after
    → All (λ claim. Holds rows claim (moment env after)) claims → Knows rows table.variables env state before
    → Knows rows table.variables env (head limits roots touched controls claims state) after

-- behind a loop
pub record LeavingHolds : Type 0 where
  -- where a variable is its bound
  pub of_bound : (rows : List Parts) (roots : ℕ) (env : Environment) (state : State) (store : Store) (root : ℕ)
      (bound : Option Bound) (x : ℤ) → HasNumber (moment env store) root x
      → ((b : Bound) → bound ≡ Some b → IsBound (moment env store) b x) → Knows rows roots env state store
      → Knows rows roots env (replaced root bound state) store
  -- where a variable became undefined, and no other changed
  pub of_undefined : (rows : List Parts) (table : Table) → AreRows rows table
      → (env : Environment) (state : State) (root : ℕ) (before after : Store) → root < table.variables
      → OneChanges env root [] before after → ((v : Value) → value_at (moment env after) root [] ≡ Some v → ⊥)
      → Knows rows table.variables env state before → Knows rows table.variables env (with_undefined root state) after

-- what is known of variables that grow with the turns of a for statement
pub record GrowthsHold : Type 0 where
  -- before the first turn a value lies where a growth begins
  pub begins : (rows : List Parts) (table : Table) → AreRows rows table
      → (env : Environment) (state : State) (store : Store) (root : ℕ) (growth : Growth) (n : ℤ)
      → root < table.variables
      → HasNumber (moment env store) root n → Knows rows table.variables env state store
      → can_grow state root growth ≡ true → HasPair growth (0, n)
  -- inside one more for statement all is known that was
  pub inside : (rows : List Parts) (roots : ℕ) (env : Environment) (state : State) (store : Store) (finished : ℕ)
      → Knows rows roots env state store → Knows rows roots (inside_for env finished) state store
  -- where a turn begins a variable grows, if its value is so far behind as many turns
  pub begun : (rows : List Parts) (table : Table) → AreRows rows table
      → (env : Environment) (state : State) (store : Store) (root : ℕ) (growing : Growing)
      → IsBegun (moment env store) table.variables root growing → Knows rows table.variables env state store
      → Knows rows table.variables env (with_growing root growing state) store
  -- behind a turn a variable that has grown has a value behind one turn more
  pub grown : (rows : List Parts) (roots : ℕ) (env : Environment) (state : State) (store : Store) (root finished : ℕ)
      (growth : Growth) (n : ℤ) → HasNumber (moment env store) root n
      → Knows rows roots (inside_for env finished) state store → has_grown state root (length env.turns) growth ≡ true
      → HasPair growth (finished + 1, n)
  -- behind the statement all is known but of its turns
  pub outside : (rows : List Parts) (roots : ℕ) (env : Environment) (state : State) (store : Store) (finished : ℕ)
      → Knows rows roots (inside_for env finished) state store
      → Knows rows roots env (without_turns (length env.turns) state) store

-- after values were stored to components, what is known behind the stores holds
abbrev pub StoresHold : Type 0
StoresHold =
    (rows : List Parts) (table : Table) → AreRows rows table
    → (env : Environment) (aliases : List ℕ) (state : State) (reach : Reach) (stores : List (ℕ × Interval))
    (before after : Store)
    → ((one : ℕ × Interval) → Contains stores one → table.variables ≤ one.0) → IsReach env before reach
    → IsReachApart aliases reach → AreStored rows env aliases reach stores before after
    → IsLooseIn rows env aliases state after → Knows rows table.variables env state before
    → Knows rows table.variables env (all_stored reach stores state) after

-- what is known of the values of expressions is so
pub record ValuesTell : Type 0 where
  -- a value lies in its range
  pub in_range : (known : Known) (v : Value) → IsKnown known v → IsIn (known_range known) v
  -- a member of a set constructor that surely can be one passes its test, and so do the first and the last of several
  pub member_passes : (range : Interval) (n : ℤ) → HasMember range n → is_closed_member range ≡ true
      → can_be_member n ≡ true
  pub range_passes : (first last : Interval) (a b : ℤ) → HasMember first a → HasMember last b
      → is_closed_range first last ≡ true → range_fits a b ≡ true
  -- a member that passed lies where it is known to
  pub member_lies : (range : Interval) (n : ℤ) → HasMember range n → can_be_member n ≡ true
      → HasMember (tested_member range) n
  -- what is known of the empty set, of a set with a member more, and with several more
  pub of_none : IsIn no_members (Members empty)
  pub of_member : (hull range : Interval) (set : ℕ) (n : ℤ) → IsIn hull (Members set) → HasMember range n
      → IsIn (with_member hull range) (Members (of_two operator.Union set (of_one n)))
  pub of_members : (hull first last : Interval) (set : ℕ) (a b : ℤ) → IsIn hull (Members set) → HasMember first a
      → HasMember last b → IsIn (with_members hull first last) (Members (of_two operator.Union set (of_range a b)))
  -- what is known of what the operators of sets give
  pub of_operator : (o : Operator) (a b : Interval) (s t : ℕ) → IsIn a (Members s) → IsIn b (Members t)
      → IsIn (operated_sets o a b) (Members (of_two o s t))
  -- a value that surely lies in a type passes its test, and one that passed lies there
  pub passes : (range : OrdinalRange) (known : Interval) (v : Value) → IsIn known v
      → is_included known (limits_of range) ≡ true → is_in range v ≡ true
  pub lies : (range : OrdinalRange) (known : Interval) (v : Value) → IsIn known v → is_in range v ≡ true
      → IsIn (common known (limits_of range)) v
  -- where there is a value, a run goes on
  pub goes_on : (rows : List Parts) (table : Table) → AreRows rows table
      → (env : Environment) (state : State) (store : Store) (known : Known) (v : Value) → IsKnown known v
      → Knows rows table.variables env state store → Knows rows table.variables env (unless_none known state) store
