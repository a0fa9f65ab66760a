-- What the walk of a run uses of what is known: that variables at their places lie in their ranges and are defined, and
-- that what is kept stays so.
use Rattle.std.proofs.Common.{◌≡◌, ⊎_elim, ◌∙◌, sym, ap, ℕ, ℤ, ◌<◌, true, List, [], Option, Some, refl}
use Rattle.std.proofs.lemmas.Bool.{cases_lt}
use Rattle.std.proofs.lemmas.Option.{none-some}
use Rattle.domain.specs.Interval.{HasMember, Interval}
use Rattle.meaning.specs.declared.value.Value.{Value}
use Rattle.meaning.specs.Store.{Environment, Place, Store, stored}
use Rattle.checker_rows.specs.Rows.{Parts}
use Rattle.checker_state.specs.State.{State, Table, is_defined, range_of, unless_empty, with_defined, with_range, Dead, Live}
use Rattle.checker_state.specs.Holds.{HasValue, IsIn, IsWhole, StateHolds, moment, part_of, value_at}
use Rattle.checker_state.specs.Knows.{AreRows, IsKept, Knows, Shows}
use Rattle.checker_state.proofs.Apart.{entire-stored}
use Rattle.checker_state.proofs.Bounded.{nonempty-holds}
use Rattle.checker_state.proofs.Looped.{range-lies}
use Rattle.checker_state.proofs.Rows.{defined-holds, lies-own, own-lies, own-whole, range-holds, whole-own}

-- an entire variable has the value that lies at its place
pub entire-value : (env : Environment) (store : Store) (root : ℕ) (place : Place) → env.variables root ≡ Some place
    → value_at (moment env store) root [] ≡ stored store place
entire-value env store root place at = ap (λ (found : Option Place). part_of store found []) at ∙ entire-stored store place

-- a variable that is visible is one of so many
pub visible-within : (variables : ℕ) (env : Environment) → Shows variables env → (root : ℕ) (place : Place) → env.variables root ≡ Some place
    → root < variables
visible-within variables env shows root place at =
    ⊎_elim (λ within. within) (λ beyond. absurd (none-some place (sym (shows.only root beyond) ∙ at))) (cases_lt root variables)

pub kept-itself : (env : Environment) (touched controls : List ℕ) (store : Store) → IsKept env touched controls store store
kept-itself env touched controls store = record { values = λ root apart steps. refl; defined = λ root apart steps has. has }

pub kept-then : (env : Environment) (touched controls : List ℕ) (first second third : Store) → IsKept env touched controls first second
    → IsKept env touched controls second third → IsKept env touched controls first third
kept-then env touched controls first second third one two = record {
  values = λ root apart steps. two.values root apart steps ∙ one.values root apart steps;
  defined = λ root apart steps has. two.defined root apart steps (one.defined root apart steps has);
}

module _ (rows : List Parts) (table : Table) (are : AreRows rows table) (env : Environment) (state : State) (store : Store)
    (known : Knows rows table.variables env state store) where
  -- no run goes on from an empty range
  pub nonempty-known : (range : Interval) (n : ℤ) → HasMember range n → Knows rows table.variables env (unless_empty range state) store
  nonempty-known range n inside = record {
    shows = known.shows;
    holds = nonempty-holds rows table are env known.shows store range state n inside known.holds;
  }

  module _ (root : ℕ) (within : root < table.variables) where
    -- the value of a variable lies in its range
    pub value-in : (v : Value) → value_at (moment env store) root [] ≡ Some v → IsIn (range_of state root) v
    value-in v is =
        lies-own rows table are (moment env store) root within (range_of state root) v (range-lies rows (moment env store) state root known.holds) is

    whole-of : (state : State) → StateHolds rows state (moment env store) → is_defined state root ≡ true → IsWhole rows root (moment env store)
    whole-of Dead holds is = absurd holds
    whole-of (Live known) holds is = holds.defined root is

    -- a variable that is known to be defined has a value
    pub defined-value : is_defined state root ≡ true → HasValue (moment env store) root []
    defined-value is = whole-own rows table are (moment env store) root within (whole-of state known.holds is)

    pub ranged-known : (range : Interval) → ((v : Value) → value_at (moment env store) root [] ≡ Some v → IsIn range v)
        → Knows rows table.variables env (with_range root range state) store
    ranged-known range inside = record {
      shows = known.shows;
      holds = range-holds rows (moment env store) state root range (own-lies rows table are (moment env store) root within range inside) known.holds;
    }

    pub defined-known : HasValue (moment env store) root [] → Knows rows table.variables env (with_defined root state) store
    defined-known has = record {
      shows = known.shows;
      holds = defined-holds rows (moment env store) state root (own-whole rows table are (moment env store) root within has) known.holds;
    }

  -- ---- at its place

  module _ (root : ℕ) (place : Place) (at : env.variables root ≡ Some place) where
    within : root < table.variables
    within = visible-within table.variables env known.shows root place at

    pub read-in : (v : Value) → stored store place ≡ Some v → IsIn (range_of state root) v
    read-in v is = value-in root within v (entire-value env store root place at ∙ is)

    pub defined-stored : is_defined state root ≡ true → (v : Value) × (stored store place ≡ Some v)
    defined-stored is =
        let has = defined-value root within is in
        (has.0, sym (entire-value env store root place at) ∙ has.1)

    pub used-known : (v : Value) → stored store place ≡ Some v → Knows rows table.variables env (with_defined root state) store
    used-known v is = defined-known root within (v, entire-value env store root place at ∙ is)
