-- What is known after a store through one variable of its aliases: it holds where the state did, before the store, and rests on no value that an alias may
-- have got.
use Rattle.std.proofs.Common.{arith, ◌≡◌, ◌∙◌, ⊎_elim, ◌⊎◌, inl, inr, sym, ap, refl, subst, ℕ, zero, suc, ◌<◌, Bool, true, false, cond, nat_eq, List, []}
use Rattle.std.proofs.Common.{◌∷◌, get_or, length, set, Some, None}
use Rattle.std.specs.Prelude.{slice_index_or}
use Rattle.std.specs.List.{Contains}
use Rattle.std.proofs.lemmas.Bool.{cases_lt, eqb-true, or_cases, or_from}
use Rattle.std.proofs.lemmas.List.{get_or-set_same, get_or_past, length-set}
use Rattle.types.specs.declared.form.Step.{Step}
use Rattle.typed_tree.specs.declared.tree.Tree.{Tree}
use Rattle.domain.specs.Interval.{Interval, joined}
use Rattle.meaning.specs.declared.value.Value.{Value}
use Rattle.meaning.specs.Store.{Environment, Store}
use Rattle.checker_rows.specs.Rows.{Parts, all_parts, no_parts, rows_of, rows_under, type_at}
use Rattle.checker_state.specs.State.{Dead, Held, Live, RowState, State, no_row, range_of, row_at, with_growth, with_row}
use Rattle.checker_state.specs.Changes.{all_changed, changed, rests_on, with_change}
use Rattle.checker_state.specs.Loops.{is_among}
use Rattle.checker_state.specs.Holds.{IsIn, IsOfRow, Moment, StateHolds, HeldHolds, component_at, moment}
use Rattle.checker_state.specs.Knows.{IsLooseIn, Knows, rests_on_any}
use Rattle.checker_state.specs.Stores.{with_joined}
use Rattle.checker_state.proofs.Lists.{Each, in-filter_map}
use Rattle.checker_state.proofs.Looped.{range-lies, unchanged}
use Rattle.checker_state.proofs.Ranged.{in-left, in-right}
use Rattle.checker_state.proofs.Rows.{Any_value, all-where, growth-where, of_row-within, range-holds, where-all}
use Rattle.checker_loops.specs.Aliases.{Stored, alias_joined, aliases_joined, all_joined_to, rows_joined, same_types, with_aliases_stored}

-- ---- what rests on aliases is held no longer

-- a claim of each that is held
abbrev EachHeld : (Held → Type 0) → State → Type 0
EachHeld P Dead = Unit {0}
EachHeld P (Live known) = Each P known.held

left-one : (root : ℕ) (P : Held → Type 0) (state : State) → EachHeld P state
    → EachHeld (λ one. (rests_on root one ≡ false) × P one) (with_change root None state)
left-one root P Dead each = tt
left-one root P (Live known) each = λ one listed.
    let (old, old_listed, became) = in-filter_map (changed root None) known.held one listed in
    let parts = unchanged root old one became in
    subst (λ h. (rests_on root h ≡ false) × P h) parts.1 (parts.0, each old old_listed)

held-weaker : (P Q : Held → Type 0) → ((one : Held) → P one → Q one) → (state : State) → EachHeld P state → EachHeld Q state
held-weaker P Q then Dead each = tt
held-weaker P Q then (Live known) each = λ one listed. then one (each one listed)

-- what is left rests on none of the variables
held-left : (roots : List ℕ) (P : Held → Type 0) (state : State) → EachHeld P state
    → EachHeld (λ one. (rests_on_any roots one ≡ false) × P one) (all_changed roots state)
held-left [] P state each = held-weaker P (λ one. (rests_on_any [] one ≡ false) × P one) (λ one so. (refl, so)) state each
held-left (root ∷ roots) P state each =
    let Q = λ (one : Held). (rests_on root one ≡ false) × P one in
    let next = with_change root None state in
    held-weaker (λ one. (rests_on_any roots one ≡ false) × Q one) (λ one. (rests_on_any (root ∷ roots) one ≡ false) × P one)
    (λ one so. (or_from (rests_on root one) (rests_on_any roots one) so.1.0 so.0, so.1.1)) (all_changed roots next)
    (held-left roots Q next (left-one root P state each))

any-held : (state : State) → EachHeld (λ one. Unit {0}) state
any-held Dead = tt
any-held (Live known) = λ one listed. tt

-- and holds where the state did
left-holds : (rows : List Parts) (m : Moment) (roots : List ℕ) (state : State) → StateHolds rows state m → StateHolds rows (all_changed roots state) m
left-holds rows m [] state holds = holds
left-holds rows m (root ∷ roots) Dead holds = absurd holds
left-holds rows m (root ∷ roots) (Live known) holds =
    let left = where-all rows m (Any_value rows m) (λ row steps v. tt) (with_growth root None known)
    (growth-where rows m (Any_value rows m) [] known root None tt (all-where rows m known holds)) in
    left-holds rows m roots (with_change root None (Live known)) (record {
      count = left.count;
      ranges = left.ranges;
      defined = left.defined;
      growths = left.growths;
      held = λ one listed. (left-one root (λ h. HeldHolds rows h m) (Live known) holds.held one listed).1;
    })

-- ---- what is stored joins their ranges

-- what is so stays so where the range of a row grows
abbrev Grows : (State → Type 0) → Type 0
Grows P = (row : ℕ) (range : Interval) (state : State) → P state → P (with_joined row range state)

module _ (tree : Tree) (P : State → Type 0) (grows : Grows P) where
  either-state : (test : Bool) (one other : State) → P one → P other → P (cond test one other)
  either-state true one other is so = is
  either-state false one other is so = so

  rows-grow : (stored : Stored) (rows : List ℕ) (state : State) → P state → P (rows_joined tree stored rows state)
  rows-grow stored [] state is = is
  rows-grow stored (row ∷ rows) state is =
      rows-grow stored rows _
      (either-state (same_types stored.type_id (type_at (rows_of tree) row)) (with_joined row stored.range state) state
      (grows row stored.range state is) is)

  aliases-grow : (stored : Stored) (aliases : List ℕ) (state : State) → P state → P (aliases_joined tree stored aliases state)
  aliases-grow stored [] state is = is
  aliases-grow stored (alias ∷ aliases) state is =
      aliases-grow stored aliases (alias_joined tree stored alias state) (rows-grow stored (rows_under tree alias []) state is)

  all-grow : (stored : List Stored) (aliases : List ℕ) (state : State) → P state → P (all_joined_to tree stored aliases state)
  all-grow [] aliases state is = is
  all-grow (one ∷ stored) aliases state is = all-grow stored aliases (aliases_joined tree one aliases state) (aliases-grow one aliases state is)

-- what comes to be so where one alias is joined to one that is stored, is so where all are
module _ (tree : Tree) (Q P : State → Type 0) (before : Grows Q) (behind : Grows P) (one : Stored) (alias : ℕ)
    (joins : (state : State) → Q state → P (alias_joined tree one alias state)) where
  alias-joins : (aliases : List ℕ) (state : State) → is_among alias aliases ≡ true → Q state → P (aliases_joined tree one aliases state)
  alias-joins [] state among is = absurd (cc)
  alias-joins (other ∷ aliases) state among is =
      ⊎_elim
      (λ (same : nat_eq other alias ≡ true).
      aliases-grow tree P behind one aliases (alias_joined tree one other state)
      (subst (λ (a : ℕ). P (alias_joined tree one a state)) (sym (eqb-true other alias same)) (joins state is)))
      (λ (later : is_among alias aliases ≡ true).
      alias-joins aliases (alias_joined tree one other state) later (rows-grow tree Q before one (rows_under tree other []) state is))
      (or_cases (nat_eq other alias) (is_among alias aliases) among)

  all-join : (stored : List Stored) (aliases : List ℕ) (state : State) → Contains stored one → is_among alias aliases ≡ true → Q state
      → P (all_joined_to tree stored aliases state)
  all-join [] aliases state (k, within, is) among so = absurd (omega (arith, within))
  all-join (first ∷ stored) aliases state (zero, within, is) among so =
      all-grow tree P behind stored aliases (aliases_joined tree first aliases state)
      (subst (λ (s : Stored). P (aliases_joined tree s aliases state)) (sym is) (alias-joins aliases state among so))
  all-join (first ∷ stored) aliases state (suc k, within, is) among so =
      all-join stored aliases (aliases_joined tree first aliases state) (k, omega (arith, within), is) among
      (aliases-grow tree Q before first aliases state so)

-- ---- how variables grow

-- a row after one was set
set-at : (rows : List RowState) (row other : ℕ) (state : RowState)
    → (get_or (set rows row state) other no_row ≡ get_or rows other no_row) ⊎ ((row ≡ other) × (get_or (set rows row state) other no_row ≡ state))
set-at [] row other state = inl refl
set-at (first ∷ rows) zero zero state = inr (refl, refl)
set-at (first ∷ rows) zero (suc other) state = inl refl
set-at (first ∷ rows) (suc row) zero state = inl refl
set-at (first ∷ rows) (suc row) (suc other) state =
    ⊎_elim (λ kept. inl kept) (λ (both : (row ≡ other) × (get_or (set rows row state) other no_row ≡ state)). inr (ap suc both.0, both.1))
    (set-at rows row other state)

-- a variable isn't known to grow
abbrev NoGrowth : ℕ → State → Type 0
NoGrowth root Dead = Unit {0}
NoGrowth root (Live known) = (row_at known root).growth ≡ None

none-grows : (root : ℕ) → Grows (NoGrowth root)
none-grows root other range Dead none = none
none-grows root other range (Live known) none =
    let new : RowState = record (row_at known other) { range = joined (row_at known other).range range } in
    ⊎_elim (λ kept. ap (λ (s : RowState). s.growth) kept ∙ none)
    (λ (both : (other ≡ root) × (row_at (with_row other new known) root ≡ new)).
    ap (λ (s : RowState). s.growth) both.1 ∙ ap (λ (r : ℕ). (row_at known r).growth) both.0 ∙ none)
    (set-at known.rows other root new)

changed-none : (root other : ℕ) (state : State) → NoGrowth root state → NoGrowth root (with_change other None state)
changed-none root other Dead none = none
changed-none root other (Live known) none =
    let new : RowState = record (row_at known other) { growth = None } in
    ⊎_elim (λ kept. ap (λ (s : RowState). s.growth) kept ∙ none)
    (λ (both : (other ≡ root) × (row_at (with_row other new known) root ≡ new)). ap (λ (s : RowState). s.growth) both.1) (set-at known.rows other root new)

own-none : (root : ℕ) (state : State) → NoGrowth root (with_change root None state)
own-none root Dead = tt
own-none root (Live known) =
    let new : RowState = record (row_at known root) { growth = None } in
    let count = length-set known.rows root new in
    ⊎_elim (λ within. ap (λ (s : RowState). s.growth) (get_or-set_same known.rows root new no_row within))
    (λ beyond. ap (λ (s : RowState). s.growth) (get_or_past (set known.rows root new) root no_row (omega (arith, count, beyond))))
    (cases_lt root (length known.rows))

all-none : (roots : List ℕ) (root : ℕ) (state : State) → NoGrowth root state → NoGrowth root (all_changed roots state)
all-none [] root state none = none
all-none (first ∷ roots) root state none = all-none roots root (with_change first None state) (changed-none root first state none)

-- none of several variables does, after they changed
left-none : (roots : List ℕ) (root : ℕ) (state : State) → is_among root roots ≡ true → NoGrowth root (all_changed roots state)
left-none [] root state among = absurd (cc)
left-none (first ∷ roots) root state among =
    ⊎_elim
    (λ same.
    all-none roots root (with_change first None state)
    (subst (λ (r : ℕ). NoGrowth root (with_change r None state)) (sym (eqb-true first root same)) (own-none root state)))
    (λ later. left-none roots root (with_change first None state) later) (or_cases (nat_eq first root) (is_among root roots) among)

-- ---- the range of a row

-- a state has a row
abbrev HasRow : ℕ → State → Type 0
HasRow row Dead = ⊥
HasRow row (Live known) = row < length known.rows

abbrev InRow : ℕ → Value → State → Type 0
InRow row v state = IsIn (range_of state row) v

has-grows : (row : ℕ) → Grows (HasRow row)
has-grows row other range Dead has = has
has-grows row other range (Live known) has =
    let new : RowState = record (row_at known other) { range = joined (row_at known other).range range } in
    omega (arith, length-set known.rows other new, has)

in-grows : (row : ℕ) (v : Value) → Grows (InRow row v)
in-grows row v other range Dead inside = inside
in-grows row v other range (Live known) inside =
    let old = (row_at known other).range in
    let new : RowState = record (row_at known other) { range = joined old range } in
    ⊎_elim (λ kept. subst (λ (s : RowState). IsIn s.range v) (sym kept) inside)
    (λ (both : (other ≡ row) × (row_at (with_row other new known) row ≡ new)).
    subst (λ (s : RowState). IsIn s.range v) (sym both.1)
    (in-left old range v (subst (λ (r : ℕ). IsIn (row_at known r).range v) (sym both.0) inside)))
    (set-at known.rows other row new)

joined-own : (row : ℕ) (range : Interval) (v : Value) (state : State) → HasRow row state → IsIn range v → InRow row v (with_joined row range state)
joined-own row range v Dead has inside = absurd has
joined-own row range v (Live known) has inside =
    let old = (row_at known row).range in
    let new : RowState = record (row_at known row) { range = joined old range } in
    subst (λ (s : RowState). IsIn s.range v) (sym (get_or-set_same known.rows row new no_row has)) (in-right old range v inside)

row-joins : (tree : Tree) (one : Stored) (row : ℕ) (v : Value) → same_types one.type_id (type_at (rows_of tree) row) ≡ true → IsIn one.range v
    → (rows : List ℕ) (state : State) → Contains rows row → HasRow row state → InRow row v (rows_joined tree one rows state)
row-joins tree one row v same inside [] state (k, within, is) has = absurd (omega (arith, within))
row-joins tree one row v same inside (first ∷ rows) state (zero, within, is) has =
    let after = λ (r : ℕ). cond (same_types one.type_id (type_at (rows_of tree) r)) (with_joined r one.range state) state in
    rows-grow tree (InRow row v) (in-grows row v) one rows (after first)
    (subst (λ (r : ℕ). InRow row v (after r)) (sym is)
    (subst (λ (b : Bool). InRow row v (cond b (with_joined row one.range state) state)) (sym same) (joined-own row one.range v state has inside)))
row-joins tree one row v same inside (first ∷ rows) state (suc k, within, is) has =
    row-joins tree one row v same inside rows _ (k, omega (arith, within), is)
    (either-state tree (HasRow row) (has-grows row) (same_types one.type_id (type_at (rows_of tree) first)) (with_joined first one.range state) state
    (has-grows row first one.range state has) has)

-- ---- what is known

-- in a later store each value of a component of an alias was there before, or it is one of those that are stored to a place of its type
pub record AreAliased (tree : Tree) (env : Environment) (aliases : List ℕ) (stored : List Stored) (before after : Store) : Type 0 where
  pub each : (row : ℕ) (steps : List Step) (v : Value) → is_among (slice_index_or (all_parts tree) row no_parts).root aliases ≡ true
      → IsOfRow (all_parts tree) row steps → component_at (all_parts tree) (moment env after) row steps ≡ Some v
      → (component_at (all_parts tree) (moment env before) row steps ≡ Some v)
      ⊎ ((one : Stored) × Contains stored one × (same_types one.type_id (type_at (rows_of tree) row) ≡ true) × IsIn one.range v
      × Contains (rows_under tree (slice_index_or (all_parts tree) row no_parts).root []) row)

-- a state holds before a store through one variable, and what it says of the aliases holds after it too
pub record IsReady (tree : Tree) (roots : ℕ) (env : Environment) (aliases : List ℕ) (state : State) (before after : Store) : Type 0 where
  pub knows : Knows (all_parts tree) roots env state before
  pub loose : IsLooseIn (all_parts tree) env aliases state after

holds-grows : (rows : List Parts) (m : Moment) → Grows (λ state. StateHolds rows state m)
holds-grows rows m row range state holds =
    range-holds rows m state row (joined (range_of state row) range)
    (λ steps v of_row is. in-left (range_of state row) range v (range-lies rows m state row holds steps v of_row is)) holds

held-grows : (P : Held → Type 0) → Grows (EachHeld P)
held-grows P row range Dead each = each
held-grows P row range (Live known) each = each

loose-of : (rows : List Parts) (env : Environment) (aliases : List ℕ) (state : State) (after : Store)
    → EachHeld (λ one. (rests_on_any aliases one ≡ false) × Unit {0}) state
    → ((row : ℕ) (steps : List Step) (v : Value) → is_among (slice_index_or rows row no_parts).root aliases ≡ true → IsOfRow rows row steps
    → component_at rows (moment env after) row steps ≡ Some v → InRow row v state)
    → ((root : ℕ) → is_among root aliases ≡ true → NoGrowth root state) → IsLooseIn rows env aliases state after
loose-of rows env aliases Dead after each inside none = tt
loose-of rows env aliases (Live known) after each inside none =
    record { held = λ one listed. (each one listed).0; growths = none; ranges = inside }

has-row : (rows : List Parts) (m : Moment) (state : State) (row : ℕ) → row < length rows → StateHolds rows state m → HasRow row state
has-row rows m Dead row within holds = holds
has-row rows m (Live known) row within holds = omega (arith, within, holds.count)

-- what is known of aliases through which others see what is stored
pub aliases-ready : (tree : Tree) (roots : ℕ) (env : Environment) (aliases : List ℕ) (stored : List Stored) (state : State) (before after : Store)
    → AreAliased tree env aliases stored before after → Knows (all_parts tree) roots env state before
    → IsReady tree roots env aliases (with_aliases_stored tree aliases stored state) before after
aliases-ready tree roots env aliases stored state before after aliased knows =
    let parts = all_parts tree in
    let left = all_changed aliases state in
    let left_holds = left-holds parts (moment env before) aliases state knows.holds in
    let free = λ (one : Held). (rests_on_any aliases one ≡ false) × Unit {0} in
    record {
      knows = record {
        shows = knows.shows;
        holds = all-grow tree (λ s. StateHolds parts s (moment env before)) (holds-grows parts (moment env before)) stored aliases left left_holds;
      };
      loose = loose-of parts env aliases (all_joined_to tree stored aliases left) after
          (all-grow tree (EachHeld free) (held-grows free) stored aliases left (held-left aliases (λ one. Unit {0}) state (any-held state)))
          (λ row steps v among of_row is.
          let alias = (slice_index_or parts row no_parts).root in
          ⊎_elim
          (λ (was : component_at parts (moment env before) row steps ≡ Some v).
          all-grow tree (InRow row v) (in-grows row v) stored aliases left
          (range-lies parts (moment env before) left row left_holds steps v of_row was))
          (λ (found : (one : Stored) × Contains stored one × (same_types one.type_id (type_at (rows_of tree) row) ≡ true) × IsIn one.range v
          × Contains (rows_under tree alias []) row).
          all-join tree (HasRow row) (InRow row v) (has-grows row) (in-grows row v) found.0 alias
          (λ s has. row-joins tree found.0 row v found.2 found.3 (rows_under tree alias []) s found.4 has) stored aliases left found.1 among
          (has-row parts (moment env before) left row (of_row-within parts row steps of_row) left_holds))
          (aliased.each row steps v among of_row is))
          (λ root among. all-grow tree (NoGrowth root) (none-grows root) stored aliases left (left-none aliases root state among));
    }
