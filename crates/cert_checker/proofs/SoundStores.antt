-- Stores to components of rows are sound: what is known behind them holds.
use Rattle.std.proofs.Common.{◌≡◌, ⊎_elim, inl, inr, ◌∙◌, sym, ap, refl, subst, ℕ, ◌≤◌, ℤ, Bool, true, false, length, List, [], ◌∷◌}
use Rattle.std.proofs.Common.{Option, Some, None}
use Rattle.std.specs.Prelude.{map, slice_index_or}
use Rattle.std.specs.List.{Contains}
use Rattle.std.proofs.lemmas.Bool.{false≢true}
use Rattle.std.proofs.lemmas.List.{length-map}
use Rattle.std.proofs.lemmas.Option.{none-some, same_Some}
use Rattle.types.specs.declared.form.Step.{Step}
use Rattle.typed_tree.specs.declared.tree.Selector.{Selector}
use Rattle.typed_tree.specs.declared.tree.Tree.{Tree}
use Rattle.checker_state.specs.Bounds.{Bound}
use Rattle.domain.specs.Interval.{Interval}
use Rattle.meaning.specs.declared.value.Value.{Value}
use Rattle.meaning.specs.Store.{Environment, Place, Store}
use Rattle.meaning.specs.Store as store
use Rattle.checker_state.specs.Holds.{IsIn, IsOfRow, component_at, moment, value_at}
use Rattle.checker_state.proofs.Apart.{part}
use Rattle.checker_rows.specs.Rows.{Parts, all_parts, indexes_of, no_parts, rows_of, type_at}
use Rattle.checker_state.specs.Stores.{Index, Reach, all_stored, with_both, with_joined}
use Rattle.checker_state.specs.Knows.{AreIndexes, AreRows, AreStored, BeginWith, IsFormApart, IsLooseIn, IsReach, IsReachApart, IsReached, Knows}
use Rattle.checker_state.specs.State.{State, Table}
use Rattle.checker_state.proofs.Stored.{formless-hold, stores-hold}
use Rattle.checker_state.specs.State.{table_of}
use Rattle.checker_loops.specs.Pairs.{aliases_in}
use Rattle.checker_loops.proofs.Tabled.{are-rows}
use Rattle.checker_loops.specs.Aliases.{Stored, index_unless_alias, reach_unless_alias, with_aliases_stored}
use Rattle.checker_loops.proofs.AliasesHold.{aliases-ready}
use Rattle.checker_loops.proofs.AliasedStores.{AreWritten, Pairs, own-came, value-defined}
use Rattle.checker_loops.proofs.Lists.{in-map, of-map}
use Rattle.checker_calls.specs.Environments.{Proper, place_type}
use Rattle.checker_calls.proofs.AliasedTypes.{AreStoredAs, AreTyped, are-aliased, row-type}
use Rattle.checker_calls.proofs.Passed.{AreIndexesOn, IsReachedBy}
use Rattle.checker_calls.proofs.SeenAliases.{listed_pairs}
use Rattle.cert_checker.specs.Walk.{Stores}
use Rattle.cert_checker.proofs.Changes.{form-apart, unless-some}

abbrev pub root_at : List Parts → ℕ → ℕ
root_at rows row = (slice_index_or rows row no_parts).root

-- values go to components of rows of one variable, each row with the range of its values
pub record AreTargets (rows : List Parts) (root : ℕ) (pairs : Pairs) (stores : Stores) : Type 0 where
  pub roots : (one : ℕ × Interval) → Contains stores one → root_at rows one.0 ≡ root
  pub in_rows : (pair : List Step × Value) → Contains pairs pair → (one : ℕ × Interval) × Contains stores one × IsOfRow rows one.0 pair.0
  pub in_ranges : (pair : List Step × Value) (one : ℕ × Interval) → Contains pairs pair → Contains stores one → IsOfRow rows one.0 pair.0
      → IsIn one.1 pair.1

-- what is reached of these rows is among the components that get values
abbrev pub AreReached : List Parts → Environment → Reach → Pairs → Stores → Store → Type 0
AreReached rows env reach pairs stores before =
    (one : ℕ × Interval) (steps : List Step) → Contains stores one → IsOfRow rows one.0 steps → IsReached env before reach steps
    → (pair : List Step × Value) × Contains pairs pair × (pair.0 ≡ steps)

module _ (rows : List Parts) (env : Environment) (aliases : List ℕ) (root : ℕ) (home : Place) (at : env.variables root ≡ Some home) (pairs : Pairs)
    (stores : Stores) (before after : Store) (targets : AreTargets rows root pairs stores) (written : AreWritten env aliases root pairs before after) where
  at-root : (one : ℕ × Interval) → Contains stores one → (steps : List Step) (found : Option Value) (store : Store)
      → component_at rows (moment env store) one.0 steps ≡ found → value_at (moment env store) root steps ≡ found
  at-root one inside steps found store is =
      ap (λ (r : ℕ). value_at (moment env store) r steps) (sym (targets.roots one inside)) ∙ is

  from-root : (one : ℕ × Interval) → Contains stores one → (steps : List Step) (found : Option Value) (store : Store)
      → value_at (moment env store) root steps ≡ found → component_at rows (moment env store) one.0 steps ≡ found
  from-root one inside steps found store is =
      ap (λ (r : ℕ). value_at (moment env store) r steps) (targets.roots one inside) ∙ is

  -- a value that was written lies in the range of each row that has its component
  own-in : (one : ℕ × Interval) (steps : List Step) (v : Value) → Contains stores one → IsOfRow rows one.0 steps
      → (pair : List Step × Value) × Contains pairs pair × (pair.0 ≡ steps) × (v ≡ pair.1) → IsIn one.1 v
  own-in one steps v inside of_row (pair, listed, here, is) =
      subst (IsIn one.1) (sym is) (targets.in_ranges pair one listed inside (subst (IsOfRow rows one.0) (sym here) of_row))

  pub are-stored : (reach : Reach) → AreReached rows env reach pairs stores before → AreStored rows env aliases reach stores before after
  are-stored reach reached = record {
    others = λ other steps free apart. written.others other steps free (λ pair inside same here.
        let own = targets.in_rows pair inside in
        apart own.0 own.1 (subst (IsOfRow rows (own.0.0)) here own.2) (targets.roots own.0 own.1 ∙ sym same));
    values = λ one steps v inside of_row is. ⊎_elim
        (λ was. inl (from-root one inside steps (Some v) before was))
        (λ own. inr (own-in one steps v inside of_row own))
        (own-came env aliases root pairs before after written home at steps v (at-root one inside steps (Some v) after is));
    defined = λ other steps has. value-defined env aliases root pairs before after written other steps has;
    reached = λ one steps inside of_row is_reached.
        let own = reached one steps inside of_row is_reached in
        let has = written.has own.0 own.1 in
        (has.0, from-root one inside steps (Some has.0) after (subst (λ (s : List Step). value_at (moment env after) root s ≡ Some has.0) own.2 has.1));
    all = λ one steps v all none inside of_row is.
        let every : (numbers : List ℤ) × AreIndexes env before reach.indexes numbers × BeginWith numbers (indexes_of steps) =
        ([], subst (λ (indexes : List Index). AreIndexes env before indexes []) (sym none) tt, tt) in
        let own = reached one steps inside of_row (all, every) in
        let here = subst (λ (s : List Step). value_at (moment env after) root s ≡ Some v) (sym own.2) (at-root one inside steps (Some v) after is) in
        let last = written.sure own.0 v own.1 here in
        own-in one steps v inside of_row (last.0, last.1, last.2 ∙ own.2, last.3);
  }

-- ---- reaches without the forms that rest on aliases

pub reach-apart : (aliases : List ℕ) (reach : Reach) → IsReachApart aliases (reach_unless_alias aliases reach)
reach-apart aliases reach all index inside =
    let (one, listed, same) = of-map (index_unless_alias aliases) reach.indexes index inside in
    subst (λ (i : Index). IsFormApart aliases i.form) same (form-apart aliases one.form)

pub reached-unless : (env : Environment) (before : Store) (selectors : List Selector) (way : List Step) (aliases : List ℕ) (reach : Reach)
    → IsReachedBy env before selectors way reach → IsReachedBy env before selectors way (reach_unless_alias aliases reach)
reached-unless env before selectors way aliases reach reached = record {
  indexes = on-unless reach.indexes (indexes_of way) reached.indexes;
  all = λ is. length-map reach.indexes (index_unless_alias aliases) ∙ reached.all is;
  none = λ is. reached.none (none-mapped reach.indexes is);
}
  where
    none-mapped : (indexes : List Index) → map (index_unless_alias aliases) indexes ≡ [] → indexes ≡ []
    none-mapped [] is = refl
    none-mapped (index ∷ indexes) is = absurd (cc)

    on-unless : (indexes : List Index) (numbers : List ℤ) → AreIndexesOn env before indexes numbers
        → AreIndexesOn env before (map (index_unless_alias aliases) indexes) numbers
    on-unless [] numbers on = tt
    on-unless (index ∷ indexes) [] on = absurd on
    on-unless (index ∷ indexes) (number ∷ numbers) on = (
      record { in_range = on.0.in_range; of_form = λ b is. on.0.of_form b (unless-some aliases index.form b is).0 },
      on-unless indexes numbers on.1,
    )

-- ---- what is known behind stores

-- the form of each index that is reached is known
abbrev pub AreFormed : List Index → Type 0
AreFormed [] = Unit {0}
AreFormed (index ∷ indexes) = ((b : Bound) × (index.form ≡ Some b)) × AreFormed indexes

-- of three indexes and more a store tells as if only some were reached
deep-same : (one two three : Index) (more : List Index) (stores : Stores) (state : State)
    → all_stored (record { indexes = one ∷ two ∷ three ∷ more; is_all = true }) stores state
    ≡ all_stored (record { indexes = one ∷ two ∷ three ∷ more; is_all = false }) stores state
deep-same one two three more [] state = refl
deep-same one two three more (store ∷ stores) state = deep-same one two three more stores (with_joined store.0 store.1 state)

-- so it does of two, of which one has no form
two-same : (one two : Index) → ((row : ℕ) (state : State) → with_both row one.form two.form state ≡ state) → (stores : Stores) (state : State)
    → all_stored (record { indexes = one ∷ two ∷ []; is_all = true }) stores state
    ≡ all_stored (record { indexes = one ∷ two ∷ []; is_all = false }) stores state
two-same one two nothing [] state = refl
two-same one two nothing (store ∷ stores) state =
    let joined_one = with_joined store.0 store.1 state in
    ap (λ (s : State). all_stored (record { indexes = one ∷ two ∷ []; is_all = true }) stores s) (nothing store.0 joined_one)
    ∙ two-same one two nothing stores joined_one

no-first : (one two : Option Bound) → one ≡ None → (row : ℕ) (state : State) → with_both row one two state ≡ state
no-first None two none row state = refl
no-first (Some b) two none row state = absurd (none-some b (sym none))

no-second : (one two : Option Bound) → two ≡ None → (row : ℕ) (state : State) → with_both row one two state ≡ state
no-second None None none row state = refl
no-second (Some b) None none row state = refl
no-second one (Some b) none row state = absurd (none-some b (sym none))

module _ (rows : List Parts) (table : Table) (rows_are : AreRows rows table) (env : Environment) (aliases : List ℕ) (root : ℕ) (home : Place)
    (at : env.variables root ≡ Some home) (pairs : Pairs) (stores : Stores) (before after : Store) (targets : AreTargets rows root pairs stores)
    (inner : (one : ℕ × Interval) → Contains stores one → table.variables ≤ one.0) (written : AreWritten env aliases root pairs before after)
    (state : State) (loose : IsLooseIn rows env aliases state after) (known : Knows rows table.variables env state before) where
  abbrev Known : Reach → Type 0
  Known reach = Knows rows table.variables env (all_stored reach stores state) after

  by-law : (reach : Reach) → IsReach env before reach → IsReachApart aliases reach → AreReached rows env reach pairs stores before → Known reach
  by-law reach is free reached =
      stores-hold rows table rows_are env aliases state reach stores before after inner is free
      (are-stored rows env aliases root home at pairs stores before after targets written reach reached) loose known

  -- where only some are reached
  by-some : (indexes : List Index) → Known (record { indexes = indexes; is_all = false })
  by-some indexes =
      by-law (record { indexes = indexes; is_all = false }) (λ all. absurd (false≢true all)) (λ all. absurd (false≢true all))
      (λ one steps inside of_row is. absurd (false≢true is.0))

  -- where all of two indexes is reached
  two-known : (one two : Index) → IsReach env before (record { indexes = one ∷ two ∷ []; is_all = true })
      → IsReachApart aliases (record { indexes = one ∷ two ∷ []; is_all = true })
      → (AreFormed (one ∷ two ∷ []) → AreReached rows env (record { indexes = one ∷ two ∷ []; is_all = true }) pairs stores before)
      → Known (record { indexes = one ∷ two ∷ []; is_all = true })
  two-known one two is free reached = by one.form two.form refl refl
    where
      formless : ((row : ℕ) (s : State) → with_both row one.form two.form s ≡ s) → Known (record { indexes = one ∷ two ∷ []; is_all = true })
      formless nothing =
          subst (λ (s : State). Knows rows table.variables env s after) (sym (two-same one two nothing stores state)) (by-some (one ∷ two ∷ []))

      by : (form inner : Option Bound) → one.form ≡ form → two.form ≡ inner → Known (record { indexes = one ∷ two ∷ []; is_all = true })
      by None inner form_is inner_is = formless (no-first one.form two.form form_is)
      by (Some b) None form_is inner_is = formless (no-second one.form two.form inner_is)
      by (Some b) (Some c) form_is inner_is =
          by-law (record { indexes = one ∷ two ∷ []; is_all = true }) is free (reached ((b, form_is), ((c, inner_is), tt)))

  -- behind stores to what is reached
  pub stored-known : (reach : Reach) → IsReach env before reach → IsReachApart aliases reach
      → (AreFormed reach.indexes → AreReached rows env reach pairs stores before) → Known reach
  stored-known reach is free reached = by reach.is_all reach.indexes is free reached
    where
      by : (all : Bool) (indexes : List Index) → IsReach env before (record { indexes = indexes; is_all = all })
          → IsReachApart aliases (record { indexes = indexes; is_all = all })
          → (AreFormed indexes → AreReached rows env (record { indexes = indexes; is_all = all }) pairs stores before)
          → Known (record { indexes = indexes; is_all = all })
      by false indexes is free reached = by-some indexes
      by true [] is free reached = by-law (record { indexes = []; is_all = true }) is free (reached tt)
      by true (one ∷ two ∷ []) is free reached = two-known one two is free reached
      by true (one ∷ two ∷ three ∷ more) is free reached =
          subst (λ (s : State). Knows rows table.variables env s after) (sym (deep-same one two three more stores state)) (by-some (one ∷ two ∷ three ∷ more))
      by true (index ∷ []) is free reached = formed index.form refl
        where
          formed : (form : Option Bound) → index.form ≡ form → Known (record { indexes = index ∷ []; is_all = true })
          formed None none =
              formless-hold rows table rows_are env aliases state index none stores before after inner
              (are-stored rows env aliases root home at pairs stores before after targets written (record { indexes = index ∷ []; is_all = false })
              (λ one steps inside of_row is. absurd (false≢true is.0))) loose known
          formed (Some b) form_is = by-law (record { indexes = index ∷ []; is_all = true }) is free (reached ((b, form_is), tt))

-- ---- what the aliases may get

module _ (tree : Tree) (pairs : List (ℕ × ℕ)) (block activations : ℕ) (env : Environment) (proper : Proper tree pairs block activations env)
    (root : ℕ) (home : Place) (at : env.variables root ≡ Some home) (values : Pairs) (stores : Stores)
    (targets : AreTargets (all_parts tree) root values stores) where
  home-at : (one : ℕ × Interval) → Contains stores one → env.variables (root_at (all_parts tree) one.0) ≡ Some home
  home-at one inside = ap (λ (r : ℕ). env.variables r) (targets.roots one inside) ∙ at

  place-is : (steps : List Step) (place : Place) → store.part (env.variables root) steps ≡ Some place → part home steps ≡ place
  place-is steps place is = same_Some (part home steps) place (sym (ap (λ (found : Option Place). store.part found steps) at) ∙ is)

  -- what stores to rows tell of the aliases
  abbrev pub told : List Stored
  told = map (λ (one : ℕ × Interval). record { type_id = type_at (rows_of tree) one.0; range = one.1 }) stores

  pub targets-told : AreStoredAs tree env root values told
  targets-told pair place own listed place_is type_is ordinal =
      let row = targets.in_rows pair listed in
      let one = row.0 in
      let same = row-type tree pairs block activations env proper one.0 pair.0 home own row.2 (home-at one row.1)
      (ap (place_type tree) (place-is pair.0 place place_is) ∙ type_is) ordinal in (
        record { type_id = type_at (rows_of tree) one.0; range = one.1 },
        in-map (λ (o : ℕ × Interval). record { type_id = type_at (rows_of tree) o.0; range = o.1 }) stores one row.1,
        same,
        targets.in_ranges pair one listed row.1 row.2,
      )

-- ---- a state behind stores

-- what is known where values were stored to what is reached of a variable
pub made-knows : (tree : Tree) (pairs : List (ℕ × ℕ)) (block activations : ℕ) (env : Environment) (proper : Proper tree pairs block activations env)
    (root : ℕ) (home : Place) → env.variables root ≡ Some home → (values : Pairs) (stores : Stores) → AreTargets (all_parts tree) root values stores
    → ((one : ℕ × Interval) → Contains stores one → length tree.variables.items ≤ one.0)
    → (before after : Store) → AreWritten env (aliases_in (listed_pairs tree pairs) block root) root values before after → AreTyped tree env root values
    → (reach : Reach) → IsReach env before (reach_unless_alias (aliases_in (listed_pairs tree pairs) block root) reach)
    → (AreFormed (reach_unless_alias (aliases_in (listed_pairs tree pairs) block root) reach).indexes
    → AreReached (all_parts tree) env (reach_unless_alias (aliases_in (listed_pairs tree pairs) block root) reach) values stores before)
    → (state : State) → Knows (all_parts tree) (length tree.variables.items) env state before
    → Knows (all_parts tree) (length tree.variables.items) env
    (all_stored (reach_unless_alias (aliases_in (listed_pairs tree pairs) block root) reach) stores
    (with_aliases_stored tree (aliases_in (listed_pairs tree pairs) block root)
    (map (λ (one : ℕ × Interval). record { type_id = type_at (rows_of tree) one.0; range = one.1 }) stores) state)) after
made-knows tree pairs block activations env proper root home at values stores targets inner before after written typed reach is_reach reached state known =
    let aliases = aliases_in (listed_pairs tree pairs) block root in
    let told_of = told tree pairs block activations env proper root home at values stores targets in
    let ready = aliases-ready tree (length tree.variables.items) env aliases told_of state before after
    (are-aliased tree pairs block activations env proper aliases root values before after written typed told_of
    (targets-told tree pairs block activations env proper root home at values stores targets)) known in
    stored-known (all_parts tree) (table_of tree) (are-rows tree) env aliases root home at values stores before after targets inner written
    (with_aliases_stored tree aliases told_of state) ready.loose ready.knows (reach_unless_alias aliases reach) is_reach (reach-apart aliases reach) reached
