-- What is known behind a call, but for the facts that are claimed of its end, holds there.
use Rattle.std.proofs.Common.{arith, ◌≡◌, ⊎_elim, ◌⊎◌, inl, inr, ◌∙◌, sym, ap, refl, subst, ℕ, zero, suc, ◌<◌, Bool, true, false, cond}
use Rattle.std.proofs.Common.{filter, nat_eq, List, [], ◌∷◌, ◌++◌, length, Option, Some}
use Rattle.std.specs.List.{Contains}
use Rattle.std.specs.Prelude.{is_some, slice_index_or}
use Rattle.std.proofs.lemmas.Bool.{and_parts, cases_Bool, eqb-true, false≢true}
use Rattle.types.specs.Types.{is_scalar}
use Rattle.types.specs.declared.form.Step.{Step}
use Rattle.types.specs.declared.form.TypeId.{TypeId}
use Rattle.typed_tree.specs.declared.tree.Block.{Block}
use Rattle.typed_tree.specs.declared.tree.Tree.{Tree}
use Rattle.domain.specs.Interval.{Interval, common, joined}
use Rattle.meaning.specs.declared.value.Value.{Value}
use Rattle.meaning.specs.Meaning.{Argument}
use Rattle.meaning.specs.Store.{Environment, Place, Store}
use Rattle.checker_rows.specs.Rows.{Parts, all_parts, is_structured_variable, no_parts, rows_of, rows_touched, rows_under, type_at}
use Rattle.checker_rows.proofs.Accessed.{IsOf}
use Rattle.checker_rows.proofs.Numbered.{own-parts}
use Rattle.checker_state.specs.Holds.{IsIn, Moment, StateHolds, ValuesLie, component_at, moment, part_of, value_at}
use Rattle.checker_state.specs.Knows.{AreUntouched, IsKept, Knows}
use Rattle.checker_state.specs.Changes.{all_changed}
use Rattle.checker_state.specs.Loops.{is_among}
use Rattle.checker_state.specs.State.{Dead, Live, State, row_at}
use Rattle.checker_state.specs.Stores.{is_entire}
use Rattle.checker_state.proofs.Changed.{held-stays}
use Rattle.checker_state.proofs.Lists.{head-or_tail, in-none}
use Rattle.checker_state.proofs.Looped.{StateWhere, changed-where}
use Rattle.checker_state.proofs.Ranged.{common-in, in-left, in-right}
use Rattle.checker_state.proofs.Rows.{growth-stays, range-where, where-all}
use Rattle.checker_loops.specs.Aliases.{same_types}
use Rattle.checker_loops.specs.Sections.{BlockClaims}
use Rattle.checker_loops.proofs.AliasedStores.{stored-of}
use Rattle.checker_loops.proofs.VariableRows.{own-row_steps, under-whole}
use Rattle.checker_loops.proofs.Lists.{among-contains, contains-more, filtered, in-flat}
use Rattle.checker_calls.specs.Actuals.{Actual, Bearer, Passed, Reached}
use Rattle.checker_calls.specs.Environments.{place_type}
use Rattle.checker_calls.specs.Exit.{Change, all_common, all_joined, is_row, range_behind, row_behind, rows_behind, touched_behind}
use Rattle.checker_calls.proofs.AliasedTypes.{InTypes, both-same, in-types, row-type}
use Rattle.checker_calls.proofs.CallChanges.{HasReturned, defined-kept, same-or_changed, touched, untouched-kept}
use Rattle.checker_calls.proofs.CallLeaves.{IsExact, changed-told, changes, changes-exact}

-- ---- ranges behind a call

-- a change of a type has a value
abbrev pub Told : List Change → Option TypeId → Value → Type 0
Told all type_id v = (change : Change) × Contains all change × (same_types type_id change.type_id ≡ true) × IsIn change.range v

joined-keeps : (type_id : Option TypeId) (all : List Change) (range : Interval) (v : Value) → IsIn range v → IsIn (all_joined type_id all range) v
joined-keeps type_id [] range v inside = inside
joined-keeps type_id (change ∷ all) range v inside =
    joined-keeps type_id all (cond (same_types type_id change.type_id) (joined range change.range) range) v (by (same_types type_id change.type_id))
  where
    by : (b : Bool) → IsIn (cond b (joined range change.range) range) v
    by true = in-left range change.range v inside
    by false = inside

joined-told : (type_id : Option TypeId) (all : List Change) (range : Interval) (v : Value) → Told all type_id v → IsIn (all_joined type_id all range) v
joined-told type_id [] range v (change, inside, same, lies) = absurd (omega (arith, inside.1))
joined-told type_id (first ∷ all) range v (change, (zero, within, at), same, lies) =
    let own : same_types type_id first.type_id ≡ true = ap (λ (c : Change). same_types type_id c.type_id) at ∙ same in
    joined-keeps type_id all (cond (same_types type_id first.type_id) (joined range first.range) range) v
    (subst (λ (b : Bool). IsIn (cond b (joined range first.range) range) v) (sym own)
    (in-right range first.range v (subst (λ (c : Change). IsIn c.range v) (sym at) lies)))
joined-told type_id (first ∷ all) range v (change, (suc k, within, at), same, lies) =
    joined-told type_id all (cond (same_types type_id first.type_id) (joined range first.range) range) v (change, (k, omega (arith, within), at), same, lies)

common-keeps : (all : List Change) (range : Interval) (v : Value) → IsIn range v → ((change : Change) → Contains all change → IsIn change.range v)
    → IsIn (all_common all range) v
common-keeps [] range v inside each = inside
common-keeps (change ∷ all) range v inside each =
    common-keeps all (common range change.range) v (common-in range change.range v inside (each change (0, omega arith, refl)))
    (λ other later. each other (contains-more change all other later))

in-behind : (type_id : Option TypeId) (all exact : List Change) (range : Interval) (v : Value)
    → ((change : Change) → Contains exact change → IsIn change.range v) → IsIn range v ⊎ Told all type_id v → IsIn (range_behind type_id all exact range) v
in-behind type_id all [] range v each so = ⊎_elim (λ inside. joined-keeps type_id all range v inside) (λ told. joined-told type_id all range v told) so
in-behind type_id all (change ∷ exact) range v each so =
    common-keeps exact change.range v (each change (0, omega arith, refl)) (λ other later. each other (contains-more change exact other later))

-- a row that has a component is among those of what is touched, but that of a structured variable as a whole
pub rows-touched : (tree : Tree) (roots : List ℕ) (row : ℕ) (steps : List Step) → IsOf tree row steps
    → (row < length tree.variables.items → is_structured_variable tree row ≡ false)
    → is_among (slice_index_or (all_parts tree) row no_parts).root roots ≡ true → Contains (rows_touched tree roots) row
rows-touched tree roots row steps of_row plain among =
    let root = (slice_index_or (all_parts tree) row no_parts).root in
    in-flat (λ r. rows_under tree r []) roots root row (among-contains roots root among) (under-whole tree row steps of_row plain)

-- where all but the variables that are touched is kept, so are all rows but theirs
pub kept-untouched : (tree : Tree) (env : Environment) (roots controls : List ℕ) (before after : Store) → InTypes tree env after
    → IsKept env roots controls before after → AreUntouched (all_parts tree) env (rows_touched tree roots) before after
kept-untouched tree env roots controls before after in_types kept row steps v free of_row is =
    let root = (slice_index_or (all_parts tree) row no_parts).root in
    ⊎_elim (λ among. absurd (free (rows-touched tree roots row steps of_row (λ within. plain within) among)))
    (λ apart. sym (kept.values root apart steps) ∙ is) (cases_Bool (is_among root roots))
  where
    plain : row < length tree.variables.items → is_structured_variable tree row ≡ false
    plain within =
        in_types.whole row v
        (ap (value_at (moment env after) row) (sym (own-row_steps tree row steps within of_row))
        ∙ ap (λ (p : Parts). value_at (moment env after) p.root steps) (sym (own-parts tree row within)) ∙ is)

module _ (tree : Tree) (pairs : List (ℕ × ℕ)) (number : ℕ) (block : Block) (arguments : List Argument) (caller : Environment) (activations from : ℕ)
    (store : Store) (actuals : List Actual) (claims : BlockClaims) (after : Store)
    (back : HasReturned tree pairs number block arguments caller activations from store actuals claims after) where
  abbrev all : List Change
  all = changes tree pairs number block arguments caller activations from store actuals claims after back

  abbrev roots : List ℕ
  roots = touched tree pairs number block arguments caller activations from store actuals claims after back.left

  abbrev before : Moment
  before = moment caller store

  abbrev outer : Moment
  outer = moment caller after

  abbrev root_at : ℕ → ℕ
  root_at row = (slice_index_or (all_parts tree) row no_parts).root

  kept : (root : ℕ) → is_among root roots ≡ false → (steps : List Step) → value_at outer root steps ≡ value_at before root steps
  kept root apart steps = untouched-kept tree pairs number block arguments caller activations from store actuals claims after back.left root apart steps

  -- what the call touches, and nothing else, may have changed
  pub call-kept : IsKept caller roots [] store after
  call-kept = record {
    values = kept;
    defined = λ root among steps has. defined-kept tree pairs number block arguments caller activations from store actuals claims after back.left root steps
        has;
  }

  -- ---- values

  -- a value of the caller's is as it was, or a change of its type tells it
  told-value : (root : ℕ) (steps : List Step) (v : Value) (type_id : Option TypeId)
      → ((home : Place) (own : TypeId) → caller.variables root ≡ Some home → place_type tree (record home { steps = home.steps ++ steps }) ≡ Some own
      → is_scalar tree.types own ≡ true → type_id ≡ Some own)
      → value_at outer root steps ≡ Some v → (value_at before root steps ≡ Some v) ⊎ Told all type_id v
  told-value root steps v type_id type_is is =
      let at = stored-of after (caller.variables root) steps v is in
      let home = at.0 in
      let place : Place = record home { steps = home.steps ++ steps } in
      ⊎_elim
      (λ same. inl (ap (λ (found : Option Place). part_of store found steps) at.1 ∙ sym same ∙ at.2))
      (λ changed_so.
      let own = back.typed place v at.2 in
      let told = changed-told tree pairs number block arguments caller activations from store actuals claims after back place own.0 v
      (back.call.proper.begun root home at.1) changed_so at.2 own.1 own.2 in
      let same = both-same type_id told.change.type_id own.0 (type_is home own.0 at.1 own.1 (ap is_some own.2.1)) told.type_is in
      inr (told.change, told.inside, same, told.in_range))
      (same-or_changed tree pairs number block arguments caller activations from store actuals claims after back.left place
      (back.call.proper.begun root home at.1))

  row-told : (row : ℕ) (steps : List Step) (v : Value) → IsOf tree row steps → component_at (all_parts tree) outer row steps ≡ Some v
      → (component_at (all_parts tree) before row steps ≡ Some v) ⊎ Told all (type_at (rows_of tree) row) v
  row-told row steps v of_row is =
      told-value (root_at row) steps v (type_at (rows_of tree) row)
      (λ home own home_is own_is one_value. row-type tree pairs from activations caller back.call.proper row steps home own of_row home_is own_is one_value) is

  -- what is changed just as a row is lies where its change says
  row-exact : (change : Change) → Contains all change → (row : ℕ) → is_row row change.bearer ≡ true → ValuesLie (all_parts tree) row change.range outer
  row-exact change inside row is =
      by change.bearer (changes-exact tree pairs number block arguments caller activations from store actuals claims after back change inside) is
    where
      by : (bearer : Bearer) → IsExact tree pairs number block arguments caller activations from store actuals claims after back bearer change.range
          → is_row row bearer ≡ true → ValuesLie (all_parts tree) row change.range outer
      by (Passed range) exact is = absurd (false≢true is)
      by (Reached other reach) exact is =
          let parts = and_parts (nat_eq row other) (is_entire reach) is in
          subst (λ (r : ℕ). ValuesLie (all_parts tree) r change.range outer) (sym (eqb-true row other parts.0)) (exact parts.1)

  -- where the values of a row lie
  behind-lies : (row : ℕ) (range : Interval)
      → ((steps : List Step) (v : Value) → IsOf tree row steps → component_at (all_parts tree) outer row steps ≡ Some v
      → component_at (all_parts tree) before row steps ≡ Some v → IsIn range v)
      → ValuesLie (all_parts tree) row (range_behind (type_at (rows_of tree) row) all (filter (λ change. is_row row change.bearer) all) range) outer
  behind-lies row range was = λ steps v of_row is.
      in-behind (type_at (rows_of tree) row) all (filter (λ change. is_row row change.bearer) all) range v
      (λ change inside.
      let both = filtered (λ (c : Change). is_row row c.bearer) all change inside in
      row-exact change both.0 row both.1 steps v of_row is)
      (⊎_elim (λ same. inl (was steps v of_row is same)) (λ told. inr told) (row-told row steps v of_row is))

  -- ---- what is known of rows

  -- the range of a row that is still to be changed is claimed of the values that were there alone
  abbrev Claimed : List ℕ → ℕ → List Step → Value → Type 0
  Claimed rows row steps v = (Contains rows row → ⊥) ⊎ (component_at (all_parts tree) before row steps ≡ Some v)

  abbrev Where : List ℕ → State → Type 0
  Where rows state = StateWhere (all_parts tree) outer (Claimed rows) [] state

  rows-where : (rows : List ℕ) (state : State) → Where rows state → Where [] (rows_behind tree all rows state)
  rows-where [] state holds = holds
  rows-where (row ∷ rows) Dead holds = absurd holds
  rows-where (row ∷ rows) (Live known) holds =
      rows-where rows (row_behind tree all row (Live known))
      (range-where (all_parts tree) outer (Claimed (row ∷ rows)) (Claimed rows) [] known row
      (range_behind (type_at (rows_of tree) row) all (filter (λ change. is_row row change.bearer) all) (row_at known row).range)
      (λ steps v of_row is then.
      behind-lies row (row_at known row).range (λ s w of_it at was. (holds.each row).range s w of_it at (inr was)) steps v of_row is)
      (λ other steps v differ then.
      ⊎_elim (λ free. inl (λ listed. ⊎_elim (λ same. differ (sym same)) free (head-or_tail row other rows listed))) (λ was. inr was) then) holds)

  untouched : AreUntouched (all_parts tree) caller (rows_touched tree roots) store after
  untouched =
      kept-untouched tree caller roots [] store after (in-types tree pairs from activations caller after back.call.proper back.typed) call-kept

  rows-hold : (state : State) → StateHolds (all_parts tree) state before
      → Where (rows_touched tree roots) (all_changed roots state)
  rows-hold Dead holds = absurd holds
  rows-hold (Live known) holds =
      changed-where (all_parts tree) outer (Claimed (rows_touched tree roots)) [] roots known holds.count
      (λ row. record {
        range = λ steps v of_row is claimed.
            holds.ranges row steps v of_row (⊎_elim (λ free. untouched row steps v free of_row is) (λ was. was) claimed);
        defined = λ still is steps of_row. call-kept.defined (root_at row) refl steps (holds.defined row is steps of_row);
      })
      (λ root free. growth-stays caller store after root (row_at known root).growth (λ n has. sym (kept root free []) ∙ has) (holds.growths root))
      (λ one listed free.
      held-stays before outer roots (λ root n apart has. kept root apart [] ∙ has) (all_parts tree)
      (λ row steps index of_row first has. call-kept.defined (root_at row) refl steps has) one free (holds.held one listed))

  all-hold : (state : State) → Where [] state → StateHolds (all_parts tree) state outer
  all-hold Dead holds = absurd holds
  all-hold (Live known) holds = where-all (all_parts tree) outer (Claimed []) (λ row steps v. inl (λ listed. in-none row listed)) known holds

  -- what is known of what a call touches
  pub touched-behind_known : (state : State) → Knows (all_parts tree) (length tree.variables.items) caller state store
      → Knows (all_parts tree) (length tree.variables.items) caller (touched_behind tree all roots state) after
  touched-behind_known state knows = record {
    shows = knows.shows;
    holds = all-hold (touched_behind tree all roots state)
        (rows-where (rows_touched tree roots) (all_changed roots state) (rows-hold state knows.holds));
  }
