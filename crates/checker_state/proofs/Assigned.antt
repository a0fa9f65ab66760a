-- What is known after a variable was assigned a value, or became undefined, holds.
use Rattle.std.proofs.Common.{arith, ◌≡◌, ⊎_elim, ◌∙◌, sym, ap, refl, subst, ℕ, ℤ, ◌+ℤ◌, neg_ℤ, ◌≤ℤ◌, ◌<◌, Bool, true, false, cond, ◌||◌, nat_eq, List, []}
use Rattle.std.proofs.Common.{◌∷◌, get_or, Option, Some, None}
use Rattle.std.specs.List.{filter_map}
use Rattle.std.proofs.lemmas.Int.{ints}
use Rattle.std.proofs.lemmas.Bool.{both_ways, cases_Bool, cond_both, eq-eqb, or_from}
use Rattle.std.proofs.lemmas.List.{length-set}
use Rattle.std.proofs.lemmas.Option.{none-some, same_Some}
use Rattle.domain.specs.Interval.{Interval, vacant}
use Rattle.types.specs.declared.form.Step.{Step}
use Rattle.meaning.specs.Integers.{is_integer_number}
use Rattle.meaning.specs.declared.value.Value.{Value}
use Rattle.meaning.specs.declared.value.Value.TheVariants.{Number}
use Rattle.meaning.specs.Store.{Environment, Store}
use Rattle.checker_rows.specs.Rows.{Parts, first_index, no_parts}
use Rattle.checker_state.specs.Bounds.{Bound}
use Rattle.checker_state.specs.declared.growing.Growing.{Growing}
use Rattle.checker_state.specs.State.{Dead, Facts, Live, Ordered, State, Table, row_at, with_growth, with_row, with_value}
use Rattle.checker_state.specs.Changes.{changed, ordered, with_change, with_equal, with_equal_to, with_some}
use Rattle.checker_state.specs.Loops.{is_among, with_undefined}
use Rattle.checker_state.specs.Holds.{FactsHold, GrowthHolds, HasNumber, IsBoundBy, IsIn, IsOfRow, Moment, StateHolds, moment}
use Rattle.checker_state.specs.Holds.{value_at}
use Rattle.checker_state.specs.Knows.{AreRows, IsFormApart, IsLoose, IsLooseIn, IsOfForm, Knows, OneChanges, bound_rests}
use Rattle.checker_state.specs.Laws.{AssignmentsHold}
use Rattle.checker_state.proofs.Changed.{IsNumberOf, KeepNumbers, changed-holds, changes-keep}
use Rattle.checker_state.proofs.Grown.{step-holds}
use Rattle.checker_state.proofs.Lists.{in-filter_map}
use Rattle.checker_state.proofs.Rows.{Any_value, HoldsWhere, defined-where, forgotten-where, growth-set, growth-stays, held-holds, of_own, own-lies, own-whole}
use Rattle.checker_state.proofs.Rows.{range-where, root-own, row-grown, where-all}

-- an order that holds is known, if its number is one that facts have
pub order-holds : (rows : List Parts) (m : Moment) (state : State) (a b : ℕ) (x y k : ℤ) → HasNumber m a x → HasNumber m b y → x ≤ℤ (y +ℤ k)
    → StateHolds rows state m → StateHolds rows (with_some (ordered a b k) state) m
order-holds rows m Dead a b x y k at_a at_b less holds = holds
order-holds rows m (Live known) a b x y k at_a at_b less holds =
    cond_both (is_integer_number k) (Some (Ordered a b k)) None (λ more. StateHolds rows (with_some more (Live known)) m)
    (λ fits. held-holds rows m (Live known) (Ordered a b k) (x, y, at_a, at_b, less) holds) (λ none. holds)

-- nothing is loose where there is no alias
pub none-loose : (rows : List Parts) (env : Environment) (state : State) (after : Store) → IsLooseIn rows env [] state after
none-loose rows env Dead after = tt
none-loose rows env (Live known) after = record {
  held = λ one listed. refl;
  growths = λ root among. absurd (cc);
  ranges = λ row steps v among of_row is. absurd (cc);
}

module _ (rows : List Parts) (table : Table) (are : AreRows rows table) (env : Environment) (aliases : List ℕ) (before after : Store) (root : ℕ)
    (within : root < table.variables) (changes : OneChanges env root aliases before after) where
  abbrev Before : Moment
  Before = moment env before

  abbrev After : Moment
  After = moment env after

  abbrev root_at : ℕ → ℕ
  root_at row = (get_or rows row no_parts).root

  -- what is claimed of all rows but the variable's own
  abbrev Others : ℕ → List Step → Value → Type 0
  Others row steps v = row ≡ root → ⊥

  -- no other row has the variable as a whole
  own-row : (row : ℕ) (steps : List Step) → IsOfRow rows row steps → root_at row ≡ root → steps ≡ [] → row ≡ root
  own-row row steps of_row same whole =
      are.apart row root [] (subst (λ s. IsOfRow rows row s) whole of_row) (of_own rows table are After root within)
      (same ∙ sym (root-own rows table are After root within))

  keep : KeepNumbers (root ∷ aliases) Before After
  keep = changes-keep env root aliases before after changes

  number-stays : (other : ℕ) (n : ℤ) → nat_eq root other ≡ false → is_among other aliases ≡ false → HasNumber Before other n → HasNumber After other n
  number-stays other n differ free has = keep other n (or_from (nat_eq root other) (is_among other aliases) differ free) has

  -- another variable grows as it did
  growth-kept : (known : Facts) → IsLoose rows env aliases known after → FactsHold rows known Before → (other : ℕ) → (other ≡ root → ⊥)
      → GrowthHolds other (row_at known other).growth After
  growth-kept known loose holds other differ =
      ⊎_elim (λ alias. subst (λ (growth : Option Growing). GrowthHolds other growth After) (sym (loose.growths other alias)) tt)
      (λ free.
      growth-stays env before after other (row_at known other).growth (λ n has. sym (changes.others other [] (λ same whole. differ same) free) ∙ has)
      (holds.growths other)) (cases_Bool (is_among other aliases))

  -- what is left before the variable's own row is set
  others-hold : (form : Option Bound) → IsNumberOf root form Before After → (known : Facts) → IsLoose rows env aliases known after
      → FactsHold rows known Before
      → HoldsWhere rows After Others (root ∷ []) (record (with_growth root None known) { held = filter_map (changed root form) known.held })
  others-hold form number known loose holds = record {
    count = (let same = length-set known.rows root (record (row_at known root) { growth = None }) in omega (arith, same, holds.count));
    each = λ row. row-grown rows After Others (root ∷ []) known root None row (record {
      range = λ steps v of_row there differ.
          ⊎_elim (λ alias. loose.ranges row steps v alias of_row there)
          (λ free.
          let stays = changes.others (root_at row) steps (λ same whole. differ (own-row row steps of_row same whole)) free in
          holds.ranges row steps v of_row (sym stays ∙ there)) (cases_Bool (is_among (root_at row) aliases));
      defined = λ kept is steps of_row.
          changes.defined (root_at row) steps
          (λ same whole.
          let own = own-row row steps of_row same whole in
          both_ways (nat_eq root row || false) kept (subst (λ (r : ℕ). (nat_eq root r || false) ≡ true) (sym own) (root-among root)))
          (holds.defined row is steps of_row);
    });
    growths = λ other.
        growth-set After known root other (record (row_at known root) { growth = None }) (λ same. tt) (λ differ. growth-kept known loose holds other differ);
    held = λ one inside.
        let (old, listed, became) = in-filter_map (changed root form) known.held one inside in
        changed-holds Before After root aliases keep rows
        (λ row steps index of_row first has. changes.defined (root_at row) steps (λ same whole. no-first steps index whole first) has) form number old one
        (loose.held old listed) became (holds.held old listed);
  }
    where
      root-among : (root : ℕ) → (nat_eq root root || false) ≡ true
      root-among root = ap (λ (b : Bool). b || false) (eq-eqb root root refl)

      no-first : (steps : List Step) (index : ℤ) → steps ≡ [] → first_index steps ≡ Some index → ⊥
      no-first steps index none first = none-some index (sym (ap first_index none) ∙ first)

  module _ (v : Value) (own : value_at After root [] ≡ Some v) where
    value-holds : (form : Option Bound) → IsNumberOf root form Before After → (state : State) (range : Interval) → IsIn range v
        → IsLooseIn rows env aliases state after → StateHolds rows state Before → StateHolds rows (with_value root range (with_change root form state)) After
    value-holds form number Dead range inside loose holds = holds
    value-holds form number (Live known) range inside loose holds =
        let left : Facts = record (with_growth root None known) { held = filter_map (changed root form) known.held } in
        let ranged : Facts = with_row root (record (row_at left root) { range = range }) left in
        let lies = own-lies rows table are After root within range (λ w is. subst (λ u. IsIn range u) (same_Some v w (sym own ∙ is)) inside) in
        where-all rows After (Any_value rows After) (λ row steps v. tt) (with_row root (record (row_at ranged root) { is_defined = true }) ranged)
        (defined-where rows After (Any_value rows After) [] ranged root (own-whole rows table are After root within (v, own))
        (range-where rows After Others (Any_value rows After) (root ∷ []) left root range (λ steps w of_row there any. lies steps w of_row there)
        (λ other steps w differ any. differ) (others-hold form number known loose holds)))

    equal-if : (same : Bool) (by : ℕ) (k n old : ℤ) → nat_eq root by ≡ same → is_among by aliases ≡ false → v ≡ Number n → HasNumber Before by old
        → (old +ℤ k) ≡ n → (state : State) → StateHolds rows state After
        → StateHolds rows (cond same state (with_some (ordered by root (neg_ℤ k)) (with_some (ordered root by k) state))) After
    equal-if true by k n old same free is was sum state holds = holds
    equal-if false by k n old same free is was sum state holds =
        let here : HasNumber After root n = own ∙ ap Some is in
        let there = number-stays by old same free was in
        order-holds rows After (with_some (ordered root by k) state) by root old n (neg_ℤ k) there here (omega (arith, ints, sum))
        (order-holds rows After state root by n old k here there (omega (arith, ints, sum)) holds)

    equal-by : (by : Option ℕ) (k n : ℤ) → bound_rests aliases (record { root = by; number = k }) ≡ false → v ≡ Number n → IsBoundBy Before by k n
        → (state : State) → StateHolds rows state After → StateHolds rows (with_equal_to root by k state) After
    equal-by None k n free is at state holds = holds
    equal-by (Some by) k n free is (old, was, sum) state holds = equal-if (nat_eq root by) by k n old refl free is was sum state holds

    equal-holds : (form : Option Bound) → IsOfForm Before form v → IsFormApart aliases form → (state : State) → StateHolds rows state After
        → StateHolds rows (with_equal root form state) After
    equal-holds None of_form apart state holds = holds
    equal-holds (Some form) (n, is, at) apart state holds = equal-by form.root form.number n (apart form refl) is at state holds

    number-of_form : (form : Option Bound) → IsOfForm Before form v → IsNumberOf root form Before After
    number-of_form None of_form = tt
    number-of_form (Some form) (n, is, at) = (n, own ∙ ap Some is, at)

  -- the variable has no value any more
  undefined-holds : (state : State) → ((v : Value) → value_at After root [] ≡ Some v → ⊥) → IsLooseIn rows env aliases state after
      → StateHolds rows state Before → StateHolds rows (with_undefined root state) After
  undefined-holds Dead none loose holds = holds
  undefined-holds (Live known) none loose holds =
      let left : Facts = record (with_growth root None known) { held = filter_map (changed root None) known.held } in
      let ranged : Facts = with_row root (record (row_at left root) { range = vacant }) left in
      let lies = own-lies rows table are After root within vacant (λ v is. absurd (none v is)) in
      where-all rows After (Any_value rows After) (λ row steps v. tt) (with_row root (record (row_at ranged root) { is_defined = false }) ranged)
      (forgotten-where rows After (Any_value rows After) [] ranged root
      (range-where rows After Others (Any_value rows After) (root ∷ []) left root vacant (λ steps w of_row there any. lies steps w of_row there)
      (λ other steps w differ any. differ) (others-hold None tt known loose holds)))

pub assignments-hold : AssignmentsHold
assignments-hold rows table are env aliases state before after root range form step v within changes own known loose inside of_form apart is_step = record {
  shows = known.shows;
  holds = step-holds rows table are env known.shows before after root within v own step is_step state known.holds
      (with_equal root form (with_value root range (with_change root form state)))
      (equal-holds rows table are env aliases before after root within changes v own form of_form apart (with_value root range (with_change root form state))
      (value-holds rows table are env aliases before after root within changes v own form
      (number-of_form rows table are env aliases before after root within changes v own form of_form) state range inside loose known.holds));
}

pub undefined-known : (rows : List Parts) (table : Table) → AreRows rows table
    → (env : Environment) (state : State) (root : ℕ) (before after : Store) → root < table.variables
    → OneChanges env root [] before after → ((v : Value) → value_at (moment env after) root [] ≡ Some v → ⊥)
    → Knows rows table.variables env state before → Knows rows table.variables env (with_undefined root state) after
undefined-known rows table are env state root before after within changes none known = record {
  shows = known.shows;
  holds = undefined-holds rows table are env [] before after root within changes state none (none-loose rows env state after) known.holds;
}
