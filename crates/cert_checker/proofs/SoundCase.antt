-- A case statement is sound: its index is a constant of the arm that is executed, or its site is open.
use Rattle.std.proofs.Common.{arith, ◌≡◌, ◌∙◌, sym, ap, refl, subst, ℕ, suc, ℤ, Bool, true, false, cond, ◌||◌, List, [], ◌∷◌, length, Option, Some, None}
use Rattle.std.specs.Prelude.{drop, slice_get}
use Rattle.std.specs.Ordering.{int_eq}
use Rattle.std.specs.declared.alloc.Global.{Global}
use Rattle.std.specs.declared.vec.Vec.{Vec}
use Rattle.std.proofs.lemmas.Bool.{or_parts}
use Rattle.std.proofs.lemmas.Int.{ints}
use Rattle.std.proofs.lemmas.List.Folds.{list_any-append}
use Rattle.domain.specs.Interval.{common}
use Rattle.domain.specs.Numbers.{hull}
use Rattle.domain.proofs.Numbers.{among-hull}
use Rattle.meaning.specs.declared.value.Value.TheVariants.{Number}
use Rattle.meaning.specs.declared.outcome.Ending.TheVariants.{Error}
use Rattle.meaning.specs.Effect as effect
use Rattle.meaning.specs.Meaning.{Execution, Surroundings, arm_of, is_among}
use Rattle.meaning.specs.Store.{Environment, Store}
use Rattle.checker_state.specs.State.{State, Table, range_of}
use Rattle.domain.specs.declared.versions.Version.{Version}
use Rattle.checker_state.specs.declared.forms.Form.{Form}
use Rattle.checker_state.specs.declared.forms.Form.TheVariants.{Fixed, Entire, Moved, Other}
use Rattle.checker_state.specs.Forms.{bound_of, root_of}
use Rattle.checker_state.specs.Holds.{HasNumber, HoldNumbers, Moment, moment}
use Rattle.checker_state.specs.Knows.{AreRows, IsOfForm, Knows}
use Rattle.checker_state.specs.State.{table_of}
use Rattle.checker_state.proofs.Bounded.{narrowed-holds, root-here}
use Rattle.checker_state.proofs.Ranged.{common-in}
use Rattle.checker_rows.specs.Rows.{Parts}
use Rattle.checker_state.specs.Joins.{joined_states}
use Rattle.checker_loops.specs.Cases.{arm_start, at_constants, constants_before}
use Rattle.checker_expressions.specs.Walk.{Context, Walking}
use Rattle.checker_expressions.proofs.Sound.{Stands, World, ordinal_in, stands-as}
use Rattle.cert_checker.specs.Walk.{arms_walk}
use Rattle.cert_checker.proofs.SoundLoops.{joined-one}

-- an entire variable has the number of the expression that it is
pub entire-number : (version : Version) (form : Form) (m : Moment) (n : ℤ) (root : ℕ) → IsOfForm m (bound_of version form) (Number n)
    → root_of form ≡ Some root → HasNumber m root n
entire-number version (Entire other) m n root (k, same, (old, has, sum)) is =
    let number : n ≡ k = cc in
    let variable : other ≡ root = cc in
    let value : old ≡ n = omega (arith, ints) in
    subst (λ (r : ℕ). HasNumber m r n) variable (subst (λ (v : ℤ). HasNumber m other v) value has)
entire-number version (Fixed spelling value) m n root of_form is = absurd (cc)
entire-number version (Moved other spelling k) m n root of_form is = absurd (cc)
entire-number version Other m n root of_form is = absurd (cc)

-- what is known at an arm whose constants have the value of the index
pub at-constants_known : (rows : List Parts) (table : Table) → AreRows rows table
    → (env : Environment) (store : Store) (index : Option ℕ) (row : List ℤ) (base : State) (n : ℤ)
    → ((root : ℕ) → index ≡ Some root → HasNumber (moment env store) root n) → is_among row n ≡ true → Knows rows table.variables env base store
    → Knows rows table.variables env (at_constants index row base) store
at-constants_known rows table are env store None row base n has among known = known
at-constants_known rows table are env store (Some root) row base n has among known =
    let here = root-here rows table are env known.shows store base root n known.holds (has root refl) in
    record {
      shows = known.shows;
      holds = narrowed-holds rows table are env known.shows store base root (common (range_of base root) (hull row)) n (has root refl)
          (common-in (range_of base root) (hull row) (Number n) here (among-hull row n among)) known.holds;
    }

-- what is known behind an arm is known behind those after it
pub arms-behind : (world : World) (env : Environment) (store : Store) (base : State) (index : Option ℕ) (rows : List (Vec ℤ Global))
    (arms : List (Walking (Unit {0}))) (context : Context) (behind : State) → HoldNumbers (ordinal_in world) (moment env store)
    → Stands world env context behind store
    → Stands world env context (arms_walk base index rows arms context behind).after store
arms-behind world env store base index rows [] context behind numbers stands = stands
arms-behind world env store base index rows (arm ∷ arms) context behind numbers stands =
    let first = arm context (arm_start index (slice_get rows 0) base) in
    arms-behind world env store base index (drop 1 rows) arms context (joined_states (table_of context.tree) behind first.after) numbers
    (stands-as world env context behind (joined_states (table_of context.tree) behind first.after) store stands
    (joined-one world env context behind first.after store numbers stands))

-- the constants before a first arm, and before the others
pub first-constants : (row : Vec ℤ Global) (rows : List (Vec ℤ Global)) (arms : ℕ) (n : ℤ)
    → is_among (constants_before (suc arms) (row ∷ rows)) n ≡ (is_among row.items n || is_among (constants_before arms rows) n)
first-constants row rows arms n = list_any-append (λ constant. int_eq constant n) row.items (constants_before arms rows)

-- where no constant is the value, it is an error
pub arm-missing : (site : ℕ) (rows : List (Vec ℤ Global)) (arms : List Execution) (n : ℤ) (env : Surroundings) (t : effect.State)
    → is_among (constants_before (length arms) rows) n ≡ false → arm_of site rows arms n env t ≡ effect.Stops (Error site) t
arm-missing site [] arms n env t missing = refl
arm-missing site (row ∷ rows) [] n env t missing = refl
arm-missing site (row ∷ rows) (arm ∷ arms) n env t missing =
    let parts = or_parts (is_among row.items n) (is_among (constants_before (length arms) rows) n)
    (sym (first-constants row rows (length arms) n) ∙ missing) in
    ap (λ (b : Bool). cond b (arm env) (arm_of site rows arms n env) t) parts.0 ∙ arm-missing site rows arms n env t parts.1
