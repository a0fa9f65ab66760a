-- The leaves that a call changes: each value that it changed for its caller lies in the range of a change of its type, and what is changed just as it is
-- lies in that of its change.
use Rattle.std.proofs.Common.{arith, ◌≡◌, ⊎_elim, ◌∙◌, sym, ap, refl, subst, ℕ, zero, suc, ◌<◌, Bool, true, false, cond}
use Rattle.std.proofs.Common.{List, [], ◌∷◌, length, Option, Some, None}
use Rattle.std.specs.List.{Contains}
use Rattle.std.specs.Prelude.{is_some, slice_get}
use Rattle.std.proofs.lemmas.List.{length-map}
use Rattle.std.proofs.lemmas.List.Elements.{All-contains}
use Rattle.std.proofs.lemmas.Option.{none-some, same_Some, slice_get_within}
use Rattle.types.specs.Types.{is_scalar}
use Rattle.types.specs.declared.form.Step.{Step}
use Rattle.types.specs.declared.form.TypeId.{TypeId}
use Rattle.typed_tree.specs.Accesses.{Origin, AtVariable, root_of}
use Rattle.typed_tree.specs.WellFormed.{is_value_kind}
use Rattle.typed_tree.specs.declared.tree.Block.{Block}
use Rattle.typed_tree.specs.declared.tree.Selector.{Selector}
use Rattle.typed_tree.specs.declared.tree.Tree.{Tree}
use Rattle.typed_tree.specs.declared.tree.Variable.{Variable as DeclaredVariable}
use Rattle.domain.specs.Facts as fact
use Rattle.domain.specs.Facts.{Fact, Order}
use Rattle.domain.specs.Interval.{Interval, common}
use Rattle.meaning.specs.declared.value.Value.{Value}
use Rattle.meaning.specs.Meaning as meaning
use Rattle.meaning.specs.Meaning.{Argument, environment_of, place_for, place_passed}
use Rattle.meaning.specs.Store.{Environment, Place, Store, stored}
use Rattle.checker_rows.specs.Limits.{row_limits}
use Rattle.checker_rows.specs.Rows.{all_parts, rows_accessed, rows_of, rows_under}
use Rattle.checker_rows.proofs.Accessed.{IsOf, rows-are}
use Rattle.checker_rows.proofs.Numbered.{contains-has}
use Rattle.checker_state.specs.Holds.{Holds, IsIn, Moment, ValuesLie, component_at, moment, part_of, value_at}
use Rattle.checker_state.specs.Loops.{is_among}
use Rattle.checker_state.specs.State.{Claim, Range}
use Rattle.checker_state.specs.Stores.{Reach, entire, is_entire}
use Rattle.checker_state.proofs.Ranged.{common-in}
use Rattle.checker_loops.specs.Loops.{all_said, rows_named, said}
use Rattle.checker_loops.specs.Sections.{BlockClaims}
use Rattle.checker_loops.proofs.VariableRows.{own-type}
use Rattle.checker_loops.proofs.Lists.{among-contains, contains-more, in-flat, in-map, of-flat, some-there}
use Rattle.checker_calls.specs.Actuals.{Actual, Bearer, Binding, OfRows, OfValue, OfVariable, Passed, Reached, actual_of, bearers_of, bound_to}
use Rattle.checker_calls.specs.Environments.{LiesIn, place_type, type_led}
use Rattle.checker_calls.specs.Exit.{Change, all_changes, bearers_changed, changes_of, claimed_of_row, exit_range, range_at_end, row_change, rows_changed}
use Rattle.checker_calls.proofs.AliasedTypes.{InTypes, in-types, part-type, row-type}
use Rattle.checker_calls.proofs.Origins.{rows-same}
use Rattle.checker_calls.proofs.CallChanges.{HasReturned, IsChanged, own-older}
use Rattle.checker_calls.proofs.Callee.{activation_of}
use Rattle.checker_calls.proofs.ExitBearers.{Bears, Lies, parameter-bears, passed-lies, rows-bear}
use Rattle.checker_calls.proofs.FormalRows.{rows-alike}
use Rattle.checker_calls.proofs.LedComponents.{led-component}
use Rattle.checker_calls.proofs.Parameters.{IsOuter, IsOutward, IsParameter, outward-cases, parameter-block}
use Rattle.checker_calls.proofs.Passed.{Fits, IsArgument}

-- ---- lists

row-change_at : (tree : Tree) (facts : List Fact) (rows : List ℕ) (bearers : List Bearer) (j row : ℕ) (bearer : Bearer) → slice_get rows j ≡ Some row
    → slice_get bearers j ≡ Some bearer → Contains (rows_changed tree facts rows bearers) (row_change tree facts row bearer)
row-change_at tree facts [] bearers j row bearer row_at bearer_at = absurd (none-some row row_at)
row-change_at tree facts (first ∷ rows) [] j row bearer row_at bearer_at = absurd (none-some bearer bearer_at)
row-change_at tree facts (first ∷ rows) (one ∷ bearers) zero row bearer row_at bearer_at = (
  0,
  omega arith,
  ap (λ (r : ℕ). row_change tree facts r one) (same_Some first row row_at) ∙ ap (row_change tree facts row) (same_Some one bearer bearer_at),
)
row-change_at tree facts (first ∷ rows) (one ∷ bearers) (suc j) row bearer row_at bearer_at =
    contains-more (row_change tree facts first one) (rows_changed tree facts rows bearers) (row_change tree facts row bearer)
    (row-change_at tree facts rows bearers j row bearer row_at bearer_at)

row-change_from : (tree : Tree) (facts : List Fact) (rows : List ℕ) (bearers : List Bearer) (change : Change)
    → Contains (rows_changed tree facts rows bearers) change
    → (j row : ℕ) × (bearer : Bearer) × (slice_get rows j ≡ Some row) × (slice_get bearers j ≡ Some bearer) × (row_change tree facts row bearer ≡ change)
row-change_from tree facts [] bearers change inside = absurd (omega (arith, inside.1))
row-change_from tree facts (first ∷ rows) [] change inside = absurd (omega (arith, inside.1))
row-change_from tree facts (first ∷ rows) (one ∷ bearers) change (zero, within, at) = (0, first, one, refl, refl, at)
row-change_from tree facts (first ∷ rows) (one ∷ bearers) change (suc k, within, at) =
    let more = row-change_from tree facts rows bearers change (k, omega (arith, within), at) in
    (suc more.0, more.1, more.2, more.3, more.4, more.5)

module _ (tree : Tree) (pairs : List (ℕ × ℕ)) (number : ℕ) (block : Block) (arguments : List Argument) (caller : Environment) (activations from : ℕ)
    (store : Store) (actuals : List Actual) (claims : BlockClaims) (after : Store)
    (back : HasReturned tree pairs number block arguments caller activations from store actuals claims after) where
  abbrev callee : Environment
  callee = environment_of tree (activation_of number block arguments caller activations)

  abbrev bindings : List Binding
  bindings = bound_to block.heading.parameters.items actuals

  abbrev pub changes : List Change
  changes = all_changes tree bindings claims

  -- where the callee ended, and where the caller goes on
  abbrev inner : Moment
  inner = moment callee after

  abbrev outer : Moment
  outer = moment caller after

  abbrev IsOuterHere : ℕ → DeclaredVariable → Type 0
  IsOuterHere root variable = IsOuter tree pairs number block arguments caller activations from back.call store actuals back.are root variable

  abbrev ParameterHere : ℕ → DeclaredVariable → Type 0
  ParameterHere root variable = IsParameter tree caller store activations block.heading.parameters.items actuals arguments root variable

  abbrev BearsHere : Bearer → ℕ → Type 0
  BearsHere bearer row = Bears tree pairs number block arguments caller activations from store actuals claims after back.left bearer row

  abbrev LiesHere : ℕ → DeclaredVariable → Origin → List Selector → Reach → Type 0
  LiesHere root variable origin selectors reach =
      Lies tree pairs number block arguments caller activations from store actuals claims after back.left root variable origin selectors reach

  -- ---- what is claimed of the end

  pub exit-holds : (one : Fact) (claim : Claim) → Contains claims.exit one → Contains (said tree one) claim → Holds (all_parts tree) claim inner
  exit-holds one claim inside own =
      All-contains (λ (c : Claim). Holds (all_parts tree) c inner) (all_said tree claims.exit) claim back.exit
      (in-flat (said tree) claims.exit one claim inside own)

  claimed-in : (test : Bool) (known range : Interval) (v : Value) → IsIn known v → (test ≡ true → IsIn range v) → IsIn (cond test (common known range) known) v
  claimed-in true known range v inside own = common-in known range v inside (own refl)
  claimed-in false known range v inside own = inside

  row-exit : (row : ℕ) (steps : List Step) (v : Value) → IsOf tree row steps → component_at (all_parts tree) inner row steps ≡ Some v → (facts : List Fact)
      → ((one : Fact) → Contains facts one → Contains claims.exit one) → (known : Interval) → IsIn known v → IsIn (exit_range tree row facts known) v
  row-exit row steps v of_row is [] there known inside = inside
  row-exit row steps v of_row is (one ∷ facts) there known inside =
      row-exit row steps v of_row is facts (λ other later. there other (contains-more one facts other later)) (claimed_of_row tree row one known)
      (own one (there one (0, omega arith, refl)))
    where
      own : (one : Fact) → Contains claims.exit one → IsIn (claimed_of_row tree row one known) v
      own (fact.Range path range) listed =
          claimed-in (is_among row (rows_named tree path)) known range v inside
          (λ among.
          exit-holds (fact.Range path range) (Range row range) listed
          (in-map (λ r. Range r range) (rows_named tree path) row (among-contains (rows_named tree path) row among)) steps v of_row is)
      own (fact.Defined path spans) listed = inside
      own (Order a b n) listed = inside
      own (fact.Grows a growth) listed = inside

  in_types : InTypes tree callee after
  in_types = in-types tree pairs number (suc activations) callee after back.proper back.typed

  -- each value of a row lies where it is said to at the end
  pub row-ends : (row : ℕ) → ValuesLie (all_parts tree) row (range_at_end tree claims.exit row) inner
  row-ends row = λ steps v of_row at.
      row-exit row steps v of_row at claims.exit (λ one inside. inside) (row_limits (rows_of tree) row) (in_types.components row steps v of_row at)

  -- ---- a leaf that is changed

  -- a change of a type, in whose range a value lies
  pub record HasChange (all : List Change) (own : TypeId) (v : Value) : Type 0 where
    pub change : Change
    pub inside : Contains all change
    pub type_is : change.type_id ≡ Some own
    pub in_range : IsIn change.range v

  leaf-change : (root : ℕ) (variable : DeclaredVariable) (bearers : List Bearer) (home : Place) (rest : List Step) (own : TypeId) (v : Value)
      → slice_get tree.variables.items root ≡ Some variable → callee.variables root ≡ Some home → length bearers ≡ length (rows_under tree root [])
      → value_at inner root rest ≡ Some v → type_led tree.types rest variable.type_id ≡ Some own → LiesIn tree.types own v
      → HasChange (rows_changed tree claims.exit (rows_under tree root []) bearers) own v
  leaf-change root variable bearers home rest own v is home_is many at leads lies =
      let one_value : is_scalar tree.types own ≡ true = ap is_some lies.1 in
      let rows = rows_under tree root [] in
      let are = rows-are tree (AtVariable root) [] variable.type_id (own-type tree root variable is) in
      let found = are.covers [] rest tt (led-component tree.types rest variable.type_id own leads one_value) in
      let there = contains-has rows found.0 found.1 in
      let within = slice_get_within rows there.0 found.0 there.1 in
      let bearer = some-there bearers there.0 (omega (arith, many, within)) in
      let root_is = are.root_is found.0 found.1 in
      record {
        change = row_change tree claims.exit found.0 bearer.0;
        inside = row-change_at tree claims.exit rows bearers there.0 found.0 bearer.0 there.1 bearer.1;
        type_is = row-type tree pairs number (suc activations) callee back.proper found.0 rest home own found.2 (ap callee.variables root_is ∙ home_is)
            (part-type tree pairs number (suc activations) callee back.proper root home variable rest home_is is ∙ leads) one_value;
        in_range = row-ends found.0 rest v found.2 (ap (λ (r : ℕ). value_at inner r rest) root_is ∙ at);
      }

  -- those of a variable parameter
  passed-many : (root : ℕ) (variable : DeclaredVariable) (origin : Origin) (selectors : List Selector) (reach : Reach)
      → LiesHere root variable origin selectors reach → length (bearers_of tree (OfVariable origin selectors reach)) ≡ length (rows_under tree root [])
  passed-many root variable origin selectors reach lies =
      length-map (rows_accessed tree origin selectors) (λ row. Reached row reach)
      ∙ ap length (sym (rows-same tree origin selectors lies.all lies.steps_are))
      ∙ sym (rows-alike tree caller callee root (root_of origin) lies.all lies.way variable.type_id lies.at)

  abbrev changes_at : ℕ → List Change
  changes_at root = changes_of tree claims.exit root (actual_of bindings root)

  in-changes : (root : ℕ) (own : TypeId) (v : Value) → Contains claims.changes root → HasChange (changes_at root) own v → HasChange changes own v
  in-changes root own v listed has = record {
    change = has.change;
    inside = in-flat changes_at claims.changes root has.change listed has.inside;
    type_is = has.type_is;
    in_range = has.in_range;
  }

  lies-here : (root : ℕ) (variable : DeclaredVariable) → slice_get tree.variables.items root ≡ Some variable → ParameterHere root variable
      → (origin : Origin) (selectors : List Selector) (reach : Reach) (place : Place) → place_for root block.heading.parameters.items arguments ≡ Some place
      → IsArgument tree caller store variable (OfVariable origin selectors reach) (meaning.OfPlace (Some place))
      → Fits tree activations (meaning.OfPlace (Some place)) variable → LiesHere root variable origin selectors reach
  lies-here root variable is p origin selectors reach place found known fits =
      passed-lies tree pairs number block arguments caller activations from store actuals claims after back.left root variable is p origin selectors reach place
      found known fits

  not-older : (root : ℕ) (variable : DeclaredVariable) (home : Place) → slice_get tree.variables.items root ≡ Some variable → ParameterHere root variable
      → callee.variables root ≡ Some home → home.activation < activations → is_value_kind variable.kind ≡ true → ⊥
  not-older root variable home is p home_is older value =
      own-older tree pairs number block arguments caller activations from store actuals claims after back.left root variable home is
      (parameter-block tree pairs number block arguments caller activations from back.call store actuals back.are root variable is p) home_is older value

  passed-change : (root : ℕ) (variable : DeclaredVariable) (home : Place) (rest : List Step) (own : TypeId) (v : Value)
      → slice_get tree.variables.items root ≡ Some variable → callee.variables root ≡ Some home → home.activation < activations
      → (p : ParameterHere root variable) → (actual : Actual) (argument : Argument)
      → place_for root block.heading.parameters.items arguments ≡ place_passed argument → IsArgument tree caller store variable actual argument
      → Fits tree activations argument variable
      → value_at inner root rest ≡ Some v → type_led tree.types rest variable.type_id ≡ Some own → LiesIn tree.types own v
      → HasChange (changes_of tree claims.exit root (Some actual)) own v
  passed-change root variable home rest own v is home_is older p (OfVariable origin selectors reach) (meaning.OfPlace None) place_is known fits at leads lies =
      absurd fits
  passed-change root variable home rest own v is home_is older p (OfVariable origin selectors reach) (meaning.OfPlace (Some place)) place_is known fits at leads
      lies =
      leaf-change root variable (bearers_of tree (OfVariable origin selectors reach)) home rest own v is home_is
      (passed-many root variable origin selectors reach (lies-here root variable is p origin selectors reach place place_is known fits)) at leads lies
  passed-change root variable home rest own v is home_is older p (OfVariable origin selectors reach) (meaning.OfValue w) place_is known fits at leads lies =
      absurd known
  passed-change root variable home rest own v is home_is older p (OfVariable origin selectors reach) (meaning.OfRow values) place_is known fits at leads lies =
      absurd known
  passed-change root variable home rest own v is home_is older p actual (meaning.OfValue w) place_is known fits at leads lies =
      absurd (not-older root variable home is p home_is older fits.0)
  passed-change root variable home rest own v is home_is older p actual (meaning.OfRow values) place_is known fits at leads lies =
      absurd (not-older root variable home is p home_is older fits.0)
  passed-change root variable home rest own v is home_is older p (OfValue range form) (meaning.OfPlace place) place_is known fits at leads lies = absurd known
  passed-change root variable home rest own v is home_is older p (OfRows ranges) (meaning.OfPlace place) place_is known fits at leads lies = absurd known

  -- a value that the callee changed is told by a change of its type
  pub changed-told : (place : Place) (own : TypeId) (v : Value) → place.activation < activations
      → IsChanged tree pairs number block arguments caller activations from store actuals claims after back.left place → stored after place ≡ Some v
      → place_type tree place ≡ Some own → LiesIn tree.types own v → HasChange changes own v
  changed-told place own v older is at typed lies =
      let outward = back.outward is.root is.listed in
      let variable = outward.0 in
      let activation = ap (λ (q : Place). q.activation) is.place_is in
      let value : value_at inner is.root is.rest ≡ Some v =
      ap (λ (found : Option Place). part_of after found is.rest) is.home_is ∙ ap (stored after) is.place_is ∙ at in
      let leads : type_led tree.types is.rest variable.type_id ≡ Some own =
      sym (part-type tree pairs number (suc activations) callee back.proper is.root is.home variable is.rest is.home_is outward.1)
      ∙ ap (place_type tree) is.place_is ∙ typed in
      in-changes is.root own v is.listed
      (⊎_elim
      (λ (here : IsOuterHere is.root variable).
      subst (λ (found : Option Actual). HasChange (changes_of tree claims.exit is.root found) own v) (sym here.no_actual)
      (leaf-change is.root variable (bearers_changed tree is.root None) is.home is.rest own v outward.1 is.home_is
      (length-map (rows_under tree is.root []) (λ row. Reached row entire)) value leads lies))
      (λ (p : ParameterHere is.root variable).
      subst (λ (found : Option Actual). HasChange (changes_of tree claims.exit is.root found) own v) (sym p.actual_is)
      (passed-change is.root variable is.home is.rest own v outward.1 is.home_is (omega (arith, activation, older)) p p.actual p.argument p.place_is p.known
      p.fits value leads lies))
      (outward-cases tree pairs number block arguments caller activations from back.call store actuals back.are is.root outward))

  -- ---- what is changed just as it is

  -- all values of a row of the caller's, if all of one is changed, lie in a range
  abbrev pub IsExact : Bearer → Interval → Type 0
  IsExact (Passed own) range = Unit {0}
  IsExact (Reached row reach) range = is_entire reach ≡ true → ValuesLie (all_parts tree) row range outer

  bears-exact : (bearer : Bearer) (row : ℕ) → BearsHere bearer row → IsExact bearer (range_at_end tree claims.exit row)
  bears-exact (Passed own) row bears = tt
  bears-exact (Reached own reach) row bears = λ all steps v of_row at.
      let same = bears all steps of_row in
      row-ends row same.rest v same.of_row (sym same.value ∙ at)

  -- what bears a row that is changed
  changed-bears : (root : ℕ) (outward : IsOutward tree number root) (j row : ℕ) (bearer : Bearer) → slice_get (rows_under tree root []) j ≡ Some row
      → slice_get (bearers_changed tree root (actual_of bindings root)) j ≡ Some bearer → BearsHere bearer row
  changed-bears root outward j row bearer row_at at =
      ⊎_elim
      (λ (here : IsOuterHere root outward.0).
      rows-bear tree pairs number block arguments caller activations from store actuals claims after back.left root outward.0 here (rows_under tree root [])
      (λ r inside. (rows-are tree (AtVariable root) [] outward.0.type_id (own-type tree root outward.0 outward.1)).root_is r inside) j row bearer row_at
      (ap (λ (found : Option Actual). slice_get (bearers_changed tree root found) j) (sym here.no_actual) ∙ at))
      (λ (p : ParameterHere root outward.0).
      passed p p.actual p.argument p.place_is p.known p.fits
      (ap (λ (found : Option Actual). slice_get (bearers_changed tree root found) j) (sym p.actual_is) ∙ at))
      (outward-cases tree pairs number block arguments caller activations from back.call store actuals back.are root outward)
    where
      passed : (p : ParameterHere root outward.0) (actual : Actual) (argument : Argument)
          → place_for root block.heading.parameters.items arguments ≡ place_passed argument → IsArgument tree caller store outward.0 actual argument
          → Fits tree activations argument outward.0 → slice_get (bearers_changed tree root (Some actual)) j ≡ Some bearer → BearsHere bearer row
      passed p (OfValue range form) argument place_is known fits at = absurd (none-some bearer at)
      passed p (OfRows ranges) argument place_is known fits at = absurd (none-some bearer at)
      passed p (OfVariable origin selectors reach) argument place_is known fits at =
          parameter-bears tree pairs number block arguments caller activations from store actuals claims after back.left root outward.0 outward.1 p
          (OfVariable origin selectors reach) argument place_is known fits j row bearer row_at at

  -- each change is exact
  pub changes-exact : (change : Change) → Contains changes change → IsExact change.bearer change.range
  changes-exact change inside =
      let found = of-flat changes_at claims.changes change inside in
      let root = found.0 in
      let own = row-change_from tree claims.exit (rows_under tree root []) (bearers_changed tree root (actual_of bindings root)) change found.2 in
      subst (λ (c : Change). IsExact c.bearer c.range) own.5
      (bears-exact own.2 own.1 (changed-bears root (back.outward root found.1) own.0 own.1 own.2 own.3 own.4))
