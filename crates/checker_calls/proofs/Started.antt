-- What is known where an activation of a block begins: its own variables and its result are undefined, its value parameters are defined, each other
-- variable has a value of its type or none, and what is claimed holds.
use Rattle.std.proofs.Common.{arith, ◌≡◌, ⊎_elim, ◌∙◌, sym, ap, refl, subst, ℕ, zero, suc, ◌+◌, ◌<◌, true, false, cond}
use Rattle.std.proofs.Common.{◌&&◌, ◌||◌, nat_eq, List, [], ◌∷◌, length, Option, Some, None}
use Rattle.std.specs.Cmp.Lexicographic.{pointwise}
use Rattle.std.specs.List.{Contains}
use Rattle.std.specs.Prelude.{slice_get, slice_index_or}
use Rattle.std.proofs.lemmas.Bool.{and_parts, both_ways, cond_both, eq-eqb, eqb-true, false≢true, or_cases, or_left}
use Rattle.std.proofs.lemmas.List.Elements.{All-nil}
use Rattle.std.proofs.lemmas.Option.{none-some}
use Rattle.types.specs.Components.{components_of}
use Rattle.types.specs.declared.form.OrdinalRange.{OrdinalRange}
use Rattle.types.specs.declared.form.Step.{Step}
use Rattle.typed_tree.specs.WellFormed.{IsWellFormed, is_local_kind, is_parameter_kind, is_result_kind, is_round, is_value_kind, is_variable_kind, is_visible}
use Rattle.typed_tree.specs.WellFormed.{Outline, encloses, is_one_of, of_one, outline_of}
use Rattle.typed_tree.specs.declared.tree.Block.{Block}
use Rattle.typed_tree.specs.declared.tree.Tree.{Tree}
use Rattle.typed_tree.specs.declared.tree.Variable.{Variable}
use Rattle.typed_tree.specs.declared.tree.VariableKind.{VariableKind}
use Rattle.typed_tree.specs.declared.tree.VariableKind.TheVariants as kind
use Rattle.domain.specs.declared.versions.Version.{Version}
use Rattle.domain.specs.Facts.{Fact}
use Rattle.domain.specs.Interval.{Interval, vacant}
use Rattle.meaning.specs.declared.value.Value.{Value}
use Rattle.meaning.specs.Meaning.{Activation, Argument, environment_of, home_of, own_place, place_for, program_activation}
use Rattle.meaning.specs.Store.{Environment, Place, Store}
use Rattle.checker_rows.specs.Limits.{limits_or_integer}
use Rattle.checker_rows.specs.Rows.{Row, all_parts, is_structured_variable, no_parts, rows_of}
use Rattle.checker_rows.proofs.Accessed.{IsOf}
use Rattle.checker_rows.proofs.Numbered.{contains-has, parts-many, root-of_row, row-at}
use Rattle.checker_state.specs.declared.growing.Growing.{Growing}
use Rattle.checker_state.specs.Holds.{FactsHold, GrowthHolds, HasValue, Holds, IsIn, moment, part_of, value_at}
use Rattle.checker_state.specs.Knows.{Knows}
use Rattle.checker_state.specs.State.{Facts, Live, RowState, no_row, row_at}
use Rattle.checker_loops.specs.Starts.{block_start, is_own, is_passed_value, row_start, rows_start}
use Rattle.checker_loops.proofs.AliasedStores.{stored-of}
use Rattle.checker_loops.proofs.VariableRows.{own-type, row-component, under-whole}
use Rattle.checker_calls.specs.Environments.{Begun, Proper, Typed, place_type}
use Rattle.checker_calls.proofs.AliasedTypes.{InTypes, in-types, seen, shows}
use Rattle.checker_calls.proofs.Assigned.{Received, received}
use Rattle.checker_calls.proofs.Callee.{IsCalled, Outer, Own, PassedTo, Seen, activation_of, parameter-listed, seen-as}
use Rattle.checker_calls.proofs.Claimed.{AllHold}
use Rattle.checker_calls.proofs.Entered.{behind_assignments, distinct, homes, nothing-begun, own-home, own-undefined, own-where, typed-behind}
use Rattle.checker_calls.proofs.Entered.{value-not_variable}
use Rattle.checker_calls.proofs.Headings.{heading-at, one-there, same-numbers, well-placed}
use Rattle.checker_calls.proofs.Passed.{AllFit}
use Rattle.checker_calls.proofs.Places.{overlaps-from}
use Rattle.checker_loops.specs.Loops.{all_said}
use Rattle.checker_state.proofs.Looped.{claims-hold}
use Rattle.checker_state.proofs.Rows.{of_row-within}
use Rattle.std.proofs.lemmas.Option.{same_Some}
use Rattle.std.proofs.Common.{not, Bool}
use Rattle.std.specs.Option.{option_and_then}

not-true : (b : Bool) → not b ≡ true → b ≡ false
not-true true is = absurd (false≢true is)
not-true false is = refl

own-no_variable : (one : VariableKind) → (is_local_kind one || is_result_kind one) ≡ true → (is_variable_kind one ≡ false) × (is_value_kind one ≡ false)
own-no_variable kind.Local is = (refl, refl)
own-no_variable kind.Result is = (refl, refl)
own-no_variable kind.ValueParameter is = absurd (false≢true is)
own-no_variable kind.VariableParameter is = absurd (false≢true is)

-- ---- a block where it begins

module _ (tree : Tree) (pairs : List (ℕ × ℕ)) (number activations : ℕ) (visible : Environment) (store : Store)
    (proper : Proper tree pairs number activations visible) (typed : Typed tree store)
    (undefined : (root : ℕ) (variable : Variable) (rest : List Step) (v : Value) → slice_get tree.variables.items root ≡ Some variable
    → is_own number variable ≡ true → value_at (moment visible store) root rest ≡ Some v → ⊥)
    (defined : (root : ℕ) (variable : Variable) (rest : List Step) → slice_get tree.variables.items root ≡ Some variable
    → is_passed_value number variable ≡ true → Contains (components_of tree.types variable.type_id) rest → HasValue (moment visible store) root rest) where
  abbrev declared : List Variable
  declared = tree.variables.items

  in_types : InTypes tree visible store
  in_types = in-types tree pairs number activations visible store proper typed

  -- a variable with a value is none that is undefined
  in-start : (root : ℕ) (variable : Variable) (rest : List Step) (v : Value) (limits : Interval) → slice_get declared root ≡ Some variable
      → value_at (moment visible store) root rest ≡ Some v → IsIn limits v → IsIn (cond (is_own number variable) vacant limits) v
  in-start root variable rest v limits is at inside =
      cond_both (is_own number variable) vacant limits (λ range. IsIn range v) (λ own. absurd (undefined root variable rest v is own at)) (λ other. inside)

  -- ---- rows

  abbrev rows : List Row
  rows = rows_of tree

  abbrev start : Version → Facts
  start rules = record { rows = rows_start tree number 0 rows; held = []; rules = rules }

  -- what is known of a row
  start-at : (from k : ℕ) (all : List Row) (row : Row) → slice_get all k ≡ Some row
      → slice_index_or (rows_start tree number from all) k no_row ≡ row_start tree number (from + k) row (slice_get declared row.root)
  start-at from k [] row is = absurd (none-some row is)
  start-at from zero (first ∷ all) row is =
      let e : from ≡ from + 0 = omega arith in
      ap (λ (r : Row). row_start tree number from r (slice_get declared r.root)) (same_Some first row is)
      ∙ ap (λ (n : ℕ). row_start tree number n row (slice_get declared row.root)) e
  start-at from (suc k) (first ∷ all) row is =
      let e : suc from + k ≡ from + suc k = omega arith in
      start-at (suc from) k all row is ∙ ap (λ (n : ℕ). row_start tree number n row (slice_get declared row.root)) e

  start-many : (from : ℕ) (all : List Row) → length (rows_start tree number from all) ≡ length all
  start-many from [] = refl
  start-many from (first ∷ all) = ap suc (start-many (suc from) all)

  -- nothing grows there
  start-still : (from k : ℕ) (all : List Row) → (slice_index_or (rows_start tree number from all) k no_row).growth ≡ None
  start-still from k [] = refl
  start-still from zero (first ∷ all) = refl
  start-still from (suc k) (first ∷ all) = start-still (suc from) k all

  abbrev root_of : ℕ → ℕ
  root_of row = (slice_index_or (all_parts tree) row no_parts).root

  row-known : (rules : Version) (row : ℕ) (steps : List Step) → IsOf tree row steps
      → (found : Row) × (slice_get rows row ≡ Some found) × (row_at (start rules) row ≡ row_start tree number row found (slice_get declared (root_of row)))
  row-known rules row steps of_row =
      let at = row-at tree row (of_row-within (all_parts tree) row steps of_row) in
      let e : 0 + row ≡ row = omega arith in (
        at.0,
        at.1,
        start-at 0 row rows at.0 at.1 ∙ ap (λ (n : ℕ). row_start tree number n at.0 (slice_get declared at.0.root)) e
            ∙ ap (λ (root : ℕ). row_start tree number row at.0 (slice_get declared root)) (sym (root-of_row tree row at.0 at.1)),
      )

  start-holds : (rules : Version) → FactsHold (all_parts tree) (start rules) (moment visible store)
  start-holds rules = record {
    count = (let many = start-many 0 rows in
        let parts = parts-many tree in
        omega (arith, many, parts));
    ranges = λ row steps v of_row at.
        let (found, found_is, known) = row-known rules row steps of_row in
        let home = stored-of store (visible.variables (root_of row)) steps v at in
        let there = seen tree pairs number activations visible proper (root_of row) home.0 home.1 in
        let variable = one-there (λ (x : Variable). is_round (outline_of tree) number x.block) (slice_get declared (root_of row)) there in
        let values = ap (option_and_then (λ (r : Row). r.leaf.values)) found_is in
        let own : IsIn (limits_or_integer found.leaf.values) v =
        subst (λ (range : Option OrdinalRange). IsIn (limits_or_integer range) v) values (in_types.components row steps v of_row at) in
        subst (λ (state : RowState). IsIn state.range v)
        (sym (known ∙ ap (row_start tree number row found) variable.1))
        (in-start (root_of row) variable.0 steps v (limits_or_integer found.leaf.values) variable.1 at own);
    defined = λ row is steps of_row.
        let (found, found_is, known) = row-known rules row steps of_row in
        let passed : (of_one (is_passed_value number) (slice_get declared (root_of row)) && not (is_structured_variable tree row)) ≡ true =
        sym (ap (λ (state : RowState). state.is_defined) known) ∙ is in
        let both = and_parts (of_one (is_passed_value number) (slice_get declared (root_of row))) (not (is_structured_variable tree row)) passed in
        let variable = one-there (is_passed_value number) (slice_get declared (root_of row)) both.0 in
        let inside = under-whole tree row steps of_row (λ within. not-true (is_structured_variable tree row) both.1) in
        defined (root_of row) variable.0 steps variable.1 variable.2
        (row-component tree (root_of row) row steps variable.0.type_id (own-type tree (root_of row) variable.0 variable.1) inside of_row);
    growths = λ root.
        subst (λ (growth : Option Growing). GrowthHolds root growth (moment visible store)) (sym (start-still 0 root rows)) tt;
    held = λ one inside. absurd (omega (arith, inside.1));
  }

  -- where what is claimed holds
  pub start-known : (rules : Version) (facts : List Fact) → AllHold tree facts visible store
      → Knows (all_parts tree) (length tree.variables.items) visible (block_start rules tree number facts) store
  start-known rules facts hold = record {
    shows = shows tree pairs number activations visible proper;
    holds = claims-hold (all_parts tree) (moment visible store) (all_said tree facts) (Live (start rules)) hold (start-holds rules);
  }

-- ---- a block that is called

argument-at : (tree : Tree) (activations : ℕ) (roots : List ℕ) (arguments : List Argument) → AllFit tree activations roots arguments → (i root : ℕ)
    → slice_get roots i ≡ Some root → (argument : Argument) × (slice_get arguments i ≡ Some argument)
argument-at tree activations [] [] fit i root is = absurd (none-some root is)
argument-at tree activations [] (argument ∷ arguments) fit i root is = absurd fit
argument-at tree activations (first ∷ roots) [] fit i root is = absurd fit
argument-at tree activations (first ∷ roots) (argument ∷ arguments) fit zero root is = (argument, refl)
argument-at tree activations (first ∷ roots) (argument ∷ arguments) fit (suc i) root is = argument-at tree activations roots arguments fit.3 i root is

module _ (tree : Tree) (pairs : List (ℕ × ℕ)) (number : ℕ) (block : Block) (arguments : List Argument) (caller : Environment) (activations from : ℕ)
    (call : IsCalled tree pairs number block arguments caller activations from) where
  abbrev callee : Environment
  callee = environment_of tree (activation_of number block arguments caller activations)

  abbrev behind : Store → Store
  behind store = behind_assignments tree pairs number block arguments caller activations from call store

  own-place_is : (root : ℕ) (variable : Variable) → slice_get tree.variables.items root ≡ Some variable → variable.block ≡ number
      → is_variable_kind variable.kind ≡ false → callee.variables root ≡ Some (own_place activations root)
  own-place_is root variable is own kind_is =
      own-home tree (activation_of number block arguments caller activations) root variable is own
      ∙ own-where (activation_of number block arguments caller activations) root variable.kind kind_is

  -- a variable of the block's own has no value
  pub callee-undefined : (store : Store) → Begun activations store → (root : ℕ) (variable : Variable) (rest : List Step) (v : Value)
      → slice_get tree.variables.items root ≡ Some variable → is_own number variable ≡ true
      → value_at (moment callee (behind store)) root rest ≡ Some v → ⊥
  callee-undefined store begun root variable rest v is own at =
      let parts = and_parts (nat_eq variable.block number) (is_local_kind variable.kind || is_result_kind variable.kind) own in
      let kinds = own-no_variable variable.kind parts.1 in
      let home = own-place_is root variable is (eqb-true variable.block number parts.0) kinds.0 in
      none-some v
      (sym (own-undefined tree pairs number block arguments caller activations from call store begun root variable is kinds.1 rest)
      ∙ sym (ap (λ (found : Option Place). part_of (behind store) found rest) home) ∙ at)

  -- a value parameter has what is passed to it
  pub callee-received : (store : Store) → Begun activations store → (i root : ℕ) (argument : Argument) (variable : Variable)
      → slice_get block.heading.parameters.items i ≡ Some root → slice_get arguments i ≡ Some argument → slice_get tree.variables.items root ≡ Some variable
      → is_value_kind variable.kind ≡ true → Received tree activations activations callee root variable argument (behind store)
  callee-received store begun i root argument variable root_at argument_at is value =
      received tree activations activations callee block.heading.parameters.items arguments call.fit
      (homes tree pairs number block arguments caller activations from call) (distinct tree pairs number block arguments caller activations from call)
      i root argument variable root_at argument_at is value store
      (nothing-begun tree pairs number block arguments caller activations from call store begun root)

  pub value-home : (root : ℕ) (variable : Variable) → slice_get tree.variables.items root ≡ Some variable → variable.block ≡ number
      → is_value_kind variable.kind ≡ true → callee.variables root ≡ Some (own_place activations root)
  value-home root variable is own value = own-place_is root variable is own (value-not_variable variable.kind value)

  pub callee-defined : (store : Store) → Begun activations store → (root : ℕ) (variable : Variable) (rest : List Step)
      → slice_get tree.variables.items root ≡ Some variable → is_passed_value number variable ≡ true
      → Contains (components_of tree.types variable.type_id) rest → HasValue (moment callee (behind store)) root rest
  callee-defined store begun root variable rest is passed inside =
      let parts = and_parts (nat_eq variable.block number) (is_value_kind variable.kind) passed in
      let own = eqb-true variable.block number parts.0 in
      let listed = contains-has block.heading.parameters.items root
      (parameter-listed tree call.well number block call.block_is root variable is own
      (or_left (is_value_kind variable.kind) (is_variable_kind variable.kind) parts.1))
      in
      let argument = argument-at tree activations block.heading.parameters.items arguments call.fit listed.0 root listed.1 in
      let got = callee-received store begun listed.0 root argument.0 variable listed.1 argument.1 is parts.1 in
      let has = got.has rest inside in
      (has.0, ap (λ (found : Option Place). part_of (behind store) found rest) (value-home root variable is own parts.1) ∙ has.1)

  -- what is known where a call begins
  pub called-start : (store : Store) → Typed tree store → Begun activations store → Proper tree pairs number (suc activations) callee
      → (rules : Version) (facts : List Fact)
      → AllHold tree facts callee (behind store)
      → Knows (all_parts tree) (length tree.variables.items) callee (block_start rules tree number facts) (behind store)
  called-start store typed begun proper rules facts hold =
      start-known tree pairs number (suc activations) callee (behind store) proper
      (typed-behind tree pairs number block arguments caller activations from call store typed) (callee-undefined store begun) (callee-defined store begun)
      rules facts hold

-- ---- the program's block

no-place_for : (root : ℕ) (roots : List ℕ) (place : Place) → place_for root roots [] ≡ Some place → ⊥
no-place_for root [] place is = none-some place is
no-place_for root (first ∷ roots) place is = none-some place is

-- nothing is claimed
pub no-claims : (tree : Tree) (env : Environment) (store : Store) → AllHold tree [] env store
no-claims tree env store = All-nil (λ claim. Holds (all_parts tree) claim (moment env store))

module _ (tree : Tree) (pairs : List (ℕ × ℕ)) (well : IsWellFormed tree) (block : Block) (block_is : slice_get tree.blocks.items 0 ≡ Some block) where
  abbrev outline : Outline
  outline = outline_of tree

  abbrev activation : Activation
  activation = program_activation tree block.heading

  abbrev main : Environment
  main = environment_of tree activation

  heading-placed : (block.heading.around.items ≡ []) × (block.heading.parameters.items ≡ [])
  heading-placed =
      let h = block.heading in
      let placed = well-placed tree well 0 h (heading-at tree 0 block block_is) in
      let one = and_parts (pointwise nat_eq h.around.items []) _ placed in
      let two = and_parts (pointwise nat_eq h.parameters.items []) _ one.1 in
      (same-numbers h.around.items [] one.0, same-numbers h.parameters.items [] two.0)

  no-parameter : (root : ℕ) (variable : Variable) → slice_get tree.variables.items root ≡ Some variable → variable.block ≡ 0
      → is_parameter_kind variable.kind ≡ true → ⊥
  no-parameter root variable is own parameter =
      let inside = subst (λ (all : List ℕ). Contains all root) heading-placed.1 (parameter-listed tree well 0 block block_is root variable is own parameter) in
      omega (arith, inside.1)

  main-home : (root : ℕ) (variable : Variable) → slice_get tree.variables.items root ≡ Some variable → variable.block ≡ 0 → (one : VariableKind)
      → variable.kind ≡ one → home_of activation root one ≡ Some (own_place 0 root)
  main-home root variable is own kind.VariableParameter kind_is = absurd (no-parameter root variable is own (ap is_parameter_kind kind_is))
  main-home root variable is own kind.Local kind_is = refl
  main-home root variable is own kind.ValueParameter kind_is = refl
  main-home root variable is own kind.Result kind_is = refl

  main-visible : (root : ℕ) → is_visible outline 0 root ≡ true → (place : Place) × (main.variables root ≡ Some place)
  main-visible root is =
      let found = one-there (λ (v : Variable). is_round outline 0 v.block) (slice_get tree.variables.items root) is in
      let round : (nat_eq found.0.block 0 || is_one_of block.heading.around.items found.0.block) ≡ true =
      sym (ap (of_one (encloses found.0.block 0)) (heading-at tree 0 block block_is)) ∙ found.2 in
      let own : found.0.block ≡ 0 =
      ⊎_elim (λ same. eqb-true found.0.block 0 same)
      (λ among. absurd (false≢true (sym (ap (λ (all : List ℕ). is_one_of all found.0.block) heading-placed.0) ∙ among)))
      (or_cases (nat_eq found.0.block 0) (is_one_of block.heading.around.items found.0.block) round) in
      (own_place 0 root, own-home tree activation root found.0 found.1 own ∙ main-home root found.0 found.1 own found.0.kind refl)

  -- what is visible there is the program's own
  main-own : (root : ℕ) (place : Place) → main.variables root ≡ Some place
      → (variable : Variable) × (slice_get tree.variables.items root ≡ Some variable) × (variable.block ≡ 0) × (own_place 0 root ≡ place)
  main-own root place is =
      let seen = seen-as tree activation root place is in
      by seen.0 seen.1 seen.2
    where
      by : (variable : Variable) → slice_get tree.variables.items root ≡ Some variable → Seen activation root variable place
          → (variable : Variable) × (slice_get tree.variables.items root ≡ Some variable) × (variable.block ≡ 0) × (own_place 0 root ≡ place)
      by variable variable_is (Own own kind_is at) = (variable, variable_is, own, at)
      by variable variable_is (PassedTo own kind_is at) = absurd (no-place_for root block.heading.parameters.items place at)
      by variable variable_is (Outer other around at) = absurd (none-some place at)

  main-only : (root : ℕ) → is_visible outline 0 root ≡ false → main.variables root ≡ None
  main-only root hidden = by (main.variables root) refl
    where
      by : (found : Option Place) → main.variables root ≡ found → found ≡ None
      by None is = refl
      by (Some place) is =
          let own = main-own root place is in
          let there : is_visible outline 0 root ≡ true =
          ap (of_one (λ (v : Variable). is_round outline 0 v.block)) own.1 ∙ ap (of_one (encloses own.0.block 0)) (heading-at tree 0 block block_is)
          ∙ or_left (nat_eq own.0.block 0) (is_one_of block.heading.around.items own.0.block) (eq-eqb own.0.block 0 own.2) in
          absurd (both_ways (is_visible outline 0 root) hidden there)

  pub program-proper : Proper tree pairs 0 1 main
  program-proper = record {
    types_are = refl;
    visible = main-visible;
    only = main-only;
    typed = λ root place variable place_is is.
        let own = main-own root place place_is in
        ap (place_type tree) (sym own.3) ∙ ap (option_and_then (λ (v : Variable). Some v.type_id)) is;
    begun = λ root place place_is. subst (λ (p : Place). p.activation < 1) (main-own root place place_is).3 (omega arith);
    separate = λ a b p q p_is q_is differ over.
        let one = main-own a p p_is in
        let other = main-own b q q_is in
        let same = (overlaps-from p q over).variable in
        absurd (differ (ap (λ (x : Place). x.variable) one.3 ∙ same ∙ sym (ap (λ (x : Place). x.variable) other.3)));
  }

  -- what is known where the program begins
  pub program-start : (rules : Version) (facts : List Fact) → AllHold tree facts main []
      → Knows (all_parts tree) (length tree.variables.items) main (block_start rules tree 0 facts) []
  program-start rules facts hold =
      start-known tree pairs 0 1 main [] program-proper (λ place v is. absurd (none-some v is))
      (λ root variable rest v is own at. none-some v (sym (nothing-there root rest) ∙ at))
      (λ root variable rest is passed inside.
      let parts = and_parts (nat_eq variable.block 0) (is_value_kind variable.kind) passed in
      absurd (no-parameter root variable is (eqb-true variable.block 0 parts.0)
      (or_left (is_value_kind variable.kind) (is_variable_kind variable.kind) parts.1)))
      rules facts hold
    where
      nothing-there : (root : ℕ) (rest : List Step) → value_at (moment main []) root rest ≡ None
      nothing-there root rest = by (main.variables root)
        where
          by : (found : Option Place) → part_of [] found rest ≡ None
          by None = refl
          by (Some place) = refl
