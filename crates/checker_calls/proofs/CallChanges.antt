-- What a call changes for its caller: values of what the callee lists, and of what shares places with that; all else is as it was.
use Rattle.std.proofs.Common.{arith, ◌≡◌, ⊎_elim, ◌⊎◌, inl, inr, ◌∙◌, sym, ap, refl, subst, ℕ, suc, ◌<◌, true, false}
use Rattle.std.proofs.Common.{append-nil, append_assoc, nat_eq, List, [], ◌∷◌, ◌++◌, Option, Some, None}
use Rattle.std.specs.List.{Contains}
use Rattle.std.specs.Prelude.{slice_get}
use Rattle.std.proofs.lemmas.Bool.{and_from, and_parts, both_ways, cases_eq, eq-eqb, or_left, or_right}
use Rattle.std.proofs.lemmas.List.Folds.{list_any-append}
use Rattle.std.proofs.lemmas.Option.{none-some, same_Some}
use Rattle.types.specs.declared.form.Step.{Step}
use Rattle.typed_tree.specs.WellFormed.{is_value_kind, is_visible, outline_of}
use Rattle.typed_tree.specs.Accesses.{root_of}
use Rattle.typed_tree.specs.declared.tree.Block.{Block}
use Rattle.typed_tree.specs.declared.tree.Tree.{Tree}
use Rattle.typed_tree.specs.declared.tree.Variable.{Variable}
use Rattle.meaning.specs.declared.value.Value.{Value}
use Rattle.meaning.specs.Meaning as meaning
use Rattle.meaning.specs.Meaning.{Argument, environment_of, home_of, own_place, place_for, place_passed}
use Rattle.meaning.specs.Store.{Environment, Place, Store, is_beginning, overlap, step_eq, stored}
use Rattle.checker_state.specs.Holds.{HasValue, moment, part_of, value_at}
use Rattle.checker_state.specs.Loops.{is_among}
use Rattle.checker_loops.specs.Pairs.{all_aliases_in}
use Rattle.checker_loops.specs.Sections.{BlockClaims}
use Rattle.checker_loops.proofs.Lists.{among-flat}
use Rattle.checker_calls.specs.Actuals.{Actual, Binding, OfRows, OfValue, OfVariable, actual_of, bound_to}
use Rattle.checker_calls.specs.Environments.{Begun, CallLeaves, Proper, Typed}
use Rattle.checker_calls.specs.Exit.{root_changed, roots_changed}
use Rattle.checker_calls.proofs.AliasedTypes.{seen}
use Rattle.checker_calls.proofs.Assigned.{same-step}
use Rattle.checker_calls.proofs.Callee.{IsCalled, activation_of}
use Rattle.checker_calls.proofs.Claimed.{AllHold}
use Rattle.checker_calls.proofs.Entered.{own-home, own-where, passed-where, value-not_variable}
use Rattle.checker_calls.proofs.Parameters.{IsOuter, IsOutward, IsParameter, outward-cases, parameter-block}
use Rattle.checker_calls.proofs.Passed.{AreArguments, Fits, IsArgument}
use Rattle.checker_calls.proofs.Places.{IsPair, begin-share, overlaps-so, pair-listed, part-there, step-itself}
use Rattle.checker_calls.proofs.SeenAliases.{all-alias-seen, listed_pairs}

-- ---- steps

beginning-itself : (steps : List Step) → is_beginning steps steps ≡ true
beginning-itself [] = refl
beginning-itself (s ∷ steps) = and_from (step_eq s s) (is_beginning steps steps) (step-itself s) (beginning-itself steps)

-- steps that others begin go on from these
pub beginning-rest : (first whole : List Step) → is_beginning first whole ≡ true → (rest : List Step) × (whole ≡ first ++ rest)
beginning-rest [] whole is = (whole, refl)
beginning-rest (s ∷ first) [] is = absurd (cc)
beginning-rest (s ∷ first) (t ∷ whole) is =
    let parts = and_parts (step_eq s t) (is_beginning first whole) is in
    let more = beginning-rest first whole parts.1 in
    (more.0, ap (λ (x : Step). x ∷ whole) (sym (same-step s t parts.0)) ∙ ap (λ (all : List Step). s ∷ all) more.1)

alone-among : (x : ℕ) → is_among x (x ∷ []) ≡ true
alone-among x = or_left (nat_eq x x) false (eq-eqb x x refl)

among-alone : (roots : List ℕ) (x root : ℕ) → is_among x roots ≡ true → x ≡ root → is_among root roots ≡ true
among-alone roots x root among same = subst (λ (r : ℕ). is_among r roots ≡ true) same among

-- ---- a call that returned

-- a call of a block returned, and changed what the block lists alone, which its caller may know
pub record HasLeft (tree : Tree) (pairs : List (ℕ × ℕ)) (number : ℕ) (block : Block) (arguments : List Argument) (caller : Environment)
    (activations from : ℕ) (store : Store) (actuals : List Actual) (claims : BlockClaims) (after : Store) : Type 0 where
  pub call : IsCalled tree pairs number block arguments caller activations from
  pub begun : Begun activations store
  pub are : AreArguments tree caller store block.heading.parameters.items actuals arguments
  pub proper : Proper tree pairs number (suc activations) (environment_of tree (activation_of number block arguments caller activations))
  pub leaves : CallLeaves activations claims.changes (environment_of tree (activation_of number block arguments caller activations)) store after
  pub outward : (root : ℕ) → Contains claims.changes root → IsOutward tree number root

-- what is claimed of its end holds there
pub record HasReturned (tree : Tree) (pairs : List (ℕ × ℕ)) (number : ℕ) (block : Block) (arguments : List Argument) (caller : Environment)
    (activations from : ℕ) (store : Store) (actuals : List Actual) (claims : BlockClaims) (after : Store) : Type 0 where
  pub left : HasLeft tree pairs number block arguments caller activations from store actuals claims after
  pub open left use *
  pub typed : Typed tree after
  pub exit : AllHold tree claims.exit (environment_of tree (activation_of number block arguments caller activations)) after

module _ (tree : Tree) (pairs : List (ℕ × ℕ)) (number : ℕ) (block : Block) (arguments : List Argument) (caller : Environment) (activations from : ℕ)
    (store : Store) (actuals : List Actual) (claims : BlockClaims) (after : Store)
    (back : HasLeft tree pairs number block arguments caller activations from store actuals claims after) where
  abbrev pub callee : Environment
  callee = environment_of tree (activation_of number block arguments caller activations)

  abbrev pub bindings : List Binding
  bindings = bound_to block.heading.parameters.items actuals

  abbrev pub changed : List ℕ
  changed = roots_changed bindings claims.changes

  abbrev pub touched : List ℕ
  touched = changed ++ all_aliases_in (listed_pairs tree pairs) from changed

  abbrev IsOuterHere : ℕ → Variable → Type 0
  IsOuterHere root variable = IsOuter tree pairs number block arguments caller activations from back.call store actuals back.are root variable

  abbrev ParameterHere : ℕ → Variable → Type 0
  ParameterHere root variable = IsParameter tree caller store activations block.heading.parameters.items actuals arguments root variable

  -- a place that the callee may have changed: a part of a variable that it lists
  pub record IsChanged (place : Place) : Type 0 where
    pub root : ℕ
    pub listed : Contains claims.changes root
    pub home : Place
    pub home_is : callee.variables root ≡ Some home
    pub rest : List Step
    pub place_is : record home { steps = home.steps ++ rest } ≡ place

  pub same-or_changed : (place : Place) → place.activation < activations → (stored after place ≡ stored store place) ⊎ IsChanged place
  same-or_changed place older =
      ⊎_elim
      (λ (listed : (root : ℕ) × (home : Place) × Contains claims.changes root × (callee.variables root ≡ Some home)
      × ((home.activation ≡ place.activation) × (home.variable ≡ place.variable) × (is_beginning home.steps place.steps ≡ true))).
      let home = listed.1 in
      let under = listed.4 in
      let rest = beginning-rest home.steps place.steps under.2 in
      inr (record {
        root = listed.0;
        listed = listed.2;
        home = home;
        home_is = listed.3;
        rest = rest.0;
        place_is = λ i. record { activation = under.0 i; variable = under.1 i; steps = sym rest.1 i };
      }))
      (λ same. inl same) (back.leaves.values place older)

  -- the caller's variable in which it lies
  pub record LiesIn_caller (home : Place) : Type 0 where
    pub root : ℕ
    pub among : is_among root changed ≡ true
    pub whole : Place
    pub whole_is : caller.variables root ≡ Some whole
    pub way : List Step
    pub home_is : record whole { steps = whole.steps ++ way } ≡ home

  -- a value parameter lies in no older activation
  pub own-older : (root : ℕ) (variable : Variable) (home : Place) → slice_get tree.variables.items root ≡ Some variable → variable.block ≡ number
      → callee.variables root ≡ Some home → home.activation < activations → is_value_kind variable.kind ≡ true → ⊥
  own-older root variable home is own home_is older value =
      let at : Some (own_place activations root) ≡ Some home =
      sym (own-home tree (activation_of number block arguments caller activations) root variable is own
      ∙ own-where (activation_of number block arguments caller activations) root variable.kind (value-not_variable variable.kind value)) ∙ home_is in
      let same = ap (λ (p : Place). p.activation) (same_Some (own_place activations root) home at) in
      omega (arith, older, same)

  passed-lies : (root : ℕ) (variable : Variable) (home : Place) → slice_get tree.variables.items root ≡ Some variable → variable.block ≡ number
      → Contains claims.changes root → callee.variables root ≡ Some home → home.activation < activations → (actual : Actual) (argument : Argument)
      → actual_of bindings root ≡ Some actual → place_for root block.heading.parameters.items arguments ≡ place_passed argument
      → IsArgument tree caller store variable actual argument → Fits tree activations argument variable → LiesIn_caller home
  passed-lies root variable home is own listed home_is older (OfVariable origin selectors reach) (meaning.OfPlace None) actual_is place_is known fits =
      absurd fits
  passed-lies root variable home is own listed home_is older (OfVariable origin selectors reach) (meaning.OfPlace (Some place)) actual_is place_is known fits =
      let other = root_of origin in
      let at : Some place ≡ Some home =
      sym (own-home tree (activation_of number block arguments caller activations) root variable is own
      ∙ passed-where (activation_of number block arguments caller activations) root variable.kind fits.0 ∙ place_is) ∙ home_is in
      let there = part-there (caller.variables other) known.0.way home (sym known.0.place_is ∙ at) in
      record {
        root = other;
        among = among-flat (λ r. root_changed r (actual_of bindings r)) claims.changes root other listed
            (ap (λ (found : Option Actual). is_among other (root_changed root found)) actual_is ∙ alone-among other);
        whole = there.0;
        whole_is = there.1;
        way = known.0.way;
        home_is = there.2;
      }
  passed-lies root variable home is own listed home_is older (OfVariable origin selectors reach) (meaning.OfValue v) actual_is place_is known fits =
      absurd known
  passed-lies root variable home is own listed home_is older (OfVariable origin selectors reach) (meaning.OfRow values) actual_is place_is known fits =
      absurd known
  passed-lies root variable home is own listed home_is older actual (meaning.OfValue v) actual_is place_is known fits =
      absurd (own-older root variable home is own home_is older fits.0)
  passed-lies root variable home is own listed home_is older actual (meaning.OfRow values) actual_is place_is known fits =
      absurd (own-older root variable home is own home_is older fits.0)
  passed-lies root variable home is own listed home_is older (OfValue range form) (meaning.OfPlace place) actual_is place_is known fits = absurd known
  passed-lies root variable home is own listed home_is older (OfRows ranges) (meaning.OfPlace place) actual_is place_is known fits = absurd known

  pub lies-in_caller : (root : ℕ) (home : Place) → Contains claims.changes root → callee.variables root ≡ Some home → home.activation < activations
      → LiesIn_caller home
  lies-in_caller root home listed home_is older =
      let outward = back.outward root listed in
      ⊎_elim
      (λ (here : IsOuterHere root outward.0).
      record {
        root = root;
        among = among-flat (λ r. root_changed r (actual_of bindings r)) claims.changes root root listed
            (ap (λ (found : Option Actual). is_among root (root_changed root found)) here.no_actual ∙ alone-among root);
        whole = home;
        whole_is = sym here.same ∙ home_is;
        way = [];
        home_is = ap (λ (s : List Step). record home { steps = s }) (append-nil home.steps);
      })
      (λ (p : ParameterHere root outward.0).
      passed-lies root outward.0 home outward.1 (parameter-block tree pairs number block arguments caller activations from back.call store actuals back.are
      root outward.0 outward.1 p) listed home_is older p.actual p.argument p.actual_is p.place_is
      p.known p.fits)
      (outward-cases tree pairs number block arguments caller activations from back.call store actuals back.are root outward)

  -- what changed for the caller lies in what the call changes, or in an alias of that
  pub record IsNear (root : ℕ) : Type 0 where
    pub other : ℕ
    pub among : is_among other changed ≡ true
    pub place : Place
    pub place_is : caller.variables other ≡ Some place
    pub shown : is_visible (outline_of tree) from root ≡ true
    pub near : (other ≡ root) ⊎ IsPair pairs other root

  overlapping : (p whole : Place) (steps way rest : List Step)
      → record whole { steps = (whole.steps ++ way) ++ rest } ≡ record p { steps = p.steps ++ steps } → overlap whole p ≡ true
  overlapping p whole steps way rest same =
      let s : whole.steps ++ (way ++ rest) ≡ p.steps ++ steps = sym (append_assoc whole.steps way rest) ∙ ap (λ (q : Place). q.steps) same in
      overlaps-so whole p (record {
        activation = ap (λ (q : Place). q.activation) same;
        variable = ap (λ (q : Place). q.variable) same;
        steps = begin-share whole.steps p.steps (way ++ rest) steps
            (subst (λ (all : List Step). is_beginning (whole.steps ++ (way ++ rest)) all ≡ true) s (beginning-itself (whole.steps ++ (way ++ rest))));
      })

  pub changed-near : (root : ℕ) (p : Place) (steps : List Step) → caller.variables root ≡ Some p → IsChanged (record p { steps = p.steps ++ steps })
      → IsNear root
  changed-near root p steps p_is is =
      let activation = ap (λ (q : Place). q.activation) is.place_is in
      let young = back.call.proper.begun root p p_is in
      let lies = lies-in_caller is.root is.home is.listed is.home_is (omega (arith, activation, young)) in
      let same : record (lies.whole) { steps = (lies.whole.steps ++ lies.way) ++ is.rest } ≡ record p { steps = p.steps ++ steps } =
      ap (λ (q : Place). record q { steps = q.steps ++ is.rest }) lies.home_is ∙ is.place_is in
      let over = overlapping p lies.whole steps lies.way is.rest same in
      record {
        other = lies.root;
        among = lies.among;
        place = lies.whole;
        place_is = lies.whole_is;
        shown = seen tree pairs from activations caller back.call.proper root p p_is;
        near = ⊎_elim (λ one. inl one) (λ differ. inr (back.call.proper.separate lies.root root lies.whole p lies.whole_is p_is differ over))
            (cases_eq lies.root root);
      }

  -- it is touched
  pub near-touched : (root : ℕ) → IsNear root → is_among root touched ≡ true
  near-touched root is =
      let aliases = all_aliases_in (listed_pairs tree pairs) from changed in
      list_any-append (λ (other : ℕ). nat_eq other root) changed aliases
      ∙ ⊎_elim (λ same. or_left (is_among root changed) (is_among root aliases) (among-alone changed is.other root is.among same))
      (λ pair.
      or_right (is_among root changed) (is_among root aliases)
      (all-alias-seen tree pairs from changed is.other root is.among (pair-listed pairs is.other root pair) is.shown))
      is.near

  -- ---- values of the caller

  abbrev value_before : ℕ → List Step → Option Value
  value_before root steps = value_at (moment caller store) root steps

  abbrev value_after : ℕ → List Step → Option Value
  value_after root steps = value_at (moment caller after) root steps

  -- a value of the caller's is as it was, or its variable is near
  pub value-same_or_near : (root : ℕ) (steps : List Step) → (value_after root steps ≡ value_before root steps) ⊎ IsNear root
  value-same_or_near root steps = by (caller.variables root) refl
    where
      by : (found : Option Place) → caller.variables root ≡ found → (part_of after found steps ≡ part_of store found steps) ⊎ IsNear root
      by None is = inl refl
      by (Some p) is =
          ⊎_elim (λ same. inl same) (λ changed_so. inr (changed-near root p steps is changed_so))
          (same-or_changed (record p { steps = p.steps ++ steps }) (back.call.proper.begun root p is))

  -- what isn't touched is as it was
  pub untouched-kept : (root : ℕ) → is_among root touched ≡ false → (steps : List Step) → value_after root steps ≡ value_before root steps
  untouched-kept root apart steps =
      ⊎_elim (λ same. same) (λ near. absurd (both_ways (is_among root touched) apart (near-touched root near))) (value-same_or_near root steps)

  -- what is defined stays so
  pub defined-kept : (root : ℕ) (steps : List Step) → HasValue (moment caller store) root steps → HasValue (moment caller after) root steps
  defined-kept root steps (v, is) = by (caller.variables root) refl is
    where
      by : (found : Option Place) → caller.variables root ≡ found → part_of store found steps ≡ Some v
          → (w : Value) × (part_of after found steps ≡ Some w)
      by None place_is is = absurd (none-some v is)
      by (Some p) place_is is =
          back.leaves.defined (record p { steps = p.steps ++ steps }) v (back.call.proper.begun root p place_is) is
