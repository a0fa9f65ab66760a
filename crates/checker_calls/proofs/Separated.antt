-- What a call passes makes only listed pairs of variables that share a place in the callee.
use Rattle.std.proofs.Common.{arith, ◌≡◌, ⊎_elim, ◌≢◌, ◌∙◌, sym, ap, refl, subst, ℕ, suc, ◌<◌, Bool, true, false, not}
use Rattle.std.proofs.Common.{◌&&◌, append-nil, nat_eq, List, [], ◌∷◌, Option, Some}
use Rattle.std.specs.List.{Contains, list_all}
use Rattle.std.specs.Prelude.{slice_get}
use Rattle.std.proofs.lemmas.Bool.{and_parts, both_ways, eqb-true, false≢true, not_from_true, or_cases, or_left, or_right}
use Rattle.std.proofs.lemmas.List.Elements.{All-contains}
use Rattle.std.proofs.lemmas.List.Sums.{AllPass-from_list_all}
use Rattle.std.proofs.lemmas.Option.{none-some}
use Rattle.typed_tree.specs.WellFormed.{is_one_of, is_visible, outline_of}
use Rattle.typed_tree.specs.declared.tree.Block.{Block}
use Rattle.typed_tree.specs.declared.tree.Selector.{Selector}
use Rattle.typed_tree.specs.Accesses.{Origin, AtVariable, root_of}
use Rattle.typed_tree.specs.declared.tree.Tree.{Tree}
use Rattle.typed_tree.specs.declared.tree.Variable.{Variable}
use Rattle.meaning.specs.Kinds.{way_of}
use Rattle.meaning.specs.Meaning as meaning
use Rattle.meaning.specs.Meaning.{Argument, environment_of, own_place, place_for, place_passed}
use Rattle.meaning.specs.Store.{Environment, Place, Store, overlap, part}
use Rattle.checker_state.specs.Holds.{Separate}
use Rattle.checker_state.specs.Loops.{is_among}
use Rattle.checker_state.specs.Stores.{Reach}
use Rattle.checker_loops.specs.Pairs.{Listed, aliases_in}
use Rattle.checker_calls.specs.Actuals.{Actual, Binding, OfRows, OfValue, OfVariable, bound_to, way_accessed}
use Rattle.checker_calls.specs.Environments.{Proper}
use Rattle.checker_calls.specs.Overlaps.{are_parted, are_separate, is_actual_separate, is_declared_in, is_listed, is_listed_round, is_listed_with}
use Rattle.checker_calls.specs.Overlaps.{may_overlap}
use Rattle.checker_calls.proofs.AliasedTypes.{seen}
use Rattle.checker_calls.proofs.Callee.{IsCalled, Outer, Own, PassedTo, Seen, activation_of, callee-proper, either-cond, place-for_fits, seen-as}
use Rattle.checker_calls.proofs.Origins.{goes}
use Rattle.checker_calls.proofs.Passed.{AreArguments, IsArgument, Leads}
use Rattle.checker_calls.proofs.Places.{IsPair, listed-pair, may-overlap, overlap-back, overlaps-from, pair-back}
use Rattle.checker_calls.proofs.SeenAliases.{alias-seen, listed_pairs}

-- a test that holds of all of some numbers holds of one among them
pub all-among : (test : ℕ → Bool) (items : List ℕ) (item : ℕ) → list_all test items ≡ true → is_among item items ≡ true → test item ≡ true
all-among test [] item all among = absurd (false≢true among)
all-among test (first ∷ items) item all among =
    let parts = and_parts (test first) (list_all test items) all in
    ⊎_elim (λ here. ap test (sym (eqb-true first item here)) ∙ parts.0) (λ there. all-among test items item parts.1 there)
    (or_cases (nat_eq first item) (is_among item items) among)

-- ---- what is passed to a variable parameter

-- an actual parameter by which a place is passed to a formal one
pub record IsPassed (env : Environment) (store : Store) (bindings : List Binding) (formal : ℕ) (place : Place) : Type 0 where
  pub origin : Origin
  pub selectors : List Selector
  pub reach : Reach
  pub inside : Contains bindings (record { root = formal; actual = OfVariable origin selectors reach })
  pub leads : Leads env origin selectors store reach (Some place)

-- what is passed as a place is a variable
pub record IsVariable (env : Environment) (store : Store) (actual : Actual) (place : Place) : Type 0 where
  pub origin : Origin
  pub selectors : List Selector
  pub reach : Reach
  pub is : actual ≡ OfVariable origin selectors reach
  pub leads : Leads env origin selectors store reach (Some place)

-- the way on which it lies
pub way-is : (env : Environment) (store : Store) (origin : Origin) (selectors : List Selector) (reach : Reach) (place : Option Place)
    → (leads : Leads env origin selectors store reach place) → way_of leads.way ≡ way_accessed origin selectors
way-is env store origin selectors reach place leads = goes leads.all leads.way leads.matches ∙ leads.steps_are

pub passed-variable : (tree : Tree) (env : Environment) (store : Store) (formal : Variable) (actual : Actual) (argument : Argument) (place : Place)
    → IsArgument tree env store formal actual argument → place_passed argument ≡ Some place → IsVariable env store actual place
passed-variable tree env store formal (OfVariable origin selectors reach) (meaning.OfPlace found) place is at = record {
  origin = origin;
  selectors = selectors;
  reach = reach;
  is = refl;
  leads = subst (λ (p : Option Place). Leads env origin selectors store reach p) at is.0;
}
passed-variable tree env store formal (OfVariable origin selectors reach) (meaning.OfValue v) place is at = absurd is
passed-variable tree env store formal (OfVariable origin selectors reach) (meaning.OfRow values) place is at = absurd is
passed-variable tree env store formal actual (meaning.OfValue v) place is at = absurd (none-some place at)
passed-variable tree env store formal actual (meaning.OfRow values) place is at = absurd (none-some place at)
passed-variable tree env store formal (OfValue range form) (meaning.OfPlace found) place is at = absurd is
passed-variable tree env store formal (OfRows ranges) (meaning.OfPlace found) place is at = absurd is

module _ (tree : Tree) (env : Environment) (store : Store) where
  later : (first : Binding) (bindings : List Binding) (formal : ℕ) (place : Place) → IsPassed env store bindings formal place
      → IsPassed env store (first ∷ bindings) formal place
  later first bindings formal place is = record {
    origin = is.origin;
    selectors = is.selectors;
    reach = is.reach;
    inside = (let within = is.inside.1 in (suc is.inside.0, omega (arith, within), is.inside.2));
    leads = is.leads;
  }

  pub passed-by : (roots : List ℕ) (actuals : List Actual) (arguments : List Argument) (formal : ℕ) (place : Place)
      → AreArguments tree env store roots actuals arguments → place_for formal roots arguments ≡ Some place
      → IsPassed env store (bound_to roots actuals) formal place
  passed-by [] actuals arguments formal place are found = absurd (none-some place found)
  passed-by (root ∷ roots) [] arguments formal place are found = absurd are
  passed-by (root ∷ roots) (actual ∷ actuals) [] formal place are found = absurd are
  passed-by (root ∷ roots) (actual ∷ actuals) (argument ∷ arguments) formal place (variable, is, own, others) found =
      let binding : Binding = record { root = root; actual = actual } in
      ⊎_elim
      (λ (here : (nat_eq root formal ≡ true) × (place_passed argument ≡ Some place)).
      let passed = passed-variable tree env store variable actual argument place own here.1 in
      record {
        origin = passed.origin;
        selectors = passed.selectors;
        reach = passed.reach;
        inside = (0, omega arith, λ i. record { root = eqb-true root formal here.0 i; actual = passed.is i });
        leads = passed.leads;
      })
      (λ (there : (nat_eq root formal ≡ false) × (place_for formal roots arguments ≡ Some place)).
      later binding (bound_to roots actuals) formal place (passed-by roots actuals arguments formal place others there.1))
      (either-cond (nat_eq root formal) (place_passed argument) (place_for formal roots arguments) (Some place) found)

  module _ (pairs : List (ℕ × ℕ)) (separate : Separate env pairs) (from : ℕ)
      (shown : (root : ℕ) (place : Place) → env.variables root ≡ Some place → is_visible (outline_of tree) from root ≡ true) (around : List ℕ) where
    abbrev listed : Listed
    listed = listed_pairs tree pairs

    -- one variable parameter and another that stands behind it
    with-later : (one : ℕ) (actual : Actual) (others : List Binding) (other : ℕ) (p q : Place) → IsVariable env store actual p
        → IsPassed env store others other q → is_actual_separate listed from around others one actual ≡ true → overlap p q ≡ true → IsPair pairs one other
    with-later one actual others other p q first last tested over =
        let root = root_of first.origin in
        let tests = and_parts (list_all (is_listed_round pairs tree around one) (root ∷ aliases_in listed from root))
        (list_all (is_listed_with pairs one first.origin first.selectors) others)
        (ap (is_actual_separate listed from around others one) (sym first.is) ∙ tested) in
        let binding : Binding = record { root = other; actual = OfVariable last.origin last.selectors last.reach } in
        let test = λ (b : Binding). is_listed_with pairs one first.origin first.selectors b ≡ true in
        let listed = All-contains test others binding (AllPass-from_list_all (is_listed_with pairs one first.origin first.selectors) others tests.1)
        last.inside in
        let may = may-overlap pairs env separate first.origin first.selectors first.leads.way last.origin last.selectors last.leads.way p q
        (way-is env store first.origin first.selectors first.reach (Some p) first.leads)
        (way-is env store last.origin last.selectors last.reach (Some q) last.leads) (sym first.leads.place_is) (sym last.leads.place_is) over in
        ⊎_elim (λ never. absurd (both_ways (not (may_overlap pairs first.origin first.selectors last.origin last.selectors)) (not_from_true _ may) never))
        (λ pair. listed-pair pairs one other pair)
        (or_cases (not (may_overlap pairs first.origin first.selectors last.origin last.selectors)) (is_listed pairs one other) listed)

    pub both-passed : (roots : List ℕ) (actuals : List Actual) (arguments : List Argument) → AreArguments tree env store roots actuals arguments
        → are_separate listed from around (bound_to roots actuals) ≡ true → (one other : ℕ) (p q : Place) → one ≢ other
        → place_for one roots arguments ≡ Some p → place_for other roots arguments ≡ Some q → overlap p q ≡ true → IsPair pairs one other
    both-passed [] actuals arguments are tested one other p q differ p_is q_is over = absurd (none-some p p_is)
    both-passed (root ∷ roots) [] arguments are tested one other p q differ p_is q_is over = absurd are
    both-passed (root ∷ roots) (actual ∷ actuals) [] are tested one other p q differ p_is q_is over = absurd are
    both-passed (root ∷ roots) (actual ∷ actuals) (argument ∷ arguments) (variable, is, own, others) tested one other p q differ p_is q_is over =
        let bindings = bound_to roots actuals in
        let tests = and_parts (is_actual_separate listed from around bindings root actual) (are_separate listed from around bindings) tested in
        let first = λ (x : Place) (e : place_passed argument ≡ Some x). passed-variable tree env store variable actual argument x own e in
        ⊎_elim
        (λ (here : (nat_eq root one ≡ true) × (place_passed argument ≡ Some p)).
        ⊎_elim
        (λ (both : (nat_eq root other ≡ true) × (place_passed argument ≡ Some q)).
        absurd (differ (sym (eqb-true root one here.0) ∙ eqb-true root other both.0)))
        (λ (there : (nat_eq root other ≡ false) × (place_for other roots arguments ≡ Some q)).
        subst (λ (n : ℕ). IsPair pairs n other) (eqb-true root one here.0)
        (with-later root actual bindings other p q (first p here.1) (passed-by roots actuals arguments other q others there.1) tests.0 over))
        (either-cond (nat_eq root other) (place_passed argument) (place_for other roots arguments) (Some q) q_is))
        (λ (away : (nat_eq root one ≡ false) × (place_for one roots arguments ≡ Some p)).
        ⊎_elim
        (λ (here : (nat_eq root other ≡ true) × (place_passed argument ≡ Some q)).
        pair-back pairs other one
        (subst (λ (n : ℕ). IsPair pairs n one) (eqb-true root other here.0)
        (with-later root actual bindings one q p (first q here.1) (passed-by roots actuals arguments one p others away.1) tests.0 (overlap-back p q over))))
        (λ (there : (nat_eq root other ≡ false) × (place_for other roots arguments ≡ Some q)).
        both-passed roots actuals arguments others tests.1 one other p q differ away.1 there.1 over)
        (either-cond (nat_eq root other) (place_passed argument) (place_for other roots arguments) (Some q) q_is))
        (either-cond (nat_eq root one) (place_passed argument) (place_for one roots arguments) (Some p) p_is)

    -- a variable parameter and a variable round the block
    with-outer : (one : ℕ) (actual : Actual) (others : List Binding) (outer : ℕ) (variable : Variable) (p q : Place) → IsVariable env store actual p
        → is_actual_separate listed from around others one actual ≡ true → slice_get tree.variables.items outer ≡ Some variable
        → is_one_of around variable.block ≡ true → env.variables outer ≡ Some q → overlap p q ≡ true → IsPair pairs one outer
    with-outer one actual others outer variable p q first tested is among q_is over =
        let root = root_of first.origin in
        let tests = and_parts (list_all (is_listed_round pairs tree around one) (root ∷ aliases_in listed from root))
        (list_all (is_listed_with pairs one first.origin first.selectors) others)
        (ap (is_actual_separate listed from around others one) (sym first.is) ∙ tested) in
        let apart = not (are_parted (way_accessed first.origin first.selectors) []) in
        let whole : part (env.variables outer) [] ≡ Some q =
        ap (λ (found : Option Place). part found []) q_is ∙ ap (λ (s : List _). Some (record q { steps = s })) (append-nil q.steps) in
        let may = may-overlap pairs env separate first.origin first.selectors first.leads.way (AtVariable outer) [] [] p q
        (way-is env store first.origin first.selectors first.reach (Some p) first.leads) refl (sym first.leads.place_is) whole over in
        let near : is_among outer (root ∷ aliases_in listed from root) ≡ true =
        ⊎_elim
        (λ same. or_left (nat_eq root outer) (is_among outer (aliases_in listed from root)) (and_parts (nat_eq root outer) apart same).0)
        (λ pair.
        or_right (nat_eq root outer) (is_among outer (aliases_in listed from root))
        (alias-seen tree pairs from root outer pair (shown outer q q_is)))
        (or_cases (nat_eq root outer && apart) (is_listed pairs root outer) may) in
        let listed = all-among (is_listed_round pairs tree around one) (root ∷ aliases_in listed from root) outer tests.0 near in
        ⊎_elim
        (λ never. absurd (both_ways (not (is_declared_in pairs around (slice_get tree.variables.items outer)))
        (not_from_true _ (ap (is_declared_in pairs around) is ∙ among)) never))
        (λ pair. listed-pair pairs one outer pair)
        (or_cases (not (is_declared_in pairs around (slice_get tree.variables.items outer))) (is_listed pairs one outer) listed)

    pub passed-outer : (roots : List ℕ) (actuals : List Actual) (arguments : List Argument) → AreArguments tree env store roots actuals arguments
        → are_separate listed from around (bound_to roots actuals) ≡ true → (one outer : ℕ) (variable : Variable) (p q : Place)
        → place_for one roots arguments ≡ Some p → slice_get tree.variables.items outer ≡ Some variable → is_one_of around variable.block ≡ true
        → env.variables outer ≡ Some q → overlap p q ≡ true → IsPair pairs one outer
    passed-outer [] actuals arguments are tested one outer variable p q p_is is among q_is over = absurd (none-some p p_is)
    passed-outer (root ∷ roots) [] arguments are tested one outer variable p q p_is is among q_is over = absurd are
    passed-outer (root ∷ roots) (actual ∷ actuals) [] are tested one outer variable p q p_is is among q_is over = absurd are
    passed-outer (root ∷ roots) (actual ∷ actuals) (argument ∷ arguments) (formal, formal_is, own, others) tested one outer variable p q p_is is among q_is
        over =
        let bindings = bound_to roots actuals in
        let tests = and_parts (is_actual_separate listed from around bindings root actual) (are_separate listed from around bindings) tested in
        ⊎_elim
        (λ (here : (nat_eq root one ≡ true) × (place_passed argument ≡ Some p)).
        subst (λ (n : ℕ). IsPair pairs n outer) (eqb-true root one here.0)
        (with-outer root actual bindings outer variable p q (passed-variable tree env store formal actual argument p own here.1) tests.0 is among q_is over))
        (λ (there : (nat_eq root one ≡ false) × (place_for one roots arguments ≡ Some p)).
        passed-outer roots actuals arguments others tests.1 one outer variable p q there.1 is among q_is over)
        (either-cond (nat_eq root one) (place_passed argument) (place_for one roots arguments) (Some p) p_is)

-- ---- the callee

module _ (tree : Tree) (pairs : List (ℕ × ℕ)) (number : ℕ) (block : Block) (arguments : List Argument) (caller : Environment) (activations from : ℕ)
    (call : IsCalled tree pairs number block arguments caller activations from) where
  abbrev callee : Environment
  callee = environment_of tree (activation_of number block arguments caller activations)

  abbrev roots : List ℕ
  roots = block.heading.parameters.items

  -- what has a place where it is called is visible there
  shown-there : (root : ℕ) (place : Place) → caller.variables root ≡ Some place → is_visible (outline_of tree) from root ≡ true
  shown-there = seen tree pairs from activations caller call.proper

  -- a place of the callee's own is no older one
  own-apart : (root : ℕ) (p q : Place) → own_place activations root ≡ p → q.activation < activations → overlap p q ≡ true → ⊥
  own-apart root p q is older over =
      let same = (overlaps-from p q over).activation in
      let own = ap (λ (x : Place). x.activation) is in
      omega (arith, older, same, own)

  pub callee-separate : (store : Store) (actuals : List Actual) → AreArguments tree caller store roots actuals arguments
      → are_separate (listed_pairs tree pairs) from block.heading.around.items (bound_to roots actuals) ≡ true → Separate callee pairs
  callee-separate store actuals are tested a b p q p_is q_is differ over =
      let one = seen-as tree (activation_of number block arguments caller activations) a p p_is in
      let other = seen-as tree (activation_of number block arguments caller activations) b q q_is in
      by one.0 other.0 one.1 other.1 one.2 other.2
    where
      by : (v w : Variable) → slice_get tree.variables.items a ≡ Some v → slice_get tree.variables.items b ≡ Some w
          → Seen (activation_of number block arguments caller activations) a v p → Seen (activation_of number block arguments caller activations) b w q
          → IsPair pairs a b
      by v w v_is w_is (Own own kind_is at) (Own other_own other_kind other_at) =
          let same = (overlaps-from p q over).variable in
          absurd (differ (ap (λ (x : Place). x.variable) at ∙ same ∙ sym (ap (λ (x : Place). x.variable) other_at)))
      by v w v_is w_is (Own own kind_is at) (PassedTo other_own other_kind other_at) =
          absurd (own-apart a p q at (place-for_fits tree activations roots arguments b w q call.fit w_is other_at).begun over)
      by v w v_is w_is (Own own kind_is at) (Outer other around other_at) = absurd (own-apart a p q at (call.proper.begun b q other_at) over)
      by v w v_is w_is (PassedTo own kind_is at) (Own other_own other_kind other_at) =
          absurd (own-apart b q p other_at (place-for_fits tree activations roots arguments a v p call.fit v_is at).begun (overlap-back p q over))
      by v w v_is w_is (Outer other around at) (Own other_own other_kind other_at) =
          absurd (own-apart b q p other_at (call.proper.begun a p at) (overlap-back p q over))
      by v w v_is w_is (PassedTo own kind_is at) (PassedTo other_own other_kind other_at) =
          both-passed tree caller store pairs call.proper.separate from shown-there block.heading.around.items roots actuals arguments are
          tested a b p q differ at other_at over
      by v w v_is w_is (PassedTo own kind_is at) (Outer other around other_at) =
          passed-outer tree caller store pairs call.proper.separate from shown-there block.heading.around.items roots actuals arguments are
          tested a b w p q at w_is around other_at over
      by v w v_is w_is (Outer other around at) (PassedTo other_own other_kind other_at) =
          pair-back pairs b a
          (passed-outer tree caller store pairs call.proper.separate from shown-there block.heading.around.items roots actuals arguments are
          tested b a v q p other_at v_is around at (overlap-back p q over))
      by v w v_is w_is (Outer one_other one_around at) (Outer other around other_at) = call.proper.separate a b p q at other_at differ over

  -- so it is proper
  pub callee-stands : (store : Store) (actuals : List Actual) → AreArguments tree caller store roots actuals arguments
      → are_separate (listed_pairs tree pairs) from block.heading.around.items (bound_to roots actuals) ≡ true
      → Proper tree pairs number (suc activations) callee
  callee-stands store actuals are tested =
      callee-proper tree pairs number block arguments caller activations from call (callee-separate store actuals are tested)
