-- What a call leaves as it was for the block that calls, where the walk over it breaks no rule: what its callee lists is
-- listed by the caller, or lies in an activation that isn't earlier.
use Rattle.std.specs.Prelude.{slice_get, if◌then◌else◌}
use Rattle.std.specs.List.{Contains, list_all}
use Rattle.std.proofs.Common.{arith, ◌≡◌, ◌⊎◌, inl, inr, ⊎_elim, ℕ, ◌<◌, ◌≤◌, List, [], ◌∷◌, Bool, true, false, ◌||◌, Option}
use Rattle.std.proofs.Common.{Some, None, map, nat_eq, refl, sym, ap, ◌∙◌, subst}
use Rattle.std.proofs.lemmas.Bool.{and_parts, cases_Bool, eq-eqb, false≢true, or_cases, or_parts}
use Rattle.std.proofs.lemmas.List.Folds.{list_all-append}
use Rattle.place.specs.declared.Place.{Place as SourcePlace}
use Rattle.typed_tree.specs.declared.tree.Tree.{Tree}
use Rattle.typed_tree.specs.declared.tree.Block.{Block}
use Rattle.typed_tree.specs.declared.tree.Call.{Call}
use Rattle.typed_tree.specs.declared.tree.Selector.{Selector}
use Rattle.typed_tree.specs.declared.tree.Variable.{Variable as DeclaredVariable}
use Rattle.typed_tree.specs.declared.tree.VariableKind.{VariableKind}
use Rattle.typed_tree.specs.declared.tree.VariableKind.TheVariants as kind
use Rattle.typed_tree.specs.Accesses.{Origin, root_of}
use Rattle.typed_tree.specs.WellFormed.{is_one_of, of_one}
use Rattle.meaning.specs.Store.{Environment, Place}
use Rattle.meaning.specs.Effect as effect
use Rattle.meaning.specs.Meaning.{Activation, Argument, Calls, OfPlace, OfRow, environment_of, home_of, own_place, place_for, place_passed, seen_from}
use Rattle.meaning.specs.Meaning as meaning
use Rattle.meaning.specs.Laws.{state_after}
use Rattle.checker_state.specs.Loops.{is_among}
use Rattle.checker_state.specs.Stores.{Reach}
use Rattle.checker_state.specs.State.{State}
use Rattle.checker_loops.specs.Loops.{all_list}
use Rattle.checker_loops.specs.Sections.{BlockClaims, block_claims_at}
use Rattle.checker_loops.specs.Starts.{is_own}
use Rattle.checker_loops.proofs.Lists.{among-contains}
use Rattle.checker_calls.specs.Actuals.{Actual, Binding, OfRows, OfValue, OfVariable, actual_of, after_call, bound_to, settled}
use Rattle.checker_calls.specs.Environments.{LiesUnder}
use Rattle.checker_calls.specs.Exit.{root_changed, roots_changed}
use Rattle.checker_expressions.specs.declared.fault.Rule.{Rule}
use Rattle.checker_expressions.specs.declared.fault.Rule.TheVariants.{Changes}
use Rattle.checker_expressions.specs.Walk.{Context, Walking, ◌>>=◌, asked, block_lists, called, call_aliases, call_behind}
use Rattle.checker_expressions.specs.Walk.{call_change, call_entry, call_with, called_block, may_change, parameters_of}
use Rattle.checker_state.proofs.Lists.{head-or_tail}
use Rattle.checker_expressions.proofs.Sound.{kept-rule, unbroken-left, unbroken-right}
use Rattle.checker_expressions.proofs.EffectsKept.{Keeps, Leaving, MayChange, MayWrite, Standing, leaves-itself, lies-itself, listing, turned, under-write}

-- ---- walks that break no rule

-- in a context a walk gives a value from some state, and breaks no rule
pub record Yields {A : Type 0} (context : Context) (walking : Walking A) (a : A) : Type 0 where
  pub state : State
  pub unbroken : (walking context state).broken ≡ []
  pub value_is : (walking context state).value ≡ a

pub yields-then : {A B : Type 0} (context : Context) (first : Walking A) (next : A → Walking B) (b : B) → Yields context (first >>= next) b
    → (a : A) × Yields context first a × Yields context (next a) b
yields-then context first next b both =
    let one = first context both.state in
    let two = next one.value context one.after in (
      one.value,
      record { state = both.state; unbroken = unbroken-left one.broken two.broken both.unbroken; value_is = refl },
      record { state = one.after; unbroken = unbroken-right one.broken two.broken both.unbroken; value_is = both.value_is },
    )

-- a walk that goes by its context
pub yields-in : {A : Type 0} (context : Context) (walking : Context → Walking A) (a : A) → Yields context (λ own. walking own own) a
    → Yields context (walking context) a
yields-in context walking a yields = record { state = yields.state; unbroken = yields.unbroken; value_is = yields.value_is }

pub yields-asked : (context : Context) (kept : Bool) (rule : Rule) (place : SourcePlace) (done : Unit {0})
    → Yields context (asked kept rule place) done → kept ≡ true
yields-asked context kept rule place done yields = kept-rule kept rule place yields.unbroken

-- ---- where a piece stands

-- a context is one of a block of a program
pub record StandsIn (tree : Tree) (blocks : List BlockClaims) (block : ℕ) (context : Context) : Type 0 where
  pub tree_is : context.tree ≡ tree
  pub blocks_are : context.blocks ≡ blocks
  pub block_is : context.block ≡ block

-- an activation of a block: what is claimed to be changed may be, and what the block declares lies in the activation or may be changed, unless it is a
-- parameter
pub record Grounds (tree : Tree) (blocks : List BlockClaims) (block : ℕ) (at : Standing) : Type 0 where
  pub few : at.settled ≤ at.number
  pub lists : (root : ℕ) (home : Place) → Contains (block_claims_at blocks block).changes root → at.visible.variables root ≡ Some home → at.may home
  pub own : (root : ℕ) (variable : DeclaredVariable) (home : Place) → slice_get tree.variables.items root ≡ Some variable
      → is_own block variable ≡ true → at.visible.variables root ≡ Some home → (at.settled ≤ home.activation) × MayWrite at home

-- so it is whatever turns are finished
pub grounds-turned : (tree : Tree) (blocks : List BlockClaims) (block : ℕ) (at : Standing) (turns : List ℕ) → Grounds tree blocks block at
    → Grounds tree blocks block (turned at turns)
grounds-turned tree blocks block at turns grounds = record {
  few = grounds.few;
  lists = grounds.lists;
  own = grounds.own;
}

owned : (block : ℕ) (found : Option DeclaredVariable) → of_one (is_own block) found ≡ true
    → (variable : DeclaredVariable) × (found ≡ Some variable) × (is_own block variable ≡ true)
owned block None is = absurd (cc)
owned block (Some variable) is = (variable, refl, is)

module _ (tree : Tree) (blocks : List BlockClaims) (block : ℕ) (at : Standing) (grounds : Grounds tree blocks block at) where
  listed-here : (context : Context) → StandsIn tree blocks block context → (root : ℕ) (home : Place) → block_lists context root ≡ true
      → at.visible.variables root ≡ Some home → at.may home
  listed-here context stands root home is seen =
      let changes_are : (block_claims_at context.blocks context.block).changes ≡ (block_claims_at blocks block).changes =
      ap (λ (claims : List BlockClaims). (block_claims_at claims context.block).changes) stands.blocks_are
      ∙ ap (λ (number : ℕ). (block_claims_at blocks number).changes) stands.block_is in
      grounds.lists root home
      (subst (λ (changes : List ℕ). Contains changes root) changes_are
      (among-contains (block_claims_at context.blocks context.block).changes root is)) seen

  own-here : (context : Context) → StandsIn tree blocks block context → (root : ℕ) (home : Place)
      → of_one (is_own context.block) (slice_get context.tree.variables.items root) ≡ true → at.visible.variables root ≡ Some home
      → MayWrite at home
  own-here context stands root home is seen =
      let here : of_one (is_own block) (slice_get tree.variables.items root) ≡ true =
      subst (λ (t : Tree). of_one (is_own block) (slice_get t.variables.items root) ≡ true) stands.tree_is
      (subst (λ (number : ℕ). of_one (is_own number) (slice_get context.tree.variables.items root) ≡ true) stands.block_is is) in
      let (variable, found, owns) = owned block (slice_get tree.variables.items root) here in
      (grounds.own root variable home found owns seen).1

  -- what the rules let a block change may be changed
  pub may-here : (context : Context) → StandsIn tree blocks block context → (root : ℕ) → may_change context root ≡ true → MayChange at root
  may-here context stands root may home seen =
      let own = of_one (is_own context.block) (slice_get context.tree.variables.items root) in
      let parts = and_parts (all_list root context.rounds) (own || block_lists context root) may in
      ⊎_elim (λ (is : own ≡ true). own-here context stands root home is seen)
      (λ (is : block_lists context root ≡ true) (earlier : home.activation < at.number). listed-here context stands root home is seen)
      (or_cases own (block_lists context root) parts.1)

-- ---- what is passed

-- what the walk knows of an actual parameter, and what a run passes: a variable lies under that of the access
abbrev pub Ties : Environment → Actual → Argument → Type 0
Ties visible (OfValue range form) (meaning.OfValue v) = Unit {0}
Ties visible (OfRows ranges) (OfRow values) = Unit {0}
Ties visible (OfVariable origin selectors reach) (OfPlace found) =
    (place : Place) → found ≡ Some place → (home : Place) × (visible.variables (root_of origin) ≡ Some home) × LiesUnder home place
Ties visible actual argument = ⊥

abbrev pub AllTied : Environment → List Actual → List Argument → Type 0
AllTied visible [] [] = Unit {0}
AllTied visible (actual ∷ actuals) (argument ∷ arguments) = Ties visible actual argument × AllTied visible actuals arguments
AllTied visible actuals arguments = ⊥

tie-after : (visible : Environment) (actual : Actual) (argument : Argument) → Ties visible actual argument → Ties visible (after_call actual) argument
tie-after visible (OfValue range form) (meaning.OfValue v) tie = tt
tie-after visible (OfValue range form) (OfRow values) tie = tie
tie-after visible (OfValue range form) (OfPlace found) tie = tie
tie-after visible (OfRows ranges) argument tie = tie
tie-after visible (OfVariable origin selectors reach) (meaning.OfValue v) tie = tie
tie-after visible (OfVariable origin selectors reach) (OfRow values) tie = tie
tie-after visible (OfVariable origin selectors reach) (OfPlace found) tie = tie

tied-after : (visible : Environment) (actuals : List Actual) (arguments : List Argument) → AllTied visible actuals arguments
    → AllTied visible (map after_call actuals) arguments
tied-after visible [] arguments tied = tied
tied-after visible (actual ∷ actuals) [] tied = tied
tied-after visible (actual ∷ actuals) (argument ∷ arguments) tied =
    (tie-after visible actual argument tied.0, tied-after visible actuals arguments tied.1)

tied-settled : (visible : Environment) (holds_call : Bool) (actuals : List Actual) (arguments : List Argument) → AllTied visible actuals arguments
    → AllTied visible (settled holds_call actuals) arguments
tied-settled visible true actuals arguments tied = tied-after visible actuals arguments tied
tied-settled visible false actuals arguments tied = tied

-- a formal parameter that lies at a place has an actual variable under whose place that is
abbrev IsBorne : Environment → Place → Option Actual → Type 0
IsBorne visible home found =
    (origin : Origin) × (selectors : List Selector) × (reach : Reach) × (found ≡ Some (OfVariable origin selectors reach))
    × (outer : Place) × (visible.variables (root_of origin) ≡ Some outer) × LiesUnder outer home

borne-passed : (visible : Environment) (home : Place) (actual : Actual) (argument : Argument) → Ties visible actual argument
    → place_passed argument ≡ Some home → IsBorne visible home (Some actual)
borne-passed visible home (OfValue range form) (meaning.OfValue v) tie is = absurd (cc)
borne-passed visible home (OfValue range form) (OfRow values) tie is = absurd tie
borne-passed visible home (OfValue range form) (OfPlace found) tie is = absurd tie
borne-passed visible home (OfRows ranges) (meaning.OfValue v) tie is = absurd tie
borne-passed visible home (OfRows ranges) (OfRow values) tie is = absurd (cc)
borne-passed visible home (OfRows ranges) (OfPlace found) tie is = absurd tie
borne-passed visible home (OfVariable origin selectors reach) (meaning.OfValue v) tie is = absurd tie
borne-passed visible home (OfVariable origin selectors reach) (OfRow values) tie is = absurd tie
borne-passed visible home (OfVariable origin selectors reach) (OfPlace found) tie is =
    let (outer, seen, lies) = tie home is in
    (origin, selectors, reach, refl, outer, seen, lies)

borne-here : (visible : Environment) (home : Place) (same : Bool) (actual : Actual) (argument : Argument) (found : Option Actual) (later : Option Place)
    → Ties visible actual argument → (later ≡ Some home → IsBorne visible home found)
    → (if same then place_passed argument else later) ≡ Some home → IsBorne visible home (if same then Some actual else found)
borne-here visible home true actual argument found later tie more is = borne-passed visible home actual argument tie is
borne-here visible home false actual argument found later tie more is = more is

borne : (visible : Environment) (root : ℕ) (home : Place) (parameters : List ℕ) (actuals : List Actual) (arguments : List Argument)
    → AllTied visible actuals arguments → place_for root parameters arguments ≡ Some home
    → IsBorne visible home (actual_of (bound_to parameters actuals) root)
borne visible root home [] actuals arguments tied is = absurd (cc)
borne visible root home (parameter ∷ parameters) [] [] tied is = absurd (cc)
borne visible root home (parameter ∷ parameters) [] (argument ∷ arguments) tied is = absurd tied
borne visible root home (parameter ∷ parameters) (actual ∷ actuals) [] tied is = absurd tied
borne visible root home (parameter ∷ parameters) (actual ∷ actuals) (argument ∷ arguments) tied is =
    borne-here visible home (nat_eq parameter root) actual argument (actual_of (bound_to parameters actuals) root)
    (place_for root parameters arguments) tied.0 (borne visible root home parameters actuals arguments tied.1) is

-- what is no formal parameter has no actual one
unbound-here : (same : Bool) (actual : Actual) (found : Option Actual) → same ≡ false → found ≡ None → (if same then Some actual else found) ≡ None
unbound-here true actual found other none = absurd (cc)
unbound-here false actual found other none = none

unbound : (root : ℕ) (parameters : List ℕ) (actuals : List Actual) → is_among root parameters ≡ false
    → actual_of (bound_to parameters actuals) root ≡ None
unbound root [] actuals other = refl
unbound root (parameter ∷ parameters) [] other = refl
unbound root (parameter ∷ parameters) (actual ∷ actuals) other =
    let parts = or_parts (nat_eq parameter root) (is_among root parameters) other in
    unbound-here (nat_eq parameter root) actual (actual_of (bound_to parameters actuals) root) parts.0 (unbound root parameters actuals parts.1)

pub not-among : (root : ℕ) (roots : List ℕ) → (is_among root roots ≡ true → ⊥) → is_among root roots ≡ false
not-among root roots other = ⊎_elim (λ is. absurd (other is)) (λ is. is) (cases_Bool (is_among root roots))

-- what holds of all that a call may change holds of what each listed variable stands for
all-changed : (test : ℕ → Bool) (bindings : List Binding) (changes : List ℕ) (root : ℕ)
    → list_all test (roots_changed bindings changes) ≡ true → Contains changes root
    → list_all test (root_changed root (actual_of bindings root)) ≡ true
all-changed test bindings [] root all (k, within, is) = absurd (omega (arith, within))
all-changed test bindings (first ∷ changes) root all among =
    let one = root_changed first (actual_of bindings first) in
    let rest = roots_changed bindings changes in
    let parts = and_parts (list_all test one) (list_all test rest) (sym (list_all-append test one rest) ∙ all) in
    ⊎_elim
    (λ (same : first ≡ root). subst (λ (r : ℕ). list_all test (root_changed r (actual_of bindings r)) ≡ true) same parts.0)
    (λ (more : Contains changes root). all-changed test bindings changes root parts.1 more) (head-or_tail first root changes among)

-- ---- what is visible in the callee

-- what is visible in an activation and lies in an earlier one was passed, or is declared round its block
abbrev IsOuter : Activation → ℕ → Option DeclaredVariable → Place → Type 0
IsOuter activation root found home =
    (place_for root activation.heading.parameters.items activation.arguments ≡ Some home)
    ⊎ ((activation.caller.variables root ≡ Some home)
    × ((variable : DeclaredVariable) → found ≡ Some variable → variable.block ≡ activation.block → ⊥))

no-own : (number root : ℕ) (home : Place) → Some (own_place number root) ≡ Some home → home.activation < number → ⊥
no-own number root home is earlier =
    let same : own_place number root ≡ home = cc in
    let number_is : number ≡ home.activation = ap (λ (p : Place). p.activation) same in
    omega (arith, number_is, earlier)

outer-home : (activation : Activation) (root : ℕ) (found : Option DeclaredVariable) (home : Place) (one : VariableKind)
    → home_of activation root one ≡ Some home → home.activation < activation.number → IsOuter activation root found home
outer-home activation root found home kind.VariableParameter is earlier = inl is
outer-home activation root found home kind.Local is earlier = absurd (no-own activation.number root home is earlier)
outer-home activation root found home kind.ValueParameter is earlier = absurd (no-own activation.number root home is earlier)
outer-home activation root found home kind.Result is earlier = absurd (no-own activation.number root home is earlier)

outer-caller : (activation : Activation) (root : ℕ) (variable : DeclaredVariable) (home : Place) (around : Bool)
    → nat_eq variable.block activation.block ≡ false
    → (if around then activation.caller.variables root else None) ≡ Some home → IsOuter activation root (Some variable) home
outer-caller activation root variable home true other is =
    inr (
      is,
      λ own found same.
          let one : variable.block ≡ own.block = cc in
          false≢true (sym other ∙ eq-eqb variable.block activation.block (one ∙ same)),
    )
outer-caller activation root variable home false other is = absurd (cc)

outer-variable : (activation : Activation) (root : ℕ) (variable : DeclaredVariable) (home : Place) (own : Bool)
    → nat_eq variable.block activation.block ≡ own
    → (if own then home_of activation root variable.kind
    else (if is_one_of activation.heading.around.items variable.block then activation.caller.variables root else None)) ≡ Some home
    → home.activation < activation.number → IsOuter activation root (Some variable) home
outer-variable activation root variable home true declared is earlier = outer-home activation root (Some variable) home variable.kind is earlier
outer-variable activation root variable home false declared is earlier =
    outer-caller activation root variable home (is_one_of activation.heading.around.items variable.block) declared is

outer : (activation : Activation) (root : ℕ) (found : Option DeclaredVariable) (home : Place) → seen_from activation root found ≡ Some home
    → home.activation < activation.number → IsOuter activation root found home
outer activation root None home is earlier = absurd (cc)
outer activation root (Some variable) home is earlier =
    outer-variable activation root variable home (nat_eq variable.block activation.block) refl is earlier

-- ---- calls

-- each formal parameter is a variable of its block
abbrev pub DeclareTheirs : Tree → Type 0
DeclareTheirs tree =
    (number : ℕ) (block : Block) (root : ℕ) → slice_get tree.blocks.items number ≡ Some block
    → is_among root block.heading.parameters.items ≡ true
    → (variable : DeclaredVariable) × (slice_get tree.variables.items root ≡ Some variable) × (variable.block ≡ number)

-- the activation of a block that begins in a state
abbrev pub activation_from : ℕ → Block → List Argument → Environment → effect.State → Activation
activation_from number block arguments caller s =
    record { number = s.activations; block = number; heading = block.heading; arguments = arguments; caller = caller }

-- where it stands
abbrev pub standing_from : Tree → List BlockClaims → ℕ → Block → List Argument → Environment → effect.State → Standing
standing_from tree blocks number block arguments caller s =
    listing s.activations s.activations (block_claims_at blocks number).changes (environment_of tree (activation_from number block arguments caller s))

-- calls leave what is not listed
pub record CallsLeave (tree : Tree) (blocks : List BlockClaims) (calls : Calls) : Type 0 where
  pub known : (number : ℕ) (block : Block) (arguments : List Argument) (caller : Environment) (s : effect.State)
      → slice_get tree.blocks.items number ≡ Some block
      → Leaving (standing_from tree blocks number block arguments caller s) s (state_after (calls number arguments caller s))
  pub unknown : (number : ℕ) (arguments : List Argument) (caller : Environment) (s : effect.State)
      → slice_get tree.blocks.items number ≡ None → state_after (calls number arguments caller s) ≡ s

module _ (tree : Tree) (blocks : List BlockClaims) (declares : DeclareTheirs tree) (block : ℕ) (at : Standing)
    (grounds : Grounds tree blocks block at) (context : Context) (stands : StandsIn tree blocks block context) where
  module _ (number : ℕ) (callee : Block) (actuals : List Actual) (arguments : List Argument) (found : slice_get tree.blocks.items number ≡ Some callee)
      (all : list_all (may_change context)
      (roots_changed (bound_to callee.heading.parameters.items actuals) (block_claims_at blocks number).changes) ≡ true)
      (tied : AllTied at.visible actuals arguments) (s : effect.State) (begun : at.number ≤ s.activations) where
    abbrev bindings : List Binding
    bindings = bound_to callee.heading.parameters.items actuals

    abbrev inner : Standing
    inner = standing_from tree blocks number callee arguments at.visible s

    abbrev Allowed : ℕ → Option Actual → Type 0
    Allowed root actual = list_all (may_change context) (root_changed root actual) ≡ true

    allowed-one : (root : ℕ) → list_all (may_change context) (root ∷ []) ≡ true → MayChange at root
    allowed-one root is = may-here tree blocks block at grounds context stands root (and_parts (may_change context root) true is).0

    -- a place of what the callee lists may be changed here, if it lies in an earlier activation
    outer-listed : (root : ℕ) (home : Place) → Allowed root (actual_of bindings root)
        → IsOuter (activation_from number callee arguments at.visible s) root (slice_get tree.variables.items root) home
        → home.activation < at.number → at.may home
    outer-listed root home allowed (inl passed) earlier =
        let (origin, selectors, reach, actual_is, outer_home, seen, lies) =
        borne at.visible root home callee.heading.parameters.items actuals arguments tied passed in
        let other = root_of origin in
        let may = allowed-one other (subst (Allowed root) actual_is allowed) in
        under-write at other (Some home) may
        (λ place is. (outer_home, seen, subst (λ (p : Place). LiesUnder outer_home p) (let same : home ≡ place = cc in same) lies)) home refl earlier
    outer-listed root home allowed (inr (seen, elsewhere)) earlier =
        let free : is_among root callee.heading.parameters.items ≡ false =
        not-among root callee.heading.parameters.items (λ is.
        let (variable, there, own) = declares number callee root found is in elsewhere variable there own) in
        let may = allowed-one root (subst (Allowed root) (unbound root callee.heading.parameters.items actuals free) allowed) in
        under-write at root (Some home) may (λ place is. (home, seen, let same : home ≡ place = cc in subst (LiesUnder home) same (lies-itself home)))
        home refl earlier

    inner-listed : (place : Place) → inner.may place → place.activation < at.number → at.may place
    inner-listed place (root, home, among, seen, lies) earlier =
        let home_earlier : home.activation < at.number = omega (arith, lies.0, earlier) in
        let allowed = all-changed (may_change context) bindings (block_claims_at blocks number).changes root all among in
        at.part_may home place
        (outer-listed root home allowed
        (outer (activation_from number callee arguments at.visible s) root (slice_get tree.variables.items root) home seen
        (omega (arith, home_earlier, begun))) home_earlier) lies

    pub callee-leaves : (t : effect.State) → Leaving inner s t → Leaving at s t
    callee-leaves t left = record {
      grows = left.grows;
      leaves = record {
        values = λ place earlier.
            ⊎_elim (λ listed. inl (inner-listed place listed earlier)) (λ same. inr same) (left.leaves.values place (omega (arith, earlier, begun)));
        defined = λ place v earlier is. let few = grounds.few in left.leaves.defined place v (omega (arith, earlier, few, begun)) is;
      };
    }

  -- the rule of changes, of a call whose walk breaks none
  call-allowed : (call : Call) (holds_call : Bool) (actuals : List Actual) → Yields context (called call holds_call actuals) tt
      → list_all (may_change context)
      (roots_changed (bound_to (parameters_of (slice_get tree.blocks.items call.block)) (settled holds_call actuals))
      (block_claims_at blocks call.block).changes) ≡ true
  call-allowed call holds_call actuals yields =
      let claims = block_claims_at context.blocks call.block in
      let bound = bound_to (parameters_of (called_block context call)) (settled holds_call actuals) in
      let whole : Yields context (call_with call claims bound) tt =
      record { state = yields.state; unbroken = yields.unbroken; value_is = yields.value_is } in
      let one = yields-then context (call_aliases call bound)
      (λ _. call_entry call bound claims >>= λ _. call_change call.name bound claims >>= λ _. call_behind call bound claims) tt whole in
      let two = yields-then context (call_entry call bound claims)
      (λ _. call_change call.name bound claims >>= λ _. call_behind call bound claims) tt one.2 in
      let three = yields-then context (call_change call.name bound claims) (λ _. call_behind call bound claims) tt two.2 in
      let changes = list_all (may_change context) (roots_changed bound claims.changes) in
      let rule : Yields context (asked changes Changes call.name) three.0 =
      record { state = three.1.state; unbroken = three.1.unbroken; value_is = three.1.value_is } in
      let kept = yields-asked context changes Changes call.name three.0 rule in
      let actual = settled holds_call actuals in
      subst (λ (t : Tree). list_all (may_change context)
      (roots_changed (bound_to (parameters_of (slice_get t.blocks.items call.block)) actual) (block_claims_at blocks call.block).changes) ≡ true)
      stands.tree_is
      (subst (λ (all : List BlockClaims). list_all (may_change context)
      (roots_changed bound (block_claims_at all call.block).changes) ≡ true) stands.blocks_are kept)

  of-found : (calls : Calls) → CallsLeave tree blocks calls → (call : Call) (actuals : List Actual) (arguments : List Argument)
      → AllTied at.visible actuals arguments → (found : Option Block) → slice_get tree.blocks.items call.block ≡ found
      → list_all (may_change context) (roots_changed (bound_to (parameters_of found) actuals) (block_claims_at blocks call.block).changes) ≡ true
      → Keeps at (calls call.block arguments at.visible)
  of-found calls leave call actuals arguments tied None is allowed = record {
    left = λ s begun.
        subst (λ (t : effect.State). Leaving at s t) (sym (leave.unknown call.block arguments at.visible s is)) (leaves-itself at s);
  }
  of-found calls leave call actuals arguments tied (Some callee) is allowed = record {
    left = λ s begun.
        callee-leaves call.block callee actuals arguments is allowed tied s begun (state_after (calls call.block arguments at.visible s))
        (leave.known call.block callee arguments at.visible s is);
  }

  pub keeps-call : (calls : Calls) → CallsLeave tree blocks calls → (call : Call) (holds_call : Bool) (actuals : List Actual) (arguments : List Argument)
      → Yields context (called call holds_call actuals) tt → AllTied at.visible actuals arguments → Keeps at (calls call.block arguments at.visible)
  keeps-call calls leave call holds_call actuals arguments yields tied =
      let actual = settled holds_call actuals in
      let tied_now = tied-settled at.visible holds_call actuals arguments tied in
      let allowed = call-allowed call holds_call actuals yields in
      of-found calls leave call actual arguments tied_now (slice_get tree.blocks.items call.block) refl allowed
