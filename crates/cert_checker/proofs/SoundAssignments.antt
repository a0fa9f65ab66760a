-- Assignments are sound: the target is accessed, the value is evaluated and tested, and then it is stored.
use Rattle.std.proofs.Common.{arith, ◌≡◌, ◌∙◌, sym, ap, refl, subst, ℕ, zero, suc, ◌<◌, Bool, true, false, cond, not, ◌&&◌, nat_lt, length, List, [], ◌∷◌, ◌++◌}
use Rattle.std.proofs.Common.{append-nil, map, Option, Some, None}
use Rattle.std.specs.List.{Contains}
use Rattle.std.specs.Option.{option_and_then, option_map}
use Rattle.std.specs.Prelude.{is_some}
use Rattle.std.proofs.lemmas.Bool.{and_parts, false≢true, ltb-true, or_parts}
use Rattle.std.proofs.lemmas.Option.{same_Some}
use Rattle.types.proofs.Scalars.{scalar_component}
use Rattle.types.specs.Components.{components_of}
use Rattle.types.specs.Forms.{Form}
use Rattle.types.specs.Types.{form_at, form_kind, form_range, is_ordinal, is_scalar, kind_range, scalar_range_of}
use Rattle.types.specs.declared.form.Step.{Step}
use Rattle.types.specs.declared.form.TypeId.{TypeId}
use Rattle.types.specs.declared.form.TypeKind.{TypeKind}
use Rattle.types.specs.declared.form.TypeKind.TheVariants as kind
use Rattle.place.specs.declared.Place.{Place}
use Rattle.certificate.specs.Contents.{is_empty}
use Rattle.typed_tree.specs.Accesses as accesses
use Rattle.typed_tree.specs.Accesses.{Origin, AtVariable, is_type, origin_of, root_of, step_of, steps_of}
use Rattle.typed_tree.specs.Calls.{holds_call}
use Rattle.typed_tree.specs.Kinds.{are_ordinal_indexes, held_by, is_held, statement_held}
use Rattle.typed_tree.specs.Records.{OpenRecord, accesses_begin, begins, statement_begins}
use Rattle.typed_tree.specs.WellFormed.{Outline, are_well_formed, fits_target, is_test_of, is_well_formed_expr, is_well_formed_test, is_whole, leads_to_scalar}
use Rattle.typed_tree.specs.WellFormed.{outline_of, stmt_is_well_formed, tests_type}
use Rattle.typed_tree.specs.declared.tree.Assignment.{Assignment}
use Rattle.typed_tree.specs.declared.tree.Expr.{Expr}
use Rattle.typed_tree.specs.declared.tree.PathStep.{PathStep}
use Rattle.typed_tree.specs.declared.tree.RangeTest.{RangeTest}
use Rattle.typed_tree.specs.declared.tree.Scalar.{Scalar}
use Rattle.typed_tree.specs.declared.tree.Scalar.TheVariants as scalar
use Rattle.typed_tree.specs.declared.tree.Selector.{Selector}
use Rattle.typed_tree.specs.declared.tree.Stmt.TheOpen.Stmt-F.{Assign}
use Rattle.typed_tree.specs.declared.tree.Tree.{Tree}
use Rattle.checker_state.specs.Bounds.{Bound}
use Rattle.domain.specs.Interval.{Interval}
use Rattle.domain.specs.declared.versions.Version.{Version}
use Rattle.domain.specs.Versions.{has}
use Rattle.domain.specs.declared.versions.Extension.TheVariants.{Boxes, Calls, Growths}
use Rattle.meaning.specs.declared.value.Value.{Value}
use Rattle.meaning.specs.Kinds.{IsOf}
use Rattle.meaning.specs.Store.{Environment, Place as StorePlace, Store, part}
use Rattle.meaning.specs.Effect as effect
use Rattle.meaning.specs.Effect.{is_in}
use Rattle.meaning.specs.Meaning.{Surroundings, accessed, value_of, values_of}
use Rattle.checker_state.specs.Conditions.{bound_form}
use Rattle.checker_state.specs.Holds.{IsIn, moment}
use Rattle.checker_state.specs.Knows.{IsOfForm, IsStep}
use Rattle.checker_state.specs.State.{State}
use Rattle.checker_state.specs.Values.{IsKnown, known_range}
use Rattle.checker_state.proofs.Valued.{values-tell}
use Rattle.checker_expressions.proofs.BehindCalls.{AndLeft, IsLeft, piece-leaves, reached-behind, sound-left}
use Rattle.checker_expressions.proofs.Forms.{form-same}
use Rattle.checker_expressions.proofs.Opened.{AreOpen}
use Rattle.checker_expressions.proofs.OtherLoops.{AreListed, expression-alike}
use Rattle.checker_expressions.proofs.Scalars.{known-of}
use Rattle.checker_expressions.proofs.Sound.{Any_value, Good, IsHeld, IsPartOf, SoundCalls, SoundFrom, SoundGoes, World, declared_in, from-held, from-then}
use Rattle.checker_expressions.proofs.Sound.{good-weaker, is_seen}
use Rattle.checker_expressions.proofs.Sound.{kept-rule, ordinal_in, sites_in, sound-anywhere, sound-by_tree, sound-here, types_in, unbroken-left}
use Rattle.checker_state.proofs.Refined.{expression-kept, forms-tell}
use Rattle.checker_rows.specs.Limits.{limits_or_integer, row_limits}
use Rattle.checker_rows.specs.Rows.{is_ordinal_variable, rows_accessed, rows_of, values_at}
use Rattle.checker_rows.proofs.Numbered.{own-values}
use Rattle.checker_rows.proofs.Components.{Has, only}
use Rattle.checker_state.specs.Stores.{Reach}
use Rattle.checker_loops.specs.Loops.{Round, all_list}
use Rattle.checker_loops.proofs.VariableRows.{empty-way, variable-accessed}
use Rattle.checker_calls.specs.Actuals.{unknown_reach}
use Rattle.checker_calls.specs.Environments.{LiesIn, type_led}
use Rattle.checker_calls.proofs.Origins.{rows-same}
use Rattle.checker_calls.proofs.Passed.{indexes-integer, reached-later, AreComponentsOf, IsReachedBy}
use Rattle.checker_expressions.specs.declared.fault.Rule.TheVariants.{Changes}
use Rattle.checker_expressions.proofs.Fitting.{passed-lies}
use Rattle.checker_expressions.specs.Walk as flow
use Rattle.checker_expressions.specs.Walk.{Calling, Context, Piece, Valued, Walked, Walking, callees_of, calls_in, followed, hold_call, may_change, piece_of}
use Rattle.checker_expressions.specs.Walk.{reach_before, reach_behind, scalar_of, value_walk}
use Rattle.checker_expressions.proofs.SoundAccesses.{LeadsTo, leads-seen, part-none, required-leaves, required-true, type-of}
use Rattle.checker_expressions.proofs.SoundCalls.{CallLaws, by-world}
use Rattle.checker_expressions.proofs.SoundExpressions.{SoundAction, access-sound, value-sound}
use Rattle.checker_expressions.proofs.SoundOperations.{IsFitting, fitting-sound}
use Rattle.checker_rows.proofs.Accessed.{rows-are}
use Rattle.checker_rows.proofs.Selected.{Matches}
use Rattle.cert_checker.specs.Walk as walk
use Rattle.cert_checker.specs.Walk.{Stores, alike, ends_at_index, is_some_index, is_whole_variable, reach_of_store, reach_stored}
use Rattle.checker_expressions.specs.declared.noting.Noted.{Noted}
use Rattle.cert_checker.specs.Steps.{noted_where, value_step}
use Rattle.cert_checker.proofs.AssignedValues.{noted-breaks, noted-valued}
use Rattle.cert_checker.proofs.SoundSteps.{IsAssigned, assigned-sound}
use Rattle.cert_checker.proofs.Changes.{LiesInVariable}
use Rattle.cert_checker.proofs.Targets.{alike-at, alike-targets}
use Rattle.cert_checker.proofs.Written.{Fit, Foretold, listed-good, stores-good}

-- ---- what is accessed

-- a value of a scalar type is that of its one component
one-component : (types : List Form) (id : TypeId) (v : Value) → components_of types id ≡ [] ∷ [] → LiesIn types id v → AreComponentsOf types id (v ∷ [])
one-component types id v whole lies = record {
  count = sym (ap length whole);
  each = λ k rest w rest_at w_at.
      let none = only [] rest (subst (λ (all : List (List Step)). Has all rest) whole (k, rest_at)) in
      (id, ap (λ (steps : List Step). type_led types steps id) (sym none), subst (LiesIn types id) (only v w (k, w_at)) lies);
}

alone : (v w : Value) → Contains (v ∷ []) w → v ≡ w
alone v w (zero, within, is) = is
alone v w (suc k, within, is) = absurd (omega (arith, within))

-- all selectors from the variable are none, if and only if it is accessed as a whole
whole-none : (steps : List PathStep) (selectors all : List Selector) → map step_of all ≡ steps ++ map step_of selectors
    → (is_empty steps && is_empty selectors) ≡ true → all ≡ []
whole-none [] [] [] are is = refl
whole-none [] [] (one ∷ all) are is = absurd (cc)
whole-none [] (selector ∷ selectors) all are is = absurd (false≢true is)
whole-none (step ∷ steps) selectors all are is = absurd (false≢true is)

none-whole : (steps : List PathStep) (selectors all : List Selector) → map step_of all ≡ steps ++ map step_of selectors → all ≡ []
    → (is_empty steps && is_empty selectors) ≡ true
none-whole [] [] all are none = refl
none-whole [] (selector ∷ selectors) all are none =
    let no : [] ≡ step_of selector ∷ map step_of selectors = sym (ap (map step_of) none) ∙ are in absurd (cc)
none-whole (step ∷ steps) selectors all are none =
    let no : [] ≡ step ∷ (steps ++ map step_of selectors) = sym (ap (map step_of) none) ∙ are in absurd (cc)

-- what is stored to is reached
stored-reached : (env : Environment) (store : Store) (own all : List Selector) (way : List Step) (reach : Reach)
    → IsReachedBy env store all way reach → IsReachedBy env store all way (reach_of_store own reach)
stored-reached env store own all way reach reached = by (is_some_index reach.indexes && not (ends_at_index own))
  where
    by : (inner : Bool) → IsReachedBy env store all way (cond inner (record reach { is_all = false }) reach)
    by true = record { indexes = reached.indexes; all = λ is. absurd (false≢true is); none = reached.none }
    by false = reached

-- in each version
stored-version : (version : Version) (env : Environment) (store : Store) (own all : List Selector) (way : List Step) (reach : Reach)
    → IsReachedBy env store all way reach → IsReachedBy env store all way (cond (has version Boxes) reach (reach_of_store own reach))
stored-version version env store own all way reach reached = by (has version Boxes)
  where
    by : (boxes : Bool) → IsReachedBy env store all way (cond boxes reach (reach_of_store own reach))
    by true = reached
    by false = stored-reached env store own all way reach reached

-- an expression alone
alone-quiet : (e : Expr) → hold_call (piece_of e ∷ []) ≡ false → holds_call e ≡ false
alone-quiet e quiet = sym (form-same e).holds ∙ (or_parts (piece_of e).holds_call false quiet).0

one-listed : (context : Context) (rounds : List Round) (calls : List Calling) → AreListed context rounds (calls ++ []) → AreListed context rounds calls
one-listed context rounds calls listed = subst (AreListed context rounds) (append-nil calls) listed

-- what is walked to a value that is assigned is part of a world with what is walked to the value
assigned-part : (world : World) (e : Expr) (context : Context) (state : State) → IsPartOf world (noted_where Growths e context state)
    → IsPartOf world (value_walk e context state)
assigned-part world e context state part =
    let (notes, same) = noted-valued Growths e context state in
    let own : IsPartOf world (flow.valued notes (value_walk e context state)) = subst (λ (w : Walked Valued). IsPartOf world w) same part in
    record { ids = own.ids; linked = own.linked }

-- what is reached when expressions were evaluated behind the access, of which this was left
pub reached-then : (context : Context) (world : World) (block : ℕ) (env : Surroundings) (before after : Store) (origin : Origin)
    (selectors : List Selector) (reach : Reach) (place : Option StorePlace) (later : List Piece) → SoundGoes world context
    → (hold_call later ≡ false → after ≡ before) → IsLeft world (calls_in later) env.visible before after
    → LeadsTo world block env origin selectors reach place before
    → LeadsTo world block env origin selectors (reach_stored context selectors later reach) place after
reached-then context world block env before after origin selectors reach place later goes stays left leads_to =
    let leads = leads_to.leads in
    record {
      leads = record {
        all = leads.all;
        steps_are = leads.steps_are;
        way = leads.way;
        place_is = leads.place_is;
        matches = leads.matches;
        reached = stored-version context.version env.visible after selectors leads.all leads.way (reach_before context later reach)
            (by (has context.version Calls) (hold_call later) stays);
      };
      tests = leads_to.tests;
      typed = leads_to.typed;
    }
  where
    by : (apart hold : Bool) → (hold ≡ false → after ≡ before) → IsReachedBy env.visible after leads_to.leads.all leads_to.leads.way
        (cond apart (reach_behind (callees_of context) (calls_in later) reach) (cond hold (unknown_reach reach) reach))
    by true hold stays =
        by-world world context
        (λ (own : Context). IsReachedBy env.visible after leads_to.leads.all leads_to.leads.way (reach_behind (callees_of own) (calls_in later) reach)) goes
        (reached-behind world (calls_in later) env.visible before after left leads_to.leads.all leads_to.leads.way reach leads_to.leads.reached)
    by false false stays =
        subst (λ (store : Store). IsReachedBy env.visible store leads_to.leads.all leads_to.leads.way reach) (sym (stays refl)) leads_to.leads.reached
    by false true stays =
        reached-later world.tree env.visible before after leads_to.leads.all leads_to.leads.way reach
        (indexes-integer (outline_of world.tree) block leads_to.leads.all leads_to.leads.way leads_to.tests leads_to.leads.matches) leads_to.leads.reached

-- ---- values that pass a test

-- a test for an ordinal type is one of an ordinal
tests-ordinal : (types : List Form) (id : TypeId) (fits : RangeTest) → is_ordinal types id ≡ true → tests_type types fits id ≡ true
    → fits.tests ≡ scalar.Ordinal
tests-ordinal types id fits ordinal tested = by fits.tests (form_at types id) ordinal tested
  where
    of-kind : (tests : Scalar) (found : TypeKind) → is_some (kind_range found) ≡ true → is_test_of tests fits.range (Some found) ≡ true
        → tests ≡ scalar.Ordinal
    of-kind scalar.Ordinal found ordinal tested = refl
    of-kind scalar.Set (kind.Ordinal range) ordinal tested = absurd (false≢true tested)
    of-kind scalar.Set (kind.Set base members) ordinal tested = absurd (false≢true ordinal)
    of-kind scalar.Set kind.Structured ordinal tested = absurd (false≢true ordinal)

    by : (tests : Scalar) (form : Option Form) → is_some (option_and_then form_range form) ≡ true
        → is_test_of tests fits.range (option_map form_kind form) ≡ true → tests ≡ scalar.Ordinal
    by tests None ordinal tested = absurd (false≢true ordinal)
    by tests (Some form) ordinal tested = of-kind tests (form_kind form) ordinal tested

module _ (world : World) where
  -- the test has the range of the type of what is accessed
  abbrev pub has_type : RangeTest → Origin → List Selector → Bool
  has_type fits origin selectors =
      is_type (tests_type (types_in world) fits) (accesses.accessed (declared_in world) (types_in world) origin selectors)

  -- so what passes is a value of that type
  pub passed-typed : (origin : Origin) (selectors : List Selector) (fits : RangeTest) (v : Value) → has_type fits origin selectors ≡ true
      → is_in fits.range v ≡ true → IsOf fits.tests v
      → (id : TypeId) × (accesses.accessed (declared_in world) (types_in world) origin selectors ≡ Some id) × LiesIn (types_in world) id v
  passed-typed origin selectors fits v typed passes of_kind =
      let id = type-of (tests_type (types_in world) fits) (accesses.accessed (declared_in world) (types_in world) origin selectors) typed in
      (id.0, id.1, passed-lies (types_in world) id.0 v fits id.2 passes of_kind)

  -- a value of an entire variable lies in its range
  pub entire-lies : (root : ℕ) (v : Value) → LiesInVariable world.tree root v → IsIn (row_limits (rows_of world.tree) root) v
  entire-lies root v own =
      let variable = variable-accessed world.tree root [] own.0 own.1 in
      let values : values_at (rows_of world.tree) root ≡ Some own.2.0 =
      own-values world.tree root variable.0 variable.1
      ∙ ap (scalar_range_of (types_in world)) (same_Some variable.0.type_id own.0 variable.2) ∙ own.2.1 in
      subst (λ (range : Interval). IsIn range v) (sym (ap limits_or_integer values)) own.2.2

  -- the test for an ordinal variable is one of an ordinal
  pub tests-number : (root : ℕ) (fits : RangeTest) → has_type fits (AtVariable root) [] ≡ true
      → is_type (is_ordinal (types_in world)) (accesses.accessed (declared_in world) (types_in world) (AtVariable root) []) ≡ true
      → fits.tests ≡ scalar.Ordinal
  tests-number root fits typed ordinal =
      let found = accesses.accessed (declared_in world) (types_in world) (AtVariable root) [] in
      let one = type-of (tests_type (types_in world) fits) found typed in
      let other = type-of (is_ordinal (types_in world)) found ordinal in
      let same : other.0 ≡ one.0 = same_Some other.0 one.0 (sym other.1 ∙ one.1) in
      tests-ordinal (types_in world) one.0 fits (subst (λ (id : TypeId). is_ordinal (types_in world) id ≡ true) same other.2) one.2

  pub site-within : (block : ℕ) (fits : RangeTest) → is_well_formed_test (outline_of world.tree) block fits ≡ true → fits.site < sites_in world
  site-within block fits well =
      ltb-true fits.site (sites_in world) (and_parts (nat_lt fits.site (sites_in world)) (is_whole fits.range.first && is_whole fits.range.last) well).0

module _ (world : World) (block : ℕ) (env : Surroundings) (records : List OpenRecord) (opened : AreOpen world block env.visible records env.records)
    (laws : CallLaws world) (calls : SoundCalls world env.calls) where
  abbrev visible : Environment
  visible = env.visible

  abbrev outline : Outline
  outline = outline_of world.tree

  -- ---- the store of a value

  module _ (becomes : Place) (origin : Origin) (selectors : List Selector) (id : TypeId)
      (of_type : accesses.accessed (declared_in world) (types_in world) origin selectors ≡ Some id) (v : Value) (lies : LiesIn (types_in world) id v)
      (seen : is_seen world block (root_of origin) ≡ true) (reach : Reach) (place : Option StorePlace) (range : Interval) (inside : IsIn range v)
      (store : Store) (leads_to : LeadsTo world block env origin selectors reach place store) where
    abbrev root : ℕ
    root = root_of origin

    abbrev all : List Selector
    all = leads_to.leads.all

    abbrev way : List Step
    way = leads_to.leads.way

    all_typed : accesses.accessed (declared_in world) (types_in world) (AtVariable root) all ≡ Some id
    all_typed = leads_to.typed id of_type

    -- to a component
    component-stored : is_whole_variable origin selectors ≡ false
        → SoundFrom {A = Unit {0}} {B = Unit {0}} world block visible store Any_value (effect.store place v)
        (walk.assign_component becomes origin selectors reach range)
    component-stored some context state s same unbroken part_of here =
        let leads = leads_to.leads in
        let at = here.proper.visible root seen in
        let rows = rows-are world.tree (AtVariable root) all id all_typed in
        let whole = scalar_component (types_in world) id (ap is_some lies.1) in
        let values = v ∷ [] in
        let touched = λ (tree : Tree). rows_accessed tree origin selectors in
        let components = one-component (types_in world) id v whole lies in
        let many = sym components.count in
        let fit =
        subst (λ (tree : Tree). Fit world block visible root at.0 at.1 all id rows reach way leads.matches values many
        (alike range (touched tree))) (sym here.stands.goes.tree_is)
        (subst (λ (under : List ℕ). Fit world block visible root at.0 at.1 all id rows reach way leads.matches values many (alike range under))
        (rows-same world.tree origin selectors all leads.steps_are)
        (record {
          structured = λ none. absurd (false≢true (sym some ∙ none-whole (steps_of origin) selectors all leads.steps_are none));
          are = λ one listed. (alike-at range (rows_accessed world.tree (AtVariable root) all) one listed).0;
          targets = alike-targets world.tree root all id rows visible store way leads.matches values many range
              (λ w listed. subst (IsIn range) (alone v w listed) inside);
        })) in
        let reached = subst (λ (x : Store). IsReachedBy visible x all way reach) (sym same) leads.reached in
        let good = stores-good world block visible root at.0 at.1 all id rows reach way leads.matches values many all_typed components
        becomes (alike range (touched context.tree)) fit context state s reached unbroken here place leads.place_is in
        let P = Foretold world visible context (walk.assign_component becomes origin selectors reach range context state) s.store in
        subst (λ (p : Option StorePlace). Good world P s (effect.store p v s)) (part-none place)
        (subst (λ (components : List (List Step)). Good world P s (effect.store_all place components values s)) whole good)

    -- to a variable as a whole
    entire-stored : (form : Option Bound) (step : Option Interval) → IsOfForm (moment visible store) form v → IsStep (moment visible store) root step v
        → is_whole_variable origin selectors ≡ true
        → SoundFrom {A = Unit {0}} {B = Unit {0}} world block visible store Any_value (effect.store place v) (walk.assign_entire becomes root form step range)
    entire-stored form step of_form is_step entire context state s same unbroken part_of here =
        let leads = leads_to.leads in
        let at = here.proper.visible root seen in
        let asked = walk.change becomes root context state in
        let last = walk.assign root form step range context state in
        let may = kept-rule (may_change context root) Changes becomes (unbroken-left asked.broken last.broken unbroken) in
        let none = whole-none (steps_of origin) selectors all leads.steps_are entire in
        let own : LiesInVariable world.tree root v = (
          id,
          subst (λ (list : List Selector). accesses.accessed (declared_in world) (types_in world) (AtVariable root) list ≡ Some id) none all_typed,
          lies,
        ) in
        let there : place ≡ visible.variables root =
        leads.place_is
        ∙ ap (part (visible.variables root)) (empty-way way (subst (λ (list : List Selector). Matches list way) none leads.matches))
        ∙ part-none (visible.variables root) in
        subst (λ (p : Option StorePlace). Good world (Foretold world visible context (followed asked last) s.store) s (effect.store p v s)) (sym there)
        (good-weaker world (Foretold world visible context last s.store) (Foretold world visible context (followed asked last) s.store) s
        (effect.store (visible.variables root) v s) (λ done w stored then. record { tie = tt; stands = then.so.stands; kept = then.so.kept })
        (listed-good world block visible root at.0 at.1 v range form step context state s here own inside
        (subst (λ (x : Store). IsOfForm (moment visible x) form v) (sym same) of_form)
        (subst (λ (x : Store). IsStep (moment visible x) root step v) (sym same) is_step) (and_parts (all_list root context.rounds) _ may).0))

    -- to what is accessed
    pub value-stored : (form : Option Bound) (step : Option Interval) → IsOfForm (moment visible store) form v → IsStep (moment visible store) root step v
        → SoundFrom {A = Unit {0}} {B = Unit {0}} world block visible store Any_value (effect.store place v)
        (walk.assign_to becomes origin selectors reach form step range)
    value-stored form step of_form is_step = by (is_whole_variable origin selectors) refl
      where
        by : (entire : Bool) → is_whole_variable origin selectors ≡ entire
            → SoundFrom {A = Unit {0}} {B = Unit {0}} world block visible store Any_value (effect.store place v)
            (cond entire (walk.assign_entire becomes root form step range) (walk.assign_component becomes origin selectors reach range))
        by true is = entire-stored form step of_form is_step is
        by false is = component-stored is

  -- ---- assignments

  abbrev well_expr : Expr → Bool
  well_expr = is_well_formed_expr outline block

  -- a value is tested, and then it is stored
  abbrev tested-store : Option StorePlace → RangeTest → Value → effect.Action (Unit {0})
  tested-store place fits v = effect.◌>>=◌ (effect.require (is_in fits.range v) fits.site) (λ tested. effect.store place v)

  -- the target is accessed, and then comes the value
  abbrev pub assigned : Assignment → effect.Action (Unit {0})
  assigned assignment =
      effect.◌>>=◌ (accessed assignment.target (values_of assignment.indexes.items) env)
      (λ place. effect.◌>>=◌ (value_of assignment.value env) (tested-store place assignment.fits))

  module _ (assignment : Assignment) (value_well : well_expr assignment.value ≡ true)
      (typed : has_type world assignment.fits (origin_of assignment.target) assignment.target.selectors.items ≡ true)
      (seen : is_seen world block (root_of (origin_of assignment.target)) ≡ true) (below : assignment.fits.site < sites_in world)
      (held_so : is_held assignment.fits.tests (held_by assignment.value) ≡ true) (begin : begins assignment.value records ≡ true) where
    abbrev target_origin : Origin
    target_origin = origin_of assignment.target

    abbrev target_selectors : List Selector
    target_selectors = assignment.target.selectors.items

    abbrev later : List Piece
    later = piece_of assignment.value ∷ []

    abbrev held : Context → Reach → Reach
    held context = reach_stored context target_selectors later

    -- its form in the program
    abbrev own_form : (ordinal : ℕ → Bool) → Version → Option Bound
    own_form ordinal version = bound_form ordinal version assignment.value

    -- what the walk does with the value
    abbrev walked-store : Reach → Valued → Walking (Unit {0})
    walked-store reach told =
        flow.◌>>=◌ (flow.fitting assignment.fits told.known)
        (λ passed context. walk.assign_value assignment (held context reach) told.noted passed context)

    -- its step in a program
    abbrev own_step : Tree → List Noted → Option Interval
    own_step tree notes = value_step tree (root_of target_origin) assignment.value notes

    abbrev walked-value : Reach → Walking (Unit {0})
    walked-value reach = flow.◌>>=◌ (noted_where Growths assignment.value) (walked-store reach)

    module _ (reach : Reach) (place : Option StorePlace) where
      test-sound : (store : Store)
          → ((context : Context) → SoundGoes world context → LeadsTo world block env target_origin target_selectors (held context reach) place store)
          → (valued : Valued) (v : Value)
          → IsKnown valued.known v → scalar_of valued.known ≡ assignment.fits.tests
          → ((version : Version) → IsOfForm (moment visible store) (own_form (ordinal_in world) version) v)
          → IsStep (moment visible store) (root_of target_origin) (own_step world.tree valued.noted) v
          → SoundFrom {A = Unit {0}} {B = Unit {0}} world block visible store Any_value (tested-store place assignment.fits v) (walked-store reach valued)
      test-sound store leads valued v inside of_kind of_form is_step =
          let known = valued.known in
          let notes = valued.noted in
          let step = own_step world.tree notes in
          let fits = assignment.fits in
          let test = effect.require (is_in fits.range v) fits.site in
          from-then world block visible store (IsFitting known v) Any_value test (λ tested. effect.store place v) (flow.fitting fits known)
          (λ passed context. walk.assign_value assignment (held context reach) notes passed context)
          (sound-here world block visible store (IsFitting known v) test (flow.fitting fits known)
          (fitting-sound world block visible fits known v below inside))
          (λ passed done s t is from told at state s2 same unbroken part here.
          let form = own_form (ordinal_in world) at.version in
          let stays : t.store ≡ store = required-leaves (is_in fits.range v) fits.site s t done is ∙ from in
          let own = passed-typed world target_origin target_selectors fits v typed (required-true (is_in fits.range v) fits.site s t done is)
          (subst (λ (one : Scalar). IsOf one v) of_kind (known-of known v inside)) in
          sound-by_tree world block visible t.store Any_value (effect.store place v)
          (λ (tree : Tree). walk.assign_to assignment.becomes target_origin target_selectors (held at reach) (own_form
          (is_ordinal_variable tree) at.version)
          (own_step tree notes)
          (known_range passed))
          (value-stored assignment.becomes target_origin target_selectors own.0 own.1 v own.2 seen (held at reach) place (known_range passed)
          (values-tell.in_range passed v told.0) t.store
          (subst (λ (x : Store). LeadsTo world block env target_origin target_selectors (held at reach) place x) (sym stays)
          (leads at here.stands.goes)) form step
          (subst (λ (x : Store). IsOfForm (moment visible x) form v) (sym stays) (of_form at.version))
          (subst (λ (x : Store). IsStep (moment visible x) (root_of target_origin) step v) (sym stays) is_step)) at state s2 same unbroken part here)

      from-value : (store : Store) → LeadsTo world block env target_origin target_selectors reach place store
          → SoundFrom {A = Unit {0}} {B = Unit {0}} world block visible store Any_value
          (effect.◌>>=◌ (value_of assignment.value env) (tested-store place assignment.fits)) (walked-value reach)
      from-value store leads =
          let value = assignment.value in
          let one = assignment.fits.tests in
          let Given = IsAssigned world block env records opened laws calls one value in
          let inner = calls_in later in
          from-held world block visible store (AndLeft world inner visible store Given) Any_value (value_of value env) (tested-store place assignment.fits)
          (noted_where Growths value) (walked-store reach)
          (sound-left world inner block visible store Given (value_of value env) (noted_where Growths value)
          (assigned-sound world block env records opened laws calls value one value_well held_so begin)
          (λ context state s t v unbroken part.
          piece-leaves world inner block visible (IsHeld one) (value_of value env) (value_walk value)
          (value-sound world block env records opened laws calls value one value_well held_so begin)
          (λ own rounds listed. expression-alike own rounds value (one-listed own rounds (piece_of value).calls listed)) context state s t v
          (sym (noted-breaks Growths value context state) ∙ unbroken) (assigned-part world value context state part)))
          (λ valued v s t is from (given, left) numbers.
          let inside = given.held in
          test-sound t.store
          (λ context goes.
          reached-then context world block env store t.store target_origin target_selectors reach place later goes
          (λ quiet. expression-kept value (alone-quiet value quiet) env s t v is ∙ from) left leads) valued v inside.0 inside.1
          (λ version. forms-tell (ordinal_in world) version value env s t v is numbers) (given.steps (root_of target_origin) numbers))

  pub assignment-sound : (assignment : Assignment) → stmt_is_well_formed outline block (Assign assignment) ≡ true
      → statement_held (Assign assignment) ≡ true → statement_begins (Assign assignment) records ≡ true
      → SoundAction world block visible (assigned assignment) (walk.assignment_walk assignment)
  assignment-sound assignment well taken begin =
      let target = assignment.target in
      let origin = origin_of target in
      let selectors = target.selectors.items in
      let indexes = assignment.indexes.items in
      let fits = assignment.fits in
      let value = assignment.value in
      let n = length indexes in
      let is_test = fits_target outline block fits origin selectors in
      let there = leads_to_scalar outline block origin selectors n in
      let one = and_parts (are_well_formed outline block indexes) (there && (well_expr value && is_test)) well in
      let two = and_parts there (well_expr value && is_test) one.1 in
      let three = and_parts (well_expr value) is_test two.1 in
      let four = and_parts (is_well_formed_test outline block fits) (has_type world fits origin selectors) three.1 in
      let kinds = and_parts (are_ordinal_indexes indexes) (is_held fits.tests (held_by value)) taken in
      let begun = and_parts (accesses_begin target indexes records) (begins value records) begin in
      let wanted = is_scalar (types_in world) in
      let seen = leads-seen outline block wanted origin selectors n two.0 in
      let below = site-within world block fits four.0 in
      let leads = LeadsTo world block env origin selectors in
      let action = accessed target (values_of indexes) env in
      let next = λ (place : Option StorePlace). effect.◌>>=◌ (value_of value env) (tested-store place fits) in
      let walking = flow.access_walk target (flow.index_pieces indexes) in
      let walk_next = walked-value assignment three.0 four.1 seen below kinds.1 begun.1 in
      sound-anywhere {A = Unit {0}} {B = Unit {0}} world block visible Any_value (effect.◌>>=◌ action next) (flow.◌>>=◌ walking walk_next)
      (λ store.
      from-then {C = Unit {0}} {D = Unit {0}} world block visible store leads Any_value action next walking walk_next
      (sound-here world block visible store leads action walking
      (access-sound world block env records opened laws calls target indexes wanted one.0 two.0 kinds.0 begun.0))
      (λ reach place s t is from led. from-value assignment three.0 four.1 seen below kinds.1 begun.1 reach place t.store led))
