-- Statements leave what their block doesn't list as it was, where their walk breaks no rule; a control variable, which becomes
-- undefined, is one of the block's own.
use Rattle.std.specs.Prelude.{if◌then◌else◌, nat_lt, slice_get}
use Rattle.std.specs.List.{list_all}
use Rattle.std.proofs.Common.{◌≡◌, ℕ, ℤ, List, [], ◌∷◌, ◌++◌, Bool, true, false, ◌&&◌, ◌||◌, Option, Some, None}
use Rattle.std.proofs.Common.{Vec, Global, drop, map, nat_eq, length}
use Rattle.std.proofs.Common.{refl, sym, ap, ◌∙◌, subst}
use Rattle.std.proofs.lemmas.Bool.{and_from, and_parts}
use Rattle.place.specs.declared.Place.{Place as SourcePlace}
use Rattle.types.specs.Components.{components_of}
use Rattle.typed_tree.specs.declared.tree.Tree.{Tree}
use Rattle.typed_tree.specs.declared.tree.Access.{Access}
use Rattle.typed_tree.specs.declared.tree.Assignment.{Assignment}
use Rattle.typed_tree.specs.declared.tree.CaseHead.{CaseHead}
use Rattle.typed_tree.specs.declared.tree.Copying.{Copying}
use Rattle.typed_tree.specs.declared.tree.ForHead.{ForHead}
use Rattle.typed_tree.specs.declared.tree.RangeTest.{RangeTest}
use Rattle.typed_tree.specs.declared.tree.ReadVariable.{ReadVariable}
use Rattle.typed_tree.specs.declared.tree.Selector.{Selector}
use Rattle.typed_tree.specs.declared.tree.Variable.{Variable as DeclaredVariable}
use Rattle.typed_tree.specs.declared.tree.WithRecord.{WithRecord}
use Rattle.typed_tree.specs.declared.tree.WriteParameter.{WriteParameter}
use Rattle.typed_tree.specs.declared.tree.Expr.{Expr}
use Rattle.typed_tree.specs.declared.tree.Stmt.{Stmt}
use Rattle.typed_tree.specs.declared.tree.Stmt.TheOpen.{Stmt-F}
use Rattle.typed_tree.specs.declared.tree.Stmt.TheOpen.Stmt-F.{Empty, Assign, Copy, Write, Compound, If, While, Repeat, For, Case, Call as Calling, With, Read}
use Rattle.typed_tree.specs.declared.tree.Stmt.TheFolds.{map-Stmt, fold-roll-Stmt, ind-Stmt}
use Rattle.typed_tree.specs.declared.tree.Stmt.TheViews.{roll-Stmt}
use Rattle.typed_tree.specs.Accesses.{Origin, AtVariable, origin_of, root_of}
use Rattle.typed_tree.specs.Records.{Begin, OpenRecord, accesses_begin, all_begin, begins, begins_in, is_there, opened_by, parameter_begins, statement_begins}
use Rattle.typed_tree.specs.Records.{read_begins, value_begins, with_begins}
use Rattle.typed_tree.specs.WellFormed.{all_hold, are_whole, is_control, is_local_kind, is_result_kind, is_well_formed_expr, is_well_formed_stmt}
use Rattle.typed_tree.specs.WellFormed.{fits_target, is_well_formed_record, leads_to_ordinal, of_one, outline_of, stmt_is_well_formed}
use Rattle.meaning.specs.declared.outcome.Ending.TheVariants as ending
use Rattle.meaning.specs.declared.value.Value.TheVariants.{Number}
use Rattle.meaning.specs.Kinds.{LieOpen}
use Rattle.meaning.specs.Store.{Place}
use Rattle.meaning.specs.Counting.{has_values, value_behind, values_before}
use Rattle.meaning.specs.Effect.{Action, give, is_in, number_of}
use Rattle.meaning.specs.Effect as effect
use Rattle.meaning.specs.Meaning.{Calls, Execution, Surroundings, accessed, effect_of, effect_step, parameter_of, value_of, values_of, whole_of}
use Rattle.meaning.specs.Meaning as meaning
use Rattle.checker_rows.specs.Limits.{limits_of}
use Rattle.checker_rows.specs.Rows.{is_ordinal_variable}
use Rattle.checker_state.specs.Conditions.{bound_form}
use Rattle.checker_state.specs.Values.{known_range}
use Rattle.checker_state.specs.Loops.{with_undefined}
use Rattle.checker_state.specs.declared.value.Known.{Known}
use Rattle.checker_state.specs.Bounds.{Bound}
use Rattle.domain.specs.Interval.{Interval}
use Rattle.checker_state.specs.Stores.{Reach}
use Rattle.checker_state.specs.State.{State}
use Rattle.checker_loops.specs.Cases.{arm_start, constants_before}
use Rattle.checker_loops.specs.Loops.{claims_at, round_of, with_own}
use Rattle.checker_loops.specs.Ways.{Way, way_of, way_out, where_counts}
use Rattle.checker_loops.specs.Sections.{BlockClaims}
use Rattle.checker_loops.specs.Starts.{is_own}
use Rattle.checker_expressions.specs.declared.fault.Rule.TheVariants.{Changes, LoopEntry, LoopTurn}
use Rattle.checker_expressions.specs.Walk.{Context, Valued, Walking, may_change, value_walk}
use Rattle.checker_expressions.specs.Walk as flow
use Rattle.checker_state.specs.Growths.{without_turns}
use Rattle.domain.specs.declared.versions.Extension.TheVariants.{Growths, Sides}
use Rattle.checker_loops.specs.Loops.{claims_at}
use Rattle.checker_expressions.specs.declared.noting.Noted.{Noted}
use Rattle.cert_checker.specs.Steps.{noted_where, value_step}
use Rattle.cert_checker.proofs.AssignedValues.{noted-yields}
use Rattle.cert_checker.specs.Walk.{Stores, assign, assign_to, is_whole_variable, statement_step, statement_walk, store_to, stores_made}
use Rattle.cert_checker.specs.Walk as walk
use Rattle.checker_expressions.proofs.EffectsKept.{CanGive, IsOwn, Keeps, MayWriteTo, Standing, own-write, under-write, keeps-enter, keeps-give}
use Rattle.checker_expressions.proofs.EffectsKept.{keeps-turned, turned}
use Rattle.checker_expressions.proofs.EffectsKept.{keeps-line_ended, keeps-line_passed, keeps-looped, keeps-read_as, keeps-require, keeps-stop}
use Rattle.checker_expressions.proofs.EffectsKept.{keeps-store, keeps-store_all, keeps-then, keeps-turn, keeps-undefine, keeps-unless_outside, keeps-when}
use Rattle.checker_expressions.proofs.EffectsCalls.{CallsLeave, DeclareTheirs, Grounds, StandsIn, Yields, grounds-turned, may-here, yields-asked, yields-then}
use Rattle.checker_expressions.proofs.Effects.{access-kept, call-kept, parameter-kept, under-accessed, value-kept, whole-kept}
use Rattle.cert_checker.proofs.OpenedBehind.{all-opened, behind, one-opened, with-begun, with-parts}

-- ---- what the walk of a statement tells of those in it

-- the rule of changes, of stores to components and of assignments
may-change : (context : Context) (place : SourcePlace) (root : ℕ) → Yields context (walk.change place root) tt → may_change context root ≡ true
may-change context place root yields =
    yields-asked context (may_change context root) Changes place tt
    (record { state = yields.state; unbroken = yields.unbroken; value_is = yields.value_is })

may-store : (context : Context) (place : SourcePlace) (root : ℕ) (reach : Reach) (stores : Stores) → Yields context (store_to place root reach stores) tt
    → may_change context root ≡ true
may-store context place root reach stores yields =
    may-change context place root (yields-then context (walk.change place root) (λ _. stores_made root reach stores) tt yields).1

may-assign : (context : Context) (place : SourcePlace) (origin : Origin) (selectors : List Selector) (reach : Reach) (form : Option Bound)
    (step : Option Interval)
    (range : Interval) → Yields context (assign_to place origin selectors reach form step range) tt → may_change context (root_of origin) ≡ true
may-assign context place origin selectors reach form step range yields = by (is_whole_variable origin selectors) yields
  where
    by : (whole : Bool)
        → Yields context (if whole then walk.assign_entire place (root_of origin) form step range
        else walk.assign_component place origin selectors reach range) tt
        → may_change context (root_of origin) ≡ true
    by true yields =
        may-change context place (root_of origin) (yields-then context (walk.change place (root_of origin)) (λ _. assign (root_of origin) form step range) tt
        yields).1
    by false yields =
        may-store context place (root_of origin) reach (walk.alike range (walk.target_rows context origin selectors))
        (record { state = yields.state; unbroken = yields.unbroken; value_is = yields.value_is })

may-copy : (context : Context) (place : SourcePlace) (origin : Origin) (selectors : List Selector) (reach : Reach) (ranges : List Interval)
    → Yields context (walk.copy_to place origin selectors reach ranges) tt → may_change context (root_of origin) ≡ true
may-copy context place origin selectors reach ranges yields =
    may-store context place (root_of origin) reach (walk.paired (walk.target_rows context origin selectors) ranges)
    (record { state = yields.state; unbroken = yields.unbroken; value_is = yields.value_is })

-- both ways break no rule
yields-parted : (context : Context) (one_state other_state : State → State) (one other : Walking (Unit {0}))
    → Yields context (walk.parted one_state other_state one other) tt → Yields context one tt × Yields context other tt
yields-parted context one_state other_state one other yields =
    let first = one context (one_state yields.state) in
    let second = other context (other_state yields.state) in
    let both = yields-then context (λ around state. first) (λ _ around state. second) tt
    (record { state = yields.state; unbroken = yields.unbroken; value_is = refl }) in (
      record { state = one_state yields.state; unbroken = both.1.unbroken; value_is = refl },
      record { state = other_state yields.state; unbroken = both.2.unbroken; value_is = refl },
    )

-- a round of a loop is walked in a context of the same block
record RoundYields (tree : Tree) (blocks : List BlockClaims) (block : ℕ) (walking : Walking State) : Type 0 where
  inner : Context
  stands : StandsIn tree blocks block inner
  behind : State
  yields : Yields inner walking behind

yields-round : (tree : Tree) (blocks : List BlockClaims) (block : ℕ) (context : Context) → StandsIn tree blocks block context
    → (number : ℕ) (place : SourcePlace) (control : Option ℕ) (walking : Walking State) → Yields context (walk.loop_walk number place control walking) tt
    → RoundYields tree blocks block walking
yields-round tree blocks block context stands number place control walking yields =
    let loop = round_of context.tree context.pairs context.claims number in
    let facts = (claims_at context.claims number).facts in
    let round = loop in
    let end = λ (behind : State). flow.◌>>=◌ (walk.facts_given LoopTurn place facts) (λ _. flow.with_state behind) in
    let one = yields-then context (walk.facts_given LoopEntry place facts)
    (λ _. flow.◌>>=◌ (walk.enter_head (with_own control loop) facts) (λ _. flow.◌>>=◌ (walk.inside round walking) end)) tt
    (record { state = yields.state; unbroken = yields.unbroken; value_is = yields.value_is }) in
    let two = yields-then context (walk.enter_head (with_own control loop) facts) (λ _. flow.◌>>=◌ (walk.inside round walking) end) tt one.2 in
    let three = yields-then context (walk.inside round walking) end tt two.2 in
    record {
      inner = record context { rounds = context.rounds ++ round ∷ [] };
      stands = record { tree_is = stands.tree_is; blocks_are = stands.blocks_are; block_is = stands.block_is };
      behind = three.0;
      yields = record { state = three.1.state; unbroken = three.1.unbroken; value_is = three.1.value_is };
    }

module _ (tree : Tree) (blocks : List BlockClaims) (declares : DeclareTheirs tree) (block : ℕ) (base : Standing)
    (ground : Grounds tree blocks block base) (calls : Calls) (leave : CallsLeave tree blocks calls) where
  abbrev In : Context → Type 0
  In = StandsIn tree blocks block

  abbrev well_stmt : Stmt → Bool
  well_stmt = is_well_formed_stmt (outline_of tree) block

  abbrev well_expr : Expr → Bool
  well_expr = is_well_formed_expr (outline_of tree) block

  declared-local : (found : Option DeclaredVariable)
      → of_one (λ variable. nat_eq variable.block block && is_local_kind variable.kind) found ≡ true
      → (variable : DeclaredVariable) × (found ≡ Some variable) × (is_own block variable ≡ true)
  declared-local None is = absurd (cc)
  declared-local (Some variable) is =
      let parts = and_parts (nat_eq variable.block block) (is_local_kind variable.kind) is in (
        variable,
        refl,
        and_from (nat_eq variable.block block) (is_local_kind variable.kind || is_result_kind variable.kind) parts.0
            (ap (λ (local : Bool). local || is_result_kind variable.kind) parts.1),
      )

  -- ---- statements

  -- wherever records are open, and whatever turns are finished
  abbrev around : List ℕ → List (Option Place) → Surroundings
  around turns places = record { visible = (turned base turns).visible; records = places; calls = calls }

  abbrev IsKeptStmt : Stmt → Type 0
  IsKeptStmt s =
      (turns : List ℕ) (opened : List OpenRecord) (places : List (Option Place)) → LieOpen base.visible opened places → well_stmt s ≡ true
      → begins_in s opened ≡ true → (context : Context) → In context → Yields context (statement_walk s) tt
      → Keeps (turned base turns) (effect_of s (around turns places))

  abbrev KeptStmt : Type 0
  KeptStmt = (s : Stmt) × IsKeptStmt s

  abbrev bodies : List KeptStmt → List Stmt
  bodies statements = map (λ s. s.0) statements

  abbrev bare : Stmt-F KeptStmt → Stmt-F Stmt
  bare = map-Stmt KeptStmt Stmt (λ s. s.0)

  module _ (turns : List ℕ) where
    abbrev at : Standing
    at = turned base turns

    grounds : Grounds tree blocks block at
    grounds = grounds-turned tree blocks block base turns ground

    -- one of two actions
    keeps-chosen : (b : Bool) (one other : Action (Unit {0})) → Keeps at one → Keeps at other → Keeps at (if b then one else other)
    keeps-chosen true one other first second = first
    keeps-chosen false one other first second = second

    keeps-turn_if : (so : Bool) (body : Action (Unit {0})) → Keeps at body → Keeps at (meaning.turn_if so body)
    keeps-turn_if false body kept = keeps-give at None
    keeps-turn_if true body kept = keeps-then at _ _ (keeps-turn at) (λ _. keeps-then at _ _ kept (λ _. keeps-give at (Some tt)))

    -- a control variable lies in the activation
    control-own : (control : ℕ) → is_control (outline_of tree) block control ≡ true → IsOwn at (at.visible.variables control)
    control-own control is place seen =
        let declared = of_one (λ (variable : DeclaredVariable). nat_eq variable.block block && is_local_kind variable.kind)
        (slice_get tree.variables.items control) in
        let local = (and_parts declared (leads_to_ordinal (outline_of tree) block (AtVariable control) [] 0) is).0 in
        let (variable, found, own) = declared-local (slice_get tree.variables.items control) local in
        grounds.own control variable place found own seen

    -- the records of a with are accessed
    records-kept : (list : List WithRecord) (opened : List OpenRecord) (places : List (Option Place)) → LieOpen at.visible opened places
        → all_hold (map (is_well_formed_record (outline_of tree) block) list) ≡ true → (body : Begin) → with_begins list body opened ≡ true
        → (context : Context) → In context → Yields context (walk.all_of (map walk.record_walk list)) tt → Keeps at (meaning.opened list (around turns places))
    records-kept [] opened places lie well body begin context stands yields = keeps-give at places
    records-kept (one ∷ others) opened places lie well body begin context stands yields =
        let access = one.access in
        let indexes = one.indexes.items in
        let parts = and_parts (is_well_formed_record (outline_of tree) block one)
        (all_hold (map (is_well_formed_record (outline_of tree) block) others)) well in
        let there = with-parts one others body opened begin in
        let both = yields-then context (walk.record_walk one) (λ _. walk.all_of (map walk.record_walk others)) tt yields in
        let own = yields-then context (flow.access_walk access (flow.index_pieces indexes)) (λ _. flow.give tt) both.0 both.1 in
        keeps-when at _ _ (access-kept tree blocks declares block at grounds calls leave opened places lie access indexes context own.0 stands there.indexes
        own.1)
        (λ place given.
        records-kept others (opened ++ opened_by access ∷ []) (places ++ place ∷ [])
        (one-opened at.visible calls (outline_of tree) block one opened places lie parts.0 there.there place given) parts.1 body there.later context stands
        both.2)

    module _ (opened : List OpenRecord) (places : List (Option Place)) (lie : LieOpen at.visible opened places) where
      abbrev here : Surroundings
      here = around turns places

      keeps-value : (e : Expr) (context : Context) (known : Known) → In context → begins e opened ≡ true → Yields context (value_walk e) known
          → Keeps at (value_of e here)
      keeps-value = value-kept tree blocks declares block at grounds calls leave opened places lie

      -- what is accessed may be written, where its variable may be changed
      write-accessed : (target : Access) (indexes : List Expr) (context : Context) → In context → may_change context (root_of (origin_of target)) ≡ true
          → is_there opened (origin_of target) ≡ true → (found : Option Place) → CanGive (accessed target (values_of indexes) here) found
          → MayWriteTo at found
      write-accessed target indexes context stands may there found given =
          under-write at (root_of (origin_of target)) found (may-here tree blocks block at grounds context stands (root_of (origin_of target)) may)
          (under-accessed at.visible places calls opened lie target there (values_of indexes) found given)

      -- a statement here
      abbrev KeptHere : Bool → Begin → Walking (Unit {0}) → Execution → Type 0
      KeptHere well begin walking execution =
          well ≡ true → begin opened ≡ true → (context : Context) → In context → Yields context walking tt → Keeps at (execution here)

      one-kept : (statement : KeptStmt) → KeptHere (well_stmt statement.0) (begins_in statement.0) (statement_walk statement.0) (effect_of statement.0)
      one-kept statement = statement.1 turns opened places lie

      -- in a turn of a for
      one-turn : (statement : KeptStmt) (head : ForHead) (first n : ℤ) → well_stmt statement.0 ≡ true → begins_in statement.0 opened ≡ true
          → (context : Context) → In context → Yields context (statement_walk statement.0) tt
          → Keeps at (effect_of statement.0 (meaning.for_turn head first here n))
      one-turn statement head first n well begin context stands yields =
          let inner = turns ++ values_before head.direction first n ∷ [] in
          keeps-turned base turns inner (effect_of statement.0 (around inner places))
          (statement.1 inner opened places lie well begin context stands yields)

      keeps-all : (statements : List KeptStmt)
          → KeptHere (all_hold (map well_stmt (bodies statements))) (all_begin (map begins_in (bodies statements)))
          (walk.all_of (map statement_walk (bodies statements))) (meaning.all_of (map effect_of (bodies statements)))
      keeps-all [] well begin context stands yields = keeps-give at tt
      keeps-all (statement ∷ statements) well begin context stands yields =
          let parts = and_parts (well_stmt statement.0) (all_hold (map well_stmt (bodies statements))) well in
          let there = and_parts (begins_in statement.0 opened) (all_begin (map begins_in (bodies statements)) opened) begin in
          let one = yields-then context (statement_walk statement.0) (λ _. walk.all_of (map statement_walk (bodies statements))) tt yields in
          keeps-then at _ _ (one-kept statement parts.0 there.0 context stands one.1) (λ _. keeps-all statements parts.1 there.1 context stands one.2)

      keeps-parameters : (parameters : List WriteParameter) (context : Context) → In context → all_begin (map parameter_begins parameters) opened ≡ true
          → Yields context (walk.all_of (map flow.parameter_walk parameters)) tt → Keeps at (meaning.all_of (map parameter_of parameters) here)
      keeps-parameters [] context stands begin yields = keeps-give at tt
      keeps-parameters (parameter ∷ parameters) context stands begin yields =
          let there = and_parts (parameter_begins parameter opened) (all_begin (map parameter_begins parameters) opened) begin in
          let one = yields-then context (flow.parameter_walk parameter) (λ _. walk.all_of (map flow.parameter_walk parameters)) tt yields in
          keeps-then at _ _ (parameter-kept tree blocks declares block at grounds calls leave opened places lie parameter context stands there.0 one.1)
          (λ _. keeps-parameters parameters context stands there.1 one.2)

      keeps-read : (name : SourcePlace) (one : ReadVariable) (context : Context) → In context → read_begins one opened ≡ true
          → Yields context (walk.read_walk name one) tt → Keeps at (meaning.read_of one here)
      keeps-read name one context stands begin yields =
          let access = one.access in
          let indexes = one.indexes.items in
          let selectors = access.selectors.items in
          let own = and_parts (all_begin (map begins indexes) opened) (is_there opened (origin_of access)) begin in
          let both = yields-then context (flow.access_walk access (flow.index_pieces indexes)) (walk.read_value name one) tt yields in
          let may = may-assign context (walk.point_place context.tree one.point name) (origin_of access) selectors
          (walk.reach_stored context selectors [] both.0) None None (limits_of one.range)
          (record { state = both.2.state; unbroken = both.2.unbroken; value_is = both.2.value_is }) in
          keeps-when at _ _ (access-kept tree blocks declares block at grounds calls leave opened places lie access indexes context both.0 stands own.0 both.1)
          (λ place given. keeps-then at _ _ (keeps-read_as at one.reads one.point)
          (λ n. keeps-then at _ _ (keeps-unless_outside at one.range one.point n)
          (λ _. keeps-store at place (Number n) (write-accessed access indexes context stands may own.1 place given))))

      keeps-reads : (name : SourcePlace) (variables : List ReadVariable) (context : Context) → In context → all_begin (map read_begins variables) opened ≡ true
          → Yields context (walk.all_of (map (walk.read_walk name) variables)) tt → Keeps at (meaning.all_of (map meaning.read_of variables) here)
      keeps-reads name [] context stands begin yields = keeps-give at tt
      keeps-reads name (one ∷ others) context stands begin yields =
          let there = and_parts (read_begins one opened) (all_begin (map read_begins others) opened) begin in
          let both = yields-then context (walk.read_walk name one) (λ _. walk.all_of (map (walk.read_walk name) others)) tt yields in
          keeps-then at _ _ (keeps-read name one context stands there.0 both.1) (λ _. keeps-reads name others context stands there.1 both.2)

      keeps-assignment : (assignment : Assignment) (context : Context) → In context
          → (accesses_begin assignment.target assignment.indexes.items opened && begins assignment.value opened) ≡ true
          → Yields context (walk.assignment_walk assignment) tt
          → Keeps at (effect.◌>>=◌ (accessed assignment.target (values_of assignment.indexes.items) here)
          (λ place. effect.◌>>=◌ (value_of assignment.value here)
          (λ v. effect.◌>>=◌ (effect.require (is_in assignment.fits.range v) assignment.fits.site) (λ _. effect.store place v))))
      keeps-assignment assignment context stands begin yields =
          let target = assignment.target in
          let indexes = assignment.indexes.items in
          let fits = assignment.fits in
          let value = assignment.value in
          let held = λ (own : Context) (reach : Reach). walk.reach_stored own target.selectors.items (flow.piece_of value ∷ []) reach in
          let assigned = λ (reach : Reach) (notes : List Noted) (passed : Known) (own : Context).
          walk.assign_value assignment (held own reach) notes passed own in
          let there = and_parts (accesses_begin target indexes opened) (begins value opened) begin in
          let own = and_parts (all_begin (map begins indexes) opened) (is_there opened (origin_of target)) there.0 in
          let one = yields-then context (flow.access_walk target (flow.index_pieces indexes))
          (λ reach. flow.◌>>=◌ (noted_where Growths value) (λ told. flow.◌>>=◌ (flow.fitting fits told.known) (assigned reach told.noted))) tt yields in
          let two = yields-then context (noted_where Growths value) (λ told. flow.◌>>=◌ (flow.fitting fits told.known) (assigned one.0 told.noted)) tt one.2 in
          let three = yields-then context (flow.fitting fits two.0.known) (assigned one.0 two.0.noted) tt two.2 in
          let may = may-assign context assignment.becomes (origin_of target) target.selectors.items (held context one.0)
          (bound_form (is_ordinal_variable context.tree) context.version value) (value_step context.tree (root_of (origin_of target)) value two.0.noted)
          (known_range three.0)
          (record { state = three.2.state; unbroken = three.2.unbroken; value_is = three.2.value_is }) in
          keeps-when at _ _ (access-kept tree blocks declares block at grounds calls leave opened places lie target indexes context one.0 stands own.0 one.1)
          (λ place given. keeps-then at _ _ (keeps-value value context two.0.known stands there.1 (noted-yields Growths value context two.0 two.1))
          (λ v. keeps-then at _ _ (keeps-require at (is_in fits.range v) fits.site)
          (λ _. keeps-store at place v (write-accessed target indexes context stands may own.1 place given))))

      keeps-copying : (copying : Copying) (context : Context) → In context
          → (accesses_begin copying.target copying.indexes.items opened && value_begins copying.value copying.value_indexes.items opened) ≡ true
          → Yields context (walk.copying_walk copying) tt
          → Keeps at (effect.◌>>=◌ (accessed copying.target (values_of copying.indexes.items) here)
          (λ place. effect.◌>>=◌ (whole_of copying.value (values_of copying.value_indexes.items) here)
          (λ values. effect.store_all place (components_of at.visible.types copying.type_id) values)))
      keeps-copying copying context stands begin yields =
          let target = copying.target in
          let indexes = copying.indexes.items in
          let value = copying.value in
          let value_indexes = copying.value_indexes.items in
          let held = λ (own : Context) (reach : Reach). walk.reach_stored own target.selectors.items (flow.index_pieces value_indexes) reach in
          let copied = λ (reach : Reach) (ranges : List Interval) (own : Context).
          walk.copy_to copying.becomes (origin_of target) target.selectors.items (held own reach) ranges own in
          let there = and_parts (accesses_begin target indexes opened) (value_begins value value_indexes opened) begin in
          let own = and_parts (all_begin (map begins indexes) opened) (is_there opened (origin_of target)) there.0 in
          let one = yields-then context (flow.access_walk target (flow.index_pieces indexes))
          (λ reach. flow.◌>>=◌ (flow.whole_walk value (flow.index_pieces value_indexes)) (copied reach)) tt yields in
          let two = yields-then context (flow.whole_walk value (flow.index_pieces value_indexes)) (copied one.0) tt one.2 in
          let may = may-copy context copying.becomes (origin_of target) target.selectors.items (held context one.0) two.0
          (record { state = two.2.state; unbroken = two.2.unbroken; value_is = two.2.value_is }) in
          keeps-when at _ _ (access-kept tree blocks declares block at grounds calls leave opened places lie target indexes context one.0 stands own.0 one.1)
          (λ place given. keeps-then at _ _ (whole-kept tree blocks declares block at grounds calls leave opened places lie value value_indexes context two.0
          stands there.1
          two.1)
          (λ values. keeps-store_all at place (components_of at.visible.types copying.type_id) values
          (write-accessed target indexes context stands may own.1 place given)))

      -- ---- loops

      keeps-while : (own : Tree) (condition : Expr) → begins condition opened ≡ true → (execution : Execution) (walking : Walking (Unit {0}))
          → ((context : Context) → In context → Yields context walking tt → Keeps at (execution here)) → (number : ℕ) (place : SourcePlace)
          (context : Context) → In context → Yields context (walk.loop_walk number place None (walk.while_round own condition walking)) tt
          → Keeps at (effect.looped (meaning.while_round (value_of condition) execution here) tt)
      keeps-while own condition begin execution walking kept number place context stands yields =
          let round = yields-round tree blocks block context stands number place None (walk.while_round own condition walking) yields in
          let end = λ (known : Valued) (tested : State) (_ : Unit {0}). flow.give (walk.where_so own false condition known tested) in
          let from_tested = λ (known : Valued) (tested : State).
          flow.◌>>=◌ (flow.with_state (walk.where_so own true condition known tested)) (λ _. flow.◌>>=◌ walking (end known tested)) in
          let one = yields-then round.inner (walk.condition_walk condition) (λ known. flow.◌>>=◌ walk.here (from_tested known)) round.behind round.yields in
          let two = yields-then round.inner walk.here (from_tested one.0) round.behind one.2 in
          let three = yields-then round.inner (flow.with_state (walk.where_so own true condition one.0 two.0))
          (λ _. flow.◌>>=◌ walking (end one.0 two.0)) round.behind two.2 in
          let four = yields-then round.inner walking (end one.0 two.0) round.behind three.2 in
          let body = kept round.inner round.stands four.1 in
          keeps-looped at (meaning.while_round (value_of condition) execution here)
          (λ start. keeps-then at _ _ (keeps-value condition round.inner one.0.known round.stands begin (noted-yields Sides condition round.inner one.0 one.1))
          (λ v. keeps-turn_if (meaning.is_so v) (execution here) body)) tt

      keeps-repeat : (own : Tree) (condition : Expr) → begins condition opened ≡ true → (execution : Execution) (walking : Walking (Unit {0}))
          → ((context : Context) → In context → Yields context walking tt → Keeps at (execution here)) → (number : ℕ) (place : SourcePlace)
          (context : Context) → In context → Yields context (walk.loop_walk number place None (walk.repeat_round own walking condition)) tt
          → Keeps at (effect.looped (meaning.repeat_round execution (value_of condition) here) tt)
      keeps-repeat own condition begin execution walking kept number place context stands yields =
          let round = yields-round tree blocks block context stands number place None (walk.repeat_round own walking condition) yields in
          let from_tested = λ (known : Valued) (tested : State).
          flow.◌>>=◌ (flow.with_state (walk.where_so own false condition known tested)) (λ _. flow.give (walk.where_so own true condition known tested)) in
          let from_known = λ (known : Valued). flow.◌>>=◌ walk.here (from_tested known) in
          let one = yields-then round.inner walking (λ _. flow.◌>>=◌ (walk.condition_walk condition) from_known) round.behind round.yields in
          let two = yields-then round.inner (walk.condition_walk condition) from_known round.behind one.2 in
          let body = kept round.inner round.stands one.1 in
          keeps-looped at (meaning.repeat_round execution (value_of condition) here)
          (λ start. keeps-then at _ _ (keeps-turn at)
          (λ _. keeps-then at _ _ body
          (λ _. keeps-then at _ _ (keeps-value condition round.inner two.0.known round.stands begin (noted-yields Sides condition round.inner two.0 two.1))
          (λ v. keeps-give at (if meaning.is_so v then None else Some tt))))) tt

      -- ---- for statements

      keeps-between : (head : ForHead) (execution : Execution) → IsOwn at (at.visible.variables head.control)
          → ((first n : ℤ) → Keeps at (execution (meaning.for_turn head first here n))) → (first last : ℤ)
          → Keeps at (meaning.for_between head execution here first last)
      keeps-between head execution own kept first last =
          let found = at.visible.variables head.control in
          let first_fits = head.first.fits in
          let last_fits = head.last.fits in
          let behind = value_behind head.direction last in
          let round = λ (n : ℤ). keeps-then at (effect.store found (Number n))
          (λ _. effect.◌>>=◌ effect.use_turn (λ _. effect.◌>>=◌ (execution (meaning.for_turn head first here n)) (λ _. give (behind n))))
          (keeps-store at found (Number n) (own-write at found own))
          (λ _. keeps-then at _ _ (keeps-turn at) (λ _. keeps-then at _ _ (kept first n) (λ _. keeps-give at (behind n)))) in
          let rounds : Keeps at (meaning.for_rounds head execution here first last) =
          keeps-then at _ _ (keeps-require at (is_in first_fits.range (Number first)) first_fits.site)
          (λ _. keeps-then at _ _ (keeps-require at (is_in last_fits.range (Number last)) last_fits.site)
          (λ _. keeps-looped at (meaning.for_round head first last execution here) round first)) in
          keeps-chosen (has_values head.direction first last) (meaning.for_rounds head execution here first last) (give tt) rounds (keeps-give at tt)

      kept-turns : (head : ForHead) (way : Way) (action : Action (Unit {0})) (walking : Walking (Unit {0}))
          → ((context : Context) → In context → Yields context walking tt → Keeps at action) → (context : Context) → In context
          → Yields context (walk.for_walk head walking way) tt → Keeps at action
      kept-turns head way action walking kept context stands yields =
          let ways = walk.parted (where_counts true way) (where_counts false way)
          (walk.for_turns head walking way) (flow.give tt) in
          let one = yields-then context ways (λ _. flow.changed_by (with_undefined way.control)) tt yields in
          let turns = (yields-parted context (where_counts true way) (where_counts false way)
          (walk.for_turns head walking way) (flow.give tt) one.1).0 in
          let begun = walk.begin_way in
          let two = yields-then context (walk.tested_way way)
          (λ tested. flow.◌>>=◌ (begun tested) (λ _. walk.rounds_of head walking tested)) tt turns in
          let three = yields-then context (begun two.0) (λ _. walk.rounds_of head walking two.0) tt two.2 in
          let steady = walk.steady_in context head.loop_number two.0 in
          let turns_by = walk.turns_in context head.loop_number two.0 in
          let facts = (claims_at context.claims head.loop_number).facts in
          let for_round = walk.for_round turns_by head.place facts steady walking in
          let entry = yields-then context (walk.growths_entered head.place facts)
          (λ _. walk.loop_walk head.loop_number head.place (Some two.0.control) for_round) tt
          (record { state = three.2.state; unbroken = three.2.unbroken; value_is = three.2.value_is }) in
          let round = yields-round tree blocks block context stands head.loop_number head.place (Some two.0.control) for_round entry.2 in
          let end = λ (ended : State). flow.◌>>=◌ (walk.turn_to turns_by head.place facts steady)
          (λ _. flow.give (way_out steady (without_turns turns_by.depth ended))) in
          let four = yields-then round.inner (walk.turn_from turns_by facts steady)
          (λ _. flow.◌>>=◌ walking (λ _. flow.◌>>=◌ walk.here end)) round.behind round.yields in
          let five = yields-then round.inner walking (λ _. flow.◌>>=◌ walk.here end) round.behind four.2 in
          kept round.inner round.stands five.1

      keeps-for : (head : ForHead) (execution : Execution) (walking : Walking (Unit {0}))
          → ((first n : ℤ) (context : Context) → In context → Yields context walking tt → Keeps at (execution (meaning.for_turn head first here n)))
          → IsOwn at (at.visible.variables head.control)
          → begins head.first.value opened ≡ true → begins head.last.value opened ≡ true → (context : Context) → In context
          → Yields context (flow.◌>>=◌ (value_walk head.first.value) (λ from. flow.◌>>=◌ (value_walk head.last.value) (λ to own.
          walk.for_walk head walking (way_of (is_ordinal_variable own.tree) own.version head from to) own))) tt
          → Keeps at (effect.◌>>=◌ (value_of head.first.value here) (λ a. effect.◌>>=◌ (value_of head.last.value here)
          (λ b. effect.◌>>=◌ (meaning.for_between head execution here (number_of a) (number_of b))
          (λ _. effect.undefine (at.visible.variables head.control)))))
      keeps-for head execution walking kept own first_begin last_begin context stands yields =
          let first = head.first.value in
          let last = head.last.value in
          let whole = λ (from to : Known) (c : Context). walk.for_walk head walking (way_of (is_ordinal_variable c.tree) c.version head from to) c in
          let one = yields-then context (value_walk first) (λ from. flow.◌>>=◌ (value_walk last) (whole from)) tt yields in
          let two = yields-then context (value_walk last) (whole one.0) tt one.2 in
          let body = λ (from n : ℤ). kept-turns head (way_of (is_ordinal_variable context.tree) context.version head one.0 two.0)
          (execution (meaning.for_turn head from here n)) walking (kept from n) context stands
          (record { state = two.2.state; unbroken = two.2.unbroken; value_is = two.2.value_is }) in
          keeps-then at _ _ (keeps-value first context one.0 stands first_begin one.1)
          (λ a. keeps-then at _ _ (keeps-value last context two.0 stands last_begin two.1)
          (λ b. keeps-then at _ _ (keeps-between head execution own body (number_of a) (number_of b))
          (λ _. keeps-undefine at (at.visible.variables head.control) own)))

      -- ---- case statements

      keeps-arm : (site : ℕ) (base : State) (index : Option ℕ) (walk_rows rows : List (Vec ℤ Global)) (arms : List KeptStmt) (n : ℤ)
          → all_hold (map well_stmt (bodies arms)) ≡ true → all_begin (map begins_in (bodies arms)) opened ≡ true → (context : Context) → In context
          → Yields context (walk.arms_walk base index walk_rows (map statement_walk (bodies arms))) tt
          → Keeps at (meaning.arm_of site rows (map effect_of (bodies arms)) n here)
      keeps-arm site base index walk_rows [] arms n well begin context stands yields = keeps-stop at (Unit {0}) (ending.Error site)
      keeps-arm site base index walk_rows (row ∷ rows) [] n well begin context stands yields = keeps-stop at (Unit {0}) (ending.Error site)
      keeps-arm site base index walk_rows (row ∷ rows) (arm ∷ arms) n well begin context stands yields =
          let there = and_parts (begins_in arm.0 opened) (all_begin (map begins_in (bodies arms)) opened) begin in
          let parts = and_parts (well_stmt arm.0) (all_hold (map well_stmt (bodies arms))) well in
          let start = arm_start index (slice_get walk_rows 0) base in
          let others = walk.arms_walk base index (drop 1 walk_rows) (map statement_walk (bodies arms)) in
          let one = yields-then context (walk.arm_walk start (statement_walk arm.0)) (λ _. others) tt yields in
          let first = one-kept arm parts.0 there.0 context stands (record { state = start; unbroken = one.1.unbroken; value_is = refl }) in
          keeps-chosen (meaning.is_among row.items n) (effect_of arm.0 here) (meaning.arm_of site rows (map effect_of (bodies arms)) n here) first
          (keeps-arm site base index (drop 1 walk_rows) rows arms n parts.1 there.1 context stands one.2)

      keeps-case : (own : Tree) (head : CaseHead) (arms : List KeptStmt) → all_hold (map well_stmt (bodies arms)) ≡ true
          → all_begin (map begins_in (bodies arms)) opened ≡ true
          → (context : Context) → In context → (known : Known) → Yields context (walk.case_walk own head (map statement_walk (bodies arms)) known) tt
          → (n : ℤ) → Keeps at (meaning.arm_of head.site head.constants.items (map effect_of (bodies arms)) n here)
      keeps-case own head arms well begin context stands known yields n =
          let rows = head.constants.items in
          let walked = map statement_walk (bodies arms) in
          let root = walk.index_root own head in
          let one = yields-then context (walk.index_test head.site (constants_before (length walked) rows) (known_range known))
          (λ base. walk.arms_walk base root rows walked) tt yields in
          keeps-arm head.site one.0 root rows rows arms n well begin context stands one.2

      -- ---- the forms

      abbrev LayerHere : Stmt-F Stmt → Type 0
      LayerHere x =
          KeptHere (stmt_is_well_formed (outline_of tree) block (map-Stmt Stmt Bool well_stmt x)) (statement_begins (map-Stmt Stmt Begin begins_in x))
          (statement_step (map-Stmt Stmt (Walking (Unit {0})) statement_walk x)) (effect_step (map-Stmt Stmt Execution effect_of x))

      layer : (y : Stmt-F KeptStmt) → LayerHere (bare y)
      layer (Empty number) well begin context stands yields = keeps-enter at number at.visible
      layer (Assign assignment) well begin context stands yields =
          let one = yields-then context (flow.enter assignment.number) (λ _. walk.assignment_walk assignment) tt yields in
          keeps-then at _ _ (keeps-enter at assignment.number at.visible) (λ _. keeps-assignment assignment context stands begin one.2)
      layer (Copy copying) well begin context stands yields =
          let one = yields-then context (flow.enter copying.number) (λ _. walk.copying_walk copying) tt yields in
          keeps-then at _ _ (keeps-enter at copying.number at.visible) (λ _. keeps-copying copying context stands begin one.2)
      layer (Write writing) well begin context stands yields =
          let one = yields-then context (flow.enter writing.number) (λ _. walk.all_of (map flow.parameter_walk writing.parameters.items)) tt yields in
          keeps-then at _ _ (keeps-enter at writing.number at.visible)
          (λ _. keeps-then at _ _ (keeps-parameters writing.parameters.items context stands begin one.2) (λ _. keeps-line_ended at writing.ends_line))
      layer (Read reading) well begin context stands yields =
          let variables = reading.variables.items in
          let one = yields-then context (flow.enter reading.number) (λ _. walk.all_of (map (walk.read_walk reading.name) variables)) tt yields in
          keeps-then at _ _ (keeps-enter at reading.number at.visible)
          (λ _. keeps-then at _ _ (keeps-reads reading.name variables context stands begin one.2) (λ _. keeps-line_passed at reading.line))
      layer (Calling calling) well begin context stands yields =
          keeps-then at _ _ (call-kept tree blocks declares block at grounds calls leave opened places lie calling.call calling.actuals.items context stands
          begin yields)
          (λ _. keeps-give at tt)
      layer (Compound number statements) well begin context stands yields =
          let one = yields-then context (flow.enter number) (λ _. walk.all_of (map statement_walk (bodies statements.items))) tt yields in
          keeps-then at _ _ (keeps-enter at number at.visible) (λ _. keeps-all statements.items well begin context stands one.2)
      layer (If number condition consequence None) well begin context stands yields =
          let first = statement_walk consequence.value.0 in
          let parts = and_parts (well_expr condition) (well_stmt consequence.value.0 && true) well in
          let each = and_parts (well_stmt consequence.value.0) true parts.1 in
          let there = and_parts (begins condition opened) (begins_in consequence.value.0 opened && true) begin in
          let each_there = and_parts (begins_in consequence.value.0 opened) true there.1 in
          let branches = λ (known : Valued) (own : Context). walk.branches own.tree condition first (flow.give tt) known own in
          let one = yields-then context (flow.enter number) (λ _. flow.◌>>=◌ (walk.condition_walk condition) branches) tt yields in
          let two = yields-then context (walk.condition_walk condition) branches tt one.2 in
          let both = yields-parted context (walk.where_so context.tree true condition two.0) (walk.where_so context.tree false condition two.0) first
          (flow.give tt) (record { state = two.2.state; unbroken = two.2.unbroken; value_is = two.2.value_is }) in
          keeps-then at _ _ (keeps-enter at number at.visible)
          (λ _. keeps-then at _ _ (keeps-value condition context two.0.known stands there.0 (noted-yields Sides condition context two.0 two.1))
          (λ v. keeps-chosen (meaning.is_so v) (effect_of consequence.value.0 here) (give tt)
          (one-kept consequence.value each.0 each_there.0 context stands both.0)
          (keeps-give at tt)))
      layer (If number condition consequence (Some alternative)) well begin context stands yields =
          let first = statement_walk consequence.value.0 in
          let second = statement_walk alternative.value.0 in
          let parts = and_parts (well_expr condition) (well_stmt consequence.value.0 && well_stmt alternative.value.0) well in
          let each = and_parts (well_stmt consequence.value.0) (well_stmt alternative.value.0) parts.1 in
          let there = and_parts (begins condition opened) (begins_in consequence.value.0 opened && begins_in alternative.value.0 opened) begin in
          let each_there = and_parts (begins_in consequence.value.0 opened) (begins_in alternative.value.0 opened) there.1 in
          let branches = λ (known : Valued) (own : Context). walk.branches own.tree condition first second known own in
          let one = yields-then context (flow.enter number) (λ _. flow.◌>>=◌ (walk.condition_walk condition) branches) tt yields in
          let two = yields-then context (walk.condition_walk condition) branches tt one.2 in
          let both = yields-parted context (walk.where_so context.tree true condition two.0) (walk.where_so context.tree false condition two.0) first second
          (record { state = two.2.state; unbroken = two.2.unbroken; value_is = two.2.value_is }) in
          keeps-then at _ _ (keeps-enter at number at.visible)
          (λ _. keeps-then at _ _ (keeps-value condition context two.0.known stands there.0 (noted-yields Sides condition context two.0 two.1))
          (λ v. keeps-chosen (meaning.is_so v) (effect_of consequence.value.0 here) (effect_of alternative.value.0 here)
          (one-kept consequence.value each.0 each_there.0 context stands both.0) (one-kept alternative.value each.1 each_there.1 context stands both.1)))
      layer (While head body) well begin context stands yields =
          let parts = and_parts (well_expr head.condition) (well_stmt body.value.0) well in
          let walking = statement_walk body.value.0 in
          let there = and_parts (begins head.condition opened) (begins_in body.value.0 opened) begin in
          let one = yields-then context (flow.enter head.number) (λ _. walk.while_walk head walking) tt yields in
          keeps-then at _ _ (keeps-enter at head.number at.visible)
          (λ _. keeps-while context.tree head.condition there.0 (effect_of body.value.0) walking (one-kept body.value parts.1 there.1) head.loop_number
          head.place context stands (record { state = one.2.state; unbroken = one.2.unbroken; value_is = one.2.value_is }))
      layer (Repeat head statements) well begin context stands yields =
          let inner = bodies statements.items in
          let parts = and_parts (all_hold (map well_stmt inner)) (well_expr head.condition) well in
          let walking = walk.all_of (map statement_walk inner) in
          let there = and_parts (all_begin (map begins_in inner) opened) (begins head.condition opened) begin in
          let one = yields-then context (flow.enter head.number) (λ _. walk.repeat_walk head walking) tt yields in
          keeps-then at _ _ (keeps-enter at head.number at.visible)
          (λ _. keeps-repeat context.tree head.condition there.1 (meaning.all_of (map effect_of inner)) walking
          (keeps-all statements.items parts.0 there.0) head.loop_number head.place context stands
          (record { state = one.2.state; unbroken = one.2.unbroken; value_is = one.2.value_is }))
      layer (For head body) well begin context stands yields =
          let first = head.first in
          let last = head.last in
          let is_test = λ (fits : RangeTest). fits_target (outline_of tree) block fits (AtVariable head.control) [] in
          let is_body = well_stmt body.value.0 in
          let controls = and_parts (is_control (outline_of tree) block head.control)
          (well_expr first.value && (is_test first.fits && (well_expr last.value && (is_test last.fits && is_body)))) well in
          let two = and_parts (well_expr first.value) (is_test first.fits && (well_expr last.value && (is_test last.fits && is_body))) controls.1 in
          let three = and_parts (is_test first.fits) (well_expr last.value && (is_test last.fits && is_body)) two.1 in
          let four = and_parts (well_expr last.value) (is_test last.fits && is_body) three.1 in
          let five = and_parts (is_test last.fits) is_body four.1 in
          let walking = statement_walk body.value.0 in
          let there = and_parts (begins first.value opened) (begins last.value opened && begins_in body.value.0 opened) begin in
          let more_there = and_parts (begins last.value opened) (begins_in body.value.0 opened) there.1 in
          let whole = λ (from to : Known) (c : Context). walk.for_walk head walking (way_of (is_ordinal_variable c.tree) c.version head from to) c in
          let one = yields-then context (flow.enter head.number)
          (λ _. flow.◌>>=◌ (value_walk first.value) (λ from. flow.◌>>=◌ (value_walk last.value) (whole from))) tt yields in
          keeps-then at _ _ (keeps-enter at head.number at.visible)
          (λ _. keeps-for head (effect_of body.value.0) walking (λ from n. one-turn body.value head from n five.1 more_there.1)
          (control-own head.control controls.0) there.0
          more_there.0 context stands one.2)
      layer (Case head arms) well begin context stands yields =
          let inner = bodies arms.items in
          let constants = head.constants.items in
          let sites = (outline_of tree).sites in
          let one = and_parts (nat_lt head.site sites) (well_expr head.index && (list_all are_whole constants && all_hold (map well_stmt inner))) well in
          let two = and_parts (well_expr head.index) (list_all are_whole constants && all_hold (map well_stmt inner)) one.1 in
          let three = and_parts (list_all are_whole constants) (all_hold (map well_stmt inner)) two.1 in
          let there = and_parts (begins head.index opened) (all_begin (map begins_in inner) opened) begin in
          let chosen = λ (known : Known) (own : Context). walk.case_walk own.tree head (map statement_walk inner) known own in
          let entered = yields-then context (flow.enter head.number) (λ _. flow.◌>>=◌ (value_walk head.index) chosen) tt yields in
          let valued = yields-then context (value_walk head.index) chosen tt entered.2 in
          keeps-then at _ _ (keeps-enter at head.number at.visible)
          (λ _. keeps-then at _ _ (keeps-value head.index context valued.0 stands there.0 valued.1)
          (λ v. keeps-case context.tree head arms.items three.1 there.1 context stands valued.0
          (record { state = valued.2.state; unbroken = valued.2.unbroken; value_is = valued.2.value_is }) (number_of v)))
      layer (With head body) well begin context stands yields =
          let list = head.records.items in
          let inner = body.value.0 in
          let outline = outline_of tree in
          let parts = and_parts (all_hold (map (is_well_formed_record outline block) list)) (well_stmt inner) well in
          let there = and_parts (nat_eq head.first_slot (length opened)) (with_begins list (begins_in inner) opened) begin in
          let one = yields-then context (flow.enter head.number) (λ _. walk.with_walk head (statement_walk inner)) tt yields in
          let two = yields-then context (walk.all_of (map walk.record_walk list)) (λ _. statement_walk inner) tt one.2 in
          keeps-then at _ _ (keeps-enter at head.number at.visible)
          (λ _. keeps-when at _ _ (records-kept list opened places lie parts.0 (begins_in inner) there.1 context stands two.1)
          (λ found given.
          body.value.1 turns (behind list opened) found
          (all-opened at.visible calls outline block list opened places lie parts.0 (begins_in inner) there.1 found given) parts.1
          (with-begun list (begins_in inner) opened there.1) context stands two.2))

  abbrev IsKeptLayer : Stmt-F Stmt → Type 0
  IsKeptLayer x =
      (turns : List ℕ) (opened : List OpenRecord) (places : List (Option Place)) (lie : LieOpen base.visible opened places)
      → LayerHere turns opened places lie x

  rolled : (x : Stmt-F Stmt) → IsKeptLayer x → IsKeptStmt (roll-Stmt x)
  rolled x kept turns opened places lie well begin context stands yields =
      subst (λ (execution : Execution). Keeps (turned base turns) (execution (around turns places))) (sym (fold-roll-Stmt Execution effect_step x))
      (kept turns opened places lie (sym (fold-roll-Stmt Bool (stmt_is_well_formed (outline_of tree) block) x) ∙ well)
      (subst (λ (own : Begin). own opened ≡ true) (fold-roll-Stmt Begin statement_begins x) begin) context stands
      (subst (λ (walking : Walking (Unit {0})). Yields context walking tt) (fold-roll-Stmt (Walking (Unit {0})) statement_step x) yields))

  -- a statement leaves what isn't listed
  pub statement-kept : (s : Stmt) → IsKeptStmt s
  statement-kept =
      ind-Stmt IsKeptStmt (λ x y is. subst (λ (z : Stmt-F Stmt). IsKeptStmt (roll-Stmt z)) is
      (rolled (bare y) (λ turns opened places lie. layer turns opened places lie y)))
