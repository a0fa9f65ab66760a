-- The walk over statements is sound, form by form.
use Rattle.std.proofs.Common.{◌≡◌, ◌∙◌, ap, ap₂, refl, sym, subst, ℕ, ◌<◌, Bool, true, false, cond, not, ◌&&◌, ◌||◌, ℤ, length, nat_eq, nat_lt}
use Rattle.std.proofs.Common.{List, [], ◌∷◌, ◌++◌, map, Option, Some, None}
use Rattle.std.specs.declared.alloc.Global.{Global}
use Rattle.std.specs.declared.vec.Vec.{Vec}
use Rattle.std.specs.List.{list_all, list_any}
use Rattle.std.specs.Prelude.{slice_get}
use Rattle.std.proofs.lemmas.Bool.{and_parts, both_ways, eq-eqb, ltb-true, or_left, or_right}
use Rattle.std.proofs.lemmas.List.Folds.{list_any-append}
use Rattle.std.proofs.lemmas.List.{length-map}
use Rattle.std.proofs.lemmas.List.Elements.{Contains-append_left}
use Rattle.types.specs.Types.{is_ordinal}
use Rattle.typed_tree.specs.declared.tree.CaseHead.{CaseHead}
use Rattle.typed_tree.specs.declared.tree.ForHead.{ForHead}
use Rattle.typed_tree.specs.declared.tree.RangeTest.{RangeTest}
use Rattle.typed_tree.specs.declared.tree.Scalar.{Scalar}
use Rattle.typed_tree.specs.declared.tree.Scalar.TheVariants as scalar
use Rattle.typed_tree.specs.declared.tree.WriteParameter.{WriteParameter}
use Rattle.typed_tree.specs.declared.tree.Expr.{Expr}
use Rattle.typed_tree.specs.declared.tree.Stmt.{Stmt}
use Rattle.typed_tree.specs.declared.tree.Stmt.TheOpen.{Stmt-F}
use Rattle.typed_tree.specs.declared.tree.Stmt.TheOpen.Stmt-F.{Empty, Assign, Copy, Write, Compound, If, While, Repeat, For, Case, Call as Calling, With, Read}
use Rattle.typed_tree.specs.declared.tree.Stmt.TheViews.{roll-Stmt}
use Rattle.typed_tree.specs.declared.tree.Stmt.TheFolds.{map-Stmt, fold-roll-Stmt, ind-Stmt}
use Rattle.typed_tree.specs.Accesses.{AtVariable}
use Rattle.typed_tree.specs.Calls.{holds_call}
use Rattle.typed_tree.specs.Kinds.{is_held_parameter, is_held_record, is_held_stmt, is_ordinal_expr, statement_held}
use Rattle.typed_tree.specs.Records.{Begin, OpenRecord, all_begin, begins, begins_in, parameter_begins, statement_begins, with_begins}
use Rattle.typed_tree.specs.declared.tree.Block.{Block}
use Rattle.typed_tree.specs.Loops.{AreLoops, Inside, IsLoop, LoopControls, all_inside, both_inside, inside_of, no_loop, statement_inside}
use Rattle.typed_tree.specs.Loops.{controls_of as block_controls}
use Rattle.typed_tree.specs.Threats.{Spares, all_so, all_spare, is_none_of, spares, spares_in_expr, spares_in_record, statement_spares}
use Rattle.typed_tree.specs.WellFormed.{Outline, all_hold, are_whole, is_control, is_declared, is_local_kind, is_well_formed_expr, is_well_formed_parameter}
use Rattle.typed_tree.specs.WellFormed.{fits_target, is_well_formed_record, is_well_formed_stmt, is_well_formed_test, leads_to_ordinal, outline_of}
use Rattle.typed_tree.specs.WellFormed.{is_well_formed_line, is_well_formed_read, stmt_is_well_formed}
use Rattle.domain.specs.Interval.{common}
use Rattle.domain.specs.declared.versions.Version.{Version}
use Rattle.domain.specs.Numbers.{hull, is_covered}
use Rattle.domain.proofs.Numbers.{among-hull, covered-among}
use Rattle.meaning.specs.declared.value.Value.{Value}
use Rattle.meaning.specs.declared.value.Value.TheVariants.{Members, Number}
use Rattle.meaning.specs.Kinds.{IsOf}
use Rattle.meaning.specs.Store.{Environment, Place as StorePlace, Store, inside_for}
use Rattle.meaning.specs.Effect as effect
use Rattle.meaning.specs.Meaning as meaning
use Rattle.meaning.specs.Meaning.{Calls, Execution, Surroundings, effect_of, is_so, parameter_of, value_of, within_for}
use Rattle.checker_state.specs.declared.value.Known.{Known}
use Rattle.checker_state.specs.declared.value.Known.TheVariants.{Ordinal, Set}
use Rattle.checker_state.specs.Conditions.{bound_form, condition_of}
use Rattle.checker_rows.specs.Rows.{is_ordinal_variable}
use Rattle.typed_tree.specs.declared.tree.Tree.{Tree}
use Rattle.checker_state.specs.Holds.{HasNumber, moment}
use Rattle.checker_state.specs.Knows.{IsOfForm, AreEntire}
use Rattle.checker_state.specs.State.{Dead, State, is_dead}
use Rattle.checker_expressions.proofs.Opened.{AreOpen}
use Rattle.checker_expressions.proofs.Sound.{Any_value, Good, Here, IsForetold, IsHeld, IsPartOf, SoundCalls, World, closed-passes, errs-here, ordinal_in}
use Rattle.checker_expressions.proofs.Sound.{good-then, good-weaker, here-behind, is_seen, nonempty-stands, nothing-new, open-here, part-left, part-right}
use Rattle.checker_expressions.proofs.Sound.{Sound, parts_in, sites_in, sound-enter, sound-give, sound-given, sound-then, sound-written, stands-as, types_in}
use Rattle.checker_expressions.proofs.Sound.{unbroken-left, unbroken-right, variables_in}
use Rattle.checker_state.proofs.Ranged.{common-in}
use Rattle.checker_state.proofs.Refined.{expression-kept, forms-tell}
use Rattle.checker_state.specs.Joins.{joined_states}
use Rattle.checker_loops.specs.Cases.{at_constants, constants_before}
use Rattle.checker_loops.specs.Loops.{controls_inside, is_for_statement}
use Rattle.checker_state.specs.State.{table_of}
use Rattle.checker_loops.proofs.Tabled.{are-rows}
use Rattle.checker_loops.specs.Pairs.{aliases_of}
use Rattle.checker_calls.specs.Environments.{Fine}
use Rattle.checker_calls.proofs.Numbers.{hold-numbers}
use Rattle.checker_state.specs.Loops.{is_among}
use Rattle.checker_loops.specs.Ways.{form_before, way_of}
use Rattle.checker_loops.proofs.OnWay.{of-form_may}
use Rattle.checker_expressions.specs.Walk as flow
use Rattle.cert_checker.proofs.SoundConditions.{condition-sound}
use Rattle.checker_expressions.specs.Walk.{Context, Walked, Walking, followed, parameter_walk, passed_piece_of, value_walk}
use Rattle.checker_expressions.proofs.Keeping.{keeps-then}
use Rattle.checker_expressions.proofs.SoundAccesses.{leads-type}
use Rattle.checker_expressions.proofs.SoundCalls.{CallLaws}
use Rattle.checker_expressions.proofs.SoundExpressions.{SoundAction, parameter-sound, procedure-sound, value-sound}
use Rattle.cert_checker.specs.Walk as walk
use Rattle.cert_checker.specs.Walk.{statement_walk}
use Rattle.cert_checker.proofs.Controls.{AreOrdinal, all-ordinal, control-ordinal, control-seen, controls-ordinal, inside-ordinal, inside-told}
use Rattle.cert_checker.proofs.Controls.{kind-told, loops-parts, one-ordinal, control-declared, ordinal-entire}
use Rattle.cert_checker.proofs.SoundAssignments.{assigned, assignment-sound, entire-lies, has_type, passed-typed, site-within, tests-number}
use Rattle.cert_checker.proofs.SoundCase.{arm-missing, arms-behind, at-constants_known, entire-number, first-constants}
use Rattle.cert_checker.proofs.SoundCopies.{copied, copying-sound}
use Rattle.cert_checker.proofs.SoundFor.{IsControl, IsTestFor, SoundInside, for-good}
use Rattle.cert_checker.proofs.SoundReads.{reading-sound}
use Rattle.cert_checker.proofs.SparedCalls.{Controls, IsAlone, SpareControls}
use Rattle.cert_checker.proofs.SparedText.{MayChangeOthers, text-kept}
use Rattle.checker_expressions.proofs.EffectsKept.{keeps-turned, watching}
use Rattle.checker_loops.proofs.Touched.{all_control}
use Rattle.cert_checker.proofs.Rounds.{StandsIn}
use Rattle.cert_checker.proofs.SoundLoops.{AreControlled, SoundAmong, among-by_tree, here-as, joined-other, numbers-here, sound-choice, sound-loop}
use Rattle.cert_checker.proofs.SoundLoops.{sound-repeat, sound-while}
use Rattle.cert_checker.proofs.OpenedBehind.{behind, with-begun}
use Rattle.cert_checker.proofs.SoundWith.{among-after, lie-open, opened-sound}
use Rattle.cert_checker.proofs.Turned.{open-turned}
use Rattle.cert_checker.proofs.Written.{Foretold}

-- one of two actions, by a truth value
by-arm : (world : World) (env : Environment) (context : Context) (whole : Walked (Unit {0})) (t : effect.State) (one other : effect.Action (Unit {0}))
    (b : Bool)
    → (b ≡ true → Good world (Foretold world env context whole t.store) t (one t))
    → (b ≡ false → Good world (Foretold world env context whole t.store) t (other t))
    → Good world (Foretold world env context whole t.store) t (cond b one other t)
by-arm world env context whole t one other true taken skipped = taken refl
by-arm world env context whole t one other false taken skipped = skipped refl

only-other : (a b : Bool) → a ≡ false → (a || b) ≡ true → b ≡ true
only-other false b isnt is = is
only-other true b isnt is = absurd (cc)

either-way : {P : Type 0} (b : Bool) → (b ≡ true → P) → (b ≡ false → P) → P
either-way true one other = one refl
either-way false one other = other refl

among-left : (root : ℕ) (first second : List ℕ) → is_among root first ≡ true → is_among root (first ++ second) ≡ true
among-left root first second is =
    list_any-append (λ (other : ℕ). nat_eq other root) first second ∙ or_left (is_among root first) (is_among root second) is

among-right : (root : ℕ) (first second : List ℕ) → is_among root second ≡ true → is_among root (first ++ second) ≡ true
among-right root first second is =
    list_any-append (λ (other : ℕ). nat_eq other root) first second ∙ or_right (is_among root first) (is_among root second) is

-- ---- pieces with control variables

-- a piece that needs none
plainly : (controls : List ℕ) (world : World) (block : ℕ) (env : Environment) (action : effect.Action (Unit {0})) (walking : Walking (Unit {0}))
    → SoundAction world block env action walking
    → SoundAmong {A = Unit {0}} {B = Unit {0}} controls world block env Any_value action walking
plainly controls world block env action walking one context state s held unbroken part here = one context state s unbroken part here

-- one that needs fewer
among-more : (controls more : List ℕ) (world : World) (block : ℕ) (env : Environment) (action : effect.Action (Unit {0})) (walking : Walking (Unit {0}))
    → ((root : ℕ) → is_among root controls ≡ true → is_among root more ≡ true)
    → SoundAmong {A = Unit {0}} {B = Unit {0}} controls world block env Any_value action walking
    → SoundAmong {A = Unit {0}} {B = Unit {0}} more world block env Any_value action walking
among-more controls more world block env action walking inside one context state s held unbroken part here =
    one context state s (record { control = λ root among. held.control root (inside root among); deep = held.deep }) unbroken part here

among-then : (controls : List ℕ) (world : World) (block : ℕ) (env : Environment) (action next : effect.Action (Unit {0}))
    (walking walk_next : Walking (Unit {0})) → SoundAmong {A = Unit {0}} {B = Unit {0}} controls world block env Any_value action walking
    → SoundAmong {A = Unit {0}} {B = Unit {0}} controls world block env Any_value next walk_next
    → SoundAmong {A = Unit {0}} {B = Unit {0}} controls world block env Any_value (effect.◌>>=◌ action (λ done. next))
    (flow.◌>>=◌ walking (λ done. walk_next))
among-then controls world block env action next walking walk_next one two context state s held unbroken part here =
    let first = walking context state in
    let second = walk_next context first.after in
    let Q = Foretold world env context (followed first second) s.store in
    good-then world (Foretold world env context first s.store) Q s (action s) (λ done. next)
    (one context state s held (unbroken-left first.broken second.broken unbroken) (part-left world first second part) here)
    (λ done t is told.
    good-weaker world (Foretold world env context second t.store) Q t (next t)
    (λ c u gives then. record {
      tie = tt;
      stands = then.so.stands;
      kept = keeps-then env context.rounds s.store t.store u.store told.so.kept then.so.kept;
    })
    (two context first.after t held (unbroken-right first.broken second.broken unbroken) (part-right world first second part)
    (here-behind {B = Unit {0}} world block env Any_value context state first s t done here told)))

module _ (world : World) (block : ℕ) (own_block : Block)
    (own_is : slice_get world.tree.blocks.items block ≡ Some own_block) (does : Calls)
    (laws : CallLaws world) (calls : SoundCalls world does) (spared_by : SpareControls world.tree does)
    (hidden : (control alias : ℕ) → is_control (outline_of world.tree) block control ≡ true → is_among alias (aliases_of world.pairs control) ≡ true
    → is_seen world block alias ≡ false) where
  abbrev outline : Outline
  outline = outline_of world.tree

  abbrev well_expr : Expr → Bool
  well_expr = is_well_formed_expr outline block

  -- where a statement stands, with records that are open at these places
  abbrev around : Environment → List (Option StorePlace) → Surroundings
  around visible places = record { visible = visible; records = places; calls = does }

  -- ---- statements

  abbrev well_stmt : Stmt → Bool
  well_stmt = is_well_formed_stmt outline block

  -- all but the control variable may be changed where it alone lies
  others-alone : (place : StorePlace) (control : ℕ) (roots : List ℕ) (env : Environment) → IsAlone place control env
      → MayChangeOthers (watching place env) (control ∷ roots)
  others-alone place control roots env alone root free home seen earlier lies =
      let same = alone root home seen lies in
      differs (nat_eq control root) (list_any (λ one. nat_eq one root) roots) (eq-eqb control root (sym same)) free
    where
      differs : (own other : Bool) → own ≡ true → not (own || other) ≡ true → ⊥
      differs true other is free = absurd (cc)
      differs false other is free = absurd (cc)

  -- by the text of the block: variables are spared, loops stand in the table, and the control variables are the block's
  pub record Text (inside : Inside) (so : Spares) : Type 0 where
    pub roots : List ℕ
    pub spared : so roots ≡ true
    pub loops : AreLoops world.tree.loops.items block inside.loops
    pub controls : (root : ℕ) → is_among root inside.controls ≡ true → is_among root (block_controls own_block.body) ≡ true

  text-parts : (a b : Inside) (so also : Spares) → Text (both_inside a b) (λ roots. so roots && also roots) → Text a so × Text b also
  text-parts a b so also text =
      let parts = and_parts (so text.roots) (also text.roots) text.spared in
      let own = loops-parts world.tree.loops.items block a.loops b.loops text.loops in (
        record {
          roots = text.roots;
          spared = parts.0;
          loops = own.0;
          controls = λ root among. text.controls root (among-left root a.controls b.controls among);
        },
        record {
          roots = text.roots;
          spared = parts.1;
          loops = own.1;
          controls = λ root among. text.controls root (among-right root a.controls b.controls among);
        },
      )

  text-with : (inside : Inside) (so also : Spares) → ((roots : List ℕ) → so roots ≡ true → also roots ≡ true) → Text inside so → Text inside also
  text-with inside so also more text =
      record { roots = text.roots; spared = more text.roots text.spared; loops = text.loops; controls = text.controls }

  -- what is fixed of a statement by its text: whether it is well formed, whether its operands are as they are taken, and whether accesses in it begin at
  -- what is there
  pub record Told : Type 0 where
    pub well : Bool
    pub held : Bool
    pub begin : Begin

  abbrev told_of : Stmt → Told
  told_of s = record { well = well_stmt s; held = is_held_stmt s; begin = begins_in s }

  -- so it is, where these records are open
  record IsSo (told : Told) (records : List OpenRecord) : Type 0 where
    well : told.well ≡ true
    held : told.held ≡ true
    begin : told.begin records ≡ true

  -- those that are so, wherever records are open, whatever is visible
  abbrev SoundStatement : Told → Inside → Spares → Execution → Walking (Unit {0}) → Type 0
  SoundStatement told inside so execution walking =
      (visible : Environment) (records : List OpenRecord) (places : List (Option StorePlace)) → AreOpen world block visible records places
      → IsSo told records → Text inside so
      → SoundAmong {A = Unit {0}} {B = Unit {0}} inside.controls world block visible Any_value (execution (around visible places)) walking

  abbrev StatementIsSound : Stmt → Type 0
  StatementIsSound s = SoundStatement (told_of s) (inside_of s) (spares s) (effect_of s) (statement_walk s)

  abbrev ProvedStmt : Type 0
  ProvedStmt = (s : Stmt) × StatementIsSound s

  -- what is told of several statements
  abbrev told_all : List Stmt → Told
  told_all statements = record {
    well = all_hold (map well_stmt statements);
    held = all_hold (map is_held_stmt statements);
    begin = all_begin (map begins_in statements);
  }

  so-first : (statement : Stmt) (statements : List Stmt) (records : List OpenRecord) → IsSo (told_all (statement ∷ statements)) records
      → IsSo (told_of statement) records × IsSo (told_all statements) records
  so-first statement statements records is =
      let well = and_parts (well_stmt statement) (all_hold (map well_stmt statements)) is.well in
      let held = and_parts (is_held_stmt statement) (all_hold (map is_held_stmt statements)) is.held in
      let begin = and_parts (begins_in statement records) (all_begin (map begins_in statements) records) is.begin in (
        record { well = well.0; held = held.0; begin = begin.0 },
        record { well = well.1; held = held.1; begin = begin.1 },
      )

  abbrev told_layer : Stmt-F Stmt → Told
  told_layer x = record {
    well = stmt_is_well_formed outline block (map-Stmt Stmt Bool well_stmt x);
    held = statement_held (map-Stmt Stmt Bool is_held_stmt x);
    begin = statement_begins (map-Stmt Stmt Begin begins_in x);
  }

  module _ (visible : Environment) (records : List OpenRecord) (places : List (Option StorePlace)) (opened : AreOpen world block visible records places) where
    abbrev env : Surroundings
    env = around visible places

    -- ---- values that are written

    parameters-sound : (parameters : List WriteParameter)
        → all_hold (map (is_well_formed_parameter outline block) parameters) ≡ true → all_hold (map is_held_parameter parameters) ≡ true
        → all_begin (map parameter_begins parameters) records ≡ true
        → SoundAction world block visible (meaning.all_of (map parameter_of parameters) env) (walk.all_of (map parameter_walk parameters))
    parameters-sound [] well held begin = sound-give {A = Unit {0}} {B = Unit {0}} world block visible Any_value tt tt (λ store. tt)
    parameters-sound (parameter ∷ parameters) well held begin =
        let is_well = is_well_formed_parameter outline block in
        let parts = and_parts (is_well parameter) (all_hold (map is_well parameters)) well in
        let kinds = and_parts (is_held_parameter parameter) (all_hold (map is_held_parameter parameters)) held in
        let there = and_parts (parameter_begins parameter records) (all_begin (map parameter_begins parameters) records) begin in
        sound-then world block visible Any_value Any_value (parameter_of parameter env) (λ done. meaning.all_of (map parameter_of parameters) env)
        (parameter_walk parameter) (λ done. walk.all_of (map parameter_walk parameters))
        (parameter-sound world block env records opened laws calls parameter parts.0 kinds.0 there.0)
        (λ b a store tie. parameters-sound parameters parts.1 kinds.1 there.1)

    -- a line end changes nothing that the walk knows of
    ended-sound : (ends_line : Bool) (action : effect.Action (Unit {0})) (walking : Walking (Unit {0})) → SoundAction world block visible action walking
        → SoundAction world block visible (effect.◌>>=◌ action (λ done. meaning.line_ended ends_line)) walking
    ended-sound true action walking one = sound-written world block visible Any_value (λ done. 10 ∷ []) action walking one
    ended-sound false action walking one = sound-given world block visible Any_value Any_value (λ done. tt) (λ b a store tie. tt) action walking one

    abbrev bodies : List ProvedStmt → List Stmt
    bodies statements = map (λ (s : ProvedStmt). s.0) statements

    -- a statement that is so here
    abbrev SoundHere : Told → Inside → Spares → Execution → Walking (Unit {0}) → Type 0
    SoundHere told inside so execution walking =
        IsSo told records → Text inside so → SoundAmong {A = Unit {0}} {B = Unit {0}} inside.controls world block visible Any_value (execution env) walking

    one-sound : (statement : ProvedStmt) → SoundHere (told_of statement.0) (inside_of statement.0) (spares statement.0) (effect_of statement.0)
        (statement_walk statement.0)
    one-sound statement is text = statement.1 visible records places opened is text

    -- in a turn of a for
    one-inside : (statement : ProvedStmt) → IsSo (told_of statement.0) records → Text (inside_of statement.0) (spares statement.0)
        → SoundInside (inside_of statement.0).controls world block env (effect_of statement.0) (statement_walk statement.0)
    one-inside statement is text finished =
        let inner = inside_for visible finished in
        statement.1 inner records places (open-turned visible visible.turns inner.turns world block records places opened) is text

    all-sound : (statements : List ProvedStmt)
        → SoundHere (told_all (bodies statements)) (all_inside (map inside_of (bodies statements))) (all_spare (map spares (bodies statements)))
        (meaning.all_of (map effect_of (bodies statements))) (walk.all_of (map statement_walk (bodies statements)))
    all-sound [] is text =
        plainly [] world block visible (effect.give tt) (flow.give tt)
        (sound-give {A = Unit {0}} {B = Unit {0}} world block visible Any_value tt tt (λ store. tt))
    all-sound (statement ∷ statements) is text =
        let later = bodies statements in
        let first = inside_of statement.0 in
        let others = all_inside (map inside_of later) in
        let own = text-parts first others (spares statement.0) (all_spare (map spares later)) text in
        let parts = so-first statement.0 later records is in
        among-then (first.controls ++ others.controls) world block visible (effect_of statement.0 env) (meaning.all_of (map effect_of later) env)
        (statement_walk statement.0) (walk.all_of (map statement_walk later))
        (among-more first.controls (first.controls ++ others.controls) world block visible (effect_of statement.0 env) (statement_walk statement.0)
        (λ root. among-left root first.controls others.controls) (one-sound statement parts.0 own.0))
        (among-more others.controls (first.controls ++ others.controls) world block visible (meaning.all_of (map effect_of later) env)
        (walk.all_of (map statement_walk later)) (λ root. among-right root first.controls others.controls) (all-sound statements parts.1 own.1))

    -- the control variables inside a loop have no rows
    inside-entire : (number : ℕ) (told : LoopControls) → AreOrdinal world.tree told.inside → IsLoop world.tree.loops.items block (number, told)
        → AreEntire (parts_in world) (variables_in world) (controls_inside world.tree number)
    inside-entire number told ordinal is =
        ordinal-entire world.tree (controls_inside world.tree number) (inside-ordinal world.tree block number told ordinal is)

    -- an expression that is an ordinal
    ordinal-sound : (e : Expr) → well_expr e ≡ true → is_ordinal_expr e ≡ true → begins e records ≡ true
        → Sound world block visible (IsHeld scalar.Ordinal) (value_of e env) (value_walk e)
    ordinal-sound e well held begin = value-sound world block env records opened laws calls e scalar.Ordinal well held begin

    -- a statement from its entry on
    entered-among : (controls : List ℕ) (number : ℕ) (action : effect.Action (Unit {0})) (walking : Walking (Unit {0}))
        → SoundAmong {A = Unit {0}} {B = Unit {0}} controls world block visible Any_value action walking
        → SoundAmong {A = Unit {0}} {B = Unit {0}} controls world block visible Any_value
        (effect.◌>>=◌ (effect.enter number visible) (λ done. action)) (flow.◌>>=◌ (flow.enter number) (λ done. walking))
    entered-among controls number action walking one =
        among-then controls world block visible (effect.enter number visible) action (flow.enter number) walking
        (plainly controls world block visible (effect.enter number visible) (flow.enter number) (sound-enter world block visible number)) one

    -- a conditional statement: the condition, and then one of its branches
    choice-sound : (controls : List ℕ) (number : ℕ) (condition : Expr) (consequence alternative : effect.Action (Unit {0}))
        (true_walk false_walk : Walking (Unit {0})) → well_expr condition ≡ true → is_ordinal_expr condition ≡ true → begins condition records ≡ true
        → SoundAmong {A = Unit {0}} {B = Unit {0}} controls world block visible Any_value consequence true_walk
        → SoundAmong {A = Unit {0}} {B = Unit {0}} controls world block visible Any_value alternative false_walk
        → SoundAmong {A = Unit {0}} {B = Unit {0}} controls world block visible Any_value
        (effect.◌>>=◌ (effect.enter number visible) (λ done. effect.◌>>=◌ (value_of condition env) (λ v. cond (is_so v) consequence alternative)))
        (flow.◌>>=◌ (flow.enter number)
        (λ done. flow.◌>>=◌ (walk.condition_walk condition) (λ known context. walk.branches context.tree condition true_walk false_walk known context)))
    choice-sound controls number condition consequence alternative true_walk false_walk well taken begin one other =
        entered-among controls number
        (effect.◌>>=◌ (value_of condition env) (λ v. cond (is_so v) consequence alternative))
        (flow.◌>>=◌ (walk.condition_walk condition) (λ known context. walk.branches context.tree condition true_walk false_walk known context))
        (sound-choice controls world block env condition consequence alternative true_walk false_walk
        (condition-sound world block env records opened laws calls condition well taken begin) one other)

    -- the test of a bound has the range of the control variable's type
    control-tested : (control : ℕ) (fits : RangeTest) → fits_target outline block fits (AtVariable control) [] ≡ true
        → leads_to_ordinal outline block (AtVariable control) [] 0 ≡ true → IsTestFor world control fits
    control-tested control fits well leads =
        let parts = and_parts (is_well_formed_test outline block fits) (has_type world fits (AtVariable control) []) well in
        let tests = tests-number world control fits parts.1 (leads-type outline block (is_ordinal (types_in world)) (AtVariable control) [] 0 leads) in
        record {
          below = site-within world block fits parts.0;
          typed = λ n passes.
              entire-lies world control (Number n)
              (passed-typed world (AtVariable control) [] fits (Number n) parts.1 passes
              (subst (λ (one : Scalar). IsOf one (Number n)) (sym tests) tt));
        }

    -- a for from the values of its bounds
    abbrev from_bounds : ForHead → Execution → Value → Value → effect.Action (Unit {0})
    from_bounds head execution a b =
        effect.◌>>=◌ (meaning.for_between head execution env (effect.number_of a) (effect.number_of b))
        (λ done. effect.undefine (visible.variables head.control))

    abbrev walked_bounds : Tree → ForHead → Walking (Unit {0}) → Known → Known → Walking (Unit {0})
    walked_bounds tree head walking from to context =
        walk.for_walk head walking (way_of (is_ordinal_variable tree) context.version head from to) context

    bounds-good : (head : ForHead) (execution : Execution) (walking : Walking (Unit {0})) (among : List ℕ)
        → controls_inside world.tree head.loop_number ≡ among → is_for_statement world.tree head.loop_number ≡ true
        → SoundInside among world block env execution walking
        → AreEntire (parts_in world) (variables_in world) (head.control ∷ controls_inside world.tree head.loop_number) → StandsIn world block head.loop_number
        → IsTestFor world head.control head.first.fits → IsTestFor world head.control head.last.fits
        → (from to : Known) (a b : Value) (context : Context) (state : State) (t : effect.State)
        → IsControl world block env execution context head.control → AreControlled among visible context
        → (walked_bounds world.tree head walking from to context state).broken ≡ []
        → IsPartOf world (walked_bounds world.tree head walking from to context state)
        → Here world block visible context state t
        → IsOfForm (moment visible t.store) (form_before (ordinal_in world) context.version head.first.value head.last.value) a
        → IsOfForm (moment visible t.store) (bound_form (ordinal_in world) context.version head.last.value) b → IsHeld scalar.Ordinal from a t.store
        → IsHeld scalar.Ordinal to b t.store
        → Good world (Foretold world visible context (walked_bounds world.tree head walking from to context state) t.store) t (from_bounds head execution a b t)
    bounds-good head execution walking among inside_are kind one controls_are stands first_tested last_tested (Ordinal from) (Ordinal to)
        (Number x) (Number y) context state t text held unbroken part here first_form last_form in_first in_last =
        for-good world block env head stands execution walking among inside_are kind one context.version (Ordinal from) (Ordinal to) context state
        x y text held controls_are first_tested last_tested t unbroken part here
        (of-form_may visible t.store (form_before (ordinal_in world) context.version head.first.value head.last.value) x first_form)
        (of-form_may visible t.store (bound_form (ordinal_in world) context.version head.last.value) y last_form) in_first.0 in_last.0
    bounds-good head execution walking among inside_are kind one controls_are stands first_tested last_tested (Ordinal from) (Ordinal to)
        (Number x) (Members set) context state t text held unbroken part here first_form last_form in_first in_last = absurd in_last.0
    bounds-good head execution walking among inside_are kind one controls_are stands first_tested last_tested (Ordinal from) (Ordinal to)
        (Members set) b context state t text held unbroken part here first_form last_form in_first in_last = absurd in_first.0
    bounds-good head execution walking among inside_are kind one controls_are stands first_tested last_tested (Ordinal from) (Set hull)
        a b context state t text held unbroken part here first_form last_form in_first in_last = absurd (let other = in_last.1 in cc)
    bounds-good head execution walking among inside_are kind one controls_are stands first_tested last_tested (Set hull) to
        a b context state t text held unbroken part here first_form last_form in_first in_last = absurd (let other = in_first.1 in cc)

    -- the form of the first bound behind the last
    form-behind : (version : Version) (first last : Expr) (before after : Store) (a : Value) → (holds_call last ≡ false → after ≡ before)
        → IsOfForm (moment visible before) (bound_form (ordinal_in world) version first) a
        → IsOfForm (moment visible after) (form_before (ordinal_in world) version first last) a
    form-behind version first last before after a stays of_form = by (holds_call last) refl
      where
        by : (hold : Bool) → holds_call last ≡ hold → IsOfForm (moment visible after) (cond hold None (bound_form (ordinal_in world) version first)) a
        by true is = tt
        by false is = subst (λ (store : Store). IsOfForm (moment visible store) (bound_form (ordinal_in world) version first) a) (sym (stays is)) of_form

    module _ (head : ForHead) (execution : Execution) (walking : Walking (Unit {0})) (among : List ℕ)
        (inside_are : controls_inside world.tree head.loop_number ≡ among) (kind : is_for_statement world.tree head.loop_number ≡ true)
        (one : SoundInside among world block env execution walking)
        (text : (context : Context) → all_control head.control context.rounds ≡ true → IsControl world block env execution context head.control)
        (controls_are : AreEntire (parts_in world) (variables_in world) (head.control ∷ controls_inside world.tree head.loop_number))
        (stands : StandsIn world block head.loop_number)
        (first_sound : Sound world block visible (IsHeld scalar.Ordinal) (value_of head.first.value env) (value_walk head.first.value))
        (first_tested : IsTestFor world head.control head.first.fits)
        (last_sound : Sound world block visible (IsHeld scalar.Ordinal) (value_of head.last.value env) (value_walk head.last.value))
        (last_tested : IsTestFor world head.control head.last.fits) where
      abbrev finish : Value → Value → effect.Action (Unit {0})
      finish = from_bounds head execution

      abbrev bounds : effect.Action (Unit {0})
      bounds = effect.◌>>=◌ (value_of head.first.value env) (λ a. effect.◌>>=◌ (value_of head.last.value env) (finish a))

      abbrev walked_in : Tree → Walking (Unit {0})
      walked_in tree = flow.◌>>=◌ (value_walk head.first.value) (λ from. flow.◌>>=◌ (value_walk head.last.value) (walked_bounds tree head walking from))

      for-here : SoundAmong {A = Unit {0}} {B = Unit {0}} (head.control ∷ among) world block visible Any_value bounds (walked_in world.tree)
      for-here context state s held unbroken part here =
          let control = head.control in
          let first = head.first.value in
          let last = head.last.value in
          let own_held = held.control control (or_left (nat_eq control control) (is_among control among) (eq-eqb control control refl)) in
          let inside_held : AreControlled among visible context =
          record { control = λ root is. held.control root (or_right (nat_eq control root) (is_among root among) is); deep = held.deep } in
          let from = value_walk first context state in
          let to = value_walk last context from.after in
          let rest = walked_bounds world.tree head walking from.value to.value context to.after in
          let more = followed to rest in
          let Q = Foretold world visible context (followed from more) s.store in
          let more_unbroken = unbroken-right from.broken more.broken unbroken in
          let more_part = part-right world from more part in
          let Held = IsHeld scalar.Ordinal in
          good-then world (IsForetold world visible Held context from s.store) Q s (value_of first env s)
          (λ a. effect.◌>>=◌ (value_of last env) (finish a))
          (first_sound context state s (unbroken-left from.broken more.broken unbroken) (part-left world from more part) here)
          (λ a t first_is first_told.
          let here_first = here-behind world block visible Held context state from s t a here first_told in
          good-then world (IsForetold world visible Held context to t.store) Q t (value_of last env t) (finish a)
          (last_sound context from.after t (unbroken-left to.broken rest.broken more_unbroken) (part-left world to rest more_part) here_first)
          (λ b u last_is last_told.
          let here_last = here-behind world block visible Held context from.after to t u b here_first last_told in
          let form = form-behind context.version first last t.store u.store a (λ quiet. expression-kept last quiet env t u b last_is)
          (forms-tell (ordinal_in world) context.version first env s t a first_is (numbers-here world block visible context from.after t here_first)) in
          good-weaker world (Foretold world visible context rest u.store) Q u (finish a b u)
          (λ done w is then. record {
            tie = tt;
            stands = then.so.stands;
            kept = keeps-then visible context.rounds s.store t.store w.store first_told.so.kept
                (keeps-then visible context.rounds t.store u.store w.store last_told.so.kept then.so.kept);
          })
          (bounds-good head execution walking among inside_are kind one controls_are stands first_tested last_tested from.value to.value a b context to.after u
          (text context own_held) inside_held (unbroken-right to.broken rest.broken more_unbroken) (part-right world to rest more_part) here_last form
          (forms-tell (ordinal_in world) context.version last env t u b last_is (numbers-here world block visible context to.after u here_last))
          first_told.so.tie last_told.so.tie)))

      for-sound : SoundAmong {A = Unit {0}} {B = Unit {0}} (head.control ∷ among) world block visible Any_value bounds
          (flow.◌>>=◌ (value_walk head.first.value)
          (λ from. flow.◌>>=◌ (value_walk head.last.value) (λ to context. walked_bounds context.tree head walking from to context)))
      for-sound = among-by_tree (head.control ∷ among) world block visible bounds walked_in for-here

    -- ---- case statements

    abbrev arms_walked : State → Option ℕ → List (Vec ℤ Global) → List ProvedStmt → Walking (Unit {0})
    arms_walked base index rows arms = walk.arms_walk base index rows (map statement_walk (bodies arms))

    -- the arm whose constants have the value of the index
    arms-good : (site : ℕ) (base : State) (index : Option ℕ) (n : ℤ) (context : Context) (t : effect.State) → Here world block visible context base t
        → ((root : ℕ) → index ≡ Some root → HasNumber (moment visible t.store) root n) → (rows : List (Vec ℤ Global)) (arms : List ProvedStmt) (behind : State)
        → IsSo (told_all (bodies arms)) records → Text (all_inside (map inside_of (bodies arms))) (all_spare (map spares (bodies arms)))
        → AreControlled (all_inside (map inside_of (bodies arms))).controls visible context → (arms_walked base index rows arms context behind).broken ≡ []
        → IsPartOf world (arms_walked base index rows arms context behind) → meaning.is_among (constants_before (length (bodies arms)) rows) n ≡ true
        → Good world (Foretold world visible context (arms_walked base index rows arms context behind) t.store) t
        (meaning.arm_of site rows (map effect_of (bodies arms)) n env t)
    arms-good site base index n context t here has rows [] behind well text held unbroken part among = absurd (cc)
    arms-good site base index n context t here has [] (arm ∷ arms) behind well text held unbroken part among = absurd (cc)
    arms-good site base index n context t here has (row ∷ rows) (arm ∷ arms) behind well text held unbroken part among =
        let start = at_constants index row.items base in
        let first = statement_walk arm.0 context start in
        let met = walk.arm_walk start (statement_walk arm.0) context behind in
        let rest = arms_walked base index rows arms context (joined_states (table_of context.tree) behind first.after) in
        let whole = followed met rest in
        let own_part = part-left world met rest part in
        let first_part : IsPartOf world first = record { ids = own_part.ids; linked = own_part.linked } in
        let parts = so-first arm.0 (bodies arms) records well in
        let first_inside = inside_of arm.0 in
        let others_inside = all_inside (map inside_of (bodies arms)) in
        let text_parts = text-parts first_inside others_inside (spares arm.0) (all_spare (map spares (bodies arms))) text in
        let action = effect_of arm.0 env in
        let others = meaning.arm_of site rows (map effect_of (bodies arms)) n env in
        let numbers-at = λ (u : effect.State) (fine : Fine world.tree u).
        hold-numbers world.tree world.pairs block t.activations visible u.store here.proper fine.typed in
        by-arm world visible context whole t action others (meaning.is_among row.items n)
        (λ is.
        good-weaker world (Foretold world visible context first t.store) (Foretold world visible context whole t.store) t (action t)
        (λ done u gives told. record {
          tie = tt;
          stands = stands-as world visible context first.after whole.after u.store told.so.stands
              (arms-behind world visible u.store base index rows (map statement_walk (bodies arms)) context
              (joined_states (table_of context.tree) behind first.after) (numbers-at u told.fine)
              (stands-as world visible context first.after (joined_states (table_of context.tree) behind first.after) u.store told.so.stands
              (joined-other world visible context behind first.after u.store (numbers-at u told.fine) told.so.stands))).known;
          kept = told.so.kept;
        })
        (one-sound arm parts.0 text_parts.0 context start t
        (record { control = λ root is. held.control root (among-left root first_inside.controls others_inside.controls is); deep = held.deep })
        (unbroken-left first.broken rest.broken unbroken) first_part
        (here-as world block visible context base start t here
        (at-constants_known (parts_in world) (table_of world.tree) (are-rows world.tree) visible t.store index row.items base n has is here.stands.known))))
        (λ isnt.
        good-weaker world (Foretold world visible context rest t.store) (Foretold world visible context whole t.store) t (others t)
        (λ done u gives told. record { tie = tt; stands = told.so.stands; kept = told.so.kept })
        (arms-good site base index n context t here has rows arms (joined_states (table_of context.tree) behind first.after) parts.1 text_parts.1
        (record { control = λ root is. held.control root (among-right root first_inside.controls others_inside.controls is); deep = held.deep })
        (unbroken-right first.broken rest.broken unbroken)
        (part-right world met rest part)
        (only-other (meaning.is_among row.items n) (meaning.is_among (constants_before (length (bodies arms)) rows) n) isnt
        (sym (first-constants row rows (length (bodies arms)) n) ∙ among))))

    -- the arms of a case from the value of its index
    abbrev from_index : CaseHead → List ProvedStmt → Value → effect.Action (Unit {0})
    from_index head arms v = meaning.arm_of head.site head.constants.items (map effect_of (bodies arms)) (effect.number_of v) env

    abbrev walked_index : Tree → CaseHead → List ProvedStmt → Known → Walking (Unit {0})
    walked_index tree head arms = walk.case_walk tree head (map statement_walk (bodies arms))

    case-good : (head : CaseHead) (arms : List ProvedStmt) (known : Known) (v : Value) (context : Context) (state : State)
        (t : effect.State) → head.site < sites_in world → IsSo (told_all (bodies arms)) records
        → Text (all_inside (map inside_of (bodies arms))) (all_spare (map spares (bodies arms)))
        → AreControlled (all_inside (map inside_of (bodies arms))).controls visible context
        → (walked_index world.tree head arms known context state).broken ≡ []
        → IsPartOf world (walked_index world.tree head arms known context state) → Here world block visible context state t
        → IsOfForm (moment visible t.store) (bound_form (ordinal_in world) context.version head.index) v → IsHeld scalar.Ordinal known v t.store
        → Good world (Foretold world visible context (walked_index world.tree head arms known context state) t.store) t (from_index head arms v t)
    case-good head arms (Ordinal range) (Number n) context state t below well text held unbroken part here form inside =
        let site = head.site in
        let rows = head.constants.items in
        let walks = map statement_walk (bodies arms) in
        let constants = constants_before (length walks) rows in
        let closed = is_covered range constants in
        let passed = common range (hull constants) in
        let test = flow.tested closed site passed context state in
        let tested = walk.index_test site constants range context state in
        let form_is = (condition_of (ordinal_in world) head.index).form in
        let root = walk.index_root world.tree head in
        let rest = walk.arms_walk test.after root rows walks context Dead in
        let whole = walked_index world.tree head arms (Ordinal range) context state in
        let same_length = length-map (bodies arms) statement_walk in
        either-way (meaning.is_among constants n)
        (λ among.
        let base_here = here-as world block visible context state test.after t here
        (nonempty-stands world visible context passed state t.store n
        (common-in range (hull constants) (Number n) inside.0 (among-hull constants n among)) here.stands).known in
        good-weaker world (Foretold world visible context rest t.store) (Foretold world visible context whole t.store) t
        (from_index head arms (Number n) t)
        (λ done u gives told. record { tie = tt; stands = told.so.stands; kept = told.so.kept })
        (arms-good site test.after root n context t base_here (λ r is. entire-number context.version form_is (moment visible t.store) n r form is) rows
        arms Dead well text held (unbroken-right tested.broken rest.broken unbroken) (part-right world tested rest part)
        (subst (λ k. meaning.is_among (constants_before k rows) n ≡ true) same_length among)))
        (λ missing.
        let unclosed : (is_dead state || closed) ≡ true → ⊥ = λ is.
        both_ways (meaning.is_among constants n) missing
        (closed-passes (parts_in world) (variables_in world) visible state t.store closed (meaning.is_among constants n) here.stands.known
        (λ covered_is. covered-among range constants n covered_is inside.0) is) in
        subst (λ (reply : effect.Reply (Unit {0})). Good world (Foretold world visible context whole t.store) t reply)
        (sym (arm-missing site rows (map effect_of (bodies arms)) n env t
        (subst (λ k. meaning.is_among (constants_before k rows) n ≡ false) (same_length ∙ sym (length-map (bodies arms) effect_of)) missing)))
        (record {
          errs = errs-here world site (part.ids site (Contains-append_left tested.open_ids rest.open_ids site
              (Contains-append_left test.open_ids [] site (open-here site (is_dead state || closed) unclosed)))) below;
          new = nothing-new world t.visited;
          gives = tt;
        }))
    case-good head arms (Ordinal range) (Members set) context state t below well text held unbroken part here form inside = absurd inside.0
    case-good head arms (Set hull) v context state t below well text held unbroken part here form inside = absurd (let other = inside.1 in cc)

    module _ (head : CaseHead) (arms : List ProvedStmt) (below : head.site < sites_in world)
        (index_sound : Sound world block visible (IsHeld scalar.Ordinal) (value_of head.index env) (value_walk head.index))
        (well : IsSo (told_all (bodies arms)) records) (text : Text (all_inside (map inside_of (bodies arms))) (all_spare (map spares (bodies arms)))) where
      abbrev case_controls : List ℕ
      case_controls = (all_inside (map inside_of (bodies arms))).controls

      abbrev chosen : effect.Action (Unit {0})
      chosen = effect.◌>>=◌ (value_of head.index env) (from_index head arms)

      case-here : SoundAmong {A = Unit {0}} {B = Unit {0}} case_controls world block visible Any_value chosen
          (flow.◌>>=◌ (value_walk head.index) (walked_index world.tree head arms))
      case-here context state s held unbroken part here =
          let index = head.index in
          let first = value_walk index context state in
          let rest = walked_index world.tree head arms first.value context first.after in
          let finish = from_index head arms in
          let Held = IsHeld scalar.Ordinal in
          good-then world (IsForetold world visible Held context first s.store) (Foretold world visible context (followed first rest) s.store) s
          (value_of index env s) finish
          (index_sound context state s (unbroken-left first.broken rest.broken unbroken) (part-left world first rest part) here)
          (λ v t is told.
          let here_then = here-behind world block visible Held context state first s t v here told in
          good-weaker world (Foretold world visible context rest t.store) (Foretold world visible context (followed first rest) s.store) t (finish v t)
          (λ done u gives then. record {
            tie = tt;
            stands = then.so.stands;
            kept = keeps-then visible context.rounds s.store t.store u.store told.so.kept then.so.kept;
          })
          (case-good head arms first.value v context first.after t below well text held (unbroken-right first.broken rest.broken unbroken)
          (part-right world first rest part) here_then
          (forms-tell (ordinal_in world) context.version index env s t v is (numbers-here world block visible context first.after t here_then)) told.so.tie))

      case-sound : SoundAmong {A = Unit {0}} {B = Unit {0}} case_controls world block visible Any_value chosen
          (flow.◌>>=◌ (value_walk head.index) (λ known context. walked_index context.tree head arms known context))
      case-sound =
          among-by_tree case_controls world block visible chosen (λ (tree : Tree). flow.◌>>=◌ (value_walk head.index) (walked_index tree head arms)) case-here

    -- one layer, where these records are open
    abbrev LayerHere : Stmt-F Stmt → Type 0
    LayerHere x =
        SoundHere (told_layer x) (statement_inside (map-Stmt Stmt Inside inside_of x)) (statement_spares (map-Stmt Stmt Spares spares x))
        (meaning.effect_step (map-Stmt Stmt Execution effect_of x)) (walk.statement_step (map-Stmt Stmt (Walking (Unit {0})) statement_walk x))

    layer-here : (y : Stmt-F ProvedStmt) → LayerHere (map-Stmt ProvedStmt Stmt (λ s. s.0) y)
    layer-here (Empty number) is text =
        plainly [] world block visible (effect.enter number visible) (flow.enter number) (sound-enter world block visible number)
    layer-here (Assign assignment) is text =
        let does = assigned world block env records opened laws calls assignment in
        entered-among [] assignment.number does (walk.assignment_walk assignment)
        (plainly [] world block visible does (walk.assignment_walk assignment)
        (assignment-sound world block env records opened laws calls assignment is.well is.held is.begin))
    layer-here (Copy copying) is text =
        let does = copied world block env records opened laws calls copying in
        entered-among [] copying.number does (walk.copying_walk copying)
        (plainly [] world block visible does (walk.copying_walk copying)
        (copying-sound world block env records opened laws calls copying is.well is.held is.begin))
    layer-here (Write writing) is text =
        let written = meaning.all_of (map parameter_of writing.parameters.items) env in
        let walked = walk.all_of (map parameter_walk writing.parameters.items) in
        let does = effect.◌>>=◌ written (λ done. meaning.line_ended writing.ends_line) in
        entered-among [] writing.number does walked
        (plainly [] world block visible does walked (ended-sound writing.ends_line written walked
        (parameters-sound writing.parameters.items is.well is.held is.begin)))
    layer-here (Read reading) is text =
        let variables = reading.variables.items in
        let well = and_parts (is_well_formed_line outline block reading.line) (all_hold (map (is_well_formed_read outline block) variables)) is.well in
        let walked = walk.all_of (map (walk.read_walk reading.name) variables) in
        let does = effect.◌>>=◌ (meaning.all_of (map meaning.read_of variables) env) (λ done. meaning.line_passed reading.line) in
        entered-among [] reading.number does walked
        (plainly [] world block visible does walked
        (reading-sound world block env records opened laws calls reading.name variables reading.line well.1 is.held is.begin))
    layer-here (Calling calling) is text =
        plainly [] world block visible (meaning.effect_step (map-Stmt Stmt Execution effect_of (Calling calling)) env)
        (walk.statement_step (map-Stmt Stmt (Walking (Unit {0})) statement_walk (Calling calling)))
        (procedure-sound world block env records opened laws calls calling.call calling.actuals.items is.well is.held is.begin)
    layer-here (Compound number statements) is text =
        let inner = map (λ (s : ProvedStmt). s.0) statements.items in
        entered-among (all_inside (map inside_of inner)).controls number (meaning.all_of (map effect_of inner) env) (walk.all_of (map statement_walk inner))
        (all-sound statements.items (record { well = is.well; held = is.held; begin = is.begin }) text)
    layer-here (If number condition consequence None) is text =
        let parts = and_parts (well_expr condition) (well_stmt consequence.value.0 && true) is.well in
        let each = and_parts (well_stmt consequence.value.0) true parts.1 in
        let kinds = and_parts (is_ordinal_expr condition) (is_held_stmt consequence.value.0 && true) is.held in
        let each_kind = and_parts (is_held_stmt consequence.value.0) true kinds.1 in
        let there = and_parts (begins condition records) (begins_in consequence.value.0 records && true) is.begin in
        let each_there = and_parts (begins_in consequence.value.0 records) true there.1 in
        let first = inside_of consequence.value.0 in
        let own = text-parts first no_loop (spares consequence.value.0) (λ roots. true)
        (text-with (both_inside first no_loop) (λ roots. spares_in_expr roots condition && (spares consequence.value.0 roots && true))
        (λ roots. spares consequence.value.0 roots && true)
        (λ roots so. (and_parts (spares_in_expr roots condition) (spares consequence.value.0 roots && true) so).1) text) in
        choice-sound (first.controls ++ []) number condition (effect_of consequence.value.0 env) (effect.give tt) (statement_walk consequence.value.0)
        (flow.give tt) parts.0 kinds.0 there.0
        (among-more first.controls (first.controls ++ []) world block visible (effect_of consequence.value.0 env) (statement_walk consequence.value.0)
        (λ root. among-left root first.controls [])
        (one-sound consequence.value (record { well = each.0; held = each_kind.0; begin = each_there.0 }) own.0))
        (plainly (first.controls ++ []) world block visible (effect.give tt) (flow.give tt)
        (sound-give {A = Unit {0}} {B = Unit {0}} world block visible Any_value tt tt (λ store. tt)))
    layer-here (If number condition consequence (Some alternative)) is text =
        let parts = and_parts (well_expr condition) (well_stmt consequence.value.0 && well_stmt alternative.value.0) is.well in
        let each = and_parts (well_stmt consequence.value.0) (well_stmt alternative.value.0) parts.1 in
        let kinds = and_parts (is_ordinal_expr condition) (is_held_stmt consequence.value.0 && is_held_stmt alternative.value.0) is.held in
        let each_kind = and_parts (is_held_stmt consequence.value.0) (is_held_stmt alternative.value.0) kinds.1 in
        let there = and_parts (begins condition records) (begins_in consequence.value.0 records && begins_in alternative.value.0 records) is.begin in
        let each_there = and_parts (begins_in consequence.value.0 records) (begins_in alternative.value.0 records) there.1 in
        let first = inside_of consequence.value.0 in
        let second = inside_of alternative.value.0 in
        let both = λ (roots : List ℕ). spares consequence.value.0 roots && spares alternative.value.0 roots in
        let own = text-parts first second (spares consequence.value.0) (spares alternative.value.0)
        (text-with (both_inside first second) (λ roots. spares_in_expr roots condition && both roots) both
        (λ roots so. (and_parts (spares_in_expr roots condition) (both roots) so).1) text) in
        let controls = first.controls ++ second.controls in
        choice-sound controls number condition (effect_of consequence.value.0 env) (effect_of alternative.value.0 env) (statement_walk consequence.value.0)
        (statement_walk alternative.value.0) parts.0 kinds.0 there.0
        (among-more first.controls controls world block visible (effect_of consequence.value.0 env) (statement_walk consequence.value.0)
        (λ root. among-left root first.controls second.controls)
        (one-sound consequence.value (record { well = each.0; held = each_kind.0; begin = each_there.0 }) own.0))
        (among-more second.controls controls world block visible (effect_of alternative.value.0 env) (statement_walk alternative.value.0)
        (λ root. among-right root first.controls second.controls)
        (one-sound alternative.value (record { well = each.1; held = each_kind.1; begin = each_there.1 }) own.1))
    layer-here (While head body) is text =
        let parts = and_parts (well_expr head.condition) (well_stmt body.value.0) is.well in
        let kinds = and_parts (is_ordinal_expr head.condition) (is_held_stmt body.value.0) is.held in
        let there = and_parts (begins head.condition records) (begins_in body.value.0 records) is.begin in
        let round = meaning.while_round (value_of head.condition) (effect_of body.value.0) env in
        let walked = λ (tree : Tree). walk.while_round tree head.condition (statement_walk body.value.0) in
        let inside = inside_of body.value.0 in
        let loop = text.loops.0 in
        let told : LoopControls = record { own = None; inside = inside.controls } in
        let own : Text inside (spares body.value.0) = record {
          roots = text.roots;
          spared = (and_parts (spares_in_expr text.roots head.condition) (spares body.value.0 text.roots) text.spared).1;
          loops = text.loops.1;
          controls = text.controls;
        } in
        entered-among inside.controls head.number (effect.looped round tt)
        (λ context. walk.loop_walk head.loop_number head.place None (walked context.tree) context)
        (among-by_tree inside.controls world block visible (effect.looped round tt)
        (λ (tree : Tree). walk.loop_walk head.loop_number head.place None (walked tree))
        (sound-loop inside.controls world block visible head.loop_number head.place round tt (walked world.tree)
        (inside-entire head.loop_number told (controls-ordinal world.tree block body.value.0 parts.1) loop)
        (loop.0, loop.1, loop.2) (inside-told world.tree block head.loop_number told loop) (kind-told world.tree block head.loop_number told loop)
        (λ a. sound-while inside.controls world block env head.condition (effect_of body.value.0) (statement_walk body.value.0)
        (condition-sound world block env records opened laws calls head.condition parts.0 kinds.0 there.0)
        (one-sound body.value (record { well = parts.1; held = kinds.1; begin = there.1 }) own))))
    layer-here (Repeat head statements) is text =
        let inner = map (λ (s : ProvedStmt). s.0) statements.items in
        let parts = and_parts (all_hold (map well_stmt inner)) (well_expr head.condition) is.well in
        let kinds = and_parts (all_hold (map is_held_stmt inner)) (is_ordinal_expr head.condition) is.held in
        let there = and_parts (all_begin (map begins_in inner) records) (begins head.condition records) is.begin in
        let body = meaning.all_of (map effect_of inner) in
        let turned = walk.all_of (map statement_walk inner) in
        let round = meaning.repeat_round body (value_of head.condition) env in
        let walked = λ (tree : Tree). walk.repeat_round tree turned head.condition in
        let inside = all_inside (map inside_of inner) in
        let loop = text.loops.0 in
        let told : LoopControls = record { own = None; inside = inside.controls } in
        let own : Text inside (all_spare (map spares inner)) = record {
          roots = text.roots;
          spared = (and_parts (all_spare (map spares inner) text.roots) (spares_in_expr text.roots head.condition) text.spared).0;
          loops = text.loops.1;
          controls = text.controls;
        } in
        entered-among inside.controls head.number (effect.looped round tt)
        (λ context. walk.loop_walk head.loop_number head.place None (walked context.tree) context)
        (among-by_tree inside.controls world block visible (effect.looped round tt)
        (λ (tree : Tree). walk.loop_walk head.loop_number head.place None (walked tree))
        (sound-loop inside.controls world block visible head.loop_number head.place round tt (walked world.tree)
        (inside-entire head.loop_number told (all-ordinal world.tree block inner parts.0) loop)
        (loop.0, loop.1, loop.2) (inside-told world.tree block head.loop_number told loop) (kind-told world.tree block head.loop_number told loop)
        (λ a. sound-repeat inside.controls world block env head.condition body turned
        (all-sound statements.items (record { well = parts.0; held = kinds.0; begin = there.0 }) own)
        (condition-sound world block env records opened laws calls head.condition parts.1 kinds.1 there.1))))
    layer-here (For head body) is text =
        let control = head.control in
        let first = head.first in
        let last = head.last in
        let is_test = λ (fits : RangeTest). fits_target outline block fits (AtVariable control) [] in
        let is_body = well_stmt body.value.0 in
        let leads = leads_to_ordinal outline block (AtVariable control) [] 0 in
        let one = and_parts (is_control outline block control)
        (well_expr first.value && (is_test first.fits && (well_expr last.value && (is_test last.fits && is_body)))) is.well in
        let two = and_parts (well_expr first.value) (is_test first.fits && (well_expr last.value && (is_test last.fits && is_body))) one.1 in
        let three = and_parts (is_test first.fits) (well_expr last.value && (is_test last.fits && is_body)) two.1 in
        let four = and_parts (well_expr last.value) (is_test last.fits && is_body) three.1 in
        let five = and_parts (is_test last.fits) is_body four.1 in
        let kinds = and_parts (is_ordinal_expr first.value) (is_ordinal_expr last.value && is_held_stmt body.value.0) is.held in
        let more_kinds = and_parts (is_ordinal_expr last.value) (is_held_stmt body.value.0) kinds.1 in
        let there = and_parts (begins first.value records) (begins last.value records && begins_in body.value.0 records) is.begin in
        let more_there = and_parts (begins last.value records) (begins_in body.value.0 records) there.1 in
        let leads_there = (and_parts (is_declared outline block is_local_kind control) leads one.0).1 in
        let execution = effect_of body.value.0 in
        let inside = inside_of body.value.0 in
        let loop = text.loops.0 in
        let told : LoopControls = record { own = Some control; inside = inside.controls } in
        let so = λ (roots : List ℕ). spares body.value.0 (control ∷ roots) in
        let so_one = and_parts (is_none_of text.roots control)
        (spares_in_expr text.roots first.value && (spares_in_expr text.roots last.value && so text.roots)) text.spared in
        let so_two = and_parts (spares_in_expr text.roots first.value) (spares_in_expr text.roots last.value && so text.roots) so_one.1 in
        let so_three = and_parts (spares_in_expr text.roots last.value) (so text.roots) so_two.1 in
        let own : Text inside (spares body.value.0) = record {
          roots = control ∷ text.roots;
          spared = so_three.1;
          loops = text.loops.1;
          controls = λ root among. text.controls root (or_right (nat_eq control root) (is_among root inside.controls) among);
        } in
        let variable = control-declared world.tree block control one.0 in
        let controls : Controls world.tree block control = record {
          body = own_block;
          block_is = own_is;
          among = text.controls control (or_left (nat_eq control control) (is_among control inside.controls) (eq-eqb control control refl));
          variable = variable.0;
          variable_is = variable.1;
          own = variable.2;
        } in
        let of_text : (context : Context) → all_control control context.rounds ≡ true → IsControl world block env execution context control =
        λ context all. record {
          seen = control-seen world.tree block control one.0;
          ordinal = control-ordinal world.tree block control one.0;
          hidden = λ alias among. hidden control alias one.0 among;
          controls = all;
          left = λ place alone finished.
              let inner = within_for env finished in
              keeps-turned (watching place visible) visible.turns inner.visible.turns (execution inner)
              (text-kept (watching place visible) does
              (λ turns. spared_by block control controls place (record visible { turns = turns }) alone) outline block refl body.value.0
              inner.visible.turns records places
              (lie-open world block visible records places opened) five.1 more_there.1 (control ∷ text.roots)
              (others-alone place control text.roots visible alone) so_three.1);
        } in
        entered-among (control ∷ inside.controls) head.number
        (effect.◌>>=◌ (value_of first.value env) (λ a. effect.◌>>=◌ (value_of last.value env) (from_bounds head execution a)))
        (flow.◌>>=◌ (value_walk first.value)
        (λ from. flow.◌>>=◌ (value_walk last.value) (λ to context. walked_bounds context.tree head (statement_walk body.value.0) from to context)))
        (for-sound head execution (statement_walk body.value.0) inside.controls (inside-told world.tree block head.loop_number told loop)
        (kind-told world.tree block head.loop_number told loop)
        (one-inside body.value (record { well = five.1; held = more_kinds.1; begin = more_there.1 }) own) of_text
        (ordinal-entire world.tree (control ∷ controls_inside world.tree head.loop_number)
        (one-ordinal world.tree control (controls_inside world.tree head.loop_number) (control-ordinal world.tree block control one.0)
        (inside-ordinal world.tree block head.loop_number told (controls-ordinal world.tree block body.value.0 five.1) loop)))
        (loop.0, loop.1, loop.2) (ordinal-sound first.value two.0 kinds.0 there.0) (control-tested control first.fits three.0 leads_there)
        (ordinal-sound last.value four.0 more_kinds.0 more_there.0) (control-tested control last.fits five.0 leads_there))
    layer-here (Case head arms) is text =
        let inner = bodies arms.items in
        let constants = head.constants.items in
        let one = and_parts (nat_lt head.site (sites_in world)) (well_expr head.index && (list_all are_whole constants && all_hold (map well_stmt inner)))
        is.well in
        let two = and_parts (well_expr head.index) (list_all are_whole constants && all_hold (map well_stmt inner)) one.1 in
        let three = and_parts (list_all are_whole constants) (all_hold (map well_stmt inner)) two.1 in
        let kinds = and_parts (is_ordinal_expr head.index) (all_hold (map is_held_stmt inner)) is.held in
        let there = and_parts (begins head.index records) (all_begin (map begins_in inner) records) is.begin in
        let so = all_spare (map spares inner) in
        let own = text-with (all_inside (map inside_of inner)) (λ roots. spares_in_expr roots head.index && so roots) so
        (λ roots is. (and_parts (spares_in_expr roots head.index) (so roots) is).1) text in
        entered-among (all_inside (map inside_of inner)).controls head.number (effect.◌>>=◌ (value_of head.index env) (from_index head arms.items))
        (flow.◌>>=◌ (value_walk head.index) (λ known context. walked_index context.tree head arms.items known context))
        (case-sound head arms.items (ltb-true head.site (sites_in world) one.0) (ordinal-sound head.index two.0 kinds.0 there.0)
        (record { well = three.1; held = kinds.1; begin = there.1 }) own)
    layer-here (With head body) is text =
        let list = head.records.items in
        let inner = body.value.0 in
        let inside = inside_of inner in
        let parts = and_parts (all_hold (map (is_well_formed_record outline block) list)) (well_stmt inner) is.well in
        let kinds = and_parts (all_hold (map is_held_record list)) (is_held_stmt inner) is.held in
        let there = and_parts (nat_eq head.first_slot (length records)) (with_begins list (begins_in inner) records) is.begin in
        let own = text-with inside (λ roots. all_so (map (spares_in_record roots) list) && spares inner roots) (spares inner)
        (λ roots so. (and_parts (all_so (map (spares_in_record roots) list)) (spares inner roots) so).1) text in
        entered-among inside.controls head.number
        (effect.◌>>=◌ (meaning.opened list env) (λ found. effect_of inner (around visible found))) (walk.with_walk head (statement_walk inner))
        (among-after inside.controls world block visible (AreOpen world block visible (behind list records)) (meaning.opened list env)
        (λ found. effect_of inner (around visible found)) (walk.all_of (map walk.record_walk list)) (statement_walk inner)
        (opened-sound world block visible does laws calls list records places opened parts.0 kinds.0 (begins_in inner) there.1)
        (λ found are.
        body.value.1 visible (behind list records) found are
        (record { well = parts.1; held = kinds.1; begin = with-begun list (begins_in inner) records there.1 }) own))

  abbrev StmtLayer : Stmt-F Stmt → Type 0
  StmtLayer x =
      SoundStatement (told_layer x) (statement_inside (map-Stmt Stmt Inside inside_of x)) (statement_spares (map-Stmt Stmt Spares spares x))
      (meaning.effect_step (map-Stmt Stmt Execution effect_of x)) (walk.statement_step (map-Stmt Stmt (Walking (Unit {0})) statement_walk x))

  statement-layer : (y : Stmt-F ProvedStmt) → StmtLayer (map-Stmt ProvedStmt Stmt (λ s. s.0) y)
  statement-layer y visible records places opened = layer-here visible records places opened y

  along-statement : {told other_told : Told} {inside other : Inside} {so also : Spares} {execution executed : Execution} {walking walked : Walking (Unit {0})}
      → told ≡ other_told → inside ≡ other → so ≡ also → execution ≡ executed → walking ≡ walked → SoundStatement other_told other also executed walked
      → SoundStatement told inside so execution walking
  along-statement {told} {other_told} {inside} {other} {so} {also} {execution} {executed} {walking} {walked} zero one two three four sound =
      subst (λ (t : Told). SoundStatement t inside so execution walking) (sym zero)
      (subst (λ (i : Inside). SoundStatement other_told i so execution walking) (sym one)
      (subst (λ (z : Spares). SoundStatement other_told other z execution walking) (sym two)
      (subst (λ (e : Execution). SoundStatement other_told other also e walking) (sym three)
      (subst (λ (w : Walking (Unit {0})). SoundStatement other_told other also executed w) (sym four) sound))))

  told-rolled : (x : Stmt-F Stmt) → told_of (roll-Stmt x) ≡ told_layer x
  told-rolled x =
      ap₂ (λ (w h : Bool). record { well = w; held = h; begin = begins_in (roll-Stmt x) }) (fold-roll-Stmt Bool (stmt_is_well_formed outline block) x)
      (fold-roll-Stmt Bool statement_held x)
      ∙ ap (λ (b : Begin). record {
        well = stmt_is_well_formed outline block (map-Stmt Stmt Bool well_stmt x);
        held = statement_held (map-Stmt Stmt Bool is_held_stmt x);
        begin = b;
      }) (fold-roll-Stmt Begin statement_begins x)

  rolled-stmt : (x : Stmt-F Stmt) → StmtLayer x → StatementIsSound (roll-Stmt x)
  rolled-stmt x =
      along-statement (told-rolled x) (fold-roll-Stmt Inside statement_inside x) (fold-roll-Stmt Spares statement_spares x)
      (fold-roll-Stmt Execution meaning.effect_step x) (fold-roll-Stmt (Walking (Unit {0})) walk.statement_step x)

  each-statement : (s : Stmt) → StatementIsSound s
  each-statement =
      ind-Stmt StatementIsSound
      (λ x y is. subst (λ (z : Stmt-F Stmt). StatementIsSound (roll-Stmt z)) is (rolled-stmt (map-Stmt ProvedStmt Stmt (λ s. s.0) y) (statement-layer y)))

  -- a statement that is well formed, whose operands are as they are taken, and in which accesses begin at records that are open
  pub statement-sound : (visible : Environment) (s : Stmt) → well_stmt s ≡ true → is_held_stmt s ≡ true → begins_in s [] ≡ true → Text (inside_of s) (spares s)
      → SoundAmong {A = Unit {0}} {B = Unit {0}} (inside_of s).controls world block visible Any_value (effect_of s (around visible [])) (statement_walk s)
  statement-sound visible s well held begin text = each-statement s visible [] [] tt (record { well = well; held = held; begin = begin }) text
