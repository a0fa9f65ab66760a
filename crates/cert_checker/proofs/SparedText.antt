-- What a statement does itself, and the calls in it, leave as it was by its text: it changes no variables that it spares.
use Rattle.std.specs.Prelude.{if◌then◌else◌, not}
use Rattle.std.specs.List.{list_all, list_any}
use Rattle.std.proofs.Common.{◌≡◌, ◌∙◌, ℕ, ℤ, pos, List, [], ◌∷◌, ◌++◌, length, nat_lt, Bool, true, false, ◌&&◌, ◌||◌, Option, Some, None, Vec, Global}
use Rattle.std.proofs.Common.{map, nat_eq, arith}
use Rattle.std.proofs.Common.{refl, sym, ap, subst}
use Rattle.std.proofs.lemmas.Bool.{and_parts}
use Rattle.types.specs.Components.{components_of}
use Rattle.types.specs.declared.form.Step.TheVariants as step
use Rattle.typed_tree.specs.declared.tree.Access.{Access}
use Rattle.typed_tree.specs.declared.tree.Call.{Call}
use Rattle.typed_tree.specs.declared.tree.Designator.{Designator}
use Rattle.typed_tree.specs.declared.tree.Designator.TheVariants.{Single, Range}
use Rattle.typed_tree.specs.declared.tree.ForHead.{ForHead}
use Rattle.typed_tree.specs.declared.tree.RangeTest.{RangeTest}
use Rattle.typed_tree.specs.declared.tree.ReadVariable.{ReadVariable}
use Rattle.typed_tree.specs.declared.tree.Selector.{Selector}
use Rattle.typed_tree.specs.declared.tree.Selector.TheVariants.{Element, Field}
use Rattle.typed_tree.specs.declared.tree.Whole.{Whole}
use Rattle.typed_tree.specs.declared.tree.Whole.TheVariants.{Text, Variable as VariableOf}
use Rattle.typed_tree.specs.declared.tree.Width.{Width}
use Rattle.typed_tree.specs.declared.tree.WithRecord.{WithRecord}
use Rattle.typed_tree.specs.declared.tree.WriteParameter.{WriteParameter}
use Rattle.typed_tree.specs.declared.tree.Written.{Written}
use Rattle.typed_tree.specs.declared.tree.Written.TheVariants.{Ordinal as OrdinalOf, String}
use Rattle.typed_tree.specs.declared.tree.Expr.{Expr}
use Rattle.typed_tree.specs.declared.tree.Link.{Link}
use Rattle.typed_tree.specs.declared.tree.Passed.{Passed}
use Rattle.typed_tree.specs.declared.tree.Expr.TheOpen.{Expr-F, Passed-F, Link-F}
use Rattle.typed_tree.specs.declared.tree.Expr.TheOpen.Expr-F.{Constant, Variable, Monadic as MonadicOf, Chain, Compare, Call as CallOf, Set as SetOf}
use Rattle.typed_tree.specs.declared.tree.Expr.TheOpen.Expr-F.{Input as InputOf}
use Rattle.typed_tree.specs.declared.tree.Expr.TheOpen.Passed-F.{Value as PassedValue, Whole as PassedWhole, Reference}
use Rattle.typed_tree.specs.declared.tree.Expr.TheFolds.{map-Expr, map-Passed, map-Link, fold-roll-Expr, fold-roll-Passed, fold-roll-Link}
use Rattle.typed_tree.specs.declared.tree.Expr.TheFolds.{fold-Link, ind-Expr, ind-Passed}
use Rattle.typed_tree.specs.declared.tree.Expr.TheViews.{roll-Expr, roll-Passed, roll-Link}
use Rattle.typed_tree.specs.declared.tree.Stmt.{Stmt}
use Rattle.typed_tree.specs.declared.tree.Stmt.TheOpen.{Stmt-F}
use Rattle.typed_tree.specs.declared.tree.Stmt.TheOpen.Stmt-F.{Empty, Assign, Copy, Write, Compound, If, While, Repeat, For, Case, Call as Calling, With, Read}
use Rattle.typed_tree.specs.declared.tree.Stmt.TheFolds.{map-Stmt, fold-roll-Stmt, ind-Stmt}
use Rattle.typed_tree.specs.declared.tree.Stmt.TheViews.{roll-Stmt}
use Rattle.typed_tree.specs.Threats.{Spares, all_so, all_spare, expr_spares, indexes_so, is_none_of, link_spares, passed_spares, spares, spares_in_expr}
use Rattle.typed_tree.specs.Threats.{spares_in_indexes, spares_in_link, spares_in_parameter, spares_in_passed, spares_in_whole, spares_in_width}
use Rattle.typed_tree.specs.Threats.{spares_in_read, spares_in_record, spares_in_written, statement_spares}
use Rattle.typed_tree.specs.Accesses.{AtVariable, origin_of, root_of}
use Rattle.typed_tree.specs.Records.{Begin, OpenRecord, accesses_begin, all_begin, begins, begins_in, expression_begins, is_there, link_begins, opened_by}
use Rattle.typed_tree.specs.Records.{parameter_begins, passed_begin, passed_begins, statement_begins, value_begins, whole_begins, width_begins, with_begins}
use Rattle.typed_tree.specs.Records.{read_begins, written_begins}
use Rattle.typed_tree.specs.WellFormed.{Outline, all_hold, are_whole, fits_target, is_control, is_well_formed_expr, is_well_formed_record, is_well_formed_stmt}
use Rattle.typed_tree.specs.WellFormed.{length_of, stmt_is_well_formed}
use Rattle.meaning.specs.declared.outcome.Ending.TheVariants as ending
use Rattle.meaning.specs.declared.value.Value.{Value}
use Rattle.meaning.specs.declared.value.Value.TheVariants.{Members, Number}
use Rattle.meaning.specs.Integers.{truth}
use Rattle.meaning.specs.Kinds.{LieOpen}
use Rattle.meaning.specs.Counting.{has_values, value_behind, values_before}
use Rattle.meaning.specs.Store.{Place, part}
use Rattle.meaning.specs.Effect.{Action, give, is_in, is_positive, number_of, require, row_text, text_of}
use Rattle.meaning.specs.Effect as effect
use Rattle.meaning.specs.Meaning.{Argument, Calls, Combination, Evaluation, Execution, Passing, Surroundings, accessed, all_passed, call_of, compared}
use Rattle.meaning.specs.Meaning.{begun, default_width, effect_of, effect_step, in_turn, link_of, link_step, operated, parameter_of, passed_step}
use Rattle.meaning.specs.Meaning.{gathered, passing_of, selected, value_of, value_step, values_of, whole_of, width_of, written_of, OfPlace, OfRow}
use Rattle.meaning.specs.Meaning as meaning
use Rattle.checker_expressions.proofs.EffectsKept.{CanGive, IsOwn, Keeps, MayChange, MayWriteTo, Standing, can-then, given-same, own-write, under-write}
use Rattle.checker_expressions.proofs.EffectsKept.{keeps-asked, keeps-enter, keeps-fetch, keeps-fetch_all, keeps-give, keeps-line_ended, keeps-line_passed}
use Rattle.checker_expressions.proofs.EffectsKept.{keeps-looped, keeps-operated, keeps-operated_both, keeps-read_as, keeps-require, keeps-stop, keeps-store}
use Rattle.checker_expressions.proofs.EffectsKept.{keeps-store_all, keeps-then, keeps-turn, keeps-undefine, keeps-unless_outside, keeps-valued, keeps-when}
use Rattle.checker_expressions.proofs.EffectsKept.{keeps-turned, keeps-with_one, keeps-with_range, keeps-write, turned}
use Rattle.checker_calls.proofs.Origins.{root_is}
use Rattle.checker_expressions.proofs.Effects.{under-accessed}
use Rattle.cert_checker.proofs.OpenedBehind.{all-opened, behind, one-opened, with-begun, with-parts}

-- a variable that is passed may be written
abbrev pub MayPass : Standing → Argument → Type 0
MayPass at (meaning.OfValue v) = Unit {0}
MayPass at (OfRow values) = Unit {0}
MayPass at (OfPlace found) = MayWriteTo at found

abbrev pub AllMayPass : Standing → List Argument → Type 0
AllMayPass at [] = Unit {0}
AllMayPass at (argument ∷ arguments) = MayPass at argument × AllMayPass at arguments

-- calls to which such variables are passed leave what may not be changed
abbrev pub CallsKeep : Standing → Calls → Type 0
CallsKeep at calls = (number : ℕ) (arguments : List Argument) → AllMayPass at arguments → Keeps at (calls number arguments at.visible)

-- all but these variables may be changed
abbrev pub MayChangeOthers : Standing → List ℕ → Type 0
MayChangeOthers at roots = (root : ℕ) → is_none_of roots root ≡ true → MayChange at root

module _ (at : Standing) (calls : Calls) (called : CallsKeep at calls) where
  abbrev around : List (Option Place) → Surroundings
  around places = record { visible = at.visible; records = places; calls = calls }

  module _ (opened : List OpenRecord) (places : List (Option Place)) (lie : LieOpen at.visible opened places) (roots : List ℕ)
      (others : MayChangeOthers at roots) where
    abbrev here : Surroundings
    here = around places

    abbrev begin_link : Link → Begin
    begin_link = fold-Link Begin Begin Begin expression_begins passed_begins link_begins

    -- ---- expressions

    abbrev IsKept : Expr → Type 0
    IsKept e = begins e opened ≡ true → spares_in_expr roots e ≡ true → Keeps at (value_of e here)

    pub record KeepsPassed (passing : Passing) : Type 0 where
      pub kept : Keeps at (passing here)
      pub may : (argument : Argument) → CanGive (passing here) argument → MayPass at argument

    abbrev IsKeptPassed : Passed → Type 0
    IsKeptPassed p = passed_begin p opened ≡ true → spares_in_passed roots p ≡ true → KeepsPassed (passing_of p)

    abbrev IsKeptLink : Link → Type 0
    IsKeptLink l = begin_link l opened ≡ true → spares_in_link roots l ≡ true → (v : Value) → Keeps at (link_of l here v)

    abbrev KeptExpr : Type 0
    KeptExpr = (e : Expr) × IsKept e

    abbrev KeptPassed : Type 0
    KeptPassed = (p : Passed) × IsKeptPassed p

    abbrev KeptLink : Type 0
    KeptLink = (l : Link) × IsKeptLink l

    abbrev bare_exprs : List KeptExpr → List Expr
    bare_exprs indexes = map (λ e. e.0) indexes

    -- they begin at what is there
    abbrev ThereAll : List KeptExpr → Type 0
    ThereAll indexes = all_begin (map begins (bare_exprs indexes)) opened ≡ true

    there-next : (one : KeptExpr) (more : List KeptExpr) → ThereAll (one ∷ more) → (begins one.0 opened ≡ true) × ThereAll more
    there-next one more there = and_parts (begins one.0 opened) (all_begin (map begins (bare_exprs more)) opened) there

    access-there : (access : Access) (indexes : List KeptExpr) → (all_begin (map begins (bare_exprs indexes)) opened && is_there opened (origin_of access))
        ≡ true
        → ThereAll indexes × (is_there opened (origin_of access) ≡ true)
    access-there access indexes begin = and_parts (all_begin (map begins (bare_exprs indexes)) opened) (is_there opened (origin_of access)) begin

    keeps-selected : (selectors : List Selector) (indexes : List KeptExpr) (found : Option Place) → ThereAll indexes
        → spares_in_indexes roots (bare_exprs indexes) ≡ true → Keeps at (selected selectors (values_of (bare_exprs indexes)) here found)
    keeps-selected [] indexes found there so = keeps-give at found
    keeps-selected (Field position offset ∷ selectors) indexes found there so =
        keeps-selected selectors indexes (part found (step.Field position ∷ [])) there so
    keeps-selected (Element fits cells ∷ selectors) [] found there so = keeps-give at None
    keeps-selected (Element fits cells ∷ selectors) (index ∷ indexes) found there so =
        let parts = and_parts (spares_in_expr roots index.0) (spares_in_indexes roots (bare_exprs indexes)) so in
        let begin = there-next index indexes there in
        keeps-then at _ _ (index.1 begin.0 parts.0)
        (λ v. keeps-then at _ _ (keeps-require at (is_in fits.range v) fits.site)
        (λ _. keeps-selected selectors indexes (part found (step.Element (number_of v) ∷ [])) begin.1 parts.1))

    keeps-accessed : (access : Access) (indexes : List KeptExpr) → ThereAll indexes → spares_in_indexes roots (bare_exprs indexes) ≡ true
        → Keeps at (accessed access (values_of (bare_exprs indexes)) here)
    keeps-accessed access indexes there so =
        keeps-then at _ _ (keeps-enter at access.number at.visible)
        (λ _. keeps-selected access.selectors.items indexes (begun (origin_of access) here) there so)

    -- what is accessed of a variable that isn't spared may be written
    pub write-accessed : (access : Access) (indexes : List Evaluation) → is_there opened (origin_of access) ≡ true → is_none_of roots access.root ≡ true
        → (found : Option Place) → CanGive (accessed access indexes here) found → MayWriteTo at found
    write-accessed access indexes there so found given =
        under-write at (root_of (origin_of access)) found (others (root_of (origin_of access)) (ap (is_none_of roots) (root_is access) ∙ so))
        (under-accessed at.visible places calls opened lie access there indexes found given)

    keeps-components : (value : Whole) (indexes : List KeptExpr) → whole_begins value (map begins (bare_exprs indexes)) opened ≡ true
        → indexes_so value (map (spares_in_expr roots) (bare_exprs indexes)) ≡ true
        → Keeps at (whole_of value (values_of (bare_exprs indexes)) here)
    keeps-components (Text number characters) indexes begin so =
        keeps-then at _ _ (keeps-enter at number at.visible) (λ _. keeps-give at (map (λ c. Number (pos c)) characters.items))
    keeps-components (VariableOf access type_id cells defined) indexes begin so =
        keeps-then at _ _ (keeps-accessed access indexes (access-there access indexes begin).0 so)
        (λ found. keeps-fetch_all at found (components_of at.visible.types type_id) defined)

    -- member expressions of a set constructor
    keeps-gathered : (designators : List Designator) (members : List KeptExpr) (set : ℕ) → ThereAll members
        → all_so (map (spares_in_expr roots) (bare_exprs members)) ≡ true → Keeps at (gathered designators (values_of (bare_exprs members)) here set)
    keeps-gathered [] members set there so = keeps-give at set
    keeps-gathered (Single site ∷ designators) [] set there so = keeps-give at set
    keeps-gathered (Single site ∷ designators) (member ∷ members) set there so =
        let parts = and_parts (spares_in_expr roots member.0) (all_so (map (spares_in_expr roots) (bare_exprs members))) so in
        let begin = there-next member members there in
        keeps-then at _ _ (member.1 begin.0 parts.0)
        (λ v. keeps-then at _ _ (keeps-with_one at site v set) (λ more. keeps-gathered designators members more begin.1 parts.1))
    keeps-gathered (Range site ∷ designators) [] set there so = keeps-give at set
    keeps-gathered (Range site ∷ designators) (first ∷ []) set there so = keeps-give at set
    keeps-gathered (Range site ∷ designators) (first ∷ last ∷ members) set there so =
        let rest = all_so (map (spares_in_expr roots) (bare_exprs members)) in
        let parts = and_parts (spares_in_expr roots first.0) (spares_in_expr roots last.0 && rest) so in
        let parts_last = and_parts (spares_in_expr roots last.0) rest parts.1 in
        let begin = there-next first (last ∷ members) there in
        let begin_last = there-next last members begin.1 in
        keeps-then at _ _ (first.1 begin.0 parts.0)
        (λ a. keeps-then at _ _ (last.1 begin_last.0 parts_last.0)
        (λ b. keeps-then at _ _ (keeps-with_range at site a b set) (λ more. keeps-gathered designators members more begin_last.1 parts_last.1)))

    abbrev bare_actuals : List KeptPassed → List Passed
    bare_actuals actuals = map (λ p. p.0) actuals

    -- actual parameters begin at what is there
    abbrev ThereActuals : List KeptPassed → Type 0
    ThereActuals actuals = all_begin (map passed_begin (bare_actuals actuals)) opened ≡ true

    there-actuals : (one : KeptPassed) (rest : List KeptPassed) → ThereActuals (one ∷ rest) → (passed_begin one.0 opened ≡ true) × ThereActuals rest
    there-actuals one rest there = and_parts (passed_begin one.0 opened) (all_begin (map passed_begin (bare_actuals rest)) opened) there

    keeps-passed : (actuals : List KeptPassed) → ThereActuals actuals → all_so (map (spares_in_passed roots) (bare_actuals actuals)) ≡ true
        → Keeps at (all_passed (map passing_of (bare_actuals actuals)) here)
    keeps-passed [] there so = keeps-give at []
    keeps-passed (one ∷ rest) there so =
        let parts = and_parts (spares_in_passed roots one.0) (all_so (map (spares_in_passed roots) (bare_actuals rest))) so in
        let begin = there-actuals one rest there in
        keeps-then at _ _ (one.1 begin.0 parts.0).kept
        (λ argument. keeps-then at _ _ (keeps-passed rest begin.1 parts.1) (λ arguments. keeps-give at (argument ∷ arguments)))

    may-passed : (actuals : List KeptPassed) → ThereActuals actuals → all_so (map (spares_in_passed roots) (bare_actuals actuals)) ≡ true
        → (arguments : List Argument) → CanGive (all_passed (map passing_of (bare_actuals actuals)) here) arguments → AllMayPass at arguments
    may-passed [] there so arguments given = subst (AllMayPass at) (given-same [] arguments given) tt
    may-passed (one ∷ rest) there so arguments given =
        let parts = and_parts (spares_in_passed roots one.0) (all_so (map (spares_in_passed roots) (bare_actuals rest))) so in
        let begin = there-actuals one rest there in
        let later = all_passed (map passing_of (bare_actuals rest)) here in
        let first = can-then (passing_of one.0 here) (λ argument. effect.◌>>=◌ later (λ more. give (argument ∷ more))) arguments given in
        let second = can-then later (λ more. give (first.0 ∷ more)) arguments first.2 in
        subst (AllMayPass at) (given-same (first.0 ∷ second.0) arguments second.2)
        ((one.1 begin.0 parts.0).may first.0 first.1, may-passed rest begin.1 parts.1 second.0 second.1)

    keeps-calling : (call : Call) (actuals : List KeptPassed) → ThereActuals actuals
        → all_so (map (spares_in_passed roots) (bare_actuals actuals)) ≡ true
        → Keeps at (call_of call (map passing_of (bare_actuals actuals)) here)
    keeps-calling call actuals there so =
        keeps-then at _ _ (keeps-enter at call.number at.visible)
        (λ _. keeps-when at _ _ (keeps-passed actuals there so)
        (λ arguments given. called call.block arguments (may-passed actuals there so arguments given)))

    keeps-in_turn : (links : List KeptLink) (v : Value) → all_begin (map begin_link (map (λ l. l.0) links)) opened ≡ true
        → all_so (map (spares_in_link roots) (map (λ l. l.0) links)) ≡ true
        → Keeps at (in_turn (map link_of (map (λ l. l.0) links)) here v)
    keeps-in_turn [] v there so = keeps-give at v
    keeps-in_turn (link ∷ links) v there so =
        let parts = and_parts (spares_in_link roots link.0) (all_so (map (spares_in_link roots) (map (λ l. l.0) links))) so in
        let begin = and_parts (begin_link link.0 opened) (all_begin (map begin_link (map (λ (l : KeptLink). l.0) links)) opened) there in
        keeps-then at _ _ (link.1 begin.0 parts.0 v) (λ w. keeps-in_turn links w begin.1 parts.1)

    -- one layer
    abbrev bare : Expr-F KeptExpr KeptPassed KeptLink → Expr-F Expr Passed Link
    bare = map-Expr KeptExpr KeptPassed KeptLink Expr Passed Link (λ e. e.0) (λ p. p.0) (λ l. l.0)

    abbrev bare_passed : Passed-F KeptExpr KeptPassed KeptLink → Passed-F Expr Passed Link
    bare_passed = map-Passed KeptExpr KeptPassed KeptLink Expr Passed Link (λ e. e.0) (λ p. p.0) (λ l. l.0)

    abbrev bare_link : Link-F KeptExpr KeptPassed KeptLink → Link-F Expr Passed Link
    bare_link = map-Link KeptExpr KeptPassed KeptLink Expr Passed Link (λ e. e.0) (λ p. p.0) (λ l. l.0)

    abbrev spared : Expr-F Expr Passed Link → Bool
    spared x = expr_spares roots (map-Expr Expr Passed Link Bool Bool Bool (spares_in_expr roots) (spares_in_passed roots) (spares_in_link roots) x)

    abbrev valued : Expr-F Expr Passed Link → Evaluation
    valued x = value_step (map-Expr Expr Passed Link Evaluation Passing Combination value_of passing_of link_of x)

    abbrev spared_passed : Passed-F Expr Passed Link → Bool
    spared_passed x = passed_spares roots (map-Passed Expr Passed Link Bool Bool Bool (spares_in_expr roots) (spares_in_passed roots) (spares_in_link roots) x)

    abbrev valued_passed : Passed-F Expr Passed Link → Passing
    valued_passed x = passed_step (map-Passed Expr Passed Link Evaluation Passing Combination value_of passing_of link_of x)

    abbrev spared_link : Link-F Expr Passed Link → Bool
    spared_link x = link_spares roots (map-Link Expr Passed Link Bool Bool Bool (spares_in_expr roots) (spares_in_passed roots) (spares_in_link roots) x)

    abbrev valued_link : Link-F Expr Passed Link → Combination
    valued_link x = link_step (map-Link Expr Passed Link Evaluation Passing Combination value_of passing_of link_of x)

    -- a form begins at what is there
    abbrev begin_of : Expr-F Expr Passed Link → Begin
    begin_of x = expression_begins (map-Expr Expr Passed Link Begin Begin Begin begins passed_begin begin_link x)

    abbrev begin_passed : Passed-F Expr Passed Link → Begin
    begin_passed x = passed_begins (map-Passed Expr Passed Link Begin Begin Begin begins passed_begin begin_link x)

    abbrev begin_behind : Link-F Expr Passed Link → Begin
    begin_behind x = link_begins (map-Link Expr Passed Link Begin Begin Begin begins passed_begin begin_link x)

    layer : (y : Expr-F KeptExpr KeptPassed KeptLink) → begin_of (bare y) opened ≡ true → spared (bare y) ≡ true → Keeps at (valued (bare y) here)
    layer (Constant number value) begin so = keeps-then at _ _ (keeps-enter at number at.visible) (λ _. keeps-give at (Number value))
    layer (Variable access indexes holds defined) begin so =
        keeps-then at _ _ (keeps-accessed access indexes.items (access-there access indexes.items begin).0 so) (λ found. keeps-fetch at found defined)
    layer (SetOf number designators members) begin so =
        keeps-then at _ _ (keeps-enter at number at.visible)
        (λ _. keeps-then at _ _ (keeps-gathered designators.items members.items 0 begin so) (λ set. keeps-give at (Members set)))
    layer (MonadicOf number operation operand) begin so =
        keeps-then at _ _ (keeps-enter at number at.visible)
        (λ _. keeps-then at _ _ (operand.value.1 begin so) (λ v. keeps-valued at _ (keeps-operated at operation (number_of v))))
    layer (Chain first rest) begin so =
        let there = and_parts (begins first.value.0 opened) (all_begin (map begin_link (map (λ (l : KeptLink). l.0) rest.items)) opened) begin in
        let parts = and_parts (spares_in_expr roots first.value.0) (all_so (map (spares_in_link roots) (map (λ l. l.0) rest.items))) so in
        keeps-then at _ _ (first.value.1 there.0 parts.0) (λ v. keeps-in_turn rest.items v there.1 parts.1)
    layer (Compare number relation left left_indexes right right_indexes) begin so =
        let there = and_parts (whole_begins left (map begins (bare_exprs left_indexes.items)) opened)
        (whole_begins right (map begins (bare_exprs right_indexes.items)) opened) begin in
        let parts = and_parts (indexes_so left (map (spares_in_expr roots) (bare_exprs left_indexes.items)))
        (indexes_so right (map (spares_in_expr roots) (bare_exprs right_indexes.items))) so in
        keeps-then at _ _ (keeps-components left left_indexes.items there.0 parts.0)
        (λ a. keeps-then at _ _ (keeps-enter at number at.visible)
        (λ _. keeps-then at _ _ (keeps-components right right_indexes.items there.1 parts.1) (λ b. keeps-give at (Number (compared relation a b)))))
    layer (CallOf call actuals) begin so = keeps-calling call actuals.items begin so
    layer (InputOf number asks) begin so =
        keeps-then at _ _ (keeps-enter at number at.visible) (λ _. keeps-then at _ _ (keeps-asked at asks) (λ b. keeps-give at (Number (truth b))))

    passed-layer : (y : Passed-F KeptExpr KeptPassed KeptLink) → begin_passed (bare_passed y) opened ≡ true → spared_passed (bare_passed y) ≡ true
        → KeepsPassed (valued_passed (bare_passed y))
    passed-layer (PassedValue value fits) begin so = record {
      kept = keeps-then at _ _ (value.1 begin so)
          (λ v. keeps-then at _ _ (keeps-require at (is_in fits.range v) fits.site) (λ _. keeps-give at (meaning.OfValue v)));
      may = λ argument given.
          let run = can-then (value_of value.0 here)
          (λ v. effect.◌>>=◌ (require (is_in fits.range v) fits.site) (λ _. give (meaning.OfValue v))) argument given in
          let last = can-then (require (is_in fits.range run.0) fits.site) (λ _. give (meaning.OfValue run.0)) argument run.2 in
          subst (MayPass at) (given-same (meaning.OfValue run.0) argument last.2) tt;
    }
    passed-layer (PassedWhole type_id value indexes) begin so = record {
      kept = keeps-then at _ _ (keeps-components value indexes.items begin so) (λ row. keeps-give at (OfRow row));
      may = λ argument given.
          let run = can-then (whole_of value (values_of (bare_exprs indexes.items)) here) (λ row. give (OfRow row)) argument given in
          subst (MayPass at) (given-same (OfRow run.0) argument run.2) tt;
    }
    passed-layer (Reference type_id access indexes) begin so =
        let there = access-there access indexes.items begin in
        let parts = and_parts (spares_in_indexes roots (bare_exprs indexes.items)) (is_none_of roots access.root) so in
        record {
          kept = keeps-then at _ _ (keeps-accessed access indexes.items there.0 parts.0) (λ found. keeps-give at (OfPlace found));
          may = λ argument given.
              let run = can-then (accessed access (values_of (bare_exprs indexes.items)) here) (λ found. give (OfPlace found)) argument given in
              subst (MayPass at) (given-same (OfPlace run.0) argument run.2)
              (write-accessed access (values_of (bare_exprs indexes.items)) there.1 parts.1 run.0 run.1);
        }

    link-layer : (y : Link-F KeptExpr KeptPassed KeptLink) → begin_behind (bare_link y) opened ≡ true → spared_link (bare_link y) ≡ true → (v : Value)
        → Keeps at (valued_link (bare_link y) here v)
    link-layer y begin so v =
        keeps-then at _ _ (keeps-enter at y.number at.visible)
        (λ _. keeps-then at _ _ (y.operand.1 begin so) (λ w. keeps-operated_both at y.operation v w))

    abbrev IsKeptLayer : Expr-F Expr Passed Link → Type 0
    IsKeptLayer x = begin_of x opened ≡ true → spared x ≡ true → Keeps at (valued x here)

    abbrev IsKeptPassedLayer : Passed-F Expr Passed Link → Type 0
    IsKeptPassedLayer x = begin_passed x opened ≡ true → spared_passed x ≡ true → KeepsPassed (valued_passed x)

    abbrev IsKeptLinkLayer : Link-F Expr Passed Link → Type 0
    IsKeptLinkLayer x = begin_behind x opened ≡ true → spared_link x ≡ true → (v : Value) → Keeps at (valued_link x here v)

    rolled : (x : Expr-F Expr Passed Link) (y : Expr-F KeptExpr KeptPassed KeptLink) → bare y ≡ x → IsKept (roll-Expr x)
    rolled x y is begin so =
        subst (λ (evaluation : Evaluation). Keeps at (evaluation here))
        (sym (fold-roll-Expr Evaluation Passing Combination value_step passed_step link_step x))
        (subst IsKeptLayer is (layer y)
        (subst (λ (own : Begin). own opened ≡ true) (fold-roll-Expr Begin Begin Begin expression_begins passed_begins link_begins x) begin)
        (subst (λ (b : Bool). b ≡ true) (fold-roll-Expr Bool Bool Bool (expr_spares roots) (passed_spares roots) (link_spares roots) x) so))

    rolled-passed : (x : Passed-F Expr Passed Link) (y : Passed-F KeptExpr KeptPassed KeptLink) → bare_passed y ≡ x → IsKeptPassed (roll-Passed x)
    rolled-passed x y is begin so =
        subst (λ (passing : Passing). KeepsPassed passing)
        (sym (fold-roll-Passed Evaluation Passing Combination value_step passed_step link_step x))
        (subst IsKeptPassedLayer is (passed-layer y)
        (subst (λ (own : Begin). own opened ≡ true) (fold-roll-Passed Begin Begin Begin expression_begins passed_begins link_begins x) begin)
        (subst (λ (b : Bool). b ≡ true) (fold-roll-Passed Bool Bool Bool (expr_spares roots) (passed_spares roots) (link_spares roots) x) so))

    rolled-link : (x : Link-F Expr Passed Link) (y : Link-F KeptExpr KeptPassed KeptLink) → bare_link y ≡ x → IsKeptLink (roll-Link x)
    rolled-link x y is begin so v =
        subst (λ (combination : Combination). Keeps at (combination here v))
        (sym (fold-roll-Link Evaluation Passing Combination value_step passed_step link_step x))
        (subst IsKeptLinkLayer is (link-layer y)
        (subst (λ (own : Begin). own opened ≡ true) (fold-roll-Link Begin Begin Begin expression_begins passed_begins link_begins x) begin)
        (subst (λ (b : Bool). b ≡ true) (fold-roll-Link Bool Bool Bool (expr_spares roots) (passed_spares roots) (link_spares roots) x) so) v)

    keeps-value : (e : Expr) → IsKept e
    keeps-value = ind-Expr IsKept IsKeptPassed IsKeptLink rolled rolled-passed rolled-link

    passed-kept : (p : Passed) → IsKeptPassed p
    passed-kept = ind-Passed IsKept IsKeptPassed IsKeptLink rolled rolled-passed rolled-link

    abbrev all_kept : List Expr → List KeptExpr
    all_kept [] = []
    all_kept (index ∷ indexes) = (index, keeps-value index) ∷ all_kept indexes

    all-indexes : (indexes : List Expr) → map (λ e. e.0) (all_kept indexes) ≡ indexes
    all-indexes [] = refl
    all-indexes (index ∷ indexes) = ap (λ more. index ∷ more) (all-indexes indexes)

    abbrev actuals_kept : List Passed → List KeptPassed
    actuals_kept [] = []
    actuals_kept (one ∷ rest) = (one, passed-kept one) ∷ actuals_kept rest

    all-actuals : (actuals : List Passed) → map (λ p. p.0) (actuals_kept actuals) ≡ actuals
    all-actuals [] = refl
    all-actuals (one ∷ rest) = ap (λ more. one ∷ more) (all-actuals rest)

    access-kept : (access : Access) (indexes : List Expr) → all_begin (map begins indexes) opened ≡ true → spares_in_indexes roots indexes ≡ true
        → Keeps at (accessed access (values_of indexes) here)
    access-kept access indexes =
        subst (λ (all : List Expr). all_begin (map begins all) opened ≡ true → spares_in_indexes roots all ≡ true
        → Keeps at (accessed access (values_of all) here)) (all-indexes indexes) (keeps-accessed access (all_kept indexes))

    whole-kept : (value : Whole) (indexes : List Expr) → value_begins value indexes opened ≡ true → spares_in_whole roots value indexes ≡ true
        → Keeps at (whole_of value (values_of indexes) here)
    whole-kept value indexes =
        subst (λ (all : List Expr). value_begins value all opened ≡ true → spares_in_whole roots value all ≡ true
        → Keeps at (whole_of value (values_of all) here)) (all-indexes indexes) (keeps-components value (all_kept indexes))

    call-kept : (call : Call) (actuals : List Passed) → all_begin (map passed_begin actuals) opened ≡ true
        → all_so (map (spares_in_passed roots) actuals) ≡ true → Keeps at (call_of call (map passing_of actuals) here)
    call-kept call actuals =
        subst (λ (all : List Passed). all_begin (map passed_begin all) opened ≡ true → all_so (map (spares_in_passed roots) all) ≡ true
        → Keeps at (call_of call (map passing_of all) here)) (all-actuals actuals) (keeps-calling call (actuals_kept actuals))

    -- ---- what is written

    width-kept : (width : Option Width) (default : ℤ) → width_begins width opened ≡ true → spares_in_width roots width ≡ true
        → Keeps at (width_of width default here)
    width-kept None default begin so = keeps-give at default
    width-kept (Some width) default begin so =
        keeps-then at _ _ (keeps-value width.value begin so)
        (λ w. keeps-then at _ _ (keeps-require at (is_positive (number_of w)) width.site) (λ _. keeps-give at (number_of w)))

    written-kept : (value : Written) (width : Option Width) → written_begins value opened ≡ true → width_begins width opened ≡ true
        → spares_in_written roots value ≡ true → spares_in_width roots width ≡ true → Keeps at (written_of value width here)
    written-kept (OrdinalOf value representation) width begin wide so widths =
        keeps-then at _ _ (keeps-value value begin so)
        (λ v. keeps-then at _ _ (width-kept width (default_width representation) wide widths) (λ w. keeps-write at (text_of representation (number_of v) w)))
    written-kept (String value indexes) width begin wide so widths =
        keeps-then at _ _ (whole-kept value indexes.items begin so)
        (λ components. keeps-then at _ _ (width-kept width (pos (length_of value)) wide widths) (λ w. keeps-write at (row_text components w)))

    parameters-kept : (parameters : List WriteParameter) → all_begin (map parameter_begins parameters) opened ≡ true
        → all_so (map (spares_in_parameter roots) parameters) ≡ true → Keeps at (meaning.all_of (map parameter_of parameters) here)
    parameters-kept [] begin so = keeps-give at tt
    parameters-kept (parameter ∷ parameters) begin so =
        let parts = and_parts (spares_in_parameter roots parameter) (all_so (map (spares_in_parameter roots) parameters)) so in
        let one = and_parts (spares_in_written roots parameter.value) (spares_in_width roots parameter.width) parts.0 in
        let there = and_parts (parameter_begins parameter opened) (all_begin (map parameter_begins parameters) opened) begin in
        let own = and_parts (written_begins parameter.value opened) (width_begins parameter.width opened) there.0 in
        keeps-then at _ _ (written-kept parameter.value parameter.width own.0 own.1 one.0 one.1) (λ _. parameters-kept parameters there.1 parts.1)

    -- ---- what is read

    read-kept : (one : ReadVariable) → read_begins one opened ≡ true → spares_in_read roots one ≡ true → Keeps at (meaning.read_of one here)
    read-kept one begin so =
        let access = one.access in
        let indexes = one.indexes.items in
        let there = and_parts (all_begin (map begins indexes) opened) (is_there opened (origin_of access)) begin in
        let own = and_parts (spares_in_indexes roots indexes) (is_none_of roots access.root) so in
        keeps-when at _ _ (access-kept access indexes there.0 own.0)
        (λ place given. keeps-then at _ _ (keeps-read_as at one.reads one.point)
        (λ n. keeps-then at _ _ (keeps-unless_outside at one.range one.point n)
        (λ _. keeps-store at place (Number n) (write-accessed access (values_of indexes) there.1 own.1 place given))))

    reads-kept : (variables : List ReadVariable) → all_begin (map read_begins variables) opened ≡ true
        → all_so (map (spares_in_read roots) variables) ≡ true → Keeps at (meaning.all_of (map meaning.read_of variables) here)
    reads-kept [] begin so = keeps-give at tt
    reads-kept (one ∷ others) begin so =
        let own = and_parts (spares_in_read roots one) (all_so (map (spares_in_read roots) others)) so in
        let there = and_parts (read_begins one opened) (all_begin (map read_begins others) opened) begin in
        keeps-then at _ _ (read-kept one there.0 own.0) (λ _. reads-kept others there.1 own.1)

-- ---- statements

-- one of two actions
keeps-chosen : (at : Standing) (b : Bool) (one other : Action (Unit {0})) → Keeps at one → Keeps at other → Keeps at (if b then one else other)
keeps-chosen at true one other first second = first
keeps-chosen at false one other first second = second

keeps-turn_if : (at : Standing) (so : Bool) (body : Action (Unit {0})) → Keeps at body → Keeps at (meaning.turn_if so body)
keeps-turn_if at false body kept = keeps-give at None
keeps-turn_if at true body kept = keeps-then at _ _ (keeps-turn at) (λ _. keeps-then at _ _ kept (λ _. keeps-give at (Some tt)))

-- all but one variable more may be changed
others-but : (at : Standing) (control : ℕ) (roots : List ℕ) → MayChangeOthers at roots → MayChangeOthers at (control ∷ roots)
others-but at control roots others root so = others root (by (nat_eq control root) (list_any (λ one. nat_eq one root) roots) so)
  where
    by : (same own : Bool) → not (same || own) ≡ true → not own ≡ true
    by true own is = absurd (cc)
    by false own is = is

module _ (base : Standing) (calls : Calls) (called : (turns : List ℕ) → CallsKeep (turned base turns) calls) (outline : Outline) (block : ℕ) where
  abbrev well_stmt : Stmt → Bool
  well_stmt = is_well_formed_stmt outline block

  -- wherever records are open, and whatever turns are finished
  abbrev within : List ℕ → List (Option Place) → Surroundings
  within turns places = record { visible = (turned base turns).visible; records = places; calls = calls }

  abbrev IsKeptStmt : Stmt → Type 0
  IsKeptStmt s =
      (turns : List ℕ) (opened : List OpenRecord) (places : List (Option Place)) → LieOpen base.visible opened places → well_stmt s ≡ true
      → begins_in s opened ≡ true → (roots : List ℕ) → MayChangeOthers base roots → spares s roots ≡ true
      → Keeps (turned base turns) (effect_of s (within turns places))

  abbrev KeptStmt : Type 0
  KeptStmt = (s : Stmt) × IsKeptStmt s

  abbrev bodies : List KeptStmt → List Stmt
  bodies statements = map (λ s. s.0) statements

  abbrev bare_stmt : Stmt-F KeptStmt → Stmt-F Stmt
  bare_stmt = map-Stmt KeptStmt Stmt (λ s. s.0)

  module _ (turns : List ℕ) where
    abbrev at : Standing
    at = turned base turns

    -- the records of a with are accessed
    records-kept : (list : List WithRecord) (opened : List OpenRecord) (places : List (Option Place)) → LieOpen at.visible opened places
        → all_hold (map (is_well_formed_record outline block) list) ≡ true → (body : Begin) → with_begins list body opened ≡ true
        → (roots : List ℕ) → MayChangeOthers at roots → all_so (map (spares_in_record roots) list) ≡ true
        → Keeps at (meaning.opened list (within turns places))
    records-kept [] opened places lie well body begin roots others so = keeps-give at places
    records-kept (one ∷ rest) opened places lie well body begin roots others so =
        let access = one.access in
        let parts = and_parts (is_well_formed_record outline block one) (all_hold (map (is_well_formed_record outline block) rest)) well in
        let there = with-parts one rest body opened begin in
        let own = and_parts (spares_in_record roots one) (all_so (map (spares_in_record roots) rest)) so in
        keeps-when at _ _ (access-kept at calls (called turns) opened places lie roots others access one.indexes.items there.indexes own.0)
        (λ place given.
        records-kept rest (opened ++ opened_by access ∷ []) (places ++ place ∷ [])
        (one-opened at.visible calls outline block one opened places lie parts.0 there.there place given) parts.1 body there.later roots others own.1)

    module _ (opened : List OpenRecord) (places : List (Option Place)) (lie : LieOpen at.visible opened places) where
      -- a statement here
      abbrev KeptHere : Bool → Begin → Spares → Execution → Type 0
      KeptHere well begin spared execution =
          well ≡ true → begin opened ≡ true → (roots : List ℕ) → MayChangeOthers at roots → spared roots ≡ true → Keeps at (execution (within turns places))

      one-kept : (statement : KeptStmt) → KeptHere (well_stmt statement.0) (begins_in statement.0) (spares statement.0) (effect_of statement.0)
      one-kept statement = statement.1 turns opened places lie

      abbrev standing : Surroundings
      standing = within turns places

      -- in a turn of a for
      one-turn : (statement : KeptStmt) (head : ForHead) (first n : ℤ) → well_stmt statement.0 ≡ true → begins_in statement.0 opened ≡ true
          → (roots : List ℕ) → MayChangeOthers at roots → spares statement.0 roots ≡ true
          → Keeps at (effect_of statement.0 (meaning.for_turn head first standing n))
      one-turn statement head first n well begin roots others so =
          let inner = turns ++ values_before head.direction first n ∷ [] in
          keeps-turned base turns inner (effect_of statement.0 (within inner places))
          (statement.1 inner opened places lie well begin roots others so)

      keeps-all : (statements : List KeptStmt)
          → KeptHere (all_hold (map well_stmt (bodies statements))) (all_begin (map begins_in (bodies statements)))
          (all_spare (map spares (bodies statements))) (meaning.all_of (map effect_of (bodies statements)))
      keeps-all [] well begin roots others so = keeps-give at tt
      keeps-all (statement ∷ statements) well begin roots others so =
          let parts = and_parts (spares statement.0 roots) (all_spare (map spares (bodies statements)) roots) so in
          let each = and_parts (well_stmt statement.0) (all_hold (map well_stmt (bodies statements))) well in
          let there = and_parts (begins_in statement.0 opened) (all_begin (map begins_in (bodies statements)) opened) begin in
          keeps-then at _ _ (one-kept statement each.0 there.0 roots others parts.0) (λ _. keeps-all statements each.1 there.1 roots others parts.1)

      keeps-arm : (site : ℕ) (rows : List (Vec ℤ Global)) (arms : List KeptStmt) (n : ℤ) → all_hold (map well_stmt (bodies arms)) ≡ true
          → all_begin (map begins_in (bodies arms)) opened ≡ true → (roots : List ℕ) → MayChangeOthers at roots
          → all_spare (map spares (bodies arms)) roots ≡ true → Keeps at (meaning.arm_of site rows (map effect_of (bodies arms)) n standing)
      keeps-arm site [] arms n well begin roots others so = keeps-stop at (Unit {0}) (ending.Error site)
      keeps-arm site (row ∷ rows) [] n well begin roots others so = keeps-stop at (Unit {0}) (ending.Error site)
      keeps-arm site (row ∷ rows) (arm ∷ arms) n well begin roots others so =
          let parts = and_parts (spares arm.0 roots) (all_spare (map spares (bodies arms)) roots) so in
          let each = and_parts (well_stmt arm.0) (all_hold (map well_stmt (bodies arms))) well in
          let there = and_parts (begins_in arm.0 opened) (all_begin (map begins_in (bodies arms)) opened) begin in
          keeps-chosen at (meaning.is_among row.items n) (effect_of arm.0 standing) (meaning.arm_of site rows (map effect_of (bodies arms)) n standing)
          (one-kept arm each.0 there.0 roots others parts.0) (keeps-arm site rows arms n each.1 there.1 roots others parts.1)

      keeps-between : (head : ForHead) (execution : Execution) → MayWriteTo at (at.visible.variables head.control)
          → ((first n : ℤ) → Keeps at (execution (meaning.for_turn head first standing n))) → (first last : ℤ)
          → Keeps at (meaning.for_between head execution standing first last)
      keeps-between head execution may kept first last =
          let found = at.visible.variables head.control in
          let first_fits = head.first.fits in
          let last_fits = head.last.fits in
          let behind = value_behind head.direction last in
          let round = λ (n : ℤ). keeps-then at (effect.store found (Number n))
          (λ _. effect.◌>>=◌ effect.use_turn (λ _. effect.◌>>=◌ (execution (meaning.for_turn head first standing n)) (λ _. give (behind n))))
          (keeps-store at found (Number n) may)
          (λ _. keeps-then at _ _ (keeps-turn at) (λ _. keeps-then at _ _ (kept first n) (λ _. keeps-give at (behind n)))) in
          let rounds : Keeps at (meaning.for_rounds head execution standing first last) =
          keeps-then at _ _ (keeps-require at (is_in first_fits.range (Number first)) first_fits.site)
          (λ _. keeps-then at _ _ (keeps-require at (is_in last_fits.range (Number last)) last_fits.site)
          (λ _. keeps-looped at (meaning.for_round head first last execution standing) round first)) in
          keeps-chosen at (has_values head.direction first last) (meaning.for_rounds head execution standing first last) (give tt) rounds (keeps-give at tt)

      abbrev LayerHere : Stmt-F Stmt → Type 0
      LayerHere x =
          KeptHere (stmt_is_well_formed outline block (map-Stmt Stmt Bool well_stmt x)) (statement_begins (map-Stmt Stmt Begin begins_in x))
          (statement_spares (map-Stmt Stmt Spares spares x)) (effect_step (map-Stmt Stmt Execution effect_of x))

      abbrev well_expr : Expr → Bool
      well_expr = is_well_formed_expr outline block

      stmt-layer : (settled : at.settled ≡ 0) (y : Stmt-F KeptStmt) → LayerHere (bare_stmt y)
      stmt-layer settled (Empty number) well begin roots others so = keeps-enter at number at.visible
      stmt-layer settled (Assign assignment) well begin roots others so =
          let one = and_parts (spares_in_indexes roots assignment.indexes.items)
          (is_none_of roots assignment.target.root && spares_in_expr roots assignment.value) so in
          let two = and_parts (is_none_of roots assignment.target.root) (spares_in_expr roots assignment.value) one.1 in
          let there = and_parts (accesses_begin assignment.target assignment.indexes.items opened) (begins assignment.value opened) begin in
          let own = and_parts (all_begin (map begins assignment.indexes.items) opened) (is_there opened (origin_of assignment.target)) there.0 in
          keeps-then at _ _ (keeps-enter at assignment.number at.visible)
          (λ _. keeps-when at _ _ (access-kept at calls (called turns) opened places lie roots others assignment.target assignment.indexes.items own.0 one.0)
          (λ place given. keeps-then at _ _ (keeps-value at calls (called turns) opened places lie roots others assignment.value there.1 two.1)
          (λ v. keeps-then at _ _ (keeps-require at (is_in assignment.fits.range v) assignment.fits.site)
          (λ _. keeps-store at place v (write-accessed at calls (called turns) opened places lie roots others assignment.target
          (values_of assignment.indexes.items) own.1 two.0 place
          given)))))
      stmt-layer settled (Copy copying) well begin roots others so =
          let rest = spares_in_whole roots copying.value copying.value_indexes.items in
          let one = and_parts (spares_in_indexes roots copying.indexes.items) (is_none_of roots copying.target.root && rest) so in
          let two = and_parts (is_none_of roots copying.target.root) rest one.1 in
          let there = and_parts (accesses_begin copying.target copying.indexes.items opened) (value_begins copying.value copying.value_indexes.items opened)
          begin in
          let own = and_parts (all_begin (map begins copying.indexes.items) opened) (is_there opened (origin_of copying.target)) there.0 in
          keeps-then at _ _ (keeps-enter at copying.number at.visible)
          (λ _. keeps-when at _ _ (access-kept at calls (called turns) opened places lie roots others copying.target copying.indexes.items own.0 one.0)
          (λ place given. keeps-then at _ _
          (whole-kept at calls (called turns) opened places lie roots others copying.value copying.value_indexes.items there.1 two.1)
          (λ values. keeps-store_all at place (components_of at.visible.types copying.type_id) values
          (write-accessed at calls (called turns) opened places lie roots others copying.target (values_of copying.indexes.items) own.1 two.0 place given))))
      stmt-layer settled (Write writing) well begin roots others so =
          keeps-then at _ _ (keeps-enter at writing.number at.visible)
          (λ _. keeps-then at _ _ (parameters-kept at calls (called turns) opened places lie roots others writing.parameters.items begin so)
          (λ _. keeps-line_ended at writing.ends_line))
      stmt-layer settled (Read reading) well begin roots others so =
          keeps-then at _ _ (keeps-enter at reading.number at.visible)
          (λ _. keeps-then at _ _ (reads-kept at calls (called turns) opened places lie roots others reading.variables.items begin so)
          (λ _. keeps-line_passed at reading.line))
      stmt-layer settled (Calling calling) well begin roots others so =
          keeps-then at _ _ (call-kept at calls (called turns) opened places lie roots others calling.call calling.actuals.items begin so)
          (λ _. keeps-give at tt)
      stmt-layer settled (Compound number statements) well begin roots others so =
          keeps-then at _ _ (keeps-enter at number at.visible) (λ _. keeps-all statements.items well begin roots others so)
      stmt-layer settled (If number condition consequence None) well begin roots others so =
          let one = and_parts (spares_in_expr roots condition) (spares consequence.value.0 roots && true) so in
          let two = and_parts (spares consequence.value.0 roots) true one.1 in
          let parts = and_parts (well_expr condition) (well_stmt consequence.value.0 && true) well in
          let each = and_parts (well_stmt consequence.value.0) true parts.1 in
          let there = and_parts (begins condition opened) (begins_in consequence.value.0 opened && true) begin in
          let each_there = and_parts (begins_in consequence.value.0 opened) true there.1 in
          keeps-then at _ _ (keeps-enter at number at.visible)
          (λ _. keeps-then at _ _ (keeps-value at calls (called turns) opened places lie roots others condition there.0 one.0)
          (λ v. keeps-chosen at (meaning.is_so v) (effect_of consequence.value.0 standing) (give tt)
          (one-kept consequence.value each.0 each_there.0 roots others two.0) (keeps-give at tt)))
      stmt-layer settled (If number condition consequence (Some alternative)) well begin roots others so =
          let one = and_parts (spares_in_expr roots condition) (spares consequence.value.0 roots && spares alternative.value.0 roots) so in
          let two = and_parts (spares consequence.value.0 roots) (spares alternative.value.0 roots) one.1 in
          let parts = and_parts (well_expr condition) (well_stmt consequence.value.0 && well_stmt alternative.value.0) well in
          let each = and_parts (well_stmt consequence.value.0) (well_stmt alternative.value.0) parts.1 in
          let there = and_parts (begins condition opened) (begins_in consequence.value.0 opened && begins_in alternative.value.0 opened) begin in
          let each_there = and_parts (begins_in consequence.value.0 opened) (begins_in alternative.value.0 opened) there.1 in
          keeps-then at _ _ (keeps-enter at number at.visible)
          (λ _. keeps-then at _ _ (keeps-value at calls (called turns) opened places lie roots others condition there.0 one.0)
          (λ v. keeps-chosen at (meaning.is_so v) (effect_of consequence.value.0 standing) (effect_of alternative.value.0 standing)
          (one-kept consequence.value each.0 each_there.0 roots others two.0) (one-kept alternative.value each.1 each_there.1 roots others two.1)))
      stmt-layer settled (While head body) well begin roots others so =
          let one = and_parts (spares_in_expr roots head.condition) (spares body.value.0 roots) so in
          let parts = and_parts (well_expr head.condition) (well_stmt body.value.0) well in
          let there = and_parts (begins head.condition opened) (begins_in body.value.0 opened) begin in
          keeps-then at _ _ (keeps-enter at head.number at.visible)
          (λ _. keeps-looped at (meaning.while_round (value_of head.condition) (effect_of body.value.0) standing)
          (λ start. keeps-then at _ _ (keeps-value at calls (called turns) opened places lie roots others head.condition there.0 one.0)
          (λ v. keeps-turn_if at (meaning.is_so v) (effect_of body.value.0 standing) (one-kept body.value parts.1 there.1 roots others one.1))) tt)
      stmt-layer settled (Repeat head statements) well begin roots others so =
          let one = and_parts (all_spare (map spares (bodies statements.items)) roots) (spares_in_expr roots head.condition) so in
          let parts = and_parts (all_hold (map well_stmt (bodies statements.items))) (well_expr head.condition) well in
          let there = and_parts (all_begin (map begins_in (bodies statements.items)) opened) (begins head.condition opened) begin in
          keeps-then at _ _ (keeps-enter at head.number at.visible)
          (λ _. keeps-looped at (meaning.repeat_round (meaning.all_of (map effect_of (bodies statements.items))) (value_of head.condition) standing)
          (λ start. keeps-then at _ _ (keeps-turn at)
          (λ _. keeps-then at _ _ (keeps-all statements.items parts.0 there.0 roots others one.0)
          (λ _. keeps-then at _ _ (keeps-value at calls (called turns) opened places lie roots others head.condition there.1 one.1)
          (λ v. keeps-give at (if meaning.is_so v then None else Some tt))))) tt)
      stmt-layer settled (For head body) well begin roots others so =
          let inner = spares body.value.0 (head.control ∷ roots) in
          let one = and_parts (is_none_of roots head.control) (spares_in_expr roots head.first.value && (spares_in_expr roots head.last.value && inner)) so in
          let two = and_parts (spares_in_expr roots head.first.value) (spares_in_expr roots head.last.value && inner) one.1 in
          let three = and_parts (spares_in_expr roots head.last.value) inner two.1 in
          let is_test = λ (fits : RangeTest). fits_target outline block fits (AtVariable head.control) [] in
          let is_body = well_stmt body.value.0 in
          let parts = and_parts (is_control outline block head.control)
          (well_expr head.first.value && (is_test head.first.fits && (well_expr head.last.value && (is_test head.last.fits && is_body)))) well in
          let more = and_parts (well_expr head.first.value) (is_test head.first.fits && (well_expr head.last.value && (is_test head.last.fits && is_body)))
          parts.1 in
          let last_parts = and_parts (is_test head.first.fits) (well_expr head.last.value && (is_test head.last.fits && is_body)) more.1 in
          let test_parts = and_parts (well_expr head.last.value) (is_test head.last.fits && is_body) last_parts.1 in
          let each = and_parts (is_test head.last.fits) is_body test_parts.1 in
          let there = and_parts (begins head.first.value opened) (begins head.last.value opened && begins_in body.value.0 opened) begin in
          let more_there = and_parts (begins head.last.value opened) (begins_in body.value.0 opened) there.1 in
          let found = at.visible.variables head.control in
          let own : IsOwn at found = λ place seen. (omega (arith, settled), others head.control one.0 place seen) in
          keeps-then at _ _ (keeps-enter at head.number at.visible)
          (λ _. keeps-then at _ _ (keeps-value at calls (called turns) opened places lie roots others head.first.value there.0 two.0)
          (λ a. keeps-then at _ _ (keeps-value at calls (called turns) opened places lie roots others head.last.value more_there.0 three.0)
          (λ b. keeps-then at _ _ (keeps-between head (effect_of body.value.0) (own-write at found own)
          (λ from n. one-turn body.value head from n each.1 more_there.1 (head.control ∷ roots) (others-but at head.control roots others) three.1) (number_of a)
          (number_of b))
          (λ _. keeps-undefine at found own))))
      stmt-layer settled (Case head arms) well begin roots others so =
          let one = and_parts (spares_in_expr roots head.index) (all_spare (map spares (bodies arms.items)) roots) so in
          let inner = bodies arms.items in
          let constants = list_all are_whole head.constants.items in
          let parts = and_parts (nat_lt head.site outline.sites) (well_expr head.index && (constants && all_hold (map well_stmt inner))) well in
          let more = and_parts (well_expr head.index) (constants && all_hold (map well_stmt inner)) parts.1 in
          let each = and_parts constants (all_hold (map well_stmt inner)) more.1 in
          let there = and_parts (begins head.index opened) (all_begin (map begins_in inner) opened) begin in
          keeps-then at _ _ (keeps-enter at head.number at.visible)
          (λ _. keeps-then at _ _ (keeps-value at calls (called turns) opened places lie roots others head.index there.0 one.0)
          (λ v. keeps-arm head.site head.constants.items arms.items (number_of v) each.1 there.1 roots others one.1))
      stmt-layer settled (With head body) well begin roots others so =
          let list = head.records.items in
          let inner = body.value.0 in
          let parts = and_parts (all_hold (map (is_well_formed_record outline block) list)) (well_stmt inner) well in
          let there = and_parts (nat_eq head.first_slot (length opened)) (with_begins list (begins_in inner) opened) begin in
          let one = and_parts (all_so (map (spares_in_record roots) list)) (spares inner roots) so in
          keeps-then at _ _ (keeps-enter at head.number at.visible)
          (λ _. keeps-when at _ _ (records-kept list opened places lie parts.0 (begins_in inner) there.1 roots others one.0)
          (λ found given.
          body.value.1 turns (behind list opened) found
          (all-opened at.visible calls outline block list opened places lie parts.0 (begins_in inner) there.1 found given) parts.1
          (with-begun list (begins_in inner) opened there.1) roots others one.1))

  abbrev IsKeptStmtLayer : Stmt-F Stmt → Type 0
  IsKeptStmtLayer x =
      (turns : List ℕ) (opened : List OpenRecord) (places : List (Option Place)) (lie : LieOpen base.visible opened places)
      → LayerHere turns opened places lie x

  rolled-stmt : base.settled ≡ 0 → (x : Stmt-F Stmt) (y : Stmt-F KeptStmt) → bare_stmt y ≡ x → IsKeptStmt (roll-Stmt x)
  rolled-stmt settled x y is turns opened places lie well begin roots others so =
      subst (λ (execution : Execution). Keeps (turned base turns) (execution (within turns places))) (sym (fold-roll-Stmt Execution effect_step x))
      (subst IsKeptStmtLayer is (λ turns opened places lie. stmt-layer turns opened places lie settled y) turns opened places lie
      (subst (λ (b : Bool). b ≡ true) (fold-roll-Stmt Bool (stmt_is_well_formed outline block) x) well)
      (subst (λ (own : Begin). own opened ≡ true) (fold-roll-Stmt Begin statement_begins x) begin) roots others
      (subst (λ (spared : Spares). spared roots ≡ true) (fold-roll-Stmt Spares statement_spares x) so))

  -- a statement leaves what it spares, where variables need not stay defined
  pub text-kept : base.settled ≡ 0 → (s : Stmt) → IsKeptStmt s
  text-kept settled = ind-Stmt IsKeptStmt (rolled-stmt settled)
