-- Expressions, actual parameters and values that are written leave what their block doesn't list as it was, where their walk
-- breaks no rule.
use Rattle.std.proofs.Common.{◌≡◌, ℕ, zero, suc, ℤ, pos, true, List, [], ◌∷◌, Option, Some, None, map, refl, sym, ap, subst}
use Rattle.std.proofs.lemmas.Bool.{and_parts, eqb-true, false≢true}
use Rattle.std.proofs.lemmas.Option.{none-some, same_Some}
use Rattle.std.specs.Cmp.Lexicographic.{pointwise}
use Rattle.std.specs.Prelude.{nat_eq, slice_get}
use Rattle.types.specs.Components.{components_of}
use Rattle.types.specs.declared.form.Step.TheVariants as step
use Rattle.typed_tree.specs.declared.tree.Tree.{Tree}
use Rattle.typed_tree.specs.declared.tree.Access.{Access}
use Rattle.typed_tree.specs.declared.tree.Call.{Call}
use Rattle.typed_tree.specs.declared.tree.Designator.{Designator}
use Rattle.typed_tree.specs.declared.tree.Designator.TheVariants.{Single, Range}
use Rattle.typed_tree.specs.declared.tree.Selector.{Selector}
use Rattle.typed_tree.specs.declared.tree.Selector.TheVariants.{Element, Field}
use Rattle.typed_tree.specs.declared.tree.Whole.{Whole}
use Rattle.typed_tree.specs.declared.tree.Whole.TheVariants.{Text, Variable as VariableOf}
use Rattle.typed_tree.specs.declared.tree.Width.{Width}
use Rattle.typed_tree.specs.declared.tree.WriteParameter.{WriteParameter}
use Rattle.typed_tree.specs.declared.tree.Written.{Written}
use Rattle.typed_tree.specs.declared.tree.Written.TheVariants.{Ordinal as OrdinalOf, String}
use Rattle.typed_tree.specs.declared.tree.Expr.{Expr}
use Rattle.typed_tree.specs.declared.tree.Link.{Link}
use Rattle.typed_tree.specs.declared.tree.Passed.{Passed}
use Rattle.typed_tree.specs.declared.tree.Expr.TheOpen.{Expr-F, Passed-F, Link-F}
use Rattle.typed_tree.specs.declared.tree.Expr.TheOpen.Expr-F.{Constant, Variable, Monadic as MonadicOf, Chain, Compare, Call as CallOf, Set as SetOf, Input}
use Rattle.typed_tree.specs.declared.tree.Expr.TheOpen.Passed-F.{Value as PassedValue, Whole as PassedWhole, Reference}
use Rattle.typed_tree.specs.declared.tree.Expr.TheFolds.{map-Expr, map-Passed, map-Link, fold-roll-Expr, fold-roll-Passed, fold-roll-Link}
use Rattle.typed_tree.specs.declared.tree.Expr.TheFolds.{fold-Link, ind-Expr, ind-Passed}
use Rattle.typed_tree.specs.declared.tree.Expr.TheViews.{roll-Expr, roll-Passed, roll-Link}
use Rattle.typed_tree.specs.Accesses.{Origin, AtVariable, AtRecord, origin_of, root_of}
use Rattle.typed_tree.specs.Records.{Begin, OpenRecord, access_begins, all_begin, begins, expression_begins, is_open_as, is_same_step, is_there}
use Rattle.typed_tree.specs.Records.{link_begins, parameter_begins, passed_begin, passed_begins, value_begins, whole_begins, width_begins, written_begins}
use Rattle.typed_tree.specs.WellFormed.{length_of, of_one}
use Rattle.members.specs.Members as sets
use Rattle.meaning.specs.declared.value.Value.{Value}
use Rattle.meaning.specs.declared.value.Value.TheVariants.{Members, Number}
use Rattle.meaning.specs.Integers.{truth}
use Rattle.meaning.specs.Kinds.{LieOpen}
use Rattle.meaning.specs.Store.{Environment, Place, part}
use Rattle.meaning.specs.Effect.{Action, give, is_in, is_positive, number_of, require, row_text, text_of, write}
use Rattle.meaning.specs.Effect as effect
use Rattle.meaning.specs.Meaning.{Argument, Calls, Combination, Evaluation, Passing, Surroundings, accessed, all_passed, begun, call_of, compared}
use Rattle.meaning.specs.Meaning.{default_width, gathered, in_turn, link_of, link_step, parameter_of, passed_step, passing_of, place_at, selected}
use Rattle.meaning.specs.Meaning.{value_of, value_step, values_of, whole_of, width_of, written_of, OfPlace, OfRow}
use Rattle.meaning.specs.Meaning as meaning
use Rattle.checker_state.specs.declared.value.Known.{Known}
use Rattle.checker_state.specs.Values.{known_range}
use Rattle.domain.specs.Interval.{Interval, truth_values}
use Rattle.checker_state.specs.Stores.{Reach}
use Rattle.checker_loops.specs.Sections.{BlockClaims}
use Rattle.checker_calls.specs.Actuals.{Actual, OfRows, OfValue, OfVariable}
use Rattle.checker_expressions.specs.Walk.{Context, Gathering, Joint, PassedPiece, Piece, Walking, reach_at}
use Rattle.checker_expressions.specs.Walk as walk
use Rattle.checker_expressions.proofs.EffectsKept.{CanGive, IsUnder, Keeps, Standing, can-then, given-same, part-under, variable-under}
use Rattle.checker_expressions.proofs.EffectsKept.{keeps-asked, keeps-enter, keeps-fetch, keeps-fetch_all, keeps-give, keeps-operated, keeps-operated_both}
use Rattle.checker_expressions.proofs.EffectsKept.{keeps-require, keeps-then, keeps-valued, keeps-when, keeps-with_one, keeps-with_range, keeps-write}
use Rattle.checker_expressions.proofs.EffectsCalls.{AllTied, CallsLeave, DeclareTheirs, Grounds, StandsIn, Ties, Yields, keeps-call, yields-in, yields-then}

-- ---- where an access leads

module _ (visible : Environment) (places : List (Option Place)) (calls : Calls) where
  abbrev around : Surroundings
  around = record { visible = visible; records = places; calls = calls }

  under-selected : (root : ℕ) (selectors : List Selector) (indexes : List Evaluation) (found result : Option Place) → IsUnder visible root found
      → CanGive (selected selectors indexes around found) result → IsUnder visible root result
  under-selected root [] indexes found result under given =
      subst (λ (place : Option Place). IsUnder visible root place) (given-same found result given) under
  under-selected root (Field position offset ∷ selectors) indexes found result under given =
      under-selected root selectors indexes (part found (step.Field position ∷ [])) result
      (part-under visible root found (step.Field position ∷ []) under) given
  under-selected root (Element fits cells ∷ selectors) [] found result under given =
      subst (λ (place : Option Place). IsUnder visible root place) (given-same None result given) (λ place is. absurd (cc))
  under-selected root (Element fits cells ∷ selectors) (index ∷ indexes) found result under given =
      let at_index = λ (v : Value). part found (step.Element (number_of v) ∷ []) in
      let one = can-then (index around)
      (λ v. effect.◌>>=◌ (require (is_in fits.range v) fits.site) (λ _. selected selectors indexes around (at_index v))) result given in
      let two = can-then (require (is_in fits.range one.0) fits.site) (λ _. selected selectors indexes around (at_index one.0)) result one.2 in
      under-selected root selectors indexes (at_index one.0) result
      (part-under visible root found (step.Element (number_of one.0) ∷ []) under) two.2

  -- what an access begins at lies under its variable
  under-open : (opened : List OpenRecord) (found : List (Option Place)) → LieOpen visible opened found → (slot : ℕ) (one : OpenRecord)
      → slice_get opened slot ≡ Some one → IsUnder visible one.root (place_at (slice_get found slot))
  under-open [] found lie slot one is = absurd (none-some one is)
  under-open (first ∷ others) [] lie slot one is = absurd lie
  under-open (first ∷ others) (place ∷ found) ((steps, place_is, way), lie) zero one is =
      subst (λ (own : OpenRecord). IsUnder visible own.root place) (same_Some first one is)
      (subst (λ (p : Option Place). IsUnder visible first.root p) (sym place_is)
      (part-under visible first.root (visible.variables first.root) steps (variable-under visible first.root)))
  under-open (first ∷ others) (place ∷ found) (own, lie) (suc slot) one is = under-open others found lie slot one is

  under-begun : (opened : List OpenRecord) → LieOpen visible opened places → (origin : Origin) → is_there opened origin ≡ true
      → IsUnder visible (root_of origin) (begun origin around)
  under-begun opened lie (AtVariable root) there = variable-under visible root
  under-begun opened lie (AtRecord root slot steps) there = by (slice_get opened slot) refl there
    where
      by : (found : Option OpenRecord) → slice_get opened slot ≡ found → of_one (is_open_as root steps) found ≡ true
          → IsUnder visible root (place_at (slice_get places slot))
      by None is same = absurd (false≢true same)
      by (Some one) is same =
          subst (λ (r : ℕ). IsUnder visible r (place_at (slice_get places slot)))
          (sym (eqb-true root one.root (and_parts (nat_eq root one.root) (pointwise is_same_step steps one.steps) same).0))
          (under-open opened places lie slot one is)

  -- what is accessed lies under the variable
  pub under-accessed : (opened : List OpenRecord) → LieOpen visible opened places → (access : Access) → is_there opened (origin_of access) ≡ true
      → (indexes : List Evaluation) (result : Option Place) → CanGive (accessed access indexes around) result
      → IsUnder visible (root_of (origin_of access)) result
  under-accessed opened lie access there indexes result given =
      let found = begun (origin_of access) around in
      let root = root_of (origin_of access) in
      let one = can-then (effect.enter access.number visible) (λ _. selected access.selectors.items indexes around found) result given in
      under-selected root access.selectors.items indexes found result (under-begun opened lie (origin_of access) there) one.2

module _ (tree : Tree) (blocks : List BlockClaims) (declares : DeclareTheirs tree) (block : ℕ) (at : Standing)
    (grounds : Grounds tree blocks block at) (calls : Calls) (leave : CallsLeave tree blocks calls) (opened : List OpenRecord)
    (places : List (Option Place)) (lie : LieOpen at.visible opened places) where
  abbrev here : Surroundings
  here = record { visible = at.visible; records = places; calls = calls }

  abbrev begin_link : Link → Begin
  begin_link = fold-Link Begin Begin Begin expression_begins passed_begins link_begins

  abbrev In : Context → Type 0
  In = StandsIn tree blocks block

  -- an expression leaves what isn't listed
  abbrev IsKept : Expr → Type 0
  IsKept e =
      (context : Context) (known : Known) → In context → begins e opened ≡ true → Yields context (walk.value_walk e) known → Keeps at (value_of e here)

  -- an actual parameter does, and what is passed lies where the walk says
  pub record KeepsPassed (actual : Actual) (passing : Passing) : Type 0 where
    pub kept : Keeps at (passing here)
    pub tied : (argument : Argument) → CanGive (passing here) argument → Ties at.visible actual argument

  abbrev IsKeptPassed : Passed → Type 0
  IsKeptPassed p =
      (context : Context) (actual : Actual) → In context → passed_begin p opened ≡ true → Yields context (walk.passed_piece_of p).walk actual
      → KeepsPassed actual (passing_of p)

  abbrev IsKeptLink : Link → Type 0
  IsKeptLink l =
      (context : Context) (left known : Known) (v : Value) → In context → begin_link l opened ≡ true → Yields context (walk.link_walk l left) known
      → Keeps at (link_of l here v)

  abbrev KeptExpr : Type 0
  KeptExpr = (e : Expr) × IsKept e

  abbrev KeptPassed : Type 0
  KeptPassed = (p : Passed) × IsKeptPassed p

  abbrev KeptLink : Type 0
  KeptLink = (l : Link) × IsKeptLink l

  abbrev values : List KeptExpr → List Evaluation
  values indexes = values_of (map (λ e. e.0) indexes)

  abbrev pieces : List KeptExpr → List Piece
  pieces indexes = map walk.piece_of (map (λ e. e.0) indexes)

  -- they begin at what is there
  abbrev ThereAll : List KeptExpr → Type 0
  ThereAll indexes = all_begin (map begins (map (λ e. e.0) indexes)) opened ≡ true

  there-next : (one : KeptExpr) (others : List KeptExpr) → ThereAll (one ∷ others) → (begins one.0 opened ≡ true) × ThereAll others
  there-next one others there = and_parts (begins one.0 opened) (all_begin (map begins (map (λ (e : KeptExpr). e.0) others)) opened) there

  -- ---- accesses

  -- the selectors of the walk don't matter
  keeps-selected : (selectors others : List Selector) (indexes : List KeptExpr) (found : Option Place) (context : Context) (reach result : Reach)
      → In context → ThereAll indexes → Yields context (walk.indexes_walk others (pieces indexes) reach) result
      → Keeps at (selected selectors (values indexes) here found)
  keeps-selected [] others indexes found context reach result stands there yields = keeps-give at found
  keeps-selected (Field position offset ∷ selectors) others indexes found context reach result stands there yields =
      keeps-selected selectors others indexes (part found (step.Field position ∷ [])) context reach result stands there yields
  keeps-selected (Element fits cells ∷ selectors) others [] found context reach result stands there yields = keeps-give at None
  keeps-selected (Element fits cells ∷ selectors) others (index ∷ indexes) found context reach result stands there yields =
      let piece = walk.piece_of index.0 in
      let deeper = λ (own : Context) (range : Interval).
      walk.deeper (walk.is_kept own.version others) (record { form = walk.form_before own piece (pieces indexes); range = range }) reach in
      let behind = walk.behind_next others in
      let next = λ (range : Interval) (own : Context). walk.indexes_walk behind (pieces indexes) (deeper own range) in
      let one = yields-then context piece.walk
      (λ known. walk.◌>>=◌ (walk.index_test (walk.next_test others) known) (λ range own. next range own own)) result yields in
      let two = yields-then context (walk.index_test (walk.next_test others) one.0) (λ range own. next range own own) result one.2 in
      let begin = there-next index indexes there in
      keeps-then at _ _ (index.1 context one.0 stands begin.0 one.1)
      (λ v. keeps-then at _ _ (keeps-require at (is_in fits.range v) fits.site)
      (λ _. keeps-selected selectors behind indexes (part found (step.Element (number_of v) ∷ [])) context (deeper context two.0) result stands begin.1
      (yields-in context (next two.0) result two.2)))

  keeps-accessed : (access : Access) (indexes : List KeptExpr) (context : Context) (reach : Reach) → In context → ThereAll indexes
      → Yields context (walk.access_walk access (pieces indexes)) reach → Keeps at (accessed access (values indexes) here)
  keeps-accessed access indexes context reach stands there yields =
      let selectors = access.selectors.items in
      let begin = reach_at (origin_of access) in
      let one = yields-then context (walk.enter access.number) (λ _. walk.indexes_walk selectors (pieces indexes) begin) reach yields in
      keeps-then at _ _ (keeps-enter at access.number at.visible)
      (λ _. keeps-selected selectors selectors indexes (begun (origin_of access) here) context begin reach stands there one.2)

  -- an access begins at what is there, and so do its index expressions
  access-there : (access : Access) (indexes : List KeptExpr) → access_begins access (map begins (map (λ e. e.0) indexes)) opened ≡ true
      → ThereAll indexes × (is_there opened (origin_of access) ≡ true)
  access-there access indexes begin =
      and_parts (all_begin (map begins (map (λ (e : KeptExpr). e.0) indexes)) opened) (is_there opened (origin_of access)) begin

  keeps-components : (value : Whole) (indexes : List KeptExpr) (context : Context) (ranges : List Interval) → In context
      → whole_begins value (map begins (map (λ e. e.0) indexes)) opened ≡ true
      → Yields context (walk.whole_walk value (pieces indexes)) ranges → Keeps at (whole_of value (values indexes) here)
  keeps-components (Text number characters) indexes context ranges stands begin yields =
      keeps-then at _ _ (keeps-enter at number at.visible) (λ _. keeps-give at (map (λ c. Number (pos c)) characters.items))
  keeps-components (VariableOf access type_id cells defined) indexes context ranges stands begin yields =
      let one = yields-then context (walk.access_walk access (pieces indexes))
      (λ reach. walk.whole_use type_id (origin_of access) access.selectors.items reach defined) ranges yields in
      keeps-then at _ _ (keeps-accessed access indexes context one.0 stands (access-there access indexes begin).0 one.1)
      (λ found. keeps-fetch_all at found (components_of at.visible.types type_id) defined)

  -- ---- set constructors

  -- a member expression, and those behind it
  yields-member : (member : KeptExpr) (members : List KeptExpr) (context : Context) (gathering : Gathering) (result : Interval)
      → Yields context (walk.members_walk (pieces (member ∷ members)) gathering) result
      → (known : Known) × Yields context (walk.value_walk member.0) known × (more : Gathering) × Yields context (walk.members_walk (pieces members) more) result
  yields-member member members context gathering result yields =
      let rest = walk.members_walk (pieces members) in
      let one = yields-then context (walk.value_walk member.0) (λ known. walk.◌>>=◌ (walk.gathered gathering (known_range known)) rest) result yields in
      let two = yields-then context (walk.gathered gathering (known_range one.0)) rest result one.2 in
      (one.0, one.1, two.0, two.2)

  -- the designators of the walk don't matter
  keeps-gathered : (designators : List Designator) (members : List KeptExpr) (set : ℕ) (context : Context) (gathering : Gathering) (result : Interval)
      → In context → ThereAll members → Yields context (walk.members_walk (pieces members) gathering) result
      → Keeps at (gathered designators (values members) here set)
  keeps-gathered [] members set context gathering result stands there yields = keeps-give at set
  keeps-gathered (Single site ∷ designators) [] set context gathering result stands there yields = keeps-give at set
  keeps-gathered (Single site ∷ designators) (member ∷ members) set context gathering result stands there yields =
      let first = yields-member member members context gathering result yields in
      let begin = there-next member members there in
      keeps-then at _ _ (member.1 context first.0 stands begin.0 first.1)
      (λ v. keeps-then at _ _ (keeps-with_one at site v set)
      (λ more. keeps-gathered designators members more context first.2 result stands begin.1 first.3))
  keeps-gathered (Range site ∷ designators) [] set context gathering result stands there yields = keeps-give at set
  keeps-gathered (Range site ∷ designators) (first ∷ []) set context gathering result stands there yields = keeps-give at set
  keeps-gathered (Range site ∷ designators) (first ∷ last ∷ members) set context gathering result stands there yields =
      let one = yields-member first (last ∷ members) context gathering result yields in
      let two = yields-member last members context one.2 result one.3 in
      let begin = there-next first (last ∷ members) there in
      let begin_last = there-next last members begin.1 in
      keeps-then at _ _ (first.1 context one.0 stands begin.0 one.1)
      (λ a. keeps-then at _ _ (last.1 context two.0 stands begin_last.0 two.1)
      (λ b. keeps-then at _ _ (keeps-with_range at site a b set)
      (λ more. keeps-gathered designators members more context two.2 result stands begin_last.1 two.3)))

  -- ---- calls

  -- actual parameters begin at what is there
  abbrev ThereActuals : List KeptPassed → Type 0
  ThereActuals actuals = all_begin (map passed_begin (map (λ p. p.0) actuals)) opened ≡ true

  there-actuals : (one : KeptPassed) (others : List KeptPassed) → ThereActuals (one ∷ others) → (passed_begin one.0 opened ≡ true) × ThereActuals others
  there-actuals one others there =
      and_parts (passed_begin one.0 opened) (all_begin (map passed_begin (map (λ (p : KeptPassed). p.0) others)) opened) there

  keeps-passed : (actuals : List KeptPassed) (context : Context) (known : List Actual) → In context
      → ThereActuals actuals → Yields context (walk.actuals_walk (map walk.passed_piece_of (map (λ p. p.0) actuals))) known
      → Keeps at (all_passed (map passing_of (map (λ p. p.0) actuals)) here)
  keeps-passed [] context known stands there yields = keeps-give at []
  keeps-passed (one ∷ rest) context known stands there yields =
      let first = walk.passed_piece_of one.0 in
      let others = walk.actuals_walk (map walk.passed_piece_of (map (λ p. p.0) rest)) in
      let here_first = yields-then context first.walk (λ actual. walk.◌>>=◌ others (λ actuals. walk.give (actual ∷ actuals))) known yields in
      let here_rest = yields-then context others (λ actuals. walk.give (here_first.0 ∷ actuals)) known here_first.2 in
      let begin = there-actuals one rest there in
      keeps-then at _ _ (one.1 context here_first.0 stands begin.0 here_first.1).kept
      (λ argument. keeps-then at _ _ (keeps-passed rest context here_rest.0 stands begin.1 here_rest.1) (λ arguments. keeps-give at (argument ∷ arguments)))

  tied-passed : (actuals : List KeptPassed) (context : Context) (known : List Actual) → In context → ThereActuals actuals
      → Yields context (walk.actuals_walk (map walk.passed_piece_of (map (λ p. p.0) actuals))) known → (arguments : List Argument)
      → CanGive (all_passed (map passing_of (map (λ p. p.0) actuals)) here) arguments → AllTied at.visible known arguments
  tied-passed [] context known stands there yields arguments given =
      subst (λ (actuals : List Actual). AllTied at.visible actuals arguments) yields.value_is
      (subst (λ (all : List Argument). AllTied at.visible [] all) (given-same [] arguments given) tt)
  tied-passed (one ∷ rest) context known stands there yields arguments given =
      let begin = there-actuals one rest there in
      let first = walk.passed_piece_of one.0 in
      let others = walk.actuals_walk (map walk.passed_piece_of (map (λ p. p.0) rest)) in
      let here_first = yields-then context first.walk (λ actual. walk.◌>>=◌ others (λ actuals. walk.give (actual ∷ actuals))) known yields in
      let here_rest = yields-then context others (λ actuals. walk.give (here_first.0 ∷ actuals)) known here_first.2 in
      let later = all_passed (map passing_of (map (λ p. p.0) rest)) here in
      let run_first = can-then (passing_of one.0 here) (λ argument. effect.◌>>=◌ later (λ more. give (argument ∷ more))) arguments given in
      let run_rest = can-then later (λ more. give (run_first.0 ∷ more)) arguments run_first.2 in
      let tied : AllTied at.visible (here_first.0 ∷ here_rest.0) (run_first.0 ∷ run_rest.0) = (
        (one.1 context here_first.0 stands begin.0 here_first.1).tied run_first.0 run_first.1,
        tied-passed rest context here_rest.0 stands begin.1 here_rest.1 run_rest.0 run_rest.1,
      ) in
      subst (λ (actuals : List Actual). AllTied at.visible actuals arguments) here_rest.2.value_is
      (subst (λ (all : List Argument). AllTied at.visible (here_first.0 ∷ here_rest.0) all)
      (given-same (run_first.0 ∷ run_rest.0) arguments run_rest.2) tied)

  keeps-calling : (call : Call) (actuals : List KeptPassed) (context : Context) → In context → ThereActuals actuals
      → Yields context (walk.call_walk call (map walk.passed_piece_of (map (λ p. p.0) actuals))) tt
      → Keeps at (call_of call (map passing_of (map (λ p. p.0) actuals)) here)
  keeps-calling call actuals context stands there yields =
      let all = map walk.passed_piece_of (map (λ p. p.0) actuals) in
      let holds = walk.actuals_hold_call all in
      let one = yields-then context (walk.enter call.number)
      (λ _. walk.◌>>=◌ (walk.actuals_walk all) (λ passed. walk.called call holds passed)) tt yields in
      let two = yields-then context (walk.actuals_walk all) (λ passed. walk.called call holds passed) tt one.2 in
      keeps-then at _ _ (keeps-enter at call.number at.visible)
      (λ _. keeps-when at _ _ (keeps-passed actuals context two.0 stands there two.1)
      (λ arguments given. keeps-call tree blocks declares block at grounds context stands calls leave call holds two.0 arguments two.2
      (tied-passed actuals context two.0 stands there two.1 arguments given)))

  -- ---- the forms

  keeps-in_turn : (links : List KeptLink) (context : Context) (left known : Known) (v : Value) → In context
      → all_begin (map begin_link (map (λ l. l.0) links)) opened ≡ true
      → Yields context (walk.in_turn (map (λ joint. joint.combination) (map walk.joint_of (map (λ l. l.0) links))) left) known
      → Keeps at (in_turn (map link_of (map (λ l. l.0) links)) here v)
  keeps-in_turn [] context left known v stands there yields = keeps-give at v
  keeps-in_turn (link ∷ links) context left known v stands there yields =
      let others = walk.in_turn (map (λ joint. joint.combination) (map walk.joint_of (map (λ l. l.0) links))) in
      let one = yields-then context (walk.link_walk link.0 left) others known yields in
      let begin = and_parts (begin_link link.0 opened) (all_begin (map begin_link (map (λ (l : KeptLink). l.0) links)) opened) there in
      keeps-then at _ _ (link.1 context left one.0 v stands begin.0 one.1) (λ w. keeps-in_turn links context one.0 known w stands begin.1 one.2)

  abbrev bare : Expr-F KeptExpr KeptPassed KeptLink → Expr-F Expr Passed Link
  bare = map-Expr KeptExpr KeptPassed KeptLink Expr Passed Link (λ e. e.0) (λ p. p.0) (λ l. l.0)

  abbrev bare_passed : Passed-F KeptExpr KeptPassed KeptLink → Passed-F Expr Passed Link
  bare_passed = map-Passed KeptExpr KeptPassed KeptLink Expr Passed Link (λ e. e.0) (λ p. p.0) (λ l. l.0)

  abbrev bare_link : Link-F KeptExpr KeptPassed KeptLink → Link-F Expr Passed Link
  bare_link = map-Link KeptExpr KeptPassed KeptLink Expr Passed Link (λ e. e.0) (λ p. p.0) (λ l. l.0)

  abbrev walked : Expr-F Expr Passed Link → Walking Known
  walked x = walk.walk_step (map-Expr Expr Passed Link Piece PassedPiece Joint walk.piece_of walk.passed_piece_of walk.joint_of x)

  abbrev valued : Expr-F Expr Passed Link → Evaluation
  valued x = value_step (map-Expr Expr Passed Link Evaluation Passing Combination value_of passing_of link_of x)

  abbrev walked_passed : Passed-F Expr Passed Link → Walking Actual
  walked_passed x = walk.passed_walk (map-Passed Expr Passed Link Piece PassedPiece Joint walk.piece_of walk.passed_piece_of walk.joint_of x)

  abbrev valued_passed : Passed-F Expr Passed Link → Passing
  valued_passed x = passed_step (map-Passed Expr Passed Link Evaluation Passing Combination value_of passing_of link_of x)

  abbrev walked_link : Link-F Expr Passed Link → walk.Combination
  walked_link x = walk.combination_of (map-Link Expr Passed Link Piece PassedPiece Joint walk.piece_of walk.passed_piece_of walk.joint_of x)

  abbrev valued_link : Link-F Expr Passed Link → Combination
  valued_link x = link_step (map-Link Expr Passed Link Evaluation Passing Combination value_of passing_of link_of x)

  -- a form begins at what is there
  abbrev begin_of : Expr-F Expr Passed Link → Begin
  begin_of x = expression_begins (map-Expr Expr Passed Link Begin Begin Begin begins passed_begin begin_link x)

  abbrev begin_passed : Passed-F Expr Passed Link → Begin
  begin_passed x = passed_begins (map-Passed Expr Passed Link Begin Begin Begin begins passed_begin begin_link x)

  abbrev begin_behind : Link-F Expr Passed Link → Begin
  begin_behind x = link_begins (map-Link Expr Passed Link Begin Begin Begin begins passed_begin begin_link x)

  layer : (y : Expr-F KeptExpr KeptPassed KeptLink) (context : Context) (known : Known) → In context → begin_of (bare y) opened ≡ true
      → Yields context (walked (bare y)) known → Keeps at (valued (bare y) here)
  layer (Constant number value) context known stands begin yields =
      keeps-then at _ _ (keeps-enter at number at.visible) (λ _. keeps-give at (Number value))
  layer (Variable access indexes holds defined) context known stands begin yields =
      let one = yields-then context (walk.access_walk access (pieces indexes.items))
      (λ reach. walk.value_use holds (origin_of access) access.selectors.items reach defined) known yields in
      keeps-then at _ _ (keeps-accessed access indexes.items context one.0 stands (access-there access indexes.items begin).0 one.1)
      (λ found. keeps-fetch at found defined)
  layer (SetOf number designators members) context known stands begin yields =
      let gathering = walk.none_gathered designators.items in
      let inner = walk.members_walk (pieces members.items) gathering in
      let one = yields-then context (walk.enter number) (λ _. walk.◌>>=◌ inner walk.set) known yields in
      let two = yields-then context inner walk.set known one.2 in
      keeps-then at _ _ (keeps-enter at number at.visible)
      (λ _. keeps-then at _ _ (keeps-gathered designators.items members.items sets.empty context gathering two.0 stands begin two.1)
      (λ set. keeps-give at (Members set)))
  layer (MonadicOf number operation operand) context known stands begin yields =
      let inner = walk.value_walk operand.value.0 in
      let one = yields-then context (walk.enter number) (λ _. walk.◌>>=◌ inner (walk.operated operation)) known yields in
      let two = yields-then context inner (walk.operated operation) known one.2 in
      keeps-then at _ _ (keeps-enter at number at.visible)
      (λ _. keeps-then at _ _ (operand.value.1 context two.0 stands begin two.1) (λ v. keeps-valued at _ (keeps-operated at operation (number_of v))))
  layer (Chain first rest) context known stands begin yields =
      let others = walk.in_turn (map (λ joint. joint.combination) (map walk.joint_of (map (λ l. l.0) rest.items))) in
      let one = yields-then context (walk.value_walk first.value.0) others known yields in
      let there = and_parts (begins first.value.0 opened) (all_begin (map begin_link (map (λ (l : KeptLink). l.0) rest.items)) opened) begin in
      keeps-then at _ _ (first.value.1 context one.0 stands there.0 one.1) (λ v. keeps-in_turn rest.items context one.0 known v stands there.1 one.2)
  layer (Compare number relation left left_indexes right right_indexes) context known stands begin yields =
      let related = walk.related_walk number right (pieces right_indexes.items) in
      let one = yields-then context (walk.whole_walk left (pieces left_indexes.items)) (λ _. related) known yields in
      let behind = λ (_ : Unit {0}). walk.◌>>=◌ (walk.whole_walk right (pieces right_indexes.items)) (λ _. walk.ordinal truth_values) in
      let two = yields-then context (walk.enter number) behind known one.2 in
      let three = yields-then context (walk.whole_walk right (pieces right_indexes.items)) (λ _. walk.ordinal truth_values) known two.2 in
      let there = and_parts (whole_begins left (map begins (map (λ (e : KeptExpr). e.0) left_indexes.items)) opened)
      (whole_begins right (map begins (map (λ (e : KeptExpr). e.0) right_indexes.items)) opened) begin in
      keeps-then at _ _ (keeps-components left left_indexes.items context one.0 stands there.0 one.1)
      (λ a. keeps-then at _ _ (keeps-enter at number at.visible)
      (λ _. keeps-then at _ _ (keeps-components right right_indexes.items context three.0 stands there.1 three.1)
      (λ b. keeps-give at (Number (compared relation a b)))))
  layer (CallOf call actuals) context known stands begin yields =
      let all = map walk.passed_piece_of (map (λ p. p.0) actuals.items) in
      let one = yields-then context (walk.call_walk call all)
      (λ _ around. walk.result_walk call (walk.result_of (walk.called_block around call)) around) known yields in
      keeps-calling call actuals.items context stands begin one.1
  layer (Input number asks) context known stands begin yields =
      keeps-then at _ _ (keeps-enter at number at.visible)
      (λ _. keeps-then at _ _ (keeps-asked at asks) (λ b. keeps-give at (Number (truth b))))

  tie-given : (known actual : Actual) (passed argument : Argument) → known ≡ actual → passed ≡ argument → Ties at.visible known passed
      → Ties at.visible actual argument
  tie-given known actual passed argument one two tie =
      subst (λ (a : Actual). Ties at.visible a argument) one (subst (λ (b : Argument). Ties at.visible known b) two tie)

  passed-layer : (y : Passed-F KeptExpr KeptPassed KeptLink) (context : Context) (actual : Actual) → In context → begin_passed (bare_passed y) opened ≡ true
      → Yields context (walked_passed (bare_passed y)) actual → KeepsPassed actual (valued_passed (bare_passed y))
  passed-layer (PassedValue value fits) context actual stands begin yields =
      let piece = walk.piece_of value.0 in
      let last = λ (known : Known) (own : Context). walk.give (OfValue (known_range known) (walk.form_in own piece)) own in
      let one = yields-then context piece.walk (λ known. walk.◌>>=◌ (walk.fitting fits known) last) actual yields in
      let two = yields-then context (walk.fitting fits one.0) last actual one.2 in
      record {
        kept = keeps-then at _ _ (value.1 context one.0 stands begin one.1)
            (λ v. keeps-then at _ _ (keeps-require at (is_in fits.range v) fits.site) (λ _. keeps-give at (meaning.OfValue v)));
        tied = λ argument given.
            let run = can-then (value_of value.0 here)
            (λ v. effect.◌>>=◌ (require (is_in fits.range v) fits.site) (λ _. give (meaning.OfValue v))) argument given in
            let last_run = can-then (require (is_in fits.range run.0) fits.site) (λ _. give (meaning.OfValue run.0)) argument run.2 in
            tie-given (OfValue (known_range two.0) (walk.form_in context piece)) actual (meaning.OfValue run.0) argument two.2.value_is
            (given-same (meaning.OfValue run.0) argument last_run.2) tt;
      }
  passed-layer (PassedWhole type_id value indexes) context actual stands begin yields =
      let one = yields-then context (walk.whole_walk value (pieces indexes.items)) (λ ranges. walk.give (OfRows ranges)) actual yields in
      record {
        kept = keeps-then at _ _ (keeps-components value indexes.items context one.0 stands begin one.1) (λ row. keeps-give at (OfRow row));
        tied = λ argument given.
            let run = can-then (whole_of value (values indexes.items) here) (λ row. give (OfRow row)) argument given in
            tie-given (OfRows one.0) actual (OfRow run.0) argument one.2.value_is
            (given-same (OfRow run.0) argument run.2) tt;
      }
  passed-layer (Reference type_id access indexes) context actual stands begin yields =
      let known = λ (reach : Reach). OfVariable (origin_of access) access.selectors.items reach in
      let there = access-there access indexes.items begin in
      let one = yields-then context (walk.access_walk access (pieces indexes.items)) (λ reach. walk.give (known reach)) actual yields in
      record {
        kept = keeps-then at _ _ (keeps-accessed access indexes.items context one.0 stands there.0 one.1) (λ found. keeps-give at (OfPlace found));
        tied = λ argument given.
            let run = can-then (accessed access (values indexes.items) here) (λ found. give (OfPlace found)) argument given in
            tie-given (known one.0) actual (OfPlace run.0) argument one.2.value_is (given-same (OfPlace run.0) argument run.2)
            (under-accessed at.visible places calls opened lie access there.1 (values indexes.items) run.0 run.1);
      }

  link-layer : (y : Link-F KeptExpr KeptPassed KeptLink) (context : Context) (left known : Known) (v : Value) → In context
      → begin_behind (bare_link y) opened ≡ true → Yields context (walked_link (bare_link y) left) known → Keeps at (valued_link (bare_link y) here v)
  link-layer y context left known v stands begin yields =
      let inner = walk.value_walk y.operand.0 in
      let one = yields-then context (walk.enter y.number) (λ _. walk.◌>>=◌ inner (walk.combined y.operation left)) known yields in
      let two = yields-then context inner (walk.combined y.operation left) known one.2 in
      keeps-then at _ _ (keeps-enter at y.number at.visible)
      (λ _. keeps-then at _ _ (y.operand.1 context two.0 stands begin two.1) (λ w. keeps-operated_both at y.operation v w))

  -- ---- the whole

  abbrev IsKeptLayer : Expr-F Expr Passed Link → Type 0
  IsKeptLayer x =
      (context : Context) (known : Known) → In context → begin_of x opened ≡ true → Yields context (walked x) known → Keeps at (valued x here)

  abbrev IsKeptPassedLayer : Passed-F Expr Passed Link → Type 0
  IsKeptPassedLayer x =
      (context : Context) (actual : Actual) → In context → begin_passed x opened ≡ true → Yields context (walked_passed x) actual
      → KeepsPassed actual (valued_passed x)

  abbrev IsKeptLinkLayer : Link-F Expr Passed Link → Type 0
  IsKeptLinkLayer x =
      (context : Context) (left known : Known) (v : Value) → In context → begin_behind x opened ≡ true → Yields context (walked_link x left) known
      → Keeps at (valued_link x here v)

  rolled : (x : Expr-F Expr Passed Link) (y : Expr-F KeptExpr KeptPassed KeptLink) → bare y ≡ x → IsKept (roll-Expr x)
  rolled x y is context known stands begin yields =
      subst (λ (evaluation : Evaluation). Keeps at (evaluation here))
      (sym (fold-roll-Expr Evaluation Passing Combination value_step passed_step link_step x))
      (subst IsKeptLayer is (layer y) context known stands
      (subst (λ (own : Begin). own opened ≡ true) (fold-roll-Expr Begin Begin Begin expression_begins passed_begins link_begins x) begin)
      (subst (λ (piece : Piece). Yields context piece.walk known)
      (fold-roll-Expr Piece PassedPiece Joint walk.piece_step walk.passed_step walk.link_step x) yields))

  rolled-passed : (x : Passed-F Expr Passed Link) (y : Passed-F KeptExpr KeptPassed KeptLink) → bare_passed y ≡ x → IsKeptPassed (roll-Passed x)
  rolled-passed x y is context actual stands begin yields =
      subst (λ (passing : Passing). KeepsPassed actual passing)
      (sym (fold-roll-Passed Evaluation Passing Combination value_step passed_step link_step x))
      (subst IsKeptPassedLayer is (passed-layer y) context actual stands
      (subst (λ (own : Begin). own opened ≡ true) (fold-roll-Passed Begin Begin Begin expression_begins passed_begins link_begins x) begin)
      (subst (λ (piece : PassedPiece). Yields context piece.walk actual)
      (fold-roll-Passed Piece PassedPiece Joint walk.piece_step walk.passed_step walk.link_step x) yields))

  rolled-link : (x : Link-F Expr Passed Link) (y : Link-F KeptExpr KeptPassed KeptLink) → bare_link y ≡ x → IsKeptLink (roll-Link x)
  rolled-link x y is context left known v stands begin yields =
      subst (λ (combination : Combination). Keeps at (combination here v))
      (sym (fold-roll-Link Evaluation Passing Combination value_step passed_step link_step x))
      (subst IsKeptLinkLayer is (link-layer y) context left known v stands
      (subst (λ (own : Begin). own opened ≡ true) (fold-roll-Link Begin Begin Begin expression_begins passed_begins link_begins x) begin)
      (subst (λ (joint : Joint). Yields context (joint.combination left) known)
      (fold-roll-Link Piece PassedPiece Joint walk.piece_step walk.passed_step walk.link_step x) yields))

  pub value-kept : (e : Expr) → IsKept e
  value-kept = ind-Expr IsKept IsKeptPassed IsKeptLink rolled rolled-passed rolled-link

  passed-kept : (p : Passed) → IsKeptPassed p
  passed-kept = ind-Passed IsKept IsKeptPassed IsKeptLink rolled rolled-passed rolled-link

  -- ---- of expressions alone

  abbrev all_kept : List Expr → List KeptExpr
  all_kept [] = []
  all_kept (index ∷ indexes) = (index, value-kept index) ∷ all_kept indexes

  all-indexes : (indexes : List Expr) → map (λ e. e.0) (all_kept indexes) ≡ indexes
  all-indexes [] = refl
  all-indexes (index ∷ indexes) = ap (λ others. index ∷ others) (all-indexes indexes)

  abbrev actuals_kept : List Passed → List KeptPassed
  actuals_kept [] = []
  actuals_kept (one ∷ rest) = (one, passed-kept one) ∷ actuals_kept rest

  all-actuals : (actuals : List Passed) → map (λ p. p.0) (actuals_kept actuals) ≡ actuals
  all-actuals [] = refl
  all-actuals (one ∷ rest) = ap (λ others. one ∷ others) (all-actuals rest)

  pub access-kept : (access : Access) (indexes : List Expr) (context : Context) (reach : Reach) → In context → all_begin (map begins indexes) opened ≡ true
      → Yields context (walk.access_walk access (walk.index_pieces indexes)) reach → Keeps at (accessed access (values_of indexes) here)
  access-kept access indexes =
      subst (λ (all : List Expr). (context : Context) (reach : Reach) → In context → all_begin (map begins all) opened ≡ true
      → Yields context (walk.access_walk access (walk.index_pieces all)) reach → Keeps at (accessed access (values_of all) here))
      (all-indexes indexes) (keeps-accessed access (all_kept indexes))

  pub whole-kept : (value : Whole) (indexes : List Expr) (context : Context) (ranges : List Interval) → In context → value_begins value indexes opened ≡ true
      → Yields context (walk.whole_walk value (walk.index_pieces indexes)) ranges → Keeps at (whole_of value (values_of indexes) here)
  whole-kept value indexes =
      subst (λ (all : List Expr). (context : Context) (ranges : List Interval) → In context → value_begins value all opened ≡ true
      → Yields context (walk.whole_walk value (walk.index_pieces all)) ranges → Keeps at (whole_of value (values_of all) here))
      (all-indexes indexes) (keeps-components value (all_kept indexes))

  pub call-kept : (call : Call) (actuals : List Passed) (context : Context) → In context → all_begin (map passed_begin actuals) opened ≡ true
      → Yields context (walk.call_walk call (map walk.passed_piece_of actuals)) tt → Keeps at (call_of call (map passing_of actuals) here)
  call-kept call actuals =
      subst (λ (all : List Passed). (context : Context) → In context → all_begin (map passed_begin all) opened ≡ true
      → Yields context (walk.call_walk call (map walk.passed_piece_of all)) tt → Keeps at (call_of call (map passing_of all) here))
      (all-actuals actuals) (keeps-calling call (actuals_kept actuals))

  -- ---- what is written

  width-kept : (width : Option Width) (default : ℤ) (context : Context) → In context → width_begins width opened ≡ true
      → Yields context (walk.width_walk width) tt → Keeps at (width_of width default here)
  width-kept None default context stands begin yields = keeps-give at default
  width-kept (Some width) default context stands begin yields =
      let one = yields-then context (walk.value_walk width.value) (λ known. walk.width_test width.site known) tt yields in
      keeps-then at _ _ (value-kept width.value context one.0 stands begin one.1)
      (λ w. keeps-then at _ _ (keeps-require at (is_positive (number_of w)) width.site) (λ _. keeps-give at (number_of w)))

  written-kept : (value : Written) (width : Option Width) (context : Context) → In context → written_begins value opened ≡ true
      → width_begins width opened ≡ true → Yields context (walk.written_walk value) tt
      → Yields context (walk.width_walk width) tt → Keeps at (written_of value width here)
  written-kept (OrdinalOf value representation) width context stands begin wide yields widths =
      let one = yields-then context (walk.value_walk value) (λ _. walk.give tt) tt yields in
      keeps-then at _ _ (value-kept value context one.0 stands begin one.1)
      (λ v. keeps-then at _ _ (width-kept width (default_width representation) context stands wide widths)
      (λ w. keeps-write at (text_of representation (number_of v) w)))
  written-kept (String value indexes) width context stands begin wide yields widths =
      let one = yields-then context (walk.whole_walk value (walk.index_pieces indexes.items)) (λ _. walk.give tt) tt yields in
      keeps-then at _ _ (whole-kept value indexes.items context one.0 stands begin one.1)
      (λ components. keeps-then at _ _ (width-kept width (pos (length_of value)) context stands wide widths)
      (λ w. keeps-write at (row_text components w)))

  pub parameter-kept : (parameter : WriteParameter) (context : Context) → In context → parameter_begins parameter opened ≡ true
      → Yields context (walk.parameter_walk parameter) tt → Keeps at (parameter_of parameter here)
  parameter-kept parameter context stands begin yields =
      let one = yields-then context (walk.written_walk parameter.value) (λ _. walk.width_walk parameter.width) tt yields in
      let there = and_parts (written_begins parameter.value opened) (width_begins parameter.width opened) begin in
      written-kept parameter.value parameter.width context stands there.0 there.1 one.1 one.2
