-- The walk over an expression by a plain certificate breaks no rule.
use Rattle.std.proofs.Common.{arith, ◌≡◌, ◌∙◌, sym, ap, ap₂, refl, subst, ℕ, zero, suc, ◌+◌, Bool, true, false, ◌&&◌, nat_eq, List, [], ◌∷◌, ◌++◌}
use Rattle.std.proofs.Common.{Option, Some, None, length, map}
use Rattle.std.specs.List.{Contains, list_all}
use Rattle.std.specs.Option.{option_and_then, option_map}
use Rattle.std.specs.Prelude.{slice_get}
use Rattle.std.proofs.lemmas.Bool.{and_from, and_parts, eq-eqb, eqb-true, or_right}
use Rattle.std.proofs.lemmas.List.{length-map}
use Rattle.std.proofs.lemmas.Option.{none-some, same_Some, slice_get-map}
use Rattle.place.specs.declared.Place.{Place}
use Rattle.typed_tree.specs.declared.tree.Access.{Access}
use Rattle.typed_tree.specs.declared.tree.Block.{Block}
use Rattle.typed_tree.specs.declared.tree.Call.{Call}
use Rattle.typed_tree.specs.declared.tree.Designator.{Designator}
use Rattle.typed_tree.specs.declared.tree.Designator.TheVariants.{Single, Range}
use Rattle.typed_tree.specs.declared.tree.Dyadic.{Dyadic}
use Rattle.typed_tree.specs.declared.tree.Dyadic.TheVariants as dyadic
use Rattle.typed_tree.specs.declared.tree.FunctionResult.{FunctionResult}
use Rattle.typed_tree.specs.declared.tree.Heading.{Heading}
use Rattle.typed_tree.specs.declared.tree.Monadic.{Monadic}
use Rattle.typed_tree.specs.declared.tree.Monadic.TheVariants as monadic
use Rattle.typed_tree.specs.declared.tree.RangeTest.{RangeTest}
use Rattle.typed_tree.specs.declared.tree.Selector.{Selector}
use Rattle.typed_tree.specs.declared.tree.Tree.{Tree}
use Rattle.typed_tree.specs.declared.tree.Variable.{Variable as DeclaredVariable}
use Rattle.typed_tree.specs.declared.tree.Whole.{Whole}
use Rattle.typed_tree.specs.declared.tree.Whole.TheVariants.{Text, Variable as VariableOf}
use Rattle.typed_tree.specs.declared.tree.Width.{Width}
use Rattle.typed_tree.specs.declared.tree.WriteParameter.{WriteParameter}
use Rattle.typed_tree.specs.declared.tree.Written.{Written}
use Rattle.typed_tree.specs.declared.tree.Written.TheVariants as written
use Rattle.typed_tree.specs.declared.tree.Expr.{Expr}
use Rattle.typed_tree.specs.declared.tree.Link.{Link}
use Rattle.typed_tree.specs.declared.tree.Passed.{Passed}
use Rattle.typed_tree.specs.declared.tree.Expr.TheOpen.{Expr-F, Link-F, Passed-F}
use Rattle.typed_tree.specs.declared.tree.Expr.TheOpen.Expr-F.{Constant, Variable, Monadic as MonadicOf, Chain, Compare, Call as CallOf, Set, Input}
use Rattle.typed_tree.specs.declared.tree.Expr.TheOpen.Passed-F.{Value as PassedValue, Whole as PassedWhole, Reference}
use Rattle.typed_tree.specs.declared.tree.Expr.TheViews.{roll-Expr, roll-Link, roll-Passed}
use Rattle.typed_tree.specs.declared.tree.Expr.TheFolds.{map-Expr, map-Link, map-Passed, fold-roll-Expr, fold-roll-Link, fold-roll-Passed, ind-Expr, ind-Passed}
use Rattle.typed_tree.specs.Accesses.{Origin, origin_of, root_of}
use Rattle.typed_tree.specs.WellFormed.{Outline, all_hold, declarer, dyadic_is_well_formed, expr_is_well_formed, formal_of, heading_of}
use Rattle.typed_tree.specs.WellFormed.{is_callable, is_kind_of, is_passed_to, is_round, is_well_formed_expr, is_well_formed_link, is_well_formed_parameter}
use Rattle.typed_tree.specs.WellFormed.{is_well_formed_passed, is_well_formed_value, is_well_formed_whole, is_well_formed_width, is_well_formed_written}
use Rattle.typed_tree.specs.WellFormed.{is_variable_kind, is_visible, leads_to, leads_to_type, link_is_well_formed, may_call, monadic_is_well_formed, of_one}
use Rattle.typed_tree.specs.WellFormed.{outline_of, passed_is_well_formed, passes_variable, placed, takes_variable, whole_indexes}
use Rattle.types.specs.declared.form.TypeId.{TypeId}
use Rattle.types.specs.Types.{is_same}
use Rattle.certificate.specs.declared.Certificate.{Certificate}
use Rattle.domain.specs.Interval.{Interval}
use Rattle.meaning.specs.Meaning.{overflow_of, overflow_of_both}
use Rattle.checker_state.specs.declared.value.Known.{Known}
use Rattle.checker_state.specs.Values.{known_range}
use Rattle.checker_state.specs.State.{State, is_dead}
use Rattle.checker_state.specs.Stores.{Reach}
use Rattle.checker_loops.specs.Loops.{Round}
use Rattle.checker_calls.specs.Actuals.{Actual, OfRows, OfValue, OfVariable, after_call, bound_to, settled}
use Rattle.checker_calls.specs.Entry.{are_given}
use Rattle.checker_calls.specs.Exit.{roots_changed}
use Rattle.checker_calls.specs.Overlaps.{are_separate}
use Rattle.checker_calls.proofs.Entered.{parameter-own, parameters-distinct}
use Rattle.checker_calls.proofs.Headings.{heading-at, one-there}
use Rattle.checker_expressions.specs.declared.fault.Breach.{Breach}
use Rattle.checker_expressions.specs.declared.fault.Rule.{Rule}
use Rattle.checker_expressions.specs.declared.fault.Rule.TheVariants.{Aliases, CallEntry, Changes}
use Rattle.checker_expressions.specs.Walk.{Combination, Context, Gathering, Joint, PassedPiece, Piece, Walking, ◌>>=◌, access_walk, actuals_hold_call}
use Rattle.checker_expressions.specs.Walk.{actuals_walk, around_of, behind_next, breach_unless, calculated, calculated_both, call_walk, called, called_block}
use Rattle.checker_expressions.specs.Walk.{combined, deeper, divides, form_before, gathered, gathered_by, in_turn, index_pieces, index_test}
use Rattle.checker_expressions.specs.Walk.{indexes_walk, is_kept, joint_of, link_step, link_walk, may_change, members_walk, next_test, none_gathered}
use Rattle.checker_expressions.specs.Walk.{of_both, operated}
use Rattle.checker_expressions.specs.Walk.{parameter_walk, parameters_of, passed_piece_of, passed_step, piece_of, piece_step, reach_at, result_of, result_walk}
use Rattle.checker_expressions.specs.Walk.{unless_overflow, value_walk, whole_walk, width_walk, written_walk}
use Rattle.cert_checker.proofs.PlainLists.{AreWide, ArePassedTo, IsPassedTo, IsPlain, at, call-may, entry-none, of_block, separate}

-- ---- walks that break no rule anywhere

abbrev pub Silent : {A : Type 0} → Walking A → Type 0
Silent walk = (context : Context) (state : State) → (walk context state).broken ≡ []

pub none-more : (first second : List Breach) → first ≡ [] → second ≡ [] → first ++ second ≡ []
none-more first second a b = ap₂ (λ (x y : List Breach). x ++ y) a b

pub none-asked : (kept : Bool) (rule : Rule) (place : Place) → kept ≡ true → breach_unless kept rule place ≡ []
none-asked kept rule place is = ap (λ (b : Bool). breach_unless b rule place) is

unless-silent : (overflow : Option ℕ) (range : Interval) → Silent (unless_overflow overflow range)
unless-silent None range context state = refl
unless-silent (Some site) range context state = refl

operated-silent : (operation : Monadic) (known : Known) → Silent (operated operation known)
operated-silent (monadic.Plain does) known context state = unless-silent (overflow_of does) (calculated does (known_range known)) context state
operated-silent (monadic.Tested fits does) known context state = refl

divides-silent : (operation : Dyadic) (range : Interval) → Silent (divides operation range)
divides-silent (dyadic.Plus overflow) range context state = refl
divides-silent (dyadic.Minus overflow) range context state = refl
divides-silent (dyadic.Times overflow) range context state = refl
divides-silent (dyadic.Div by_zero) range context state = refl
divides-silent (dyadic.Mod by_zero_or_less) range context state = refl
divides-silent dyadic.And range context state = refl
divides-silent dyadic.Or range context state = refl
divides-silent (dyadic.Relation relation) range context state = refl
divides-silent dyadic.Union range context state = refl
divides-silent dyadic.Difference range context state = refl
divides-silent dyadic.Intersection range context state = refl
divides-silent (dyadic.SetRelation relation) range context state = refl
divides-silent dyadic.In range context state = refl

both-silent : (operation : Dyadic) (left right : Interval) → Silent (calculated_both operation left right)
both-silent operation left right context state =
    let first = divides operation right context state in
    let second = unless_overflow (overflow_of_both operation) (of_both operation left first.value) context first.after in
    none-more first.broken second.broken (divides-silent operation right context state)
    (unless-silent (overflow_of_both operation) (of_both operation left first.value) context first.after)

combined-silent : (operation : Dyadic) (left right : Known) → Silent (combined operation left right)
combined-silent (dyadic.Plus overflow) left right = both-silent (dyadic.Plus overflow) (known_range left) (known_range right)
combined-silent (dyadic.Minus overflow) left right = both-silent (dyadic.Minus overflow) (known_range left) (known_range right)
combined-silent (dyadic.Times overflow) left right = both-silent (dyadic.Times overflow) (known_range left) (known_range right)
combined-silent (dyadic.Div by_zero) left right = both-silent (dyadic.Div by_zero) (known_range left) (known_range right)
combined-silent (dyadic.Mod by_zero_or_less) left right = both-silent (dyadic.Mod by_zero_or_less) (known_range left) (known_range right)
combined-silent dyadic.And left right = both-silent dyadic.And (known_range left) (known_range right)
combined-silent dyadic.Or left right = both-silent dyadic.Or (known_range left) (known_range right)
combined-silent (dyadic.Relation relation) left right = both-silent (dyadic.Relation relation) (known_range left) (known_range right)
combined-silent dyadic.Union left right = λ context state. refl
combined-silent dyadic.Difference left right = λ context state. refl
combined-silent dyadic.Intersection left right = λ context state. refl
combined-silent (dyadic.SetRelation relation) left right = λ context state. refl
combined-silent dyadic.In left right = λ context state. refl

tested-silent : (fits : Option RangeTest) (known : Known) → Silent (index_test fits known)
tested-silent None known context state = refl
tested-silent (Some fits) known context state = refl

gathered-silent : (left : List Designator) (first : Option Interval) (range hull : Interval) → Silent (gathered_by left first range hull)
gathered-silent [] first range hull context state = refl
gathered-silent (Single site ∷ left) first range hull context state = refl
gathered-silent (Range site ∷ left) None range hull context state = refl
gathered-silent (Range site ∷ left) (Some first) range hull context state = refl

result-silent : (call : Call) (result : Option FunctionResult) → Silent (result_walk call result)
result-silent call None context state = refl
result-silent call (Some result) context state = refl

contains-at : (items : List ℕ) (k x : ℕ) → slice_get items k ≡ Some x → Contains items x
contains-at [] k x is = absurd (none-some x is)
contains-at (first ∷ items) zero x is = (0, omega arith, same_Some first x is)
contains-at (first ∷ items) (suc k) x is = let (i, within, here) = contains-at items k x is in (suc i, omega (arith, within), here)

module _ (tree : Tree) (certificate : Certificate) (plain : IsPlain tree certificate) (block : ℕ) where
  abbrev outline : Outline
  outline = outline_of tree

  abbrev pub Wide : List Round → Type 0
  Wide rounds = AreWide tree certificate plain block rounds

  abbrev pub here : List Round → Context
  here rounds = at tree certificate plain block rounds

  -- a walk in the block breaks no rule, inside loops that list what is visible
  abbrev pub Keeps : {A : Type 0} → Walking A → Type 0
  Keeps walk = (rounds : List Round) → Wide rounds → (state : State) → (walk (here rounds) state).broken ≡ []

  -- one walk, and then another
  pub keeps-then : {A B : Type 0} (walk : Walking A) (next : A → Walking B) → Keeps walk → ((a : A) → Keeps (next a)) → Keeps (walk >>= next)
  keeps-then walk next one other rounds wide state =
      let first = walk (here rounds) state in
      let second = next first.value (here rounds) first.after in
      none-more first.broken second.broken (one rounds wide state) (other first.value rounds wide first.after)

  pub keeps-silent : {A : Type 0} (walk : Walking A) → Silent walk → Keeps walk
  keeps-silent walk silent rounds wide state = silent (here rounds) state

  -- ---- accesses and whole values

  abbrev AllKeep : List Piece → Type 0
  AllKeep [] = Unit {0}
  AllKeep (piece ∷ pieces) = Keeps piece.walk × AllKeep pieces

  indexes-kept : (selectors : List Selector) (pieces : List Piece) (reach : Reach) → AllKeep pieces → Keeps (indexes_walk selectors pieces reach)
  indexes-kept selectors [] reach all rounds wide state = refl
  indexes-kept selectors (piece ∷ pieces) reach all rounds wide state =
      let context = here rounds in
      let first = piece.walk context state in
      let test = index_test (next_test selectors) first.value context first.after in
      let next = deeper (is_kept context.version selectors) (record { form = form_before context piece pieces; range = test.value }) reach in
      let rest = indexes_walk (behind_next selectors) pieces next context test.after in
      none-more first.broken (test.broken ++ rest.broken) (all.0 rounds wide state)
      (none-more test.broken rest.broken (tested-silent (next_test selectors) first.value context first.after)
      (indexes-kept (behind_next selectors) pieces next all.1 rounds wide test.after))

  access-of : (access : Access) (pieces : List Piece) → AllKeep pieces → Keeps (access_walk access pieces)
  access-of access pieces all rounds wide state =
      indexes-kept access.selectors.items pieces (reach_at (origin_of access)) all rounds wide state

  members-kept : (pieces : List Piece) (gathering : Gathering) → AllKeep pieces → Keeps (members_walk pieces gathering)
  members-kept [] gathering all rounds wide state = refl
  members-kept (piece ∷ pieces) gathering all rounds wide state =
      let context = here rounds in
      let first = piece.walk context state in
      let range = known_range first.value in
      let more = gathered gathering range context first.after in
      let rest = members_walk pieces more.value context more.after in
      none-more first.broken (more.broken ++ rest.broken) (all.0 rounds wide state)
      (none-more more.broken rest.broken (gathered-silent gathering.left gathering.first range gathering.hull context first.after)
      (members-kept pieces more.value all.1 rounds wide more.after))

  -- a string has no indexes
  abbrev WholeKeep : Whole → List Piece → Type 0
  WholeKeep (Text number text) pieces = Unit {0}
  WholeKeep (VariableOf access type_id cells defined) pieces = AllKeep pieces

  whole-of : (value : Whole) (pieces : List Piece) → WholeKeep value pieces → Keeps (whole_walk value pieces)
  whole-of (Text number text) pieces all rounds wide state = refl
  whole-of (VariableOf access type_id cells defined) pieces all rounds wide state =
      none-more (access_walk access pieces (here rounds) state).broken [] (access-of access pieces all rounds wide state) refl

  -- ---- what is proved of the parts

  abbrev Kept : Expr → Type 0
  Kept e = is_well_formed_expr outline block e ≡ true → Keeps (value_walk e)

  -- a variable that is passed is visible, and its formal parameter is a variable one
  abbrev IsActual : ℕ → ℕ → Actual → Type 0
  IsActual callee position (OfValue range form) = Unit {0}
  IsActual callee position (OfRows ranges) = Unit {0}
  IsActual callee position (OfVariable origin selectors reach) =
      (is_visible outline block (root_of origin) ≡ true)
      × (of_one (λ (v : DeclaredVariable). is_variable_kind v.kind) (formal_of outline callee position) ≡ true)

  abbrev KeepsPassed : ℕ → ℕ → Walking Actual → Type 0
  KeepsPassed callee position walk =
      (rounds : List Round) → Wide rounds → (state : State)
      → ((walk (here rounds) state).broken ≡ []) × IsActual callee position (walk (here rounds) state).value

  abbrev KeptPassed : Passed → Type 0
  KeptPassed p = (callee position : ℕ) → is_well_formed_passed outline block p callee position ≡ true → KeepsPassed callee position (passed_piece_of p).walk

  abbrev KeptLink : Link → Type 0
  KeptLink l = is_well_formed_link outline block l ≡ true → (left : Known) → Keeps (link_walk l left)

  abbrev ProvedExpr : Type 0
  ProvedExpr = (e : Expr) × Kept e

  abbrev ProvedPassed : Type 0
  ProvedPassed = (p : Passed) × KeptPassed p

  abbrev ProvedLink : Type 0
  ProvedLink = (l : Link) × KeptLink l

  abbrev expressions : List ProvedExpr → List Expr
  expressions parts = map (λ e. e.0) parts

  all-kept : (parts : List ProvedExpr) → all_hold (map (is_well_formed_expr outline block) (expressions parts)) ≡ true
      → AllKeep (index_pieces (expressions parts))
  all-kept [] well = tt
  all-kept (one ∷ parts) well =
      let both = and_parts (is_well_formed_expr outline block one.0) (all_hold (map (is_well_formed_expr outline block) (expressions parts))) well in
      (one.1 both.0, all-kept parts both.1)

  whole-parts : (value : Whole) (parts : List ProvedExpr)
      → all_hold (whole_indexes value (map (is_well_formed_expr outline block) (expressions parts))) ≡ true → WholeKeep value (index_pieces (expressions parts))
  whole-parts (Text number text) parts well = tt
  whole-parts (VariableOf access type_id cells defined) parts well = all-kept parts well

  -- ---- calls

  abbrev AllPass : ℕ → ℕ → List PassedPiece → Type 0
  AllPass callee position [] = Unit {0}
  AllPass callee position (piece ∷ pieces) = KeepsPassed callee position piece.walk × AllPass callee (suc position) pieces

  abbrev AreActuals : ℕ → ℕ → List Actual → Type 0
  AreActuals callee position [] = Unit {0}
  AreActuals callee position (actual ∷ actuals) = IsActual callee position actual × AreActuals callee (suc position) actuals

  actuals-kept : (callee position : ℕ) (pieces : List PassedPiece) → AllPass callee position pieces → (rounds : List Round) → Wide rounds → (state : State)
      → ((actuals_walk pieces (here rounds) state).broken ≡ []) × (length (actuals_walk pieces (here rounds) state).value ≡ length pieces)
      × AreActuals callee position (actuals_walk pieces (here rounds) state).value
  actuals-kept callee position [] all rounds wide state = (refl, refl, tt)
  actuals-kept callee position (piece ∷ pieces) all rounds wide state =
      let first = piece.walk (here rounds) state in
      let rest = actuals_walk pieces (here rounds) first.after in
      let one = all.0 rounds wide state in
      let others = actuals-kept callee (suc position) pieces all.1 rounds wide first.after in (
        none-more first.broken (rest.broken ++ []) one.0 (none-more rest.broken [] others.0 refl),
        ap suc others.1,
        (one.1, others.2),
      )

  module _ (callee : ℕ) (b : Block) (block_is : slice_get tree.blocks.items callee ≡ Some b) where
    abbrev ToRoots : List ℕ → List Actual → Type 0
    ToRoots roots actuals = ArePassedTo tree certificate plain callee b block_is block roots actuals

    to-root : (position root : ℕ) → slice_get b.heading.parameters.items position ≡ Some root → (actual : Actual) → IsActual callee position actual
        → IsPassedTo tree certificate plain callee b block_is block root actual
    to-root position root is (OfValue range form) actual = tt
    to-root position root is (OfRows ranges) actual = tt
    to-root position root is (OfVariable origin selectors reach) actual =
        let of_root : formal_of outline callee position ≡ slice_get tree.variables.items root =
        ap (λ (found : Option Heading). option_and_then (λ (r : ℕ). slice_get tree.variables.items r)
        (option_and_then (λ (h : Heading). slice_get h.parameters.items position) found)) (heading-at tree callee b block_is)
        ∙ ap (λ (found : Option ℕ). option_and_then (λ (r : ℕ). slice_get tree.variables.items r) found) is in
        let own = parameter-own tree plain.well callee b block_is root (contains-at b.heading.parameters.items position root is) in
        let kind : is_variable_kind own.0.kind ≡ true =
        sym (ap (of_one (λ (v : DeclaredVariable). is_variable_kind v.kind)) (of_root ∙ own.1)) ∙ actual.1 in (
          actual.0,
          ap (of_one (λ (v : DeclaredVariable). nat_eq v.block callee && is_variable_kind v.kind)) own.1
              ∙ and_from (nat_eq own.0.block callee) (is_variable_kind own.0.kind) (eq-eqb own.0.block callee own.2) kind,
        )

    to-roots : (position : ℕ) (roots : List ℕ) → ((k : ℕ) → slice_get roots k ≡ slice_get b.heading.parameters.items (position + k)) → (actuals : List Actual)
        → length actuals ≡ length roots → AreActuals callee position actuals → ToRoots roots actuals
    to-roots position [] suffix [] count all = tt
    to-roots position [] suffix (actual ∷ actuals) count all = absurd (omega (arith, count))
    to-roots position (root ∷ roots) suffix [] count all = absurd (omega (arith, count))
    to-roots position (root ∷ roots) suffix (actual ∷ actuals) count all =
        let is : slice_get b.heading.parameters.items position ≡ Some root =
        ap (slice_get b.heading.parameters.items) (let e : position ≡ position + 0 = omega arith in e) ∙ sym (suffix 0) in (
          to-root position root is actual all.0,
          to-roots (suc position) roots
              (λ k. suffix (suc k) ∙ ap (slice_get b.heading.parameters.items) (let e : position + suc k ≡ suc position + k = omega arith in e)) actuals
              (omega (arith, count)) all.1,
        )

    after-call : (root : ℕ) (actual : Actual) → IsPassedTo tree certificate plain callee b block_is block root actual
        → IsPassedTo tree certificate plain callee b block_is block root (after_call actual)
    after-call root (OfValue range form) passed = tt
    after-call root (OfRows ranges) passed = tt
    after-call root (OfVariable origin selectors reach) passed = passed

    all-after : (roots : List ℕ) (actuals : List Actual) → ToRoots roots actuals → ToRoots roots (map after_call actuals)
    all-after [] [] passed = tt
    all-after [] (actual ∷ actuals) passed = absurd passed
    all-after (root ∷ roots) [] passed = absurd passed
    all-after (root ∷ roots) (actual ∷ actuals) passed = (after-call root actual passed.0, all-after roots actuals passed.1)

    all-settled : (holds : Bool) (roots : List ℕ) (actuals : List Actual) → ToRoots roots actuals → ToRoots roots (settled holds actuals)
    all-settled true roots actuals passed = all-after roots actuals passed
    all-settled false roots actuals passed = passed

  -- a call from its actual parameters on
  called-kept : (call : Call) (b : Block) (block_is : slice_get tree.blocks.items call.block ≡ Some b)
      → of_one (is_round outline block) (declarer b.heading.around.items) ≡ true → (holds : Bool) (actuals : List Actual)
      → ToRoots call.block b block_is b.heading.parameters.items actuals → Keeps (called call holds actuals)
  called-kept call b block_is callable holds actuals passed rounds wide state =
      let context = here rounds in
      let claims = of_block tree certificate plain call.block in
      let settle = settled holds actuals in
      let bindings = bound_to (parameters_of (called_block context call)) settle in
      let to = all-settled call.block b block_is holds b.heading.parameters.items actuals passed in
      let apart : are_separate context.pairs block (around_of (called_block context call)) bindings ≡ true =
      ap (λ (found : Option Block). are_separate context.pairs block (around_of found) (bound_to (parameters_of found) settle)) block_is
      ∙ separate tree certificate plain call.block b block_is block b.heading.parameters.items settle
      (parameters-distinct tree plain.well call.block b block_is) to in
      let given : are_given tree bindings state claims.entry ≡ true =
      ap (are_given tree bindings state) (entry-none tree certificate plain call.block) ∙ or_right (is_dead state) true refl in
      let may : list_all (may_change context) (roots_changed bindings claims.changes) ≡ true =
      ap (λ (found : Option Block). list_all (may_change context) (roots_changed (bound_to (parameters_of found) settle) claims.changes)) block_is
      ∙ call-may tree certificate plain call.block b block_is block callable rounds wide settle to in
      let one = breach_unless (are_separate context.pairs block (around_of (called_block context call)) bindings) Aliases call.name in
      let two = breach_unless (are_given tree bindings state claims.entry) CallEntry call.name in
      let three = breach_unless (list_all (may_change context) (roots_changed bindings claims.changes)) Changes call.name in
      none-more one (two ++ (three ++ [])) (none-asked _ Aliases call.name apart)
      (none-more two (three ++ []) (none-asked _ CallEntry call.name given) (none-more three [] (none-asked _ Changes call.name may) refl))

  callee-found : (is_function : Bool) (number count : ℕ) → may_call outline block is_function number count ≡ true
      → (b : Block) × (slice_get tree.blocks.items number ≡ Some b) × (of_one (is_round outline block) (declarer b.heading.around.items) ≡ true)
      × (count ≡ length b.heading.parameters.items)
  callee-found is_function number count may = by (slice_get tree.blocks.items number) refl
    where
      by : (found : Option Block) → slice_get tree.blocks.items number ≡ found
          → (b : Block) × (slice_get tree.blocks.items number ≡ Some b) × (of_one (is_round outline block) (declarer b.heading.around.items) ≡ true)
          × (count ≡ length b.heading.parameters.items)
      by None is =
          let there = one-there (is_callable outline block is_function count) (slice_get outline.headings number) may in
          absurd (none-some there.0 (sym (slice_get-map heading_of tree.blocks.items number ∙ ap (option_map heading_of) is) ∙ there.1))
      by (Some b) is =
          let callable : is_callable outline block is_function count b.heading ≡ true =
          sym (ap (of_one (is_callable outline block is_function count)) (heading-at tree number b is)) ∙ may in
          let one = and_parts (of_one (is_round outline block) (declarer b.heading.around.items))
          (is_kind_of is_function b.heading.result && nat_eq count (length b.heading.parameters.items)) callable in
          let two = and_parts (is_kind_of is_function b.heading.result) (nat_eq count (length b.heading.parameters.items)) one.1 in
          (b, is, one.0, eqb-true count (length b.heading.parameters.items) two.1)

  call-kept : (is_function : Bool) (call : Call) (count : ℕ) (pieces : List PassedPiece) → length pieces ≡ count
      → may_call outline block is_function call.block count ≡ true → AllPass call.block 0 pieces → Keeps (call_walk call pieces)
  call-kept is_function call count pieces sized may all rounds wide state =
      let found = callee-found is_function call.block count may in
      let b = found.0 in
      let begun = actuals_walk pieces (here rounds) state in
      let one = actuals-kept call.block 0 pieces all rounds wide state in
      let passed = to-roots call.block b found.1 0 b.heading.parameters.items
      (λ k. ap (slice_get b.heading.parameters.items) (let e : k ≡ 0 + k = omega arith in e)) begun.value (one.1 ∙ sized ∙ found.3) one.2 in
      let holds = actuals_hold_call pieces in
      none-more begun.broken (called call holds begun.value (here rounds) begun.after).broken one.0
      (called-kept call b found.1 found.2 holds begun.value passed rounds wide begun.after)

  all-placed : (callee position : ℕ) (parts : List ProvedPassed)
      → all_hold (placed callee position (map (is_well_formed_passed outline block) (map (λ p. p.0) parts))) ≡ true
      → AllPass callee position (map passed_piece_of (map (λ p. p.0) parts))
  all-placed callee position [] well = tt
  all-placed callee position (one ∷ parts) well =
      let both = and_parts (is_well_formed_passed outline block one.0 callee position)
      (all_hold (placed callee (suc position) (map (is_well_formed_passed outline block) (map (λ (p : ProvedPassed). p.0) parts)))) well in
      (one.1 callee position both.0, all-placed callee (suc position) parts both.1)

  -- ---- the layers

  abbrev combinations : List ProvedLink → List Combination
  combinations links = map (λ joint. joint.combination) (map joint_of (map (λ l. l.0) links))

  turns-kept : (links : List ProvedLink) → all_hold (map (is_well_formed_link outline block) (map (λ l. l.0) links)) ≡ true → (left : Known)
      → Keeps (in_turn (combinations links) left)
  turns-kept [] well left rounds wide state = refl
  turns-kept (link ∷ links) well left rounds wide state =
      let both = and_parts (is_well_formed_link outline block link.0)
      (all_hold (map (is_well_formed_link outline block) (map (λ (l : ProvedLink). l.0) links))) well in
      let first = link_walk link.0 left (here rounds) state in
      let rest = in_turn (combinations links) first.value (here rounds) first.after in
      none-more first.broken rest.broken (link.1 both.0 left rounds wide state) (turns-kept links both.1 first.value rounds wide first.after)

  abbrev unproved : Expr-F ProvedExpr ProvedPassed ProvedLink → Expr-F Expr Passed Link
  unproved y = map-Expr ProvedExpr ProvedPassed ProvedLink Expr Passed Link (λ e. e.0) (λ p. p.0) (λ l. l.0) y

  value-parts : (y : Expr-F ProvedExpr ProvedPassed ProvedLink)
      → expr_is_well_formed outline block
      (map-Expr Expr Passed Link Bool (ℕ → ℕ → Bool) Bool (is_well_formed_expr outline block) (is_well_formed_passed outline block)
      (is_well_formed_link outline block) (unproved y)) ≡ true
      → Keeps (piece_step (map-Expr Expr Passed Link Piece PassedPiece Joint piece_of passed_piece_of joint_of (unproved y))).walk
  value-parts (Constant number value) well rounds wide state = refl
  value-parts (Input number asks) well rounds wide state = refl
  value-parts (Variable access indexes holds defined) well rounds wide state =
      let pieces = index_pieces (expressions indexes.items) in
      let both = and_parts (all_hold (map (is_well_formed_expr outline block) (expressions indexes.items))) _ well in
      let begun = access_walk access pieces (here rounds) state in
      none-more begun.broken [] (access-of access pieces (all-kept indexes.items both.0) rounds wide state) refl
  value-parts (Set number designators members) well rounds wide state =
      let pieces = index_pieces (expressions members.items) in
      let both = and_parts (all_hold (map (is_well_formed_expr outline block) (expressions members.items))) _ well in
      let gathering = none_gathered designators.items in
      none-more (members_walk pieces gathering (here rounds) state).broken [] (members-kept pieces gathering (all-kept members.items both.0) rounds wide state)
      refl
  value-parts (MonadicOf number operation operand) well rounds wide state =
      let both = and_parts (monadic_is_well_formed outline block operation) (is_well_formed_expr outline block operand.value.0) well in
      let begun = value_walk operand.value.0 (here rounds) state in
      let after = operated operation begun.value (here rounds) begun.after in
      none-more begun.broken after.broken (operand.value.1 both.1 rounds wide state) (operated-silent operation begun.value (here rounds) begun.after)
  value-parts (Chain first rest) well rounds wide state =
      let both = and_parts (is_well_formed_expr outline block first.value.0) _ well in
      let begun = value_walk first.value.0 (here rounds) state in
      let after = in_turn (combinations rest.items) begun.value (here rounds) begun.after in
      none-more begun.broken after.broken (first.value.1 both.0 rounds wide state) (turns-kept rest.items both.1 begun.value rounds wide begun.after)
  value-parts (Compare number relation left left_indexes right right_indexes) well rounds wide state =
      let pieces = index_pieces (expressions left_indexes.items) in
      let right_pieces = index_pieces (expressions right_indexes.items) in
      let tests = map (is_well_formed_expr outline block) (expressions left_indexes.items) in
      let right_tests = map (is_well_formed_expr outline block) (expressions right_indexes.items) in
      let one = and_parts (all_hold (whole_indexes left tests)) _ well in
      let two = and_parts (is_well_formed_whole outline block left (length tests)) _ one.1 in
      let three = and_parts (all_hold (whole_indexes right right_tests)) _ two.1 in
      let begun = whole_walk left pieces (here rounds) state in
      let end = whole_walk right right_pieces (here rounds) begun.after in
      none-more begun.broken (end.broken ++ []) (whole-of left pieces (whole-parts left left_indexes.items one.0) rounds wide state)
      (none-more end.broken [] (whole-of right right_pieces (whole-parts right right_indexes.items three.0) rounds wide begun.after) refl)
  value-parts (CallOf call actuals) well rounds wide state =
      let passed = map (λ (p : ProvedPassed). p.0) actuals.items in
      let tests = map (is_well_formed_passed outline block) passed in
      let both = and_parts (may_call outline block true call.block (length tests)) (all_hold (placed call.block 0 tests)) well in
      let begun = call_walk call (map passed_piece_of passed) (here rounds) state in
      let result = result_of (called_block (here rounds) call) in
      none-more begun.broken (result_walk call result (here rounds) begun.after).broken
      (call-kept true call (length tests) (map passed_piece_of passed)
      (length-map passed passed_piece_of ∙ sym (length-map passed (is_well_formed_passed outline block)))
      both.0 (all-placed call.block 0 actuals.items both.1) rounds wide state)
      (result-silent call result (here rounds) begun.after)

  leads-seen : (wanted : TypeId → Bool) (origin : Origin) (selectors : List Selector) (n : ℕ) → leads_to outline block wanted origin selectors n ≡ true
      → is_visible outline block (root_of origin) ≡ true
  leads-seen wanted origin selectors n leads = (and_parts (is_visible outline block (root_of origin)) _ leads).0

  abbrev unproved_passed : Passed-F ProvedExpr ProvedPassed ProvedLink → Passed-F Expr Passed Link
  unproved_passed y = map-Passed ProvedExpr ProvedPassed ProvedLink Expr Passed Link (λ e. e.0) (λ p. p.0) (λ l. l.0) y

  passed-parts : (y : Passed-F ProvedExpr ProvedPassed ProvedLink) (callee position : ℕ)
      → passed_is_well_formed outline block
      (map-Passed Expr Passed Link Bool (ℕ → ℕ → Bool) Bool (is_well_formed_expr outline block) (is_well_formed_passed outline block)
      (is_well_formed_link outline block) (unproved_passed y)) callee position ≡ true
      → KeepsPassed callee position
      (passed_step (map-Passed Expr Passed Link Piece PassedPiece Joint piece_of passed_piece_of joint_of (unproved_passed y))).walk
  passed-parts (PassedValue value fits) callee position well rounds wide state =
      let both = and_parts (is_well_formed_expr outline block value.0) _ well in
      let begun = value_walk value.0 (here rounds) state in
      (none-more begun.broken [] (value.1 both.0 rounds wide state) refl, tt)
  passed-parts (PassedWhole type_id value indexes) callee position well rounds wide state =
      let pieces = index_pieces (expressions indexes.items) in
      let tests = map (is_well_formed_expr outline block) (expressions indexes.items) in
      let both = and_parts (all_hold (whole_indexes value tests)) _ well in
      let begun = whole_walk value pieces (here rounds) state in
      (none-more begun.broken [] (whole-of value pieces (whole-parts value indexes.items both.0) rounds wide state) refl, tt)
  passed-parts (Reference type_id access indexes) callee position well rounds wide state =
      let pieces = index_pieces (expressions indexes.items) in
      let tests = map (is_well_formed_expr outline block) (expressions indexes.items) in
      let origin = origin_of access in
      let selectors = access.selectors.items in
      let one = and_parts (all_hold tests) (passes_variable outline block type_id origin selectors (length tests) callee position) well in
      let two = and_parts (leads_to_type outline block type_id origin selectors (length tests))
      (is_passed_to outline block (takes_variable type_id) callee position) one.1 in
      let formal = one-there (takes_variable type_id) (formal_of outline callee position) two.1 in
      let kind = (and_parts (is_variable_kind formal.0.kind) (is_same type_id formal.0.type_id) formal.2).0 in
      let begun = access_walk access pieces (here rounds) state in (
        none-more begun.broken [] (access-of access pieces (all-kept indexes.items one.0) rounds wide state) refl,
        (
          leads-seen (λ id. is_same id type_id) origin selectors (length tests) two.0,
          ap (of_one (λ (v : DeclaredVariable). is_variable_kind v.kind)) formal.1 ∙ kind,
        ),
      )

  abbrev unproved_link : Link-F ProvedExpr ProvedPassed ProvedLink → Link-F Expr Passed Link
  unproved_link y = map-Link ProvedExpr ProvedPassed ProvedLink Expr Passed Link (λ e. e.0) (λ p. p.0) (λ l. l.0) y

  link-parts : (y : Link-F ProvedExpr ProvedPassed ProvedLink)
      → link_is_well_formed outline block
      (map-Link Expr Passed Link Bool (ℕ → ℕ → Bool) Bool (is_well_formed_expr outline block) (is_well_formed_passed outline block)
      (is_well_formed_link outline block) (unproved_link y)) ≡ true
      → (left : Known)
      → Keeps ((link_step (map-Link Expr Passed Link Piece PassedPiece Joint piece_of passed_piece_of joint_of (unproved_link y))).combination left)
  link-parts y well left rounds wide state =
      let both = and_parts (dyadic_is_well_formed outline block y.operation) (is_well_formed_expr outline block y.operand.0) well in
      let begun = value_walk y.operand.0 (here rounds) state in
      let after = combined y.operation left begun.value (here rounds) begun.after in
      none-more begun.broken after.broken (y.operand.1 both.1 rounds wide state) (combined-silent y.operation left begun.value (here rounds) begun.after)

  value-layer : (x : Expr-F Expr Passed Link) (y : Expr-F ProvedExpr ProvedPassed ProvedLink) → unproved y ≡ x → Kept (roll-Expr x)
  value-layer x y is well rounds wide state =
      let formed = sym (fold-roll-Expr Bool (ℕ → ℕ → Bool) Bool (expr_is_well_formed outline block) (passed_is_well_formed outline block)
      (link_is_well_formed outline block) x) ∙ well in
      ap (λ (piece : Piece). (piece.walk (here rounds) state).broken)
      (fold-roll-Expr Piece PassedPiece Joint piece_step passed_step link_step x
      ∙ ap (λ z. piece_step (map-Expr Expr Passed Link Piece PassedPiece Joint piece_of passed_piece_of joint_of z)) (sym is))
      ∙ value-parts y
      (ap (λ z. expr_is_well_formed outline block (map-Expr Expr Passed Link Bool (ℕ → ℕ → Bool) Bool (is_well_formed_expr outline block)
      (is_well_formed_passed outline block) (is_well_formed_link outline block) z)) is
      ∙ formed) rounds wide state

  passed-layer : (x : Passed-F Expr Passed Link) (y : Passed-F ProvedExpr ProvedPassed ProvedLink) → unproved_passed y ≡ x → KeptPassed (roll-Passed x)
  passed-layer x y is callee position well =
      let formed = sym (ap (λ (test : ℕ → ℕ → Bool). test callee position) (fold-roll-Passed Bool (ℕ → ℕ → Bool) Bool (expr_is_well_formed outline block)
      (passed_is_well_formed outline block) (link_is_well_formed outline block) x)) ∙ well in
      subst (λ (piece : PassedPiece). KeepsPassed callee position piece.walk)
      (sym
      (fold-roll-Passed Piece PassedPiece Joint piece_step passed_step link_step x
      ∙ ap (λ z. passed_step (map-Passed Expr Passed Link Piece PassedPiece Joint piece_of passed_piece_of joint_of z)) (sym is)))
      (passed-parts y callee position
      (ap (λ z. passed_is_well_formed outline block (map-Passed Expr Passed Link Bool (ℕ → ℕ → Bool) Bool (is_well_formed_expr outline block)
      (is_well_formed_passed outline block) (is_well_formed_link outline block) z) callee position) is
      ∙ formed))

  link-layer : (x : Link-F Expr Passed Link) (y : Link-F ProvedExpr ProvedPassed ProvedLink) → unproved_link y ≡ x → KeptLink (roll-Link x)
  link-layer x y is well left rounds wide state =
      let formed = sym (fold-roll-Link Bool (ℕ → ℕ → Bool) Bool (expr_is_well_formed outline block) (passed_is_well_formed outline block)
      (link_is_well_formed outline block) x) ∙ well in
      ap (λ (joint : Joint). (joint.combination left (here rounds) state).broken)
      (fold-roll-Link Piece PassedPiece Joint piece_step passed_step link_step x
      ∙ ap (λ z. link_step (map-Link Expr Passed Link Piece PassedPiece Joint piece_of passed_piece_of joint_of z)) (sym is))
      ∙ link-parts y
      (ap (λ z. link_is_well_formed outline block (map-Link Expr Passed Link Bool (ℕ → ℕ → Bool) Bool (is_well_formed_expr outline block)
      (is_well_formed_passed outline block) (is_well_formed_link outline block) z)) is
      ∙ formed) left rounds wide state

  -- ---- expressions, and what is made of them

  pub value-kept : (e : Expr) → Kept e
  value-kept = ind-Expr Kept KeptPassed KeptLink value-layer passed-layer link-layer

  actual-kept : (p : Passed) → KeptPassed p
  actual-kept = ind-Passed Kept KeptPassed KeptLink value-layer passed-layer link-layer

  all-kept_of : (indexes : List Expr) → all_hold (map (is_well_formed_expr outline block) indexes) ≡ true → AllKeep (index_pieces indexes)
  all-kept_of [] well = tt
  all-kept_of (index ∷ indexes) well =
      let both = and_parts (is_well_formed_expr outline block index) (all_hold (map (is_well_formed_expr outline block) indexes)) well in
      (value-kept index both.0, all-kept_of indexes both.1)

  pub access-kept : (access : Access) (indexes : List Expr) → all_hold (map (is_well_formed_expr outline block) indexes) ≡ true
      → Keeps (access_walk access (index_pieces indexes))
  access-kept access indexes well = access-of access (index_pieces indexes) (all-kept_of indexes well)

  pub whole-kept : (value : Whole) (indexes : List Expr) → is_well_formed_value outline block value indexes ≡ true
      → Keeps (whole_walk value (index_pieces indexes))
  whole-kept (Text number text) indexes well = whole-of (Text number text) (index_pieces indexes) tt
  whole-kept (VariableOf access type_id cells defined) indexes well =
      let both = and_parts (all_hold (map (is_well_formed_expr outline block) indexes)) _ well in
      whole-of (VariableOf access type_id cells defined) (index_pieces indexes) (all-kept_of indexes both.0)

  width-kept : (width : Option Width) → is_well_formed_width outline block width ≡ true → Keeps (width_walk width)
  width-kept None well rounds wide state = refl
  width-kept (Some width) well rounds wide state =
      let both = and_parts _ (is_well_formed_expr outline block width.value) well in
      none-more (value_walk width.value (here rounds) state).broken [] (value-kept width.value both.1 rounds wide state) refl

  written-kept : (value : Written) → is_well_formed_written outline block value ≡ true → Keeps (written_walk value)
  written-kept (written.Ordinal value representation) well rounds wide state =
      none-more (value_walk value (here rounds) state).broken [] (value-kept value well rounds wide state) refl
  written-kept (written.String value indexes) well rounds wide state =
      let both = and_parts (is_well_formed_value outline block value indexes.items) _ well in
      none-more (whole_walk value (index_pieces indexes.items) (here rounds) state).broken [] (whole-kept value indexes.items both.0 rounds wide state) refl

  pub parameter-kept : (parameter : WriteParameter) → is_well_formed_parameter outline block parameter ≡ true → Keeps (parameter_walk parameter)
  parameter-kept parameter well rounds wide state =
      let both = and_parts (is_well_formed_written outline block parameter.value) (is_well_formed_width outline block parameter.width) well in
      let first = written_walk parameter.value (here rounds) state in
      let second = width_walk parameter.width (here rounds) first.after in
      none-more first.broken second.broken (written-kept parameter.value both.0 rounds wide state)
      (width-kept parameter.width both.1 rounds wide first.after)

  all-passed : (callee position : ℕ) (actuals : List Passed) → all_hold (placed callee position (map (is_well_formed_passed outline block) actuals)) ≡ true
      → AllPass callee position (map passed_piece_of actuals)
  all-passed callee position [] well = tt
  all-passed callee position (one ∷ actuals) well =
      let both = and_parts (is_well_formed_passed outline block one callee position)
      (all_hold (placed callee (suc position) (map (is_well_formed_passed outline block) actuals))) well in
      (actual-kept one callee position both.0, all-passed callee (suc position) actuals both.1)

  pub procedure-kept : (call : Call) (actuals : List Passed)
      → (may_call outline block false call.block (length (map (is_well_formed_passed outline block) actuals))
      && all_hold (placed call.block 0 (map (is_well_formed_passed outline block) actuals))) ≡ true
      → Keeps (call_walk call (map passed_piece_of actuals))
  procedure-kept call actuals well =
      let tests = map (is_well_formed_passed outline block) actuals in
      let both = and_parts (may_call outline block false call.block (length tests)) (all_hold (placed call.block 0 tests)) well in
      call-kept false call (length tests) (map passed_piece_of actuals)
      (length-map actuals passed_piece_of ∙ sym (length-map actuals (is_well_formed_passed outline block))) both.0 (all-passed call.block 0 actuals both.1)
