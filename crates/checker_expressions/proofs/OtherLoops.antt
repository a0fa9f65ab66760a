-- The walk over an expression in other loops: it is as it was, and breaks no rule where these list all that its calls may change.
use Rattle.std.proofs.Common.{◌≡◌, ◌∙◌, ap₂, refl, sym, subst, ℕ, Bool, true, false, ◌&&◌, ◌||◌, if◌then◌else◌, nat_eq}
use Rattle.std.proofs.Common.{List, [], ◌∷◌, ◌++◌, map, Option, Some, None}
use Rattle.std.specs.Prelude.{flat_map, slice_get}
use Rattle.std.specs.List.{list_all}
use Rattle.std.proofs.lemmas.Bool.{and_from, and_parts}
use Rattle.std.proofs.lemmas.List.Folds.{list_all-append}
use Rattle.place.specs.declared.Place.{Place}
use Rattle.typed_tree.specs.declared.tree.Access.{Access}
use Rattle.typed_tree.specs.declared.tree.Call.{Call}
use Rattle.typed_tree.specs.declared.tree.Designator.{Designator}
use Rattle.typed_tree.specs.declared.tree.Designator.TheVariants.{Single, Range}
use Rattle.typed_tree.specs.declared.tree.Dyadic.{Dyadic}
use Rattle.typed_tree.specs.declared.tree.Dyadic.TheVariants as dyadic
use Rattle.typed_tree.specs.declared.tree.FunctionResult.{FunctionResult}
use Rattle.typed_tree.specs.declared.tree.Monadic.{Monadic}
use Rattle.typed_tree.specs.declared.tree.Monadic.TheVariants as monadic
use Rattle.typed_tree.specs.declared.tree.RangeTest.{RangeTest}
use Rattle.typed_tree.specs.declared.tree.Selector.{Selector}
use Rattle.typed_tree.specs.declared.tree.Whole.{Whole}
use Rattle.typed_tree.specs.declared.tree.Whole.TheVariants.{Text, Variable as VariableOf}
use Rattle.typed_tree.specs.declared.tree.Expr.{Expr}
use Rattle.typed_tree.specs.declared.tree.Link.{Link}
use Rattle.typed_tree.specs.declared.tree.Passed.{Passed}
use Rattle.typed_tree.specs.declared.tree.Expr.TheOpen.{Expr-F, Passed-F, Link-F}
use Rattle.typed_tree.specs.declared.tree.Expr.TheOpen.Expr-F.{Constant, Variable, Monadic as MonadicOf, Chain, Compare, Call as CallOf, Set as SetOf, Input}
use Rattle.typed_tree.specs.declared.tree.Expr.TheOpen.Passed-F.{Value as PassedValue, Whole as PassedWhole, Reference}
use Rattle.typed_tree.specs.declared.tree.Expr.TheFolds.{map-Expr, map-Passed, map-Link, fold-roll-Expr, fold-roll-Passed, fold-roll-Link, ind-Expr}
use Rattle.typed_tree.specs.declared.tree.Expr.TheViews.{roll-Expr, roll-Passed, roll-Link}
use Rattle.typed_tree.specs.Accesses.{origin_of}
use Rattle.typed_tree.specs.WellFormed.{of_one}
use Rattle.meaning.specs.Meaning.{overflow_of, overflow_of_both}
use Rattle.domain.specs.Interval.{Interval, truth_values}
use Rattle.checker_state.specs.declared.value.Known.{Known}
use Rattle.checker_state.specs.Values.{known_range}
use Rattle.checker_state.specs.State.{State}
use Rattle.checker_state.specs.Stores.{Reach}
use Rattle.checker_loops.specs.Loops.{Round, all_list}
use Rattle.checker_loops.specs.Sections.{BlockClaims, block_claims_at}
use Rattle.checker_loops.specs.Starts.{is_own}
use Rattle.checker_calls.specs.Actuals.{Actual, Binding, OfRows, OfValue, OfVariable, actual_of, after_call, bound_to, settled}
use Rattle.checker_calls.specs.Exit.{root_changed, roots_changed}
use Rattle.checker_expressions.specs.declared.fault.Breach.{Breach}
use Rattle.checker_expressions.specs.declared.fault.Rule.TheVariants.{Changes}
use Rattle.checker_expressions.specs.Walk as walk
use Rattle.checker_expressions.specs.Walk.{Calling, Combination, Context, Gathering, Joint, Linked, PassedPiece, Piece, Walked, Walking, ◌>>=◌, block_lists}
use Rattle.checker_expressions.specs.Walk.{called_block, callees_of, calls_in, changed_in, followed, joint_of, link_step}
use Rattle.checker_expressions.specs.Walk.{may_change, parameters_of, passed_piece_of, passed_step}
use Rattle.checker_expressions.specs.Walk.{piece_of, piece_step}
use Rattle.checker_expressions.proofs.Sound.{kept-rule, unbroken-left, unbroken-right}

-- what was walked is the same but for the rules that are broken, and none is where none was
pub record Alike {A : Type 0} (one other : Walked A) : Type 0 where
  pub value : other.value ≡ one.value
  pub after : other.after ≡ one.after
  pub ids : other.open_ids ≡ one.open_ids
  pub linked : other.linked ≡ one.linked
  pub broken : one.broken ≡ [] → other.broken ≡ []

same : {A : Type 0} (walked : Walked A) → Alike walked walked
same walked = record { value = refl; after = refl; ids = refl; linked = refl; broken = λ none. none }

-- the context in other loops
abbrev pub in_loops : Context → List Round → Context
in_loops context rounds = record context { rounds = rounds }

-- each of the loops lists what a call may change
abbrev pub lists_all : Context → List Round → Calling → Bool
lists_all context rounds calling = list_all (λ root. all_list root rounds) (changed_in (callees_of context) calling)

abbrev pub AreListed : Context → List Round → List Calling → Type 0
AreListed context rounds calls = list_all (lists_all context rounds) calls ≡ true

-- what the text tells of an actual parameter is right, as far as it goes
abbrev IsTold : Actual → Actual → Type 0
IsTold told actual = (root : ℕ) → root_changed root (Some told) ≡ root_changed root (Some actual)

told-after : (told actual : Actual) → IsTold told actual → IsTold told (after_call actual)
told-after told (OfValue range form) is root = is root
told-after told (OfRows ranges) is root = is root
told-after told (OfVariable origin selectors reach) is root = is root

abbrev AreTold : List Actual → List Actual → Type 0
AreTold [] [] = Unit {0}
AreTold (told ∷ more) (actual ∷ actuals) = IsTold told actual × AreTold more actuals
AreTold more actuals = ⊥

told-settled : (hold : Bool) (more actuals : List Actual) → AreTold more actuals → AreTold more (settled hold actuals)
told-settled hold more actuals are = by hold
  where
    later : (more actuals : List Actual) → AreTold more actuals → AreTold more (map after_call actuals)
    later [] [] are = tt
    later [] (actual ∷ actuals) are = are
    later (told ∷ more) [] are = are
    later (told ∷ more) (actual ∷ actuals) are = (told-after told actual are.0, later more actuals are.1)

    by : (hold : Bool) → AreTold more (settled hold actuals)
    by true = later more actuals are
    by false = are

told-found : (root : ℕ) (roots : List ℕ) (more actuals : List Actual) → AreTold more actuals
    → root_changed root (actual_of (bound_to roots more) root) ≡ root_changed root (actual_of (bound_to roots actuals) root)
told-found root [] more actuals are = refl
told-found root (first ∷ roots) [] [] are = refl
told-found root (first ∷ roots) [] (actual ∷ actuals) are = absurd are
told-found root (first ∷ roots) (told ∷ more) [] are = absurd are
told-found root (first ∷ roots) (told ∷ more) (actual ∷ actuals) are = by (nat_eq first root) (told-found root roots more actuals are.1)
  where
    by : (here : Bool) → root_changed root (actual_of (bound_to roots more) root) ≡ root_changed root (actual_of (bound_to roots actuals) root)
        → root_changed root (if here then Some told else actual_of (bound_to roots more) root)
        ≡ root_changed root (if here then Some actual else actual_of (bound_to roots actuals) root)
    by true behind = are.0 root
    by false behind = behind

told-changed : (roots : List ℕ) (more actuals : List Actual) → AreTold more actuals → (changes : List ℕ)
    → roots_changed (bound_to roots more) changes ≡ roots_changed (bound_to roots actuals) changes
told-changed roots more actuals are [] = refl
told-changed roots more actuals are (root ∷ changes) =
    ap₂ (λ (one others : List ℕ). one ++ others) (told-found root roots more actuals are) (told-changed roots more actuals are changes)

module _ (context : Context) (rounds : List Round) where
  abbrev other : Context
  other = in_loops context rounds

  -- a walk goes alike there
  abbrev pub GoesAlike : {A : Type 0} → Walking A → Type 0
  GoesAlike walking = (state : State) → Alike (walking context state) (walking other state)

  alike-when : {A B : Type 0} (first : Walking A) (next : A → Walking B) → GoesAlike first
      → ((state : State) → GoesAlike (next (first context state).value)) → GoesAlike (first >>= next)
  alike-when {A} {B} first next one two state =
      let mine = first context state in
      let theirs = first other state in
      let step = one state in
      let rest = next mine.value context mine.after in
      let behind : Alike rest (next theirs.value other theirs.after) =
      subst (λ (v : A). Alike rest (next v other theirs.after)) (sym step.value)
      (subst (λ (t : State). Alike rest (next mine.value other t)) (sym step.after) (two state mine.after)) in
      record {
        value = behind.value;
        after = behind.after;
        ids = ap₂ (λ (a b : List ℕ). a ++ b) step.ids behind.ids;
        linked = ap₂ (λ (a b : List Linked). a ++ b) step.linked behind.linked;
        broken = λ none. ap₂ (λ (a b : List Breach). a ++ b) (step.broken (unbroken-left mine.broken rest.broken none))
            (behind.broken (unbroken-right mine.broken rest.broken none));
      }

  alike-then : {A B : Type 0} (first : Walking A) (next : A → Walking B) → GoesAlike first → ((a : A) → GoesAlike (next a)) → GoesAlike (first >>= next)
  alike-then first next one two = alike-when first next one (λ state. two (first context state).value)

  abbrev Listed : List Calling → Type 0
  Listed calls = AreListed context rounds calls

  parts : (first second : List Calling) → Listed (first ++ second) → Listed first × Listed second
  parts first second are =
      and_parts (list_all (lists_all context rounds) first) (list_all (lists_all context rounds) second)
      (sym (list_all-append (lists_all context rounds) first second) ∙ are)

  -- ---- operations

  alike-overflow : (overflow : Option ℕ) (range : Interval) → GoesAlike (walk.unless_overflow overflow range)
  alike-overflow None range = λ state. same (walk.unless_overflow None range context state)
  alike-overflow (Some site) range = λ state. same (walk.unless_overflow (Some site) range context state)

  alike-operated : (operation : Monadic) (known : Known) → GoesAlike (walk.operated operation known)
  alike-operated (monadic.Plain does) known = alike-overflow (overflow_of does) (walk.calculated does (known_range known))
  alike-operated (monadic.Tested fits does) known = λ state. same (walk.operated (monadic.Tested fits does) known context state)

  alike-divides : (operation : Dyadic) (range : Interval) → GoesAlike (walk.divides operation range)
  alike-divides (dyadic.Plus overflow) range = λ state. same (walk.divides (dyadic.Plus overflow) range context state)
  alike-divides (dyadic.Minus overflow) range = λ state. same (walk.divides (dyadic.Minus overflow) range context state)
  alike-divides (dyadic.Times overflow) range = λ state. same (walk.divides (dyadic.Times overflow) range context state)
  alike-divides (dyadic.Div by_zero) range = λ state. same (walk.divides (dyadic.Div by_zero) range context state)
  alike-divides (dyadic.Mod by_zero_or_less) range = λ state. same (walk.divides (dyadic.Mod by_zero_or_less) range context state)
  alike-divides dyadic.And range = λ state. same (walk.divides dyadic.And range context state)
  alike-divides dyadic.Or range = λ state. same (walk.divides dyadic.Or range context state)
  alike-divides (dyadic.Relation r) range = λ state. same (walk.divides (dyadic.Relation r) range context state)
  alike-divides dyadic.Union range = λ state. same (walk.divides dyadic.Union range context state)
  alike-divides dyadic.Difference range = λ state. same (walk.divides dyadic.Difference range context state)
  alike-divides dyadic.Intersection range = λ state. same (walk.divides dyadic.Intersection range context state)
  alike-divides (dyadic.SetRelation r) range = λ state. same (walk.divides (dyadic.SetRelation r) range context state)
  alike-divides dyadic.In range = λ state. same (walk.divides dyadic.In range context state)

  alike-both : (operation : Dyadic) (left right : Interval) → GoesAlike (walk.calculated_both operation left right)
  alike-both operation left right =
      alike-then (walk.divides operation right) (λ passed. walk.unless_overflow (overflow_of_both operation) (walk.of_both operation left passed))
      (alike-divides operation right) (λ passed. alike-overflow (overflow_of_both operation) (walk.of_both operation left passed))

  alike-combined : (operation : Dyadic) (left right : Known) → GoesAlike (walk.combined operation left right)
  alike-combined (dyadic.Plus overflow) left right = alike-both (dyadic.Plus overflow) (known_range left) (known_range right)
  alike-combined (dyadic.Minus overflow) left right = alike-both (dyadic.Minus overflow) (known_range left) (known_range right)
  alike-combined (dyadic.Times overflow) left right = alike-both (dyadic.Times overflow) (known_range left) (known_range right)
  alike-combined (dyadic.Div by_zero) left right = alike-both (dyadic.Div by_zero) (known_range left) (known_range right)
  alike-combined (dyadic.Mod by_zero_or_less) left right = alike-both (dyadic.Mod by_zero_or_less) (known_range left) (known_range right)
  alike-combined dyadic.And left right = alike-both dyadic.And (known_range left) (known_range right)
  alike-combined dyadic.Or left right = alike-both dyadic.Or (known_range left) (known_range right)
  alike-combined (dyadic.Relation r) left right = alike-both (dyadic.Relation r) (known_range left) (known_range right)
  alike-combined dyadic.Union left right = λ state. same (walk.combined dyadic.Union left right context state)
  alike-combined dyadic.Difference left right = λ state. same (walk.combined dyadic.Difference left right context state)
  alike-combined dyadic.Intersection left right = λ state. same (walk.combined dyadic.Intersection left right context state)
  alike-combined (dyadic.SetRelation r) left right = λ state. same (walk.combined (dyadic.SetRelation r) left right context state)
  alike-combined dyadic.In left right = λ state. same (walk.combined dyadic.In left right context state)

  alike-gathered : (left : List Designator) (first : Option Interval) (range hull : Interval) → GoesAlike (walk.gathered_by left first range hull)
  alike-gathered [] first range hull = λ state. same (walk.gathered_by [] first range hull context state)
  alike-gathered (Single site ∷ left) first range hull = λ state. same (walk.gathered_by (Single site ∷ left) first range hull context state)
  alike-gathered (Range site ∷ left) None range hull = λ state. same (walk.gathered_by (Range site ∷ left) None range hull context state)
  alike-gathered (Range site ∷ left) (Some first) range hull = λ state. same (walk.gathered_by (Range site ∷ left) (Some first) range hull context state)

  alike-test : (test : Option RangeTest) (known : Known) → GoesAlike (walk.index_test test known)
  alike-test None known = λ state. same (walk.index_test None known context state)
  alike-test (Some fits) known = λ state. same (walk.index_test (Some fits) known context state)

  -- ---- parts of expressions

  abbrev IsAlike : Expr → Type 0
  IsAlike e = Listed (piece_of e).calls → GoesAlike (piece_of e).walk

  record IsAlikePassed (p : Passed) : Type 0 where
    alike : Listed (passed_piece_of p).calls → GoesAlike (passed_piece_of p).walk
    told : (state : State) → IsTold (passed_piece_of p).told ((passed_piece_of p).walk context state).value

  abbrev IsAlikeLink : Link → Type 0
  IsAlikeLink l = Listed (joint_of l).right.calls → (left : Known) → GoesAlike ((joint_of l).combination left)

  abbrev AlikeExpr : Type 0
  AlikeExpr = (e : Expr) × IsAlike e

  abbrev AlikePassed : Type 0
  AlikePassed = (p : Passed) × IsAlikePassed p

  abbrev AlikeLink : Type 0
  AlikeLink = (l : Link) × IsAlikeLink l

  abbrev pieces : List AlikeExpr → List Piece
  pieces indexes = map piece_of (map (λ e. e.0) indexes)

  alike-indexes : (indexes : List AlikeExpr) (selectors : List Selector) (reach : Reach) → Listed (calls_in (pieces indexes))
      → GoesAlike (walk.indexes_walk selectors (pieces indexes) reach)
  alike-indexes [] selectors reach are = λ state. same (walk.give reach context state)
  alike-indexes (index ∷ indexes) selectors reach are =
      let piece = piece_of index.0 in
      let both = parts piece.calls (calls_in (pieces indexes)) are in
      let deeper = λ (own : Context) (range : Interval).
      walk.deeper (walk.is_kept own.version selectors) (record { form = walk.form_before own piece (pieces indexes); range = range }) reach in
      let next = λ (range : Interval) (own : Context). walk.indexes_walk (walk.behind_next selectors) (pieces indexes) (deeper own range) own in
      alike-then piece.walk (λ known. walk.index_test (walk.next_test selectors) known >>= next) (index.1 both.0)
      (λ known. alike-then (walk.index_test (walk.next_test selectors) known) next (alike-test (walk.next_test selectors) known)
      (λ range. alike-indexes indexes (walk.behind_next selectors) (deeper context range) both.1))

  alike-access : (access : Access) (indexes : List AlikeExpr) → Listed (calls_in (pieces indexes)) → GoesAlike (walk.access_walk access (pieces indexes))
  alike-access access indexes are =
      alike-then (walk.enter access.number) (λ _. walk.indexes_walk access.selectors.items (pieces indexes) (walk.reach_at (origin_of access)))
      (λ state. same (walk.enter access.number context state))
      (λ _. alike-indexes indexes access.selectors.items (walk.reach_at (origin_of access)) are)

  alike-whole : (value : Whole) (indexes : List AlikeExpr) → Listed (calls_in (pieces indexes))
      → GoesAlike (walk.whole_walk value (pieces indexes))
  alike-whole (Text number text) indexes are = λ state. same (walk.whole_walk (Text number text) (pieces indexes) context state)
  alike-whole (VariableOf access type_id cells defined) indexes are =
      let used = λ (reach : Reach). walk.whole_use type_id (origin_of access) access.selectors.items reach defined in
      alike-then (walk.access_walk access (pieces indexes)) used (alike-access access indexes are) (λ reach state. same (used reach context state))

  alike-members : (members : List AlikeExpr) (gathering : Gathering) → Listed (calls_in (pieces members))
      → GoesAlike (walk.members_walk (pieces members) gathering)
  alike-members [] gathering are = λ state. same (walk.give gathering.hull context state)
  alike-members (member ∷ members) gathering are =
      let piece = piece_of member.0 in
      let both = parts piece.calls (calls_in (pieces members)) are in
      let rest = walk.members_walk (pieces members) in
      alike-then piece.walk (λ known. walk.gathered gathering (known_range known) >>= rest) (member.1 both.0)
      (λ known. alike-then (walk.gathered gathering (known_range known)) rest
      (alike-gathered gathering.left gathering.first (known_range known) gathering.hull) (λ more. alike-members members more both.1))

  alike-in_turn : (links : List AlikeLink) (left : Known)
      → Listed (flat_map (λ joint. joint.right.calls) (map joint_of (map (λ l. l.0) links)))
      → GoesAlike (walk.in_turn (map (λ joint. joint.combination) (map joint_of (map (λ l. l.0) links))) left)
  alike-in_turn [] left are = λ state. same (walk.give left context state)
  alike-in_turn (link ∷ links) left are =
      let joints = map joint_of (map (λ (l : AlikeLink). l.0) links) in
      let both = parts (joint_of link.0).right.calls (flat_map (λ (joint : Joint). joint.right.calls) joints) are in
      alike-then ((joint_of link.0).combination left) (walk.in_turn (map (λ (joint : Joint). joint.combination) joints)) (link.1 both.0 left)
      (λ known. alike-in_turn links known both.1)

  -- ---- calls

  abbrev passed_pieces : List AlikePassed → List PassedPiece
  passed_pieces actuals = map passed_piece_of (map (λ p. p.0) actuals)

  alike-actuals : (actuals : List AlikePassed) → Listed (flat_map (λ piece. piece.calls) (passed_pieces actuals))
      → GoesAlike (walk.actuals_walk (passed_pieces actuals))
  alike-actuals [] are = λ state. same (walk.give {A = List Actual} [] context state)
  alike-actuals (one ∷ others) are =
      let piece = passed_piece_of one.0 in
      let both = parts piece.calls (flat_map (λ (p : PassedPiece). p.calls) (passed_pieces others)) are in
      let rest = walk.actuals_walk (passed_pieces others) in
      alike-then piece.walk (λ actual. rest >>= λ actuals. walk.give (actual ∷ actuals)) (one.1.alike both.0)
      (λ actual. alike-then rest (λ actuals. walk.give (actual ∷ actuals)) (alike-actuals others both.1)
      (λ actuals state. same (walk.give (actual ∷ actuals) context state)))

  are-told : (actuals : List AlikePassed) (state : State)
      → AreTold (map (λ piece. piece.told) (passed_pieces actuals)) (walk.actuals_walk (passed_pieces actuals) context state).value
  are-told [] state = tt
  are-told (one ∷ others) state = (one.1.told state, are-told others ((passed_piece_of one.0).walk context state).after)

  may-all : (roots : List ℕ) → list_all (may_change context) roots ≡ true → list_all (λ root. all_list root rounds) roots ≡ true
      → list_all (may_change other) roots ≡ true
  may-all [] may listed = refl
  may-all (root ∷ roots) may listed =
      let own = of_one (is_own context.block) (slice_get context.tree.variables.items root) || block_lists context root in
      let one = and_parts (may_change context root) (list_all (may_change context) roots) may in
      let two = and_parts (all_list root rounds) (list_all (λ r. all_list r rounds) roots) listed in
      and_from (may_change other root) (list_all (may_change other) roots)
      (and_from (all_list root rounds) own two.0 (and_parts (all_list root context.rounds) own one.0).1) (may-all roots one.1 two.1)

  alike-change : (place : Place) (bindings : List Binding) (claims : BlockClaims)
      → list_all (λ root. all_list root rounds) (roots_changed bindings claims.changes) ≡ true → GoesAlike (walk.call_change place bindings claims)
  alike-change place bindings claims listed state =
      let roots = roots_changed bindings claims.changes in
      record {
        value = refl;
        after = refl;
        ids = refl;
        linked = refl;
        broken = λ none. kept (list_all (may_change other) roots)
            (may-all roots (kept-rule (list_all (may_change context) roots) Changes place none) listed);
      }
    where
      kept : (may : Bool) → may ≡ true → walk.breach_unless may Changes place ≡ []
      kept true is = refl
      kept false is = absurd (cc)

  alike-called : (call : Call) (hold : Bool) (more actuals : List Actual) → AreTold more actuals
      → lists_all context rounds (record { call = call; actuals = more }) ≡ true → GoesAlike (walk.called call hold actuals)
  alike-called call hold more actuals told listed =
      let roots = parameters_of (called_block context call) in
      let claims = block_claims_at context.blocks call.block in
      let bindings = bound_to roots (settled hold actuals) in
      let changed = told-changed roots more (settled hold actuals) (told-settled hold more actuals told) claims.changes in
      let behind = λ (_ : Unit {0}). walk.call_behind call bindings claims in
      let change = λ (_ : Unit {0}). walk.call_change call.name bindings claims >>= behind in
      let entry = λ (_ : Unit {0}). walk.call_entry call bindings claims >>= change in
      alike-then (walk.call_aliases call bindings) entry (λ state. same (walk.call_aliases call bindings context state))
      (λ _. alike-then (walk.call_entry call bindings claims) change (λ state. same (walk.call_entry call bindings claims context state))
      (λ _. alike-then (walk.call_change call.name bindings claims) behind
      (alike-change call.name bindings claims (subst (λ (all : List ℕ). list_all (λ root. all_list root rounds) all ≡ true) changed listed))
      (λ _ state. same (walk.call_behind call bindings claims context state))))

  alike-call : (call : Call) (actuals : List AlikePassed)
      → Listed (record { call = call; actuals = map (λ piece. piece.told) (passed_pieces actuals) }
      ∷ flat_map (λ piece. piece.calls) (passed_pieces actuals))
      → GoesAlike (walk.call_walk call (passed_pieces actuals))
  alike-call call actuals are =
      let all = passed_pieces actuals in
      let more = map (λ (piece : PassedPiece). piece.told) all in
      let own : Calling = record { call = call; actuals = more } in
      let both = and_parts (lists_all context rounds own) (list_all (lists_all context rounds) (flat_map (λ (piece : PassedPiece). piece.calls) all)) are in
      let hold = walk.actuals_hold_call all in
      alike-then (walk.enter call.number) (λ _. walk.actuals_walk all >>= walk.called call hold) (λ state. same (walk.enter call.number context state))
      (λ _. alike-when (walk.actuals_walk all) (walk.called call hold) (alike-actuals actuals both.1)
      (λ state. alike-called call hold more (walk.actuals_walk all context state).value (are-told actuals state) both.0))

  alike-result : (call : Call) (result : Option FunctionResult) → GoesAlike (walk.result_walk call result)
  alike-result call None = λ state. same (walk.result_walk call None context state)
  alike-result call (Some result) = λ state. same (walk.result_walk call (Some result) context state)

  -- ---- the forms

  abbrev bare : Expr-F AlikeExpr AlikePassed AlikeLink → Expr-F Expr Passed Link
  bare = map-Expr AlikeExpr AlikePassed AlikeLink Expr Passed Link (λ e. e.0) (λ p. p.0) (λ l. l.0)

  abbrev bare_passed : Passed-F AlikeExpr AlikePassed AlikeLink → Passed-F Expr Passed Link
  bare_passed = map-Passed AlikeExpr AlikePassed AlikeLink Expr Passed Link (λ e. e.0) (λ p. p.0) (λ l. l.0)

  abbrev bare_link : Link-F AlikeExpr AlikePassed AlikeLink → Link-F Expr Passed Link
  bare_link = map-Link AlikeExpr AlikePassed AlikeLink Expr Passed Link (λ e. e.0) (λ p. p.0) (λ l. l.0)

  abbrev stepped : Expr-F Expr Passed Link → Piece
  stepped x = piece_step (map-Expr Expr Passed Link Piece PassedPiece Joint piece_of passed_piece_of joint_of x)

  abbrev stepped_passed : Passed-F Expr Passed Link → PassedPiece
  stepped_passed x = passed_step (map-Passed Expr Passed Link Piece PassedPiece Joint piece_of passed_piece_of joint_of x)

  abbrev stepped_link : Link-F Expr Passed Link → Joint
  stepped_link x = link_step (map-Link Expr Passed Link Piece PassedPiece Joint piece_of passed_piece_of joint_of x)

  layer : (y : Expr-F AlikeExpr AlikePassed AlikeLink) → Listed (stepped (bare y)).calls → GoesAlike (stepped (bare y)).walk
  layer (Constant number value) are = λ state. same ((stepped (Constant number value)).walk context state)
  layer (Variable access indexes holds defined) are =
      let used = λ (reach : Reach). walk.value_use holds (origin_of access) access.selectors.items reach defined in
      alike-then (walk.access_walk access (pieces indexes.items)) used (alike-access access indexes.items are) (λ reach state. same (used reach context state))
  layer (SetOf number designators members) are =
      let inner = walk.members_walk (pieces members.items) (walk.none_gathered designators.items) in
      alike-then (walk.enter number) (λ _. inner >>= walk.set) (λ state. same (walk.enter number context state))
      (λ _. alike-then inner walk.set (alike-members members.items (walk.none_gathered designators.items) are)
      (λ hull state. same (walk.set hull context state)))
  layer (MonadicOf number operation operand) are =
      let inner = (piece_of operand.value.0).walk in
      alike-then (walk.enter number) (λ _. inner >>= walk.operated operation) (λ state. same (walk.enter number context state))
      (λ _. alike-then inner (walk.operated operation) (operand.value.1 are) (λ known. alike-operated operation known))
  layer (Chain first rest) are =
      let joints = map joint_of (map (λ (l : AlikeLink). l.0) rest.items) in
      let both = parts (piece_of first.value.0).calls (flat_map (λ (joint : Joint). joint.right.calls) joints) are in
      alike-then (piece_of first.value.0).walk (walk.in_turn (map (λ (joint : Joint). joint.combination) joints)) (first.value.1 both.0)
      (λ known. alike-in_turn rest.items known both.1)
  layer (Compare number relation left left_indexes right right_indexes) are =
      let one = walk.whole_walk left (pieces left_indexes.items) in
      let two = walk.whole_walk right (pieces right_indexes.items) in
      let both = parts (calls_in (pieces left_indexes.items)) (calls_in (pieces right_indexes.items)) are in
      let last = λ (_ : List Interval). walk.ordinal truth_values in
      alike-then one (λ _. walk.related_walk number right (pieces right_indexes.items)) (alike-whole left left_indexes.items both.0)
      (λ _. alike-then (walk.enter number) (λ _. two >>= last) (λ state. same (walk.enter number context state))
      (λ _. alike-then two last (alike-whole right right_indexes.items both.1) (λ _ state. same (walk.ordinal truth_values context state))))
  layer (CallOf call actuals) are =
      let last = λ (_ : Unit {0}) (own : Context). walk.result_walk call (walk.result_of (called_block own call)) own in
      alike-then (walk.call_walk call (passed_pieces actuals.items)) last (alike-call call actuals.items are)
      (λ _. alike-result call (walk.result_of (called_block context call)))
  layer (Input number asks) are = λ state. same ((stepped (Input number asks)).walk context state)

  passed-layer : (y : Passed-F AlikeExpr AlikePassed AlikeLink) → Listed (stepped_passed (bare_passed y)).calls
      → GoesAlike (stepped_passed (bare_passed y)).walk
  passed-layer (PassedValue value fits) are =
      let piece = piece_of value.0 in
      let last = λ (passed : Known) (own : Context). walk.give (OfValue (known_range passed) (walk.form_in own piece)) own in
      alike-then piece.walk (λ known. walk.fitting fits known >>= last) (value.1 are)
      (λ known. alike-then (walk.fitting fits known) last (λ state. same (walk.fitting fits known context state))
      (λ passed state. same (last passed context state)))
  passed-layer (PassedWhole type_id value indexes) are =
      alike-then (walk.whole_walk value (pieces indexes.items)) (λ ranges. walk.give (OfRows ranges)) (alike-whole value indexes.items are)
      (λ ranges state. same (walk.give (OfRows ranges) context state))
  passed-layer (Reference type_id access indexes) are =
      let last = λ (reach : Reach). walk.give (OfVariable (origin_of access) access.selectors.items reach) in
      alike-then (walk.access_walk access (pieces indexes.items)) last (alike-access access indexes.items are)
      (λ reach state. same (last reach context state))

  told-layer : (y : Passed-F AlikeExpr AlikePassed AlikeLink) (state : State)
      → IsTold (stepped_passed (bare_passed y)).told ((stepped_passed (bare_passed y)).walk context state).value
  told-layer (PassedValue value fits) state root = refl
  told-layer (PassedWhole type_id value indexes) state root = refl
  told-layer (Reference type_id access indexes) state root = refl

  link-layer : (y : Link-F AlikeExpr AlikePassed AlikeLink) → Listed (stepped_link (bare_link y)).right.calls → (left : Known)
      → GoesAlike ((stepped_link (bare_link y)).combination left)
  link-layer y are left =
      let inner = (piece_of y.operand.0).walk in
      alike-then (walk.enter y.number) (λ _. inner >>= walk.combined y.operation left) (λ state. same (walk.enter y.number context state))
      (λ _. alike-then inner (walk.combined y.operation left) (y.operand.1 are) (λ right. alike-combined y.operation left right))

  rolled : (x : Expr-F Expr Passed Link) → (Listed (stepped x).calls → GoesAlike (stepped x).walk) → IsAlike (roll-Expr x)
  rolled x goes =
      subst (λ (piece : Piece). Listed piece.calls → GoesAlike piece.walk)
      (sym (fold-roll-Expr Piece PassedPiece Joint piece_step passed_step link_step x)) goes

  rolled-passed : (x : Passed-F Expr Passed Link) → (Listed (stepped_passed x).calls → GoesAlike (stepped_passed x).walk)
      → ((state : State) → IsTold (stepped_passed x).told ((stepped_passed x).walk context state).value) → IsAlikePassed (roll-Passed x)
  rolled-passed x goes told =
      let is = sym (fold-roll-Passed Piece PassedPiece Joint piece_step passed_step link_step x) in
      record {
        alike = subst (λ (piece : PassedPiece). Listed piece.calls → GoesAlike piece.walk) is goes;
        told = subst (λ (piece : PassedPiece). (state : State) → IsTold piece.told (piece.walk context state).value) is told;
      }

  rolled-link : (x : Link-F Expr Passed Link) → (Listed (stepped_link x).right.calls → (left : Known) → GoesAlike ((stepped_link x).combination left))
      → IsAlikeLink (roll-Link x)
  rolled-link x goes =
      subst (λ (joint : Joint). Listed joint.right.calls → (left : Known) → GoesAlike (joint.combination left))
      (sym (fold-roll-Link Piece PassedPiece Joint piece_step passed_step link_step x)) goes

  -- the walk over an expression
  pub expression-alike : (e : Expr) → IsAlike e
  expression-alike =
      ind-Expr IsAlike IsAlikePassed IsAlikeLink
      (λ x y is. subst (λ (z : Expr-F Expr Passed Link). IsAlike (roll-Expr z)) is (rolled (bare y) (layer y)))
      (λ x y is. subst (λ (z : Passed-F Expr Passed Link). IsAlikePassed (roll-Passed z)) is (rolled-passed (bare_passed y) (passed-layer y) (told-layer y)))
      (λ x y is. subst (λ (z : Link-F Expr Passed Link). IsAlikeLink (roll-Link z)) is (rolled-link (bare_link y) (link-layer y)))

  abbrev all_alike : List Expr → List AlikeExpr
  all_alike [] = []
  all_alike (index ∷ indexes) = (index, expression-alike index) ∷ all_alike indexes

  all-bare : (indexes : List Expr) → map (λ e. e.0) (all_alike indexes) ≡ indexes
  all-bare [] = refl
  all-bare (index ∷ indexes) = ap₂ (λ (one : Expr) (more : List Expr). one ∷ more) refl (all-bare indexes)

  -- the walk over a whole value
  pub whole-alike : (value : Whole) (indexes : List Expr) → Listed (calls_in (walk.index_pieces indexes))
      → GoesAlike (walk.whole_walk value (walk.index_pieces indexes))
  whole-alike value indexes =
      subst (λ (all : List Expr). Listed (calls_in (walk.index_pieces all))
      → GoesAlike (walk.whole_walk value (walk.index_pieces all))) (all-bare indexes) (alike-whole value (all_alike indexes))
