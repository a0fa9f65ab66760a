-- The walk over a statement by a plain certificate breaks no rule, nor does that over a program.
use Rattle.std.proofs.Common.{◌≡◌, ◌∙◌, sym, ap, refl, subst, ℕ, suc, ℤ, Bool, true, false, ◌&&◌, List, [], ◌∷◌, ◌++◌, Option, Some, None, length, map}
use Rattle.std.proofs.Common.{if◌then◌else◌}
use Rattle.std.specs.Prelude.{drop, slice_get}
use Rattle.std.proofs.lemmas.Bool.{and_parts}
use Rattle.std.specs.declared.alloc.Global.{Global}
use Rattle.std.specs.declared.vec.Vec.{Vec}
use Rattle.place.specs.declared.Place.{Place}
use Rattle.types.specs.Types.{is_same, is_scalar, is_structured}
use Rattle.types.specs.declared.form.TypeId.{TypeId}
use Rattle.typed_tree.specs.declared.tree.Block.{Block}
use Rattle.typed_tree.specs.declared.tree.ForHead.{ForHead}
use Rattle.typed_tree.specs.declared.tree.FunctionResult.{FunctionResult}
use Rattle.typed_tree.specs.declared.tree.Loop.{Loop}
use Rattle.typed_tree.specs.declared.tree.ReadVariable.{ReadVariable}
use Rattle.typed_tree.specs.declared.tree.Selector.{Selector}
use Rattle.typed_tree.specs.declared.tree.Tree.{Tree}
use Rattle.typed_tree.specs.declared.tree.WithRecord.{WithRecord}
use Rattle.typed_tree.specs.declared.tree.Expr.{Expr}
use Rattle.typed_tree.specs.declared.tree.Stmt.{Stmt}
use Rattle.typed_tree.specs.declared.tree.Stmt.TheOpen.{Stmt-F}
use Rattle.typed_tree.specs.declared.tree.Stmt.TheOpen.Stmt-F.{Empty, Assign, Copy, Write, Compound, If, While, Repeat, For, Case, With, Read}
use Rattle.typed_tree.specs.declared.tree.Stmt.TheOpen.Stmt-F.{Call as Calling}
use Rattle.typed_tree.specs.declared.tree.Stmt.TheViews.{roll-Stmt}
use Rattle.typed_tree.specs.declared.tree.Stmt.TheFolds.{map-Stmt, fold-roll-Stmt, ind-Stmt}
use Rattle.typed_tree.specs.Accesses.{Origin, origin_of, root_of}
use Rattle.typed_tree.specs.Loops.{AreLoops, AreLoopsOf, Inside, IsLoop, LoopControls, all_inside, inside_of, loops_of_block, statement_inside}
use Rattle.typed_tree.specs.WellFormed.{Outline, all_hold, are_few_cells, are_well_formed, are_well_formed_blocks, has_values, is_heading}
use Rattle.typed_tree.specs.WellFormed.{is_visible, is_well_formed_block, is_well_formed_expr, is_well_formed_parameter, is_well_formed_read}
use Rattle.typed_tree.specs.WellFormed.{is_well_formed_record, is_well_formed_stmt, is_well_formed_value, leads_to, outline_of, stmt_is_well_formed}
use Rattle.certificate.specs.declared.Certificate.{Certificate}
use Rattle.domain.specs.Facts.{Fact}
use Rattle.domain.specs.Interval.{Interval}
use Rattle.checker_rows.specs.Limits.{limits_of}
use Rattle.checker_rows.specs.Rows.{is_ordinal_variable}
use Rattle.checker_state.specs.Bounds.{Bound}
use Rattle.checker_state.specs.Conditions.{bound_form}
use Rattle.checker_state.specs.Joins.{joined_states}
use Rattle.checker_state.specs.State.{Dead, State, table_of}
use Rattle.checker_state.specs.Stores.{Reach}
use Rattle.checker_state.specs.Values.{known_range}
use Rattle.checker_loops.specs.Cases.{arm_start, constants_before}
use Rattle.checker_loops.specs.Loops.{Round, all_claims, claims_at, gives_claims, head_of, round_of, with_own}
use Rattle.checker_loops.specs.Starts.{block_start}
use Rattle.checker_loops.specs.Ways.{Way, turn_begun, turn_ended, way_of, where_counts}
use Rattle.checker_expressions.specs.declared.fault.Rule.{Rule}
use Rattle.checker_expressions.specs.declared.fault.Rule.TheVariants.{LoopEntry, LoopTurn, Exit, Changes}
use Rattle.checker_expressions.specs.Walk.{Walking, access_walk, breach_unless, fitting, index_pieces, may_change, parameter_walk, piece_of, value_walk}
use Rattle.checker_expressions.specs.Walk.{whole_walk}
use Rattle.cert_checker.specs.Plain.{PlainIsAccepted}
use Rattle.cert_checker.specs.Walk.{all_of, arms_walk, assign_component, assign_entire, assign_to, assign_value, begin_way, block_walk, blocks_walk, case_walk}
use Rattle.cert_checker.specs.Walk.{copy_to, first_context, for_round, for_turns, for_walk, index_root, index_test, is_whole_variable, loop_walk, point_place}
use Rattle.cert_checker.specs.Walk.{reach_stored, read_value, read_walk, record_walk, repeat_round, result_use, statement_step, statement_walk}
use Rattle.cert_checker.specs.Walk.{condition_walk, steady_in, tested_way, where_so, while_round}
use Rattle.checker_loops.specs.Growths.{Turns, all_can_begin, all_have_turned, growths_begun}
use Rattle.domain.specs.declared.versions.Extension.TheVariants.{Growths, Sides}
use Rattle.cert_checker.specs.Steps.{noted_where, value_step}
use Rattle.cert_checker.specs.Walk.{turns_in}
use Rattle.cert_checker.proofs.AssignedValues.{noted-breaks}
use Rattle.cert_checker.proofs.PlainLists.{AreWide, IsPlain, at, exit-none, facts-none, listed, may-change, of_block, wider}
use Rattle.cert_checker.proofs.PlainExpressions.{Keeps, Wide, access-kept, here, none-asked, none-more, parameter-kept, procedure-kept, value-kept, whole-kept}

-- loops of one part and of another
loops-split : (rows : List Loop) (block : ℕ) (first second : List (ℕ × LoopControls)) → AreLoops rows block (first ++ second)
    → AreLoops rows block first × AreLoops rows block second
loops-split rows block [] second loops = (tt, loops)
loops-split rows block (one ∷ first) second loops =
    let rest = loops-split rows block first second loops.1 in ((loops.0, rest.0), rest.1)

-- the use of a result breaks nothing
result-silent : (tree : Tree) (certificate : Certificate) (plain : IsPlain tree certificate) (block : ℕ) (result : Option FunctionResult)
    → Keeps tree certificate plain block (result_use result)
result-silent tree certificate plain block None rounds wide state = refl
result-silent tree certificate plain block (Some result) rounds wide state = refl

module _ (tree : Tree) (certificate : Certificate) (plain : IsPlain tree certificate) (block : ℕ) where
  abbrev outline : Outline
  outline = outline_of tree

  abbrev rows : List Loop
  rows = tree.loops.items

  abbrev KeepsIn : Walking (Unit {0}) → Type 0
  KeepsIn walk = Keeps tree certificate plain block walk

  -- ---- changes

  -- a variable that is visible may be changed
  none-changed : (place : Place) (root : ℕ) (rounds : List Round) → Wide tree certificate plain block rounds → is_visible outline block root ≡ true
      → breach_unless (may_change (here tree certificate plain block rounds) root) Changes place ≡ []
  none-changed place root rounds wide seen =
      none-asked (may_change (here tree certificate plain block rounds) root) Changes place (may-change tree certificate plain block rounds wide root seen)

  either-kept : (test : Bool) (one other : Walking (Unit {0})) → KeepsIn one → KeepsIn other → KeepsIn (if test then one else other)
  either-kept true one other first second = first
  either-kept false one other first second = second

  assigned-kept : (place : Place) (origin : Origin) (selectors : List Selector) (reach : Reach) (form : Option Bound) (step : Option Interval)
      (range : Interval) → is_visible outline block (root_of origin) ≡ true → KeepsIn (assign_to place origin selectors reach form step range)
  assigned-kept place origin selectors reach form step range seen =
      either-kept (is_whole_variable origin selectors) (assign_entire place (root_of origin) form step range)
      (assign_component place origin selectors reach range)
      (λ rounds wide state. none-more _ [] (none-changed place (root_of origin) rounds wide seen) refl)
      (λ rounds wide state. none-more _ [] (none-changed place (root_of origin) rounds wide seen) refl)

  leads-seen : (wanted : TypeId → Bool) (origin : Origin) (selectors : List Selector) (n : ℕ) → leads_to outline block wanted origin selectors n ≡ true
      → is_visible outline block (root_of origin) ≡ true
  leads-seen wanted origin selectors n leads = (and_parts (is_visible outline block (root_of origin)) _ leads).0

  -- ---- several in turn

  all-kept : {X : Type 0} (walk : X → Walking (Unit {0})) (test : X → Bool) → ((x : X) → test x ≡ true → KeepsIn (walk x)) → (xs : List X)
      → all_hold (map test xs) ≡ true → KeepsIn (all_of (map walk xs))
  all-kept walk test each [] well rounds wide state = refl
  all-kept walk test each (x ∷ xs) well rounds wide state =
      let both = and_parts (test x) (all_hold (map test xs)) well in
      let first = walk x (here tree certificate plain block rounds) state in
      let rest = all_of (map walk xs) (here tree certificate plain block rounds) first.after in
      none-more first.broken rest.broken (each x both.0 rounds wide state) (all-kept walk test each xs both.1 rounds wide first.after)

  record-kept : (one : WithRecord) → is_well_formed_record outline block one ≡ true → KeepsIn (record_walk one)
  record-kept one well rounds wide state =
      let both = and_parts (are_well_formed outline block one.indexes.items) _ well in
      none-more (access_walk one.access (index_pieces one.indexes.items) (here tree certificate plain block rounds) state).broken []
      (access-kept tree certificate plain block one.access one.indexes.items both.0 rounds wide state) refl

  read-kept : (name : Place) (one : ReadVariable) → is_well_formed_read outline block one ≡ true → KeepsIn (read_walk name one)
  read-kept name one well rounds wide state =
      let context = here tree certificate plain block rounds in
      let origin = origin_of one.access in
      let selectors = one.access.selectors.items in
      let n = length one.indexes.items in
      let both = and_parts (are_well_formed outline block one.indexes.items) _ well in
      let leads = and_parts (leads_to outline block (has_values outline.types one.range) origin selectors n) _ both.1 in
      let reached = access_walk one.access (index_pieces one.indexes.items) context state in
      let rest = read_value name one reached.value context reached.after in
      none-more reached.broken rest.broken (access-kept tree certificate plain block one.access one.indexes.items both.0 rounds wide state)
      (assigned-kept (point_place tree one.point name) origin selectors (reach_stored context selectors [] reached.value) None None
      (limits_of one.range)
      (leads-seen (has_values outline.types one.range) origin selectors n leads.0) rounds wide reached.after)

  -- ---- loops

  -- no facts are always given
  none-given : (facts : List Fact) (rule : Rule) (place : Place) (state : State) → facts ≡ [] → breach_unless (gives_claims tree state facts) rule place ≡ []
  none-given facts rule place state none = none-asked (gives_claims tree state facts) rule place (ap (gives_claims tree state) none)

  loop-kept : (number : ℕ) (told : LoopControls) (place : Place) (control : Option ℕ) (round : Walking State) → IsLoop rows block (number, told)
      → Keeps tree certificate plain block round → KeepsIn (loop_walk number place control round)
  loop-kept number told place control round is each rounds wide state =
      let (row, row_is, own, same) = is in
      let claims = claims_at (all_claims tree certificate) number in
      let loop = round_of tree (listed tree certificate plain) (all_claims tree certificate) number in
      let start = head_of tree (with_own control loop) claims.facts state in
      let more = rounds ++ loop ∷ [] in
      let wider_here : AreWide tree certificate plain block more =
      subst (λ (n : ℕ). AreWide tree certificate plain n rounds → AreWide tree certificate plain n more) own
      (wider tree certificate plain number row rounds row_is) wide in
      let behind = round (here tree certificate plain block more) start in
      let one = breach_unless (gives_claims tree state claims.facts) LoopEntry place in
      let last = breach_unless (gives_claims tree behind.after claims.facts) LoopTurn place in
      let none = facts-none tree certificate plain number in
      none-more one (behind.broken ++ (last ++ [])) (none-given claims.facts LoopEntry place state none)
      (none-more behind.broken (last ++ []) (each more wider_here start)
      (none-more last [] (none-given claims.facts LoopTurn place behind.after none) refl))

  while-kept : (condition : Expr) (body : Walking (Unit {0})) → is_well_formed_expr outline block condition ≡ true → KeepsIn body
      → Keeps tree certificate plain block (while_round tree condition body)
  while-kept condition body well each rounds wide state =
      let context = here tree certificate plain block rounds in
      let first = condition_walk condition context state in
      let start = where_so tree true condition first.value first.after in
      none-more first.broken ((body context start).broken ++ []) (noted-breaks Sides condition context state ∙ value-kept tree certificate plain block condition
      well rounds wide state)
      (none-more (body context start).broken [] (each rounds wide start) refl)

  repeat-kept : (body : Walking (Unit {0})) (condition : Expr) → is_well_formed_expr outline block condition ≡ true → KeepsIn body
      → Keeps tree certificate plain block (repeat_round tree body condition)
  repeat-kept body condition well each rounds wide state =
      let context = here tree certificate plain block rounds in
      let first = body context state in
      let tested = condition_walk condition context first.after in
      none-more first.broken (tested.broken ++ []) (each rounds wide state)
      (none-more tested.broken [] (noted-breaks Sides condition context first.after ∙ value-kept tree certificate plain block condition well rounds wide
      first.after) refl)

  module _ (head : ForHead) (told : LoopControls) (is : IsLoop rows block (head.loop_number, told)) (body : Walking (Unit {0})) (each : KeepsIn body) where
    for_round-kept : (turns : Turns) (place : Place) (facts : List Fact) (way : Way) → facts ≡ []
        → Keeps tree certificate plain block (for_round turns place facts way body)
    for_round-kept turns place facts way none rounds wide state =
        let begun = growths_begun tree turns facts (turn_begun way state) in
        let turned = body (here tree certificate plain block rounds) begun in
        let ended = turn_ended way turned.after in
        let asks = breach_unless (all_have_turned turns ended facts) LoopTurn place in
        none-more turned.broken ((asks ++ []) ++ []) (each rounds wide begun)
        (none-more (asks ++ []) [] (none-more asks [] (none-asked (all_have_turned turns ended facts) LoopTurn place
        (ap (all_have_turned turns ended) none)) refl)
        refl)

    turns-kept : (way : Way) → KeepsIn (for_turns head body way)
    turns-kept way rounds wide state =
        let context = here tree certificate plain block rounds in
        let tested = tested_way way context state in
        let begun = begin_way tested.value context tested.after in
        let steady = steady_in context head.loop_number tested.value in
        let number = head.loop_number in
        let turns = turns_in context number tested.value in
        let facts = (claims_at context.claims number).facts in
        let none = facts-none tree certificate plain number in
        none-more (breach_unless (all_can_begin begun.after facts) LoopEntry head.place)
        (loop_walk number head.place (Some tested.value.control) (for_round turns head.place facts steady body) context begun.after).broken
        (none-asked (all_can_begin begun.after facts) LoopEntry head.place (ap (all_can_begin begun.after) none))
        (loop-kept number told head.place (Some tested.value.control) (for_round turns head.place facts steady body) is
        (for_round-kept turns head.place facts steady none) rounds wide begun.after)

    for-kept : (way : Way) → KeepsIn (for_walk head body way)
    for-kept way rounds wide state =
        let start = where_counts true way state in
        let turns = for_turns head body way (here tree certificate plain block rounds) start in
        none-more (turns.broken ++ []) [] (none-more turns.broken [] (turns-kept way rounds wide start) refl) refl

  -- ---- statements

  abbrev Kept : Stmt → Type 0
  Kept s = is_well_formed_stmt outline block s ≡ true → AreLoops rows block (inside_of s).loops → KeepsIn (statement_walk s)

  abbrev ProvedStmt : Type 0
  ProvedStmt = (s : Stmt) × Kept s

  abbrev statements_of : List ProvedStmt → List Stmt
  statements_of parts = map (λ s. s.0) parts

  statements-kept : (parts : List ProvedStmt) → all_hold (map (is_well_formed_stmt outline block) (statements_of parts)) ≡ true
      → AreLoops rows block (all_inside (map inside_of (statements_of parts))).loops → KeepsIn (all_of (map statement_walk (statements_of parts)))
  statements-kept [] well loops rounds wide state = refl
  statements-kept (one ∷ parts) well loops rounds wide state =
      let both = and_parts (is_well_formed_stmt outline block one.0) (all_hold (map (is_well_formed_stmt outline block) (statements_of parts))) well in
      let split = loops-split rows block (inside_of one.0).loops (all_inside (map inside_of (statements_of parts))).loops loops in
      let first = statement_walk one.0 (here tree certificate plain block rounds) state in
      let rest = all_of (map statement_walk (statements_of parts)) (here tree certificate plain block rounds) first.after in
      none-more first.broken rest.broken (one.1 both.0 split.0 rounds wide state) (statements-kept parts both.1 split.1 rounds wide first.after)

  arms-kept : (base : State) (index : Option ℕ) (constants : List (Vec ℤ Global)) (parts : List ProvedStmt)
      → all_hold (map (is_well_formed_stmt outline block) (statements_of parts)) ≡ true
      → AreLoops rows block (all_inside (map inside_of (statements_of parts))).loops
      → KeepsIn (arms_walk base index constants (map statement_walk (statements_of parts)))
  arms-kept base index constants [] well loops rounds wide state = refl
  arms-kept base index constants (one ∷ parts) well loops rounds wide state =
      let both = and_parts (is_well_formed_stmt outline block one.0) (all_hold (map (is_well_formed_stmt outline block) (statements_of parts))) well in
      let split = loops-split rows block (inside_of one.0).loops (all_inside (map inside_of (statements_of parts))).loops loops in
      let context = here tree certificate plain block rounds in
      let start = arm_start index (slice_get constants 0) base in
      let first = statement_walk one.0 context start in
      let met = joined_states (table_of tree) state first.after in
      let rest = arms_walk base index (drop 1 constants) (map statement_walk (statements_of parts)) context met in
      none-more first.broken rest.broken (one.1 both.0 split.0 rounds wide start)
      (arms-kept base index (drop 1 constants) parts both.1 split.1 rounds wide met)

  abbrev unproved : Stmt-F ProvedStmt → Stmt-F Stmt
  unproved y = map-Stmt ProvedStmt Stmt (λ s. s.0) y

  parts-kept : (y : Stmt-F ProvedStmt) → stmt_is_well_formed outline block (map-Stmt Stmt Bool (is_well_formed_stmt outline block) (unproved y)) ≡ true
      → AreLoops rows block (statement_inside (map-Stmt Stmt Inside inside_of (unproved y))).loops
      → KeepsIn (statement_step (map-Stmt Stmt (Walking (Unit {0})) statement_walk (unproved y)))
  parts-kept (Empty number) well loops rounds wide state = refl
  parts-kept (Assign assignment) well loops rounds wide state =
      let context = here tree certificate plain block rounds in
      let target = assignment.target in
      let origin = origin_of target in
      let selectors = target.selectors.items in
      let n = length assignment.indexes.items in
      let one = and_parts (are_well_formed outline block assignment.indexes.items) _ well in
      let two = and_parts (leads_to outline block (is_scalar outline.types) origin selectors n) _ one.1 in
      let three = and_parts (is_well_formed_expr outline block assignment.value) _ two.1 in
      let reached = access_walk target (index_pieces assignment.indexes.items) context state in
      let value = noted_where Growths assignment.value context reached.after in
      let passed = fitting assignment.fits value.value.known context value.after in
      let reach = reach_stored context selectors (piece_of assignment.value ∷ []) reached.value in
      let last = assign_value assignment reach value.value.noted passed.value context passed.after in
      none-more reached.broken (value.broken ++ last.broken)
      (access-kept tree certificate plain block target assignment.indexes.items one.0 rounds wide state)
      (none-more value.broken last.broken
      (noted-breaks Growths assignment.value context reached.after ∙ value-kept tree certificate plain block assignment.value three.0 rounds wide reached.after)
      (assigned-kept assignment.becomes origin selectors reach (bound_form (is_ordinal_variable tree) context.version assignment.value)
      (value_step tree (root_of origin) assignment.value value.value.noted) (known_range passed.value)
      (leads-seen (is_scalar outline.types) origin selectors n two.0) rounds wide passed.after))
  parts-kept (Copy copying) well loops rounds wide state =
      let context = here tree certificate plain block rounds in
      let target = copying.target in
      let origin = origin_of target in
      let selectors = target.selectors.items in
      let n = length copying.indexes.items in
      let wanted = λ (id : TypeId). is_same id copying.type_id && is_structured outline.types id in
      let one = and_parts (are_well_formed outline block copying.indexes.items) _ well in
      let two = and_parts (leads_to outline block wanted origin selectors n) _ one.1 in
      let three = and_parts (is_well_formed_value outline block copying.value copying.value_indexes.items) _ two.1 in
      let reached = access_walk target (index_pieces copying.indexes.items) context state in
      let value = whole_walk copying.value (index_pieces copying.value_indexes.items) context reached.after in
      let later = index_pieces copying.value_indexes.items in
      let last = copy_to copying.becomes origin selectors (reach_stored context selectors later reached.value) value.value context value.after in
      none-more reached.broken (value.broken ++ last.broken)
      (access-kept tree certificate plain block target copying.indexes.items one.0 rounds wide state)
      (none-more value.broken last.broken (whole-kept tree certificate plain block copying.value copying.value_indexes.items three.0 rounds wide reached.after)
      (none-more _ [] (none-changed copying.becomes (root_of origin) rounds wide (leads-seen wanted origin selectors n two.0)) refl))
  parts-kept (Write writing) well loops rounds wide state =
      all-kept parameter_walk (is_well_formed_parameter outline block) (parameter-kept tree certificate plain block) writing.parameters.items well rounds wide
      state
  parts-kept (Read reading) well loops rounds wide state =
      all-kept (read_walk reading.name) (is_well_formed_read outline block) (read-kept reading.name) reading.variables.items
      (and_parts _ (all_hold (map (is_well_formed_read outline block) reading.variables.items)) well).1 rounds wide state
  parts-kept (Calling calling) well loops rounds wide state =
      procedure-kept tree certificate plain block calling.call calling.actuals.items well rounds wide state
  parts-kept (Compound number statements) well loops rounds wide state = statements-kept statements.items well loops rounds wide state
  parts-kept (If number condition consequence None) well loops rounds wide state =
      let context = here tree certificate plain block rounds in
      let one = and_parts (is_well_formed_expr outline block condition) _ well in
      let two = and_parts (is_well_formed_stmt outline block consequence.value.0) true one.1 in
      let split = loops-split rows block (inside_of consequence.value.0).loops [] loops in
      let first = condition_walk condition context state in
      let start = where_so tree true condition first.value first.after in
      let yes = statement_walk consequence.value.0 context start in
      none-more first.broken (yes.broken ++ []) (noted-breaks Sides condition context state ∙ value-kept tree certificate plain block condition one.0 rounds
      wide state)
      (none-more yes.broken [] (consequence.value.1 two.0 split.0 rounds wide start) refl)
  parts-kept (If number condition consequence (Some alternative)) well loops rounds wide state =
      let context = here tree certificate plain block rounds in
      let one = and_parts (is_well_formed_expr outline block condition) _ well in
      let two = and_parts (is_well_formed_stmt outline block consequence.value.0) (is_well_formed_stmt outline block alternative.value.0) one.1 in
      let split = loops-split rows block (inside_of consequence.value.0).loops (inside_of alternative.value.0).loops loops in
      let first = condition_walk condition context state in
      let start = where_so tree true condition first.value first.after in
      let other = where_so tree false condition first.value first.after in
      let then_walked = statement_walk consequence.value.0 context start in
      let else_walked = statement_walk alternative.value.0 context other in
      none-more first.broken (then_walked.broken ++ else_walked.broken) (noted-breaks Sides condition context state ∙ value-kept tree certificate plain block
      condition one.0 rounds wide state)
      (none-more then_walked.broken else_walked.broken (consequence.value.1 two.0 split.0 rounds wide start)
      (alternative.value.1 two.1 split.1 rounds wide other))
  parts-kept (While head body) well loops rounds wide state =
      let both = and_parts (is_well_formed_expr outline block head.condition) (is_well_formed_stmt outline block body.value.0) well in
      let inner = statement_walk body.value.0 in
      let told : LoopControls = record { own = None; inside = (inside_of body.value.0).controls } in
      loop-kept head.loop_number told head.place None (while_round tree head.condition inner) loops.0
      (while-kept head.condition inner both.0 (body.value.1 both.1 loops.1)) rounds wide state
  parts-kept (Repeat head statements) well loops rounds wide state =
      let all = statements_of statements.items in
      let both = and_parts (all_hold (map (is_well_formed_stmt outline block) all)) (is_well_formed_expr outline block head.condition) well in
      let inner = all_of (map statement_walk all) in
      let told : LoopControls = record { own = None; inside = (all_inside (map inside_of all)).controls } in
      loop-kept head.loop_number told head.place None (repeat_round tree inner head.condition) loops.0
      (repeat-kept inner head.condition both.1 (statements-kept statements.items both.0 loops.1)) rounds wide state
  parts-kept (For head body) well loops rounds wide state =
      let context = here tree certificate plain block rounds in
      let zeroth = and_parts _ _ well in
      let one = and_parts (is_well_formed_expr outline block head.first.value) _ zeroth.1 in
      let two = and_parts _ _ one.1 in
      let three = and_parts (is_well_formed_expr outline block head.last.value) _ two.1 in
      let four = and_parts _ (is_well_formed_stmt outline block body.value.0) three.1 in
      let from = value_walk head.first.value context state in
      let to = value_walk head.last.value context from.after in
      let way = way_of (is_ordinal_variable tree) context.version head from.value to.value in
      let rest = for_walk head (statement_walk body.value.0) way context to.after in
      let told : LoopControls = record { own = Some head.control; inside = (inside_of body.value.0).controls } in
      none-more from.broken (to.broken ++ rest.broken) (value-kept tree certificate plain block head.first.value one.0 rounds wide state)
      (none-more to.broken rest.broken (value-kept tree certificate plain block head.last.value three.0 rounds wide from.after)
      (for-kept head told loops.0 (statement_walk body.value.0) (body.value.1 four.1 loops.1) way rounds wide to.after))
  parts-kept (Case head arms) well loops rounds wide state =
      let context = here tree certificate plain block rounds in
      let all = statements_of arms.items in
      let one = and_parts _ _ well in
      let two = and_parts (is_well_formed_expr outline block head.index) _ one.1 in
      let three = and_parts _ (all_hold (map (is_well_formed_stmt outline block) all)) two.1 in
      let inner = map statement_walk all in
      let constants = head.constants.items in
      let first = value_walk head.index context state in
      let base = index_test head.site (constants_before (length inner) constants) (known_range first.value) context first.after in
      let rest = case_walk tree head inner first.value context first.after in
      none-more first.broken rest.broken (value-kept tree certificate plain block head.index two.0 rounds wide state)
      (arms-kept base.value (index_root tree head) constants arms.items three.1 loops rounds wide base.after)
  parts-kept (With head body) well loops rounds wide state =
      let context = here tree certificate plain block rounds in
      let both = and_parts (all_hold (map (is_well_formed_record outline block) head.records.items)) (is_well_formed_stmt outline block body.value.0) well in
      let first = all_of (map record_walk head.records.items) context state in
      let rest = statement_walk body.value.0 context first.after in
      none-more first.broken rest.broken (all-kept record_walk (is_well_formed_record outline block) record-kept head.records.items both.0 rounds wide state)
      (body.value.1 both.1 loops rounds wide first.after)

  layer : (x : Stmt-F Stmt) (y : Stmt-F ProvedStmt) → unproved y ≡ x → Kept (roll-Stmt x)
  layer x y is well loops rounds wide state =
      let context = here tree certificate plain block rounds in
      ap (λ (walk : Walking (Unit {0})). (walk context state).broken)
      (fold-roll-Stmt (Walking (Unit {0})) statement_step x ∙ ap (λ z. statement_step (map-Stmt Stmt (Walking (Unit {0})) statement_walk z)) (sym is))
      ∙ parts-kept y
      (ap (λ z. stmt_is_well_formed outline block (map-Stmt Stmt Bool (is_well_formed_stmt outline block) z)) is
      ∙ sym (fold-roll-Stmt Bool (stmt_is_well_formed outline block) x) ∙ well)
      (subst (λ (inside : Inside). AreLoops rows block inside.loops)
      (fold-roll-Stmt Inside statement_inside x ∙ ap (λ z. statement_inside (map-Stmt Stmt Inside inside_of z)) (sym is)) loops) rounds wide state

  pub statement-kept : (s : Stmt) → Kept s
  statement-kept = ind-Stmt Kept layer

-- ---- blocks

module _ (tree : Tree) (certificate : Certificate) (plain : IsPlain tree certificate) where
  block-kept : (before number : ℕ) (block : Block) → is_well_formed_block (outline_of tree) number block ≡ true
      → AreLoops tree.loops.items number (loops_of_block block) → (state : State)
      → (block_walk number block (at tree certificate plain before []) state).broken ≡ []
  block-kept before number block well loops state =
      let outline = outline_of tree in
      let one = and_parts (is_heading outline number block.heading) _ well in
      let two = and_parts (are_few_cells outline number) (is_well_formed_stmt outline number block.body) one.1 in
      let context = at tree certificate plain number [] in
      let claims = of_block tree certificate plain number in
      let begun = block_start certificate.version tree number claims.entry in
      let wide : AreWide tree certificate plain number [] = λ root seen. refl in
      let body = statement_walk block.body context begun in
      let used = result_use block.heading.result context body.after in
      let last = breach_unless (gives_claims tree used.after claims.exit) Exit block.end in
      none-more body.broken (used.broken ++ last) (statement-kept tree certificate plain number block.body two.1 loops [] wide begun)
      (none-more used.broken last (result-silent tree certificate plain number block.heading.result [] wide body.after)
      (none-asked (gives_claims tree used.after claims.exit) Exit block.end
      (ap (gives_claims tree used.after) (exit-none tree certificate plain number))))

  blocks-kept : (number : ℕ) (blocks : List Block) → are_well_formed_blocks (outline_of tree) number blocks ≡ true
      → AreLoopsOf tree.loops.items number blocks → (state : State) → (blocks_walk number blocks (first_context tree certificate) state).broken ≡ []
  blocks-kept number [] well loops state = refl
  blocks-kept number (block ∷ blocks) well loops state =
      let both = and_parts (is_well_formed_block (outline_of tree) number block) _ well in
      let first = block_walk number block (first_context tree certificate) state in
      let rest = blocks_walk (suc number) blocks (first_context tree certificate) first.after in
      none-more first.broken rest.broken (block-kept 0 number block both.0 loops.0 state) (blocks-kept (suc number) blocks both.1 loops.1 first.after)

-- a plain certificate breaks no rule
pub plain-accepted : PlainIsAccepted
plain-accepted tree certificate well known none lists =
    let plain : IsPlain tree certificate = record { well = well; known = known; none = none; lists = lists } in
    blocks-kept tree certificate plain 0 tree.blocks.items well.blocks well.loops Dead
