use Rattle.std.proofs.Common.{Bool, true, false, ◌∙◌, sym, ap, refl, List, [], ◌∷◌, ◌++◌, None, Some, length, map}
use Rattle.typed_tree.specs.declared.tree.Stmt.{Stmt}
use Rattle.typed_tree.specs.declared.tree.Tree.{Tree}
use Rattle.typed_tree.specs.declared.tree.WithRecord.{WithRecord}
use Rattle.std.specs.Prelude.{flat_map}
use Rattle.typed_tree.specs.Entries.{entries_of_expression, entries_of_record, entries_of_statement}
use Rattle.checker_rows.specs.Rows.{is_ordinal_variable}
use Rattle.checker_state.specs.State.{State}
use Rattle.checker_state.specs.declared.value.Known.{Known}
use Rattle.checker_ways.specs.View.{said_way}
use Rattle.checker_state.specs.Growths.{without_turns}
use Rattle.checker_loops.specs.View.{claims_of_round, said_turns}
use Rattle.checker_loops.specs.Ways.{Way, way_of, way_out, where_counts}
use Rattle.checker_state.specs.Loops.{with_undefined}
use Rattle.checker_expressions.specs.Visits.{all_counted}
use Rattle.cert_checker.specs.StepsView.{said_valued}
use Rattle.checker_expressions.specs.Walk.{Context, Valued, Walking, ◌>>=◌, changed_by, give, value_walk, with_state}
use Rattle.cert_checker.specs.Walk.{all_of, begin_way, bounds_walk, branches, case_walk, choice_walk, condition_walk, either_of, for_turns, for_walk}
use Rattle.cert_checker.specs.Walk.{from_entry}
use Rattle.cert_checker.specs.Walk.{index_walk, parted}
use Rattle.cert_checker.specs.Walk.{record_walk, repeat_round, with_walk}
use Rattle.cert_checker.specs.Walk.{for_round, growths_entered, turn_from, turn_to}
use Rattle.cert_checker.specs.Walk.{here, loop_walk, repeat_walk, rounds_of, statement_walk, tested_way, where_so, while_walk}
use Rattle.checker_expressions.specs.View.{state_of}
use Rattle.cert_checker.specs.View.{context_of, else_entries, else_walk, statements_entries}
use Rattle.cert_checker.proofs.Steps.{all-end, all-step, counted-end, counted-step, counted-then, goes-from_entry, goes-give, goes-here, goes-then, moved}
use Rattle.cert_checker.proofs.StepsLayers.{entries-If, goes-as, statement-Case, statement-For, statement-If, statement-Repeat, statement-While}
use Rattle.cert_checker.proofs.StepsLayers.{statement-With}
use Rattle.checker_trail.proofs.Ways.{moves-then}
use Rattle.cert_checker.proofs.StepsWays.{loop-alike, loop-done, parted-done, round_of_parts, rounds-go, then-assoc, ways-done}
use Rattle.cert_checker.proofs.StepsCase.{arms-begin, arms-end, arms-step, case-tested}
use Rattle.cert_checker.proofs.walk.Walk.+statement.Goals as goal

-- ---- statements, one after another

pub statements-loop-statement-init : goal.statements-loop-statement-init
statements-loop-statement-init g t c = (λ new goes. goes, refl)

pub statements-loop-statement-preserved : goal.statements-loop-statement-preserved
statements-loop-statement-preserved g t c =
    let here = c.loop-statement in (
      λ new goes. here.invariant.0 new
          (all-step statement_walk c.args.statements.now here.statement-index c.statement-item.result c.loop-statement-test.true c.statement-item.is
          c.statement.ensures.goes goes),
      counted-step g.C.Count.counted statements_entries entries_of_statement (λ x xs. refl) c.args.statements.now here.statement-index c.statement-item.result _
          c.loop-statement-test.true c.statement-item.is c.statement.ensures.counts here.invariant.1,
    )

pub statements-returns-clause-goes : goal.statements-returns-clause-goes
statements-returns-clause-goes g t c =
    let here = c.loop-statement in
    here.invariant.0 here.self (all-end statement_walk c.args.statements.now here.statement-index here.self c.loop-statement-test.false)

pub statements-returns-clause-counts : goal.statements-returns-clause-counts
statements-returns-clause-counts g t c =
    let here = c.loop-statement in
    counted-end g.C.Count.counted statements_entries entries_of_statement (λ x xs. refl) c.args.statements.now here.statement-index _
    c.loop-statement-test.false refl
    here.invariant.1

-- ---- one layer of a statement

pub statement-returns-in-If-clause-goes : goal.statement-returns-in-If-clause-goes
statement-returns-in-If-clause-goes g t c =
    let it = c.in-If in
    let condition = it.condition in
    let one = statement_walk c.deref-in-If.result.now in
    let other = else_walk it.alternative in
    let known = said_valued c.condition-valued.result in
    let where_known : Bool → Walking (Unit {0}) = λ truth context. changed_by (where_so context.tree truth condition known) context in
    let form = λ (first : Walking (Unit {0})). from_entry it.number (choice_walk condition first other) in
    goes-as (statement_walk c.args.statement.now) (form one)
    (ap statement_walk it.is ∙ statement-If it.number condition it.consequence it.alternative
    ∙ ap (λ (s : Stmt). form (statement_walk s)) (sym c.deref-in-If.ensures))
    (goes-from_entry it.number (choice_walk condition one other)
    (goes-then (condition_walk condition) (λ known context. branches context.tree condition one other known context) c.condition-valued.ensures.goes
    (goes-here
    (λ context state. either_of context ((where_known true >>= λ _. one) context state) ((where_known false >>= λ _. other) context state))
    (λ context. branches context.tree condition one other known context) refl
    (ways-done (where_known true >>= λ _. one) (where_known false >>= λ _. other) c.mark-mark.result.length c.mark-mark.ensures
    (goes-then (where_known true) (λ _. one) c.go_where.ensures c.statement.ensures.goes) c.leave-first.ensures.long c.leave-first.ensures.back
    (goes-then (where_known false) (λ _. other) c.go_where-in-If.ensures c.alternative.ensures.goes) c.join_behind.ensures.long
    c.join_behind.ensures.meets))))

pub statement-returns-in-If-clause-counts : goal.statement-returns-in-If-clause-counts
statement-returns-in-If-clause-counts g t c =
    let it = c.in-If in
    let first = entries_of_expression it.condition in
    let one = entries_of_statement c.deref-in-If.result.now in
    let other = else_entries it.alternative in
    let form = λ (s : Stmt). it.number ∷ (first ++ (entries_of_statement s ++ other)) in
    counted-then g.C.Count.counted (it.number ∷ []) (first ++ (one ++ other)) _ c.tick-in-If.ensures
    (counted-then g.C.Count.counted first (one ++ other) _ c.condition-valued.ensures.counts
    (counted-then g.C.Count.counted one other _ c.statement.ensures.counts c.alternative.ensures.counts))
    ∙ ap (λ numbers. all_counted g.C.Count.counted numbers c.args.visits.now)
    (sym (ap entries_of_statement it.is ∙ entries-If it.number it.condition it.consequence it.alternative ∙ ap form (sym c.deref-in-If.ensures)))

pub statement-returns-in-While-clause-goes : goal.statement-returns-in-While-clause-goes
statement-returns-in-While-clause-goes g t c =
    let it = c.in-While in
    let form = λ (s : Stmt). from_entry it.head.number (while_walk it.head (statement_walk s)) in
    goes-as (statement_walk c.args.statement.now) (form c.deref-in-While.result.now)
    (ap statement_walk it.is ∙ statement-While it.head it.body ∙ ap form (sym c.deref-in-While.ensures)) c.while_loop.ensures.goes

pub statement-returns-in-Repeat-clause-goes : goal.statement-returns-in-Repeat-clause-goes
statement-returns-in-Repeat-clause-goes g t c =
    let it = c.in-Repeat in
    let form = λ (inner : List Stmt). from_entry it.head.number (repeat_walk it.head (all_of (map statement_walk inner))) in
    goes-as (statement_walk c.args.statement.now) (form c.deref-in-Repeat.result.now)
    (ap statement_walk it.is ∙ statement-Repeat it.head it.statements ∙ ap form (sym c.deref-in-Repeat.ensures.value)) c.repeat_loop.ensures.goes

pub statement-returns-in-For-clause-goes : goal.statement-returns-in-For-clause-goes
statement-returns-in-For-clause-goes g t c =
    let it = c.in-For in
    let form = λ (s : Stmt). from_entry it.head.number (bounds_walk it.head (statement_walk s)) in
    goes-as (statement_walk c.args.statement.now) (form c.deref-in-For.result.now)
    (ap statement_walk it.is ∙ statement-For it.head it.body ∙ ap form (sym c.deref-in-For.ensures)) c.for_loop.ensures.goes

pub statement-returns-in-Case-clause-goes : goal.statement-returns-in-Case-clause-goes
statement-returns-in-Case-clause-goes g t c =
    let it = c.in-Case in
    let form = λ (arms : List Stmt). from_entry it.head.number (index_walk it.head (map statement_walk arms)) in
    goes-as (statement_walk c.args.statement.now) (form c.deref-in-Case.result.now)
    (ap statement_walk it.is ∙ statement-Case it.head it.arms ∙ ap form (sym c.deref-in-Case.ensures.value)) c.case.ensures.goes

pub statement-returns-in-With-clause-goes : goal.statement-returns-in-With-clause-goes
statement-returns-in-With-clause-goes g t c =
    let it = c.in-With in
    let form = λ (s : Stmt). from_entry it.head.number (with_walk it.head (statement_walk s)) in
    goes-as (statement_walk c.args.statement.now) (form c.deref-in-With.result.now)
    (ap statement_walk it.is ∙ statement-With it.head it.body ∙ ap form (sym c.deref-in-With.ensures)) c.with_statement.ensures.goes

-- ---- loops

pub while_loop-returns-clause-goes : goal.while_loop-returns-clause-goes
while_loop-returns-clause-goes g t c =
    let head = c.args.head.now in
    let condition = head.condition in
    let body = statement_walk c.args.body.now in
    let again : Valued → State → Walking (Unit {0}) = λ known tested context. with_state (where_so context.tree true condition known tested) context in
    let out : Tree → Valued → State → State = λ tree known tested. where_so tree false condition known tested in
    let whole = λ (known : Valued) (tested : State). again known tested >>= λ _. body in
    goes-from_entry head.number (while_walk head body)
    (goes-here (loop_walk head.loop_number head.place None (round_of_parts (condition_walk condition) whole out)) (while_walk head body) refl
    (loop-done head.loop_number head.place None (condition_walk condition) whole out c.mark-mark.result.length c.enter_loop.ensures
    c.condition-valued.ensures.goes c.mark-mark.ensures
    (goes-then (again (said_valued c.condition-valued.result) (state_of c.condition-valued.new.self.flow)) (λ _. body) c.go_where.ensures
    c.statement.ensures.goes)
    c.leave_loop.ensures c.leave-turn.ensures.long c.leave-turn.ensures.back c.go_where-2.ensures))

pub while_loop-returns-clause-counts : goal.while_loop-returns-clause-counts
while_loop-returns-clause-counts g t c =
    let first = entries_of_expression c.args.head.now.condition in
    let rest = entries_of_statement c.args.body.now in
    counted-then g.C.Count.counted (c.args.head.now.number ∷ []) (first ++ rest) _ c.tick.ensures
    (counted-then g.C.Count.counted first rest _ c.condition-valued.ensures.counts c.statement.ensures.counts)

pub repeat_loop-returns-clause-goes : goal.repeat_loop-returns-clause-goes
repeat_loop-returns-clause-goes g t c =
    let head = c.args.head.now in
    let condition = head.condition in
    let body = all_of (map statement_walk c.args.statements.now) in
    let again : Valued → State → Walking (Unit {0}) = λ known tested context. with_state (where_so context.tree false condition known tested) context in
    let out : Tree → Valued → State → State = λ tree known tested. where_so tree true condition known tested in
    let parts = round_of_parts (body >>= λ _. condition_walk condition) again out in
    let context = context_of c.args.self.now in
    goes-from_entry head.number (repeat_walk head body)
    (goes-here (loop_walk head.loop_number head.place None parts) (repeat_walk head body)
    (loop-alike head.loop_number head.place None parts (repeat_round context.tree body condition) context
    (λ rounds state. then-assoc body (λ _. condition_walk condition)
    (λ known. here >>= λ tested. (again known tested >>= λ _ inner. give (out inner.tree known tested) inner)) (record context { rounds = rounds }) state)
    (state_of c.args.self.now.flow))
    (loop-done head.loop_number head.place None (body >>= λ _. condition_walk condition) again out c.mark-mark.result.length c.enter_loop.ensures
    (goes-then body (λ _. condition_walk condition) c.statements.ensures.goes c.condition-valued.ensures.goes) c.mark-mark.ensures c.go_where.ensures
    c.leave_loop.ensures c.leave-turn.ensures.long c.leave-turn.ensures.back c.go_where-2.ensures))

pub repeat_loop-returns-clause-counts : goal.repeat_loop-returns-clause-counts
repeat_loop-returns-clause-counts g t c =
    let first = statements_entries c.args.statements.now in
    let rest = entries_of_expression c.args.head.now.condition in
    counted-then g.C.Count.counted (c.args.head.now.number ∷ []) (first ++ rest) _ c.tick.ensures
    (counted-then g.C.Count.counted first rest _ c.statements.ensures.counts c.condition-valued.ensures.counts)

-- ---- a for

pub for_loop-returns-clause-goes : goal.for_loop-returns-clause-goes
for_loop-returns-clause-goes g t c =
    let head = c.args.head.now in
    let body = statement_walk c.args.body.now in
    let from = c.expression-from.result in
    let to = c.expression-to.result in
    let way : Known → Known → Context → Way = λ from to context. way_of (is_ordinal_variable context.tree) context.version head from to in
    let own : Known → Known → Tree → Way = λ from to tree. way_of (is_ordinal_variable tree) c.expression-to.new.self.flow.grounds.version head from to in
    goes-from_entry head.number (bounds_walk head body)
    (goes-then (value_walk head.first.value) (λ from. value_walk head.last.value >>= λ to context. for_walk head body (way from to context) context)
    c.expression-from.ensures.goes
    (goes-then (value_walk head.last.value) (λ to context. for_walk head body (way from to context) context) c.expression-to.ensures.goes
    (goes-here (for_walk head body (said_way c.of-way.result)) (λ context. for_walk head body (way from to context) context)
    (ap (λ (w : Way). for_walk head body w (context_of c.expression-to.new.self) (state_of c.expression-to.new.self.flow))
    (c.of-way.ensures ∙ ap (own from to) c.table.ensures)) c.for_statement.ensures.goes)))

pub for_loop-returns-clause-counts : goal.for_loop-returns-clause-counts
for_loop-returns-clause-counts g t c =
    let from = entries_of_expression c.args.head.now.first.value in
    let to = entries_of_expression c.args.head.now.last.value in
    let rest = entries_of_statement c.args.body.now in
    counted-then g.C.Count.counted (c.args.head.now.number ∷ []) (from ++ (to ++ rest)) _ c.tick.ensures
    (counted-then g.C.Count.counted from (to ++ rest) _ c.expression-from.ensures.counts
    (counted-then g.C.Count.counted to rest _ c.expression-to.ensures.counts c.for_statement.ensures.counts))

pub for_statement-returns-clause-goes : goal.for_statement-returns-clause-goes
for_statement-returns-clause-goes g t c =
    let head = c.args.head.now in
    let body = statement_walk c.args.body.now in
    let way = said_way c.args.way.now in
    let turns = for_turns head body way in
    goes-then (parted (where_counts true way) (where_counts false way) turns (give tt)) (λ _. changed_by (with_undefined way.control))
    (parted-done (where_counts true way) (where_counts false way) turns (give tt) c.mark-mark.result.length c.mark-mark.ensures
    (moved c.relate.ensures) c.for_turns.ensures.goes c.leave-turns.ensures.long c.leave-turns.ensures.back (moved c.relate-2.ensures)
    (goes-give tt _) c.join_behind.ensures.long c.join_behind.ensures.meets)
    (moved c.undefine.ensures)

pub for_turns-returns-clause-goes : goal.for_turns-returns-clause-goes
for_turns-returns-clause-goes g t c =
    let head = c.args.head.now in
    let body = statement_walk c.args.body.now in
    let way = said_way c.args.way.now in
    let tested = said_way c.tested_way-tested.result in
    goes-then (tested_way way) (λ tested. begin_way tested >>= λ _. rounds_of head body tested) c.tested_way-tested.ensures
    (goes-then (begin_way tested) (λ _. rounds_of head body tested) c.begin_way.ensures c.turns.ensures.goes)

pub turns-returns-clause-goes : goal.turns-returns-clause-goes
turns-returns-clause-goes g t c =
    let head = c.args.head.now in
    let body = statement_walk c.args.body.now in
    let way = said_way c.args.way.now in
    let steady = said_way c.steady_in-steady.result in
    let turns = said_turns c.turns_in-turns.result in
    let claims = claims_of_round c.turns_in-turns.result.round in
    let facts = claims.facts in
    let round = for_round turns head.place facts steady body in
    rounds-go head body way steady turns claims c.steady_in-steady.ensures c.turns_in-turns.ensures.turns_are c.turns_in-turns.ensures.claims_are
    (goes-then (growths_entered head.place facts) (λ _. loop_walk head.loop_number head.place (Some steady.control) round) c.enter_turns.ensures
    (loop-done head.loop_number head.place (Some steady.control) (turn_from turns facts steady >>= λ _. body)
    (λ _ _. turn_to turns head.place facts steady) (λ _ _ tested. way_out steady (without_turns turns.depth tested)) c.mark-mark.result.length
    c.enter_loop.ensures (goes-then (turn_from turns facts steady) (λ _. body) c.begin_turn.ensures c.statement.ensures.goes) c.mark-mark.ensures
    c.end_turn.ensures c.leave_loop.ensures c.leave-turn.ensures.long c.leave-turn.ensures.back (moved (moves-then c.end.ensures c.leave.ensures))))

-- ---- a case

pub case-returns-clause-goes : goal.case-returns-clause-goes
case-returns-clause-goes g t c =
    let head = c.args.head.now in
    let arms = c.args.arms.now in
    goes-from_entry head.number (index_walk head (map statement_walk arms))
    (goes-then (value_walk head.index) (λ known context. case_walk context.tree head (map statement_walk arms) known context) c.expression-known.ensures.goes
    (case-tested head arms (length arms) c.table.result.now c.entire-index.result c.deref.result.now c.range.result c.expression-known.result refl
    c.table.ensures c.entire-index.ensures c.deref.ensures.value c.range.ensures c.test_index.ensures c.arms.ensures.goes))

pub case-returns-clause-counts : goal.case-returns-clause-counts
case-returns-clause-counts g t c =
    let first = entries_of_expression c.args.head.now.index in
    let rest = statements_entries c.args.arms.now in
    counted-then g.C.Count.counted (c.args.head.now.number ∷ []) (first ++ rest) _ c.tick.ensures
    (counted-then g.C.Count.counted first rest _ c.expression-known.ensures.counts c.arms.ensures.counts)

pub arms-loop-number-init : goal.arms-loop-number-init
arms-loop-number-init g t c = (
  λ new goes. arms-begin c.args.index c.args.constants.now c.args.arms.now c.mark-mark.result.length c.args.self.now c.mark-mark.ensures c.die.ensures
      c.leave-behind.ensures.long c.leave-behind.ensures.back goes,
  refl,
)

pub arms-loop-number-preserved : goal.arms-loop-number-preserved
arms-loop-number-preserved g t c =
    let here = c.loop-number in
    let arms = c.args.arms.now in
    let arm = c.index-arms-number.result in (
      λ new goes. here.invariant.0 new
          (arms-step c.args.index c.args.constants.now arms c.mark-mark.result.length here.number arm here.self c.loop-number-test.true c.index-arms-number.is
          c.begin_arm.ensures c.statement.ensures.goes c.join_behind.ensures.long c.join_behind.ensures.meets c.leave-behind-in-loop-number.ensures.long
          c.leave-behind-in-loop-number.ensures.back goes),
      counted-step g.C.Count.counted statements_entries entries_of_statement (λ x xs. refl) arms here.number arm _ c.loop-number-test.true
          c.index-arms-number.is
          c.statement.ensures.counts here.invariant.1,
    )

pub arms-returns-clause-goes : goal.arms-returns-clause-goes
arms-returns-clause-goes g t c =
    let here = c.loop-number in
    here.invariant.0 _
    (arms-end c.args.index c.args.constants.now c.args.arms.now c.mark-mark.result.length here.number here.self c.loop-number-test.false c.go.ensures.long
    c.go.ensures.comes)

pub arms-returns-clause-counts : goal.arms-returns-clause-counts
arms-returns-clause-counts g t c =
    let here = c.loop-number in
    counted-end g.C.Count.counted statements_entries entries_of_statement (λ x xs. refl) c.args.arms.now here.number _ c.loop-number-test.false refl
    here.invariant.1

-- ---- a with

pub with_statement-returns-clause-goes : goal.with_statement-returns-clause-goes
with_statement-returns-clause-goes g t c =
    let head = c.args.head.now in
    let body = statement_walk c.args.body.now in
    let form = λ (records : List WithRecord). all_of (map record_walk records) >>= λ _. body in
    goes-from_entry head.number (with_walk head body)
    (goes-here (form c.deref.result.now) (with_walk head body)
    (ap (λ (records : List WithRecord). form records (context_of c.args.self.now) (state_of c.args.self.now.flow)) c.deref.ensures.value)
    (goes-then (all_of (map record_walk c.deref.result.now)) (λ _. body) c.records.ensures.goes c.statement.ensures.goes))

pub with_statement-returns-clause-counts : goal.with_statement-returns-clause-counts
with_statement-returns-clause-counts g t c =
    let number = c.args.head.now.number in
    let rest = entries_of_statement c.args.body.now in
    let first = flat_map entries_of_record c.deref.result.now in
    counted-then g.C.Count.counted (number ∷ []) (first ++ rest) _ c.tick.ensures
    (counted-then g.C.Count.counted first rest _ c.records.ensures.counts c.statement.ensures.counts)
    ∙ ap (λ (records : List WithRecord). all_counted g.C.Count.counted (number ∷ (flat_map entries_of_record records ++ rest)) c.args.visits.now)
    c.deref.ensures.value
