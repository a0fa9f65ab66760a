-- The walk over a program links a state to each of its entries, once and in their order.
use Rattle.std.proofs.Common.{◌≡◌, ◌∙◌, sym, ap, refl, ℕ, suc, ℤ, Bool, true, false, if◌then◌else◌, List, [], ◌∷◌, ◌++◌, Option, Some, None, length, map}
use Rattle.std.specs.Prelude.{flat_map, drop, slice_get}
use Rattle.typed_tree.specs.declared.tree.Assignment.{Assignment}
use Rattle.typed_tree.specs.declared.tree.CaseHead.{CaseHead}
use Rattle.typed_tree.specs.declared.tree.ForHead.{ForHead}
use Rattle.typed_tree.specs.declared.tree.ReadVariable.{ReadVariable}
use Rattle.typed_tree.specs.declared.tree.WithRecord.{WithRecord}
use Rattle.typed_tree.specs.Accesses as accesses
use Rattle.typed_tree.specs.Accesses.{Origin, origin_of}
use Rattle.typed_tree.specs.declared.tree.Selector.{Selector}
use Rattle.checker_state.specs.Bounds.{Bound}
use Rattle.typed_tree.specs.declared.tree.Expr.{Expr}
use Rattle.typed_tree.specs.declared.tree.Stmt.{Stmt}
use Rattle.typed_tree.specs.declared.tree.Stmt.TheOpen.{Stmt-F}
use Rattle.typed_tree.specs.declared.tree.Stmt.TheOpen.Stmt-F.{Empty, Assign, Copy, Write, Compound, If, While, Repeat, For, Case, With, Read}
use Rattle.typed_tree.specs.declared.tree.Stmt.TheOpen.Stmt-F.{Call as Calling}
use Rattle.typed_tree.specs.declared.tree.FunctionResult.{FunctionResult}
use Rattle.typed_tree.specs.declared.tree.Stmt.TheFolds.{map-Stmt, fold-roll-Stmt, ind-Stmt}
use Rattle.typed_tree.specs.declared.tree.Tree.{Tree}
use Rattle.typed_tree.specs.declared.tree.Block.{Block}
use Rattle.typed_tree.specs.Entries.{joined, entries_of_expression, entries_of_parameter, statement_entries, entries_of_block, entries_of_statement}
use Rattle.typed_tree.specs.Entries.{entries_of_read, entries_of_record, entries_of}
use Rattle.certificate.specs.declared.Certificate.{Certificate}
use Rattle.checker_state.specs.declared.value.Known.{Known}
use Rattle.checker_state.specs.Values.{known_range}
use Rattle.domain.specs.Interval.{Interval}
use Rattle.checker_rows.specs.Limits.{limits_of}
use Rattle.checker_rows.specs.Rows.{is_ordinal_variable}
use Rattle.cert_checker.specs.Promise.{LinksEntries}
use Rattle.checker_state.specs.Stores.{Reach}
use Rattle.checker_state.specs.State.{Dead, State}
use Rattle.checker_state.specs.Joins.{joined_states}
use Rattle.checker_loops.specs.Sections.{block_claims_at}
use Rattle.checker_loops.specs.Starts.{block_start}
use Rattle.checker_loops.specs.Loops.{claims_at, head_of, round_of, with_own}
use Rattle.checker_state.specs.State.{table_of}
use Rattle.checker_loops.specs.Ways.{Way, turn_begun, way_of, where_counts}
use Rattle.std.specs.declared.alloc.Global.{Global}
use Rattle.std.specs.declared.vec.Vec.{Vec}
use Rattle.checker_state.specs.Conditions.{bound_form}
use Rattle.checker_loops.specs.Cases.{arm_start, constants_before}
use Rattle.place.specs.declared.Place.{Place}
use Rattle.checker_expressions.specs.Walk.{Context, Walking, ◌>>=◌, access_walk, index_pieces, numbers_of, fitting, piece_of, value_walk}
use Rattle.checker_expressions.specs.Walk.{parameter_walk, whole_walk}
use Rattle.cert_checker.specs.Walk.{first_context, assign_component, assign_entire, assign_to, assign_value, arms_walk, case_walk, for_round, for_turns}
use Rattle.cert_checker.specs.Walk.{for_walk, index_test, loop_walk, steady_in}
use Rattle.cert_checker.specs.Walk.{condition_walk, tested_way, while_round, repeat_round, statement_step, statement_walk, where_so, all_of, block_walk}
use Rattle.cert_checker.specs.Walk.{blocks_walk}
use Rattle.cert_checker.specs.Walk.{index_root, is_whole_variable, point_place, read_value, read_walk, record_walk}
use Rattle.domain.specs.Facts.{Fact}
use Rattle.checker_loops.specs.Growths.{Turns, growths_begun}
use Rattle.domain.specs.declared.versions.Extension.TheVariants.{Growths, Sides}
use Rattle.checker_expressions.specs.Walk.{Valued}
use Rattle.cert_checker.specs.Steps.{noted_where, value_step}
use Rattle.cert_checker.proofs.AssignedValues.{noted-entered}
use Rattle.cert_checker.specs.Walk.{turns_in, begin_way, program_walk, reach_stored, result_use}
use Rattle.checker_expressions.proofs.Entered.{Enters, access-entered, and_no_more, and_then, call-entered, parameter-entered, value-entered, whole-entered}

-- what comes behind the value of an assignment
abbrev stores : Assignment → Reach → Valued → Walking (Unit {0})
stores assignment reach told =
    fitting assignment.fits told.known
    >>= λ passed context. assign_value assignment
    (reach_stored context assignment.target.selectors.items (piece_of assignment.value ∷ []) reach) told.noted passed context

-- what enters nothing either way
either-silent : (test : Bool) (one other : Walking (Unit {0})) → Enters one [] → Enters other [] → Enters (if test then one else other) []
either-silent true one other first second = first
either-silent false one other first second = second

assigned-silent : (becomes : Place) (origin : Origin) (selectors : List Selector) (reach : Reach) (form : Option Bound) (step : Option Interval)
    (range : Interval) → Enters (assign_to becomes origin selectors reach form step range) []
assigned-silent becomes origin selectors reach form step range =
    either-silent (is_whole_variable origin selectors) (assign_entire becomes (accesses.root_of origin) form step range)
    (assign_component becomes origin selectors reach range) (λ context state. refl) (λ context state. refl)

stores-silent : (assignment : Assignment) (reach : Reach) (told : Valued) → Enters (stores assignment reach told) []
stores-silent assignment reach told context state =
    let target = assignment.target in
    let passed = fitting assignment.fits told.known context state in
    assigned-silent assignment.becomes (origin_of target) target.selectors.items
    (reach_stored context target.selectors.items (piece_of assignment.value ∷ []) reach)
    (bound_form (is_ordinal_variable context.tree) context.version assignment.value)
    (value_step context.tree (accesses.root_of (origin_of target)) assignment.value told.noted) (known_range passed.value) context passed.after

-- walks one after another enter what each enters
all-entered : {X : Type 0} (walk : X → Walking (Unit {0})) (numbers : X → List ℕ) → ((x : X) → Enters (walk x) (numbers x)) → (xs : List X)
    → Enters (all_of (map walk xs)) (flat_map numbers xs)
all-entered walk numbers each [] context state = refl
all-entered walk numbers each (x ∷ xs) context state =
    let first = walk x context state in
    let rest = all_of (map walk xs) context first.after in
    and_then first.linked rest.linked _ _ (each x context state) (all-entered walk numbers each xs context first.after)

abbrev EnteredStmt : Type 0
EnteredStmt = (s : Stmt) × Enters (statement_walk s) (entries_of_statement s)

statements-entered : (statements : List EnteredStmt)
    → Enters (all_of (map statement_walk (map (λ s. s.0) statements))) (joined (map entries_of_statement (map (λ s. s.0) statements)))
statements-entered [] context state = refl
statements-entered (statement ∷ statements) context state =
    let first = statement_walk statement.0 context state in
    let rest = all_of (map statement_walk (map (λ s. s.0) statements)) context first.after in
    and_then first.linked rest.linked _ _ (statement.1 context state) (statements-entered statements context first.after)

-- a record of a with is accessed
record-entered : (one : WithRecord) → Enters (record_walk one) (entries_of_record one)
record-entered one context state =
    and_no_more (access_walk one.access (index_pieces one.indexes.items) context state).linked [] _ (access-entered one.access one.indexes.items context state)
    refl

-- a variable that is read is accessed, and what it gets enters nothing
read-entered : (name : Place) (one : ReadVariable) → Enters (read_walk name one) (entries_of_read one)
read-entered name one context state =
    let access = one.access in
    let selectors = access.selectors.items in
    let reached = access_walk access (index_pieces one.indexes.items) context state in
    let rest = read_value name one reached.value context reached.after in
    and_no_more reached.linked rest.linked _ (access-entered access one.indexes.items context state)
    (assigned-silent (point_place context.tree one.point name) (origin_of access) selectors
    (reach_stored context selectors [] reached.value) None None (limits_of one.range) context reached.after)

-- a loop enters what a round of it does
loop-entered : (number : ℕ) (place : Place) (control : Option ℕ) (round : Walking State) (numbers : List ℕ) → Enters round numbers
    → Enters (loop_walk number place control round) numbers
loop-entered number place control round numbers each context state =
    let claims = claims_at context.claims number in
    let loop = round_of context.tree context.pairs context.claims number in
    let own = with_own control loop in
    let within : Context = record context { rounds = context.rounds ++ loop ∷ [] } in
    let start = head_of context.tree own claims.facts state in
    and_no_more (round within start).linked [] numbers (each within start) refl

module _ (head : ForHead) (body : Walking (Unit {0})) (numbers : List ℕ) (each : Enters body numbers) where
  -- a for enters what its body does
  for_round-entered : (turns : Turns) (place : Place) (facts : List Fact) (way : Way) → Enters (for_round turns place facts way body) numbers
  for_round-entered turns place facts way context state =
      let begun = growths_begun context.tree turns facts (turn_begun way state) in
      and_no_more (body context begun).linked [] numbers (each context begun) refl

  turns_of-entered : (way : Way) → Enters (for_turns head body way) numbers
  turns_of-entered way context state =
      let tested = tested_way way context state in
      let begun = begin_way tested.value context tested.after in
      let steady = steady_in context head.loop_number tested.value in
      let turns = turns_in context head.loop_number tested.value in
      let facts = (claims_at context.claims head.loop_number).facts in
      loop-entered head.loop_number head.place (Some tested.value.control) (for_round turns head.place facts steady body) numbers
      (for_round-entered turns head.place facts steady) context begun.after

  for-entered : (way : Way) → Enters (for_walk head body way) numbers
  for-entered way context state =
      let start = where_counts true way state in
      let turns = for_turns head body way context start in
      and_no_more (turns.linked ++ []) [] numbers
      (and_no_more turns.linked [] numbers (turns_of-entered way context start) refl) refl

-- the arms of a case
arms-entered : (base : State) (index : Option ℕ) (rows : List (Vec ℤ Global)) (arms : List EnteredStmt)
    → Enters (arms_walk base index rows (map statement_walk (map (λ s. s.0) arms))) (joined (map entries_of_statement (map (λ s. s.0) arms)))
arms-entered base index rows [] context state = refl
arms-entered base index rows (arm ∷ arms) context state =
    let start = arm_start index (slice_get rows 0) base in
    let first = statement_walk arm.0 context start in
    let met = joined_states (table_of context.tree) state first.after in
    let rest = arms_walk base index (drop 1 rows) (map statement_walk (map (λ s. s.0) arms)) context met in
    and_then first.linked rest.linked _ _ (arm.1 context start) (arms-entered base index (drop 1 rows) arms context met)

case-entered : (tree : Tree) (head : CaseHead) (arms : List EnteredStmt) (known : Known)
    → Enters (case_walk tree head (map statement_walk (map (λ s. s.0) arms)) known) (joined (map entries_of_statement (map (λ s. s.0) arms)))
case-entered tree head arms known context state =
    let rows = head.constants.items in
    let inner = map statement_walk (map (λ (s : EnteredStmt). s.0) arms) in
    let base = index_test head.site (constants_before (length inner) rows) (known_range known) context state in
    arms-entered base.value (index_root tree head) rows arms context base.after

while-entered : (tree : Tree) (condition : Expr) (body : Walking (Unit {0})) (numbers : List ℕ) → Enters body numbers
    → Enters (while_round tree condition body) (entries_of_expression condition ++ numbers)
while-entered tree condition body numbers each context state =
    let first = condition_walk condition context state in
    let start = where_so tree true condition first.value first.after in
    and_then first.linked ((body context start).linked ++ []) (entries_of_expression condition) numbers (noted-entered Sides condition context state)
    (and_no_more (body context start).linked [] numbers (each context start) refl)

repeat-entered : (tree : Tree) (body : Walking (Unit {0})) (condition : Expr) (numbers : List ℕ) → Enters body numbers
    → Enters (repeat_round tree body condition) (numbers ++ entries_of_expression condition)
repeat-entered tree body condition numbers each context state =
    let first = body context state in
    let tested = condition_walk condition context first.after in
    and_then first.linked (tested.linked ++ []) numbers (entries_of_expression condition) (each context state)
    (and_no_more tested.linked [] (entries_of_expression condition) (noted-entered Sides condition context first.after) refl)

statement-parts : (y : Stmt-F EnteredStmt)
    → Enters (statement_step (map-Stmt Stmt (Walking (Unit {0})) statement_walk (map-Stmt EnteredStmt Stmt (λ s. s.0) y)))
    (statement_entries (map-Stmt Stmt (List ℕ) entries_of_statement (map-Stmt EnteredStmt Stmt (λ s. s.0) y)))
statement-parts (Empty number) context state = refl
statement-parts (Assign assignment) context state =
    let reached = access_walk assignment.target (index_pieces assignment.indexes.items) context state in
    let first = noted_where Growths assignment.value context reached.after in
    let rest = stores assignment reached.value first.value context first.after in
    ap (λ numbers. assignment.number ∷ numbers)
    (and_then reached.linked (first.linked ++ rest.linked) _ _ (access-entered assignment.target assignment.indexes.items context state)
    (and_no_more first.linked rest.linked _ (noted-entered Growths assignment.value context reached.after)
    (stores-silent assignment reached.value first.value context first.after)))
statement-parts (Copy copying) context state =
    let reached = access_walk copying.target (index_pieces copying.indexes.items) context state in
    let first = whole_walk copying.value (index_pieces copying.value_indexes.items) context reached.after in
    ap (λ numbers. copying.number ∷ numbers)
    (and_then reached.linked (first.linked ++ []) _ _ (access-entered copying.target copying.indexes.items context state)
    (and_no_more first.linked [] _ (whole-entered copying.value copying.value_indexes.items context reached.after) refl))
statement-parts (Write writing) context state =
    ap (λ numbers. writing.number ∷ numbers) (all-entered parameter_walk entries_of_parameter parameter-entered writing.parameters.items context state)
statement-parts (Read reading) context state =
    ap (λ numbers. reading.number ∷ numbers)
    (all-entered (read_walk reading.name) entries_of_read (read-entered reading.name) reading.variables.items context state)
statement-parts (Calling calling) context state = call-entered calling.call calling.actuals.items context state
statement-parts (Compound number statements) context state = ap (λ numbers. number ∷ numbers) (statements-entered statements.items context state)
statement-parts (If number condition consequence None) context state =
    let first = condition_walk condition context state in
    let yes = statement_walk consequence.value.0 context (where_so context.tree true condition first.value first.after) in
    ap (λ numbers. number ∷ numbers)
    (and_then first.linked (yes.linked ++ []) _ _ (noted-entered Sides condition context state)
    (and_then yes.linked [] _ _ (consequence.value.1 context (where_so context.tree true condition first.value first.after)) refl))
statement-parts (If number condition consequence (Some alternative)) context state =
    let first = condition_walk condition context state in
    let yes = statement_walk consequence.value.0 context (where_so context.tree true condition first.value first.after) in
    let no = statement_walk alternative.value.0 context (where_so context.tree false condition first.value first.after) in
    ap (λ numbers. number ∷ numbers)
    (and_then first.linked (yes.linked ++ no.linked) _ _ (noted-entered Sides condition context state)
    (and_then yes.linked no.linked _ _ (consequence.value.1 context (where_so context.tree true condition first.value first.after))
    (alternative.value.1 context (where_so context.tree false condition first.value first.after))))
statement-parts (While head body) context state =
    ap (λ numbers. head.number ∷ numbers) (loop-entered head.loop_number head.place None (while_round context.tree head.condition (statement_walk body.value.0))
    (entries_of_expression head.condition ++ entries_of_statement body.value.0)
    (while-entered context.tree head.condition (statement_walk body.value.0) (entries_of_statement body.value.0) body.value.1) context state)
statement-parts (Repeat head statements) context state =
    let inner = map statement_walk (map (λ (s : EnteredStmt). s.0) statements.items) in
    let numbers = joined (map entries_of_statement (map (λ (s : EnteredStmt). s.0) statements.items)) in
    ap (λ numbers. head.number ∷ numbers)
    (loop-entered head.loop_number head.place None (repeat_round context.tree (all_of inner) head.condition) (numbers ++ entries_of_expression head.condition)
    (repeat-entered context.tree (all_of inner) head.condition numbers (statements-entered statements.items)) context state)
statement-parts (For head body) context state =
    let from = value_walk head.first.value context state in
    let to = value_walk head.last.value context from.after in
    let way = way_of (is_ordinal_variable context.tree) context.version head from.value to.value in
    let rest = for_walk head (statement_walk body.value.0) way context to.after in
    ap (λ numbers. head.number ∷ numbers)
    (and_then from.linked (to.linked ++ rest.linked) _ _ (value-entered head.first.value context state)
    (and_then to.linked rest.linked _ _ (value-entered head.last.value context from.after)
    (for-entered head (statement_walk body.value.0) (entries_of_statement body.value.0) body.value.1 way context to.after)))
statement-parts (Case head arms) context state =
    let inner = map statement_walk (map (λ (s : EnteredStmt). s.0) arms.items) in
    let first = value_walk head.index context state in
    let rest = case_walk context.tree head inner first.value context first.after in
    ap (λ numbers. head.number ∷ numbers)
    (and_then first.linked rest.linked _ _ (value-entered head.index context state)
    (case-entered context.tree head arms.items first.value context first.after))
statement-parts (With head body) context state =
    let first = all_of (map record_walk head.records.items) context state in
    let rest = statement_walk body.value.0 context first.after in
    ap (λ numbers. head.number ∷ numbers)
    (and_then first.linked rest.linked _ _ (all-entered record_walk entries_of_record record-entered head.records.items context state)
    (body.value.1 context first.after))

-- the use of a result enters nothing
result-silent : (result : Option FunctionResult) → Enters (result_use result) []
result-silent None context state = refl
result-silent (Some result) context state = refl

statement-entered : (s : Stmt) → Enters (statement_walk s) (entries_of_statement s)
statement-entered = ind-Stmt (λ s. Enters (statement_walk s) (entries_of_statement s))
    (λ x y is context state.
    ap (λ (walk : Walking (Unit {0})). numbers_of (walk context state).linked)
    (fold-roll-Stmt (Walking (Unit {0})) statement_step x ∙ ap (λ z. statement_step (map-Stmt Stmt (Walking (Unit {0})) statement_walk z)) (sym is))
    ∙ statement-parts y context state
    ∙ ap (λ z. statement_entries (map-Stmt Stmt (List ℕ) entries_of_statement z)) is
    ∙ sym (fold-roll-Stmt (List ℕ) statement_entries x))

-- the walk over a block
pub block-entered : (number : ℕ) (block : Block) → Enters (block_walk number block) (entries_of_block block)
block-entered number block context state =
    let inside : Context = record context { block = number } in
    let claims = block_claims_at context.blocks number in
    let begun = block_start context.version context.tree number claims.entry in
    let body = statement_walk block.body inside begun in
    let used = result_use block.heading.result inside body.after in
    let silent : numbers_of (used.linked ++ []) ≡ [] = and_no_more used.linked [] [] (result-silent block.heading.result inside body.after) refl in
    and_no_more body.linked (used.linked ++ []) (entries_of_block block) (statement-entered block.body inside begun) silent

-- and that over blocks
blocks-entered : (number : ℕ) (blocks : List Block) → Enters (blocks_walk number blocks) (flat_map entries_of_block blocks)
blocks-entered number [] context state = refl
blocks-entered number (block ∷ blocks) context state =
    let first = block_walk number block context state in
    let rest = blocks_walk (suc number) blocks context first.after in
    and_then first.linked rest.linked _ _ (block-entered number block context state) (blocks-entered (suc number) blocks context first.after)

-- and that over a program
pub program-entered : (tree : Tree) (certificate : Certificate) → numbers_of (program_walk tree certificate).linked ≡ entries_of tree
program-entered tree certificate = blocks-entered 0 tree.blocks.items (first_context tree certificate) Dead

pub links_entries : (tree : Tree) (certificate : Certificate) → LinksEntries tree certificate
links_entries tree certificate = record { of_block = block-entered; of_program = program-entered tree certificate }
