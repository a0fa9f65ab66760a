-- The walk of the checker over a program, one equation a form: the state after it, the sites that it leaves open, the
-- rules that are broken, and the state at each entry into a statement or expression (ISO 7185:1990, 6.7 to 6.9).
-- It does not say that a program does what the walk says of it.
use Rattle.std.specs.Prelude.{ℕ, suc, ℤ, drop, slice_get, Bool, true, false, List, [], ◌∷◌, ◌++◌, Option, Some}
use Rattle.std.specs.Prelude.{None, if◌then◌else◌, map, length, ◌-◌, ◌&&◌, not}
use Rattle.std.specs.declared.alloc.Global.{Global}
use Rattle.std.specs.declared.boxed.Box.{Box}
use Rattle.std.specs.declared.vec.Vec.{Vec}
use Rattle.place.specs.declared.Place.{Place}
use Rattle.certificate.specs.Contents.{is_empty}
use Rattle.certificate.specs.declared.Certificate.{Certificate}
use Rattle.typed_tree.specs.declared.site.Point.{Point}
use Rattle.typed_tree.specs.declared.tree.Tree.{Tree}
use Rattle.typed_tree.specs.declared.tree.Block.{Block}
use Rattle.typed_tree.specs.declared.tree.Assignment.{Assignment}
use Rattle.typed_tree.specs.declared.tree.CaseHead.{CaseHead}
use Rattle.typed_tree.specs.declared.tree.Copying.{Copying}
use Rattle.typed_tree.specs.declared.tree.ForHead.{ForHead}
use Rattle.typed_tree.specs.declared.tree.LoopHead.{LoopHead}
use Rattle.typed_tree.specs.declared.tree.ReadVariable.{ReadVariable}
use Rattle.typed_tree.specs.declared.tree.Selector.{Selector}
use Rattle.typed_tree.specs.declared.tree.Selector.TheVariants.{Element}
use Rattle.typed_tree.specs.declared.tree.FunctionResult.{FunctionResult}
use Rattle.typed_tree.specs.declared.tree.WithHead.{WithHead}
use Rattle.typed_tree.specs.declared.tree.WithRecord.{WithRecord}
use Rattle.typed_tree.specs.declared.tree.Expr.{Expr}
use Rattle.typed_tree.specs.declared.tree.Stmt.{Stmt}
use Rattle.typed_tree.specs.declared.tree.Stmt.TheOpen.{Stmt-F}
use Rattle.typed_tree.specs.declared.tree.Stmt.TheOpen.Stmt-F.{Empty, Assign, Write, Compound, If, While, Repeat, For}
use Rattle.typed_tree.specs.declared.tree.Stmt.TheOpen.Stmt-F.{Case, Copy, Call, With, Read}
use Rattle.typed_tree.specs.declared.tree.Stmt.TheFolds.{fold-Stmt}
use Rattle.typed_tree.specs.Accesses.{Origin, origin_of, root_of, steps_of}
use Rattle.domain.specs.Interval.{Interval, common}
use Rattle.domain.specs.Versions.{has}
use Rattle.domain.specs.declared.versions.Extension.TheVariants.{Boxes, Growths, Sides}
use Rattle.domain.specs.Numbers.{hull, is_covered}
use Rattle.domain.specs.Facts.{Fact}
use Rattle.checker_state.specs.Bounds.{Bound}
use Rattle.checker_state.specs.declared.value.Known.{Known}
use Rattle.checker_rows.specs.Limits.{limits_of}
use Rattle.checker_state.specs.State.{Dead, State, has_number, range_of, unless_empty}
use Rattle.checker_state.specs.Joins.{joined_states}
use Rattle.checker_state.specs.Stores.{Index, Reach, all_stored}
use Rattle.checker_state.specs.Changes.{assigned}
use Rattle.checker_state.specs.Conditions.{bound_form, branched}
use Rattle.checker_state.specs.Growths.{without_turns}
use Rattle.checker_state.specs.Loops.{with_undefined}
use Rattle.checker_state.specs.Values.{known_range}
use Rattle.checker_rows.specs.Rows.{is_ordinal_variable, rows_accessed, rows_of, type_at}
use Rattle.checker_loops.specs.Cases.{arm_start, constants_before}
use Rattle.checker_loops.specs.Growths.{Turns, all_can_begin, all_have_turned, growths_begun, turns_of}
use Rattle.checker_loops.specs.Loops.{Round, all_claims, claims_at, gives_claims}
use Rattle.checker_loops.specs.Loops.{head_of, round_of, touched, with_own}
use Rattle.checker_state.specs.State.{table_of}
use Rattle.checker_loops.specs.Ways.{End, Way, entered, met, steady, turn_begun, turn_ended, way_of, way_out}
use Rattle.checker_loops.specs.Ways.{where_counts, with_values}
use Rattle.checker_loops.specs.Pairs.{aliases_in}
use Rattle.checker_loops.specs.Sections.{BlockClaims, all_block_claims, all_pairs, block_claims_at}
use Rattle.checker_loops.specs.Starts.{block_start}
use Rattle.checker_loops.specs.Aliases.{Stored, reach_unless_alias, unless_alias, with_aliases_stored}
use Rattle.checker_expressions.specs.declared.fault.Rule.{Rule}
use Rattle.checker_expressions.specs.declared.noting.Noted.{Noted}
use Rattle.checker_expressions.specs.declared.fault.Rule.TheVariants.{LoopEntry, LoopTurn, Exit, Changes}
use Rattle.checker_expressions.specs.Walk.{Context, Piece, Walked, Walking, ◌>>=◌, access_walk, asked, call_walk}
use Rattle.checker_expressions.specs.Walk.{changed_by, enter, fitting, followed, give, index_pieces}
use Rattle.checker_expressions.specs.Walk.{left_open, piece_of, reach_before}
use Rattle.checker_expressions.specs.Walk.{may_change, parameter_walk, passed_piece_of, tested, value_walk, whole_walk}
use Rattle.checker_expressions.specs.Walk.{Valued, with_state, within}
use Rattle.checker_sides.specs.Sides.{sided}
use Rattle.cert_checker.specs.Steps.{entire_variable, noted_where, value_step}

-- a variable is changed at a place: each loop round the place lists it, and so does the block, if need be
abbrev pub change : Place → ℕ → Walking (Unit {0})
change place root context = asked (may_change context root) Changes place context

-- the aliases of a variable that are visible in the block
abbrev pub aliases_here : Context → ℕ → List ℕ
aliases_here context root = aliases_in context.pairs context.block root

-- what is known before a store to a variable of the aliases that may have what is stored
abbrev pub with_aliases : Context → ℕ → List Stored → State → State
with_aliases context root stored state =
    with_aliases_stored context.tree (aliases_here context root) stored state

-- an ordinal or a set of a variable's type
abbrev pub stored_in : Context → ℕ → Interval → Stored
stored_in context root range = record { type_id = type_at (rows_of context.tree) root; range = range }

-- the assignment of a value to a variable, perhaps of a bound form, and perhaps a step: its number lies in a range, or
-- its members do
abbrev pub assign : ℕ → Option Bound → (step : Option Interval) → Interval → Walking (Unit {0})
assign root form step range context =
    changed_by
    (λ state. assigned root range (unless_alias (aliases_here context root) form) step
    (with_aliases context root (stored_in context root range ∷ []) state)) context

-- the rows of a variable that get values, each with their range
abbrev pub Stores : Type 0
Stores = List (ℕ × Interval)

-- ordinals and sets of the types of rows
abbrev pub stored_in_rows : Context → Stores → List Stored
stored_in_rows context stores =
    map (λ one. record { type_id = type_at (rows_of context.tree) one.0; range = one.1 }) stores

-- values are stored to what is reached of a variable
abbrev pub stores_made : ℕ → Reach → Stores → Walking (Unit {0})
stores_made root reach stores context =
    changed_by
    (λ state. all_stored (reach_unless_alias (aliases_here context root) reach) stores
    (with_aliases context root (stored_in_rows context stores) state)) context

-- values are stored at a place
abbrev pub store_to : Place → ℕ → Reach → Stores → Walking (Unit {0})
store_to place root reach stores = do
  _ ← change place root
  stores_made root reach stores

-- the rows under what is accessed
abbrev pub target_rows : Context → Origin → List Selector → List ℕ
target_rows context origin selectors = rows_accessed context.tree origin selectors

-- the same range for each row
abbrev pub alike : Interval → List ℕ → Stores
alike range rows = map (λ row. (row, range)) rows

-- the assignment of a value to a component
abbrev pub assign_component : Place → Origin → List Selector → Reach → Interval → Walking (Unit {0})
assign_component place origin selectors reach range context =
    store_to place (root_of origin) reach (alike range (target_rows context origin selectors)) context

-- the assignment of a value to a variable as a whole
abbrev pub assign_entire : Place → ℕ → Option Bound → (step : Option Interval) → Interval → Walking (Unit {0})
assign_entire place root form step range = do
  _ ← change place root
  assign root form step range

-- a variable is accessed as a whole: no step leads on from it
abbrev pub is_whole_variable : Origin → List Selector → Bool
is_whole_variable origin selectors = is_empty (steps_of origin) && is_empty selectors

-- the assignment of a value to what is accessed: only of a variable as a whole it may be a step
abbrev pub assign_to : Place → Origin → List Selector → Reach → Option Bound → (step : Option Interval) → Interval
    → Walking (Unit {0})
assign_to place origin selectors reach form step range = if is_whole_variable origin selectors
    then assign_entire place (root_of origin) form step range
    else assign_component place origin selectors reach range

-- rows with their ranges
abbrev pub paired : List ℕ → List Interval → Stores
paired [] ranges = []
paired (row ∷ rows) [] = []
paired (row ∷ rows) (range ∷ ranges) = (row, range) ∷ paired rows ranges

-- components of these ranges are copied to what is accessed
abbrev pub copy_to : Place → Origin → List Selector → Reach → List Interval → Walking (Unit {0})
copy_to place origin selectors reach ranges context =
    store_to place (root_of origin) reach (paired (target_rows context origin selectors) ranges) context

-- the start of a block of a number, of which these facts are claimed
abbrev pub begin : ℕ → List Fact → Walking (Unit {0})
begin number facts context = with_state (block_start context.version context.tree number facts) context

-- statements, values that are written, variables that are read, or records of a with, one after another
abbrev pub all_of : List (Walking (Unit {0})) → Walking (Unit {0})
all_of [] = give tt
all_of (statement ∷ statements) = do
  _ ← statement
  all_of statements

-- a selector is an index; the last one is
abbrev pub is_index : Option Selector → Bool
is_index (Some (Element fits cells)) = true
is_index selector = false

abbrev pub ends_at_index : List Selector → Bool
ends_at_index selectors = is_index (slice_get selectors (length selectors - 1))

-- there is an index
abbrev pub is_some_index : List Index → Bool
is_some_index [] = false
is_some_index (index ∷ indexes) = true

-- what is reached where these selectors are stored to: a component of an element isn't all that there is of an index
abbrev pub reach_of_store : List Selector → Reach → Reach
reach_of_store selectors reach = if is_some_index reach.indexes && not (ends_at_index selectors)
    then record reach { is_all = false } else reach

-- the same, where expressions were evaluated behind the access; in a version with boxes a component of each element
-- counts by itself
abbrev pub reach_stored : Context → List Selector → List Piece → Reach → Reach
reach_stored context selectors later reach = if has context.version Boxes then reach_before context later reach
    else reach_of_store selectors (reach_before context later reach)

-- a piece from its entry on
abbrev pub from_entry : ℕ → Walking (Unit {0}) → Walking (Unit {0})
from_entry number walking = do
  _ ← enter number
  walking

-- what is accessed gets the value of an expression, of which this was noted and is known
abbrev pub assign_value : Assignment → Reach → List Noted → Known → Walking (Unit {0})
assign_value assignment reach notes known context =
    assign_to assignment.becomes (origin_of assignment.target) assignment.target.selectors.items reach
    (bound_form (is_ordinal_variable context.tree) context.version assignment.value)
    (value_step context.tree (root_of (origin_of assignment.target)) assignment.value notes) (known_range known) context

-- an assignment: the target is accessed, and then comes the value
abbrev pub assignment_walk : Assignment → Walking (Unit {0})
assignment_walk assignment =
    let target = assignment.target in do
      reach ← access_walk target (index_pieces assignment.indexes.items)
      valued ← noted_where Growths assignment.value
      passed ← fitting assignment.fits valued.known
      λ context. assign_value assignment
          (reach_stored context target.selectors.items (piece_of assignment.value ∷ []) reach) valued.noted passed
          context

-- an assignment of a whole value: the target is accessed, and then come the components, one after another
abbrev pub copying_walk : Copying → Walking (Unit {0})
copying_walk copying =
    let target = copying.target in
    let later = index_pieces copying.value_indexes.items in do
      reach ← access_walk target (index_pieces copying.indexes.items)
      ranges ← whole_walk copying.value later
      λ context. copy_to copying.becomes (origin_of target) target.selectors.items
          (reach_stored context target.selectors.items later reach) ranges context

-- the place of a point of a program, or else another
abbrev pub place_or : Place → Option Point → Place
place_or other None = other
place_or other (Some point) = point.place

abbrev pub point_place : Tree → ℕ → Place → Place
point_place tree number other = place_or other (slice_get tree.points.items number)

-- what is accessed gets any value of its type, at the point where it is read
abbrev pub read_value : Place → ReadVariable → Reach → Walking (Unit {0})
read_value name one reach context =
    assign_to (point_place context.tree one.point name) (origin_of one.access) one.access.selectors.items
    (reach_stored context one.access.selectors.items [] reach) None None (limits_of one.range) context

-- a variable that is read by a procedure whose name stands at a place: it is accessed, and then it gets its value
abbrev pub read_walk : Place → ReadVariable → Walking (Unit {0})
read_walk name one = do
  reach ← access_walk one.access (index_pieces one.indexes.items)
  read_value name one reach

-- two pieces of which a run takes one, each walked from its own state; behind them the states are joined
abbrev pub either_of : Context → Walked (Unit {0}) → Walked (Unit {0}) → Walked (Unit {0})
either_of context one other =
    record (followed one other) { after = joined_states (table_of context.tree) one.after other.after }

-- a condition: its operands are noted where they tell something of one another
abbrev pub condition_walk : Expr → Walking Valued
condition_walk = noted_where Sides

-- the state of a program where a condition has a truth value
abbrev pub where_so : Tree → Bool → Expr → Valued → State → State
where_so tree truth condition valued state =
    sided tree truth condition valued.noted
    (branched (is_ordinal_variable tree) truth condition (known_range valued.known) state)

-- two ways from a state, each of them taken from what is known there
abbrev pub parted : (one_state other_state : State → State) → (one other : Walking (Unit {0})) → Walking (Unit {0})
parted one_state other_state one other context state =
    either_of context (one context (one_state state)) (other context (other_state state))

-- what is executed where a condition is true, and what is where it is false
abbrev pub branches : Tree → Expr → (consequence alternative : Walking (Unit {0})) → Valued → Walking (Unit {0})
branches tree condition consequence alternative valued =
    parted (where_so tree true condition valued) (where_so tree false condition valued) consequence alternative

-- a conditional statement: the condition, and then one of its branches
abbrev pub choice_walk : Expr → (consequence alternative : Walking (Unit {0})) → Walking (Unit {0})
choice_walk condition consequence alternative = do
  valued ← condition_walk condition
  λ context. branches context.tree condition consequence alternative valued context

-- the statement behind `else`, or nothing where there is none
abbrev pub alternative_walk : Option (Box (Walking (Unit {0})) Global) → Walking (Unit {0})
alternative_walk None = give tt
alternative_walk (Some statement) = statement.value

-- the state here
abbrev pub here : Walking State
here context state = give state context state

-- a round of a loop: it ends where another round follows, and gives the state where none does

-- a round of a while: the condition, and then perhaps the body
abbrev pub while_round : Tree → Expr → Walking (Unit {0}) → Walking State
while_round tree condition body = do
  valued ← condition_walk condition
  tested ← here
  _ ← with_state (where_so tree true condition valued tested)
  _ ← body
  give (where_so tree false condition valued tested)

-- a round of a repeat: the body, and then the condition, which ends it
abbrev pub repeat_round : Tree → Walking (Unit {0}) → Expr → Walking State
repeat_round tree body condition = do
  _ ← body
  valued ← condition_walk condition
  tested ← here
  _ ← with_state (where_so tree false condition valued tested)
  give (where_so tree true condition valued tested)

-- the facts of a loop are given at a point
abbrev pub facts_given : Rule → Place → List Fact → Walking (Unit {0})
facts_given rule place facts context state = asked (gives_claims context.tree state facts) rule place context state

-- the state at the head of a loop, where a turn begins
abbrev pub enter_head : Round → List Fact → Walking (Unit {0})
enter_head round facts context state =
    with_state (head_of context.tree round facts state) context state

-- inside a loop
abbrev pub inside : {A : Type 0} → Round → Walking A → Walking A
inside round walking context = walking (record context { rounds = context.rounds ++ round ∷ [] })

-- a loop with the place of its first word, at its head and round its body: its facts are given where it is entered and
-- after each turn, and from its head one round is walked
abbrev pub loop_by : Place → (at_head round_body : Round) → List Fact → Walking State → Walking (Unit {0})
loop_by place at_head round_body facts walking = do
  _ ← facts_given LoopEntry place facts
  _ ← enter_head at_head facts
  behind ← inside round_body walking
  _ ← facts_given LoopTurn place facts
  with_state behind

-- the loop of a number, and of a control variable, if it is a for statement
abbrev pub loop_walk : ℕ → Place → Option ℕ → Walking State → Walking (Unit {0})
loop_walk number place control walking context =
    let loop = round_of context.tree context.pairs context.claims number in
    loop_by place (with_own control loop) loop (claims_at context.claims number).facts walking context

-- a while, and a repeat
abbrev pub while_walk : LoopHead → Walking (Unit {0}) → Walking (Unit {0})
while_walk head body context =
    loop_walk head.loop_number head.place None (while_round context.tree head.condition body) context

abbrev pub repeat_walk : LoopHead → Walking (Unit {0}) → Walking (Unit {0})
repeat_walk head body context =
    loop_walk head.loop_number head.place None (repeat_round context.tree body head.condition) context

-- ---- for statements

-- the test of a bound: where its value lies that passes
abbrev pub tested_end : State → End → Walking Interval
tested_end start end = within (limits_of end.fits.range) end.fits.site (met end.form start end.values)

-- the tests of both bounds, by what is known where there are values
abbrev pub tested_way : Way → Walking Way
tested_way way = do
  start ← here
  first ← tested_end start way.first
  last ← tested_end start way.last
  give (with_values first last way)

-- the way through the loop of a number, whose turns leave the forms of untouched bounds as they are
abbrev pub steady_in : Context → ℕ → Way → Way
steady_in context number way =
    steady (touched (with_own (Some way.control) (round_of context.tree context.pairs context.claims number))) way

-- what its turns go by
abbrev pub turns_in : Context → ℕ → Way → Turns
turns_in context number way =
    turns_of context.rounds
    (with_own (Some way.control) (round_of context.tree context.pairs context.claims number)) way

-- growths that are claimed are given before the first turn
abbrev pub growths_entered : Place → List Fact → Walking (Unit {0})
growths_entered place facts context state = asked (all_can_begin state facts) LoopEntry place context state

-- where a turn begins variables grow
abbrev pub turn_from : Turns → List Fact → Way → Walking (Unit {0})
turn_from turns facts way context =
    changed_by (λ state. growths_begun context.tree turns facts (turn_begun way state)) context

-- growths are given where a turn ends and another follows; then nothing is known of them
abbrev pub turn_to : Turns → Place → List Fact → Way → Walking (Unit {0})
turn_to turns place facts way = do
  _ ← changed_by (turn_ended way)
  _ ← λ context state. asked (all_have_turned turns state facts) LoopTurn place context state
  changed_by (without_turns turns.depth)

-- a round of a for: a turn, and then the control variable is the last bound, or has its next value; behind it nothing
-- is known to grow with these turns
abbrev pub for_round : Turns → Place → List Fact → Way → Walking (Unit {0}) → Walking State
for_round turns place facts way body = do
  _ ← turn_from turns facts way
  _ ← body
  ended ← here
  _ ← turn_to turns place facts way
  give (way_out way (without_turns turns.depth ended))

-- the rounds of a for on a way: growths are given before the first
abbrev pub rounds_by : ForHead → Turns → List Fact → Way → Walking (Unit {0}) → Walking (Unit {0})
rounds_by head turns facts way body = do
  _ ← growths_entered head.place facts
  loop_walk head.loop_number head.place (Some way.control) (for_round turns head.place facts way body)

-- the rounds of a for, from its control variable's first value
abbrev pub rounds_of : ForHead → Walking (Unit {0}) → Way → Walking (Unit {0})
rounds_of head body way context =
    rounds_by head (turns_in context head.loop_number way) (claims_at context.claims head.loop_number).facts
    (steady_in context head.loop_number way) body context

-- the control variable is the first bound, where a first turn may begin
abbrev pub begin_way : Way → Walking (Unit {0})
begin_way way context state =
    assign way.control way.first.form None way.first.values context (entered way state)

-- a for where there are values: the bounds are tested, and the control variable is the first
abbrev pub for_turns : ForHead → Walking (Unit {0}) → Way → Walking (Unit {0})
for_turns head body way = do
  tested ← tested_way way
  _ ← begin_way tested
  rounds_of head body tested

-- a for, from the values of its bounds: behind it the control variable is undefined
abbrev pub for_walk : ForHead → Walking (Unit {0}) → Way → Walking (Unit {0})
for_walk head body way = do
  _ ← parted (where_counts true way) (where_counts false way)
      (for_turns head body way) (give tt)
  changed_by (with_undefined way.control)

-- a for: its bounds, and then the rest
abbrev pub bounds_walk : ForHead → Walking (Unit {0}) → Walking (Unit {0})
bounds_walk head body = do
  from ← value_walk head.first.value
  to ← value_walk head.last.value
  λ context. for_walk head body (way_of (is_ordinal_variable context.tree) context.version head from to) context

-- ---- case statements

-- no run goes on
abbrev pub no_more : Walking (Unit {0})
no_more = with_state Dead

-- the test of an index at a site: what is known where it is one of the constants; no way behind the statement is known
-- yet
abbrev pub index_test : ℕ → List ℤ → Interval → Walking State
index_test site constants range = do
  _ ← tested (is_covered range constants) site (common range (hull constants))
  base ← here
  _ ← no_more
  give base

-- an arm, from what is known where it is executed; behind it the way meets those through the arms before
abbrev pub arm_walk : State → Walking (Unit {0}) → Walking (Unit {0})
arm_walk start arm context behind =
    record (arm context start) { after = joined_states (table_of context.tree) behind (arm context start).after }

-- the arms, one after another, by the rows of constants
abbrev pub arms_walk : State → Option ℕ → List (Vec ℤ Global) → List (Walking (Unit {0})) → Walking (Unit {0})
arms_walk base index rows [] = give tt
arms_walk base index rows (arm ∷ arms) = do
  _ ← arm_walk (arm_start index (slice_get rows 0) base) arm
  arms_walk base index (drop 1 rows) arms

-- the variable of a program that an index is, if it is an ordinal one
abbrev pub index_root : Tree → CaseHead → Option ℕ
index_root tree head = entire_variable tree head.index

-- a case, from the value of its index
abbrev pub case_walk : Tree → CaseHead → List (Walking (Unit {0})) → Known → Walking (Unit {0})
case_walk tree head arms known = do
  base ← index_test head.site (constants_before (length arms) head.constants.items) (known_range known)
  arms_walk base (index_root tree head) head.constants.items arms

-- a case: its index, and then an arm
abbrev pub index_walk : CaseHead → List (Walking (Unit {0})) → Walking (Unit {0})
index_walk head arms = do
  known ← value_walk head.index
  λ context. case_walk context.tree head arms known context

-- ---- with statements

-- a record of a with is accessed
abbrev pub record_walk : WithRecord → Walking (Unit {0})
record_walk one = do
  _ ← access_walk one.access (index_pieces one.indexes.items)
  give tt

-- a with: each record is accessed once, in their order (6.8.3.10), and then comes the body
abbrev pub with_walk : WithHead → Walking (Unit {0}) → Walking (Unit {0})
with_walk head body = do
  _ ← all_of (map record_walk head.records.items)
  body

-- one layer of a statement
abbrev pub statement_step : Stmt-F (Walking (Unit {0})) → Walking (Unit {0})
statement_step (Empty number) = enter number
statement_step (Assign assignment) = from_entry assignment.number (assignment_walk assignment)
statement_step (Copy copying) = from_entry copying.number (copying_walk copying)
statement_step (Write writing) = from_entry writing.number (all_of (map parameter_walk writing.parameters.items))
statement_step (Read reading) =
    from_entry reading.number (all_of (map (read_walk reading.name) reading.variables.items))
statement_step (Call calling) = call_walk calling.call (map passed_piece_of calling.actuals.items)
statement_step (Compound number statements) = from_entry number (all_of statements.items)
statement_step (If number condition consequence alternative) =
    from_entry number (choice_walk condition consequence.value (alternative_walk alternative))
statement_step (While head body) = from_entry head.number (while_walk head body.value)
statement_step (Repeat head statements) = from_entry head.number (repeat_walk head (all_of statements.items))
statement_step (For head body) = from_entry head.number (bounds_walk head body.value)
statement_step (Case head arms) = from_entry head.number (index_walk head arms.items)
statement_step (With head body) = from_entry head.number (with_walk head body.value)

-- the walk over a statement
abbrev pub statement_walk : Stmt → Walking (Unit {0})
statement_walk = fold-Stmt (Walking (Unit {0})) statement_step

-- where a function ends: it has a result, if that is defined; no run goes on from an empty range of it
abbrev pub result_use : Option FunctionResult → Walking (Unit {0})
result_use None context state = give tt context state
result_use (Some result) context state = record {
  value = tt;
  after = unless_empty (range_of state result.root) state;
  open_ids = left_open (has_number (table_of context.tree) state result.root) result.defined;
  broken = [];
  linked = [];
}

-- the walk over a block of a number, by the claims on it: from its start to its end, where its exit facts are given
abbrev pub block_walk_by : ℕ → Block → BlockClaims → Walking (Unit {0})
block_walk_by number block claims = do
  _ ← begin number claims.entry
  _ ← statement_walk block.body
  _ ← result_use block.heading.result
  facts_given Exit block.end claims.exit

-- the same by the claims on all blocks
abbrev pub block_walk : ℕ → Block → Walking (Unit {0})
block_walk number block context =
    block_walk_by number block (block_claims_at context.blocks number) (record context { block = number })

-- the walk over these blocks, of which the first has this number
abbrev pub blocks_walk : ℕ → List Block → Walking (Unit {0})
blocks_walk number [] = give tt
blocks_walk number (block ∷ blocks) = do
  _ ← block_walk number block
  blocks_walk (suc number) blocks

-- what the walk over a program by a certificate goes by
abbrev pub first_context : Tree → Certificate → Context
first_context tree certificate = record {
  version = certificate.version;
  tree = tree;
  claims = all_claims tree certificate;
  blocks = all_block_claims tree certificate;
  pairs = record { tree = tree; pairs = all_pairs certificate };
  block = 0;
  rounds = [];
}

-- the walk over a program by a certificate, block by block
abbrev pub program_walk : Tree → Certificate → Walked (Unit {0})
program_walk tree certificate = blocks_walk 0 tree.blocks.items (first_context tree certificate) Dead
