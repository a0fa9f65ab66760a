-- What the work that an interpreter has still to do means: from its operands and the state, the topmost first.
-- It says nothing of how many steps the work takes.
use Rattle.std.specs.Prelude.{◌≡◌, ◌+◌, ◌^◌, ◌<◌, ◌≤◌, zero, suc, ℕ, ℤ, pos, Bool, List, [], ◌∷◌, Option, Some, None}
use Rattle.std.specs.Prelude.{Result, Ok, Err, Vec, IfOk}
use Rattle.std.specs.Prelude.{if◌then◌else◌, length, map, reverse, slice_get}
use Rattle.std.specs.BTreeMap.{BTreeMap, get}
use Rattle.std.specs.declared.alloc.AllocError.{AllocError}
use Rattle.std.specs.declared.alloc.Global.{Global}
use Rattle.std.specs.declared.boxed.Box.{Box}
use Rattle.types.specs.declared.form.Step.{Step}
use Rattle.types.specs.declared.form.Step.TheVariants as step
use Rattle.types.specs.Components.{components_of}
use Rattle.types.specs.declared.form.OrdinalRange.{OrdinalRange}
use Rattle.typed_tree.specs.declared.tree.Tree.{Tree}
use Rattle.typed_tree.specs.declared.tree.Block.{Block}
use Rattle.typed_tree.specs.declared.tree.Call.{Call}
use Rattle.typed_tree.specs.declared.tree.Designator.{Designator}
use Rattle.typed_tree.specs.declared.tree.Designator.TheVariants.{Single, Range}
use Rattle.typed_tree.specs.declared.tree.Passed.{Passed}
use Rattle.typed_tree.specs.declared.tree.WriteParameter.{WriteParameter}
use Rattle.typed_tree.specs.declared.tree.Access.{Access}
use Rattle.typed_tree.specs.declared.tree.Selector.{Selector}
use Rattle.typed_tree.specs.declared.tree.Assignment.{Assignment}
use Rattle.typed_tree.specs.declared.tree.Copying.{Copying}
use Rattle.typed_tree.specs.declared.tree.ForHead.{ForHead}
use Rattle.typed_tree.specs.declared.tree.LoopHead.{LoopHead}
use Rattle.typed_tree.specs.declared.tree.ProcedureCall.{ProcedureCall}
use Rattle.typed_tree.specs.declared.tree.RangeTest.{RangeTest}
use Rattle.typed_tree.specs.declared.tree.ReadVariable.{ReadVariable}
use Rattle.typed_tree.specs.declared.tree.InputTest.{InputTest}
use Rattle.typed_tree.specs.declared.tree.Expr.{Expr}
use Rattle.typed_tree.specs.declared.tree.Stmt.{Stmt}
use Rattle.typed_tree.specs.declared.tree.Whole.{Whole}
use Rattle.typed_tree.specs.declared.tree.Relation.{Relation}
use Rattle.typed_tree.specs.declared.tree.Representation.{Representation}
use Rattle.typed_tree.specs.declared.tree.Width.{Width}
use Rattle.typed_tree.specs.declared.tree.WithRecord.{WithRecord}
use Rattle.typed_tree.specs.Accesses.{origin_of}
use Rattle.typed_tree.specs.WellFormed.{length_of}
use Rattle.meaning.specs.declared.outcome.Ending.{Ending}
use Rattle.meaning.specs.declared.value.Value.{Value}
use Rattle.meaning.specs.declared.value.Value.TheVariants.{Number, Members}
use Rattle.interpreter_state.specs.Answers.{positive, value_before}
use Rattle.interpreter_state.specs.declared.activation.Activation.{Activation as KeptActivation}
use Rattle.interpreter_state.specs.declared.store.Place.{Place as KeptPlace}
use Rattle.interpreter_state.specs.declared.work.Caller.{Caller}
use Rattle.interpreter_state.specs.declared.work.Caller.TheVariants as caller
use Rattle.interpreter_state.specs.declared.work.Rounds.TheVariants.{Between, Behind}
use Rattle.interpreter_state.specs.declared.work.Work.{Work}
use Rattle.interpreter_state.specs.declared.work.Work.TheVariants as work
use Rattle.interpreter_state.specs.contracts.store.PlaceOrd.TheImpl.{ghosts as places}
use Rattle.interpreter_state.specs.Views.{left_in, operand_seen, place_of, place_seen, records_in, row_in, value_in}
use Rattle.interpreter_state.specs.Views.{visible_in}
use Rattle.interpreter.specs.declared.interpreter.Run.{Run}
use Rattle.meaning.specs.Store.{Environment, Place, Store, held, kept, part, stored}
use Rattle.meaning.specs.Effect.{State, Reply, Gives, Stops, Action, Round, ◌>>=◌, give, stop, require, enter, use_turn}
use Rattle.meaning.specs.Effect.{another, fetch, fetch_all, looped, number_of, store, store_all, undefine, write, is_in}
use Rattle.meaning.specs.Effect.{end_with, members_of, row_text, text_of}
use Rattle.meaning.specs.Meaning.{Argument, OfValue, OfPlace, OfRow, Surroundings, Combination, Execution, Passing}
use Rattle.meaning.specs.Integers.{truth}
use Rattle.meaning.specs.Meaning.{activated, begun, calls_of, ended, operated, compared, passing_of}
use Rattle.meaning.specs.Meaning.{opened, operated_both, with_one, with_range, with_record}
use Rattle.meaning.specs.Meaning.{place_passed, result_of, run_of}
use Rattle.meaning.specs.Meaning.{default_width, link_of, selected, value_of, values_of, whole_of}
use Rattle.meaning.specs.Meaning.{effect_of, all_of, width_of, parameter_of, line_ended, is_so, turn_if, while_round}
use Rattle.meaning.specs.Meaning.{repeat_round, for_between, for_turn, arm_of, asked, line_passed, read_as, read_of}
use Rattle.meaning.specs.Meaning.{unless_outside, within_for}

-- what is done with the operands, the topmost first, and the state
abbrev pub Resumption : Type 0
Resumption = List Argument → Action (Unit {0})

-- the topmost operand
abbrev pub top_of : List Argument → Value
top_of [] = Number (pos 0)
top_of (top ∷ below) = value_in top

abbrev pub top_place : List Argument → Option Place
top_place [] = None
top_place (top ∷ below) = place_passed top

abbrev pub top_row : List Argument → List Value
top_row [] = []
top_row (top ∷ below) = row_in top

abbrev pub top_in_hand : List Argument → Argument
top_in_hand [] = OfValue (Number (pos 0))
top_in_hand (top ∷ below) = top

-- the operands below it
abbrev pub below_top : List Argument → List Argument
below_top [] = []
below_top (top ∷ below) = below

-- takes the topmost operand
abbrev pub with_top : (Value → Resumption) → Resumption
with_top next operands = next (top_of operands) (below_top operands)

abbrev pub with_place : (Option Place → Resumption) → Resumption
with_place next operands = next (top_place operands) (below_top operands)

abbrev pub with_row : (List Value → Resumption) → Resumption
with_row next operands = next (top_row operands) (below_top operands)

-- goes on with what an action gives as the topmost operand
abbrev pub giving : Action Value → Resumption → Resumption
giving action next operands = action >>= λ v. next (OfValue v ∷ operands)

abbrev pub giving_number : Action ℤ → Resumption → Resumption
giving_number action next operands = action >>= λ n. next (OfValue (Number n) ∷ operands)

abbrev pub giving_place : Action (Option Place) → Resumption → Resumption
giving_place action next operands = action >>= λ place. next (OfPlace place ∷ operands)

abbrev pub giving_row : Action (List Value) → Resumption → Resumption
giving_row action next operands = action >>= λ row. next (OfRow row ∷ operands)

-- the operators of a chain, from left to right, whose value so far is the topmost operand
abbrev pub linking : Surroundings → List Combination → Resumption → Resumption
linking env [] next operands = next operands
linking env (link ∷ links) next operands = with_top (λ v. giving (link env v) (linking env links next)) operands

-- the line end of a writeln, and then the rest
abbrev pub line_ending : Bool → Resumption → Resumption
line_ending ends_line next operands = do
  _ ← line_ended ends_line
  next operands

-- the line end of a readln, and then the rest
abbrev pub line_passing : Option ℕ → Resumption → Resumption
line_passing point next operands = do
  _ ← line_passed point
  next operands

-- a variable is read whose place is known
abbrev pub read_at : ReadVariable → Option Place → Action (Unit {0})
read_at one place = do
  n ← read_as one.reads one.point
  _ ← unless_outside one.range one.point n
  store place (Number n)

-- what is asked of the input is the topmost operand, and then comes the rest
abbrev pub asking : InputTest → Resumption → Resumption
asking asks next operands = do
  b ← asked asks
  next (OfValue (Number (truth b)) ∷ operands)

-- the run goes on, or it ends so
abbrev pub or_end : Bool → Ending → Action (Unit {0})
or_end goes_on ending = if goes_on then give tt else stop ending

-- a value is stored, if it lies in a range; else the run ends so
abbrev pub keeping : Option Place → Value → OrdinalRange → Ending → Resumption → Resumption
keeping place v range ending next operands = do
  _ ← or_end (is_in range v) ending
  _ ← store place v
  next operands

-- the statement behind `else`, or nothing where there is none
abbrev pub otherwise : Option (Box Stmt Global) → Execution
otherwise None env = give tt
otherwise (Some statement) env = effect_of statement.value env

-- the statement of an if that a truth value chooses
abbrev pub chosen : Bool → Stmt → Option (Box Stmt Global) → Execution
chosen so consequence alternative env = if so then effect_of consequence env else otherwise alternative env

-- the rounds that follow on one that was begun
abbrev pub further : {A : Type 0} → Round A → Action (Option A) → Action (Unit {0})
further round begun = begun >>= λ more. another more (looped round)

-- the rounds of a while, and of a repeat
abbrev pub while_rounds : Surroundings → LoopHead → Stmt → Round (Unit {0})
while_rounds env head body = while_round (value_of head.condition) (effect_of body) env

abbrev pub repeat_rounds : Surroundings → LoopHead → List Stmt → Round (Unit {0})
repeat_rounds env head statements = repeat_round (all_of (map effect_of statements)) (value_of head.condition) env

-- the rounds of a for, by its first value, with values that haven't passed the last one
abbrev pub counting : Surroundings → ForHead → ℤ → ℤ → Stmt → Round ℤ
counting env head first last body n = do
  _ ← store (env.visible.variables head.control) (Number n)
  _ ← use_turn
  _ ← effect_of body (for_turn head first env n)
  give (value_before head.direction last n)

-- a place is undefined from here, and then the rest
abbrev pub forgetting : Option Place → Resumption → Resumption
forgetting place next operands = do
  _ ← undefine place
  next operands

-- a while, and then the rest
abbrev pub whiling : Surroundings → LoopHead → Stmt → Resumption → Resumption
whiling env head body next operands = do
  _ ← looped (while_rounds env head body) tt
  next operands

-- a repeat, and then the rest
abbrev pub repeating : Surroundings → LoopHead → List Stmt → Resumption → Resumption
repeating env head statements next operands = do
  _ ← looped (repeat_rounds env head statements) tt
  next operands

-- a for by its first value, from a value of its control variable on, and then the rest
abbrev pub counting_on : Surroundings → ForHead → ℤ → ℤ → ℤ → Stmt → Resumption → Resumption
counting_on env head first value last body next operands = do
  _ ← looped (counting env head first last body) value
  forgetting (env.visible.variables head.control) next operands

-- further rounds of a repeat, unless the topmost operand ends it, and then the rest
abbrev pub unless_so : Surroundings → LoopHead → List Stmt → Resumption → Resumption
unless_so env head statements next =
    with_top
    (λ v below. further (repeat_rounds env head statements) (give (if is_so v then None else Some tt))
    >>= λ _. next below)

-- the element of a place at an index, which is tested
abbrev pub indexed : RangeTest → Option Place → Value → Action (Option Place)
indexed fits place v = do
  _ ← require (is_in fits.range v) fits.site
  give (part place (step.Element (number_of v) ∷ []))

-- a relation, from its operator on
abbrev pub comparing : Surroundings → ℕ → Relation → Whole → List Expr → List Value → Action Value
comparing env number relation right indexes row = do
  _ ← enter number env.visible
  other ← whole_of right (values_of indexes) env
  give (Number (compared relation row other))

-- the selectors that lead on from the topmost place, and then the rest
abbrev pub selecting : Surroundings → List Selector → List Expr → Resumption → Resumption
selecting env [] indexes next = next
selecting env (selector ∷ selectors) indexes next =
    with_place (λ place. giving_place (selected (selector ∷ selectors) (values_of indexes) env place) next)

-- actual parameters, from left to right
abbrev pub passing : Surroundings → List Passing → Resumption → Resumption
passing env [] next operands = next operands
passing env (one ∷ others) next operands = one env >>= λ argument. passing env others next (argument ∷ operands)

-- a value that is passed, in the range of its formal parameter
abbrev pub tested : RangeTest → Value → Action Value
tested fits v = do
  _ ← require (is_in fits.range v) fits.site
  give v

-- the operands below so many
abbrev pub left_below : ℕ → List Argument → List Argument
left_below zero operands = operands
left_below (suc count) operands = below_top (left_below count operands)

-- so many operands, the topmost one last
abbrev pub taken_from : ℕ → List Argument → List Argument
taken_from zero operands = []
taken_from (suc count) operands = top_in_hand (left_below count operands) ∷ taken_from count operands

-- a routine is called with so many operands, and then comes the rest
abbrev pub activating : Surroundings → ℕ → ℕ → Resumption → Resumption
activating env block count next operands =
    giving (env.calls block (taken_from count operands) env.visible) next (left_below count operands)

-- goes on with the set that an action gives as the topmost operand
abbrev pub giving_set : Action ℕ → Resumption → Resumption
giving_set action next operands = action >>= λ set. next (OfValue (Members set) ∷ operands)

-- the topmost value, or all from the next one to it, are members of the set below as well
abbrev pub adding_one : ℕ → Resumption → Resumption
adding_one site next = with_top (λ v. with_top (λ set. giving_set (with_one site v (members_of set)) next))

abbrev pub adding_range : ℕ → Resumption → Resumption
adding_range site next =
    with_top (λ b. with_top (λ a. with_top (λ set. giving_set (with_range site a b (members_of set)) next)))

-- what designators give is added to the topmost set, and then comes the rest
abbrev pub gathering : Surroundings → List Designator → List Expr → Resumption → Resumption
gathering env [] members next = next
gathering env (Single site ∷ designators) [] next = next
gathering env (Single site ∷ designators) (member ∷ members) next =
    giving (value_of member env) (adding_one site (gathering env designators members next))
gathering env (Range site ∷ designators) [] next = next
gathering env (Range site ∷ designators) (first ∷ []) next = next
gathering env (Range site ∷ designators) (first ∷ last ∷ members) next =
    giving (value_of first env)
    (giving (value_of last env) (adding_range site (gathering env designators members next)))

-- the set that designators give is the topmost operand, and then comes the rest
abbrev pub constructing : Surroundings → List Designator → List Expr → Resumption → Resumption
constructing env designators members next operands =
    gathering env designators members next (OfValue (Members 0) ∷ operands)

-- the records of a with are accessed, then comes its statement in them, and then the rest
abbrev pub opening : Surroundings → List WithRecord → Stmt → Resumption → Resumption
opening env records body next operands = do
  inner ← opened records env
  _ ← effect_of body (record env { records = inner })
  next operands

-- a piece of work, and then the rest
abbrev pub resumed : Surroundings → Work → Resumption → Resumption
resumed env (work.Statements statements) next operands = do
  _ ← all_of (map effect_of statements.now) env
  next operands
resumed env (work.Statement statement) next operands = do
  _ ← effect_of statement.now env
  next operands
resumed env (work.Choose consequence alternative) next operands =
    with_top
    (λ v below. chosen (is_so v) consequence.now.value alternative.now env >>= λ _. next below)
    operands
resumed env (work.WhileTurn head body) next operands =
    with_top
    (λ v below. further (while_rounds env head.now body.now) (turn_if (is_so v) (effect_of body.now env))
    >>= λ _. next below)
    operands
resumed env (work.Unless head statements) next operands = unless_so env head.now statements.now.items next operands
resumed env (work.For head Between body) next operands =
    with_top
    (λ last rest. with_top
    (λ first below. for_between head.now (effect_of body.now) env (number_of first) (number_of last)
    >>= λ _. forgetting (env.visible.variables head.now.control) next below)
    rest)
    operands
resumed env (work.For head (Behind first value last) body) next operands = do
  _ ← further (counting env head.now first last body.now) (give (value_before head.now.direction last value))
  forgetting (env.visible.variables head.now.control) next operands
resumed env (work.Case head arms) next operands =
    with_top
    (λ v below. arm_of head.now.site head.now.constants.items (map effect_of arms.now.items) (number_of v) env
    >>= λ _. next below)
    operands
resumed env (work.Parameters parameters ends_line) next operands = do
  _ ← all_of (map parameter_of parameters.now) env
  line_ending ends_line next operands
resumed env (work.Variables variables line) next operands = do
  _ ← all_of (map read_of variables.now) env
  line_passing line next operands
resumed env (work.Read variable) next operands =
    with_place (λ place below. read_at variable.now place >>= λ _. next below) operands
resumed env (work.Width width representation) next operands =
    giving_number (width_of width.now (default_width representation) env) next operands
resumed env (work.WidthTest site) next operands =
    with_top (λ w. giving_number (positive site (number_of w)) next) operands
resumed env (work.Write representation) next operands =
    with_top
    (λ w rest. with_top
    (λ v below. write (text_of representation (number_of v) (number_of w)) >>= λ _. next below)
    rest)
    operands
resumed env work.WriteRow next operands =
    with_top (λ w rest. with_row (λ row below. write (row_text row (number_of w)) >>= λ _. next below) rest) operands
resumed env (work.WriteRowIn places) next operands =
    with_row (λ row below. write (row_text row (pos places)) >>= λ _. next below) operands
resumed env (work.Store fits) next operands =
    with_top
    (λ v rest. with_place
    (λ place below. require (is_in fits.range v) fits.site >>= λ _. store place v >>= λ _. next below)
    rest)
    operands
resumed env (work.StoreRow type_id) next operands =
    with_row
    (λ row rest. with_place
    (λ place below. store_all place (components_of env.visible.types type_id) row >>= λ _. next below)
    rest)
    operands
resumed env (work.Select selectors indexes) next operands = selecting env selectors.now indexes.now next operands
resumed env (work.Index fits) next operands =
    with_top
    (λ v rest. with_place
    (λ place. giving_place (indexed fits place v) next)
    rest)
    operands
resumed env (work.Fetch defined) next operands = with_place (λ place. giving (fetch place defined) next) operands
resumed env (work.Whole value indexes) next operands =
    giving_row (whole_of value.now (values_of indexes.now) env) next operands
resumed env (work.FetchRow type_id defined) next operands =
    with_place (λ place. giving_row (fetch_all place (components_of env.visible.types type_id) defined) next) operands
resumed env (work.Value expression) next operands = giving (value_of expression.now env) next operands
resumed env (work.Monadic operation) next operands =
    with_top (λ v. giving_number (operated operation (number_of v)) next) operands
resumed env (work.Links links) next operands = linking env (map link_of links.now) next operands
resumed env (work.Combine operation) next operands =
    with_top
    (λ right rest. with_top (λ left. giving (operated_both operation left right) next) rest)
    operands
resumed env (work.RightSide number relation right indexes) next operands =
    with_row (λ row. giving (comparing env number relation right.now indexes.now row) next) operands
resumed env (work.Compare relation) next operands =
    with_row (λ other rest. with_row (λ row. giving (give (Number (compared relation row other))) next) rest) operands
resumed env (work.Pass actuals) next operands = passing env (map passing_of actuals.now) next operands
resumed env (work.Test fits) next operands = with_top (λ v. giving (tested fits v) next) operands
resumed env (work.Activate block count) next operands = activating env block count next operands
resumed env work.Discard next operands = next (below_top operands)
resumed env (work.Gather designators members) next operands = gathering env designators.now members.now next operands
resumed env (work.AddMember site) next operands = adding_one site next operands
resumed env (work.AddRange site) next operands = adding_range site next operands
resumed env (work.With records body) next operands = opening env records.now body.now.value next operands
resumed env (work.Within records body) next operands =
    with_place (λ place. opening (with_record env place) records.now body.now.value next) operands

-- two values, a piece of work with them, and then the rest
abbrev pub evaluating : Surroundings → Expr → Expr → Work → Resumption → Resumption
evaluating env first second later next =
    giving (value_of first env) (giving (value_of second env) (resumed env later next))

-- a value is written, and then the rest
abbrev pub writing_one : Surroundings → WriteParameter → Resumption → Resumption
writing_one env parameter next operands = do
  _ ← parameter_of parameter env
  next operands

-- an ordinal is written, and then the rest
abbrev pub writing : Surroundings → Expr → Representation → Option Width → Resumption → Resumption
writing env value representation width next operands = do
  v ← value_of value env
  w ← width_of width (default_width representation) env
  _ ← write (text_of representation (number_of v) w)
  next operands

-- a string is written, and then the rest
abbrev pub writing_row : Surroundings → Whole → List Expr → Option Width → Resumption → Resumption
writing_row env value indexes width next operands = do
  row ← whole_of value (values_of indexes) env
  w ← width_of width (pos (length_of value)) env
  _ ← write (row_text row w)
  next operands

-- the place of an access that was entered, and then the rest
abbrev pub placing : Surroundings → Access → List Expr → Resumption → Resumption
placing env access indexes =
    giving_place (selected access.selectors.items (values_of indexes) env (begun (origin_of access) env))

-- the same, a piece of work with the place, and then the rest
abbrev pub accessing : Surroundings → Access → List Expr → Work → Resumption → Resumption
accessing env access indexes later next = placing env access indexes (resumed env later next)

-- the statement of a for in a turn behind so many, a piece of work, and then the rest
abbrev pub turning_inside : Surroundings → ℕ → Stmt → Work → Resumption → Resumption
turning_inside env finished body later next operands = do
  _ ← use_turn
  _ ← effect_of body (within_for env finished)
  resumed env later next operands

-- a piece of work in a turn, a condition and a piece of work with it, and then the rest
abbrev pub turning_tested : Surroundings → Work → Expr → Work → Resumption → Resumption
turning_tested env first condition second next operands = do
  _ ← use_turn
  resumed env first (giving (value_of condition env) (resumed env second next)) operands

-- the actual parameters of a call, its activation, and then the rest
abbrev pub calling : Surroundings → Call → List Passed → Resumption → Resumption
calling env call actuals next =
    passing env (map passing_of actuals) (activating env call.block (length actuals) next)

-- the place of a target and the value, which is stored there, and then the rest
abbrev pub assigning : Surroundings → Assignment → Resumption → Resumption
assigning env assignment next =
    placing env assignment.target assignment.indexes.items
    (giving (value_of assignment.value env) (resumed env (work.Store assignment.fits) next))

-- the same of a structured value
abbrev pub assigning_row : Surroundings → Copying → Resumption → Resumption
assigning_row env copying next =
    placing env copying.target copying.indexes.items
    (giving_row (whole_of copying.value (values_of copying.value_indexes.items) env)
    (resumed env (work.StoreRow copying.type_id) next))

-- a procedure, and then the rest
abbrev pub performing : Surroundings → ProcedureCall → Resumption → Resumption
performing env procedure next = calling env procedure.call procedure.actuals.items (resumed env work.Discard next)

-- what is pending in an activation, the next first, and what goes on behind it
abbrev pub pending_of : Surroundings → Resumption → List Work → Resumption
pending_of env outer [] operands = outer operands
pending_of env outer (work ∷ rest) operands = resumed env work (pending_of env outer rest) operands

-- the operands of a run, the topmost first
abbrev pub operands_of : Run → List Argument
operands_of run = map operand_seen (reverse run.operands.items)

-- a value before others, if they are there
abbrev pub joined : Option Value → Option (List Value) → Option (List Value)
joined None values = None
joined (Some v) None = None
joined (Some v) (Some values) = Some (v ∷ values)

-- the values at the components of a place, if all of them are defined
abbrev pub held_all : Store → Option Place → List (List Step) → Option (List Value)
held_all store place [] = Some []
held_all store place (steps ∷ components) =
    joined (held store (part place steps)) (held_all store place components)

-- the store after values were written to the components of a place
abbrev pub kept_all : Store → Option Place → List (List Step) → List Value → Store
kept_all store place [] values = store
kept_all store place (steps ∷ components) [] = store
kept_all store place (steps ∷ components) (v ∷ values) =
    kept_all (kept store (part place steps) v) place components values

-- the values of a row that the interpreter keeps
abbrev pub items_of : Vec Value Global → List Value
items_of row = row.items

-- the map holds at each place what the store holds
abbrev pub StoreAgrees : BTreeMap KeptPlace Value → Store → Type 0
StoreAgrees kept store = (p : KeptPlace) → get places.cmp kept p ≡ stored store (place_seen p)

-- an activation finds the variables of an environment
abbrev pub Sees : Environment → Tree → KeptActivation → Type 0
Sees visible tree activation = record {
  variables : (root : ℕ) →
      visible.variables root ≡ place_of (visible_in activation) root (slice_get tree.variables.items root);
  types : visible.types ≡ tree.types;
}

-- an activation ends, those that lasted when it began last again, and its result is given to what is pending then
abbrev pub returning : Surroundings → KeptActivation → List ℕ → Resumption → Resumption
returning env activation living next operands = do
  v ← result_of activation.result env.visible
  _ ← end_with living
  next (OfValue v ∷ operands)

-- what goes on behind the work in hand: the latest first, callers that wait for its activation, and what stands behind
-- the statement of a with, where there is a record less, or behind a turn of a for, where there is a for less; behind
-- the program's statement nothing is done
abbrev pub Waits : Tree → Surroundings → KeptActivation → Resumption → List Caller → Type 0
Waits tree env activation outer [] = (operands : List Argument) (s : State) → outer operands s ≡ give tt s
Waits tree env activation outer (caller.Call waiting pending ∷ callers) =
    (there : Surroundings) × (behind : Resumption) × (living : List ℕ)
    × Sees there.visible tree waiting
    × (there.calls ≡ calls_of tree (suc waiting.depth))
    × (waiting.depth ≡ suc activation.depth)
    × Waits tree there waiting behind callers
    × ((operands : List Argument) (s : State) → outer operands s ≡
    returning env activation living (pending_of there behind (reverse pending.items)) operands s)
    × (records_in waiting ≡ there.records)
Waits tree env activation outer (caller.With pending ∷ callers) =
    (there : Surroundings) × (behind : Resumption) × (place : Option Place)
    × (env ≡ with_record there place)
    × Waits tree there activation behind callers
    × ((operands : List Argument) (s : State) → outer operands s ≡
    pending_of there behind (reverse pending.items) operands s)
Waits tree env activation outer (caller.For pending ∷ callers) =
    (there : Surroundings) × (behind : Resumption) × (finished : ℕ)
    × (env ≡ within_for there finished)
    × Waits tree there activation behind callers
    × ((operands : List Argument) (s : State) → outer operands s ≡
    pending_of there behind (reverse pending.items) operands s)

-- the interpreter has what a state has, but for its entries and what lasts, finds the variables and the records, and
-- its callers are those that wait; an activation may hold as many others as turns are left, and each used one
abbrev pub Agrees : Surroundings → Resumption → Run → State → Type 0
Agrees env outer run s = record {
  visible : Sees env.visible run.tree.now run.activation;
  calls : env.calls ≡ calls_of run.tree.now (suc run.activation.depth);
  waits : Waits run.tree.now env run.activation outer (reverse run.callers.items);
  deep : run.turns ≤ run.activation.depth;
  few : run.called + run.turns < 2 ^ 64;
  store : StoreAgrees run.store s.store;
  input : left_in run.input ≡ s.input;
  output : run.output.items ≡ s.output;
  turns : run.turns ≡ s.turns;
  activations : suc run.called ≡ s.activations;
  records : records_in run.activation ≡ env.records;
}

-- what a run has still to do, from a state
abbrev pub rest_of : Surroundings → Resumption → Run → State → Reply (Unit {0})
rest_of env outer run s = pending_of env outer (reverse run.pending.items) (operands_of run) s

-- a step answered: it goes on to what the reply goes on to, or the reply stops with this ending, in a state that the
-- run agrees with
abbrev pub Continues : Reply (Unit {0}) → Result (Option Ending) AllocError → Run → Type 0
Continues reply (Err e) run = Unit {0}
Continues reply (Ok None) run =
    (env : Surroundings) × (outer : Resumption) × (s : State) × Agrees env outer run s
    × (reply ≡ rest_of env outer run s)
Continues reply (Ok (Some ending)) run =
    (env : Surroundings) × (outer : Resumption) × (s : State) × Agrees env outer run s × (reply ≡ Stops ending s)

-- a step does a piece of work: in each state that the run agrees with
abbrev pub RunDoes : (Surroundings → Resumption → Resumption) → Run → Result (Option Ending) AllocError → Run → Type 0
RunDoes piece old result new =
    (env : Surroundings) (outer : Resumption) (s : State) → Agrees env outer old s →
    Continues (piece env (pending_of env outer (reverse old.pending.items)) (operands_of old) s) result new

-- an activation with nothing left to do ends, and the latest caller goes on
abbrev pub RunLeaves : Run → Result (Option Ending) AllocError → Run → Type 0
RunLeaves old result new =
    (env : Surroundings) (outer : Resumption) (s : State) → Agrees env outer old s → old.pending.items ≡ [] →
    0 < length old.callers.items → Continues (outer (operands_of old) s) result new

-- a reply with no value, after which the store alone is another one, with which the run agrees
abbrev pub StoresIn : Reply (Unit {0}) → State → Run → Type 0
StoresIn reply s run =
    (after : Store) × (reply ≡ Gives tt (record s { store = after })) × StoreAgrees run.store after

-- an activation of a block begins with these arguments, and then comes the rest
abbrev pub beginning : Tree → ℕ → ℕ → Block → List Argument → Surroundings → Resumption → Resumption
beginning tree depth number block arguments env =
    giving (activated tree (calls_of tree depth) number (Some block) arguments env.visible)

-- a run ended as a reply does
abbrev pub EndsAs : Reply (Unit {0}) → Run → Ending → Type 0
EndsAs reply run ending = record {
  output : run.output.items ≡ (ended reply).output;
  ending : (ended reply).ending ≡ ending;
}

-- a run is done: it ended as all that it had to do does
abbrev pub Finishes : Run → Result Ending AllocError → Run → Type 0
Finishes old result new =
    (env : Surroundings) (outer : Resumption) (s : State) → Agrees env outer old s →
    IfOk result (λ ending. EndsAs (rest_of env outer old s) new ending)

-- a run went on to what is left of it, or it ended as that does
abbrev pub Proceeds : Reply (Unit {0}) → Result (Option Ending) AllocError → Run → Type 0
Proceeds reply (Err e) run = Unit {0}
Proceeds reply (Ok None) run = Continues reply (Ok None) run
Proceeds reply (Ok (Some ending)) run = EndsAs reply run ending

-- a run did some of what it had to do, or all
abbrev pub Advances : Run → Result (Option Ending) AllocError → Run → Type 0
Advances old result new =
    (env : Surroundings) (outer : Resumption) (s : State) → Agrees env outer old s →
    Proceeds (rest_of env outer old s) result new

-- a run in which nothing is visible and nothing has begun
abbrev pub IsFresh : Run → State → Type 0
IsFresh run s = record {
  visible : run.activation.visible.items ≡ [];
  callers : run.callers.items ≡ [];
  pending : run.pending.items ≡ [];
  called : run.called ≡ 0;
  few : run.turns < 2 ^ 64;
  store : StoreAgrees run.store s.store;
  input : left_in run.input ≡ s.input;
  output : run.output.items ≡ s.output;
  turns : run.turns ≡ s.turns;
  activations : s.activations ≡ 1;
}

-- a run did the statement of the program's block: it ended as that does
abbrev pub Executes : Run → Result Ending AllocError → Run → Type 0
Executes old result new =
    (s : State) → IsFresh old s → IfOk result (λ ending.
    EndsAs (run_of old.tree.now (suc old.turns) (slice_get old.tree.now.blocks.items 0) s) new ending)
