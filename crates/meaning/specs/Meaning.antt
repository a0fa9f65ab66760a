-- The meaning of expressions, statements and programs (ISO 7185:1990, 6.7, 6.8, 6.10): operands from left to right,
-- every value of an undefined variable an error, every result outside integer an error. A sign and a function come
-- after their operand, an operator after its right one.
-- It says nothing of code, of cells, or of what an implementation does where memory runs out.
use Rattle.std.specs.Prelude.{ℕ, ℤ, pos, ◌+ℤ◌, ◌-ℤ◌, ◌*ℤ◌, neg_ℤ, int_div, int_le, int_lt, Bool, true, false, ◌&&◌}
use Rattle.std.specs.Prelude.{◌||◌, ◌++◌, zero, suc, negsuc, not, List, [], ◌∷◌, Option, Some, None, Vec, map}
use Rattle.std.specs.Prelude.{if◌then◌else◌, nat_eq, slice_get}
use Rattle.std.specs.List.{list_any}
use Rattle.std.specs.declared.alloc.Global.{Global}
use Rattle.std.specs.declared.boxed.Box.{Box}
use Rattle.members.specs.Members as sets
use Rattle.text_input.specs.declared.InputFault.TheVariants.{OutsideType}
pub use Rattle.text_input.specs.Input.{completed}
use Rattle.text_input.specs.Input.{read_character, read_eoln, read_integer, read_line}
use Rattle.members.specs.declared.sets.Operator.TheVariants.{Union, Intersection, Difference}
use Rattle.members.specs.declared.sets.Relation.{Relation as RelationOfSets}
use Rattle.members.specs.declared.sets.Relation.TheVariants as way
use Rattle.types.specs.declared.form.Step.TheVariants as step
use Rattle.types.specs.Components.{components_of}
use Rattle.types.specs.Forms.{Form}
use Rattle.types.specs.declared.form.OrdinalRange.{OrdinalRange}
use Rattle.typed_tree.specs.declared.tree.Tree.{Tree}
use Rattle.typed_tree.specs.declared.tree.Access.{Access}
use Rattle.typed_tree.specs.declared.tree.Selector.{Selector}
use Rattle.typed_tree.specs.declared.tree.Selector.TheVariants.{Element, Field}
use Rattle.typed_tree.specs.declared.tree.Block.{Block}
use Rattle.typed_tree.specs.declared.tree.Designator.{Designator}
use Rattle.typed_tree.specs.declared.tree.Designator.TheVariants.{Single, Range}
use Rattle.typed_tree.specs.declared.tree.Heading.{Heading}
use Rattle.typed_tree.specs.declared.tree.FunctionResult.{FunctionResult}
use Rattle.typed_tree.specs.declared.tree.Call.{Call}
use Rattle.typed_tree.specs.declared.tree.Variable.{Variable as DeclaredVariable}
use Rattle.typed_tree.specs.declared.tree.VariableKind.{VariableKind}
use Rattle.typed_tree.specs.declared.tree.VariableKind.TheVariants as kind
use Rattle.std.specs.Int.{int_rem_euclid}
use Rattle.std.specs.Ordering.{int_eq}
use Rattle.typed_tree.specs.declared.tree.Monadic.{Monadic}
use Rattle.typed_tree.specs.declared.tree.Monadic.TheVariants as monadic
use Rattle.typed_tree.specs.declared.tree.Calculation.{Calculation}
use Rattle.typed_tree.specs.declared.tree.Calculation.TheVariants as calculation
use Rattle.typed_tree.specs.declared.tree.Shift.{Shift}
use Rattle.typed_tree.specs.declared.tree.Shift.TheVariants as shift
use Rattle.typed_tree.specs.declared.tree.Dyadic.{Dyadic}
use Rattle.typed_tree.specs.declared.tree.Dyadic.TheVariants as dyadic
use Rattle.typed_tree.specs.declared.tree.Relation.{Relation}
use Rattle.typed_tree.specs.declared.tree.Relation.TheVariants as relation
use Rattle.typed_tree.specs.declared.tree.SetRelation.{SetRelation}
use Rattle.typed_tree.specs.declared.tree.SetRelation.TheVariants as set_relation
use Rattle.typed_tree.specs.declared.tree.Representation.{Representation}
use Rattle.typed_tree.specs.declared.tree.Representation.TheVariants as representation
use Rattle.typed_tree.specs.declared.tree.ForHead.{ForHead}
use Rattle.typed_tree.specs.declared.tree.Width.{Width}
use Rattle.typed_tree.specs.declared.tree.WithRecord.{WithRecord}
use Rattle.typed_tree.specs.declared.tree.ReadVariable.{ReadVariable}
use Rattle.typed_tree.specs.declared.tree.Readable.{Readable}
use Rattle.typed_tree.specs.declared.tree.Readable.TheVariants as readable
use Rattle.typed_tree.specs.declared.tree.InputTest.{InputTest}
use Rattle.typed_tree.specs.declared.tree.InputTest.TheVariants as input_test
use Rattle.typed_tree.specs.declared.tree.WriteParameter.{WriteParameter}
use Rattle.typed_tree.specs.declared.tree.Written.{Written}
use Rattle.typed_tree.specs.declared.tree.Written.TheVariants.{Ordinal, String}
use Rattle.typed_tree.specs.declared.tree.Whole.{Whole}
use Rattle.typed_tree.specs.declared.tree.Whole.TheVariants.{Text, Variable as VariableOf}
use Rattle.typed_tree.specs.declared.tree.Expr.{Expr}
use Rattle.typed_tree.specs.declared.tree.Link.{Link}
use Rattle.typed_tree.specs.declared.tree.Passed.{Passed}
use Rattle.typed_tree.specs.declared.tree.Expr.TheOpen.{Expr-F, Passed-F, Link-F}
use Rattle.typed_tree.specs.declared.tree.Expr.TheOpen.Expr-F.{Constant, Variable, Monadic as MonadicOf, Chain}
use Rattle.typed_tree.specs.declared.tree.Expr.TheOpen.Expr-F.{Compare, Call as CallOf, Set, Input}
use Rattle.typed_tree.specs.declared.tree.Expr.TheOpen.Passed-F.{Value as PassedValue, Whole as PassedWhole, Reference}
use Rattle.typed_tree.specs.declared.tree.Expr.TheFolds.{fold-Expr, fold-Passed, fold-Link}
use Rattle.typed_tree.specs.declared.tree.Stmt.{Stmt}
use Rattle.typed_tree.specs.declared.tree.Stmt.TheOpen.{Stmt-F}
use Rattle.typed_tree.specs.declared.tree.Stmt.TheOpen.Stmt-F.{Empty, Assign, Write, Compound, If, While, Repeat, For}
use Rattle.typed_tree.specs.declared.tree.Stmt.TheOpen.Stmt-F.{Case, Copy, Call as Calling, With, Read}
use Rattle.typed_tree.specs.declared.tree.Stmt.TheFolds.{fold-Stmt}
use Rattle.typed_tree.specs.Accesses.{Origin, AtVariable, AtRecord, origin_of}
use Rattle.typed_tree.specs.WellFormed.{is_one_of, length_of}
use Rattle.meaning.specs.declared.outcome.Ending.{Ending}
use Rattle.meaning.specs.declared.outcome.Ending.TheVariants as ending
use Rattle.meaning.specs.declared.value.Value.{Value}
use Rattle.meaning.specs.declared.value.Value.TheVariants.{Number, Members}
use Rattle.meaning.specs.Integers.{is_integer_number, truth, is_true, is_odd, magnitude}
use Rattle.meaning.specs.Store.{Environment, Place, inside_for, part}
use Rattle.meaning.specs.Counting.{has_values, value_behind, values_before}
use Rattle.meaning.specs.Effect.{State, Reply, Gives, Stops, Action, Round, ◌>>=◌, give, stop, require, enter, use_turn}
use Rattle.meaning.specs.Effect.{looped, begin, living_now, end_with}
use Rattle.meaning.specs.Effect.{fetch, fetch_all, store, store_all, undefine, write, is_in, is_positive, number_of}
use Rattle.meaning.specs.Effect.{members_of, row_text, text_of, take_in, at_end}

-- what is passed to a formal parameter: an ordinal or a set, the components of a structured value, or a place (6.6.3)
pub data Argument : Type 0 where
  OfValue : Value → Argument
  OfRow : List Value → Argument
  OfPlace : Option Place → Argument

-- what calls of routines do: by the number of the routine's block, with what is passed and what is visible where it is
-- called. The call of a procedure gives 0
abbrev pub Calls : Type 0
Calls = ℕ → List Argument → Environment → Action Value

-- where a piece of a program stands in a run: what is visible there, where the records lie of the with statements round
-- it, by their slots (6.8.3.10), and what calls do
pub record Surroundings : Type 0 where
  pub visible : Environment
  pub records : List (Option Place)
  pub calls : Calls

-- what an expression does where it stands: it gives its value
abbrev pub Evaluation : Type 0
Evaluation = Surroundings → Action Value

-- what an operator of a chain does with the value to its left
abbrev pub Combination : Type 0
Combination = Surroundings → Value → Action Value

-- what an actual parameter does: it gives what is passed
abbrev pub Passing : Type 0
Passing = Surroundings → Action Argument

-- a number that has to be of type integer: else it is an error at the site, if there is one (6.7.2.2)
abbrev pub unless_overflow : Option ℕ → ℤ → Action ℤ
unless_overflow None n = give n
unless_overflow (Some site) n = do
  _ ← require (is_integer_number n) site
  give n

-- what is calculated from a number: a sign covers the whole first term (6.7.2.2), `not` (6.7.2.3), the functions abs
-- and sqr (6.6.6.2), ord (6.6.6.4) and odd (6.6.6.5)
abbrev pub calculated : Calculation → ℤ → ℤ
calculated calculation.Same n = n
calculated calculation.Negative n = neg_ℤ n
calculated calculation.Complement n = truth (not (is_true n))
calculated calculation.Absolute n = magnitude n
calculated (calculation.Square overflow) n = n *ℤ n
calculated calculation.Parity n = truth (is_odd n)
calculated calculation.Ordinal n = n

-- the site of a calculation whose result has to be of type integer
abbrev pub overflow_of : Calculation → Option ℕ
overflow_of (calculation.Square overflow) = Some overflow
overflow_of other = None

-- the result behind a test: of chr, succ and pred (6.6.6.4)
abbrev pub shifted : Shift → ℤ → ℤ
shifted shift.Same n = n
shifted shift.Next n = n +ℤ pos 1
shifted shift.Previous n = n -ℤ pos 1

-- an operation on one operand
abbrev pub operated : Monadic → ℤ → Action ℤ
operated (monadic.Plain does) n = unless_overflow (overflow_of does) (calculated does n)
operated (monadic.Tested fits does) n = do
  _ ← require (is_in fits.range (Number n)) fits.site
  give (shifted does n)

-- a relation of two ordinals (6.7.2.5)
abbrev pub relates : Relation → ℤ → ℤ → Bool
relates relation.Equal a b = int_eq a b
relates relation.NotEqual a b = not (int_eq a b)
relates relation.Less a b = int_lt a b
relates relation.Greater a b = int_lt b a
relates relation.LessOrEqual a b = int_le a b
relates relation.GreaterOrEqual a b = int_le b a

-- the order of two rows of numbers, as -1, 0 or 1: the first difference decides, and a row comes before one that it
-- begins
abbrev pub order_of : List ℤ → List ℤ → ℤ
order_of [] [] = pos 0
order_of [] (b ∷ other) = negsuc 0
order_of (a ∷ row) [] = pos 1
order_of (a ∷ row) (b ∷ other) = if int_lt a b then negsuc 0 else (if int_lt b a then pos 1 else order_of row other)

-- a relation of two strings, by the order of their components (6.7.2.5)
abbrev pub compared : Relation → List Value → List Value → ℤ
compared r row other = truth (relates r (order_of (map number_of row) (map number_of other)) (pos 0))

-- the place of the component to which selectors lead from a place: each index is evaluated and tested at once, from
-- left to right (6.5.3); an index that isn't there leads to no place
abbrev pub selected : List Selector → List Evaluation → Surroundings → Option Place → Action (Option Place)
selected [] indexes env place = give place
selected (Field position offset ∷ selectors) indexes env place =
    selected selectors indexes env (part place (step.Field position ∷ []))
selected (Element fits cells ∷ selectors) [] env place = give None
selected (Element fits cells ∷ selectors) (index ∷ indexes) env place = do
  v ← index env
  _ ← require (is_in fits.range v) fits.site
  selected selectors indexes env (part place (step.Element (number_of v) ∷ []))

-- the place of a slot, if there is one
abbrev pub place_at : Option (Option Place) → Option Place
place_at None = None
place_at (Some place) = place

-- the place at which an access begins: that of a variable, or of a record of a with statement (6.8.3.10)
abbrev pub begun : Origin → Surroundings → Option Place
begun (AtVariable root) env = env.visible.variables root
begun (AtRecord root slot path) env = place_at (slice_get env.records slot)

-- the place that is accessed (6.5.1)
abbrev pub accessed : Access → List Evaluation → Surroundings → Action (Option Place)
accessed access indexes env = do
  _ ← enter access.number env.visible
  selected access.selectors.items indexes env (begun (origin_of access) env)

-- the values of the scalar components of a whole value
abbrev pub whole_of : Whole → List Evaluation → Surroundings → Action (List Value)
whole_of (Text number characters) indexes env = do
  _ ← enter number env.visible
  give (map (λ c. Number (pos c)) characters.items)
whole_of (VariableOf access type_id cells defined) indexes env = do
  place ← accessed access indexes env
  fetch_all place (components_of env.visible.types type_id) defined

-- what an operation on two operands asks of the right one: no divisor is 0, and that of `mod` is at least 1 (6.7.2.2)
abbrev pub divides : Dyadic → ℤ → Action (Unit {0})
divides (dyadic.Div by_zero) b = require (not (int_eq b (pos 0))) by_zero
divides (dyadic.Mod by_zero_or_less) b = require (int_le (pos 1) b) by_zero_or_less
divides other b = give tt

-- what is calculated from two numbers: `div` cuts toward zero, and `mod` gives the remainder that is not negative
-- (6.7.2.2); `and`, `or` (6.7.2.3). The operations of sets calculate none
abbrev pub of_both : Dyadic → ℤ → ℤ → ℤ
of_both (dyadic.Plus overflow) a b = a +ℤ b
of_both (dyadic.Minus overflow) a b = a -ℤ b
of_both (dyadic.Times overflow) a b = a *ℤ b
of_both (dyadic.Div by_zero) a b = int_div a b
of_both (dyadic.Mod by_zero_or_less) a b = int_rem_euclid a b
of_both dyadic.And a b = truth (is_true a && is_true b)
of_both dyadic.Or a b = truth (is_true a || is_true b)
of_both (dyadic.Relation r) a b = truth (relates r a b)
of_both operation_of_sets a b = pos 0

-- the site of an operation whose result has to be of type integer
abbrev pub overflow_of_both : Dyadic → Option ℕ
overflow_of_both (dyadic.Plus overflow) = Some overflow
overflow_of_both (dyadic.Minus overflow) = Some overflow
overflow_of_both (dyadic.Times overflow) = Some overflow
overflow_of_both other = None

-- an operation on two numbers
abbrev pub combined : Dyadic → ℤ → ℤ → Action ℤ
combined operation a b = do
  _ ← divides operation b
  unless_overflow (overflow_of_both operation) (of_both operation a b)

-- how one set has to stand to another in a relation of sets (6.7.2.5)
abbrev pub way_of : SetRelation → RelationOfSets
way_of set_relation.Equal = way.Equal
way_of set_relation.NotEqual = way.NotEqual
way_of set_relation.Included = way.Inside
way_of set_relation.Includes = way.Around

-- an operation on two operands: of two sets (6.7.2.4), a relation of them, or whether a number is a member of a set
-- (6.7.2.5), none of which errs; else of two numbers
abbrev pub operated_both : Dyadic → Value → Value → Action Value
operated_both dyadic.Union a b = give (Members (sets.of_two Union (members_of a) (members_of b)))
operated_both dyadic.Difference a b = give (Members (sets.of_two Difference (members_of a) (members_of b)))
operated_both dyadic.Intersection a b = give (Members (sets.of_two Intersection (members_of a) (members_of b)))
operated_both (dyadic.SetRelation r) a b =
    give (Number (truth (sets.stand (way_of r) (members_of a) (members_of b))))
operated_both dyadic.In a b = give (Number (truth (sets.has (members_of b) (number_of a))))
operated_both of_numbers a b = do
  n ← combined of_numbers (number_of a) (number_of b)
  give (Number n)

-- the right operand, and then the operation
abbrev pub link_step : Link-F Evaluation Passing Combination → Combination
link_step link env left = do
  _ ← enter link.number env.visible
  right ← link.operand env
  operated_both link.operation left right

-- a set with one member more, which is tested (6.7.1)
abbrev pub with_one : ℕ → Value → ℕ → Action ℕ
with_one site v set = do
  _ ← require (sets.can_be_member (number_of v)) site
  give (sets.of_two Union set (sets.of_one (number_of v)))

-- a set with all members from a first to a last one, which are tested if there are any (6.7.1)
abbrev pub with_range : ℕ → Value → Value → ℕ → Action ℕ
with_range site a b set = do
  _ ← require (sets.range_fits (number_of a) (number_of b)) site
  give (sets.of_two Union set (sets.of_range (number_of a) (number_of b)))

-- a set with the members that designators give, from left to right: those of one are tested before the next are
-- evaluated; a designator without its expressions ends it
abbrev pub gathered : List Designator → List Evaluation → Surroundings → ℕ → Action ℕ
gathered [] members env set = give set
gathered (Single site ∷ designators) [] env set = give set
gathered (Single site ∷ designators) (member ∷ members) env set = do
  v ← member env
  more ← with_one site v set
  gathered designators members env more
gathered (Range site ∷ designators) [] env set = give set
gathered (Range site ∷ designators) (first ∷ []) env set = give set
gathered (Range site ∷ designators) (first ∷ last ∷ members) env set = do
  a ← first env
  b ← last env
  more ← with_range site a b set
  gathered designators members env more

-- the operators of a chain, from left to right
abbrev pub in_turn : List Combination → Combination
in_turn [] env v = give v
in_turn (link ∷ links) env v = do
  w ← link env v
  in_turn links env w

-- an actual parameter: a value is tested, a variable is accessed (6.6.3.2, 6.6.3.3)
abbrev pub passed_step : Passed-F Evaluation Passing Combination → Passing
passed_step (PassedValue value fits) env = do
  v ← value env
  _ ← require (is_in fits.range v) fits.site
  give (OfValue v)
passed_step (PassedWhole type_id value indexes) env = do
  values ← whole_of value indexes.items env
  give (OfRow values)
passed_step (Reference type_id access indexes) env = do
  place ← accessed access indexes.items env
  give (OfPlace place)

-- actual parameters, from left to right
abbrev pub all_passed : List Passing → Surroundings → Action (List Argument)
all_passed [] env = give []
all_passed (one ∷ others) env = do
  argument ← one env
  arguments ← all_passed others env
  give (argument ∷ arguments)

-- a call: it is entered, its actual parameters are passed, and then the routine's block is executed (6.7.3, 6.8.2.3)
abbrev pub call_of : Call → List Passing → Evaluation
call_of call actuals env = do
  _ ← enter call.number env.visible
  arguments ← all_passed actuals env
  env.calls call.block arguments env.visible

-- what is asked of the input (6.6.6.5)
abbrev pub asked : InputTest → Action Bool
asked input_test.End = at_end
asked (input_test.LineEnd point) = take_in point read_eoln

-- one layer of an expression: it is entered, and then its parts come
abbrev pub value_step : Expr-F Evaluation Passing Combination → Evaluation
value_step (Constant number value) env = do
  _ ← enter number env.visible
  give (Number value)
value_step (Variable access indexes holds defined) env = do
  place ← accessed access indexes.items env
  fetch place defined
value_step (MonadicOf number operation operand) env = do
  _ ← enter number env.visible
  v ← operand.value env
  n ← operated operation (number_of v)
  give (Number n)
value_step (Chain first rest) env = do
  v ← first.value env
  in_turn rest.items env v
value_step (Compare number relation left left_indexes right right_indexes) env = do
  a ← whole_of left left_indexes.items env
  _ ← enter number env.visible
  b ← whole_of right right_indexes.items env
  give (Number (compared relation a b))
value_step (Input number asks) env = do
  _ ← enter number env.visible
  b ← asked asks
  give (Number (truth b))
value_step (Set number designators members) env = do
  _ ← enter number env.visible
  set ← gathered designators.items members.items env sets.empty
  give (Members set)
value_step (CallOf call actuals) env = call_of call actuals.items env

-- the value of an expression
abbrev pub value_of : Expr → Evaluation
value_of = fold-Expr Evaluation Passing Combination value_step passed_step link_step

-- what an actual parameter does
abbrev pub passing_of : Passed → Passing
passing_of = fold-Passed Evaluation Passing Combination value_step passed_step link_step

-- what an operator of a chain does, with its right operand
abbrev pub link_of : Link → Combination
link_of = fold-Link Evaluation Passing Combination value_step passed_step link_step

-- the values of index expressions
abbrev pub values_of : List Expr → List Evaluation
values_of = map value_of

-- what a statement does where it stands
abbrev pub Execution : Type 0
Execution = Surroundings → Action (Unit {0})

-- statements, or values that are written, one after another
abbrev pub all_of : List Execution → Execution
all_of [] env = give tt
all_of (statement ∷ statements) env = do
  _ ← statement env
  all_of statements env

-- the width of an ordinal where none is given (6.9.3.1)
abbrev pub default_width : Representation → ℤ
default_width representation.Char = pos 1
default_width representation.Integer = pos 10
default_width representation.Boolean = pos 5

-- the width of a value, or the one for where none is given: it has to be at least 1
abbrev pub width_of : Option Width → ℤ → Surroundings → Action ℤ
width_of None default env = give default
width_of (Some width) default env = do
  w ← value_of width.value env
  _ ← require (is_positive (number_of w)) width.site
  give (number_of w)

-- a value that is written: first it is evaluated, and then its width (6.9.3), which is a string's length where none is
-- given
abbrev pub written_of : Written → Option Width → Execution
written_of (Ordinal value representation) width env = do
  v ← value_of value env
  w ← width_of width (default_width representation) env
  write (text_of representation (number_of v) w)
written_of (String value indexes) width env = do
  components ← whole_of value (values_of indexes.items) env
  w ← width_of width (pos (length_of value)) env
  write (row_text components w)

abbrev pub parameter_of : WriteParameter → Execution
parameter_of parameter = written_of parameter.value parameter.width

-- a line end behind a writeln (6.9.4)
abbrev pub line_ended : Bool → Action (Unit {0})
line_ended ends_line = if ends_line then write (10 ∷ []) else give tt

-- what is read: an integer, or a character as its ordinal number
abbrev pub read_as : Readable → ℕ → Action ℤ
read_as readable.Integer point = take_in point read_integer
read_as readable.Char point = do
  c ← take_in point read_character
  give (pos c)

-- what is read has to be a value of the variable's type
abbrev pub unless_outside : OrdinalRange → ℕ → ℤ → Action (Unit {0})
unless_outside range point n =
    if is_in range (Number n) then give tt else stop (ending.Input point OutsideType)

-- a variable is accessed, and then it is read (6.9.1)
abbrev pub read_of : ReadVariable → Execution
read_of one env = do
  place ← accessed one.access (values_of one.indexes.items) env
  n ← read_as one.reads one.point
  _ ← unless_outside one.range one.point n
  store place (Number n)

-- the next line end is passed behind a readln (6.9.2)
abbrev pub line_passed : Option ℕ → Action (Unit {0})
line_passed None = give tt
line_passed (Some point) = take_in point read_line

-- a truth value
abbrev pub is_so : Value → Bool
is_so v = is_true (number_of v)

-- the statement behind `else`, or nothing where there is none
abbrev pub alternative_of : Option (Box Execution Global) → Execution
alternative_of None env = give tt
alternative_of (Some execution) env = execution.value env

-- a turn of a while, where its condition asks for one; then another round follows
abbrev pub turn_if : Bool → Action (Unit {0}) → Action (Option (Unit {0}))
turn_if false body = give None
turn_if true body = do
  _ ← use_turn
  _ ← body
  give (Some tt)

-- a round of a while: the condition, and then a turn (6.8.3.8)
abbrev pub while_round : Evaluation → Execution → Surroundings → Round (Unit {0})
while_round condition body env start = do
  v ← condition env
  turn_if (is_so v) (body env)

-- a round of a repeat: a turn, and then the condition, which ends it (6.8.3.7)
abbrev pub repeat_round : Execution → Evaluation → Surroundings → Round (Unit {0})
repeat_round body condition env start = do
  _ ← use_turn
  _ ← body env
  v ← condition env
  give (if is_so v then None else Some tt)

-- where a piece stands inside one more for statement, which has finished so many turns
abbrev pub within_for : Surroundings → ℕ → Surroundings
within_for env finished = record env { visible = inside_for env.visible finished }

-- where the statement of a for stands in the turn with a value of its control variable: one turn is finished for each
-- value that it had before
abbrev pub for_turn : ForHead → ℤ → Surroundings → ℤ → Surroundings
for_turn head first env n = within_for env (values_before head.direction first n)

-- a round of a for: its control variable gets a value, and then comes a turn (6.8.3.9)
abbrev pub for_round : ForHead → ℤ → ℤ → Execution → Surroundings → Round ℤ
for_round head first last body env n = do
  _ ← store (env.visible.variables head.control) (Number n)
  _ ← use_turn
  _ ← body (for_turn head first env n)
  give (value_behind head.direction last n)

-- the rounds of a for whose bounds leave values; both bounds are tested before, the first one first
abbrev pub for_rounds : ForHead → Execution → Surroundings → ℤ → ℤ → Action (Unit {0})
for_rounds head body env first last = do
  _ ← require (is_in head.first.fits.range (Number first)) head.first.fits.site
  _ ← require (is_in head.last.fits.range (Number last)) head.last.fits.site
  looped (for_round head first last body env) first

-- a for from the numbers of its bounds
abbrev pub for_between : ForHead → Execution → Surroundings → ℤ → ℤ → Action (Unit {0})
for_between head body env first last =
    if has_values head.direction first last then for_rounds head body env first last else give tt

-- whether a row of case constants holds a value
abbrev pub is_among : List ℤ → ℤ → Bool
is_among row n = list_any (λ constant. int_eq constant n) row

-- what is done at a value of the index: the arm whose constants hold it, or an error at the site where none do; the
-- n-th row of constants stands before the n-th arm (6.8.3.5)
abbrev pub arm_of : ℕ → List (Vec ℤ Global) → List Execution → ℤ → Execution
arm_of site [] arms n env = stop (ending.Error site)
arm_of site (row ∷ rows) [] n env = stop (ending.Error site)
arm_of site (row ∷ rows) (arm ∷ arms) n env =
    if is_among row.items n then arm env else arm_of site rows arms n env

-- where a piece stands with one more record round it
abbrev pub with_record : Surroundings → Option Place → Surroundings
with_record env place = record env { records = env.records ++ place ∷ [] }

-- the records round a statement in which these stand as well: each is accessed once, in their order (6.8.3.10), and has
-- the slot behind those before it
abbrev pub opened : List WithRecord → Surroundings → Action (List (Option Place))
opened [] env = give env.records
opened (one ∷ others) env = do
  place ← accessed one.access (values_of one.indexes.items) env
  opened others (with_record env place)

-- one layer of a statement
abbrev pub effect_step : Stmt-F Execution → Execution
effect_step (Empty number) env = enter number env.visible
effect_step (Assign assignment) env = do
  _ ← enter assignment.number env.visible
  place ← accessed assignment.target (values_of assignment.indexes.items) env
  v ← value_of assignment.value env
  _ ← require (is_in assignment.fits.range v) assignment.fits.site
  store place v
effect_step (Copy copying) env = do
  _ ← enter copying.number env.visible
  place ← accessed copying.target (values_of copying.indexes.items) env
  values ← whole_of copying.value (values_of copying.value_indexes.items) env
  store_all place (components_of env.visible.types copying.type_id) values
effect_step (Write writing) env = do
  _ ← enter writing.number env.visible
  _ ← all_of (map parameter_of writing.parameters.items) env
  line_ended writing.ends_line
effect_step (Read reading) env = do
  _ ← enter reading.number env.visible
  _ ← all_of (map read_of reading.variables.items) env
  line_passed reading.line
effect_step (Calling calling) env = do
  _ ← call_of calling.call (map passing_of calling.actuals.items) env
  give tt
effect_step (Compound number statements) env = do
  _ ← enter number env.visible
  all_of statements.items env
effect_step (If number condition consequence alternative) env = do
  _ ← enter number env.visible
  v ← value_of condition env
  if is_so v then consequence.value env else alternative_of alternative env
effect_step (While head body) env = do
  _ ← enter head.number env.visible
  looped (while_round (value_of head.condition) body.value env) tt
effect_step (Repeat head statements) env = do
  _ ← enter head.number env.visible
  looped (repeat_round (all_of statements.items) (value_of head.condition) env) tt
effect_step (For head body) env = do
  _ ← enter head.number env.visible
  a ← value_of head.first.value env
  b ← value_of head.last.value env
  _ ← for_between head body.value env (number_of a) (number_of b)
  undefine (env.visible.variables head.control)
effect_step (Case head arms) env = do
  _ ← enter head.number env.visible
  v ← value_of head.index env
  arm_of head.site head.constants.items arms.items (number_of v) env
effect_step (With head body) env = do
  _ ← enter head.number env.visible
  records ← opened head.records.items env
  body.value (record env { records = records })

-- what a statement does
abbrev pub effect_of : Stmt → Execution
effect_of = fold-Stmt Execution effect_step

-- the state at the start of a run: nothing is defined, and the program's own activation is the first
abbrev pub first_state : List ℕ → ℕ → State
first_state input turns = record {
  store = [];
  input = completed input;
  output = [];
  turns = turns;
  activations = 1;
  visited = [];
  living = 0 ∷ [];
  starved = [];
}

-- where a variable of an activation lies, by its root
abbrev pub own_place : ℕ → ℕ → Place
own_place activation root = record { activation = activation; variable = root; steps = [] }

-- the place that is passed
abbrev pub place_passed : Argument → Option Place
place_passed (OfPlace place) = place
place_passed (OfValue v) = None
place_passed (OfRow values) = None

-- the place that is passed to a formal parameter; each argument stands at the place of its parameter
abbrev pub place_for : ℕ → List ℕ → List Argument → Option Place
place_for root [] arguments = None
place_for root (parameter ∷ parameters) [] = None
place_for root (parameter ∷ parameters) (argument ∷ arguments) =
    if nat_eq parameter root then place_passed argument else place_for root parameters arguments

-- an activation that begins: its number, its block and the heading of that, what is passed to it, and what is visible
-- where it is called
pub record Activation : Type 0 where
  pub number : ℕ
  pub block : ℕ
  pub heading : Heading
  pub arguments : List Argument
  pub caller : Environment

-- where a variable lies that the block of an activation declares: a variable parameter where its actual one does
abbrev pub home_of : Activation → ℕ → VariableKind → Option Place
home_of activation root kind.VariableParameter =
    place_for root activation.heading.parameters.items activation.arguments
home_of activation root kind.Local = Some (own_place activation.number root)
home_of activation root kind.ValueParameter = Some (own_place activation.number root)
home_of activation root kind.Result = Some (own_place activation.number root)

-- where a variable lies that is visible in an activation, if it is: what a block round its own declares lies where it
-- does for the caller
abbrev pub seen_from : Activation → ℕ → Option DeclaredVariable → Option Place
seen_from activation root None = None
seen_from activation root (Some variable) =
    if nat_eq variable.block activation.block then home_of activation root variable.kind
    else (if is_one_of activation.heading.around.items variable.block then activation.caller.variables root
    else None)

-- what is visible in an activation (6.2.2, 6.2.3), at its begin inside no for statement
abbrev pub environment_of : Tree → Activation → Environment
environment_of tree activation = record {
  variables = λ root. seen_from activation root (slice_get tree.variables.items root);
  types = tree.types;
  turns = [];
}

-- what is passed is written to a value parameter (6.6.3.2)
abbrev pub assign : List Form → Option Place → Option DeclaredVariable → Argument → Action (Unit {0})
assign types place formal (OfValue v) = store place v
assign types place None (OfRow values) = give tt
assign types place (Some formal) (OfRow values) = store_all place (components_of types formal.type_id) values
assign types place formal (OfPlace other) = give tt

-- each value parameter gets what is passed to it, in their order
abbrev pub assign_all : Tree → Environment → List ℕ → List Argument → Action (Unit {0})
assign_all tree visible [] arguments = give tt
assign_all tree visible (root ∷ roots) [] = give tt
assign_all tree visible (root ∷ roots) (argument ∷ arguments) = do
  _ ← assign tree.types (visible.variables root) (slice_get tree.variables.items root) argument
  assign_all tree visible roots arguments

-- the result of a function at its end, which has to be defined (6.6.2)
abbrev pub result_of : Option FunctionResult → Environment → Action Value
result_of None visible = give (Number (pos 0))
result_of (Some result) visible = fetch (visible.variables result.root) result.defined

-- an activation of a block: its value parameters are assigned, its statement is executed, and there is its result
abbrev pub executed : Tree → Calls → Block → Activation → Action Value
executed tree calls block activation =
    let visible = environment_of tree activation in do
      _ ← assign_all tree visible block.heading.parameters.items activation.arguments
      _ ← effect_of block.body (record { visible = visible; records = []; calls = calls })
      result_of block.heading.result visible

-- an activation of a routine, from its begin to its end
abbrev pub activated : Tree → Calls → ℕ → Option Block → List Argument → Environment → Action Value
activated tree calls number None arguments caller = give (Number (pos 0))
activated tree calls number (Some block) arguments caller = do
  living ← living_now
  activation ← begin number
  v ← executed tree calls block (record {
    number = activation;
    block = number;
    heading = block.heading;
    arguments = arguments;
    caller = caller;
  })
  _ ← end_with living
  give v

-- what calls do, where activations are at most so many deep in one another. Each uses a turn, so a depth of more than
-- the turns that are left ends no run that its turns wouldn't end
abbrev pub calls_of : Tree → ℕ → Calls
calls_of tree zero number arguments caller = stop ending.More
calls_of tree (suc depth) number arguments caller =
    activated tree (calls_of tree depth) number (slice_get tree.blocks.items number) arguments caller

-- nothing is visible round a program
abbrev pub no_environment : Tree → Environment
no_environment tree = record { variables = λ root. None; types = tree.types; turns = [] }

-- the program's own activation
abbrev pub program_activation : Tree → Heading → Activation
program_activation tree heading =
    record { number = 0; block = 0; heading = heading; arguments = []; caller = no_environment tree }

-- where the statement of the program's block stands, for so many activations in one another
abbrev pub program_surroundings : Tree → ℕ → Heading → Surroundings
program_surroundings tree depth heading = record {
  visible = environment_of tree (program_activation tree heading);
  records = [];
  calls = calls_of tree depth;
}

-- what a program writes, and how it ends
pub record Meaning : Type 0 where
  pub output : List ℕ
  pub ending : Ending

-- what a whole run wrote and how it ended; a run that gave its value finished
abbrev pub ended : Reply (Unit {0}) → Meaning
ended (Gives done s) = record { output = s.output; ending = ending.Finished }
ended (Stops e s) = record { output = s.output; ending = e }

-- the whole run of a program's block, for so many activations in one another
abbrev pub run_of : Tree → ℕ → Option Block → Action (Unit {0})
run_of tree depth None = give tt
run_of tree depth (Some block) = effect_of block.body (program_surroundings tree depth block.heading)

-- the run of a program, for an input and a number of turns
abbrev pub run : Tree → List ℕ → ℕ → Reply (Unit {0})
run tree input turns = run_of tree (suc turns) (slice_get tree.blocks.items 0) (first_state input turns)

-- what a program means, for an input and a number of turns
abbrev pub meaning : Tree → List ℕ → ℕ → Meaning
meaning tree input turns = ended (run tree input turns)
