-- The definitions on small rows, worked out by hand.
use Rattle.std.proofs.Common.{◌≡◌, inl, inr, ℕ, ℤ, ap, refl, true, false, pos, negsuc, List, [], ◌∷◌, Option, Some, None, Box, Vec, Global, codes, map}
use Rattle.std.proofs.Common.{if◌then◌else◌}
use Rattle.typed_tree.specs.declared.tree.Designator.{Designator}
use Rattle.typed_tree.specs.declared.tree.Designator.TheVariants.{Single, Range}
use Rattle.typed_tree.specs.declared.tree.Dyadic.{Dyadic}
use Rattle.typed_tree.specs.declared.tree.Relation.{Relation}
use Rattle.typed_tree.specs.declared.tree.SetRelation.TheVariants as set_relation
use Rattle.typed_tree.specs.Accesses.{AtRecord}
use Rattle.typed_tree.specs.declared.tree.Direction.{Direction}
use Rattle.typed_tree.specs.declared.tree.Direction.TheVariants.{To, DownTo}
use Rattle.typed_tree.specs.declared.tree.Dyadic.TheVariants as dyadic
use Rattle.typed_tree.specs.declared.tree.Monadic.{Monadic}
use Rattle.typed_tree.specs.declared.tree.Monadic.TheVariants as monadic
use Rattle.typed_tree.specs.declared.tree.Calculation.TheVariants as calculation
use Rattle.typed_tree.specs.declared.tree.Shift.{Shift}
use Rattle.typed_tree.specs.declared.tree.Shift.TheVariants as shift
use Rattle.typed_tree.specs.declared.tree.Relation.TheVariants.{Equal, Less}
use Rattle.typed_tree.specs.declared.tree.Selector.{Selector}
use Rattle.typed_tree.specs.declared.tree.Selector.TheVariants.{Element as SelectElement, Field as SelectField}
use Rattle.typed_tree.specs.declared.tree.Expr.{Expr}
use Rattle.typed_tree.specs.declared.tree.Stmt.TheOpen.Stmt-F.{If}
use Rattle.typed_tree.specs.declared.tree.Representation.{Representation}
use Rattle.typed_tree.specs.declared.tree.Scalar.TheVariants as scalar
use Rattle.typed_tree.specs.declared.tree.Width.{Width}
use Rattle.typed_tree.specs.declared.tree.Written.TheVariants.{Ordinal}
use Rattle.types.specs.declared.form.OrdinalRange.{OrdinalRange}
use Rattle.types.specs.Types.{integer}
use Rattle.typed_tree.specs.declared.tree.ForHead.{ForHead}
use Rattle.typed_tree.specs.declared.tree.Heading.{Heading}
use Rattle.typed_tree.specs.declared.tree.VariableKind.{VariableKind}
use Rattle.typed_tree.specs.declared.tree.VariableKind.TheVariants as kind
use Rattle.meaning.specs.declared.outcome.Ending.{Ending}
use Rattle.meaning.specs.declared.outcome.Ending.TheVariants.{Error, Finished, More}
use Rattle.meaning.specs.declared.value.Value.{Value}
use Rattle.meaning.specs.declared.value.Value.TheVariants.{Number, Members}
use Rattle.types.specs.declared.form.Step.{Step}
use Rattle.types.specs.declared.form.Step.TheVariants.{Element, Field}
use Rattle.meaning.specs.Store.{Place, stored, written, undefined, overlap}
use Rattle.meaning.specs.Integers.{is_integer_number}
use Rattle.meaning.specs.Effect.{State, Visit, Reply, Gives, Stops, Action, Round, looped, ◌>>=◌, and_then, give, stop, enter, fetch, store, undefine, require}
use Rattle.meaning.specs.Effect.{number_of, use_turn}
use Rattle.meaning.specs.Effect.{fetch_all, store_all, write, is_in, is_positive, places, boolean_text, char_text, row_text, text_of}
use Rattle.meaning.specs.Meaning.{Evaluation, Combination, Execution, effect_step, is_so, alternative_of, combined, while_round, repeat_round, for_between}
use Rattle.meaning.specs.Meaning.{selected, arm_of, Meaning, ended, link_step, in_turn, operated}
use Rattle.meaning.specs.Meaning.{value_of, compared, order_of, default_width, width_of, written_of, completed, first_state}
use Rattle.meaning.specs.Meaning.{Surroundings, OfValue, OfPlace, Activation, seen_from, own_place}
use Rattle.meaning.specs.Meaning.{begun, gathered}
use Rattle.meaning.specs.Laws.{Extends, state_after}

abbrev place : ℕ → List Step → Place
place root steps = record { activation = 0; variable = root; steps = steps }

-- what was written last is there
last_counts : stored (written (written [] (place 0 []) (Number (pos 1))) (place 0 []) (Number (pos 2))) (place 0 []) ≡ Some (Number (pos 2))
last_counts = refl

other_place : stored (written [] (place 0 []) (Number (pos 1))) (place 1 []) ≡ None
other_place = refl

gone : stored (undefined (written [] (place 0 []) (Number (pos 1))) (place 0 [])) (place 0 []) ≡ None
gone = refl

-- a component overlaps the whole variable, and not another component
part_of_whole : overlap (place 0 []) (place 0 (Element (pos 1) ∷ [])) ≡ true
part_of_whole = refl

parts_apart : overlap (place 0 (Element (pos 2) ∷ [])) (place 0 (Element (pos 1) ∷ [])) ≡ false
parts_apart = refl

-- type integer is symmetric
maxint_fits : is_integer_number (pos 2147483647) ≡ true
maxint_fits = refl

one_below : is_integer_number (negsuc 2147483647) ≡ false
one_below = refl

-- a Boolean variable holds 0 and 1
abbrev booleans : OrdinalRange
booleans = record { first = pos 0; last = pos 1 }

true_fits : is_in booleans (Number (pos 1)) ≡ true
true_fits = refl

two_is_no_boolean : is_in booleans (Number (pos 2)) ≡ false
two_is_no_boolean = refl

-- a Boolean is cut or set right in its width
cut : boolean_text (pos 1) (pos 2) ≡ codes "tr"
cut = refl

set_right : boolean_text (pos 0) (pos 7) ≡ codes "  false"
set_right = refl

-- a character is never cut; a string is
char_in_place : char_text (pos 65) (pos 3) ≡ codes "  A"
char_in_place = refl

char_without_width : char_text (pos 65) (pos 0) ≡ codes "A"
char_without_width = refl

-- the components of a string
abbrev row : List ℕ → List Value
row characters = map (λ c. Number (pos c)) characters

string_cut : row_text (row (codes "Pascal")) (pos 3) ≡ codes "Pas"
string_cut = refl

string_set_right : row_text (row (codes "ab")) (pos 4) ≡ codes "  ab"
string_set_right = refl

-- 'abc' < 'abd', and 'B' comes before 'a'
later_difference : compared Less (row (codes "abc")) (row (codes "abd")) ≡ pos 1
later_difference = refl

first_difference : compared Less (row (codes "ab")) (row (codes "Bz")) ≡ pos 0
first_difference = refl

same_strings : order_of (map pos (codes "ab")) (map pos (codes "ab")) ≡ pos 0
same_strings = refl

-- an input's last line end is supplied
line_end_supplied : completed (codes "7") ≡ codes "7\n"
line_end_supplied = refl

no_line : completed [] ≡ []
no_line = refl

-- where no variable is visible and nothing can be called
nowhere : Surroundings
nowhere = record { visible = record { variables = λ root. None; types = []; turns = [] }; records = []; calls = λ number arguments caller. stop More }

-- an activation of the routine of block 3, in the block 2 of the program's; its two parameters have the roots 5 and 6, and
-- it is called with a value and with the place of root 8, where root 1 lies in the program's activation
module _ (heading : Heading) (around : heading.around.items ≡ 0 ∷ 2 ∷ []) (parameters : heading.parameters.items ≡ 5 ∷ 6 ∷ []) where
  abbrev activation : Activation
  activation = record {
    number = 9;
    block = 3;
    heading = heading;
    arguments = OfValue (Number (pos 1)) ∷ OfPlace (Some (place 8 [])) ∷ [];
    caller = record { variables = λ root. Some (place root []); types = []; turns = [] };
  }

  abbrev lies : ℕ → VariableKind → ℕ → Option Place
  lies block how root = seen_from activation root (Some (record { block = block; type_id = integer; kind = how }))

  -- a variable of its block and a value parameter lie in it, a variable parameter where the variable does that is passed
  of_its_block : lies 3 kind.Local 7 ≡ Some (own_place 9 7)
  of_its_block = refl

  of_a_value : lies 3 kind.ValueParameter 5 ≡ Some (own_place 9 5)
  of_a_value = refl

  of_a_variable : lies 3 kind.VariableParameter 6 ≡ Some (place 8 [])
  of_a_variable = rw parameters

  -- what a block round its own declares lies where it does for the caller
  of_the_program : lies 0 kind.Local 1 ≡ Some (place 1 [])
  of_the_program = rw around

  of_the_block_round_it : lies 2 kind.VariableParameter 4 ≡ Some (place 4 [])
  of_the_block_round_it = rw around

  -- what another block declares isn't visible
  of_another_block : lies 1 kind.Local 4 ≡ None
  of_another_block = rw around

-- a variable that isn't visible can't get a value
not_kept : store (nowhere.visible.variables 0) (Number (pos 1)) (first_state [] 0) ≡ Gives tt (first_state [] 0)
unfolding nowhere
not_kept = refl

-- a reply without its state
data Told : Type 0 where
  Value_of : Value → Told
  End_of : Ending → Told

abbrev told : Reply Value → Told
told (Gives v s) = Value_of v
told (Stops e s) = End_of e

-- an operand of this value
abbrev operand : Value → Evaluation
operand v environment = give v

-- the undefined variable of root 0, whose site is 7
abbrev nothing_there : Evaluation
nothing_there environment = fetch (Some (place 0 [])) 7

-- the value of a variable that isn't visible is an error at its site
not_found : told (fetch (nowhere.visible.variables 0) 7 (first_state [] 0)) ≡ End_of (Error 7)
unfolding nowhere
not_found = refl

-- an operator with its right operand
abbrev link : Dyadic → Evaluation → Combination
link operation right = link_step (record { number = 1; operation = operation; operand = right })

-- the same reply, of a number
abbrev number_told : Reply ℤ → Told
number_told reply = told (and_then reply (λ n. give (Number n)))

-- an operation on one operand with a test for a range, at the site 4
abbrev tested_for : ℤ → ℤ → Shift → Monadic
tested_for first last does = monadic.Tested (record { site = 4; tests = scalar.Ordinal; range = record { first = first; last = last } }) does

-- what an operation on a number tells
abbrev of_one : Monadic → ℤ → Told
of_one operation n = number_told (operated operation n (first_state [] 0))

-- what an operation on two numbers tells
abbrev of_two : Dyadic → Value → Value → Told
of_two operation left right = told (link operation (operand right) nowhere left (first_state [] 0))

-- 5 - 10 is -5
difference : of_two (dyadic.Minus 3) (Number (pos 5)) (Number (pos 10)) ≡ Value_of (Number (negsuc 4))
unfolding nowhere
difference = refl

-- maxint + 1 is an error at the operator's site
overflows : of_two (dyadic.Plus 3) (Number (pos 2147483647)) (Number (pos 1)) ≡ End_of (Error 3)
unfolding nowhere
overflows = refl

-- -7 div 2 is the sign of 7 div 2: -3; and (-7) div 2 is cut toward zero too
sign_of_quotient :
    number_told ((combined (dyadic.Div 3) (pos 7) (pos 2) >>= operated (monadic.Plain calculation.Negative)) (first_state [] 0)) ≡
    Value_of (Number (negsuc 2))
unfolding nowhere
sign_of_quotient = refl

quotient_of_negative : of_two (dyadic.Div 3) (Number (negsuc 6)) (Number (pos 2)) ≡ Value_of (Number (negsuc 2))
unfolding nowhere
quotient_of_negative = refl

-- (-7) mod 2 is 1
modulus_of_negative : of_two (dyadic.Mod 3) (Number (negsuc 6)) (Number (pos 2)) ≡ Value_of (Number (pos 1))
unfolding nowhere
modulus_of_negative = refl

-- 7 div 0, 7 mod 0 and 7 mod -1 are errors at their sites
quotient_by_zero : of_two (dyadic.Div 3) (Number (pos 7)) (Number (pos 0)) ≡ End_of (Error 3)
unfolding nowhere
quotient_by_zero = refl

modulus_by_zero : of_two (dyadic.Mod 4) (Number (pos 7)) (Number (pos 0)) ≡ End_of (Error 4)
unfolding nowhere
modulus_by_zero = refl

modulus_by_less : of_two (dyadic.Mod 4) (Number (pos 7)) (Number (negsuc 0)) ≡ End_of (Error 4)
unfolding nowhere
modulus_by_less = refl

-- 46340 is the largest number whose square is of type integer
product_too_large : of_two (dyadic.Times 3) (Number (pos 46341)) (Number (pos 46341)) ≡ End_of (Error 3)
unfolding nowhere
product_too_large = refl

product_fits : of_two (dyadic.Times 3) (Number (pos 46340)) (Number (pos 46340)) ≡ Value_of (Number (pos 2147395600))
unfolding nowhere
product_fits = refl

square_too_large : of_one (monadic.Plain (calculation.Square 5)) (pos 46341) ≡ End_of (Error 5)
square_too_large = refl

-- abs(-maxint) is maxint, and -3 is odd
without_sign : of_one (monadic.Plain calculation.Absolute) (negsuc 2147483646) ≡ Value_of (Number (pos 2147483647))
without_sign = refl

negative_is_odd : of_one (monadic.Plain calculation.Parity) (negsuc 2) ≡ Value_of (Number (pos 1))
negative_is_odd = refl

-- chr takes 0 to 127; the last value has no successor, the first no predecessor
last_char : of_one (tested_for (pos 0) (pos 127) shift.Same) (pos 127) ≡ Value_of (Number (pos 127))
last_char = refl

no_char : of_one (tested_for (pos 0) (pos 127) shift.Same) (pos 128) ≡ End_of (Error 4)
no_char = refl

successor_of_false : of_one (tested_for (pos 0) (pos 0) shift.Next) (pos 0) ≡ Value_of (Number (pos 1))
successor_of_false = refl

no_successor : of_one (tested_for (pos 0) (pos 0) shift.Next) (pos 1) ≡ End_of (Error 4)
no_successor = refl

no_predecessor : of_one (tested_for (negsuc 2147483645) (pos 2147483647) shift.Previous) (negsuc 2147483646) ≡ End_of (Error 4)
no_predecessor = refl

-- 1 div 0 = 1, with the division's site 3
abbrev quotient_is_one : Evaluation
quotient_is_one environment =
    in_turn (link (dyadic.Div 3) (operand (Number (pos 0))) ∷ []) environment (Number (pos 1))
    >>= link (dyadic.Relation Equal) (operand (Number (pos 1))) environment

-- in false and (1 div 0 = 1) the division is an error: both operands of `and` are evaluated
both_evaluated : told (link dyadic.And quotient_is_one nowhere (Number (pos 0)) (first_state [] 0)) ≡ End_of (Error 3)
unfolding nowhere
both_evaluated = refl

-- a width of 0 is an error at its site
no_width : (width : Width) (default : ℤ) (environment : Surroundings) (s t : State) → value_of width.value environment s ≡ Gives (Number (pos 0)) t →
    width_of (Some width) default environment s ≡ Stops (Error width.site) t
no_width width default environment s t zero =
    ap (λ (r : Reply Value). and_then r (λ w. require (is_positive (number_of w)) width.site >>= λ _. give (number_of w))) zero

-- where a value stops, its width isn't evaluated
value_first : (value : Expr) (representation : Representation) (width : Option Width) (environment : Surroundings) (s t : State) (end : Ending) →
    value_of value environment s ≡ Stops end t → written_of (Ordinal value representation) width environment s ≡ Stops end t
value_first value representation width environment s t end stopped =
    let wide = width_of width (default_width representation) environment in
    ap (λ (r : Reply Value). and_then r (λ v. wide >>= λ w. write (text_of representation (number_of v) w))) stopped

-- in maxint + 1 + x the overflow is told, and the undefined x isn't reached; in maxint + x + 1 it is
left_first : told (in_turn (link (dyadic.Plus 3) (operand (Number (pos 1))) ∷ link (dyadic.Plus 4) nothing_there ∷ []) nowhere (Number (pos 2147483647))
    (first_state [] 0)) ≡ End_of (Error 3)
unfolding nowhere
left_first = refl

right_reached : told (in_turn (link (dyadic.Plus 3) nothing_there ∷ link (dyadic.Plus 4) (operand (Number (pos 1))) ∷ []) nowhere (Number (pos 2147483647))
    (first_state [] 0)) ≡ End_of (Error 7)
unfolding nowhere
right_reached = refl

-- where the condition is true the first statement is executed, and the other isn't
first_branch : (condition : Expr) (one : Box Execution Global) (other : Option (Box Execution Global)) (environment : Surroundings) (s t : State) →
    (enter 5 environment.visible >>= λ _. value_of condition environment) s ≡ Gives (Number (pos 1)) t →
    effect_step (If 5 condition one other) environment s ≡ one.value environment t
first_branch condition one other environment s t so =
    ap (λ (r : Reply Value). and_then r (λ v. if is_so v then one.value environment else alternative_of other environment)) so

-- where it is false the statement behind `else` is executed, and nothing where there is none
second_branch : (condition : Expr) (one other : Box Execution Global) (environment : Surroundings) (s t : State) →
    (enter 5 environment.visible >>= λ _. value_of condition environment) s ≡ Gives (Number (pos 0)) t →
    effect_step (If 5 condition one (Some other)) environment s ≡ other.value environment t
second_branch condition one other environment s t so =
    ap (λ (r : Reply Value). and_then r (λ v. if is_so v then one.value environment else other.value environment)) so

no_branch : (condition : Expr) (one : Box Execution Global) (environment : Surroundings) (s t : State) →
    (enter 5 environment.visible >>= λ _. value_of condition environment) s ≡ Gives (Number (pos 0)) t →
    effect_step (If 5 condition one None) environment s ≡ Gives tt t
no_branch condition one environment s t so =
    ap (λ (r : Reply Value). and_then r (λ v. if is_so v then one.value environment else give tt)) so

-- where the condition stops, no statement is executed
stopped_before : (condition : Expr) (one : Box Execution Global) (other : Option (Box Execution Global)) (environment : Surroundings) (s t : State)
    (end : Ending) → (enter 5 environment.visible >>= λ _. value_of condition environment) s ≡ Stops end t →
    effect_step (If 5 condition one other) environment s ≡ Stops end t
stopped_before condition one other environment s t end stopped =
    ap (λ (r : Reply Value). and_then r (λ v. if is_so v then one.value environment else alternative_of other environment)) stopped

-- a turn of 2 leaves 1, and of 0 none can be used
turn_used : use_turn (first_state [] 2) ≡ Gives tt (first_state [] 1)
turn_used = refl

no_turn : use_turn (first_state [] 0) ≡ Stops More (first_state [] 0)
no_turn = refl

-- a turn, and then a byte is written; where there is no turn, nothing is written
written_in_turn : (use_turn >>= λ _. write (codes "a")) (first_state [] 1) ≡ Gives tt (record (first_state [] 0) { output = codes "a" })
written_in_turn = refl

not_written : (use_turn >>= λ _. write (codes "a")) (first_state [] 0) ≡ Stops More (first_state [] 0)
not_written = refl

-- a byte, a turn, and a byte: with no turn the run stops after the first byte, and with one more it goes on from there
two_bytes : Action (Unit {0})
two_bytes = do
  _ ← write (codes "a")
  _ ← use_turn
  write (codes "b")

one_more_turn : Extends 1 (two_bytes (first_state [] 0)) (two_bytes (first_state [] 1))
unfolding two_bytes
one_more_turn = inr (record (first_state [] 0) { output = codes "a" }, refl, (codes "b", refl))

-- a run that didn't want for turns is the same with more of them, which are left
turns_to_spare : Extends 1 (two_bytes (first_state [] 1)) (two_bytes (first_state [] 2))
unfolding two_bytes
turns_to_spare = inl refl

-- whether the counter, the variable of root 0, is in this relation to a number
abbrev counter_is : Relation → ℤ → Evaluation
counter_is relation number environment = do
  v ← fetch (Some (place 0 [])) 7
  n ← combined (dyadic.Relation relation) (number_of v) number
  give (Number n)

-- writes a byte and increases the counter
abbrev counts : Execution
counts environment = do
  _ ← write (codes "a")
  v ← fetch (Some (place 0 [])) 7
  n ← combined (dyadic.Plus 3) (number_of v) (pos 1)
  store (Some (place 0 [])) (Number n)

-- what a loop writes and how it ends, where the counter is 0 at first
abbrev from_zero : Round (Unit {0}) → ℕ → Meaning
from_zero round turns = ended (looped round tt (record (first_state [] turns) { store = written [] (place 0 []) (Number (pos 0)) }))

-- while the counter is less than a number, and until it is that number
abbrev while_less : ℤ → Round (Unit {0})
while_less number = while_round (counter_is Less number) counts nowhere

abbrev until_equal : ℤ → Round (Unit {0})
until_equal number = repeat_round counts (counter_is Equal number) nowhere

-- a while tests before its first turn, and uses none where its condition is false at once
no_turn_of_while : from_zero (while_less (pos 0)) 0 ≡ record { output = []; ending = Finished }
unfolding nowhere
no_turn_of_while = refl

turns_of_while : from_zero (while_less (pos 3)) 3 ≡ record { output = codes "aaa"; ending = Finished }
unfolding nowhere
turns_of_while = refl

-- with a turn less than it asks for, the run stops where the next would begin
while_wants_more : from_zero (while_less (pos 3)) 2 ≡ record { output = codes "aa"; ending = More }
unfolding nowhere
while_wants_more = refl

-- a repeat tests behind its first turn
no_turn_of_repeat : from_zero (until_equal (pos 1)) 0 ≡ record { output = []; ending = More }
unfolding nowhere
no_turn_of_repeat = refl

turn_of_repeat : from_zero (until_equal (pos 1)) 1 ≡ record { output = codes "a"; ending = Finished }
unfolding nowhere
turn_of_repeat = refl

turns_of_repeat : from_zero (until_equal (pos 3)) 5 ≡ record { output = codes "aaa"; ending = Finished }
unfolding nowhere
turns_of_repeat = refl

repeat_wants_more : from_zero (until_equal (pos 0)) 4 ≡ record { output = codes "aaaa"; ending = More }
unfolding nowhere
repeat_wants_more = refl

-- where each variable lies at the same place
everywhere : Surroundings
everywhere = record {
  visible = record { variables = λ root. Some (place 0 []); types = []; turns = [] };
  records = [];
  calls = λ number arguments caller. stop More;
}

abbrev number_out : ℤ → Action (Unit {0})
number_out n = write (places n ∷ [])

-- writes the control variable, as a number without its sign
abbrev written_out : Execution
written_out environment = do
  v ← fetch (environment.visible.variables 0) 7
  n ← operated (monadic.Plain calculation.Absolute) (number_of v)
  number_out n

abbrev integers : OrdinalRange
integers = record { first = negsuc 2147483646; last = pos 2147483647 }

module _ (some : ForHead) where
  -- a for whose control variable has the values of a range, from bounds that are tested at the sites 8 and 9
  abbrev counting : OrdinalRange → Direction → ForHead
  counting range direction = record some {
    control = 0;
    first = record some.first { fits = record { site = 8; tests = scalar.Ordinal; range = range } };
    direction = direction;
    last = record some.last { fits = record { site = 9; tests = scalar.Ordinal; range = range } };
  }

  abbrev counts_out : OrdinalRange → Direction → ℤ → ℤ → Action (Unit {0})
  counts_out range direction first last = do
    _ ← for_between (counting range direction) written_out everywhere first last
    undefine (everywhere.visible.variables 0)

  abbrev of_for : OrdinalRange → Direction → ℤ → ℤ → ℕ → Meaning
  of_for range direction first last turns = ended (counts_out range direction first last (first_state [] turns))

  upward : of_for integers To (pos 1) (pos 3) 3 ≡ record { output = 1 ∷ 2 ∷ 3 ∷ []; ending = Finished }
  unfolding everywhere
  upward = refl

  downward : of_for integers DownTo (pos 2) (negsuc 0) 9 ≡ record { output = 2 ∷ 1 ∷ 0 ∷ 1 ∷ []; ending = Finished }
  unfolding everywhere
  downward = refl

  -- the last value may be the last of type integer: behind it the control variable isn't increased
  to_maxint : of_for integers To (pos 2147483646) (pos 2147483647) 2 ≡ record { output = 2147483646 ∷ 2147483647 ∷ []; ending = Finished }
  unfolding everywhere
  to_maxint = refl

  down_to_the_least : of_for integers DownTo (negsuc 2147483645) (negsuc 2147483646) 2 ≡
      record { output = 2147483646 ∷ 2147483647 ∷ []; ending = Finished }
  unfolding everywhere
  down_to_the_least = refl

  -- where there is no value between the bounds, nothing is executed, no turn is used and no bound is tested
  never : of_for booleans To (pos 7) (pos 6) 0 ≡ record { output = []; ending = Finished }
  unfolding everywhere
  never = refl

  -- with a turn less than it asks for
  for_wants_more : of_for integers To (pos 1) (pos 3) 2 ≡ record { output = 1 ∷ 2 ∷ []; ending = More }
  unfolding everywhere
  for_wants_more = refl

  -- both bounds are tested before the first value, and the first one first
  last_is_outside : of_for booleans To (pos 0) (pos 2) 5 ≡ record { output = []; ending = Error 9 }
  unfolding everywhere
  last_is_outside = refl

  both_are_outside : of_for booleans DownTo (pos 3) (pos 2) 5 ≡ record { output = []; ending = Error 8 }
  unfolding everywhere
  both_are_outside = refl

  -- behind the for its control variable is undefined, also where nothing was executed
  undefined_behind : ended ((counts_out integers To (pos 1) (pos 1) >>= λ _. written_out everywhere) (first_state [] 1)) ≡
      record { output = 1 ∷ []; ending = Error 7 }
  unfolding everywhere
  undefined_behind = refl

  undefined_all_the_same :
      ended ((store (everywhere.visible.variables 0) (Number (pos 5)) >>= λ _. counts_out integers To (pos 1) (pos 0) >>= λ _. written_out everywhere)
      (first_state [] 1)) ≡
      record { output = []; ending = Error 7 }
  unfolding everywhere
  undefined_all_the_same = refl

-- the entry with the number 5
abbrev entered_once : Execution
entered_once environment = enter 5 environment.visible

module _ (some : ForHead) where
  -- what the entries of the statement of such a for tell of finished turns, where the visits before are left out
  abbrev turns_told : Direction → ℤ → ℤ → List (List ℕ)
  turns_told direction first last =
      map (λ (visit : Visit). visit.environment.turns)
      (state_after (for_between (counting some integers direction) entered_once everywhere first last (first_state [] 9))).visited

  told_upward : turns_told To (negsuc 0) (pos 1) ≡ (0 ∷ []) ∷ (1 ∷ []) ∷ (2 ∷ []) ∷ []
  unfolding everywhere
  told_upward = refl

  told_downward : turns_told DownTo (pos 1) (pos 0) ≡ (0 ∷ []) ∷ (1 ∷ []) ∷ []
  unfolding everywhere
  told_downward = refl

-- a case whose arms write a number each, 1 before the constants 1 and 2, and 2 before the constants 2 and -1, at the site 7
abbrev writes : ℕ → Execution
writes number environment = write (number ∷ [])

module _ (one other : Vec ℤ Global) (first : one.items ≡ pos 1 ∷ pos 2 ∷ []) (second : other.items ≡ pos 2 ∷ negsuc 0 ∷ []) where
  abbrev of_case : ℤ → Meaning
  of_case n = ended (arm_of 7 (one ∷ other ∷ []) (writes 1 ∷ writes 2 ∷ []) n everywhere (first_state [] 0))

  -- the first arm that fits
  first_arm : of_case (pos 2) ≡ record { output = 1 ∷ []; ending = Finished }
  first_arm = rw first

  second_arm : of_case (negsuc 0) ≡ record { output = 2 ∷ []; ending = Finished }
  second_arm = rw (first, second)

  -- no constants hold the value
  no_arm : of_case (pos 3) ≡ record { output = []; ending = Error 7 }
  no_arm = rw (first, second)

-- an index within 0 to 1, tested at the site 8
abbrev element : Selector
element = SelectElement (record { site = 8; tests = scalar.Ordinal; range = booleans }) 2

-- x[1].g[0], where g is the field at place 3: each index leads further
abbrev access_of : List Evaluation → Reply (Option Place)
access_of indexes = selected (element ∷ SelectField 3 5 ∷ element ∷ []) indexes nowhere (Some (place 0 [])) (first_state [] 0)

component : access_of (operand (Number (pos 1)) ∷ operand (Number (pos 0)) ∷ []) ≡
    Gives (Some (place 0 (Element (pos 1) ∷ Field 3 ∷ Element (pos 0) ∷ []))) (first_state [] 0)
unfolding nowhere
component = refl

-- an index is tested before the next one is evaluated
first_index_tested : access_of (operand (Number (pos 2)) ∷ nothing_there ∷ []) ≡ Stops (Error 8) (first_state [] 0)
unfolding nowhere
first_index_tested = refl

second_index_undefined : access_of (operand (Number (pos 1)) ∷ nothing_there ∷ []) ≡ Stops (Error 7) (first_state [] 0)
unfolding nowhere
second_index_undefined = refl

-- two elements: their values are read back in their order
abbrev two_elements : List (List Step)
two_elements = (Element (pos 1) ∷ []) ∷ (Element (pos 2) ∷ []) ∷ []

abbrev read_back : Action (Unit {0}) → Reply (List Value)
read_back stored = (stored >>= λ _. fetch_all (Some (place 0 [])) two_elements 7) (first_state [] 0)

abbrev values_told : Reply (List Value) → List Value
values_told (Gives values s) = values
values_told (Stops e s) = []

abbrev two_values : List Value
two_values = Number (pos 5) ∷ Number (pos 6) ∷ []

both_read : values_told (read_back (store_all (Some (place 0 [])) two_elements two_values)) ≡ two_values
both_read = refl

-- where one of them is undefined, the whole value is
abbrev one_stored : State
one_stored = record (first_state [] 0) { store = written [] (place 0 (Element (pos 1) ∷ [])) (Number (pos 5)) }

one_undefined : read_back (store (Some (place 0 (Element (pos 1) ∷ []))) (Number (pos 5))) ≡ Stops (Error 7) one_stored
one_undefined = refl

-- a set constructor whose members are these, each tested at the site 5
abbrev members_told : List Designator → List Evaluation → Told
members_told designators members = told (and_then (gathered designators members nowhere 0 (first_state [] 0)) (λ set. give (Members set)))

abbrev number : ℤ → Evaluation
number n = operand (Number n)

-- [1, 3..5] has the bits 1, 3, 4 and 5
of_one_and_three : members_told (Single 5 ∷ Range 5 ∷ []) (number (pos 1) ∷ number (pos 3) ∷ number (pos 5) ∷ []) ≡ Value_of (Members 58)
unfolding nowhere
of_one_and_three = refl

-- [200..-1] is empty, and errs nowhere; [0..128] errs
nothing_between : members_told (Range 5 ∷ []) (number (pos 200) ∷ number (negsuc 0) ∷ []) ≡ Value_of (Members 0)
unfolding nowhere
nothing_between = refl

last_outside : members_told (Range 5 ∷ []) (number (pos 0) ∷ number (pos 128) ∷ []) ≡ End_of (Error 5)
unfolding nowhere
last_outside = refl

-- a member is tested before the next one is evaluated, and both ends of a range are evaluated before its test
first_member_tested : members_told (Single 5 ∷ Single 6 ∷ []) (number (negsuc 0) ∷ nothing_there ∷ []) ≡ End_of (Error 5)
unfolding nowhere
first_member_tested = refl

last_end_undefined : members_told (Range 5 ∷ []) (number (pos 128) ∷ nothing_there ∷ []) ≡ End_of (Error 7)
unfolding nowhere
last_end_undefined = refl

-- [1, 2] + [2, 3], [1, 2] - [2, 3] and [1, 2] * [2, 3]
either : of_two dyadic.Union (Members 6) (Members 12) ≡ Value_of (Members 14)
unfolding nowhere
either = refl

first_alone : of_two dyadic.Difference (Members 6) (Members 12) ≡ Value_of (Members 2)
unfolding nowhere
first_alone = refl

in_both : of_two dyadic.Intersection (Members 6) (Members 12) ≡ Value_of (Members 4)
unfolding nowhere
in_both = refl

-- [1] <= [1, 2], but [1, 2] <= [1] is false; 2 is in [1, 2], and 200 and -1 are in no set
inside : of_two (dyadic.SetRelation set_relation.Included) (Members 2) (Members 6) ≡ Value_of (Number (pos 1))
unfolding nowhere
inside = refl

not_inside : of_two (dyadic.SetRelation set_relation.Included) (Members 6) (Members 2) ≡ Value_of (Number (pos 0))
unfolding nowhere
not_inside = refl

is_there : of_two dyadic.In (Number (pos 2)) (Members 6) ≡ Value_of (Number (pos 1))
unfolding nowhere
is_there = refl

too_large : of_two dyadic.In (Number (pos 200)) (Members 6) ≡ Value_of (Number (pos 0))
unfolding nowhere
too_large = refl

too_small : of_two dyadic.In (Number (negsuc 0)) (Members 6) ≡ Value_of (Number (pos 0))
unfolding nowhere
too_small = refl

-- [0, 1] fits a set of Booleans, and [1, 2] doesn't
fits_booleans : is_in booleans (Members 3) ≡ true
fits_booleans = refl

not_booleans : is_in booleans (Members 6) ≡ false
not_booleans = refl

-- an access in two with statements begins at the record of its slot, and nowhere where there is none
in_with : begun (AtRecord 0 1 []) (record nowhere { records = Some (place 0 []) ∷ Some (place 0 (Field 2 ∷ [])) ∷ [] }) ≡ Some (place 0 (Field 2 ∷ []))
in_with = refl

no_record : begun (AtRecord 0 1 []) nowhere ≡ None
unfolding nowhere
no_record = refl
