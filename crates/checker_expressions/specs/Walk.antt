-- The walk of the checker over an expression, one equation a form: what is known of its value, the state after it, the
-- sites that it leaves open, the rules of certificates that its calls break, and the state at each entry into an
-- expression (ISO 7185:1990, 6.7, 6.8.3.10). It does not say that a run does what the walk says of it.
use Rattle.std.specs.Prelude.{ℕ, pos, Bool, not, ◌||◌, int_le, List, [], ◌∷◌, ◌++◌}
use Rattle.std.specs.Prelude.{Option, Some, None, if◌then◌else◌, flat_map, map, ◌&&◌, true, false, nat_eq, slice_get}
use Rattle.std.specs.List.{list_all, list_any}
use Rattle.place.specs.declared.Place.{Place}
use Rattle.typed_tree.specs.declared.tree.Tree.{Tree}
use Rattle.typed_tree.specs.declared.tree.Access.{Access}
use Rattle.typed_tree.specs.declared.tree.Block.{Block}
use Rattle.typed_tree.specs.declared.tree.Call.{Call}
use Rattle.typed_tree.specs.declared.tree.FunctionResult.{FunctionResult}
use Rattle.typed_tree.specs.declared.tree.Selector.{Selector}
use Rattle.typed_tree.specs.declared.tree.Selector.TheVariants.{Element, Field}
use Rattle.typed_tree.specs.declared.tree.RangeTest.{RangeTest}
use Rattle.typed_tree.specs.declared.tree.Monadic.{Monadic}
use Rattle.typed_tree.specs.declared.tree.Monadic.TheVariants as monadic
use Rattle.typed_tree.specs.declared.tree.Calculation.{Calculation}
use Rattle.typed_tree.specs.declared.tree.Calculation.TheVariants as calculation
use Rattle.typed_tree.specs.declared.tree.Shift.{Shift}
use Rattle.typed_tree.specs.declared.tree.Shift.TheVariants as shift
use Rattle.typed_tree.specs.declared.tree.Dyadic.{Dyadic}
use Rattle.typed_tree.specs.declared.tree.Dyadic.TheVariants as dyadic
use Rattle.typed_tree.specs.declared.tree.Designator.{Designator}
use Rattle.typed_tree.specs.declared.tree.Designator.TheVariants.{Single, Range}
use Rattle.typed_tree.specs.declared.tree.PathStep.{PathStep}
use Rattle.typed_tree.specs.declared.tree.PathStep.TheVariants as path
use Rattle.typed_tree.specs.declared.tree.Scalar.{Scalar}
use Rattle.typed_tree.specs.declared.tree.Scalar.TheVariants as scalar
use Rattle.typed_tree.specs.declared.tree.Width.{Width}
use Rattle.typed_tree.specs.declared.tree.WriteParameter.{WriteParameter}
use Rattle.typed_tree.specs.declared.tree.Written.{Written}
use Rattle.typed_tree.specs.declared.tree.Written.TheVariants as written
use Rattle.typed_tree.specs.declared.tree.Whole.{Whole}
use Rattle.typed_tree.specs.declared.tree.Whole.TheVariants.{Text, Variable as VariableOf}
use Rattle.types.specs.Types.{is_structured}
use Rattle.types.specs.declared.form.TypeId.{TypeId}
use Rattle.typed_tree.specs.declared.tree.Expr.{Expr}
use Rattle.typed_tree.specs.declared.tree.Link.{Link}
use Rattle.typed_tree.specs.declared.tree.Passed.{Passed}
use Rattle.typed_tree.specs.declared.tree.Expr.TheOpen.{Expr-F, Passed-F, Link-F}
use Rattle.typed_tree.specs.declared.tree.Expr.TheOpen.Expr-F.{Constant, Variable, Monadic as MonadicOf, Chain}
use Rattle.typed_tree.specs.declared.tree.Expr.TheOpen.Expr-F.{Compare, Call as CallOf, Set as SetOf, Input}
use Rattle.typed_tree.specs.declared.tree.Expr.TheOpen.Passed-F.{Value as PassedValue, Whole as PassedWhole, Reference}
use Rattle.typed_tree.specs.declared.tree.Expr.TheFolds.{fold-Expr, fold-Passed, fold-Link}
use Rattle.typed_tree.specs.Accesses.{Origin, origin_of, steps_of}
use Rattle.typed_tree.specs.WellFormed.{of_one, whole_indexes}
use Rattle.domain.specs.Versions.{has}
use Rattle.domain.specs.declared.versions.Extension.TheVariants.{Blocks, Boxes, Calls}
use Rattle.domain.specs.declared.versions.Version.{Version}
use Rattle.domain.specs.Interval.{Interval, is_included, has_number, common, sum, difference, negated, product, squared}
use Rattle.domain.specs.Interval.{absolute, quotient, remainder, without_zero_end, at_least, both, either}
use Rattle.domain.specs.Interval.{complement, joined, truth_values, vacant}
use Rattle.domain.specs.Hull.{hull_of}
use Rattle.members.specs.declared.sets.Operator.TheVariants as operator
use Rattle.checker_state.specs.Bounds.{Bound}
pub use Rattle.checker_state.specs.Conditions.{joins}
use Rattle.meaning.specs.Meaning.{overflow_of, overflow_of_both}
use Rattle.checker_expressions.specs.declared.fault.Breach.{Breach}
use Rattle.checker_expressions.specs.declared.fault.Rule.{Rule}
use Rattle.checker_expressions.specs.declared.fault.Rule.TheVariants.{Aliases, CallEntry, Changes}
use Rattle.checker_expressions.specs.declared.noting.Noted.{Noted}
use Rattle.checker_state.specs.declared.value.Known.{Known}
use Rattle.checker_state.specs.declared.value.Known.TheVariants.{Ordinal, Set}
use Rattle.checker_state.specs.Values.{is_closed_member, is_closed_range, known_range, no_members, operated_sets}
use Rattle.checker_state.specs.Values.{tested_member, unless_none, with_member, with_members}
use Rattle.checker_rows.specs.Limits.{integer, limits_of}
use Rattle.checker_state.specs.State.{State, is_dead, range_of, unless_empty, with_defined}
use Rattle.checker_state.specs.declared.forms.Form.{Form}
use Rattle.checker_state.specs.declared.forms.Form.TheVariants.{Fixed, Other}
use Rattle.checker_state.specs.declared.forms.Spelling.TheVariants.{Literal}
use Rattle.checker_state.specs.Forms.{Operand, access_form, bound_of, chain_form, sign_form}
use Rattle.checker_rows.specs.Rows.{is_ordinal_variable, rows_accessed}
use Rattle.checker_state.specs.Stores.{Index, Reach, entire, gives_reached, is_entire}
use Rattle.checker_state.specs.Loops.{is_among}
use Rattle.checker_loops.specs.Loops.{Claims, Round, all_list}
use Rattle.checker_state.specs.State.{table_of}
use Rattle.checker_loops.specs.Pairs.{Listed, aliases_of}
use Rattle.checker_loops.specs.Ways.{single}
use Rattle.checker_loops.specs.Sections.{BlockClaims, block_claims_at}
use Rattle.checker_loops.specs.Starts.{is_own}
use Rattle.checker_calls.specs.Actuals.{Actual, OfValue, OfRows, OfVariable, Binding, bound_to, settled}
use Rattle.checker_calls.specs.Actuals.{unknown_index, unknown_reach}
use Rattle.checker_calls.specs.Entry.{are_given}
use Rattle.checker_calls.specs.Overlaps.{are_separate}
use Rattle.checker_calls.specs.Exit.{behind_call, result_range, roots_changed}

-- what a walk goes by: the version of the certificate, by whose rules it goes; the program, the claims on its loops and
-- its blocks, the listed pairs, the number of the block, and the loops round the point, the outermost first
pub record Context : Type 0 where
  pub version : Version
  pub tree : Tree
  pub claims : List Claims
  pub blocks : List BlockClaims
  pub pairs : Listed
  pub block : ℕ
  pub rounds : List Round

-- a state that is linked to a number, that of the statement or expression which is entered with it
pub record Linked : Type 0 where
  pub number : ℕ
  pub state : State

-- what a piece of a walk gives: a value, the state after it, the ids of the sites that aren't closed, the rules that
-- are broken, and the states that are linked
pub record Walked (A : Type 0) : Type 0 where
  pub value : A
  pub after : State
  pub open_ids : List ℕ
  pub broken : List Breach
  pub linked : List Linked

-- a piece of a walk, in its context and from the state before it
abbrev pub Walking : Type 0 → Type 0
Walking A = Context → State → Walked A

-- goes on from what was walked
abbrev pub followed : {A B : Type 0} → Walked A → Walked B → Walked B
followed first second = record {
  value = second.value;
  after = second.after;
  open_ids = first.open_ids ++ second.open_ids;
  broken = first.broken ++ second.broken;
  linked = first.linked ++ second.linked;
}

-- one after the other
infixl 10 ◌>>=◌
abbrev pub ◌>>=◌ : {A B : Type 0} → Walking A → (A → Walking B) → Walking B
(first >>= next) context state =
    followed (first context state) (next (first context state).value context (first context state).after)

-- a value, and nothing changes
abbrev pub give : {A : Type 0} → A → Walking A
give value context state = record { value = value; after = state; open_ids = []; broken = []; linked = [] }

-- the entry into a statement or an expression
abbrev pub enter : ℕ → Walking (Unit {0})
enter number context state =
    record
    { value = tt; after = state; open_ids = []; broken = []; linked = record { number = number; state = state } ∷ [] }

-- another state from here on
abbrev pub with_state : State → Walking (Unit {0})
with_state after context state = record { value = tt; after = after; open_ids = []; broken = []; linked = [] }

-- what is known is changed
abbrev pub changed_by : (State → State) → Walking (Unit {0})
changed_by change context state = with_state (change state) context state

-- a rule that is kept, or broken at a place
abbrev pub breach_unless : Bool → Rule → Place → List Breach
breach_unless kept rule place = if kept then [] else record { rule = rule; place = place } ∷ []

-- what a rule asks for at a place
abbrev pub asked : Bool → Rule → Place → Walking (Unit {0})
asked kept rule place context state =
    record { value = tt; after = state; open_ids = []; broken = breach_unless kept rule place; linked = [] }

-- the block lists a variable among those that it changes
abbrev pub block_lists : Context → ℕ → Bool
block_lists context root = is_among root (block_claims_at context.blocks context.block).changes

-- a variable may be changed: each loop round the point lists it, and so does the block, unless it is a variable of its
-- variable declaration part, or its result
abbrev pub may_change : Context → ℕ → Bool
may_change context root =
    all_list root context.rounds
    && (of_one (is_own context.block) (slice_get context.tree.variables.items root) || block_lists context root)

-- the numbers to which states are linked
abbrev pub numbers_of : List Linked → List ℕ
numbers_of = map (λ one. one.number)

-- the first breach of a list, if there is one
abbrev pub first_breach : List Breach → Option Breach
first_breach [] = None
first_breach (breach ∷ breaches) = Some breach

-- a site is left open unless it is closed
abbrev pub left_open : Bool → ℕ → List ℕ
left_open closed site = if closed then [] else site ∷ []

-- a test at a site, of which nothing more is known behind it: closed where it surely passes
abbrev pub checked : Bool → ℕ → Walking (Unit {0})
checked closed site context state =
    record { value = tt; after = state; open_ids = left_open (is_dead state || closed) site; broken = []; linked = [] }

-- the test of a number at a site: afterwards the number lies in the range that passes
abbrev pub tested : Bool → ℕ → Interval → Walking Interval
tested closed site passed context state = record {
  value = passed;
  after = unless_empty passed state;
  open_ids = left_open (is_dead state || closed) site;
  broken = [];
  linked = [];
}

-- a value that has to lie in limits: its range is met with them
abbrev pub within : Interval → ℕ → Interval → Walking Interval
within limits site range = tested (is_included range limits) site (common range limits)

-- a number that has to be at least 1
abbrev pub positive : ℕ → Interval → Walking Interval
positive site range = tested (int_le (pos 1) range.first) site (at_least (pos 1) range)

-- a divisor, which may not be 0: an end of its range that is 0 is cut off
abbrev pub divisor : ℕ → Interval → Walking Interval
divisor site range = tested (not (has_number range (pos 0))) site (without_zero_end range)

-- an ordinal of a range, and a set of a hull
abbrev pub ordinal : Interval → Walking Known
ordinal range = give (Ordinal range)

abbrev pub set : Interval → Walking Known
set hull = give (Set hull)

-- such a value with its number, or its members, in a range
abbrev pub held_in : Scalar → Interval → Known
held_in scalar.Ordinal range = Ordinal range
held_in scalar.Set range = Set (hull_of range)

-- what a value is
abbrev pub scalar_of : Known → Scalar
scalar_of (Ordinal range) = scalar.Ordinal
scalar_of (Set hull) = scalar.Set

-- a result that has to be an integer, where its overflow has a site
abbrev pub unless_overflow : Option ℕ → Interval → Walking Known
unless_overflow None range = ordinal range
unless_overflow (Some site) range = do
  passed ← within integer site range
  ordinal passed

-- the range of what is calculated from the numbers of a range
abbrev pub calculated : Calculation → Interval → Interval
calculated calculation.Same range = range
calculated calculation.Negative range = negated range
calculated calculation.Complement range = complement range
calculated calculation.Absolute range = absolute range
calculated (calculation.Square overflow) range = squared range
calculated calculation.Parity range = truth_values
calculated calculation.Ordinal range = range

-- the range behind a test
abbrev pub shifted : Shift → Interval → Interval
shifted shift.Same range = range
shifted shift.Next range = sum range single
shifted shift.Previous range = difference range single

-- an operation on one operand, by what is known of the operand
abbrev pub operated : Monadic → Known → Walking Known
operated (monadic.Plain does) known = unless_overflow (overflow_of does) (calculated does (known_range known))
operated (monadic.Tested fits does) known = do
  passed ← within (limits_of fits.range) fits.site (known_range known)
  ordinal (shifted does passed)

-- the test of a right operand, where it is a divisor: that of `mod` has to be at least 1
abbrev pub divides : Dyadic → Interval → Walking Interval
divides (dyadic.Div by_zero) range = divisor by_zero range
divides (dyadic.Mod by_zero_or_less) range = positive by_zero_or_less range
divides other range = give range

-- the range of what is calculated from a number of each range; the operations of sets calculate none
abbrev pub of_both : Dyadic → Interval → Interval → Interval
of_both (dyadic.Plus overflow) left right = sum left right
of_both (dyadic.Minus overflow) left right = difference left right
of_both (dyadic.Times overflow) left right = product left right
of_both (dyadic.Div by_zero) left right = quotient left right
of_both (dyadic.Mod by_zero_or_less) left right = remainder left right
of_both dyadic.And left right = both left right
of_both dyadic.Or left right = either left right
of_both other left right = truth_values

-- an operation on the ranges of two numbers
abbrev pub calculated_both : Dyadic → Interval → Interval → Walking Known
calculated_both operation left right = do
  passed ← divides operation right
  unless_overflow (overflow_of_both operation) (of_both operation left passed)

-- the hull of a set
abbrev pub hull_known : Known → Interval
hull_known (Ordinal range) = hull_of range
hull_known (Set hull) = hull

-- an operation on two operands, by what is known of them: of two sets, a relation of them, or whether a number is a
-- member of a set; else of two numbers
abbrev pub combined : Dyadic → Known → Known → Walking Known
combined dyadic.Union left right = set (operated_sets operator.Union (hull_known left) (hull_known right))
combined dyadic.Difference left right = set (operated_sets operator.Difference (hull_known left) (hull_known right))
combined dyadic.Intersection left right =
    set (operated_sets operator.Intersection (hull_known left) (hull_known right))
combined (dyadic.SetRelation relation) left right = ordinal truth_values
combined dyadic.In left right = ordinal truth_values
combined of_numbers left right = calculated_both of_numbers (known_range left) (known_range right)

-- the test of a value at a site: afterwards the value is one that passes
abbrev pub tested_value : Bool → ℕ → Known → Walking Known
tested_value closed site passed context state = record {
  value = passed;
  after = unless_none passed state;
  open_ids = left_open (is_dead state || closed) site;
  broken = [];
  linked = [];
}

-- a value whose number lies in limits, or whose members do
abbrev pub limited : Interval → Known → Known
limited limits known = held_in (scalar_of known) (common (known_range known) limits)

-- a value has to lie in the range of a type
abbrev pub fitting : RangeTest → Known → Walking Known
fitting fits known =
    tested_value (is_included (known_range known) (limits_of fits.range)) fits.site
    (limited (limits_of fits.range) known)

-- ---- set constructors

-- where a set constructor is evaluated: the hull of the members so far, the designators that are left, and where the
-- first value of a range lies whose last value comes next
pub record Gathering : Type 0 where
  pub hull : Interval
  pub left : List Designator
  pub first : Option Interval

-- before the first member
abbrev pub none_gathered : List Designator → Gathering
none_gathered designators = record { hull = no_members; left = designators; first = None }

-- a set with a member more, which is tested
abbrev pub member_walk : ℕ → Interval → Interval → Walking Interval
member_walk site range hull = do
  passed ← tested (is_closed_member range) site (tested_member range)
  give (with_member hull passed)

-- a set with all members from a first to a last one more, which are tested if there are any
abbrev pub between_walk : ℕ → (first last : Interval) → Interval → Walking Interval
between_walk site first last hull = do
  _ ← checked (is_closed_range first last) site
  give (with_members hull first last)

-- the value of a member expression, by the designators that are left: a member, the first of several, or the last
abbrev pub gathered_by : List Designator → Option Interval → Interval → Interval → Walking Gathering
gathered_by [] first range hull = give (record { hull = hull; left = []; first = first })
gathered_by (Single site ∷ left) first range hull = do
  more ← member_walk site range hull
  give (record { hull = more; left = left; first = None })
gathered_by (Range site ∷ left) None range hull =
    give (record { hull = hull; left = Range site ∷ left; first = Some range })
gathered_by (Range site ∷ left) (Some first) range hull = do
  more ← between_walk site first range hull
  give (record { hull = more; left = left; first = None })

abbrev pub gathered : Gathering → Interval → Walking Gathering
gathered gathering range = gathered_by gathering.left gathering.first range gathering.hull

-- ---- accesses

-- the test of the next index that selectors take, and the selectors behind the element of that index
abbrev pub next_test : List Selector → Option RangeTest
next_test [] = None
next_test (Element fits cells ∷ selectors) = Some fits
next_test (Field position offset ∷ selectors) = next_test selectors

abbrev pub behind_next : List Selector → List Selector
behind_next [] = []
behind_next (Element fits cells ∷ selectors) = selectors
behind_next (Field position offset ∷ selectors) = behind_next selectors

-- what is noted in an expression of the operands of its operators, in the order in which they stand
abbrev pub Noting : Type 0
Noting = Context → State → List Noted

-- a call that stands in an expression, with its actual parameters: of one that is a variable what the text tells, of
-- others nothing
pub record Calling : Type 0 where
  pub call : Call
  pub actuals : List Actual

-- an expression: its walk, its form, as far as that is part of a bound form, by which variables are ordinals, whether
-- it holds a call, the calls in it, also those in actual parameters of others, and what is noted in it
pub record Piece : Type 0 where
  pub walk : Walking Known
  pub form : (ordinal : ℕ → Bool) → Form
  pub holds_call : Bool
  pub calls : List Calling
  pub noted : Noting

-- an actual parameter: its walk, whether it holds a call, the calls in it, and what the text tells of it
pub record PassedPiece : Type 0 where
  pub walk : Walking Actual
  pub holds_call : Bool
  pub calls : List Calling
  pub told : Actual

abbrev pub hold_call : List Piece → Bool
hold_call pieces = list_any (λ piece. piece.holds_call) pieces

abbrev pub calls_in : List Piece → List Calling
calls_in pieces = flat_map (λ piece. piece.calls) pieces

-- ---- what calls touch

-- by what it is told what calls touch: the program, the claims on its blocks, and the listed pairs
pub record Callees : Type 0 where
  pub tree : Tree
  pub blocks : List BlockClaims
  pub pairs : List (ℕ × ℕ)

abbrev pub callees_of : Context → Callees
callees_of context = record { tree = context.tree; blocks = context.blocks; pairs = context.pairs.pairs }

-- the formal parameters of a block
abbrev pub parameters_of : Option Block → List ℕ
parameters_of None = []
parameters_of (Some block) = block.heading.parameters.items

-- the variables that a call may change: of what its callee lists a formal parameter stands for the variable that is
-- passed, if one is
abbrev pub changed_in : Callees → Calling → List ℕ
changed_in callees calling =
    roots_changed (bound_to (parameters_of (slice_get callees.tree.blocks.items calling.call.block)) calling.actuals)
    (block_claims_at callees.blocks calling.call.block).changes

-- a variable that is changed is another one, or may share a place with it
abbrev pub is_or_pairs : Callees → (root changed : ℕ) → Bool
is_or_pairs callees root changed = nat_eq changed root || is_among root (aliases_of callees.pairs changed)

-- a call touches a variable
abbrev pub touches : Callees → ℕ → Calling → Bool
touches callees root calling = list_any (is_or_pairs callees root) (changed_in callees calling)

-- a bound, by its variable, stands behind calls: none of them touches it; and a constant stands
abbrev pub stands_behind : Callees → List Calling → Option ℕ → Bool
stands_behind callees calls None = true
stands_behind callees calls (Some root) = not (list_any (touches callees root) calls)

abbrev pub form_behind : Callees → List Calling → Option Bound → Option Bound
form_behind callees calls None = None
form_behind callees calls (Some form) = if stands_behind callees calls form.root then Some form else None

-- what an access reaches, of whose indexes the forms count that stand behind calls
abbrev pub index_behind : Callees → List Calling → Index → Index
index_behind callees calls index = record index { form = form_behind callees calls index.form }

abbrev pub reach_behind : Callees → List Calling → Reach → Reach
reach_behind callees calls reach = record reach { indexes = map (index_behind callees calls) reach.indexes }

-- what was reached before other expressions were evaluated; in a version without calls beside forms nothing is known of
-- indexes behind any call
abbrev pub reach_before : Context → List Piece → Reach → Reach
reach_before context later reach =
    if has context.version Calls then reach_behind (callees_of context) (calls_in later) reach
    else (if hold_call later then unknown_reach reach else reach)

-- ---- forms

-- the bound form of an expression, by which variables are ordinals, and by the rules of a version
abbrev pub form_by : (ordinal : ℕ → Bool) → Version → Piece → Option Bound
form_by ordinal version piece = bound_of version (piece.form ordinal)

-- the same, where others were evaluated behind it
abbrev pub form_before_by : (ordinal : ℕ → Bool) → Version → Piece → List Piece → Option Bound
form_before_by ordinal version piece later = if hold_call later then None else form_by ordinal version piece

-- so it is in a program
abbrev pub form_in : Context → Piece → Option Bound
form_in context piece = form_by (is_ordinal_variable context.tree) context.version piece

abbrev pub form_before : Context → Piece → List Piece → Option Bound
form_before context piece later = form_before_by (is_ordinal_variable context.tree) context.version piece later

-- an index is tested, if selectors take it: where it lies then
abbrev pub index_test : Option RangeTest → Known → Walking Interval
index_test None known = give (known_range known)
index_test (Some fits) known = do
  passed ← fitting fits known
  give (known_range passed)

-- the next index that selectors take is that of an array itself, and not of a part of it
abbrev pub begin_at_element : List Selector → Bool
begin_at_element [] = false
begin_at_element (Element fits cells ∷ selectors) = true
begin_at_element (Field position offset ∷ selectors) = false

-- it is kept behind another: in a version with blocks an access keeps the second index of a matrix, and in one with
-- boxes any second index
abbrev pub is_kept : Version → List Selector → Bool
is_kept version selectors = has version Boxes || (has version Blocks && begin_at_element selectors)

-- what is reached with one index more: the first is kept, and one right behind it, if that is to be
abbrev pub deeper_by : (keeps : Bool) → Index → List Index → Reach → Reach
deeper_by keeps index [] reach = record reach { indexes = index ∷ [] }
deeper_by true index (one ∷ []) reach = record reach { indexes = one ∷ index ∷ [] }
deeper_by false index (one ∷ []) reach = record reach { is_all = false }
deeper_by keeps index (one ∷ two ∷ more) reach = record reach { is_all = false }

abbrev pub deeper : (keeps : Bool) → Index → Reach → Reach
deeper keeps index reach = deeper_by (keeps && reach.is_all) index reach.indexes reach

-- index expressions, each of which is tested at once: what is reached by them
abbrev pub indexes_walk : List Selector → List Piece → Reach → Walking Reach
indexes_walk selectors [] reach = give reach
indexes_walk selectors (index ∷ indexes) reach = do
  known ← index.walk
  range ← index_test (next_test selectors) known
  λ context. indexes_walk (behind_next selectors) indexes
      (deeper (is_kept context.version selectors) (record { form = form_before context index indexes; range = range })
      reach) context

-- what is reached behind steps to a record: the indexes of elements aren't known
abbrev pub behind_steps : List PathStep → Reach → Reach
behind_steps [] reach = reach
behind_steps (path.Element ∷ steps) reach = behind_steps steps (deeper false unknown_index reach)
behind_steps (path.Field position ∷ steps) reach = behind_steps steps reach

-- what is reached where an access begins: at a variable, or at a record of a with statement
abbrev pub reach_at : Origin → Reach
reach_at origin = behind_steps (steps_of origin) entire

-- an access, which is entered before its index expressions: what is reached
abbrev pub access_walk : Access → List Piece → Walking Reach
access_walk access indexes = do
  _ ← enter access.number
  indexes_walk access.selectors.items indexes (reach_at (origin_of access))

-- the ranges of rows
abbrev pub ranges_of : State → List ℕ → List Interval
ranges_of state rows = map (range_of state) rows

-- a range that has the numbers of all
abbrev pub all_joined : List Interval → Interval
all_joined [] = vacant
all_joined (range ∷ ranges) = joined range (all_joined ranges)

-- what is reached in each row is known to be defined
abbrev pub is_covered : Tree → State → Reach → List ℕ → Bool
is_covered tree state reach rows = list_all (gives_reached (table_of tree) state reach) rows

-- each row is defined from here on, where all of it is reached
abbrev pub all_defined : List ℕ → State → State
all_defined [] state = state
all_defined (row ∷ rows) state = all_defined rows (with_defined row state)

abbrev pub with_used : Reach → List ℕ → State → State
with_used reach rows state = if is_entire reach then all_defined rows state else state

-- the value in some rows, an ordinal or a set
abbrev pub rows_value : Scalar → State → List ℕ → Known
rows_value holds state rows = held_in holds (all_joined (ranges_of state rows))

-- its use: closed where what is reached in the rows is defined
abbrev pub rows_use : Scalar → List ℕ → Reach → ℕ → Walking Known
rows_use holds rows reach site context state = record {
  value = rows_value holds state rows;
  after = unless_none (rows_value holds state rows) (with_used reach rows state);
  open_ids = left_open (is_covered context.tree state reach rows) site;
  broken = [];
  linked = [];
}

abbrev pub value_use : Scalar → Origin → List Selector → Reach → ℕ → Walking Known
value_use holds origin selectors reach site context =
    rows_use holds (rows_accessed context.tree origin selectors) reach site context

abbrev pub variable_walk : Scalar → Access → List Piece → ℕ → Walking Known
variable_walk holds access indexes site = do
  reach ← access_walk access indexes
  value_use holds (origin_of access) access.selectors.items reach site

-- the member expressions of a set constructor: the hull of the set
abbrev pub members_walk : List Piece → Gathering → Walking Interval
members_walk [] gathering = give gathering.hull
members_walk (member ∷ members) gathering = do
  known ← member.walk
  more ← gathered gathering (known_range known)
  members_walk members more

-- a set constructor, which is entered before them
abbrev pub set_walk : ℕ → List Designator → List Piece → Walking Known
set_walk number designators members = do
  _ ← enter number
  hull ← members_walk members (none_gathered designators)
  set hull

-- the use of a whole value of a type in some rows: the ranges of its components, row by row
abbrev pub whole_rows_use : TypeId → List ℕ → Reach → ℕ → Walking (List Interval)
whole_rows_use type_id rows reach site context state = record {
  value = ranges_of state rows;
  after = with_used reach rows state;
  open_ids = left_open
      (is_dead state
      || (is_structured context.tree.types type_id && is_covered context.tree state reach rows)) site;
  broken = [];
  linked = [];
}

abbrev pub whole_use : TypeId → Origin → List Selector → Reach → ℕ → Walking (List Interval)
whole_use type_id origin selectors reach site context =
    whole_rows_use type_id (rows_accessed context.tree origin selectors) reach site context

-- the range of the characters of a string
abbrev pub text_range : List ℕ → Interval
text_range text = all_joined (map (λ c. record { first = pos c; last = pos c }) text)

-- a whole value: a string is entered, and has no site
abbrev pub whole_walk : Whole → List Piece → Walking (List Interval)
whole_walk (Text number text) indexes = do
  _ ← enter number
  give (text_range text.items ∷ [])
whole_walk (VariableOf access type_id cells defined) indexes = do
  reach ← access_walk access indexes
  whole_use type_id (origin_of access) access.selectors.items reach defined

-- a relation of two whole values, from its operator on, which is entered between them
abbrev pub related_walk : ℕ → Whole → List Piece → Walking Known
related_walk number right indexes = do
  _ ← enter number
  _ ← whole_walk right indexes
  ordinal truth_values

-- what the walk does with an operator and its right operand, by what is known of the value to its left
abbrev pub Combination : Type 0
Combination = Known → Walking Known

-- an operator with its right operand: its walk, the form of the operand, whether that holds a call, and the operand
pub record Joint : Type 0 where
  pub combination : Combination
  pub operand : (ordinal : ℕ → Bool) → Operand
  pub holds_call : Bool
  pub operation : Dyadic
  pub right : Piece

-- the right operand, and then the operation
abbrev pub combination_of : Link-F Piece PassedPiece Joint → Combination
combination_of link left = do
  _ ← enter link.number
  right ← link.operand.walk
  combined link.operation left right

abbrev pub link_step : Link-F Piece PassedPiece Joint → Joint
link_step link = record {
  combination = combination_of link;
  operand = λ ordinal. record { operation = link.operation; form = link.operand.form ordinal };
  holds_call = link.operand.holds_call;
  operation = link.operation;
  right = link.operand;
}

-- the operators of a chain, from left to right
abbrev pub in_turn : List Combination → Combination
in_turn [] left = give left
in_turn (link ∷ links) left = do
  result ← link left
  in_turn links result

-- ---- notes

-- what is noted at an operator, by what is known to its left: both operands, or what is noted inside the right one
abbrev pub operand_noted : (inside : Bool) → Known → Piece → Noting
operand_noted true left right context state = right.noted context state
operand_noted false left right context state =
    record { left = left; right = (right.walk context state).value } ∷ []

-- at the operators of a chain, from left to right
abbrev pub turns_noted : (inside : Bool) → List Joint → Known → Noting
turns_noted inside [] left context state = []
turns_noted inside (joint ∷ joints) left context state =
    let done = joint.combination left context state in
    operand_noted inside left joint.right context state ++ turns_noted inside joints done.value context done.after

-- in a chain: the operands of each operator, or what is noted inside all operands
abbrev pub first_noted : (inside : Bool) → Piece → Noting
first_noted true first context state = first.noted context state
first_noted false first context state = []

abbrev pub chain_noted : (inside : Bool) → Piece → List Joint → Noting
chain_noted inside first joints context state =
    let done = first.walk context state in
    first_noted inside first context state ++ turns_noted inside joints done.value context done.after

-- ---- calls

-- a value that is passed: it is tested at once
abbrev pub value_passed : Piece → RangeTest → Walking Actual
value_passed value fits = do
  known ← value.walk
  passed ← fitting fits known
  λ context. give (OfValue (known_range passed) (form_in context value)) context

abbrev pub whole_passed : Whole → List Piece → Walking Actual
whole_passed value indexes = do
  ranges ← whole_walk value indexes
  give (OfRows ranges)

abbrev pub variable_passed : Access → List Piece → Walking Actual
variable_passed access indexes = do
  reach ← access_walk access indexes
  give (OfVariable (origin_of access) access.selectors.items reach)

abbrev pub passed_walk : Passed-F Piece PassedPiece Joint → Walking Actual
passed_walk (PassedValue value fits) = value_passed value fits
passed_walk (PassedWhole type_id value indexes) = whole_passed value indexes.items
passed_walk (Reference type_id access indexes) = variable_passed access indexes.items

abbrev pub passed_holds : Passed-F Piece PassedPiece Joint → Bool
passed_holds (PassedValue value fits) = value.holds_call
passed_holds (PassedWhole type_id value indexes) = hold_call (whole_indexes value indexes.items)
passed_holds (Reference type_id access indexes) = hold_call indexes.items

abbrev pub passed_calls : Passed-F Piece PassedPiece Joint → List Calling
passed_calls (PassedValue value fits) = value.calls
passed_calls (PassedWhole type_id value indexes) = calls_in indexes.items
passed_calls (Reference type_id access indexes) = calls_in indexes.items

-- what the text tells of an actual parameter
abbrev pub passed_told : Passed-F Piece PassedPiece Joint → Actual
passed_told (PassedValue value fits) = OfValue integer None
passed_told (PassedWhole type_id value indexes) = OfRows []
passed_told (Reference type_id access indexes) = OfVariable (origin_of access) access.selectors.items entire

abbrev pub passed_step : Passed-F Piece PassedPiece Joint → PassedPiece
passed_step actual = record {
  walk = passed_walk actual;
  holds_call = passed_holds actual;
  calls = passed_calls actual;
  told = passed_told actual;
}

-- actual parameters, from left to right
abbrev pub actuals_walk : List PassedPiece → Walking (List Actual)
actuals_walk [] = give []
actuals_walk (one ∷ others) = do
  actual ← one.walk
  actuals ← actuals_walk others
  give (actual ∷ actuals)

abbrev pub actuals_hold_call : List PassedPiece → Bool
actuals_hold_call actuals = list_any (λ actual. actual.holds_call) actuals

-- the blocks round a block
abbrev pub around_of : Option Block → List ℕ
around_of None = []
around_of (Some block) = block.heading.around.items

abbrev pub result_of : Option Block → Option FunctionResult
result_of None = None
result_of (Some block) = block.heading.result

abbrev pub called_block : Context → Call → Option Block
called_block context call = slice_get context.tree.blocks.items call.block

-- a call changes what it may: by the claims on the callee, at the place of its name
abbrev pub call_change : Place → List Binding → BlockClaims → Walking (Unit {0})
call_change place bindings claims context =
    asked (list_all (may_change context) (roots_changed bindings claims.changes)) Changes place context

-- what is passed makes listed aliases alone
abbrev pub call_aliases : Call → List Binding → Walking (Unit {0})
call_aliases call bindings context =
    asked (are_separate context.pairs context.block (around_of (called_block context call)) bindings) Aliases call.name
    context

-- the facts are given that hold where the callee begins
abbrev pub call_entry : Call → List Binding → BlockClaims → Walking (Unit {0})
call_entry call bindings claims context state =
    asked (are_given context.tree bindings state claims.entry) CallEntry call.name context state

-- what is known behind a call
abbrev pub call_behind : Call → List Binding → BlockClaims → Walking (Unit {0})
call_behind call bindings claims context =
    changed_by (behind_call context.tree context.pairs context.block call.block bindings claims) context

-- a call with these parameters, by the claims on the callee
abbrev pub call_with : Call → BlockClaims → List Binding → Walking (Unit {0})
call_with call claims bindings = do
  _ ← call_aliases call bindings
  _ ← call_entry call bindings claims
  _ ← call_change call.name bindings claims
  call_behind call bindings claims

-- a call from its actual parameters on; the forms of those that were evaluated before a call count no more
abbrev pub called : Call → Bool → List Actual → Walking (Unit {0})
called call holds_call actuals context =
    call_with call (block_claims_at context.blocks call.block)
    (bound_to (parameters_of (called_block context call)) (settled holds_call actuals)) context

-- the value of a function lies in a range; no run goes on from an empty one
abbrev pub result_known : Interval → Walking Known
result_known range context state = record {
  value = Ordinal range;
  after = unless_empty range state;
  open_ids = [];
  broken = [];
  linked = [];
}

-- the value of the function that a call calls
abbrev pub result_walk : Call → Option FunctionResult → Walking Known
result_walk call None context = result_known integer context
result_walk call (Some result) context =
    result_known (result_range context.tree (block_claims_at context.blocks call.block) result.root) context

-- a call, which is entered before its actual parameters
abbrev pub call_walk : Call → List PassedPiece → Walking (Unit {0})
call_walk call actuals = do
  _ ← enter call.number
  passed ← actuals_walk actuals
  called call (actuals_hold_call actuals) passed

-- a call of a function
abbrev pub function_walk : Call → List PassedPiece → Walking Known
function_walk call actuals = do
  _ ← call_walk call actuals
  λ context. result_walk call (result_of (called_block context call)) context

-- one layer of an expression: its walk
abbrev pub walk_step : Expr-F Piece PassedPiece Joint → Walking Known
walk_step (Constant number value) = do
  _ ← enter number
  ordinal (record { first = value; last = value })
walk_step (Variable access indexes holds defined) = variable_walk holds access indexes.items defined
walk_step (SetOf number designators members) = set_walk number designators.items members.items
walk_step (MonadicOf number operation operand) = do
  _ ← enter number
  known ← operand.value.walk
  operated operation known
walk_step (Chain first rest) = do
  known ← first.value.walk
  in_turn (map (λ joint. joint.combination) rest.items) known
walk_step (Compare number relation left left_indexes right right_indexes) = do
  _ ← whole_walk left left_indexes.items
  related_walk number right right_indexes.items
walk_step (CallOf call actuals) = function_walk call actuals.items
walk_step (Input number asks) = do
  _ ← enter number
  ordinal truth_values

-- and its form
abbrev pub form_step : Expr-F Piece PassedPiece Joint → (ordinal : ℕ → Bool) → Form
form_step (Constant number value) ordinal = Fixed Literal value
form_step (Variable access indexes holds defined) ordinal =
    access_form ordinal (origin_of access) access.selectors.items
form_step (SetOf number designators members) ordinal = Other
form_step (MonadicOf number operation operand) ordinal = sign_form (operand.value.form ordinal) operation
form_step (Chain first rest) ordinal =
    chain_form (first.value.form ordinal) (map (λ joint. joint.operand ordinal) rest.items)
form_step (Compare number relation left left_indexes right right_indexes) ordinal = Other
form_step (CallOf call actuals) ordinal = Other
form_step (Input number asks) ordinal = Other

-- and whether it holds a call
abbrev pub holds_step : Expr-F Piece PassedPiece Joint → Bool
holds_step (Constant number value) = false
holds_step (Variable access indexes holds defined) = hold_call indexes.items
holds_step (SetOf number designators members) = hold_call members.items
holds_step (MonadicOf number operation operand) = operand.value.holds_call
holds_step (Chain first rest) = first.value.holds_call || list_any (λ joint. joint.holds_call) rest.items
holds_step (Compare number relation left left_indexes right right_indexes) =
    hold_call (whole_indexes left left_indexes.items) || hold_call (whole_indexes right right_indexes.items)
holds_step (CallOf call actuals) = true
holds_step (Input number asks) = false

-- and the calls in it
abbrev pub calls_step : Expr-F Piece PassedPiece Joint → List Calling
calls_step (Constant number value) = []
calls_step (Variable access indexes holds defined) = calls_in indexes.items
calls_step (SetOf number designators members) = calls_in members.items
calls_step (MonadicOf number operation operand) = operand.value.calls
calls_step (Chain first rest) = first.value.calls ++ flat_map (λ joint. joint.right.calls) rest.items
calls_step (Compare number relation left left_indexes right right_indexes) =
    calls_in left_indexes.items ++ calls_in right_indexes.items
calls_step (CallOf call actuals) =
    record { call = call; actuals = map (λ actual. actual.told) actuals.items }
    ∷ flat_map (λ actual. actual.calls) actuals.items
calls_step (Input number asks) = []

-- and what is noted in it: an entry changes nothing that is known
abbrev pub noted_step : Expr-F Piece PassedPiece Joint → Noting
noted_step (MonadicOf number operation operand) context state = operand.value.noted context state
noted_step (Chain first rest) context state =
    chain_noted (list_all (λ joint. joins joint.operation) rest.items) first.value rest.items context state
noted_step other context state = []

abbrev pub piece_step : Expr-F Piece PassedPiece Joint → Piece
piece_step expression = record {
  walk = walk_step expression;
  form = form_step expression;
  holds_call = holds_step expression;
  calls = calls_step expression;
  noted = noted_step expression;
}

-- the walk over an operator and its right operand
abbrev pub joint_of : Link → Joint
joint_of = fold-Link Piece PassedPiece Joint piece_step passed_step link_step

abbrev pub link_walk : Link → Combination
link_walk link = (joint_of link).combination

-- the walk over an expression: what is known of its value
abbrev pub piece_of : Expr → Piece
piece_of = fold-Expr Piece PassedPiece Joint piece_step passed_step link_step

-- the walk over an actual parameter
abbrev pub passed_piece_of : Passed → PassedPiece
passed_piece_of = fold-Passed Piece PassedPiece Joint piece_step passed_step link_step

abbrev pub value_walk : Expr → Walking Known
value_walk expression = (piece_of expression).walk

-- what is known of a value, and what was noted on the way to it
pub record Valued : Type 0 where
  pub known : Known
  pub noted : List Noted

-- what was walked to a value, with what was noted
abbrev pub valued : List Noted → Walked Known → Walked Valued
valued noted walked = record {
  value = record { known = walked.value; noted = noted };
  after = walked.after;
  open_ids = walked.open_ids;
  broken = walked.broken;
  linked = walked.linked;
}

-- a walk with what is noted in it, behind what was noted before
abbrev pub with_noted : List Noted → Noting → Walking Known → Walking Valued
with_noted before noting walking context state = valued (before ++ noting context state) (walking context state)

-- so the walk over an expression
abbrev pub noting_walk : List Noted → Expr → Walking Valued
noting_walk before expression = with_noted before (piece_of expression).noted (value_walk expression)

-- index expressions
abbrev pub index_pieces : List Expr → List Piece
index_pieces = map piece_of

-- a width has to be at least 1
abbrev pub width_test : ℕ → Known → Walking (Unit {0})
width_test site known = do
  _ ← positive site (known_range known)
  give tt

-- the width of a value that is written
abbrev pub width_walk : Option Width → Walking (Unit {0})
width_walk None = give tt
width_walk (Some width) = do
  known ← value_walk width.value
  width_test width.site known

-- a value that is written
abbrev pub written_walk : Written → Walking (Unit {0})
written_walk (written.Ordinal value representation) = do
  _ ← value_walk value
  give tt
written_walk (written.String value indexes) = do
  _ ← whole_walk value (index_pieces indexes.items)
  give tt

-- the same, and then its width
abbrev pub parameter_walk : WriteParameter → Walking (Unit {0})
parameter_walk parameter = do
  _ ← written_walk parameter.value
  width_walk parameter.width
