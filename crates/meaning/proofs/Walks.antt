-- What holds of every piece of a program because it is made of few actions: a relation of what a piece does with what it
-- does where calls do something else, if actions that are made of related ones are related, and what the calls do is.
use Rattle.std.specs.Prelude.{int_le, not, if◌then◌else◌}
use Rattle.std.specs.Ordering.{int_eq}
use Rattle.std.proofs.Common.{◌≡◌, ℕ, ℤ, pos, List, [], ◌∷◌, ◌++◌, Bool, true, false, Option, Some, None, Vec, Global, map, slice_get}
use Rattle.std.proofs.Common.{append_assoc, sym, ◌∙◌, ap, subst, refl}
use Rattle.types.specs.Forms.{Form}
use Rattle.types.specs.declared.form.Step.{Step}
use Rattle.types.specs.declared.form.Step.TheVariants as step
use Rattle.types.specs.Components.{components_of}
use Rattle.members.specs.Members as sets
use Rattle.typed_tree.specs.declared.tree.Tree.{Tree}
use Rattle.typed_tree.specs.declared.tree.Block.{Block}
use Rattle.typed_tree.specs.declared.tree.Call.{Call}
use Rattle.typed_tree.specs.declared.tree.FunctionResult.{FunctionResult}
use Rattle.typed_tree.specs.declared.tree.Variable.{Variable as DeclaredVariable}
use Rattle.typed_tree.specs.declared.tree.Direction.{Direction}
use Rattle.typed_tree.specs.declared.tree.ForHead.{ForHead}
use Rattle.typed_tree.specs.declared.tree.Designator.{Designator}
use Rattle.typed_tree.specs.declared.tree.Designator.TheVariants.{Single, Range}
use Rattle.typed_tree.specs.declared.tree.Dyadic.{Dyadic}
use Rattle.typed_tree.specs.declared.tree.Dyadic.TheVariants as dyadic
use Rattle.typed_tree.specs.declared.tree.Monadic.TheVariants as monadic
use Rattle.typed_tree.specs.declared.tree.Monadic.{Monadic}
use Rattle.typed_tree.specs.declared.tree.Width.{Width}
use Rattle.typed_tree.specs.declared.tree.WithRecord.{WithRecord}
use Rattle.typed_tree.specs.declared.tree.WriteParameter.{WriteParameter}
use Rattle.typed_tree.specs.declared.tree.Written.{Written}
use Rattle.typed_tree.specs.declared.tree.Written.TheVariants.{Ordinal, String}
use Rattle.typed_tree.specs.declared.tree.Whole.{Whole}
use Rattle.typed_tree.specs.declared.tree.Whole.TheVariants.{Text, Variable as VariableOf}
use Rattle.typed_tree.specs.declared.tree.Access.{Access}
use Rattle.typed_tree.specs.declared.tree.Selector.{Selector}
use Rattle.typed_tree.specs.declared.tree.Selector.TheVariants.{Element, Field}
use Rattle.typed_tree.specs.Accesses.{Origin, AtVariable, AtRecord, origin_of}
use Rattle.typed_tree.specs.WellFormed.{length_of}
use Rattle.typed_tree.specs.declared.tree.Expr.{Expr}
use Rattle.typed_tree.specs.declared.tree.Passed.{Passed}
use Rattle.typed_tree.specs.declared.tree.Link.{Link}
use Rattle.typed_tree.specs.declared.tree.Stmt.{Stmt}
use Rattle.typed_tree.specs.declared.tree.Expr.TheOpen.{Expr-F, Passed-F, Link-F}
use Rattle.typed_tree.specs.declared.tree.Expr.TheOpen.Expr-F.{Constant, Variable, Monadic as MonadicOf, Chain, Compare, Call as CallOf, Set, Input}
use Rattle.typed_tree.specs.declared.tree.Expr.TheOpen.Passed-F.{Value as PassedValue, Whole as PassedWhole, Reference}
use Rattle.typed_tree.specs.declared.tree.Expr.TheFolds.{map-Expr, map-Passed, map-Link, fold-roll-Expr, fold-roll-Passed, fold-roll-Link}
use Rattle.typed_tree.specs.declared.tree.Expr.TheFolds.{ind-Expr, ind-Passed}
use Rattle.typed_tree.specs.declared.tree.Expr.TheViews.{roll-Expr, roll-Passed, roll-Link}
use Rattle.typed_tree.specs.declared.tree.Stmt.TheOpen.{Stmt-F}
use Rattle.typed_tree.specs.declared.tree.Stmt.TheOpen.Stmt-F.{Empty, Assign, Copy, Write, Compound, If, While, Repeat, For, Case, Call as Calling, With, Read}
use Rattle.typed_tree.specs.declared.tree.Stmt.TheFolds.{map-Stmt, fold-roll-Stmt, ind-Stmt}
use Rattle.meaning.specs.declared.outcome.Ending.TheVariants as ending
use Rattle.meaning.specs.declared.value.Value.{Value}
use Rattle.meaning.specs.declared.value.Value.TheVariants.{Number, Members}
use Rattle.meaning.specs.Integers.{is_integer_number}
use Rattle.meaning.specs.Store.{Environment, Place, inside_for, part}
use Rattle.meaning.specs.Counting.{has_values, value_behind, values_before}
use Rattle.meaning.specs.Effect.{Action, Round, ◌>>=◌, give, stop, require, enter, use_turn, looped, fetch, fetch_all, store, store_all, undefine, write}
use Rattle.meaning.specs.Effect.{is_in, is_positive, number_of, row_text, text_of}
use Rattle.meaning.specs.Meaning.{Argument, OfValue, OfRow, OfPlace, Calls, Surroundings, Evaluation, Passing, Combination, Execution}
use Rattle.meaning.specs.Meaning.{value_step, passed_step, link_step, effect_step, operated, combined, in_turn, all_of, all_passed, call_of}
use Rattle.meaning.specs.Meaning.{calculated, divides, of_both, overflow_of, overflow_of_both, shifted, unless_overflow}
use Rattle.meaning.specs.Meaning.{compared, selected, accessed, whole_of, values_of, default_width, width_of, written_of, parameter_of}
use Rattle.meaning.specs.Meaning.{line_ended, is_so, turn_if, for_rounds, for_between, for_turn, is_among, arm_of}
use Rattle.meaning.specs.Meaning.{begun, gathered, opened, operated_both, with_one, with_range}
use Rattle.meaning.specs.Meaning.{value_of, passing_of, link_of, effect_of, assign, assign_all, result_of, Activation, environment_of, executed}
use Rattle.meaning.specs.Meaning.{asked, line_passed, read_as, read_of, unless_outside}
use Rattle.meaning.specs.Effect.{at_end, take_in}
use Rattle.meaning.specs.Integers.{truth}
use Rattle.text_input.specs.declared.InputFault.{InputFault}
use Rattle.text_input.specs.declared.InputFault.TheVariants.{OutsideType}
use Rattle.text_input.specs.Input.{Reading, read_character, read_eoln, read_integer, read_line}
use Rattle.types.specs.declared.form.OrdinalRange.{OrdinalRange}
use Rattle.typed_tree.specs.declared.tree.ReadVariable.{ReadVariable}
use Rattle.typed_tree.specs.declared.tree.Readable.{Readable}
use Rattle.typed_tree.specs.declared.tree.Readable.TheVariants as readable
use Rattle.typed_tree.specs.declared.tree.InputTest.{InputTest}
use Rattle.typed_tree.specs.declared.tree.InputTest.TheVariants as input_test

-- an environment behind more finished turns, those of for statements round all that it tells of
abbrev pub behind : List ℕ → Environment → Environment
behind outer visible = record visible { turns = outer ++ visible.turns }

-- a relation of what actions do that holds of those of which pieces are made, and of one after the other, the second behind more finished turns
pub record OfActionsBehind (outer : List ℕ) (R : (A : Type 0) → Action A → Action A → Type 0) : Type 1 where
  pub follows : {A B : Type 0} (a b : Action A) (f g : A → Action B) → R A a b → ((x : A) → R B (f x) (g x)) → R B (a >>= f) (b >>= g)
  pub gives : {A : Type 0} (a : A) → R A (give a) (give a)
  pub errs : {A : Type 0} (site : ℕ) → R A (stop (ending.Error site)) (stop (ending.Error site))
  pub enters : (number : ℕ) (visible : Environment) → R (Unit {0}) (enter number visible) (enter number (behind outer visible))
  pub fetches : (place : Option Place) (site : ℕ) → R Value (fetch place site) (fetch place site)
  pub stores : (place : Option Place) (v : Value) → R (Unit {0}) (store place v) (store place v)
  pub undefines : (place : Option Place) → R (Unit {0}) (undefine place) (undefine place)
  pub writes : (bytes : List ℕ) → R (Unit {0}) (write bytes) (write bytes)
  pub turns : R (Unit {0}) use_turn use_turn
  pub takes : {A : Type 0} (point : ℕ) (reading : List ℕ → Reading A) → R A (take_in point reading) (take_in point reading)
  pub asks : R Bool at_end at_end
  pub refuses : {A : Type 0} (point : ℕ) (why : InputFault) → R A (stop (ending.Input point why)) (stop (ending.Input point why))

-- so it is behind none
abbrev pub OfActions : (R : (A : Type 0) → Action A → Action A → Type 0) → Type 1
OfActions R = OfActionsBehind [] R

-- rounds of loops, of what they are made of
abbrev pub while_again : Action Value → Action (Unit {0}) → Round (Unit {0})
while_again condition body start = condition >>= λ v. turn_if (is_so v) body

abbrev pub repeat_again : Action (Unit {0}) → Action Value → Round (Unit {0})
repeat_again body condition start = use_turn >>= λ _. body >>= λ _. condition >>= λ v. give (if is_so v then None else Some tt)

abbrev pub for_again : Option Place → Direction → ℤ → (ℤ → Action (Unit {0})) → Round ℤ
for_again place direction last body n = store place (Number n) >>= λ _. use_turn >>= λ _. body n >>= λ _. give (value_behind direction last n)

-- a relation that goes from the actions of which pieces are made to whole pieces
pub record ClosedBehind (outer : List ℕ) (R : (A : Type 0) → Action A → Action A → Type 0) : Type 1 where
  pub follows : {A B : Type 0} (a b : Action A) (f g : A → Action B) → R A a b → ((x : A) → R B (f x) (g x)) → R B (a >>= f) (b >>= g)
  pub gives : {A : Type 0} (a : A) → R A (give a) (give a)
  pub errs : {A : Type 0} (site : ℕ) → R A (stop (ending.Error site)) (stop (ending.Error site))
  pub enters : (number : ℕ) (visible : Environment) → R (Unit {0}) (enter number visible) (enter number (behind outer visible))
  pub fetches : (place : Option Place) (site : ℕ) → R Value (fetch place site) (fetch place site)
  pub stores : (place : Option Place) (v : Value) → R (Unit {0}) (store place v) (store place v)
  pub undefines : (place : Option Place) → R (Unit {0}) (undefine place) (undefine place)
  pub writes : (bytes : List ℕ) → R (Unit {0}) (write bytes) (write bytes)
  pub turns : R (Unit {0}) use_turn use_turn
  pub takes : {A : Type 0} (point : ℕ) (reading : List ℕ → Reading A) → R A (take_in point reading) (take_in point reading)
  pub asks : R Bool at_end at_end
  pub refuses : {A : Type 0} (point : ℕ) (why : InputFault) → R A (stop (ending.Input point why)) (stop (ending.Input point why))
  pub whiles : (condition test : Action Value) (body other : Action (Unit {0})) → R Value condition test → R (Unit {0}) body other
      → R (Unit {0}) (looped (while_again condition body) tt) (looped (while_again test other) tt)
  pub repeats : (body other : Action (Unit {0})) (condition test : Action Value) → R (Unit {0}) body other → R Value condition test
      → R (Unit {0}) (looped (repeat_again body condition) tt) (looped (repeat_again other test) tt)
  pub fors : (place : Option Place) (direction : Direction) (last : ℤ) (body other : ℤ → Action (Unit {0}))
      → ((n : ℤ) → R (Unit {0}) (body n) (other n)) → (first : ℤ)
      → R (Unit {0}) (looped (for_again place direction last body) first) (looped (for_again place direction last other) first)

abbrev pub Closed : (R : (A : Type 0) → Action A → Action A → Type 0) → Type 1
Closed R = ClosedBehind [] R

-- one that goes from the rounds of a loop to the loop is such a relation
module _ (outer : List ℕ) (R : (A : Type 0) → Action A → Action A → Type 0) (actions : OfActionsBehind outer R) where
  turn_if_related : (so : Bool) (body other : Action (Unit {0})) → R (Unit {0}) body other → R (Option (Unit {0})) (turn_if so body) (turn_if so other)
  turn_if_related false body other done = actions.gives None
  turn_if_related true body other done =
      actions.follows _ _ _ _ actions.turns (λ _. actions.follows _ _ _ _ done (λ _. actions.gives (Some tt)))

  pub closed_behind :
      ((A : Type 0) (round other : Round A) → ((a : A) → R (Option A) (round a) (other a)) → (a : A) → R (Unit {0}) (looped round a) (looped other a))
      → ClosedBehind outer R
  closed_behind loops = record {
    follows = λ a b f g one each. actions.follows a b f g one each;
    gives = actions.gives;
    errs = actions.errs;
    enters = actions.enters;
    fetches = actions.fetches;
    stores = actions.stores;
    undefines = actions.undefines;
    writes = actions.writes;
    turns = actions.turns;
    takes = λ point reading. actions.takes point reading;
    asks = actions.asks;
    refuses = λ point why. actions.refuses point why;
    whiles = λ condition test body other tested done.
        loops (Unit {0}) (while_again condition body) (while_again test other)
        (λ start. actions.follows _ _ _ _ tested (λ v. turn_if_related (is_so v) body other done)) tt;
    repeats = λ body other condition test done tested.
        loops (Unit {0}) (repeat_again body condition) (repeat_again other test)
        (λ start. actions.follows _ _ _ _ actions.turns
        (λ _. actions.follows _ _ _ _ done (λ _. actions.follows _ _ _ _ tested (λ v. actions.gives (if is_so v then None else Some tt))))) tt;
    fors = λ place direction last body other done first.
        loops ℤ (for_again place direction last body) (for_again place direction last other)
        (λ n. actions.follows _ _ _ _ (actions.stores place (Number n))
        (λ _. actions.follows _ _ _ _ actions.turns (λ _. actions.follows _ _ _ _ (done n) (λ _. actions.gives (value_behind direction last n))))) first;
  }

pub closed_by_rounds : (R : (A : Type 0) → Action A → Action A → Type 0) → OfActions R
    → ((A : Type 0) (round other : Round A) → ((a : A) → R (Option A) (round a) (other a)) → (a : A) → R (Unit {0}) (looped round a) (looped other a))
    → Closed R
closed_by_rounds R actions = closed_behind [] R actions

module _ {outer : List ℕ} (R : (A : Type 0) → Action A → Action A → Type 0) (closed : ClosedBehind outer R) where
  -- ---- what doesn't depend on calls

  pub of_require : (b : Bool) (site : ℕ) → R (Unit {0}) (require b site) (require b site)
  of_require true site = closed.gives tt
  of_require false site = closed.errs site

  pub of_fetch_all : (p : Option Place) (components : List (List Step)) (site : ℕ)
      → R (List Value) (fetch_all p components site) (fetch_all p components site)
  of_fetch_all p [] site = closed.gives []
  of_fetch_all p (steps ∷ components) site =
      closed.follows _ _ _ _ (closed.fetches (part p steps) site)
      (λ v. closed.follows _ _ _ _ (of_fetch_all p components site) (λ values. closed.gives (v ∷ values)))

  pub of_store_all : (p : Option Place) (components : List (List Step)) (values : List Value)
      → R (Unit {0}) (store_all p components values) (store_all p components values)
  of_store_all p [] values = closed.gives tt
  of_store_all p (steps ∷ components) [] = closed.gives tt
  of_store_all p (steps ∷ components) (v ∷ values) =
      closed.follows _ _ _ _ (closed.stores (part p steps) v) (λ _. of_store_all p components values)

  pub of_unless_overflow : (overflow : Option ℕ) (n : ℤ) → R ℤ (unless_overflow overflow n) (unless_overflow overflow n)
  of_unless_overflow None n = closed.gives n
  of_unless_overflow (Some site) n = closed.follows _ _ _ _ (of_require (is_integer_number n) site) (λ _. closed.gives n)

  pub of_operated : (operation : Monadic) (n : ℤ) → R ℤ (operated operation n) (operated operation n)
  of_operated (monadic.Plain does) n = of_unless_overflow (overflow_of does) (calculated does n)
  of_operated (monadic.Tested fits does) n =
      closed.follows _ _ _ _ (of_require (is_in fits.range (Number n)) fits.site) (λ _. closed.gives (shifted does n))

  pub of_divides : (operation : Dyadic) (b : ℤ) → R (Unit {0}) (divides operation b) (divides operation b)
  of_divides (dyadic.Plus overflow) b = closed.gives tt
  of_divides (dyadic.Minus overflow) b = closed.gives tt
  of_divides (dyadic.Times overflow) b = closed.gives tt
  of_divides (dyadic.Div by_zero) b = of_require (not (int_eq b (pos 0))) by_zero
  of_divides (dyadic.Mod by_zero_or_less) b = of_require (int_le (pos 1) b) by_zero_or_less
  of_divides dyadic.And b = closed.gives tt
  of_divides dyadic.Or b = closed.gives tt
  of_divides (dyadic.Relation r) b = closed.gives tt
  of_divides dyadic.Union b = closed.gives tt
  of_divides dyadic.Difference b = closed.gives tt
  of_divides dyadic.Intersection b = closed.gives tt
  of_divides (dyadic.SetRelation r) b = closed.gives tt
  of_divides dyadic.In b = closed.gives tt

  pub of_combined : (operation : Dyadic) (a b : ℤ) → R ℤ (combined operation a b) (combined operation a b)
  of_combined operation a b =
      closed.follows _ _ _ _ (of_divides operation b)
      (λ _. of_unless_overflow (overflow_of_both operation) (of_both operation a b))

  -- an operation on two numbers gives a value
  of_numbers : (operation : Dyadic) (a b : Value)
      → R Value (combined operation (number_of a) (number_of b) >>= λ n. give (Number n))
      (combined operation (number_of a) (number_of b) >>= λ n. give (Number n))
  of_numbers operation a b = closed.follows _ _ _ _ (of_combined operation (number_of a) (number_of b)) (λ n. closed.gives (Number n))

  pub of_operated_both : (operation : Dyadic) (a b : Value) → R Value (operated_both operation a b) (operated_both operation a b)
  of_operated_both (dyadic.Plus overflow) a b = of_numbers (dyadic.Plus overflow) a b
  of_operated_both (dyadic.Minus overflow) a b = of_numbers (dyadic.Minus overflow) a b
  of_operated_both (dyadic.Times overflow) a b = of_numbers (dyadic.Times overflow) a b
  of_operated_both (dyadic.Div by_zero) a b = of_numbers (dyadic.Div by_zero) a b
  of_operated_both (dyadic.Mod by_zero_or_less) a b = of_numbers (dyadic.Mod by_zero_or_less) a b
  of_operated_both dyadic.And a b = of_numbers dyadic.And a b
  of_operated_both dyadic.Or a b = of_numbers dyadic.Or a b
  of_operated_both (dyadic.Relation r) a b = of_numbers (dyadic.Relation r) a b
  of_operated_both dyadic.Union a b = closed.gives _
  of_operated_both dyadic.Difference a b = closed.gives _
  of_operated_both dyadic.Intersection a b = closed.gives _
  of_operated_both (dyadic.SetRelation r) a b = closed.gives _
  of_operated_both dyadic.In a b = closed.gives _

  -- a set with the members of one designator more
  of_one : (site : ℕ) (v : Value) (set : ℕ) → R ℕ (with_one site v set) (with_one site v set)
  of_one site v set = closed.follows _ _ _ _ (of_require (sets.can_be_member (number_of v)) site) (λ _. closed.gives _)

  of_range : (site : ℕ) (a b : Value) (set : ℕ) → R ℕ (with_range site a b set) (with_range site a b set)
  of_range site a b set = closed.follows _ _ _ _ (of_require (sets.range_fits (number_of a) (number_of b)) site) (λ _. closed.gives _)

  pub of_line_ended : (ends_line : Bool) → R (Unit {0}) (line_ended ends_line) (line_ended ends_line)
  of_line_ended true = closed.writes (10 ∷ [])
  of_line_ended false = closed.gives tt

  -- one of two actions
  pub of_chosen : {A : Type 0} (b : Bool) (one two other second : Action A) → R A one two → R A other second
      → R A (if b then one else other) (if b then two else second)
  of_chosen true one two other second first rest = first
  of_chosen false one two other second first rest = rest

  -- ---- the input

  pub of_asked : (asks : InputTest) → R Bool (asked asks) (asked asks)
  of_asked input_test.End = closed.asks
  of_asked (input_test.LineEnd point) = closed.takes point read_eoln

  of_read_as : (reads : Readable) (point : ℕ) → R ℤ (read_as reads point) (read_as reads point)
  of_read_as readable.Integer point = closed.takes point read_integer
  of_read_as readable.Char point = closed.follows _ _ _ _ (closed.takes point read_character) (λ c. closed.gives (pos c))

  of_unless_outside : (range : OrdinalRange) (point : ℕ) (n : ℤ) → R (Unit {0}) (unless_outside range point n) (unless_outside range point n)
  of_unless_outside range point n =
      of_chosen (is_in range (Number n)) (give tt) (give tt) (stop (ending.Input point OutsideType)) (stop (ending.Input point OutsideType))
      (closed.gives tt) (closed.refuses point OutsideType)

  pub of_line_passed : (line : Option ℕ) → R (Unit {0}) (line_passed line) (line_passed line)
  of_line_passed None = closed.gives tt
  of_line_passed (Some point) = closed.takes point read_line

  -- what is passed is written to a value parameter
  pub of_assign : (types : List Form) (place : Option Place) (formal : Option DeclaredVariable) (argument : Argument)
      → R (Unit {0}) (assign types place formal argument) (assign types place formal argument)
  of_assign types place formal (OfValue v) = closed.stores place v
  of_assign types place None (OfRow values) = closed.gives tt
  of_assign types place (Some formal) (OfRow values) = of_store_all place (components_of types formal.type_id) values
  of_assign types place None (OfPlace other) = closed.gives tt
  of_assign types place (Some formal) (OfPlace other) = closed.gives tt

  pub of_assign_all : (tree : Tree) (visible : Environment) (roots : List ℕ) (arguments : List Argument)
      → R (Unit {0}) (assign_all tree visible roots arguments) (assign_all tree visible roots arguments)
  of_assign_all tree visible [] arguments = closed.gives tt
  of_assign_all tree visible (root ∷ roots) [] = closed.gives tt
  of_assign_all tree visible (root ∷ roots) (argument ∷ arguments) =
      closed.follows _ _ _ _ (of_assign tree.types (visible.variables root) (slice_get tree.variables.items root) argument)
      (λ _. of_assign_all tree visible roots arguments)

  pub of_result : (result : Option FunctionResult) (visible : Environment) → R Value (result_of result visible) (result_of result visible)
  of_result None visible = closed.gives _
  of_result (Some result) visible = closed.fetches (visible.variables result.root) result.defined

  -- what calls do is related
  abbrev pub RelatedCalls : Calls → Calls → Type 0
  RelatedCalls calls others =
      (number : ℕ) (arguments : List Argument) (caller : Environment) → R Value (calls number arguments caller) (others number arguments (behind outer caller))

  -- ---- pieces that stand where these calls are done, or those

  module _ (visible : Environment) (calls others : Calls) (related : RelatedCalls calls others) where
    abbrev around : List (Option Place) → Surroundings
    around records = record { visible = visible; records = records; calls = calls }

    abbrev around_too : List (Option Place) → Surroundings
    around_too records = record { visible = behind outer visible; records = records; calls = others }

    abbrev IsRelated : Expr → Type 0
    IsRelated e = (records : List (Option Place)) → R Value (value_of e (around records)) (value_of e (around_too records))

    abbrev IsRelatedPassed : Passed → Type 0
    IsRelatedPassed p = (records : List (Option Place)) → R Argument (passing_of p (around records)) (passing_of p (around_too records))

    abbrev IsRelatedLink : Link → Type 0
    IsRelatedLink l = (records : List (Option Place)) (v : Value) → R Value (link_of l (around records) v) (link_of l (around_too records) v)

    abbrev RelatedExpr : Type 0
    RelatedExpr = (e : Expr) × IsRelated e

    abbrev RelatedPassed : Type 0
    RelatedPassed = (p : Passed) × IsRelatedPassed p

    abbrev RelatedLink : Type 0
    RelatedLink = (l : Link) × IsRelatedLink l

    -- an access begins at the same place
    begun_same : (origin : Origin) (records : List (Option Place)) → begun origin (around records) ≡ begun origin (around_too records)
    begun_same (AtVariable root) records = refl
    begun_same (AtRecord root slot path) records = refl

    pub of_in_turn : (links : List RelatedLink) (records : List (Option Place)) (v : Value)
        → R Value (in_turn (map link_of (map (λ l. l.0) links)) (around records) v) (in_turn (map link_of (map (λ l. l.0) links)) (around_too records) v)
    of_in_turn [] records v = closed.gives v
    of_in_turn (link ∷ links) records v = closed.follows _ _ _ _ (link.1 records v) (λ w. of_in_turn links records w)

    -- the set that designators make
    pub of_gathered : (designators : List Designator) (members : List RelatedExpr) (records : List (Option Place)) (set : ℕ)
        → R ℕ (gathered designators (values_of (map (λ e. e.0) members)) (around records) set)
        (gathered designators (values_of (map (λ e. e.0) members)) (around_too records) set)
    of_gathered [] members records set = closed.gives set
    of_gathered (Single site ∷ designators) [] records set = closed.gives set
    of_gathered (Single site ∷ designators) (member ∷ members) records set =
        closed.follows _ _ _ _ (member.1 records)
        (λ v. closed.follows _ _ _ _ (of_one site v set) (λ more. of_gathered designators members records more))
    of_gathered (Range site ∷ designators) [] records set = closed.gives set
    of_gathered (Range site ∷ designators) (first ∷ []) records set = closed.gives set
    of_gathered (Range site ∷ designators) (first ∷ last ∷ members) records set =
        closed.follows _ _ _ _ (first.1 records)
        (λ a. closed.follows _ _ _ _ (last.1 records)
        (λ b. closed.follows _ _ _ _ (of_range site a b set) (λ more. of_gathered designators members records more)))

    -- the place to which selectors lead
    pub of_selected : (selectors : List Selector) (indexes : List RelatedExpr) (records : List (Option Place)) (p : Option Place)
        → R (Option Place) (selected selectors (values_of (map (λ e. e.0) indexes)) (around records) p)
        (selected selectors (values_of (map (λ e. e.0) indexes)) (around_too records) p)
    of_selected [] indexes records p = closed.gives p
    of_selected (Field position offset ∷ selectors) indexes records p = of_selected selectors indexes records (part p (step.Field position ∷ []))
    of_selected (Element fits cells ∷ selectors) [] records p = closed.gives None
    of_selected (Element fits cells ∷ selectors) (index ∷ indexes) records p =
        closed.follows _ _ _ _ (index.1 records)
        (λ v. closed.follows _ _ _ _ (of_require (is_in fits.range v) fits.site)
        (λ _. of_selected selectors indexes records (part p (step.Element (number_of v) ∷ []))))

    -- the place that is accessed
    pub of_accessed : (access : Access) (indexes : List RelatedExpr) (records : List (Option Place))
        → R (Option Place) (accessed access (values_of (map (λ e. e.0) indexes)) (around records))
        (accessed access (values_of (map (λ e. e.0) indexes)) (around_too records))
    of_accessed access indexes records =
        closed.follows _ _ _ _ (closed.enters access.number visible)
        (λ _. subst (λ p. R (Option Place)
        (selected access.selectors.items (values_of (map (λ e. e.0) indexes)) (around records) (begun (origin_of access) (around records)))
        (selected access.selectors.items (values_of (map (λ e. e.0) indexes)) (around_too records) p)) (begun_same (origin_of access) records)
        (of_selected access.selectors.items indexes records (begun (origin_of access) (around records))))

    -- the components of a whole value
    pub of_components : (value : Whole) (indexes : List RelatedExpr) (records : List (Option Place))
        → R (List Value) (whole_of value (values_of (map (λ e. e.0) indexes)) (around records))
        (whole_of value (values_of (map (λ e. e.0) indexes)) (around_too records))
    of_components (Text number characters) indexes records =
        closed.follows _ _ _ _ (closed.enters number visible) (λ _. closed.gives (map (λ c. Number (pos c)) characters.items))
    of_components (VariableOf access type_id cells defined) indexes records =
        closed.follows _ _ _ _ (of_accessed access indexes records) (λ p. of_fetch_all p (components_of visible.types type_id) defined)

    -- actual parameters, from left to right
    pub of_all_passed : (actuals : List RelatedPassed) (records : List (Option Place))
        → R (List Argument) (all_passed (map passing_of (map (λ p. p.0) actuals)) (around records))
        (all_passed (map passing_of (map (λ p. p.0) actuals)) (around_too records))
    of_all_passed [] records = closed.gives []
    of_all_passed (one ∷ rest) records =
        closed.follows _ _ _ _ (one.1 records)
        (λ argument. closed.follows _ _ _ _ (of_all_passed rest records) (λ arguments. closed.gives (argument ∷ arguments)))

    pub of_call : (call : Call) (actuals : List RelatedPassed) (records : List (Option Place))
        → R Value (call_of call (map passing_of (map (λ p. p.0) actuals)) (around records))
        (call_of call (map passing_of (map (λ p. p.0) actuals)) (around_too records))
    of_call call actuals records =
        closed.follows _ _ _ _ (closed.enters call.number visible)
        (λ _. closed.follows _ _ _ _ (of_all_passed actuals records) (λ arguments. related call.block arguments visible))

    -- the expressions of one layer
    abbrev valued : Expr-F Expr Passed Link → Evaluation
    valued y = value_step (map-Expr Expr Passed Link Evaluation Passing Combination value_of passing_of link_of y)

    abbrev passed_on : Passed-F Expr Passed Link → Passing
    passed_on y = passed_step (map-Passed Expr Passed Link Evaluation Passing Combination value_of passing_of link_of y)

    abbrev linked : Link-F Expr Passed Link → Combination
    linked y = link_step (map-Link Expr Passed Link Evaluation Passing Combination value_of passing_of link_of y)

    abbrev bare : Expr-F RelatedExpr RelatedPassed RelatedLink → Expr-F Expr Passed Link
    bare = map-Expr RelatedExpr RelatedPassed RelatedLink Expr Passed Link (λ e. e.0) (λ p. p.0) (λ l. l.0)

    abbrev bare_passed : Passed-F RelatedExpr RelatedPassed RelatedLink → Passed-F Expr Passed Link
    bare_passed = map-Passed RelatedExpr RelatedPassed RelatedLink Expr Passed Link (λ e. e.0) (λ p. p.0) (λ l. l.0)

    abbrev bare_link : Link-F RelatedExpr RelatedPassed RelatedLink → Link-F Expr Passed Link
    bare_link = map-Link RelatedExpr RelatedPassed RelatedLink Expr Passed Link (λ e. e.0) (λ p. p.0) (λ l. l.0)

    pub of_layer : (y : Expr-F RelatedExpr RelatedPassed RelatedLink) (records : List (Option Place))
        → R Value (valued (bare y) (around records)) (valued (bare y) (around_too records))
    of_layer (Constant number value) records = closed.follows _ _ _ _ (closed.enters number visible) (λ _. closed.gives (Number value))
    of_layer (Variable access indexes holds defined) records =
        closed.follows _ _ _ _ (of_accessed access indexes.items records) (λ p. closed.fetches p defined)
    of_layer (MonadicOf number operation operand) records =
        closed.follows _ _ _ _ (closed.enters number visible) (λ _. closed.follows _ _ _ _ (operand.value.1 records)
        (λ v. closed.follows _ _ _ _ (of_operated operation (number_of v)) (λ n. closed.gives (Number n))))
    of_layer (Chain first rest) records = closed.follows _ _ _ _ (first.value.1 records) (λ v. of_in_turn rest.items records v)
    of_layer (Compare number relation left left_indexes right right_indexes) records =
        closed.follows _ _ _ _ (of_components left left_indexes.items records)
        (λ a. closed.follows _ _ _ _ (closed.enters number visible)
        (λ _. closed.follows _ _ _ _ (of_components right right_indexes.items records) (λ b. closed.gives (Number (compared relation a b)))))
    of_layer (Input number asks) records =
        closed.follows _ _ _ _ (closed.enters number visible) (λ _. closed.follows _ _ _ _ (of_asked asks) (λ b. closed.gives (Number (truth b))))
    of_layer (Set number designators members) records =
        closed.follows _ _ _ _ (closed.enters number visible)
        (λ _. closed.follows _ _ _ _ (of_gathered designators.items members.items records sets.empty) (λ set. closed.gives (Members set)))
    of_layer (CallOf call actuals) records = of_call call actuals.items records

    pub of_passed_layer : (y : Passed-F RelatedExpr RelatedPassed RelatedLink) (records : List (Option Place))
        → R Argument (passed_on (bare_passed y) (around records)) (passed_on (bare_passed y) (around_too records))
    of_passed_layer (PassedValue value fits) records =
        closed.follows _ _ _ _ (value.1 records)
        (λ v. closed.follows _ _ _ _ (of_require (is_in fits.range v) fits.site) (λ _. closed.gives (OfValue v)))
    of_passed_layer (PassedWhole type_id value indexes) records =
        closed.follows _ _ _ _ (of_components value indexes.items records) (λ values. closed.gives (OfRow values))
    of_passed_layer (Reference type_id access indexes) records =
        closed.follows _ _ _ _ (of_accessed access indexes.items records) (λ place. closed.gives (OfPlace place))

    pub of_link_layer : (y : Link-F RelatedExpr RelatedPassed RelatedLink) (records : List (Option Place)) (left : Value)
        → R Value (linked (bare_link y) (around records) left) (linked (bare_link y) (around_too records) left)
    of_link_layer y records left =
        closed.follows _ _ _ _ (closed.enters y.number visible)
        (λ _. closed.follows _ _ _ _ (y.operand.1 records) (λ v. of_operated_both y.operation left v))

    pub of_rolled : (x : Expr-F Expr Passed Link) (y : Expr-F RelatedExpr RelatedPassed RelatedLink) → bare y ≡ x → IsRelated (roll-Expr x)
    of_rolled x y is records =
        subst (λ (f : Evaluation). R Value (f (around records)) (f (around_too records)))
        (sym (fold-roll-Expr Evaluation Passing Combination value_step passed_step link_step x ∙ ap valued (sym is))) (of_layer y records)

    pub of_rolled_passed : (x : Passed-F Expr Passed Link) (y : Passed-F RelatedExpr RelatedPassed RelatedLink) → bare_passed y ≡ x
        → IsRelatedPassed (roll-Passed x)
    of_rolled_passed x y is records =
        subst (λ (f : Passing). R Argument (f (around records)) (f (around_too records)))
        (sym (fold-roll-Passed Evaluation Passing Combination value_step passed_step link_step x ∙ ap passed_on (sym is))) (of_passed_layer y records)

    pub of_rolled_link : (x : Link-F Expr Passed Link) (y : Link-F RelatedExpr RelatedPassed RelatedLink) → bare_link y ≡ x → IsRelatedLink (roll-Link x)
    of_rolled_link x y is records left =
        subst (λ (f : Combination). R Value (f (around records) left) (f (around_too records) left))
        (sym (fold-roll-Link Evaluation Passing Combination value_step passed_step link_step x ∙ ap linked (sym is))) (of_link_layer y records left)

    pub of_value : (e : Expr) → IsRelated e
    of_value = ind-Expr IsRelated IsRelatedPassed IsRelatedLink of_rolled of_rolled_passed of_rolled_link

    pub of_passing : (p : Passed) → IsRelatedPassed p
    of_passing = ind-Passed IsRelated IsRelatedPassed IsRelatedLink of_rolled of_rolled_passed of_rolled_link

    -- expressions, and actual parameters, are related
    abbrev all_related : List Expr → List RelatedExpr
    all_related [] = []
    all_related (index ∷ indexes) = (index, of_value index) ∷ all_related indexes

    all_indexes : (indexes : List Expr) → map (λ e. e.0) (all_related indexes) ≡ indexes
    all_indexes [] = refl
    all_indexes (index ∷ indexes) = ap (λ others. index ∷ others) (all_indexes indexes)

    abbrev actuals_related : List Passed → List RelatedPassed
    actuals_related [] = []
    actuals_related (one ∷ rest) = (one, of_passing one) ∷ actuals_related rest

    all_actuals : (actuals : List Passed) → map (λ p. p.0) (actuals_related actuals) ≡ actuals
    all_actuals [] = refl
    all_actuals (one ∷ rest) = ap (λ others. one ∷ others) (all_actuals rest)

    pub of_access : (access : Access) (indexes : List Expr) (records : List (Option Place))
        → R (Option Place) (accessed access (values_of indexes) (around records)) (accessed access (values_of indexes) (around_too records))
    of_access access indexes records =
        subst (λ all. R (Option Place) (accessed access (values_of all) (around records)) (accessed access (values_of all) (around_too records)))
        (all_indexes indexes)
        (of_accessed access (all_related indexes) records)

    pub of_whole_value : (value : Whole) (indexes : List Expr) (records : List (Option Place))
        → R (List Value) (whole_of value (values_of indexes) (around records)) (whole_of value (values_of indexes) (around_too records))
    of_whole_value value indexes records =
        subst (λ all. R (List Value) (whole_of value (values_of all) (around records)) (whole_of value (values_of all) (around_too records)))
        (all_indexes indexes)
        (of_components value (all_related indexes) records)

    pub of_called : (call : Call) (actuals : List Passed) (records : List (Option Place))
        → R Value (call_of call (map passing_of actuals) (around records)) (call_of call (map passing_of actuals) (around_too records))
    of_called call actuals records =
        subst (λ all. R Value (call_of call (map passing_of all) (around records)) (call_of call (map passing_of all) (around_too records)))
        (all_actuals actuals)
        (of_call call (actuals_related actuals) records)

    pub of_designated : (designators : List Designator) (members : List Expr) (records : List (Option Place)) (set : ℕ)
        → R ℕ (gathered designators (values_of members) (around records) set) (gathered designators (values_of members) (around_too records) set)
    of_designated designators members records set =
        subst (λ all. R ℕ (gathered designators (values_of all) (around records) set) (gathered designators (values_of all) (around_too records) set))
        (all_indexes members)
        (of_gathered designators (all_related members) records set)

    pub of_width : (width : Option Width) (default : ℤ) (records : List (Option Place))
        → R ℤ (width_of width default (around records)) (width_of width default (around_too records))
    of_width None default records = closed.gives default
    of_width (Some width) default records =
        closed.follows _ _ _ _ (of_value width.value records)
        (λ w. closed.follows _ _ _ _ (of_require (is_positive (number_of w)) width.site) (λ _. closed.gives (number_of w)))

    pub of_written : (value : Written) (width : Option Width) (records : List (Option Place))
        → R (Unit {0}) (written_of value width (around records)) (written_of value width (around_too records))
    of_written (Ordinal value representation) width records =
        closed.follows _ _ _ _ (of_value value records)
        (λ v. closed.follows _ _ _ _ (of_width width (default_width representation) records) (λ w. closed.writes (text_of representation (number_of v) w)))
    of_written (String value indexes) width records =
        closed.follows _ _ _ _ (of_whole_value value indexes.items records)
        (λ components. closed.follows _ _ _ _ (of_width width (pos (length_of value)) records) (λ w. closed.writes (row_text components w)))

    pub of_parameters : (parameters : List WriteParameter) (records : List (Option Place))
        → R (Unit {0}) (all_of (map parameter_of parameters) (around records)) (all_of (map parameter_of parameters) (around_too records))
    of_parameters [] records = closed.gives tt
    of_parameters (parameter ∷ parameters) records =
        closed.follows _ _ _ _ (of_written parameter.value parameter.width records) (λ _. of_parameters parameters records)

    pub of_reads : (variables : List ReadVariable) (records : List (Option Place))
        → R (Unit {0}) (all_of (map read_of variables) (around records)) (all_of (map read_of variables) (around_too records))
    of_reads [] records = closed.gives tt
    of_reads (one ∷ variables) records =
        closed.follows _ _ _ _
        (closed.follows _ _ _ _ (of_access one.access one.indexes.items records)
        (λ place. closed.follows _ _ _ _ (of_read_as one.reads one.point)
        (λ n. closed.follows _ _ _ _ (of_unless_outside one.range one.point n) (λ _. closed.stores place (Number n)))))
        (λ _. of_reads variables records)

    pub of_opened : (with : List WithRecord) (records : List (Option Place))
        → R (List (Option Place)) (opened with (around records)) (opened with (around_too records))
    of_opened [] records = closed.gives records
    of_opened (one ∷ others) records =
        closed.follows _ _ _ _ (of_access one.access one.indexes.items records) (λ place. of_opened others (records ++ place ∷ []))

  -- ---- statements, wherever they stand: in a for another environment is round them

  module _ (calls others : Calls) (related : RelatedCalls calls others) where
    abbrev here : Environment → List (Option Place) → Surroundings
    here visible records = record { visible = visible; records = records; calls = calls }

    abbrev there : Environment → List (Option Place) → Surroundings
    there visible records = record { visible = behind outer visible; records = records; calls = others }

    -- ---- the rounds of a for

    pub for-rounds-related : (head : ForHead) (body : Execution) (visible : Environment) (records : List (Option Place))
        → ((inner : Environment) → R (Unit {0}) (body (here inner records)) (body (there inner records))) → (first last : ℤ)
        → R (Unit {0}) (for_rounds head body (here visible records) first last) (for_rounds head body (there visible records) first last)
    for-rounds-related head body visible records done first last =
        closed.follows _ _ _ _ (of_require (is_in head.first.fits.range (Number first)) head.first.fits.site)
        (λ _. closed.follows _ _ _ _ (of_require (is_in head.last.fits.range (Number last)) head.last.fits.site)
        (λ _. closed.fors (visible.variables head.control) head.direction last (λ n. body (for_turn head first (here visible records) n))
        (λ n. body (for_turn head first (there visible records) n)) (λ n.
        let finished = values_before head.direction first n ∷ [] in
        subst (λ turns. R (Unit {0}) (body (here (record visible { turns = visible.turns ++ finished }) records))
        (body (record (there visible records) { visible = record visible { turns = turns } })))
        (sym (append_assoc outer visible.turns finished)) (done (record visible { turns = visible.turns ++ finished }))) first))

    for-between-related : (head : ForHead) (body : Execution) (visible : Environment) (records : List (Option Place))
        → ((inner : Environment) → R (Unit {0}) (body (here inner records)) (body (there inner records))) → (first last : ℤ)
        → R (Unit {0}) (for_between head body (here visible records) first last) (for_between head body (there visible records) first last)
    for-between-related head body visible records done first last =
        of_chosen (has_values head.direction first last) (for_rounds head body (here visible records) first last)
        (for_rounds head body (there visible records) first last) (give tt) (give tt)
        (for-rounds-related head body visible records done first last) (closed.gives tt)

    abbrev IsRelatedStmt : Stmt → Type 0
    IsRelatedStmt e =
        (visible : Environment) (records : List (Option Place)) → R (Unit {0}) (effect_of e (here visible records)) (effect_of e (there visible records))

    abbrev RelatedStmt : Type 0
    RelatedStmt = (e : Stmt) × IsRelatedStmt e

    pub of_all : (statements : List RelatedStmt) (visible : Environment) (records : List (Option Place))
        → R (Unit {0}) (all_of (map effect_of (map (λ e. e.0) statements)) (here visible records))
        (all_of (map effect_of (map (λ e. e.0) statements)) (there visible records))
    of_all [] visible records = closed.gives tt
    of_all (statement ∷ statements) visible records = closed.follows _ _ _ _ (statement.1 visible records) (λ _. of_all statements visible records)

    -- the arm of a case at a value, or its error
    pub of_arm : (site : ℕ) (rows : List (Vec ℤ Global)) (arms : List RelatedStmt) (n : ℤ) (visible : Environment) (records : List (Option Place))
        → R (Unit {0}) (arm_of site rows (map effect_of (map (λ e. e.0) arms)) n (here visible records))
        (arm_of site rows (map effect_of (map (λ e. e.0) arms)) n (there visible records))
    of_arm site [] arms n visible records = closed.errs site
    of_arm site (row ∷ rows) [] n visible records = closed.errs site
    of_arm site (row ∷ rows) (arm ∷ arms) n visible records =
        of_chosen (is_among row.items n) (effect_of arm.0 (here visible records)) (effect_of arm.0 (there visible records))
        (arm_of site rows (map effect_of (map (λ e. e.0) arms)) n (here visible records))
        (arm_of site rows (map effect_of (map (λ e. e.0) arms)) n (there visible records))
        (arm.1 visible records) (of_arm site rows arms n visible records)

    -- the statements of one layer
    abbrev done : Stmt-F Stmt → Execution
    done y = effect_step (map-Stmt Stmt Execution effect_of y)

    abbrev bare_stmt : Stmt-F RelatedStmt → Stmt-F Stmt
    bare_stmt = map-Stmt RelatedStmt Stmt (λ e. e.0)

    pub of_stmt_layer : (y : Stmt-F RelatedStmt) (visible : Environment) (records : List (Option Place))
        → R (Unit {0}) (done (bare_stmt y) (here visible records)) (done (bare_stmt y) (there visible records))
    of_stmt_layer (Empty number) visible records = closed.enters number visible
    of_stmt_layer (Assign assignment) visible records =
        closed.follows _ _ _ _ (closed.enters assignment.number visible)
        (λ _. closed.follows _ _ _ _ (of_access visible calls others related assignment.target assignment.indexes.items records)
        (λ p. closed.follows _ _ _ _ (of_value visible calls others related assignment.value records)
        (λ v. closed.follows _ _ _ _ (of_require (is_in assignment.fits.range v) assignment.fits.site) (λ _. closed.stores p v))))
    of_stmt_layer (Copy copying) visible records =
        closed.follows _ _ _ _ (closed.enters copying.number visible)
        (λ _. closed.follows _ _ _ _ (of_access visible calls others related copying.target copying.indexes.items records)
        (λ p. closed.follows _ _ _ _ (of_whole_value visible calls others related copying.value copying.value_indexes.items records)
        (λ numbers. of_store_all p (components_of visible.types copying.type_id) numbers)))
    of_stmt_layer (Write writing) visible records =
        closed.follows _ _ _ _ (closed.enters writing.number visible)
        (λ _. closed.follows _ _ _ _ (of_parameters visible calls others related writing.parameters.items records) (λ _. of_line_ended writing.ends_line))
    of_stmt_layer (Read reading) visible records =
        closed.follows _ _ _ _ (closed.enters reading.number visible)
        (λ _. closed.follows _ _ _ _ (of_reads visible calls others related reading.variables.items records) (λ _. of_line_passed reading.line))
    of_stmt_layer (Calling calling) visible records =
        closed.follows _ _ _ _ (of_called visible calls others related calling.call calling.actuals.items records) (λ _. closed.gives tt)
    of_stmt_layer (Compound number statements) visible records =
        closed.follows _ _ _ _ (closed.enters number visible) (λ _. of_all statements.items visible records)
    of_stmt_layer (If number condition consequence None) visible records =
        closed.follows _ _ _ _ (closed.enters number visible)
        (λ _. closed.follows _ _ _ _ (of_value visible calls others related condition records)
        (λ v. of_chosen (is_so v) (effect_of consequence.value.0 (here visible records)) (effect_of consequence.value.0 (there visible records))
        (give tt) (give tt)
        (consequence.value.1 visible records)
        (closed.gives tt)))
    of_stmt_layer (If number condition consequence (Some alternative)) visible records =
        closed.follows _ _ _ _ (closed.enters number visible)
        (λ _. closed.follows _ _ _ _ (of_value visible calls others related condition records)
        (λ v. of_chosen (is_so v) (effect_of consequence.value.0 (here visible records)) (effect_of consequence.value.0 (there visible records))
        (effect_of alternative.value.0 (here visible records))
        (effect_of alternative.value.0 (there visible records)) (consequence.value.1 visible records) (alternative.value.1 visible records)))
    of_stmt_layer (While head body) visible records =
        closed.follows _ _ _ _ (closed.enters head.number visible)
        (λ _. closed.whiles (value_of head.condition (here visible records)) (value_of head.condition (there visible records))
        (effect_of body.value.0 (here visible records)) (effect_of body.value.0 (there visible records))
        (of_value visible calls others related head.condition records) (body.value.1 visible records))
    of_stmt_layer (Repeat head statements) visible records =
        let all : Execution = all_of (map effect_of (map (λ e. e.0) statements.items)) in
        closed.follows _ _ _ _ (closed.enters head.number visible)
        (λ _. closed.repeats (all (here visible records)) (all (there visible records)) (value_of head.condition (here visible records))
        (value_of head.condition (there visible records)) (of_all statements.items visible records)
        (of_value visible calls others related head.condition records))
    of_stmt_layer (For head body) visible records =
        closed.follows _ _ _ _ (closed.enters head.number visible)
        (λ _. closed.follows _ _ _ _ (of_value visible calls others related head.first.value records)
        (λ a. closed.follows _ _ _ _ (of_value visible calls others related head.last.value records)
        (λ b. closed.follows _ _ _ _ (for-between-related head (effect_of body.value.0) visible records (λ inner. body.value.1 inner records)
        (number_of a) (number_of b))
        (λ _. closed.undefines (visible.variables head.control)))))
    of_stmt_layer (Case head arms) visible records =
        closed.follows _ _ _ _ (closed.enters head.number visible)
        (λ _. closed.follows _ _ _ _ (of_value visible calls others related head.index records)
        (λ v. of_arm head.site head.constants.items arms.items (number_of v) visible records))
    of_stmt_layer (With head body) visible records =
        closed.follows _ _ _ _ (closed.enters head.number visible)
        (λ _. closed.follows _ _ _ _ (of_opened visible calls others related head.records.items records) (λ inner. body.value.1 visible inner))

    pub each_stmt : (e : Stmt) → IsRelatedStmt e
    each_stmt = ind-Stmt IsRelatedStmt
        (λ x y is visible records. subst (λ (f : Execution). R (Unit {0}) (f (here visible records)) (f (there visible records)))
        (sym (fold-roll-Stmt Execution effect_step x ∙ ap done (sym is))) (of_stmt_layer y visible records))

  module _ (visible : Environment) (calls others : Calls) (related : RelatedCalls calls others) where
    pub of_effect : (e : Stmt) (records : List (Option Place))
        → R (Unit {0}) (effect_of e (here calls others related visible records)) (effect_of e (there calls others related visible records))
    of_effect e records = each_stmt calls others related e visible records

    pub of_statements : (statements : List Stmt) (records : List (Option Place))
        → R (Unit {0}) (all_of (map effect_of statements) (here calls others related visible records))
        (all_of (map effect_of statements) (there calls others related visible records))
    of_statements [] records = closed.gives tt
    of_statements (statement ∷ statements) records = closed.follows _ _ _ _ (of_effect statement records) (λ _. of_statements statements records)

    pub of_for_rounds : (head : ForHead) (body : Stmt) (records : List (Option Place)) (first last : ℤ)
        → R (Unit {0}) (for_rounds head (effect_of body) (here calls others related visible records) first last)
        (for_rounds head (effect_of body) (there calls others related visible records) first last)
    of_for_rounds head body records first last =
        for-rounds-related calls others related head (effect_of body) visible records (λ inner. each_stmt calls others related body inner records) first last

module _ (R : (A : Type 0) → Action A → Action A → Type 0) (closed : Closed R) where
  -- an activation of a block, but for its begin and its end
  pub of_executed : (tree : Tree) (calls others : Calls) → RelatedCalls R closed calls others → (block : Block) (activation : Activation)
      → R Value (executed tree calls block activation) (executed tree others block activation)
  of_executed tree calls others related block activation =
      let visible = environment_of tree activation in
      closed.follows _ _ _ _ (of_assign_all R closed tree visible block.heading.parameters.items activation.arguments)
      (λ _. closed.follows _ _ _ _ (of_effect R closed visible calls others related block.body []) (λ _. of_result R closed block.heading.result visible))
