-- What is known where a condition had a truth value (ISO 7185:1990, 6.7.2.3, 6.7.2.5, 6.8.3.4). It does not say which
-- truth value a condition has.
use Rattle.std.specs.Prelude.{ℕ, ℤ, pos, ◌+ℤ◌, ◌-ℤ◌, int_le, Bool, true, false, not, List, [], ◌∷◌, Option, Some, None}
use Rattle.std.specs.Prelude.{◌++◌, if◌then◌else◌, map}
use Rattle.std.specs.Option.{option_map}
use Rattle.std.specs.List.{list_all}
use Rattle.std.specs.Ordering.{int_eq}
use Rattle.typed_tree.specs.declared.tree.Monadic.{Monadic}
use Rattle.typed_tree.specs.declared.tree.Monadic.TheVariants as monadic
use Rattle.typed_tree.specs.declared.tree.Calculation.TheVariants as calculation
use Rattle.typed_tree.specs.declared.tree.Dyadic.{Dyadic}
use Rattle.typed_tree.specs.declared.tree.Dyadic.TheVariants as dyadic
use Rattle.typed_tree.specs.declared.tree.Relation.{Relation}
use Rattle.typed_tree.specs.declared.tree.Relation.TheVariants as relation
use Rattle.typed_tree.specs.declared.tree.Expr.{Expr}
use Rattle.typed_tree.specs.declared.tree.Link.{Link}
use Rattle.typed_tree.specs.declared.tree.Expr.TheOpen.{Expr-F, Passed-F, Link-F}
use Rattle.typed_tree.specs.declared.tree.Expr.TheOpen.Expr-F.{Constant, Variable, Monadic as MonadicOf, Chain}
use Rattle.typed_tree.specs.declared.tree.Expr.TheOpen.Expr-F.{Compare, Call, Set, Input}
use Rattle.typed_tree.specs.declared.tree.Expr.TheFolds.{fold-Expr, fold-Link}
use Rattle.typed_tree.specs.declared.tree.Selector.{Selector}
use Rattle.typed_tree.specs.Accesses.{Origin, origin_of}
use Rattle.typed_tree.specs.Calls.{holds_call}
use Rattle.domain.specs.Interval.{Interval, always_true, at_least, at_most, never_true}
use Rattle.domain.specs.declared.versions.Version.{Version}
use Rattle.checker_state.specs.Bounds.{Bound}
use Rattle.checker_state.specs.State.{State, Dead, Live, bound_range, range_of, unless_empty, with_range}
use Rattle.checker_state.specs.Changes.{ordered, with_some}
use Rattle.checker_state.specs.declared.forms.Form.{Form}
use Rattle.checker_state.specs.declared.forms.Form.TheVariants.{Fixed, Other}
use Rattle.checker_state.specs.declared.forms.Spelling.TheVariants.{Literal}
use Rattle.checker_state.specs.Forms.{Operand, access_form, bound_of, chain_form, sign_form}

-- ---- bounds

-- the values of a variable lie in a range from here on; no run goes on from an empty one
abbrev pub narrowed : ℕ → Interval → State → State
narrowed root range state = unless_empty range (with_range root range state)

-- a number is at most another, at least it, or isn't it; or the value of a variable plus a number is
abbrev pub value_at_most : Option ℕ → ℤ → ℤ → State → State
value_at_most None m n state = if int_le m n then state else Dead
value_at_most (Some root) k n state = narrowed root (at_most (n -ℤ k) (range_of state root)) state

abbrev pub value_at_least : Option ℕ → ℤ → ℤ → State → State
value_at_least None m n state = if int_le n m then state else Dead
value_at_least (Some root) k n state = narrowed root (at_least (n -ℤ k) (range_of state root)) state

-- a bound is at most a number, or at least a number
abbrev pub bound_at_most : Bound → ℤ → State → State
bound_at_most bound n state = value_at_most bound.root bound.number n state

abbrev pub bound_at_least : Bound → ℤ → State → State
bound_at_least bound n state = value_at_least bound.root bound.number n state

-- a range without a number, where it is the last, or the first
abbrev pub without_last : ℤ → Interval → Interval
without_last n range = if int_eq range.last n then at_most (n -ℤ pos 1) range else range

abbrev pub without_first : ℤ → Interval → Interval
without_first n range = if int_eq range.first n then at_least (n +ℤ pos 1) range else range

abbrev pub value_isnt : Option ℕ → ℤ → ℤ → State → State
value_isnt None m n state = if int_eq m n then Dead else state
value_isnt (Some root) k n state =
    narrowed root (without_last (n -ℤ k) (without_first (n -ℤ k) (range_of state root))) state

-- a bound isn't a number
abbrev pub bound_isnt : Bound → ℤ → State → State
bound_isnt bound n state = value_isnt bound.root bound.number n state

-- the order of two variables, where both bounds have one: the first plus a number is at most the second
abbrev pub with_order_of : Option ℕ → ℤ → ℤ → Option ℕ → ℤ → State → State
with_order_of (Some root) m k (Some other) n state = with_some (ordered root other ((n -ℤ m) -ℤ k)) state
with_order_of one m k other n state = state

abbrev pub with_order : Bound → ℤ → Bound → State → State
with_order a k b state = with_order_of a.root a.number k b.root b.number state

-- a bound plus a number is at most another
abbrev pub with_le : Bound → ℤ → Bound → State → State
with_le a k b state =
    bound_at_least b ((bound_range state a).first +ℤ k)
    (bound_at_most a ((bound_range state b).last -ℤ k) (with_order a k b state))

-- a bound isn't the one number of a range
abbrev pub unlike : Bound → Interval → State → State
unlike a range state = if int_eq range.first range.last then bound_isnt a range.first state else state

-- two bounds are different: first an end of the left one is cut off, then one of the right
abbrev pub with_different : Bound → Bound → State → State
with_different a b state =
    let left = unlike a (bound_range state b) state in
    unlike b (bound_range left a) left

-- a relation of two bounds holds
abbrev pub related : Relation → Bound → Bound → State → State
related relation.Equal a b state = with_le b (pos 0) a (with_le a (pos 0) b state)
related relation.NotEqual a b state = with_different a b state
related relation.Less a b state = with_le a (pos 1) b state
related relation.Greater a b state = with_le b (pos 1) a state
related relation.LessOrEqual a b state = with_le a (pos 0) b state
related relation.GreaterOrEqual a b state = with_le b (pos 0) a state

-- the relation that holds where another doesn't
abbrev pub opposite : Relation → Relation
opposite relation.Equal = relation.NotEqual
opposite relation.NotEqual = relation.Equal
opposite relation.Less = relation.GreaterOrEqual
opposite relation.Greater = relation.LessOrEqual
opposite relation.LessOrEqual = relation.Greater
opposite relation.GreaterOrEqual = relation.Less

-- the relation that holds where one had a truth value
abbrev pub told : Relation → Bool → Relation
told r truth = if truth then r else opposite r

-- a relation of two operands holds: something is known where both have bound forms
abbrev pub related_forms : Relation → Option Bound → Option Bound → State → State
related_forms r (Some a) (Some b) state = related r a b state
related_forms r left right state = state

-- ---- conditions

-- what is accessed
pub record Accessed : Type 0 where
  pub origin : Origin
  pub selectors : List Selector

-- an operand of an operator: its form, and what it accesses, if it is an access
pub record Subject : Type 0 where
  pub form : Form
  pub accessed : Option Accessed

-- an operator between two operands, and the truth value that it had, if that is known
pub record Telling : Type 0 where
  pub truth : Option Bool
  pub operation : Dyadic
  pub left : Subject
  pub right : Subject

-- a condition, or an operand of one: its form, what it accesses, if it is an access, what is known where it had a truth
-- value, and which operators tell something of their operands, by the truth value that it had, if that is known
pub record Condition : Type 0 where
  pub form : Form
  pub accessed : Option Accessed
  pub refined : Bool → State → State
  pub tellings : Option Bool → List Telling

-- an operator of a condition, and its right operand
pub record Conjunct : Type 0 where
  pub operation : Dyadic
  pub right : Condition

-- an operator, and the form of its right operand
abbrev pub operand_of : Conjunct → Operand
operand_of conjunct = record { operation = conjunct.operation; form = conjunct.right.form }

-- where the whole has this truth value, each operand has it: `and` that is true, `or` that is false
abbrev pub takes_both : Bool → Dyadic → Bool
takes_both true dyadic.And = true
takes_both false dyadic.Or = true
takes_both truth operation = false

-- each right operand had a truth value
abbrev pub all_refined : Bool → List Conjunct → State → State
all_refined truth [] state = state
all_refined truth (conjunct ∷ conjuncts) state = all_refined truth conjuncts (conjunct.right.refined truth state)

-- an operation on two operands, perhaps of bound forms, had a truth value: only relations are refined
abbrev pub operation_refined : Dyadic → Bool → Option Bound → Option Bound → State → State
operation_refined (dyadic.Relation r) truth left right state = related_forms (told r truth) left right state
operation_refined operation truth left right state = state

-- a single operator, by the rules by which the state is known
abbrev pub single_refined : Bool → Form → List Conjunct → State → State
single_refined truth left (conjunct ∷ []) (Live known) =
    operation_refined conjunct.operation truth (bound_of known.rules left)
    (bound_of known.rules conjunct.right.form) (Live known)
single_refined truth left conjuncts state = state

-- a chain of operators
abbrev pub chain_refined : Condition → List Conjunct → Bool → State → State
chain_refined first conjuncts truth state =
    if list_all (λ conjunct. takes_both truth conjunct.operation) conjuncts
    then all_refined truth conjuncts (first.refined truth state)
    else single_refined truth first.form conjuncts state

-- an operation on one operand had a truth value: `not` swaps them
abbrev pub monadic_refined : Monadic → Condition → Bool → State → State
monadic_refined (monadic.Plain calculation.Complement) operand truth state = operand.refined (not truth) state
monadic_refined operation operand truth state = state

-- ---- the operators of a condition

-- `and` and `or` join conditions
abbrev pub joins : Dyadic → Bool
joins dyadic.And = true
joins dyadic.Or = true
joins operation = false

-- a condition as an operand
abbrev pub subject_of : Condition → Subject
subject_of condition = record { form = condition.form; accessed = condition.accessed }

-- the truth value that each operand of a chain takes from the whole, if it takes one
abbrev pub taken : List Conjunct → Option Bool → Option Bool
taken conjuncts None = None
taken conjuncts (Some truth) =
    if list_all (λ conjunct. takes_both truth conjunct.operation) conjuncts then Some truth else None

-- what is told inside of right operands
abbrev pub all_tellings : List Conjunct → Option Bool → List Telling
all_tellings [] truth = []
all_tellings (conjunct ∷ conjuncts) truth = conjunct.right.tellings truth ++ all_tellings conjuncts truth

-- what operators tell behind a first operand: a single one had the truth value of the whole
abbrev pub turn_tellings : Subject → List Conjunct → Option Bool → List Telling
turn_tellings left [] truth = []
turn_tellings left (conjunct ∷ []) truth =
    record { truth = truth; operation = conjunct.operation; left = left; right = subject_of conjunct.right } ∷ []
turn_tellings left (conjunct ∷ next ∷ conjuncts) truth =
    record { truth = None; operation = conjunct.operation; left = left; right = subject_of conjunct.right }
    ∷ turn_tellings left (next ∷ conjuncts) None

-- a chain of operators: where they join conditions, these tell something, and else the operators do
abbrev pub chain_tellings : Condition → List Conjunct → Option Bool → List Telling
chain_tellings first conjuncts truth = if list_all (λ conjunct. joins conjunct.operation) conjuncts
    then first.tellings (taken conjuncts truth) ++ all_tellings conjuncts (taken conjuncts truth)
    else turn_tellings (subject_of first) conjuncts truth

-- the truth value of an operand, by that of an operation on it
abbrev pub under : Monadic → Option Bool → Option Bool
under (monadic.Plain calculation.Complement) truth = option_map not truth
under operation truth = None

abbrev pub link_condition : Link-F Condition (Unit {0}) Conjunct → Conjunct
link_condition link = record { operation = link.operation; right = link.operand }

-- nothing is known of a condition by the actual parameters of calls in it
abbrev pub passed_condition : Passed-F Condition (Unit {0}) Conjunct → Unit {0}
passed_condition actual = tt

-- no run comes where a condition would have a truth value that its range excludes
abbrev pub unless_excluded : Bool → Interval → State → State
unless_excluded truth range state = if (if truth then never_true range else always_true range) then Dead else state

-- an expression that tells nothing
abbrev pub plain_condition : Form → Option Accessed → Condition
plain_condition form accessed = record {
  form = form;
  accessed = accessed;
  refined = λ truth state. state;
  tellings = λ truth. [];
}

-- by what is told of variables, which of them are ordinals
module _ (ordinal : ℕ → Bool) where
  abbrev pub condition_step : Expr-F Condition (Unit {0}) Conjunct → Condition
  condition_step (Constant number value) = plain_condition (Fixed Literal value) None
  condition_step (Variable access indexes holds defined) =
      plain_condition (access_form ordinal (origin_of access) access.selectors.items)
      (Some (record { origin = origin_of access; selectors = access.selectors.items }))
  condition_step (MonadicOf number operation operand) = record {
    form = sign_form operand.value.form operation;
    accessed = None;
    refined = monadic_refined operation operand.value;
    tellings = λ truth. operand.value.tellings (under operation truth);
  }
  condition_step (Chain first rest) = record {
    form = chain_form first.value.form (map operand_of rest.items);
    accessed = None;
    refined = chain_refined first.value rest.items;
    tellings = chain_tellings first.value rest.items;
  }
  condition_step (Compare number relation left left_indexes right right_indexes) = plain_condition Other None
  condition_step (Set number designators members) = plain_condition Other None
  condition_step (Call call actuals) = plain_condition Other None
  condition_step (Input number asks) = plain_condition Other None

  -- an expression as a condition
  abbrev pub condition_of : Expr → Condition
  condition_of = fold-Expr Condition (Unit {0}) Conjunct condition_step passed_condition link_condition

  -- an operator and its right operand
  abbrev pub conjunct_of : Link → Conjunct
  conjunct_of = fold-Link Condition (Unit {0}) Conjunct condition_step passed_condition link_condition

  -- the bound that an expression is, if it is a bound form by the rules of a version
  abbrev pub bound_form : Version → Expr → Option Bound
  bound_form version expression = bound_of version (condition_of expression).form

  -- what is known where a condition had a truth value; a call in it may have changed what it says
  abbrev pub refined : Bool → Expr → State → State
  refined truth condition state =
      if holds_call condition then state else (condition_of condition).refined truth state

  -- what is known on the branch of a condition, by its truth value there and the range of its values
  abbrev pub branched : Bool → Expr → Interval → State → State
  branched truth condition range state = refined truth condition (unless_excluded truth range state)
