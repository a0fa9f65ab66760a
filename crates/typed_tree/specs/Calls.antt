-- Which expressions hold a call of a function (ISO 7185:1990, 6.7.3): a call may change variables, so what is known of
-- an expression that holds one isn't known behind it. It says nothing of what a call changes.
use Rattle.std.specs.Prelude.{◌||◌, Bool, true, false, List, map}
use Rattle.std.specs.List.{list_any}
use Rattle.typed_tree.specs.declared.tree.Whole.{Whole}
use Rattle.typed_tree.specs.declared.tree.Expr.{Expr}
use Rattle.typed_tree.specs.declared.tree.Link.{Link}
use Rattle.typed_tree.specs.declared.tree.Passed.{Passed}
use Rattle.typed_tree.specs.declared.tree.Expr.TheOpen.{Expr-F, Passed-F, Link-F}
use Rattle.typed_tree.specs.declared.tree.Expr.TheOpen.Expr-F.{Constant, Variable, Monadic as MonadicOf, Chain}
use Rattle.typed_tree.specs.declared.tree.Expr.TheOpen.Expr-F.{Compare, Call, Set, Input}
use Rattle.typed_tree.specs.declared.tree.Expr.TheOpen.Passed-F.{Value, Whole as WholeOf, Reference}
use Rattle.typed_tree.specs.declared.tree.Expr.TheFolds.{fold-Expr, fold-Passed, fold-Link}
use Rattle.typed_tree.specs.WellFormed.{whole_indexes}

-- one of them does
abbrev pub any_holds : List Bool → Bool
any_holds tests = list_any (λ b. b) tests

abbrev pub link_holds_call : Link-F Bool Bool Bool → Bool
link_holds_call link = link.operand

abbrev pub passed_step_holds_call : Passed-F Bool Bool Bool → Bool
passed_step_holds_call (Value value fits) = value
passed_step_holds_call (WholeOf type_id value indexes) = any_holds (whole_indexes value indexes.items)
passed_step_holds_call (Reference type_id access indexes) = any_holds indexes.items

abbrev pub expression_holds_call : Expr-F Bool Bool Bool → Bool
expression_holds_call (Constant number value) = false
expression_holds_call (Variable access indexes held defined) = any_holds indexes.items
expression_holds_call (MonadicOf number operation operand) = operand.value
expression_holds_call (Chain first rest) = first.value || any_holds rest.items
expression_holds_call (Compare number relation left left_indexes right right_indexes) =
    any_holds (whole_indexes left left_indexes.items) || any_holds (whole_indexes right right_indexes.items)
expression_holds_call (Call call actuals) = true
expression_holds_call (Input number asks) = false
expression_holds_call (Set number designators members) = any_holds members.items

-- an expression holds a call
abbrev pub holds_call : Expr → Bool
holds_call = fold-Expr Bool Bool Bool expression_holds_call passed_step_holds_call link_holds_call

-- an actual parameter does
abbrev pub passed_holds_call : Passed → Bool
passed_holds_call = fold-Passed Bool Bool Bool expression_holds_call passed_step_holds_call link_holds_call

-- the right operand of an operator does
abbrev pub link_holds_call_of : Link → Bool
link_holds_call_of = fold-Link Bool Bool Bool expression_holds_call passed_step_holds_call link_holds_call

-- one of these expressions does
abbrev pub hold_call : List Expr → Bool
hold_call expressions = any_holds (map holds_call expressions)

-- a whole value, with its index expressions, does
abbrev pub whole_holds_call : Whole → List Expr → Bool
whole_holds_call value indexes = any_holds (whole_indexes value (map holds_call indexes))

-- one of the actual parameters of a call does
abbrev pub actuals_hold_call : List Passed → Bool
actuals_hold_call actuals = any_holds (map passed_holds_call actuals)
