-- Steps: assignments by which a variable gets its own value plus or minus that of an expression without calls (ISO
-- 7185:1990, 6.8.2.2), by what was noted of the operands. It does not say that a variable grows.
use Rattle.std.specs.Prelude.{ℕ, Bool, true, false, ◌&&◌, not, List, [], ◌∷◌, Option, Some, None, if◌then◌else◌}
use Rattle.typed_tree.specs.declared.tree.Dyadic.{Dyadic}
use Rattle.typed_tree.specs.declared.tree.Dyadic.TheVariants as dyadic
use Rattle.typed_tree.specs.declared.tree.Expr.{Expr}
use Rattle.typed_tree.specs.declared.tree.Link.{Link}
use Rattle.typed_tree.specs.declared.tree.Passed.{Passed}
use Rattle.typed_tree.specs.declared.tree.Expr.TheOpen.{Expr-F}
use Rattle.typed_tree.specs.declared.tree.Expr.TheOpen.Expr-F.{Chain}
use Rattle.typed_tree.specs.declared.tree.Expr.TheViews.{out-Expr}
use Rattle.typed_tree.specs.declared.tree.Tree.{Tree}
use Rattle.typed_tree.specs.Calls.{holds_call}
use Rattle.domain.specs.Interval.{Interval, negated}
use Rattle.domain.specs.Versions.{has}
use Rattle.domain.specs.declared.versions.Extension.{Extension}
use Rattle.checker_state.specs.Bounds.{is_variable}
use Rattle.checker_state.specs.Conditions.{condition_of}
use Rattle.checker_state.specs.Forms.{root_of}
use Rattle.checker_state.specs.declared.value.Known.{Known}
use Rattle.checker_state.specs.declared.value.Known.TheVariants.{Ordinal, Set}
use Rattle.checker_rows.specs.Rows.{is_ordinal_variable}
use Rattle.checker_expressions.specs.declared.noting.Noted.{Noted}
use Rattle.checker_expressions.specs.Walk.{Valued, Walking, noting_walk, value_walk, with_noted}

-- the variable of a program that an expression is, if it is an ordinal one
abbrev pub entire_variable : Tree → Expr → Option ℕ
entire_variable tree expression = root_of (condition_of (is_ordinal_variable tree) expression).form

-- an operand is a variable, and the other one holds no call
abbrev pub is_beside_quiet : Tree → ℕ → (operand other : Expr) → Bool
is_beside_quiet tree root operand other = is_variable root (entire_variable tree operand) && not (holds_call other)

-- what is added with an operand, and with its negative
abbrev pub added : Known → Option Interval
added (Ordinal range) = Some range
added (Set hull) = None

abbrev pub taken_off : Known → Option Interval
taken_off (Ordinal range) = Some (negated range)
taken_off (Set hull) = None

-- what a sum adds to a variable to its left, or else to one to its right
abbrev pub sum_step : (at_left at_right : Bool) → Noted → Option Interval
sum_step true at_right noted = added noted.right
sum_step false true noted = added noted.left
sum_step false false noted = None

-- what a difference adds to a variable to its left
abbrev pub difference_step : (at_left : Bool) → Noted → Option Interval
difference_step true noted = taken_off noted.right
difference_step false noted = None

-- what an operator adds to a variable that is one of its operands
abbrev pub operated_step : Dyadic → (at_left at_right : Bool) → Noted → Option Interval
operated_step (dyadic.Plus overflow) at_left at_right noted = sum_step at_left at_right noted
operated_step (dyadic.Minus overflow) at_left at_right noted = difference_step at_left noted
operated_step other at_left at_right noted = None

-- an operator behind a first operand
abbrev pub link_step : Tree → ℕ → (first : Expr) → Link → Noted → Option Interval
link_step tree root first link noted = operated_step link.operation (is_beside_quiet tree root first link.operand)
    (is_beside_quiet tree root link.operand first) noted

-- where there is one operator, it was noted once
abbrev pub chain_step : Tree → ℕ → Expr → List Link → List Noted → Option Interval
chain_step tree root first (link ∷ []) (noted ∷ []) = link_step tree root first link noted
chain_step tree root first links notes = None

abbrev pub layer_step : Tree → ℕ → Expr-F Expr Passed Link → List Noted → Option Interval
layer_step tree root (Chain first rest) notes = chain_step tree root first.value rest.items notes
layer_step tree root layer notes = None

-- what the value of an expression adds to a variable, by its notes, if its assignment is a step
abbrev pub value_step : Tree → ℕ → Expr → List Noted → Option Interval
value_step tree root expression notes = layer_step tree root (out-Expr expression) notes

-- a value without notes
abbrev pub unnoted_walk : Expr → Walking Valued
unnoted_walk expression = with_noted [] (λ context state. []) (value_walk expression)

-- a value that is noted where certificates have an extension
abbrev pub noted_where : Extension → Expr → Walking Valued
noted_where extension expression context =
    if has context.version extension then noting_walk [] expression context else unnoted_walk expression context
