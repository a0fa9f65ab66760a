-- What a condition without calls tells of the two sides of its operators, by what was noted of them (ISO 7185:1990,
-- 6.7.2.5, 6.8.3.4): a side is met with what the other one lets through. It does not say which truth value a condition
-- has.
use Rattle.std.specs.Prelude.{ℕ, ℤ, pos, ◌+ℤ◌, ◌-ℤ◌, Bool, true, false, List, [], ◌∷◌, Option, Some, None}
use Rattle.std.specs.Prelude.{◌&&◌, if◌then◌else◌}
use Rattle.std.specs.List.{list_all}
use Rattle.std.specs.Option.{option_map}
use Rattle.std.specs.Ordering.{int_eq}
use Rattle.typed_tree.specs.declared.tree.Dyadic.{Dyadic}
use Rattle.typed_tree.specs.declared.tree.Dyadic.TheVariants as dyadic
use Rattle.typed_tree.specs.declared.tree.Relation.{Relation}
use Rattle.typed_tree.specs.declared.tree.Relation.TheVariants as relation
use Rattle.typed_tree.specs.declared.tree.Expr.{Expr}
use Rattle.typed_tree.specs.declared.tree.PathStep.{PathStep}
use Rattle.typed_tree.specs.declared.tree.PathStep.TheVariants as path
use Rattle.typed_tree.specs.declared.tree.Selector.{Selector}
use Rattle.typed_tree.specs.declared.tree.Selector.TheVariants.{Element, Field}
use Rattle.typed_tree.specs.Accesses.{Origin, steps_of}
use Rattle.typed_tree.specs.declared.tree.Tree.{Tree}
use Rattle.typed_tree.specs.Calls.{holds_call}
use Rattle.domain.specs.Interval.{Interval, at_least, at_most, common}
use Rattle.domain.specs.declared.versions.Version.TheVariants.{Three}
use Rattle.checker_rows.specs.Rows.{is_ordinal_variable, rows_accessed}
use Rattle.checker_state.specs.Bounds.{Bound}
use Rattle.checker_state.specs.Conditions.{Accessed, Subject, Telling, condition_of, narrowed, subject_of, told}
use Rattle.checker_state.specs.Conditions.{without_first, without_last}
use Rattle.checker_state.specs.Forms.{bound_of}
use Rattle.checker_state.specs.State.{State, range_of}
use Rattle.checker_state.specs.declared.value.Known.{Known}
use Rattle.checker_state.specs.declared.value.Known.TheVariants.{Ordinal, Set}
use Rattle.checker_expressions.specs.declared.noting.Noted.{Noted}
use Rattle.checker_sides.specs.declared.sides.Side.{Side}

-- ---- sides

-- the side that a bound is, if it is a variable, perhaps plus a number
abbrev pub side_of_parts : Option ℕ → ℤ → Option Side
side_of_parts None number = None
side_of_parts (Some root) number = Some (record { row = root; number = number })

abbrev pub bound_side : Option Bound → Option Side
bound_side None = None
bound_side (Some bound) = side_of_parts bound.root bound.number

-- a step, and a selector, that leads to a field, and not to an element
abbrev pub is_field : PathStep → Bool
is_field path.Element = false
is_field (path.Field position) = true

abbrev pub selects_field : Selector → Bool
selects_field (Element fits cells) = false
selects_field (Field position offset) = true

-- no index leads to what is accessed
abbrev pub is_straight : Origin → List Selector → Bool
is_straight origin selectors = list_all is_field (steps_of origin) && list_all selects_field selectors

-- the side that a row as such is
abbrev pub row_side : ℕ → Side
row_side row = record { row = row; number = pos 0 }

-- the only one of some rows
abbrev pub only_row : List ℕ → Option ℕ
only_row (row ∷ []) = Some row
only_row rows = None

-- an ordinal that is accessed without an index is one component, that of the row there
abbrev pub access_side : Tree → Accessed → Option Side
access_side tree access = if is_straight access.origin access.selectors
    then option_map row_side (only_row (rows_accessed tree access.origin access.selectors)) else None

-- the side that an operand is, if it is one: what is accessed without an index, or a bound form
abbrev pub side_by : Tree → Option Accessed → Option Bound → Option Side
side_by tree (Some access) bound = access_side tree access
side_by tree None bound = bound_side bound

abbrev pub side_of : Tree → Subject → Option Side
side_of tree subject = side_by tree subject.accessed (bound_of Three subject.form)

-- the side that an expression is
abbrev pub expression_side : Tree → Expr → Option Side
expression_side tree expression = side_of tree (subject_of (condition_of (is_ordinal_variable tree) expression))

-- a side lies in a range from here on; no run goes on where it can't
abbrev pub side_met : Side → Interval → State → State
side_met side range state =
    narrowed side.row
    (at_least (range.first -ℤ side.number) (at_most (range.last -ℤ side.number) (range_of state side.row))) state

abbrev pub met : Option Side → Interval → State → State
met None range state = state
met (Some side) range state = side_met side range state

-- ---- operators

-- the numbers of a range that stand in a relation to one of another
abbrev pub let_through : Relation → (other own : Interval) → Interval
let_through relation.Equal other own = common own other
let_through relation.NotEqual other own =
    if int_eq other.first other.last then without_last other.first (without_first other.first own) else own
let_through relation.Less other own = at_most (other.last -ℤ pos 1) own
let_through relation.Greater other own = at_least (other.first +ℤ pos 1) own
let_through relation.LessOrEqual other own = at_most other.last own
let_through relation.GreaterOrEqual other own = at_least other.first own

-- the relation in which the right operand stands to the left one
abbrev pub mirrored : Relation → Relation
mirrored relation.Less = relation.Greater
mirrored relation.Greater = relation.Less
mirrored relation.LessOrEqual = relation.GreaterOrEqual
mirrored relation.GreaterOrEqual = relation.LessOrEqual
mirrored other = other

-- a relation of two numbers held: each side is met
abbrev pub relation_met : Relation → (left right : Option Side) → (Known × Known) → State → State
relation_met r left right (Ordinal a, Ordinal b) state =
    met right (let_through (mirrored r) a b) (met left (let_through r b a) state)
relation_met r left right noted state = state

-- a number was a member of a set
abbrev pub member_met : (left : Option Side) → (Known × Known) → State → State
member_met left (Ordinal a, Set hull) state = met left (common a hull) state
member_met left noted state = state

-- an operation had a truth value
abbrev pub operation_met : Option Bool → Dyadic → (left right : Option Side) → (Known × Known) → State → State
operation_met (Some truth) (dyadic.Relation r) left right noted state =
    relation_met (told r truth) left right noted state
operation_met (Some true) dyadic.In left right noted state = member_met left noted state
operation_met truth operation left right noted state = state

-- what an operator tells, by what was noted of its operands
abbrev pub telling_met : Tree → Telling → Noted → State → State
telling_met tree telling noted state =
    operation_met telling.truth telling.operation (side_of tree telling.left) (side_of tree telling.right)
    (noted.left, noted.right) state

-- what operators tell, each by its note
abbrev pub all_met : Tree → List Telling → List Noted → State → State
all_met tree [] notes state = state
all_met tree (telling ∷ tellings) [] state = state
all_met tree (telling ∷ tellings) (noted ∷ notes) state =
    all_met tree tellings notes (telling_met tree telling noted state)

-- what a condition tells that had a truth value; a call in it may have changed what was noted
abbrev pub sided : Tree → Bool → Expr → List Noted → State → State
sided tree truth condition notes state =
    if holds_call condition then state
    else all_met tree ((condition_of (is_ordinal_variable tree) condition).tellings (Some truth)) notes state
