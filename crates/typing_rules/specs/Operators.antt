-- The rules of operators (ISO 7185:1990, 6.7.1, 6.7.2): what an operator does with values of these types, and of what
-- type the result is.
use Rattle.std.specs.Prelude.{Option, Some, None, ◌&&◌, is_some, if◌then◌else◌, ℕ, Bool, false, List, nat_eq, Err, Ok}
use Rattle.place.specs.declared.Place.{Place}
use Rattle.syntax_tree.specs.declared.Sign.{Sign}
use Rattle.syntax_tree.specs.declared.Operator.{Operator}
use Rattle.syntax_tree.specs.declared.RelationalOperator.{RelationalOperator}
use Rattle.syntax_tree.specs.declared.Sign.TheVariants as sign
use Rattle.syntax_tree.specs.declared.Operator.TheVariants as op
use Rattle.syntax_tree.specs.declared.RelationalOperator.TheVariants as relational
use Rattle.types.specs.declared.form.TypeId.{TypeId}
use Rattle.types.specs.Types.{integer, boolean, is_same, are_compatible_sets, joined_base, is_compatible, is_string}
use Rattle.types.specs.Types.{agree}
use Rattle.types.specs.Forms.{Form}
use Rattle.typed_tree.specs.declared.tree.Monadic.{Monadic}
use Rattle.typed_tree.specs.declared.tree.Dyadic.{Dyadic}
use Rattle.typed_tree.specs.declared.tree.Monadic.TheVariants as monadic
use Rattle.typed_tree.specs.declared.tree.Calculation.TheVariants as calculation
use Rattle.typed_tree.specs.declared.tree.Dyadic.TheVariants as dyadic
use Rattle.typed_tree.specs.declared.tree.Relation.TheVariants as relate
use Rattle.typed_tree.specs.declared.tree.SetRelation.TheVariants as relate_sets
use Rattle.typed_tree.specs.declared.fault.TypeFault.TheVariants as fault
use Rattle.typing_rules.specs.declared.typed.TypedValue.{TypedValue}
use Rattle.typing_rules.specs.declared.typed.Typed.{Typed}
use Rattle.typing_rules.specs.Checked.{Checked, and_then, fits, or_mismatch}
use Rattle.typing_rules.specs.Typed.{ordinal_type, whole_type}
use Rattle.typing_rules.specs.declared.typed.TypedValue.TheVariants as value

abbrev pub sign_operation : Sign → Monadic
sign_operation sign.Plus = monadic.Plain calculation.Same
sign_operation sign.Minus = monadic.Plain calculation.Negative

-- the type of both operands of an operator, and of its result
abbrev pub operand_type : Operator → TypeId
operand_type op.Plus = integer
operand_type op.Minus = integer
operand_type op.Or = boolean
operand_type op.Times = integer
operand_type op.Div = integer
operand_type op.Mod = integer
operand_type op.And = boolean

-- the operation of sets that an operator tells (6.7.2.4)
abbrev pub set_operation : Operator → Option Dyadic
set_operation op.Plus = Some dyadic.Union
set_operation op.Minus = Some dyadic.Difference
set_operation op.Or = None
set_operation op.Times = Some dyadic.Intersection
set_operation op.Div = None
set_operation op.Mod = None
set_operation op.And = None

-- the result of an operator on two operands: of its type, where both are, or else a set of both (6.7.2.1)
abbrev pub result_of : Operator → TypedValue → TypedValue → Option TypedValue
result_of operator (value.Ordinal left) (value.Ordinal right) =
    if is_same left (operand_type operator) && is_same right (operand_type operator)
    then Some (value.Ordinal (operand_type operator))
    else None
result_of operator (value.Set left) (value.Set right) =
    if is_some (set_operation operator) && are_compatible_sets left right
    then Some (value.Set (joined_base left right))
    else None
result_of operator left right = None

-- the operation of an operator behind a left operand: that of sets, without a site, behind a set
abbrev pub set_operation_behind : Operator → TypedValue → Option Dyadic
set_operation_behind operator (value.Ordinal type_id) = None
set_operation_behind operator (value.Set base) = set_operation operator
set_operation_behind operator (value.Text type_id length) = None
set_operation_behind operator (value.Whole type_id cells) = None

-- the relation that an operator tells behind an ordinal or a string
abbrev pub relation_of : RelationalOperator → Dyadic
relation_of relational.Equal = dyadic.Relation relate.Equal
relation_of relational.NotEqual = dyadic.Relation relate.NotEqual
relation_of relational.Less = dyadic.Relation relate.Less
relation_of relational.Greater = dyadic.Relation relate.Greater
relation_of relational.LessOrEqual = dyadic.Relation relate.LessOrEqual
relation_of relational.GreaterOrEqual = dyadic.Relation relate.GreaterOrEqual
relation_of relational.In = dyadic.In

-- the relation that an operator tells behind a set: `<` and `>` tell none, nor does `in`
abbrev pub set_relation_of : RelationalOperator → Option Dyadic
set_relation_of relational.Equal = Some (dyadic.SetRelation relate_sets.Equal)
set_relation_of relational.NotEqual = Some (dyadic.SetRelation relate_sets.NotEqual)
set_relation_of relational.Less = None
set_relation_of relational.Greater = None
set_relation_of relational.LessOrEqual = Some (dyadic.SetRelation relate_sets.Included)
set_relation_of relational.GreaterOrEqual = Some (dyadic.SetRelation relate_sets.Includes)
set_relation_of relational.In = None

abbrev pub relation_behind_value : RelationalOperator → TypedValue → Option Dyadic
relation_behind_value operator (value.Ordinal type_id) = Some (relation_of operator)
relation_behind_value operator (value.Set base) = set_relation_of operator
relation_behind_value operator (value.Text type_id length) = Some (relation_of operator)
relation_behind_value operator (value.Whole type_id cells) = Some (relation_of operator)

-- two whole values are strings of one length, of compatible types
abbrev pub are_alike : List Form → Option (TypeId × ℕ) → Option (TypeId × ℕ) → Bool
are_alike types None right = false
are_alike types (Some left) None = false
are_alike types (Some left) (Some right) =
    nat_eq left.1 right.1 && (is_compatible types left.0 right.0 && is_string types left.0)

-- relations hold between ordinals of compatible types, between sets of such, and between strings of them (6.7.2.5)
abbrev pub may_compare : List Form → TypedValue → TypedValue → Bool
may_compare types (value.Ordinal left) (value.Ordinal right) = is_compatible types left right
may_compare types (value.Set left) (value.Set right) = are_compatible_sets left right
may_compare types left right = are_alike types (whole_type left) (whole_type right)

-- an ordinal may be a member of a set
abbrev pub may_contain : TypedValue → TypedValue → Bool
may_contain (value.Ordinal type_id) (value.Set base) = agree is_same base.host (Some type_id)
may_contain left right = false

-- an operator relates two values
abbrev pub may_relate : List Form → RelationalOperator → Typed → Typed → Bool
may_relate types relational.In left right = may_contain left.value right.value
may_relate types operator left right = may_compare types left.value right.value

-- a member of a set, by the host type of those before it: K1 at its first token where it is no ordinal of that type
abbrev pub member_type : Option TypeId → Place → Option TypeId → Checked TypeId
member_type host place None = Err (fault.Mismatch place)
member_type host place (Some type_id) = fits (agree is_same host (Some type_id)) place type_id

abbrev pub member_of : Option TypeId → Place → Typed → Checked TypeId
member_of host place t = member_type host place (ordinal_type t.value)

-- the same with its leading site
abbrev pub member_with_site : Option TypeId → Place → Typed → Checked (ℕ × TypeId)
member_with_site host place t =
    and_then (member_of host place t) λ type_id.
    and_then (or_mismatch place t.site) λ id.
    Ok (id, type_id)
