-- What stands for the value of an expression: what it is, how it looks, and whether its operands are ordinals and sets
-- as they are taken. It says nothing of what typing answers.
use Rattle.std.specs.Prelude.{◌≡◌, Bool, true, List, [], ◌∷◌, length, map, Option, Some, Vec}
use Rattle.std.specs.declared.alloc.Global.{Global}
use Rattle.types.specs.Forms.{Form}
use Rattle.types.specs.Types.{kind_of}
use Rattle.types.specs.declared.form.TypeId.{TypeId}
use Rattle.types.specs.declared.form.TypeKind.{TypeKind}
use Rattle.types.specs.declared.form.TypeKind.TheVariants as kind_of_type
use Rattle.typed_tree.specs.declared.tree.Expr.{Expr}
use Rattle.typed_tree.specs.declared.tree.Passed.{Passed as PassedOne}
use Rattle.typed_tree.specs.declared.tree.Scalar.{Scalar}
use Rattle.typed_tree.specs.declared.tree.Scalar.TheVariants as scalar
use Rattle.typed_tree.specs.declared.tree.Whole.{Whole}
use Rattle.typed_tree.specs.declared.tree.Whole.TheVariants as whole
use Rattle.typed_tree.specs.Kinds.{are_ordinal_indexes, held_by, is_held, is_held_passed, is_held_value}
use Rattle.typed_tree.specs.Look.{Look, Text as TextMark, look_expr, look_whole}
use Rattle.typed_tree.specs.Tests.{all_hold}
use Rattle.typed_tree.specs.WellFormed.{length_of, source_of}
use Rattle.typing_rules.specs.declared.typed.TypedValue.{TypedValue}
use Rattle.typing_rules.specs.declared.typed.TypedValue.TheVariants as typed
use Rattle.typing_rules.specs.Targets.{Copy, whole_copy}
use Rattle.expression_resolver.specs.declared.value.Value.{Value}
use Rattle.expression_resolver.specs.declared.value.Value.TheVariants.{Ordinal, Set, Text, Variable}

-- what it is
abbrev pub value_of : Value → TypedValue
value_of (Ordinal type_id value) = typed.Ordinal type_id
value_of (Set base value) = typed.Set base
value_of (Text type_id number characters) = typed.Text type_id (length characters.items)
value_of (Variable type_id access indexes cells defined) = typed.Whole type_id cells

-- how it looks
abbrev pub look_value : Value → Look
look_value (Ordinal type_id value) = look_expr value
look_value (Set base value) = look_expr value
look_value (Text type_id number characters) = TextMark number characters.items ∷ []
look_value (Variable type_id access indexes cells defined) =
    look_whole (whole.Variable access type_id cells defined) indexes.items

-- what a value is of these, where it is one of them
abbrev pub scalar_of : TypedValue → Scalar
scalar_of (typed.Set base) = scalar.Set
scalar_of other = scalar.Ordinal

-- it is an ordinal or a set as it is told, and its operands are as they are taken
abbrev pub is_held_as_told : Value → Bool
is_held_as_told (Ordinal type_id value) = is_held scalar.Ordinal (held_by value)
is_held_as_told (Set base value) = is_held scalar.Set (held_by value)
is_held_as_told (Text type_id number characters) = true
is_held_as_told (Variable type_id access indexes cells defined) = are_ordinal_indexes indexes.items

-- each of these actual parameters is as it is taken
abbrev pub are_held_actuals : List PassedOne → Bool
are_held_actuals actuals = all_hold (map is_held_passed actuals)

-- how a structured value is copied or compared with its index expressions
abbrev pub copy_of : Whole × Vec Expr Global → Copy
copy_of made = record { source = source_of made.0; cells = length_of made.0 }

-- the ordinal or the set that it is, and the structured value with its index expressions
pub record IsScalarOf (value : Value) (made : Expr) : Type 0 where
  pub looks : look_value value ≡ look_expr made
  pub held : is_held (scalar_of (value_of value)) (held_by made) ≡ true

pub record IsWholeOf (value : Value) (made : Whole × Vec Expr Global) : Type 0 where
  pub copy : whole_copy (value_of value) ≡ Some (copy_of made)
  pub looks : look_value value ≡ look_whole made.0 made.1.items
  pub held : is_held_value made.0 made.1.items ≡ true

-- what is assigned to a target of a kind
abbrev pub tested_as : Option TypeKind → Scalar
tested_as (Some (kind_of_type.Set base members)) = scalar.Set
tested_as other = scalar.Ordinal

-- what is assigned to each type stays an ordinal, or a set
abbrev pub AreTestedAlike : List Form → List Form → Type 0
AreTestedAlike old new = (id : TypeId) → tested_as (kind_of new id) ≡ tested_as (kind_of old id)
