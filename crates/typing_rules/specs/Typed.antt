-- What an expression is: the type of its value, and its leading site (ISO 7185:1990, 6.4, 6.7).
use Rattle.std.specs.Prelude.{ℕ, Option, Some, None, Bool, true, false}
use Rattle.types.specs.declared.form.TypeId.{TypeId}
use Rattle.types.specs.declared.sets.SetBase.{SetBase}
use Rattle.types.specs.Types.{is_same}
use Rattle.typed_tree.specs.WellFormed.{of_one}
use Rattle.typing_rules.specs.declared.typed.Typed.{Typed}
use Rattle.typing_rules.specs.declared.typed.TypedValue.{TypedValue}
use Rattle.typing_rules.specs.declared.typed.TypedValue.TheVariants as value

-- an ordinal of a type, and the id of its leading site
abbrev pub typed : TypeId → Option ℕ → Typed
typed type_id site = record { value = value.Ordinal type_id; site = site }

-- the same of a set
abbrev pub typed_set : SetBase → Option ℕ → Typed
typed_set base site = record { value = value.Set base; site = site }

-- the same of a string of its own, of so many characters
abbrev pub typed_text : TypeId → ℕ → Option ℕ → Typed
typed_text type_id length site = record { value = value.Text type_id length; site = site }

-- the same of the value of a structured variable, of so many cells
abbrev pub typed_variable : TypeId → ℕ → Option ℕ → Typed
typed_variable type_id cells site = record { value = value.Whole type_id cells; site = site }

-- the type of an ordinal
abbrev pub ordinal_type : TypedValue → Option TypeId
ordinal_type (value.Ordinal type_id) = Some type_id
ordinal_type (value.Set base) = None
ordinal_type (value.Text type_id length) = None
ordinal_type (value.Whole type_id cells) = None

-- the type of a string or of another structured value, and how many components it has
abbrev pub whole_type : TypedValue → Option (TypeId × ℕ)
whole_type (value.Ordinal type_id) = None
whole_type (value.Set base) = None
whole_type (value.Text type_id length) = Some (type_id, length)
whole_type (value.Whole type_id cells) = Some (type_id, cells)

-- it is an ordinal or a set
abbrev pub is_scalar_value : TypedValue → Bool
is_scalar_value (value.Ordinal type_id) = true
is_scalar_value (value.Set base) = true
is_scalar_value (value.Text type_id length) = false
is_scalar_value (value.Whole type_id cells) = false

-- it is an ordinal whose type passes a test
abbrev pub is_ordinal_of : (TypeId → Bool) → Typed → Bool
is_ordinal_of test t = of_one test (ordinal_type t.value)

-- it is an ordinal of this type
abbrev pub is_of : TypeId → Typed → Bool
is_of type_id t = is_ordinal_of (λ id. is_same id type_id) t
