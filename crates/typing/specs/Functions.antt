-- The required functions (ISO 7185:1990, 6.6.6), by their rows: the types that one takes and gives, and its operation,
-- with the site and the values of its test. It says nothing of what a calculation gives.
use Rattle.std.specs.Prelude.{◌+ℤ◌, ◌-ℤ◌, pos, int_lt, Bool, List, Option, Some, None, Err}
use Rattle.std.specs.Prelude.{if◌then◌else◌}
use Rattle.place.specs.declared.Place.{Place}
use Rattle.types.specs.Forms.{Form}
use Rattle.types.specs.declared.form.TypeId.{TypeId}
use Rattle.types.specs.declared.form.OrdinalRange.{OrdinalRange}
use Rattle.types.specs.Types.{integer, boolean, char, is_same, is_ordinal, range_of}
use Rattle.scopes.specs.declared.denotation.RequiredFunction.{RequiredFunction}
use Rattle.scopes.specs.declared.denotation.FunctionArgument.{FunctionArgument}
use Rattle.scopes.specs.declared.denotation.FunctionArgument.TheVariants as takes
use Rattle.scopes.specs.declared.denotation.FunctionType.{FunctionType}
use Rattle.scopes.specs.declared.denotation.FunctionType.TheVariants as gives
use Rattle.scopes.specs.declared.denotation.FunctionOperation.{FunctionOperation}
use Rattle.scopes.specs.declared.denotation.FunctionOperation.TheVariants.{Calculates, Tests}
use Rattle.scopes.specs.declared.denotation.FunctionValue.{FunctionValue}
use Rattle.scopes.specs.declared.denotation.FunctionValue.TheVariants as value
use Rattle.scopes.specs.declared.denotation.FunctionTest.{FunctionTest}
use Rattle.scopes.specs.declared.denotation.FunctionTest.TheVariants as test
use Rattle.typed_tree.specs.declared.site.SiteKind.{SiteKind}
use Rattle.typed_tree.specs.declared.site.SiteKind.TheVariants as kind
use Rattle.typed_tree.specs.declared.tree.Calculation.{Calculation}
use Rattle.typed_tree.specs.declared.tree.Calculation.TheVariants as calculation
use Rattle.typed_tree.specs.declared.tree.Monadic.{Monadic}
use Rattle.typed_tree.specs.declared.tree.Monadic.TheVariants as monadic
use Rattle.typed_tree.specs.declared.tree.Shift.{Shift}
use Rattle.typed_tree.specs.declared.tree.Shift.TheVariants as shift
use Rattle.typed_tree.specs.declared.tree.Scalar.TheVariants as scalar
use Rattle.typed_tree.specs.declared.fault.TypeFault.TheVariants as fault
use Rattle.typing.specs.declared.functions.BegunFunction.{BegunFunction}
use Rattle.typing.specs.declared.functions.BegunFunction.TheVariants as begun
use Rattle.typing_rules.specs.declared.typed.Typed.{Typed}
use Rattle.typing_rules.specs.declared.typed.TypedValue.{TypedValue}
use Rattle.typing_rules.specs.declared.typed.TypedValue.TheVariants as typed_as
use Rattle.typing.specs.Passing.{Passing, pure, ◌>>=◌}
use Rattle.typing_rules.specs.Checked.{Checked}
use Rattle.typing.specs.Steps.{site}
use Rattle.typing_rules.specs.Checked.{fits}

-- a value of the type is taken
abbrev pub is_taken : List Form → FunctionArgument → TypeId → Bool
is_taken types takes.Integer type_id = is_same type_id integer
is_taken types takes.Ordinal type_id = is_ordinal types type_id

-- the type of the result, by that of the argument
abbrev pub given_type : FunctionType → TypeId → TypeId
given_type gives.Integer argument = integer
given_type gives.Boolean argument = boolean
given_type gives.Char argument = char
given_type gives.OfArgument argument = argument

-- the kind of a test's site
abbrev pub test_kind : FunctionTest → SiteKind
test_kind test.Character = kind.Chr
test_kind test.Next = kind.Succ
test_kind test.Previous = kind.Pred

-- what comes of a number that passed a test
abbrev pub shift_of : FunctionTest → Shift
shift_of test.Character = shift.Same
shift_of test.Next = shift.Next
shift_of test.Previous = shift.Previous

-- no value
abbrev pub no_values : OrdinalRange
no_values = record { first = pos 1; last = pos 0 }

-- the values that have a next one, which are all but the last, and those that have one before
abbrev pub all_but_last : OrdinalRange → OrdinalRange
all_but_last values =
    if int_lt values.first values.last then record values { last = values.last -ℤ pos 1 } else no_values

abbrev pub all_but_first : OrdinalRange → OrdinalRange
all_but_first values =
    if int_lt values.first values.last then record values { first = values.first +ℤ pos 1 } else no_values

-- the values that pass a test, by those of the argument's type
abbrev pub passing_values : FunctionTest → Option OrdinalRange → OrdinalRange
passing_values test.Character values = record { first = pos 0; last = pos 127 }
passing_values test.Next (Some values) = all_but_last values
passing_values test.Previous (Some values) = all_but_first values
passing_values tested None = no_values

-- what is calculated, with the site of a square's overflow
unfoldable pub calculation_of : FunctionValue → Place → Passing Calculation
calculation_of value.Same place = pure calculation.Ordinal
calculation_of value.Absolute place = pure calculation.Absolute
calculation_of value.Square place = site kind.Overflow place >>= (λ id. pure (calculation.Square id))
calculation_of value.Parity place = pure calculation.Parity

-- an operation as it begins at the function's name, where its site stands
unfoldable pub begins_as : FunctionOperation → Place → Passing BegunFunction
begins_as (Calculates calculated) place = calculation_of calculated place >>= (λ does. pure (begun.Calculates does))
begins_as (Tests tested) place = site (test_kind tested) place >>= (λ id. pure (begun.Tests id tested))

-- the same on an argument of a type
abbrev pub operation_on : List Form → TypeId → BegunFunction → Monadic
operation_on types argument (begun.Calculates does) = monadic.Plain does
operation_on types argument (begun.Tests id tested) =
    monadic.Tested
    (record { site = id; tests = scalar.Ordinal; range = passing_values tested (range_of types argument) })
    (shift_of tested)

-- what a function does to its argument, and the type of its result; K1 at the place where it doesn't take the argument
abbrev pub applied_to : List Form → RequiredFunction → BegunFunction → Place → TypedValue → Checked (Monadic × TypeId)
applied_to types f operation place (typed_as.Ordinal type_id) =
    fits (is_taken types f.takes type_id) place
    (operation_on types type_id operation, given_type f.gives type_id)
applied_to types f operation place (typed_as.Set base) = Err (fault.Mismatch place)
applied_to types f operation place (typed_as.Text type_id length) = Err (fault.Mismatch place)
applied_to types f operation place (typed_as.Whole type_id cells) = Err (fault.Mismatch place)

abbrev pub applied : List Form → RequiredFunction → BegunFunction → Place → Typed → Checked (Monadic × TypeId)
applied types f operation place argument = applied_to types f operation place argument.value
