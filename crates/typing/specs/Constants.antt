-- The typing of constants (ISO 7185:1990, 6.3): of each the first rule that it breaks, or what a name that it defines
-- denotes: its value and its type, or its characters, by their number, and its type.
-- It says nothing of where they stand.
use Rattle.std.specs.Prelude.{ℤ, ◌&&◌, Option, Some, None, Ok, Err, pos, neg_ℤ, nat_le}
use Rattle.place.specs.declared.Place.{Place}
use Rattle.syntax_tree.specs.declared.Sign.{Sign}
use Rattle.syntax_tree.specs.declared.Sign.TheVariants as sign
use Rattle.syntax_tree.specs.declared.SignAt.{SignAt}
use Rattle.syntax_tree.specs.declared.Constant.{Constant}
use Rattle.syntax_tree.specs.declared.ConstantValue.{ConstantValue}
use Rattle.syntax_tree.specs.declared.ConstantValue.TheVariants as written
use Rattle.syntax_tree.specs.Places.{value_place}
use Rattle.types.specs.declared.form.TypeId.{TypeId}
use Rattle.types.specs.Types.{integer, is_same}
use Rattle.scopes.specs.declared.denotation.Denotation.{Denotation}
use Rattle.scopes.specs.declared.denotation.Denotation.TheVariants as denotes
use Rattle.typed_tree.specs.declared.fault.TypeFault.TheVariants as fault
use Rattle.typed_tree.specs.WellFormed.{is_whole}
use Rattle.typing.specs.Passing.{Passing, given, ◌>>=◌, ◌>>◌, ◌>>?◌}
use Rattle.typing_rules.specs.Checked.{Checked}
use Rattle.typing.specs.Steps.{pass, find}
use Rattle.typing_rules.specs.Checked.{fits}
use Rattle.typing.specs.Strings.{string_characters, string_constant}

-- the constant that a name denotes; K1 where it denotes none
abbrev pub as_constant : Place → Denotation → Checked Denotation
as_constant place (denotes.Constant value type_id) = Ok (denotes.Constant value type_id)
as_constant place (denotes.Text number type_id) = Ok (denotes.Text number type_id)
as_constant place (denotes.Variable root type_id) = Err (fault.Mismatch place)
as_constant place (denotes.Field slot position offset type_id) = Err (fault.Mismatch place)
as_constant place (denotes.TypeName type_id) = Err (fault.Mismatch place)
as_constant place (denotes.Procedure procedure) = Err (fault.Mismatch place)
as_constant place (denotes.Function function) = Err (fault.Mismatch place)
as_constant place (denotes.Routine block is_function) = Err (fault.Mismatch place)
as_constant place (denotes.InputFunction function) = Err (fault.Mismatch place)
as_constant place (denotes.File file) = Err (fault.Mismatch place)

-- a constant without its sign: a number, which is at most maxint, a string, or a name
unfoldable pub unsigned_constant : ConstantValue → Passing Denotation
unsigned_constant (written.Number value place) =
    pass place >>? (λ types _. fits (nat_le value 2147483647) place (denotes.Constant (pos value) integer))
unsigned_constant (written.String text place) =
    (pass place >> given (string_characters place text.now)) >>= string_constant place
unsigned_constant (written.Name name) = find name >>? (λ types d. as_constant name.place d)

-- the value behind a sign
abbrev pub signed_value : Sign → ℤ → ℤ
signed_value sign.Plus value = value
signed_value sign.Minus value = neg_ℤ value

-- a sign stands before an integer; K1 at the sign where it doesn't
abbrev pub behind_sign : Option SignAt → Denotation → Checked Denotation
behind_sign None constant = Ok constant
behind_sign (Some at) (denotes.Constant value type_id) =
    fits (is_same type_id integer && is_whole value) at.place (denotes.Constant (signed_value at.sign value) integer)
behind_sign (Some at) other = Err (fault.Mismatch at.place)

-- a constant, as what a name denotes that is defined by it
unfoldable pub constant : Constant → Passing Denotation
constant c = unsigned_constant c.value >>? (λ types unsigned. behind_sign c.sign unsigned)

-- the value and the type of an ordinal constant; none of a string
abbrev pub as_ordinal : Denotation → Option (ℤ × TypeId)
as_ordinal (denotes.Constant value type_id) = Some (value, type_id)
as_ordinal other = None

unfoldable pub ordinal_constant : Constant → Passing (Option (ℤ × TypeId))
ordinal_constant c = constant c >>? (λ types d. Ok (as_ordinal d))

abbrev pub first_place : Option SignAt → Place → Place
first_place None place = place
first_place (Some at) place = at.place

-- where a constant begins
abbrev pub constant_place : Constant → Place
constant_place c = first_place c.sign (value_place c.value)
