-- Worked rows of the definitions of names and types.
use denote.Ref.{Bor}
use Rattle.std.specs.List.{list_any}
use Rattle.std.specs.Cmp.Lexicographic.{pointwise}
use Rattle.std.proofs.Common.{◌≡◌, ◌∷◌, ◌++◌, [], List, Some, None, Ok, Err, ℕ, ℤ, if◌then◌else◌, nat_eq, ap, refl}
use Rattle.std.specs.Prelude.{codes, pos, neg_ℤ, true, false}
use Rattle.place.specs.declared.Place.{Place}
use Rattle.scopes.specs.declared.denotation.Denotation.TheVariants as denotes
use Rattle.scopes.specs.declared.denotation.File.TheVariants as file
use Rattle.typed_tree.specs.declared.tree.Calculation.TheVariants as calculation
use Rattle.typed_tree.specs.declared.tree.Monadic.{Monadic}
use Rattle.typed_tree.specs.declared.tree.Monadic.TheVariants as monadic
use Rattle.typed_tree.specs.declared.tree.Readable.TheVariants as readable
use Rattle.typed_tree.specs.declared.tree.Shift.{Shift}
use Rattle.typed_tree.specs.declared.tree.Shift.TheVariants as shift
use Rattle.syntax_tree.specs.declared.Operator.TheVariants as op
use Rattle.syntax_tree.specs.declared.Sign.TheVariants as sign
use Rattle.syntax_tree.specs.declared.ConstantValue.TheVariants as constant
use Rattle.types.specs.Forms.{Form}
use Rattle.types.specs.Forms.{FieldForm, Enumeration, Subrange, Array, Record, Set}
use Rattle.types.specs.declared.form.TypeId.{TypeId}
use Rattle.types.specs.Types.{required_forms, integer, boolean, char, range_of, field_of}
use Rattle.typing.specs.Names.{folded, required_region}
use Rattle.typing.specs.Expressions.{WrittenActual, field_named, is_input}
use Rattle.typing_rules.specs.Targets.{copying, fitting, read_as}
use Rattle.typing_rules.specs.Typed.{typed, typed_text, typed_variable}
use Rattle.typing_rules.specs.Operators.{may_compare, may_contain}
use Rattle.typing_rules.specs.Denotations.{as_function}
use Rattle.typing_rules.specs.Operators.{relation_behind_value, result_of}
use Rattle.typing_rules.specs.Typed.{typed_set}
use Rattle.typing.specs.Expressions.{or_not_declared}
use Rattle.typing.specs.Functions.{begins_as, calculation_of, applied}
use Rattle.typing_rules.specs.Checked.{Checked, and_then}
use Rattle.typing_rules.specs.declared.typed.Typed.{Typed}
use Rattle.typing_rules.specs.declared.typed.TypedValue.TheVariants as value
use Rattle.typed_tree.specs.declared.tree.Scalar.TheVariants as scalar
use Rattle.types.specs.declared.sets.SetBase.{SetBase}
use Rattle.syntax_tree.specs.declared.RelationalOperator.TheVariants as relational
use Rattle.typing.specs.Constants.{as_constant, behind_sign, constant_place}
use Rattle.typing.specs.Statements.{behind_file, has_parameters, own_constant}
use Rattle.typing.specs.Denoters.{named_type, between, named_fields}
use Rattle.typing.specs.Passing.{after, ◌>>=◌}
use Rattle.typing.specs.Steps.{begins, point, site, value_of}
use Rattle.typing.specs.Typing.{file_of}
use Rattle.typing_rules.specs.Checked.{told}
use Rattle.typing.specs.Strings.{string_characters}
use Rattle.syntax_tree.specs.declared.Name.{Name}
use Rattle.typed_tree.specs.declared.fault.TypeFault.TheVariants as fault
use Rattle.scopes.specs.declared.fault.ScopeFault.TheVariants as scope
use Rattle.scopes.specs.Scopes.{found}

-- small and capital letters are alike, and digits stay
pub small_letters : folded (codes "WriteLn2") ≡ codes "writeln2"
small_letters = refl

-- an ordinal of a type
abbrev of : TypeId → Typed
of type_id = typed type_id None

-- integers are added
pub sum_of_integers : result_of op.Plus (value.Ordinal integer) (value.Ordinal integer) ≡ Some (value.Ordinal integer)
sum_of_integers = refl

-- a truth value can't be added
pub sum_with_boolean : result_of op.Plus (value.Ordinal integer) (value.Ordinal boolean) ≡ None
sum_with_boolean = refl

-- truth values are compared with each other
pub less_of_booleans : may_compare required_forms (value.Ordinal boolean) (value.Ordinal boolean) ≡ true
less_of_booleans = refl

-- an integer is not compared with a truth value
pub equal_of_both : may_compare required_forms (value.Ordinal integer) (value.Ordinal boolean) ≡ false
equal_of_both = refl

-- maxint is a constant of type integer
pub maxint_is_constant : found (required_region ∷ []) (codes "maxint") ≡ Ok (denotes.Constant (pos 2147483647) integer)
unfolding required_region
maxint_is_constant = refl

-- output is no required identifier
pub output_is_none : found (required_region ∷ []) (codes "output") ≡ Err scope.NotDeclared
unfolding required_region
output_is_none = refl

-- an integer may be assigned an integer, within the range of the type
pub integer_fits : fitting required_forms integer (of integer) ≡ range_of required_forms integer
integer_fits = refl

-- an integer may not be assigned a truth value
pub boolean_does_not_fit : fitting required_forms integer (of boolean) ≡ None
boolean_does_not_fit = refl

-- the types behind the required ones: an enumerated type, a subrange of it, and -5..-1
abbrev own_types : List Form
own_types =
    required_forms
    ++ Enumeration (pos 2) ∷ Subrange (record { index = 3 }) (pos 1) (pos 2) ∷ Subrange integer (neg_ℤ (pos 5)) (neg_ℤ (pos 1)) ∷ []

-- an enumerated type of one value behind them
abbrev alone : List Form
alone = required_forms ++ Enumeration (pos 0) ∷ []

abbrev colour : TypeId
colour = record { index = 3 }

abbrev warm : TypeId
warm = record { index = 4 }

abbrev negative : TypeId
negative = record { index = 5 }

-- a value of an enumerated type may be assigned to a subrange of it, within the range of that
pub enumeration_fits : fitting own_types warm (of colour) ≡ Some (record { first = pos 1; last = pos 2 })
enumeration_fits = refl

-- an integer may not be assigned to it
pub integer_does_not_fit : fitting own_types warm (of integer) ≡ None
integer_does_not_fit = refl

-- an integer may be assigned to a subrange of integer
pub integer_fits_subrange : fitting own_types negative (of integer) ≡ Some (record { first = neg_ℤ (pos 5); last = neg_ℤ (pos 1) })
integer_fits_subrange = refl

-- strings of two, two and three characters
abbrev strings : List Form
strings =
    required_forms
    ++ Subrange integer (pos 1) (pos 2) ∷ Array true (record { index = 3 }) char ∷ Subrange integer (pos 1) (pos 2) ∷ Array true (record { index = 5 }) char
    ∷ Subrange integer (pos 1) (pos 3) ∷ Array true (record { index = 7 }) char ∷ []

abbrev first : TypeId
first = record { index = 4 }

abbrev second : TypeId
second = record { index = 6 }

abbrev third : TypeId
third = record { index = 8 }

module _ (name : Name) where
  -- a name of a type denotes that type
  pub integer_is_type : named_type name (Ok (denotes.TypeName integer)) ≡ Ok integer
  integer_is_type = refl

  -- a constant is no type
  pub maxint_is_no_type : named_type name (Ok (denotes.Constant (pos 2147483647) integer)) ≡ Err (fault.Mismatch name.place)
  maxint_is_no_type = refl

  -- a type that is defined nowhere
  pub unknown_type : named_type name (Err scope.NotDeclared) ≡ Err (fault.NotDeclared name.place)
  unknown_type = refl

module _ (place behind : Place) where
  -- a sign turns an integer
  pub sign_of_maxint : behind_sign (Some (record { sign = sign.Minus; place = place })) (denotes.Constant (pos 2147483647) integer)
      ≡ Ok (denotes.Constant (neg_ℤ (pos 2147483647)) integer)
  sign_of_maxint = refl

  -- a truth value has no sign
  pub sign_of_true : behind_sign (Some (record { sign = sign.Plus; place = place })) (denotes.Constant (pos 1) boolean) ≡ Err (fault.Mismatch place)
  sign_of_true = refl

  -- a subrange of integer
  pub between_integers : between required_forms place (Some (neg_ℤ (pos 5), integer)) (Some (neg_ℤ (pos 1), integer))
      ≡ Ok (Subrange integer (neg_ℤ (pos 5)) (neg_ℤ (pos 1)))
  between_integers = refl

  -- none between an integer and a truth value
  pub between_both : between required_forms place (Some (pos 0, integer)) (Some (pos 1, boolean)) ≡ Err (fault.Mismatch place)
  between_both = refl

  -- maxint is the last value that counts
  pub value_of_maxint : value_of 2147483647 place ≡ Ok (pos 2147483647)
  value_of_maxint = refl

  -- a variable is no constant
  pub variable_is_none : as_constant place (denotes.Variable 0 integer) ≡ Err (fault.Mismatch place)
  variable_is_none = refl

  -- a constant that stands before an arm already
  pub repeated_constant : own_constant required_forms integer (pos 2 ∷ neg_ℤ (pos 1) ∷ []) place (Some (neg_ℤ (pos 1), integer))
      ≡ Err (fault.CaseConstant place)
  repeated_constant = refl

  -- one of another type
  pub other_constant : own_constant required_forms boolean [] place (Some (pos 1, integer)) ≡ Err (fault.CaseConstant place)
  other_constant = refl

  -- a string
  pub string_constant : own_constant required_forms char [] place None ≡ Err (fault.CaseConstant place)
  string_constant = refl

  -- one that is new
  pub new_constant : own_constant required_forms integer (pos 1 ∷ []) place (Some (neg_ℤ (pos 1), integer)) ≡ Ok (neg_ℤ (pos 1))
  new_constant = refl

  -- two apostrophes stand for one
  pub doubled : string_characters place (codes "'it''s'") ≡ Ok (codes "it's")
  doubled = refl

  -- one apostrophe
  pub apostrophe : string_characters place (codes "''''") ≡ Ok (codes "'")
  apostrophe = refl

  -- a string has a character
  pub empty : string_characters place (codes "''") ≡ Err (fault.Mismatch place)
  empty = refl

  -- and ends where it closes
  pub closes : string_characters place (codes "'a'b'") ≡ Err (fault.Mismatch place)
  closes = refl

  -- two strings of the same length are compared, and others aren't
  pub equally_long : may_compare strings (value.Text first 2) (value.Text second 2) ≡ true
  equally_long = refl

  pub longer : may_compare strings (value.Text first 2) (value.Text third 3) ≡ false
  longer = refl

  -- no string is compared with a char, or added
  pub string_and_char : may_compare strings (value.Text first 2) (value.Ordinal char) ≡ false
  string_and_char = refl

  pub sum_of_strings : result_of op.Plus (value.Text first 2) (value.Text second 2) ≡ None
  sum_of_strings = refl

  -- a string is copied to a target that is as long
  pub copied_string : copying strings first (typed_text second 2 None) ≡ Some (record { source = None; cells = 2 })
  copied_string = refl

  -- what a required function, by its name, does to an argument, and the type of its result; its site is the first
  abbrev called : List Form → List ℕ → Typed → Checked (Monadic × TypeId)
  called types name argument =
      and_then (told place (found (required_region ∷ []) name)) λ d.
      and_then (as_function place d) λ f.
      and_then (begins_as f.does place (begins place)) λ operation.
      applied types f operation.answer place argument

  abbrev tested : ℤ → ℤ → Shift → Monadic
  tested first last does = monadic.Tested (record { site = 0; tests = scalar.Ordinal; range = record { first = first; last = last } }) does

  -- the successor of an enumerated type is that of a value below its last, and its host type's decides
  pub successor : called own_types (codes "succ") (of colour) ≡ Ok (tested (pos 0) (pos 1) shift.Next, colour)
  unfolding required_region begins_as site
  successor = refl

  -- the predecessor of an integer
  pub predecessor : called own_types (codes "pred") (of integer)
      ≡ Ok (tested (neg_ℤ (pos 2147483646)) (pos 2147483647) shift.Previous, integer)
  unfolding required_region begins_as site
  predecessor = refl

  -- a value that stands alone has none beside it
  pub no_successor : called alone (codes "succ") (of colour) ≡ Ok (tested (pos 1) (pos 0) shift.Next, colour)
  unfolding required_region begins_as site
  no_successor = refl

  -- the number of a char; the char of a number, and no char of a char
  pub number_of_char : called required_forms (codes "ord") (of char) ≡ Ok (monadic.Plain calculation.Ordinal, integer)
  unfolding required_region begins_as calculation_of site
  number_of_char = refl

  pub char_of_number : called required_forms (codes "chr") (of integer) ≡ Ok (tested (pos 0) (pos 127) shift.Same, char)
  unfolding required_region begins_as site
  char_of_number = refl

  pub char_of_char : called required_forms (codes "chr") (of char) ≡ Err (fault.Mismatch place)
  unfolding required_region begins_as site
  char_of_char = refl

  -- a square has a site for its overflow
  pub square : called required_forms (codes "sqr") (of integer) ≡ Ok (monadic.Plain (calculation.Square 0), integer)
  unfolding required_region begins_as calculation_of site
  square = refl

  -- a signed constant begins at its sign
  pub begins_at_sign : constant_place (record {
    sign = Some (record { sign = sign.Minus; place = place });
    value = constant.Number 1 behind;
  }) ≡ place
  begins_at_sign = refl

-- a packed array of two integers, and a record of an integer and of such an array
abbrev pairs : List Form
pairs =
    required_forms
    ++ Subrange integer (pos 1) (pos 2) ∷ Array true (record { index = 3 }) integer
    ∷ Record false (record { name = codes "key"; type_id = integer } ∷ record { name = codes "value"; type_id = record { index = 4 } } ∷ []) ∷ []

abbrev pair : TypeId
pair = record { index = 4 }

abbrev entry : TypeId
entry = record { index = 5 }

-- a value of two cells is copied to a target of its type
pub copied_pair : copying pairs pair (typed_variable pair 2 None) ≡ Some (record { source = Some pair; cells = 2 })
copied_pair = refl

-- no other value of two cells, and no ordinal
pub no_copy_of_another : copying pairs entry (typed_variable pair 2 None) ≡ None
no_copy_of_another = refl

pub no_copy_of_ordinal : copying pairs pair (of integer) ≡ None
no_copy_of_ordinal = refl

module _ (text : Bor (List ℕ)) (place : Place) where
  abbrev name : Name
  name = record { text = text; place = place }

  -- the second field of the record lies behind one cell; small and capital letters are alike
  pub second_field : text.now ≡ codes "Value" → field_named pairs entry name ≡ Ok (record { position = 1; offset = 1; type_id = pair })
  second_field is = ap (λ t. or_not_declared place (field_of pairs entry (folded t))) is

  -- it has no other
  pub no_field : text.now ≡ codes "values" → field_named pairs entry name ≡ Err (fault.NotDeclared place)
  no_field is = ap (λ t. or_not_declared place (field_of pairs entry (folded t))) is

  -- an array has no fields
  pub no_record : field_named pairs pair name ≡ Err (fault.Mismatch place)
  no_record = refl

  -- no two fields have one name
  pub field_twice : text.now ≡ codes "KEY"
      → named_fields (record { name = codes "key"; type_id = integer } ∷ []) char (name ∷ []) ≡ Err (fault.DeclaredTwice place)
  field_twice is =
      ap (λ t. if list_any (λ (field : FieldForm). pointwise nat_eq field.name (folded t)) (record { name = codes "key"; type_id = integer } ∷ [])
      then Err (fault.DeclaredTwice place)
      else Ok (record { name = codes "key"; type_id = integer } ∷ record { name = folded t; type_id = char } ∷ [])) is

-- sets of 1..10, and packed ones
abbrev sets : List Form
sets = required_forms ++ Set false integer (pos 1) (pos 10) ∷ Set true integer (pos 1) (pos 10) ∷ []

abbrev few : TypeId
few = record { index = 3 }

abbrev packed_few : TypeId
packed_few = record { index = 4 }

abbrev of_integers : SetBase
of_integers = record { host = Some integer; packed = Some false }

abbrev constructor_of_integers : SetBase
constructor_of_integers = record { host = Some integer; packed = None }

abbrev no_members : SetBase
no_members = record { host = None; packed = None }

-- a constructor may be assigned to a packed set and to another one, and is tested for the values of the members
pub constructor_fits : fitting sets few (typed_set constructor_of_integers None) ≡ Some (record { first = pos 1; last = pos 10 })
constructor_fits = refl

pub constructor_fits_packed : fitting sets packed_few (typed_set constructor_of_integers None) ≡ Some (record { first = pos 1; last = pos 10 })
constructor_fits_packed = refl

pub no_members_fit : fitting sets few (typed_set no_members None) ≡ Some (record { first = pos 1; last = pos 10 })
no_members_fit = refl

pub set_does_not_fit_packed : fitting sets packed_few (typed_set of_integers None) ≡ None
set_does_not_fit_packed = refl

pub integer_does_not_fit_set : fitting sets few (of integer) ≡ None
integer_does_not_fit_set = refl

pub set_does_not_fit_integer : fitting sets integer (typed_set constructor_of_integers None) ≡ None
set_does_not_fit_integer = refl

-- sets are united, and not divided; with an integer neither
pub union_with_none : result_of op.Plus (value.Set no_members) (value.Set of_integers) ≡ Some (value.Set of_integers)
union_with_none = refl

pub quotient_of_sets : result_of op.Div (value.Set of_integers) (value.Set of_integers) ≡ None
quotient_of_sets = refl

pub union_with_integer : result_of op.Plus (value.Set of_integers) (value.Ordinal integer) ≡ None
union_with_integer = refl

-- no set is less than another
pub less_of_sets : relation_behind_value relational.Less (value.Set of_integers) ≡ None
less_of_sets = refl

-- an integer may be a member of a set of integers, and of the set without members, but no truth value
pub integer_in_set : may_contain (value.Ordinal integer) (value.Set of_integers) ≡ true
integer_in_set = refl

pub integer_in_none : may_contain (value.Ordinal integer) (value.Set no_members) ≡ true
integer_in_none = refl

pub boolean_in_set : may_contain (value.Ordinal boolean) (value.Set of_integers) ≡ false
boolean_in_set = refl

-- ---- the input

-- readln reads the input, and passes the next line end
pub readln_is_procedure : found (required_region ∷ []) (codes "readln") ≡ Ok (denotes.Procedure (record { file = file.Input; ends_line = true }))
unfolding required_region
readln_is_procedure = refl

-- the two files alone may be program parameters
pub input_is_file : file_of (codes "input") ≡ Some file.Input
input_is_file = refl

pub other_is_no_file : file_of (codes "inputs") ≡ None
other_is_no_file = refl

-- integers and characters are read, and no truth value
pub integer_is_read : (place : Place)
    → read_as required_forms place integer ≡ Ok (readable.Integer, record { first = neg_ℤ (pos 2147483647); last = pos 2147483647 })
integer_is_read place = refl

pub character_is_read : (place : Place) → read_as required_forms place char ≡ Ok (readable.Char, record { first = pos 0; last = pos 127 })
character_is_read place = refl

pub boolean_is_not_read : (place : Place) → read_as required_forms place boolean ≡ Err (fault.Mismatch place)
boolean_is_not_read place = refl

-- a read wants a variable, a readln may have none
pub read_without_variable : (place : Place)
    → has_parameters place (record { file = file.Input; ends_line = false }) [] ≡ Err (fault.WrongParameters place)
read_without_variable place = refl

pub readln_without_variable : (place : Place) → has_parameters place (record { file = file.Input; ends_line = true }) [] ≡ Ok tt
readln_without_variable place = refl

-- a call names its own file first, if any; the other one is refused at the call's name
pub file_first : (place : Place) (first : WrittenActual) (rest : List WrittenActual) → behind_file file.Input place first rest (Some file.Input) ≡ Ok rest
file_first place first rest = refl

pub other_file_first : (place : Place) (first : WrittenActual) (rest : List WrittenActual)
    → behind_file file.Output place first rest (Some file.Input) ≡ Err (fault.WrongParameters place)
other_file_first place first rest = refl

-- nothing is asked of the output
pub end_of_output : (place : Place) → is_input place (Some file.Output) ≡ Err (fault.WrongParameters place)
end_of_output place = refl

-- points are numbered one after another
pub second_point : (first second : Place)
    → (point first >>= (λ one. point second)) (begins first)
    ≡ Ok (after 1 [] (record (begins first) { points = first ∷ second ∷ []; latest = second }))
unfolding point
second_point first second = refl
