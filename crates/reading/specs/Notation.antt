-- A program written out with brackets round each form. It tells all that a tree holds but where the tree lies in
-- memory: trees that are written alike are built alike, and of the same tokens.
-- This doesn't say how a form is written: see Outline.
use Rattle.std.specs.Prelude.{List, [], ◌∷◌, ◌++◌}
use Rattle.reading.specs.Lexemes.{Lexeme}

-- the forms of expressions, of statements and of declarations
pub data Shape : Type 0 where
  number : Shape
  name : Shape
  component : Shape
  index_selector : Shape
  field_selector : Shape
  string : Shape
  function_call : Shape
  parenthesized : Shape
  set : Shape
  member : Shape
  negated : Shape
  signed : Shape
  chain : Shape
  relation : Shape
  actual : Shape
  empty : Shape
  assignment : Shape
  procedure_call : Shape
  compound : Shape
  conditional : Shape
  while_loop : Shape
  repeat_loop : Shape
  for_loop : Shape
  case : Shape
  arm : Shape
  with_fields : Shape
  record_variable : Shape
  definition : Shape
  type_definition : Shape
  enumeration : Shape
  subrange : Shape
  array : Shape
  field : Shape
  fields : Shape
  set_type : Shape
  group : Shape
  formal : Shape
  procedure_heading : Shape
  function_heading : Shape
  resumed_heading : Shape
  routine : Shape
  parameters : Shape
  block : Shape
  program : Shape

-- where a form begins, where the innermost one ends, and a token in it
pub data Mark : Type 0 where
  opens : Shape → Mark
  closes : Mark
  token : Lexeme → Mark

abbrev pub Notation : Type 0
Notation = List Mark

-- a form in its brackets
abbrev pub in_brackets : Shape → Notation → Notation
in_brackets shape inner = opens shape ∷ inner ++ closes ∷ []
