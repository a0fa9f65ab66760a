-- The forms of a program (ISO 7185:1990, 6.2 to 6.10), each by its outline: how it is spelled, how it is written with
-- brackets, whether it may stand so, and how deep it nests. A form is made of its parts in the order of the text.
-- A statement, a type denoter, an actual with its width, an index expression, a member of a set, an expression in
-- parentheses, an operand of `not` and the block of a procedure or function is a level of its own; a chain of operators
-- is a list and no nesting, and neither is a relation. The standard sets no bound.
-- This says nothing of names and types, and of what a rule makes of tokens: see Reading.
use Rattle.std.specs.Prelude.{ℕ, ◌+◌, max, if◌then◌else◌, List, [], ◌∷◌, ◌++◌, Bool, true, false, not, ◌&&◌}
use Rattle.std.specs.Prelude.{nat_eq, nat_le}
use Rattle.std.specs.List.{list_all}
use Rattle.place.specs.declared.Place.{Place}
use Rattle.lexer.specs.declared.token.Kind.TheVariants as kind
use Rattle.lexer.specs.declared.token.Word.{Word}
use Rattle.lexer.specs.declared.token.Word.TheVariants as word
use Rattle.lexer.specs.declared.token.Symbol.{Symbol}
use Rattle.lexer.specs.declared.token.Symbol.TheVariants as symbol
use Rattle.syntax_tree.specs.declared.Sign.{Sign}
use Rattle.syntax_tree.specs.declared.Direction.{Direction}
use Rattle.syntax_tree.specs.declared.Operator.{Operator}
use Rattle.syntax_tree.specs.declared.Operator.TheVariants as op
use Rattle.syntax_tree.specs.declared.RelationalOperator.{RelationalOperator}
use Rattle.reading.specs.Lexemes.{Lexeme, Spelling, of_kind, of_kind_at, word_at, symbol_at, forward, sign_kind}
use Rattle.reading.specs.Lexemes.{operator_kind, relational_kind, direction_kind}
use Rattle.reading.specs.Notation.{Shape, Notation, token, in_brackets}
use Rattle.reading.specs.Notation as shape

pub record Outline : Type 0 where
  -- the tokens that spell it
  pub spelling : Spelling
  -- it with brackets round each form
  pub notation : Notation
  -- each form in it may stand there
  pub well : Bool
  -- how tightly it binds, as an operand
  pub level : ℕ
  -- it ends in an if without else
  pub ends_open : Bool
  -- how many levels nest in it
  pub depth : ℕ

-- the levels: a relation, a sum, a signed term, a product, a factor
abbrev pub relation_level : ℕ
relation_level = 0

abbrev pub sum_level : ℕ
sum_level = 1

abbrev pub signed_level : ℕ
signed_level = 2

abbrev pub product_level : ℕ
product_level = 3

abbrev pub factor_level : ℕ
factor_level = 4

-- ---- what forms are made of

abbrev pub nothing : Outline
nothing = record { spelling = []; notation = []; well = true; level = factor_level; ends_open = false; depth = 0 }

-- a token that the tree keeps
abbrev pub kept : Lexeme → Outline
kept l = record nothing { spelling = l ∷ []; notation = token l ∷ [] }

-- a word symbol and another symbol that it doesn't
abbrev pub word_symbol : Word → Outline
word_symbol w = record nothing { spelling = of_kind (kind.Word w) ∷ [] }

abbrev pub mark : Symbol → Outline
mark s = record nothing { spelling = of_kind (kind.Symbol s) ∷ [] }

-- one part behind another
infixr 10 ◌⧺◌
abbrev pub ◌⧺◌ : Outline → Outline → Outline
a ⧺ b = record {
  spelling = a.spelling ++ b.spelling;
  notation = a.notation ++ b.notation;
  well = a.well && b.well;
  level = factor_level;
  ends_open = b.ends_open;
  depth = max a.depth b.depth;
}

-- a form in its brackets
abbrev pub form : Shape → Outline → Outline
form s o = record o { notation = in_brackets s o.notation }

-- what is a level of its own
abbrev pub nested : Outline → Outline
nested o = record o { depth = 1 + o.depth }

-- what doesn't end in an if without else, whatever it ends in
abbrev pub closed : Outline → Outline
closed o = record o { ends_open = false }

-- what may stand where a test holds alone
abbrev pub only_if : Bool → Outline → Outline
only_if test o = record o { well = test && o.well }

abbrev pub binding : ℕ → Outline → Outline
binding level o = record o { level = level }

-- it may be an operand where a level is wanted
abbrev pub binds : ℕ → Outline → Bool
binds level o = nat_le level o.level

abbrev pub has_items : {A : Type 0} → List A → Bool
has_items [] = false
has_items (x ∷ xs) = true

-- parts one behind another, before a last one
abbrev pub row_then : List Outline → Outline → Outline
row_then [] last = last
row_then (one ∷ others) last = one ⧺ row_then others last

abbrev pub row : List Outline → Outline
row parts = row_then parts nothing

-- parts with a symbol before each
abbrev pub led : Symbol → List Outline → Outline
led s [] = nothing
led s (one ∷ others) = mark s ⧺ one ⧺ led s others

-- one part or more with a symbol between each two
abbrev pub separated : Symbol → List Outline → Outline
separated s [] = only_if false nothing
separated s (one ∷ others) = one ⧺ led s others

-- the same, or nothing where there are no parts
abbrev pub perhaps : Symbol → List Outline → Outline
perhaps s [] = nothing
perhaps s (one ∷ others) = separated s (one ∷ others)

-- the same in parentheses, which are left out with the parts where there are none
abbrev pub in_parentheses : Symbol → List Outline → Outline
in_parentheses s [] = nothing
in_parentheses s (one ∷ others) =
    mark symbol.OpenParenthesis ⧺ separated s (one ∷ others) ⧺ mark symbol.CloseParenthesis

-- parts behind the word symbol that begins them, which is left out with the parts where there are none
abbrev pub part : Word → List Outline → Outline
part w [] = nothing
part w (one ∷ others) = word_symbol w ⧺ row (one ∷ others)

-- ---- selectors (6.5.3), by whether the brackets of an index are open before them

-- what ends the brackets of an index, where they are open
abbrev pub closing : Bool → Outline
closing false = nothing
closing true = mark symbol.CloseBracket

-- an index behind its opening bracket, and one that is joined to the index before it by a comma
abbrev pub index : Bool → Place → Outline → Outline
index within place i =
    closing within ⧺ form shape.index_selector (kept (symbol_at symbol.OpenBracket place) ⧺ nested i)

abbrev pub joined_index : Bool → Place → Outline → Outline
joined_index within place i =
    only_if within (form shape.index_selector (kept (symbol_at symbol.Comma place) ⧺ nested i))

abbrev pub field : Bool → Lexeme → Outline
field within name = closing within ⧺ mark symbol.Period ⧺ form shape.field_selector (kept name)

-- ---- expressions (6.7.1), the outermost form of which binds by its level

-- the level of the chains of an operator (6.7.2.1)
abbrev pub operator_level : Operator → ℕ
operator_level op.Plus = sum_level
operator_level op.Minus = sum_level
operator_level op.Or = sum_level
operator_level op.Times = product_level
operator_level op.Div = product_level
operator_level op.Mod = product_level
operator_level op.And = product_level

-- the level of the first operand of a chain, and of the operands behind its operators: both bind more tightly
abbrev pub first_level : ℕ → ℕ
first_level level = level + 1

abbrev pub operand_level : ℕ → ℕ
operand_level level = if nat_eq level sum_level then product_level else level + 1

abbrev pub number : ℕ → Place → Outline
number value place = form shape.number (kept (of_kind_at (kind.Number value) place))

abbrev pub named : Lexeme → Outline
named name = form shape.name (kept name)

abbrev pub string : Lexeme → Outline
string text = form shape.string (kept text)

-- a component of a variable (6.5.3): one or more selectors, and what ends them
abbrev pub component : Lexeme → List Outline × Outline → Outline
component name selectors =
    only_if (has_items selectors.0) (form shape.component (kept name ⧺ row_then selectors.0 selectors.1))

abbrev pub call : Lexeme → List Outline → Outline
call name actuals =
    only_if (has_items actuals) (form shape.function_call (kept name ⧺ in_parentheses symbol.Comma actuals))

abbrev pub parenthesized : Place → Outline → Outline
parenthesized place inner =
    nested
    (form shape.parenthesized (kept (symbol_at symbol.OpenParenthesis place) ⧺ inner ⧺ mark symbol.CloseParenthesis))

-- a member of a set: one value, or the first and the last of several
abbrev pub single : Outline → Outline
single value = nested (form shape.member value)

abbrev pub range : Outline → Outline → Outline
range first last = nested (form shape.member (first ⧺ mark symbol.Range ⧺ last))

-- a set constructor: no members or more
abbrev pub set : Place → List Outline → Outline
set place members =
    form shape.set
    (kept (symbol_at symbol.OpenBracket place) ⧺ perhaps symbol.Comma members ⧺ mark symbol.CloseBracket)

abbrev pub negated : Place → Outline → Outline
negated place operand =
    nested (only_if (binds factor_level operand) (form shape.negated (kept (word_at word.Not place) ⧺ operand)))

-- a sign, which covers the whole first term of a sum
abbrev pub signed : Sign → Place → Outline → Outline
signed s place term =
    binding signed_level
    (only_if (binds product_level term) (form shape.signed (kept (of_kind_at (sign_kind s) place) ⧺ term)))

-- an operator with the operand behind it, which binds tightly enough
abbrev pub link : Operator → Place → Outline → Outline
link o place operand =
    binding (operator_level o)
    (only_if (binds (operand_level (operator_level o)) operand) (kept (of_kind_at (operator_kind o) place) ⧺ operand))

abbrev pub are_of_level : ℕ → List Outline → Bool
are_of_level level = list_all (λ l. nat_eq l.level level)

-- a first operand, alone or with the operators behind it, all of one level
abbrev pub chain : Outline → List Outline → Outline
chain first [] = first
chain first (l ∷ ls) =
    binding l.level
    (only_if (binds (first_level l.level) first && are_of_level l.level (l ∷ ls))
    (form shape.chain (first ⧺ row (l ∷ ls))))

-- a relation (6.7.2.5), both operands of which bind more tightly
abbrev pub relation : Outline → RelationalOperator → Place → Outline → Outline
relation left o place right =
    binding relation_level
    (only_if (binds sum_level left && binds sum_level right)
    (form shape.relation (left ⧺ kept (of_kind_at (relational_kind o) place) ⧺ right)))

-- an actual parameter (6.7.3), and one with a width (6.9.3)
abbrev pub actual : Outline → Outline
actual value = nested (form shape.actual value)

abbrev pub wide_actual : Outline → Outline → Outline
wide_actual value width = nested (form shape.actual (value ⧺ mark symbol.Colon ⧺ width))

-- ---- statements (6.8)

abbrev pub empty : Outline
empty = nested (form shape.empty nothing)

-- an assignment (6.8.2.2)
abbrev pub assignment : Lexeme → List Outline × Outline → Place → Outline → Outline
assignment name selectors place value =
    closed
    (nested (form shape.assignment (kept name ⧺ row_then selectors.0 selectors.1
    ⧺ kept (symbol_at symbol.Becomes place) ⧺ value)))

-- the call of a procedure (6.8.2.3)
abbrev pub procedure_call : Lexeme → List Outline → Outline
procedure_call name actuals =
    closed (nested (form shape.procedure_call (kept name ⧺ in_parentheses symbol.Comma actuals)))

-- a compound statement (6.8.3.2)
abbrev pub compound : List Outline → Outline
compound statements =
    nested (form shape.compound (word_symbol word.Begin ⧺ separated symbol.Semicolon statements ⧺ word_symbol word.End))

-- an if statement (6.8.3.4): an `else` belongs to the nearest `if` that has none
abbrev pub conditional : Place → Outline → Outline → Outline
conditional place condition consequence =
    let o = nested
    (form shape.conditional (kept (word_at word.If place) ⧺ condition ⧺ word_symbol word.Then ⧺ consequence)) in
    record o { ends_open = true }

abbrev pub with_else : Place → Outline → Outline → Outline → Outline
with_else place condition consequence alternative =
    nested
    (only_if (not consequence.ends_open) (form shape.conditional (kept (word_at word.If place) ⧺ condition
    ⧺ word_symbol word.Then ⧺ consequence ⧺ word_symbol word.Else ⧺ alternative)))

-- a while statement (6.8.3.8)
abbrev pub while_loop : Place → Outline → Outline → Outline
while_loop place condition body =
    nested (form shape.while_loop (kept (word_at word.While place) ⧺ condition ⧺ word_symbol word.Do ⧺ body))

-- a repeat statement (6.8.3.7)
abbrev pub repeat_loop : Place → List Outline → Outline → Outline
repeat_loop place statements condition =
    closed
    (nested (form shape.repeat_loop (kept (word_at word.Repeat place) ⧺ separated symbol.Semicolon statements
    ⧺ word_symbol word.Until ⧺ condition)))

-- a for statement (6.8.3.9)
abbrev pub for_loop : Place → Lexeme → Outline → Direction → Outline → Outline → Outline
for_loop place variable first direction last body =
    nested
    (form shape.for_loop (kept (word_at word.For place) ⧺ kept variable ⧺ mark symbol.Becomes ⧺ first
    ⧺ kept (of_kind (direction_kind direction)) ⧺ last ⧺ word_symbol word.Do ⧺ body))

-- an arm of a case behind its constants
abbrev pub arm : List Outline → Outline → Outline
arm constants statement = form shape.arm (separated symbol.Comma constants ⧺ mark symbol.Colon ⧺ statement)

-- the `end` of a case or of a record, with a semicolon before it or none
abbrev pub ending : Bool → Outline
ending false = kept (of_kind (kind.Word word.End))
ending true = kept (of_kind (kind.Symbol symbol.Semicolon)) ⧺ kept (of_kind (kind.Word word.End))

-- a case statement (6.8.3.5)
abbrev pub case : Place → Outline → List Outline → Bool → Outline
case place index arms semicolon =
    closed
    (nested (form shape.case (kept (word_at word.Case place) ⧺ index ⧺ word_symbol word.Of
    ⧺ separated symbol.Semicolon arms ⧺ ending semicolon)))

-- a variable whose fields are names in the statement of a with (6.8.3.10)
abbrev pub record_variable : Lexeme → List Outline × Outline → Outline
record_variable name selectors = form shape.record_variable (kept name ⧺ row_then selectors.0 selectors.1)

-- a with statement (6.8.3.10)
abbrev pub with_fields : Place → List Outline → Outline → Outline
with_fields place records body =
    nested
    (form shape.with_fields (kept (word_at word.With place) ⧺ separated symbol.Comma records ⧺ word_symbol word.Do
    ⧺ body))

-- ---- definitions and types (6.3, 6.4)

-- a constant: a sign may stand before a number or a name, and before no string
abbrev pub constant : Outline → Lexeme → Outline
constant sign value = sign ⧺ kept value

abbrev pub definition : Lexeme → Outline → Outline
definition name value =
    form shape.definition (kept name ⧺ mark symbol.Equal ⧺ value ⧺ mark symbol.Semicolon)

abbrev pub named_type : Lexeme → Outline
named_type name = nested (kept name)

-- an enumerated type (6.4.2.3): one constant or more
abbrev pub enumerated : List Outline → Outline
enumerated constants =
    nested
    (form shape.enumeration
    (mark symbol.OpenParenthesis ⧺ separated symbol.Comma constants ⧺ mark symbol.CloseParenthesis))

-- a subrange type (6.4.2.4)
abbrev pub subrange : Outline → Place → Outline → Outline
subrange first place last = nested (form shape.subrange (first ⧺ kept (symbol_at symbol.Range place) ⧺ last))

-- the word symbol of a packed type (6.4.3.1)
abbrev pub packing : Bool → Outline
packing false = nothing
packing true = kept (of_kind (kind.Word word.Packed))

-- an array type (6.4.3.2)
abbrev pub array : Bool → Place → List Outline → Outline → Outline
array packed place indexes element =
    nested
    (form shape.array (packing packed ⧺ kept (word_at word.Array place) ⧺ mark symbol.OpenBracket
    ⧺ separated symbol.Comma indexes ⧺ mark symbol.CloseBracket ⧺ word_symbol word.Of ⧺ element))

-- fields declared together (6.4.3.3)
abbrev pub fields : List Outline → Outline → Outline
fields names denoter = form shape.field (separated symbol.Comma names ⧺ mark symbol.Colon ⧺ denoter)

-- the fields of a record, before whose `end` no semicolon stands alone
abbrev pub field_list : List Outline → Bool → Outline
field_list [] semicolon = only_if (not semicolon) (ending semicolon)
field_list (one ∷ others) semicolon = separated symbol.Semicolon (one ∷ others) ⧺ ending semicolon

-- a record type (6.4.3.3)
abbrev pub record_type : Bool → Place → List Outline → Bool → Outline
record_type packed place fields semicolon =
    nested (form shape.fields (packing packed ⧺ kept (word_at word.Record place) ⧺ field_list fields semicolon))

-- a set type (6.4.3.4)
abbrev pub set_type : Bool → Place → Outline → Outline
set_type packed place base =
    nested (form shape.set_type (packing packed ⧺ kept (word_at word.Set place) ⧺ word_symbol word.Of ⧺ base))

-- a type definition (6.4.1)
abbrev pub type_definition : Lexeme → Outline → Outline
type_definition name denoter =
    form shape.type_definition (kept name ⧺ mark symbol.Equal ⧺ denoter ⧺ mark symbol.Semicolon)

-- ---- declarations (6.5.1, 6.6)

-- variables declared together
abbrev pub group : List Outline → Outline → Outline
group names denoter =
    form shape.group (separated symbol.Comma names ⧺ mark symbol.Colon ⧺ denoter ⧺ mark symbol.Semicolon)

-- the word symbol before variable parameters, and nothing before value parameters (6.6.3.1)
abbrev pub passing : Bool → Outline
passing false = nothing
passing true = kept (of_kind (kind.Word word.Var))

-- formal parameters that are declared together (6.6.3.1)
abbrev pub formal : Bool → List Outline → Lexeme → Outline
formal variable names type_name =
    form shape.formal
    (passing variable ⧺ separated symbol.Comma names ⧺ mark symbol.Colon ⧺ kept type_name)

-- the heading of a procedure (6.6.1)
abbrev pub procedure_heading : Lexeme → List Outline → Outline
procedure_heading name formals =
    form shape.procedure_heading
    (word_symbol word.Procedure ⧺ kept name ⧺ in_parentheses symbol.Semicolon formals ⧺ mark symbol.Semicolon)

-- the heading of a function (6.6.2), and of its later declaration behind one with `forward`
abbrev pub function_heading : Lexeme → List Outline → Lexeme → Outline
function_heading name formals result =
    form shape.function_heading
    (word_symbol word.Function ⧺ kept name ⧺ in_parentheses symbol.Semicolon formals ⧺ mark symbol.Colon ⧺ kept result
    ⧺ mark symbol.Semicolon)

abbrev pub resumed_heading : Lexeme → Outline
resumed_heading name = form shape.resumed_heading (word_symbol word.Function ⧺ kept name ⧺ mark symbol.Semicolon)

-- the block of a procedure or function, or `forward` in its place
abbrev pub body : Outline → Outline
body block = nested block

abbrev pub directive : Bool → Outline
directive may_stand = only_if may_stand (kept forward)

-- the declaration of a procedure or function
abbrev pub routine : Outline → Outline → Outline
routine heading inner = form shape.routine (heading ⧺ inner ⧺ mark symbol.Semicolon)

-- the compound statement of a block
abbrev pub statement_part : List Outline → Place → Outline
statement_part statements end =
    nested (word_symbol word.Begin ⧺ separated symbol.Semicolon statements ⧺ kept (word_at word.End end))

-- a block (6.2.1)
abbrev pub block : List Outline → List Outline → List Outline → List Outline → Outline → Outline
block constants types variables routines statements =
    form shape.block
    (part word.Const constants ⧺ part word.Type types ⧺ part word.Var variables ⧺ row routines ⧺ statements)

-- a program (6.10)
abbrev pub program : Lexeme → List Outline → Outline → Outline
program name parameters block =
    form shape.program
    (word_symbol word.Program ⧺ kept name ⧺ form shape.parameters (in_parentheses symbol.Comma parameters)
    ⧺ mark symbol.Semicolon ⧺ block ⧺ mark symbol.Period)
