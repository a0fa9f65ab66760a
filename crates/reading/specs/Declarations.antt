-- How types, definitions, declarations and programs are read (ISO 7185:1990, 6.2 to 6.6, 6.10): of each rule the
-- outline of what it makes, or where it stops. A rule takes how many levels are left below it, or the reading of what
-- stands in it.
-- It says nothing of how a form is spelled: see Outline.
use Rattle.std.specs.Prelude.{ℕ, zero, suc, Bool, true, false, ◌||◌, if◌then◌else◌, List, [], ◌∷◌, Option, Some}
use Rattle.std.specs.Prelude.{None, is_some, Ok, Err}
use Rattle.reading.specs.declared.refusal.Refusal.TheVariants.{NoProgram}
use Rattle.place.specs.declared.Place.{Place}
use Rattle.lexer.specs.declared.token.Kind.{Kind}
use Rattle.lexer.specs.declared.token.Kind.TheVariants as kind
use Rattle.lexer.specs.declared.token.Word.{Word}
use Rattle.lexer.specs.declared.token.Word.TheVariants as word
use Rattle.lexer.specs.declared.token.Symbol.TheVariants as symbol
use Rattle.reading.specs.Lexemes.{Lexeme, Spelling}
use Rattle.reading.specs.Outline as form
use Rattle.reading.specs.Outline.{Outline, kept}
use Rattle.reading.specs.Reading.{Reading, ◌>>=◌, ◌>>◌, pure, too_deep, here, peek, on, word_taken}
use Rattle.reading.specs.Reading.{symbol_taken, forward_taken, refuse, expect_word, expect_symbol}
use Rattle.reading.specs.Reading.{expect_name, is_kind, separated, many}
use Rattle.reading.specs.Expressions.{Below}
use Rattle.reading.specs.Statements.{constant, parts_to_end, compound, statement}

-- ---- names and constants

unfoldable pub name : Reading Outline
name = expect_name >>= (λ n. pure (kept n))

-- names = name {"," name} (6.4.2.3)
unfoldable pub names : Reading (List Outline)
names = separated symbol.Comma name

-- field_names = names ":" (6.4.3.3, 6.5.1, 6.6.3.1)
unfoldable pub field_names : Reading (List Outline)
field_names = names >>= (λ found. expect_symbol symbol.Colon >> pure found)

-- part = [word item {item}] (6.2.1), each of which begins with a name
unfoldable pub part : Word → Reading Outline → Reading (List Outline)
part w item =
    on (word_taken w)
    (λ _. item >>= (λ one. many (is_kind kind.Identifier) item >>= (λ others. pure (one ∷ others)))) (pure [])

-- definition = name "=" constant ";" (6.3)
unfoldable pub definition : Reading Outline
definition = do
  n ← expect_name
  expect_symbol symbol.Equal
  value ← constant
  expect_symbol symbol.Semicolon
  pure (form.definition n value)

-- constants = ["const" definition {definition}] (6.2.1)
abbrev pub constants : Reading (List Outline)
constants = part word.Const definition

-- ---- types (6.4)

-- enumerated = "(" names ")" (6.4.2.3)
unfoldable pub enumerated : Reading Outline
enumerated = do
  expect_symbol symbol.OpenParenthesis
  found ← names
  expect_symbol symbol.CloseParenthesis
  pure (form.enumerated found)

-- the name that a constant is, where it is one without a sign
abbrev pub name_of : Spelling → Option Lexeme
name_of (l ∷ []) = if is_kind kind.Identifier (Some l.kind) then Some l else None
name_of _ = None

-- a name where no `..` comes: the constant is one that has no sign
abbrev pub lone_name : Option Lexeme → Reading Outline
lone_name (Some n) = pure (form.named_type n)
lone_name None = refuse

-- name_or_subrange = name | constant ".." constant (6.4.2.4)
unfoldable pub name_or_subrange : Reading Outline
name_or_subrange = do
  first ← constant
  (on (symbol_taken symbol.Range) (λ place. constant >>= (λ last. pure (form.subrange first place last)))
      (lone_name (name_of first.spelling)))

-- packed = ["packed"] (6.4.3.1)
unfoldable pub packed : Reading Bool
packed = word_taken word.Packed >>= (λ place. pure (is_some place))

module _ (denoter : Reading Outline) where
  -- array = "array" "[" denoter {"," denoter} "]" "of" denoter (6.4.3.2)
  unfoldable pub array : Reading (Place × List Outline × Outline)
  array = do
    place ← expect_word word.Array
    expect_symbol symbol.OpenBracket
    indexes ← separated symbol.Comma denoter
    expect_symbol symbol.CloseBracket
    expect_word word.Of
    element ← denoter
    pure (place, indexes, element)

  -- fields = field_names denoter (6.4.3.3)
  unfoldable pub fields : Reading Outline
  fields = field_names >>= (λ found. denoter >>= (λ d. pure (form.fields found d)))

  -- record = "record" ("end" | fields {";" fields} [";"] "end") (6.4.3.3)
  unfoldable pub record_type : Reading (Place × List Outline × Bool)
  record_type = do
    place ← expect_word word.Record
    (on (word_taken word.End) (λ _. pure (place, [], false))
        (parts_to_end fields >>= (λ found. pure (place, found.0, found.1))))

  -- set_type = "set" "of" denoter (6.4.3.4)
  unfoldable pub set_type : Reading (Place × Outline)
  set_type = do
    place ← expect_word word.Set
    expect_word word.Of
    base ← denoter
    pure (place, base)

  -- structured = packed (array | set_type | record_type) (6.4.3.1)
  unfoldable pub structured : Reading Outline
  structured = do
    p ← packed
    next ← peek
    (if is_kind (kind.Word word.Array) next then (array >>= (λ a. pure (form.array p a.0 a.1 a.2)))
        else (if is_kind (kind.Word word.Set) next then (set_type >>= (λ s. pure (form.set_type p s.0 s.1)))
        else (record_type >>= (λ r. pure (form.record_type p r.0 r.1 r.2)))))

  -- denoter = enumerated | structured | name_or_subrange (6.4.1), by what comes next
  abbrev pub denoter_by : Option Kind → Reading Outline
  denoter_by (Some (kind.Symbol symbol.OpenParenthesis)) = enumerated
  denoter_by (Some (kind.Word w)) = structured
  denoter_by _ = name_or_subrange

-- a type denoter in something below which so many levels are left
abbrev pub denoter : ℕ → Reading Outline
denoter zero = here >>= too_deep
denoter (suc levels) = peek >>= denoter_by (denoter levels)

-- type_definition = name "=" denoter ";" (6.4.1)
unfoldable pub type_definition : ℕ → Reading Outline
type_definition levels = do
  n ← expect_name
  expect_symbol symbol.Equal
  d ← denoter levels
  expect_symbol symbol.Semicolon
  pure (form.type_definition n d)

-- types = ["type" type_definition {type_definition}] (6.2.1)
abbrev pub types : ℕ → Reading (List Outline)
types levels = part word.Type (type_definition levels)

-- group = names ":" denoter ";" (6.5.1)
unfoldable pub group : ℕ → Reading Outline
group levels = do
  found ← field_names
  d ← denoter levels
  expect_symbol symbol.Semicolon
  pure (form.group found d)

-- variables = ["var" group {group}] (6.2.1)
abbrev pub variables : ℕ → Reading (List Outline)
variables levels = part word.Var (group levels)

-- ---- procedures and functions (6.6)

-- passing = ["var"] (6.6.3.1)
unfoldable pub passing : Reading Bool
passing = word_taken word.Var >>= (λ place. pure (is_some place))

-- formal = passing field_names name (6.6.3.1)
unfoldable pub formal : Reading Outline
formal = do
  by ← passing
  found ← field_names
  type_name ← expect_name
  pure (form.formal by found type_name)

-- formals = ["(" formal {";" formal} ")"] (6.6.3.1)
unfoldable pub formals : Reading (List Outline)
formals =
    on (symbol_taken symbol.OpenParenthesis)
    (λ _. separated symbol.Semicolon formal >>= (λ found. expect_symbol symbol.CloseParenthesis >> pure found))
    (pure [])

-- a heading, and whether `forward` may stand behind it: it may not at the later declaration of a function
abbrev pub Headed : Type 0
Headed = Outline × Bool

-- procedure = "procedure" name formals ";" (6.6.1)
unfoldable pub procedure : Reading Headed
procedure = do
  expect_word word.Procedure
  n ← expect_name
  found ← formals
  expect_symbol symbol.Semicolon
  pure (form.procedure_heading n found, true)

-- signature = formals ":" name ";" (6.6.2)
unfoldable pub signature : Reading (List Outline × Lexeme)
signature = do
  found ← formals
  expect_symbol symbol.Colon
  result ← expect_name
  expect_symbol symbol.Semicolon
  pure (found, result)

-- function = "function" name (";" | signature) (6.6.2)
unfoldable pub function : Reading Headed
function = do
  expect_word word.Function
  n ← expect_name
  (on (symbol_taken symbol.Semicolon) (λ _. pure (form.resumed_heading n, false))
      (signature >>= (λ s. pure (form.function_heading n s.0 s.1, true))))

-- heading = procedure | function (6.6.1, 6.6.2)
unfoldable pub heading : Reading Headed
heading = peek >>= (λ next. if is_kind (kind.Word word.Procedure) next then procedure else function)

abbrev pub begins_routine : Option Kind → Bool
begins_routine next = is_kind (kind.Word word.Procedure) next || is_kind (kind.Word word.Function) next

module _ (block : Below) where
  -- body = "forward" | block (6.6.1, 6.6.2)
  unfoldable pub body : Bool → Reading Outline
  body may_forward =
      on (if may_forward then forward_taken else pure None) (λ _. pure (form.directive may_forward))
      (here >>= block >>= (λ b. pure (form.body b)))

  -- routine = heading body ";" (6.6.1, 6.6.2)
  unfoldable pub routine : Reading Outline
  routine = do
    h ← heading
    b ← body h.1
    expect_symbol symbol.Semicolon
    pure (form.routine h.0 b)

  -- routines = {routine} (6.2.1)
  abbrev pub routines : Reading (List Outline)
  routines = many begins_routine routine

-- the compound statement of a block, below which so many levels are left
abbrev pub statement_part : ℕ → Reading (List Outline × Place)
statement_part zero = here >>= too_deep
statement_part (suc levels) = compound (statement levels)

-- block = constants types variables routines compound (6.2.1)
unfoldable pub block_of : ℕ → Below → Reading Outline
block_of levels inner = do
  c ← constants
  t ← types levels
  v ← variables levels
  r ← routines inner
  s ← statement_part levels
  pure (form.block c t v r (form.statement_part s.0 s.1))

abbrev pub block : ℕ → Reading Outline
block zero = block_of zero too_deep
block (suc levels) = block_of (suc levels) (λ at. block levels)

-- ---- programs (6.10)

-- parameters = ["(" names ")"] (6.10)
unfoldable pub parameters : Reading (List Outline)
parameters =
    on (symbol_taken symbol.OpenParenthesis)
    (λ _. names >>= (λ found. expect_symbol symbol.CloseParenthesis >> pure found)) (pure [])

-- nothing is left
abbrev pub finish : Reading (Unit {0})
finish [] = Ok (tt, [])
finish (token ∷ others) = Err (NoProgram, token ∷ others)

-- period_at_end = "." (6.10), behind which nothing stands
abbrev pub period_at_end : Reading (Unit {0})
period_at_end = expect_symbol symbol.Period >> finish

-- program = "program" name parameters ";" block "." (6.10)
unfoldable pub program : ℕ → Reading Outline
program levels = do
  expect_word word.Program
  n ← expect_name
  found ← parameters
  expect_symbol symbol.Semicolon
  b ← block levels
  expect_symbol symbol.Period
  finish
  pure (form.program n found b)
