-- How statements are read (ISO 7185:1990, 6.8): of each rule the outline of what it makes, or where it stops. A rule
-- takes how many levels are left below the statement, and the reading of one that stands in it.
-- It says nothing of how a form is spelled: see Outline.
use Rattle.std.specs.Prelude.{ℕ, zero, suc, Bool, true, false, if◌then◌else◌, List, ◌∷◌, Option, Some, None}
use Rattle.place.specs.declared.Place.{Place}
use Rattle.syntax_tree.specs.declared.Direction.{Direction}
use Rattle.lexer.specs.declared.token.Kind.{Kind}
use Rattle.lexer.specs.declared.token.Kind.TheVariants as kind
use Rattle.lexer.specs.declared.token.Word.{Word}
use Rattle.lexer.specs.declared.token.Word.TheVariants as word
use Rattle.lexer.specs.declared.token.Symbol.TheVariants as symbol
use Rattle.reading.specs.Lexemes.{Lexeme, of_kind_at, sign_kind}
use Rattle.reading.specs.Outline as form
use Rattle.reading.specs.Outline.{Outline, has_items, nothing, kept}
use Rattle.reading.specs.Reading.{Reading, ◌>>=◌, ◌>>◌, pure, too_deep, here, peek, on, word_taken, symbol_taken}
use Rattle.reading.specs.Reading.{text_taken, number_taken, sign_taken, refuse, expect_word, expect_direction}
use Rattle.reading.specs.Reading.{expect_symbol, expect_name, choose, Turn, more, ends, loop, separated}
use Rattle.reading.specs.Expressions.{expression, expression_below, selectors, actuals}

-- ---- constants (6.3)

-- sign = ["+" | "-"] (6.1.5)
unfoldable pub sign : Reading Outline
sign = on sign_taken (λ s. pure (kept (of_kind_at (sign_kind s.0) s.1))) (pure nothing)

-- value = number | name (6.3)
unfoldable pub value : Reading Lexeme
value = on number_taken (λ n. pure (of_kind_at (kind.Number n.0) n.1)) expect_name

-- constant = string | sign value (6.3)
unfoldable pub constant : Reading Outline
constant =
    on (text_taken kind.Text) (λ text. pure (form.constant nothing text)) (do
      s ← sign
      v ← value
      pure (form.constant s v))

-- row = constant {"," constant} ":" (6.8.3.5)
unfoldable pub row : Reading (List Outline)
row = separated symbol.Comma constant >>= (λ constants. expect_symbol symbol.Colon >> pure constants)

-- behind_arm = ";" | [";"] "end" (6.8.3.5, 6.4.3.3): whether a semicolon stands before the `end`, or nothing where no
-- `end` comes
unfoldable pub behind_arm : Reading (Option Bool)
behind_arm =
    on (symbol_taken symbol.Semicolon) (λ _. on (word_taken word.End) (λ _. pure (Some true)) (pure None))
    (expect_word word.End >> pure (Some false))

-- one part more, unless the `end` of a case or of a record comes
unfoldable pub arm_turn : Reading Outline → Unit {0} → Reading (Turn (Unit {0}) Outline Bool)
arm_turn part state =
    behind_arm >>= (λ end. choose end (λ semicolon. pure (ends semicolon)) (part >>= (λ a. pure (more tt a))))

-- parts = part {";" part} [";"] "end" (6.8.3.5, 6.4.3.3)
unfoldable pub parts_to_end : Reading Outline → Reading (List Outline × Bool)
parts_to_end part = do
  one ← part
  others ← loop (arm_turn part) tt
  pure (one ∷ others.0, others.1)

-- ---- statements

-- guard = expression word (6.8.3.4, 6.8.3.5, 6.8.3.8)
unfoldable pub guard : ℕ → Word → Reading Outline
guard levels w = expression levels >>= (λ e. expect_word w >> pure e)

-- control = "for" name ":=" (6.8.3.9)
unfoldable pub control : Reading (Place × Lexeme)
control = do
  place ← expect_word word.For
  variable ← expect_name
  expect_symbol symbol.Becomes
  pure (place, variable)

-- initial = expression ("to" | "downto") (6.8.3.9)
unfoldable pub initial : ℕ → Reading (Outline × Direction)
initial levels = do
  first ← expression levels
  direction ← expect_direction
  pure (first, direction)

-- simple = name selectors ":=" expression | name actuals (6.8.2)
unfoldable pub simple : ℕ → Reading Outline
simple levels = do
  name ← expect_name
  found ← selectors (expression_below levels)
  (on (symbol_taken symbol.Becomes)
      (λ place. expression levels >>= (λ value. pure (form.assignment name found place value)))
      (if has_items found.0 then refuse else (do
        given ← actuals (expression_below levels)
        pure (form.procedure_call name given))))

-- record_variable = name selectors (6.8.3.10)
unfoldable pub record_variable : ℕ → Reading Outline
record_variable levels = do
  name ← expect_name
  found ← selectors (expression_below levels)
  pure (form.record_variable name found)

-- compound = "begin" statements "end" (6.8.3.2)
unfoldable pub compound : Reading Outline → Reading (List Outline × Place)
compound statement = do
  expect_word word.Begin
  statements ← separated symbol.Semicolon statement
  end ← expect_word word.End
  pure (statements, end)

module _ (levels : ℕ) (statement : Reading Outline) where
  -- alternative = ["else" statement] (6.8.3.4)
  unfoldable pub alternative : Reading (Option Outline)
  alternative = on (word_taken word.Else) (λ _. statement >>= (λ a. pure (Some a))) (pure None)

  -- conditional = "if" expression "then" statement alternative (6.8.3.4)
  unfoldable pub conditional : Reading Outline
  conditional = do
    place ← expect_word word.If
    condition ← guard levels word.Then
    consequence ← statement
    other ← alternative
    (choose other (λ a. pure (form.with_else place condition consequence a))
        (pure (form.conditional place condition consequence)))

  -- while_loop = "while" expression "do" statement (6.8.3.8)
  unfoldable pub while_loop : Reading Outline
  while_loop = do
    place ← expect_word word.While
    condition ← guard levels word.Do
    body ← statement
    pure (form.while_loop place condition body)

  -- repeat_loop = "repeat" statements "until" expression (6.8.3.7)
  unfoldable pub repeat_loop : Reading Outline
  repeat_loop = do
    place ← expect_word word.Repeat
    statements ← separated symbol.Semicolon statement
    expect_word word.Until
    condition ← expression levels
    pure (form.repeat_loop place statements condition)

  -- for_loop = control initial expression "do" statement (6.8.3.9)
  unfoldable pub for_loop : Reading Outline
  for_loop = do
    head ← control
    first ← initial levels
    last ← guard levels word.Do
    body ← statement
    pure (form.for_loop head.0 head.1 first.0 first.1 last body)

  -- arm = row statement (6.8.3.5)
  unfoldable pub arm : Reading Outline
  arm = do
    constants ← row
    s ← statement
    pure (form.arm constants s)

  -- case_of = "case" expression "of" arms (6.8.3.5)
  unfoldable pub case_of : Reading Outline
  case_of = do
    place ← expect_word word.Case
    index ← guard levels word.Of
    found ← parts_to_end arm
    pure (form.case place index found.0 found.1)

  -- with_fields = "with" record_variable {"," record_variable} "do" statement (6.8.3.10)
  unfoldable pub with_fields : Reading Outline
  with_fields = do
    place ← expect_word word.With
    records ← separated symbol.Comma (record_variable levels)
    expect_word word.Do
    body ← statement
    pure (form.with_fields place records body)

  -- statement = [simple | compound | conditional | while_loop | repeat_loop | for_loop | case_of | with_fields]
  -- (6.8.1), by what comes next
  abbrev pub statement_by : Option Kind → Reading Outline
  statement_by (Some kind.Identifier) = simple levels
  statement_by (Some (kind.Word word.Begin)) = compound statement >>= (λ c. pure (form.compound c.0))
  statement_by (Some (kind.Word word.If)) = conditional
  statement_by (Some (kind.Word word.While)) = while_loop
  statement_by (Some (kind.Word word.Repeat)) = repeat_loop
  statement_by (Some (kind.Word word.For)) = for_loop
  statement_by (Some (kind.Word word.Case)) = case_of
  statement_by (Some (kind.Word word.With)) = with_fields
  statement_by _ = pure form.empty

-- a statement in something below which so many levels are left
abbrev pub statement : ℕ → Reading Outline
statement zero = here >>= too_deep
statement (suc levels) = peek >>= statement_by levels (statement levels)
