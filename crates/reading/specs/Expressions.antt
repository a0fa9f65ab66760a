-- How expressions are read (ISO 7185:1990, 6.5.3, 6.7): of each rule the outline of what it makes, or where it stops. A
-- rule has two readings for what is a level below it, by the place at which that begins: of an expression, and of an
-- operand of `not`.
-- It says nothing of how a form is spelled: see Outline.
use Rattle.std.specs.Prelude.{ℕ, zero, suc, Bool, true, false, if◌then◌else◌, List, [], Option, Some}
use Rattle.place.specs.declared.Place.{Place}
use Rattle.lexer.specs.declared.token.Kind.TheVariants as kind
use Rattle.lexer.specs.declared.token.Word.TheVariants as word
use Rattle.lexer.specs.declared.token.Symbol.TheVariants as symbol
use Rattle.reading.specs.Outline as form
use Rattle.reading.specs.Outline.{Outline, has_items, sum_level, product_level}
use Rattle.reading.specs.Reading.{Reading, ◌>>=◌, ◌>>◌, pure, too_deep, here, peek, is_kind, on, word_taken}
use Rattle.reading.specs.Reading.{symbol_taken, text_taken, number_taken, sign_taken, operator_taken, relational_taken}
use Rattle.reading.specs.Reading.{expect_symbol, expect_name, Turn, more, ends, loop, separated}

-- what is a level below, by the place at which it begins
abbrev pub Below : Type 0
Below = Option Place → Reading Outline

module _ (inner : Below) where
  -- index = expression (6.5.3.2)
  unfoldable pub index : Reading Outline
  index = here >>= inner

  -- unjoined = ["[" index | "." name] (6.5.3.2, 6.5.3.3)
  unfoldable pub unjoined : Bool → Reading (Turn Bool Outline Outline)
  unjoined within =
      on (symbol_taken symbol.OpenBracket) (λ place. index >>= (λ i. pure (more true (form.index within place i))))
      (on (symbol_taken symbol.Period) (λ _. expect_name >>= (λ name. pure (more false (form.field within name))))
      (pure (ends (form.closing within))))

  -- selector = unjoined, or behind an index "," index | "]" unjoined (6.5.3.2, 6.5.3.3)
  abbrev pub selector : Bool → Reading (Turn Bool Outline Outline)
  selector false = unjoined false
  selector true =
      on (symbol_taken symbol.Comma) (λ place. index >>= (λ i. pure (more true (form.joined_index true place i))))
      (expect_symbol symbol.CloseBracket >> unjoined true)

  -- selectors = {"[" index {"," index} "]" | "." name} (6.5.3)
  unfoldable pub selectors : Reading (List Outline × Outline)
  selectors = loop selector false

  -- actual = expression [":" expression] (6.7.3, 6.9.3)
  unfoldable pub actual : Reading Outline
  actual = do
    value ← index
    (on (symbol_taken symbol.Colon) (λ _. index >>= (λ width. pure (form.wide_actual value width)))
        (pure (form.actual value)))

  -- actuals = ["(" actual {"," actual} ")"] (6.7.3)
  unfoldable pub actuals : Reading (List Outline)
  actuals =
      on (symbol_taken symbol.OpenParenthesis)
      (λ _. separated symbol.Comma actual >>= (λ found. expect_symbol symbol.CloseParenthesis >> pure found)) (pure [])

  -- named = name (selectors | actuals) (6.5.1, 6.3, 6.7.3)
  unfoldable pub named : Reading Outline
  named = do
    name ← expect_name
    found ← selectors
    if has_items found.0 then pure (form.component name found) else (do
      given ← actuals
      pure (if has_items given then form.call name given else form.named name))

  -- member = expression [".." expression] (6.7.1)
  unfoldable pub member : Reading Outline
  member = do
    first ← index
    (on (symbol_taken symbol.Range) (λ _. index >>= (λ last. pure (form.range first last))) (pure (form.single first)))

  -- members = [member {"," member}] "]" (6.7.1)
  unfoldable pub members : Reading (List Outline)
  members =
      on (symbol_taken symbol.CloseBracket) (λ _. pure [])
      (separated symbol.Comma member >>= (λ found. expect_symbol symbol.CloseBracket >> pure found))

  -- set = "[" members (6.7.1)
  unfoldable pub set : Place → Reading Outline
  set place = members >>= (λ found. pure (form.set place found))

  -- parenthesized = "(" expression ")" (6.7.1)
  unfoldable pub parenthesized : Reading Outline
  parenthesized = do
    place ← expect_symbol symbol.OpenParenthesis
    e ← inner (Some place)
    expect_symbol symbol.CloseParenthesis
    pure (form.parenthesized place e)

  -- negated = "not" factor (6.7.1)
  unfoldable pub negated : Below → Place → Reading Outline
  negated operand place = here >>= operand >>= (λ o. pure (form.negated place o))

  -- factor = number | string | named | negated | set | parenthesized (6.7.1)
  unfoldable pub any_factor : Below → Reading Outline
  any_factor operand =
      on number_taken (λ n. pure (form.number n.0 n.1)) (on (text_taken kind.Text) (λ text. pure (form.string text))
      (peek >>= (λ next. if is_kind kind.Identifier next then named
      else on (word_taken word.Not) (negated operand) (on (symbol_taken symbol.OpenBracket) set parenthesized))))

-- the operators of a level, each with the operand behind it
unfoldable pub link_turn : ℕ → Reading Outline → Unit {0} → Reading (Turn (Unit {0}) Outline (Unit {0}))
link_turn level operand state =
    on (operator_taken level) (λ o. operand >>= (λ x. pure (more tt (form.link o.0 o.1 x)))) (pure (ends tt))

unfoldable pub chain : ℕ → Reading Outline → Reading Outline → Reading Outline
chain level first operand = do
  f ← first
  links ← loop (link_turn level operand) tt
  pure (form.chain f links.0)

-- term = factor {("*" | "div" | "mod" | "and") factor} (6.7.1)
abbrev pub term_of : Reading Outline → Reading Outline
term_of factor = chain product_level factor factor

-- signed = [sign] term (6.7.1)
unfoldable pub signed : Reading Outline → Reading Outline
signed term = on sign_taken (λ s. term >>= (λ t. pure (form.signed s.0 s.1 t))) term

-- simple = signed {("+" | "-" | "or") term} (6.7.1)
abbrev pub simple_of : Reading Outline → Reading Outline
simple_of term = chain sum_level (signed term) term

-- relation = simple [("=" | "<>" | "<" | ">" | "<=" | ">=" | "in") simple] (6.7.1)
unfoldable pub relation_of : Reading Outline → Reading Outline
relation_of simple = do
  left ← simple
  (on relational_taken
      (λ o. simple >>= (λ right. pure (form.relation left o.0 o.1 right))) (pure left))

abbrev pub expression_of : Reading Outline → Reading Outline
expression_of factor = relation_of (simple_of (term_of factor))

-- a factor below which so many levels are left
abbrev pub factor : ℕ → Reading Outline
factor zero = any_factor too_deep too_deep
factor (suc levels) = any_factor (λ at. expression_of (factor levels)) (λ at. factor levels)

abbrev pub term : ℕ → Reading Outline
term levels = term_of (factor levels)

abbrev pub simple : ℕ → Reading Outline
simple levels = simple_of (term levels)

-- expression = relation (6.7.1)
abbrev pub expression : ℕ → Reading Outline
expression levels = relation_of (simple levels)

-- what is a level below an expression
abbrev pub expression_below : ℕ → Below
expression_below zero = too_deep
expression_below (suc levels) = λ at. expression levels

abbrev pub factor_below : ℕ → Below
factor_below zero = too_deep
factor_below (suc levels) = λ at. factor levels
