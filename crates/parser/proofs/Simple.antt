-- What begins with a name and is no assignment: the call of a procedure, or selectors, with which no statement goes on.
use Rattle.std.proofs.Common.{◌≡◌, ℕ, Bool, true, false, if◌then◌else◌, List, None, Ok, Err, ap, ◌∙◌}
use Rattle.lexer.specs.declared.token.Token.{Token}
use Rattle.lexer.specs.declared.token.Symbol.TheVariants as symbol
use Rattle.reading.specs.declared.refusal.Refusal.TheVariants.{NoProgram}
use Rattle.reading.specs.Lexemes.{Lexeme}
use Rattle.reading.specs.Outline as form
use Rattle.reading.specs.Outline.{Outline, has_items}
use Rattle.reading.specs.Reading.{Reading, and_then, choose, on, pure, refuse, ◌>>=◌, expect_name, symbol_taken}
use Rattle.reading.specs.Expressions.{actuals, expression, expression_below, selectors}
use Rattle.reading.specs.Statements.{simple}

module _ (levels : ℕ) (tokens a b others : List Token) (name : Lexeme) (begins : expect_name tokens ≡ Ok (name, a))
    (found : List Outline × Outline) (selected : selectors (expression_below levels) a ≡ Ok (found, b))
    (no_becomes : symbol_taken symbol.Becomes b ≡ Ok (None, others)) where
  abbrev called : Lexeme → Reading Outline
  called n = actuals (expression_below levels) >>= (λ given. pure (form.procedure_call n given))

  abbrev behind : Lexeme → List Outline × Outline → Reading Outline
  behind n rows =
      on (symbol_taken symbol.Becomes) (λ place. expression levels >>= (λ value. pure (form.assignment n rows place value)))
      (if has_items rows.0 then refuse else called n)

  by_rows : Bool → Reading Outline
  by_rows some = if some then refuse else called name

  simple_is : (some : Bool) → has_items found.0 ≡ some → simple levels tokens ≡ by_rows some others
  unfolding simple by_rows
  simple_is some e =
      ap (λ o. and_then o (λ n. selectors (expression_below levels) >>= (λ rows. behind n rows))) begins
      ∙ ap (λ o. and_then o (behind name)) selected
      ∙ ap (λ o. and_then o (λ place. choose place (λ place. expression levels >>= (λ value. pure (form.assignment name found place value))) (if has_items
      found.0 then refuse else called name))) no_becomes
      ∙ ap (λ c. by_rows c others) e

  pub refused_behind : has_items found.0 ≡ true → simple levels tokens ≡ Err (NoProgram, others)
  unfolding by_rows
  refused_behind some = simple_is true some

  pub call_made : has_items found.0 ≡ false → (given : List Outline) (rest : List Token) → actuals (expression_below levels) others ≡ Ok (given, rest)
      → simple levels tokens ≡ Ok (form.procedure_call name given, rest)
  unfolding by_rows
  call_made none given rest e = simple_is false none ∙ ap (λ o. and_then o (λ given. pure (form.procedure_call name given))) e
