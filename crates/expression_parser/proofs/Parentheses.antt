-- An expression in parentheses, as it is built of what was read between them.
use Rattle.std.proofs.Common.{◌≡◌, List, Some, Ok, Err, refl, ap, sym, ◌∙◌}
use Rattle.place.specs.declared.Place.{Place}
use Rattle.lexer.specs.declared.token.Kind.{Kind}
use Rattle.lexer.specs.declared.token.Kind.TheVariants as kind
use Rattle.lexer.specs.declared.token.Symbol.TheVariants as symbol
use Rattle.lexer.specs.declared.token.Token.{Token}
use Rattle.reading.specs.Outline as form
use Rattle.reading.specs.Outline.{Outline}
use Rattle.reading.specs.Reading.{Outcome, and_then, ◌>>=◌, ◌>>◌, pure, expect, expect_symbol}
use Rattle.reading.specs.Expressions.{Below, parenthesized}

-- a form is built of what was read, or behind the token that follows: that is the same
module _ (k : Kind) (build : Outline → Outline) where
  behind_token : (o : Outline) (next : Outcome Place)
      → and_then (and_then next (λ _. pure o)) (λ x. pure (build x)) ≡ and_then next (λ _. pure (build o))
  behind_token o (Ok place) = refl
  behind_token o (Err stop) = refl

  built_behind : (o : Outcome Outline)
      → and_then (and_then o (λ x. expect k >> pure x)) (λ x. pure (build x)) ≡ and_then o (λ x. expect k >> pure (build x))
  built_behind (Ok made) = behind_token made.0 (expect k made.1)
  built_behind (Err stop) = refl

module _ (inner : Below) (tokens behind : List Token) (place : Place) (open1 : expect_symbol symbol.OpenParenthesis tokens ≡ Ok (place, behind)) where
  pub parenthesized_is : parenthesized inner tokens
      ≡ and_then (and_then (inner (Some place) behind) (λ x. expect (kind.Symbol symbol.CloseParenthesis) >> pure x)) (λ x. pure (form.parenthesized place x))
  unfolding parenthesized
  parenthesized_is =
      ap (λ o. and_then o (λ place. inner (Some place) >>= (λ e. expect_symbol symbol.CloseParenthesis >> pure (form.parenthesized place e)))) open1
      ∙ sym (built_behind (kind.Symbol symbol.CloseParenthesis) (form.parenthesized place) (inner (Some place) behind))
