-- The words and symbols that open a level of nesting, and what stands up to the place of a fault that tells of nesting.
-- This doesn't say how deep a tree nests: see Outline.
use Rattle.std.specs.Prelude.{◌≡◌, ℕ, ◌+◌, ◌≤◌, List, [], ◌∷◌, ◌++◌, Option, Some, None}
use Rattle.place.specs.declared.Place.{Place}
use Rattle.lexer.specs.declared.token.Kind.{Kind}
use Rattle.lexer.specs.declared.token.Kind.TheVariants as kind
use Rattle.lexer.specs.declared.token.Symbol.TheVariants as symbol
use Rattle.lexer.specs.declared.token.Word.TheVariants as word
use Rattle.lexer.specs.declared.token.Token.{Token}

-- how many levels a token of this kind opens: `procedure`, `function`, `begin`, `if`, `while`, `repeat`, `for`, `case`,
-- `with`, `array`, `record`, `set`, `not`, the opening parenthesis and the opening bracket open one
abbrev pub opens : Kind → ℕ
opens (kind.Word word.Procedure) = 1
opens (kind.Word word.Function) = 1
opens (kind.Word word.Begin) = 1
opens (kind.Word word.If) = 1
opens (kind.Word word.While) = 1
opens (kind.Word word.Repeat) = 1
opens (kind.Word word.For) = 1
opens (kind.Word word.Case) = 1
opens (kind.Word word.With) = 1
opens (kind.Word word.Array) = 1
opens (kind.Word word.Record) = 1
opens (kind.Word word.Set) = 1
opens (kind.Word word.Not) = 1
opens (kind.Symbol symbol.OpenParenthesis) = 1
opens (kind.Symbol symbol.OpenBracket) = 1
opens _ = 0

-- how many levels tokens open
abbrev pub opened : List Token → ℕ
opened [] = 0
opened (token ∷ others) = opens token.kind + opened others

-- the place of the last of some tokens, or of the first of those behind them; the end, which has none, where none
-- stands behind
pub data StandsBetween (place : Option Place) (before behind : List Token) : Type 0 where
  last : (front : List Token) (token : Token)
      → before ≡ front ++ token ∷ [] → Some token.place ≡ place → StandsBetween place before behind
  next : (token : Token) (others : List Token)
      → behind ≡ token ∷ others → Some token.place ≡ place → StandsBetween place before behind
  end : behind ≡ [] → place ≡ None → StandsBetween place before behind

-- the tokens up to this place, or up to the end where there is none, open at least so many levels
pub record OpensUpTo (least : ℕ) (place : Option Place) (tokens : List Token) : Type 0 where
  pub before : List Token
  pub behind : List Token
  pub are : tokens ≡ before ++ behind
  pub many : least ≤ opened before
  pub stands : StandsBetween place before behind
