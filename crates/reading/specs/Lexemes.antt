-- What a syntax tree says of the tokens that spell it. A tree keeps its parentheses, so each tree has one spelling, but
-- for the capitals of `forward`.
-- This doesn't say what the forms are: see Outline.
use Rattle.std.specs.Prelude.{◌≡◌, ℕ, List, [], ◌∷◌, Option, Some, None, IfSome, map, codes}
use Rattle.std.specs.Char.{to_ascii_lowercase}
use Rattle.place.specs.declared.Place.{Place}
use Rattle.lexer.specs.declared.token.Kind.{Kind}
use Rattle.lexer.specs.declared.token.Kind.TheVariants as kind
use Rattle.lexer.specs.declared.token.Word.{Word}
use Rattle.lexer.specs.declared.token.Word.TheVariants as word
use Rattle.lexer.specs.declared.token.Symbol.{Symbol}
use Rattle.lexer.specs.declared.token.Symbol.TheVariants as symbol
use Rattle.lexer.specs.declared.token.Token.{Token}
use Rattle.syntax_tree.specs.declared.Name.{Name}
use Rattle.syntax_tree.specs.declared.Sign.{Sign}
use Rattle.syntax_tree.specs.declared.Sign.TheVariants as sign
use Rattle.syntax_tree.specs.declared.Direction.{Direction}
use Rattle.syntax_tree.specs.declared.Direction.TheVariants as direction
use Rattle.syntax_tree.specs.declared.Operator.{Operator}
use Rattle.syntax_tree.specs.declared.Operator.TheVariants as op
use Rattle.syntax_tree.specs.declared.RelationalOperator.{RelationalOperator}
use Rattle.syntax_tree.specs.declared.RelationalOperator.TheVariants as relational

-- what a tree says of a token: its kind, and where the tree keeps them its text, or its letters, small or capital, and
-- its place
pub record Lexeme : Type 0 where
  pub kind : Kind
  pub text : Option (List ℕ)
  pub letters : Option (List ℕ)
  pub place : Option Place

abbrev pub Spelling : Type 0
Spelling = List Lexeme

-- the token is this one
pub record IsSpelledBy (lexeme : Lexeme) (token : Token) : Type 0 where
  pub kind : token.kind ≡ lexeme.kind
  pub text : IfSome lexeme.text (λ text. token.text.now ≡ text)
  pub letters : IfSome lexeme.letters (λ letters. map to_ascii_lowercase token.text.now ≡ letters)
  pub place : IfSome lexeme.place (λ place. token.place ≡ place)

-- the tokens begin with the spelling, and then these are left
abbrev pub Reads : List Token → Spelling → List Token → Type 0
Reads tokens [] others = tokens ≡ others
Reads tokens (lexeme ∷ lexemes) others =
    (token : Token) × (behind : List Token) × (tokens ≡ token ∷ behind) × IsSpelledBy lexeme token
    × Reads behind lexemes others

-- the tokens are the spelling
abbrev pub Spells : List Token → Spelling → Type 0
Spells tokens spelling = Reads tokens spelling []

-- a token of which the tree keeps the kind alone, or the place too
abbrev pub of_kind : Kind → Lexeme
of_kind k = record { kind = k; text = None; letters = None; place = None }

abbrev pub of_kind_at : Kind → Place → Lexeme
of_kind_at k place = record { kind = k; text = None; letters = None; place = Some place }

abbrev pub word_at : Word → Place → Lexeme
word_at w = of_kind_at (kind.Word w)

abbrev pub symbol_at : Symbol → Place → Lexeme
symbol_at s = of_kind_at (kind.Symbol s)

-- an identifier (6.1.3), and a character string with its apostrophes (6.1.7), by their letters
abbrev pub of_text : Kind → List ℕ → Place → Lexeme
of_text k text place = record { kind = k; text = Some text; letters = None; place = Some place }

abbrev pub identifier : Name → Lexeme
identifier name = of_text kind.Identifier name.text.now name.place

abbrev pub character_string : List ℕ → Place → Lexeme
character_string = of_text kind.Text

-- the directive of a procedure or function whose block stands elsewhere (6.1.4, 6.6.1): an identifier of these letters
abbrev pub forward : Lexeme
forward = record { kind = kind.Identifier; text = None; letters = Some (codes "forward"); place = None }

-- the token of a sign
abbrev pub sign_kind : Sign → Kind
sign_kind sign.Plus = kind.Symbol symbol.Plus
sign_kind sign.Minus = kind.Symbol symbol.Minus

-- the token of an adding or multiplying operator (6.7.2.1)
abbrev pub operator_kind : Operator → Kind
operator_kind op.Plus = kind.Symbol symbol.Plus
operator_kind op.Minus = kind.Symbol symbol.Minus
operator_kind op.Or = kind.Word word.Or
operator_kind op.Times = kind.Symbol symbol.Times
operator_kind op.Div = kind.Word word.Div
operator_kind op.Mod = kind.Word word.Mod
operator_kind op.And = kind.Word word.And

-- the token of a relational operator (6.7.2.1)
abbrev pub relational_kind : RelationalOperator → Kind
relational_kind relational.Equal = kind.Symbol symbol.Equal
relational_kind relational.NotEqual = kind.Symbol symbol.NotEqual
relational_kind relational.Less = kind.Symbol symbol.Less
relational_kind relational.Greater = kind.Symbol symbol.Greater
relational_kind relational.LessOrEqual = kind.Symbol symbol.LessOrEqual
relational_kind relational.GreaterOrEqual = kind.Symbol symbol.GreaterOrEqual
relational_kind relational.In = kind.Word word.In

-- the token of a direction (6.8.3.9)
abbrev pub direction_kind : Direction → Kind
direction_kind direction.To = kind.Word word.To
direction_kind direction.DownTo = kind.Word word.Downto
