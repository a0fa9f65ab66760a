-- The word symbols and the special symbols with their spellings: ISO 7185:1990, 6.1.2, and 6.1.9 for the
-- second spellings `(.`, `.)` and `@`. The case of letters doesn't matter in a word symbol (6.1.1).
-- This doesn't say where in a text a symbol stands.
use Rattle.std.specs.Prelude.{ℕ, List, [], ◌∷◌, map, Option, Some, None, codes, if◌then◌else◌}
use Rattle.std.specs.Borrow.{Bor}
use Rattle.std.specs.Option.{option_map, option_or}
use Rattle.std.specs.Char.{to_ascii_lowercase}
use Rattle.std.specs.Str.{bytes_eq}
use Rattle.lexer.specs.declared.token.Word.{Word}
use Rattle.lexer.specs.declared.token.Word.TheVariants as word
use Rattle.lexer.specs.declared.token.Symbol.{Symbol}
use Rattle.lexer.specs.declared.token.Symbol.TheVariants as symbol

-- the word symbols, in small letters
abbrev pub word_table : List (List ℕ × Word)
word_table =
    (codes "and", word.And) ∷ (codes "array", word.Array) ∷ (codes "begin", word.Begin) ∷ (codes "case", word.Case) ∷
    (codes "const", word.Const) ∷ (codes "div", word.Div) ∷ (codes "do", word.Do) ∷ (codes "downto", word.Downto) ∷
    (codes "else", word.Else) ∷ (codes "end", word.End) ∷ (codes "file", word.File) ∷ (codes "for", word.For) ∷
    (codes "function", word.Function) ∷ (codes "goto", word.Goto) ∷ (codes "if", word.If) ∷ (codes "in", word.In) ∷
    (codes "label", word.Label) ∷ (codes "mod", word.Mod) ∷ (codes "nil", word.Nil) ∷ (codes "not", word.Not) ∷
    (codes "of", word.Of) ∷ (codes "or", word.Or) ∷ (codes "packed", word.Packed) ∷
    (codes "procedure", word.Procedure) ∷ (codes "program", word.Program) ∷ (codes "record", word.Record) ∷
    (codes "repeat", word.Repeat) ∷ (codes "set", word.Set) ∷ (codes "then", word.Then) ∷ (codes "to", word.To) ∷
    (codes "type", word.Type) ∷ (codes "until", word.Until) ∷ (codes "var", word.Var) ∷ (codes "while", word.While) ∷
    (codes "with", word.With) ∷ []

-- the special symbols
abbrev pub symbol_table : List (List ℕ × Symbol)
symbol_table =
    (codes "+", symbol.Plus) ∷ (codes "-", symbol.Minus) ∷ (codes "*", symbol.Times) ∷ (codes "/", symbol.Slash) ∷
    (codes "=", symbol.Equal) ∷ (codes "<", symbol.Less) ∷ (codes ">", symbol.Greater) ∷
    (codes "[", symbol.OpenBracket) ∷ (codes "]", symbol.CloseBracket) ∷ (codes ".", symbol.Period) ∷
    (codes ",", symbol.Comma) ∷ (codes ":", symbol.Colon) ∷ (codes ";", symbol.Semicolon) ∷
    (codes "^", symbol.Arrow) ∷ (codes "(", symbol.OpenParenthesis) ∷ (codes ")", symbol.CloseParenthesis) ∷
    (codes "<>", symbol.NotEqual) ∷ (codes "<=", symbol.LessOrEqual) ∷ (codes ">=", symbol.GreaterOrEqual) ∷
    (codes ":=", symbol.Becomes) ∷ (codes "..", symbol.Range) ∷ (codes "(.", symbol.OpenBracket) ∷
    (codes ".)", symbol.CloseBracket) ∷ (codes "@", symbol.Arrow) ∷ []

-- what a table has under a spelling
abbrev pub entry : {A : Type 0} → List (List ℕ × A) → List ℕ → Option A
entry [] spelling = None
entry (row ∷ rows) spelling = if bytes_eq row.0 spelling then Some row.1 else entry rows spelling

-- a table of a program, with its spellings in small letters
abbrev pub in_small_letters : List (Bor (List ℕ) × Word) → List (List ℕ × Word)
in_small_letters table = map (λ row. (map to_ascii_lowercase row.0.now, row.1)) table

-- the word symbol that letters spell
unfoldable pub word_of : List ℕ → Option Word
word_of letters = entry word_table (map to_ascii_lowercase letters)

-- the special symbol that bytes spell
unfoldable pub symbol_of : List ℕ → Option Symbol
symbol_of bytes = entry symbol_table bytes

-- the special symbol that a text begins with, of two bytes or else of one, and its length
abbrev pub symbol_at : List ℕ → Option (Symbol × ℕ)
symbol_at [] = None
symbol_at (b ∷ []) = option_map (λ s. (s, 1)) (symbol_of (b ∷ []))
symbol_at (b ∷ c ∷ bs) =
    option_or (option_map (λ s. (s, 2)) (symbol_of (b ∷ c ∷ []))) (option_map (λ s. (s, 1)) (symbol_of (b ∷ [])))
