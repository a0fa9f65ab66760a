-- What a text begins with: a separator or a token, as long as can be, or else a fault (ISO 7185:1990, 6.1).
-- Digits never take a point, as numbers with a fraction are no part of the language.
-- This doesn't say where in a whole text a piece stands.
use Rattle.std.specs.Prelude.{ℕ, zero, suc, ◌+◌, ◌-◌, ◌*◌, List, [], ◌∷◌, length, take, drop, fold, position, Bool}
use Rattle.std.specs.Prelude.{false, not, ◌==◌, nat_lt, Option, Some, None, Result, Ok, Err, codes, if◌then◌else◌}
use Rattle.std.specs.Option.{option_map, option_or, option_map_or}
use Rattle.std.specs.Char.{is_ascii_alphabetic}
use Rattle.std.specs.Int.{is_in_range}
use Rattle.lexer.specs.declared.piece.Piece.{Piece}
use Rattle.lexer.specs.declared.piece.Piece.TheVariants as piece
use Rattle.lexer.specs.declared.piece.Refusal.{Refusal}
use Rattle.lexer.specs.declared.piece.Refusal.TheVariants.{UnknownByte, OpenComment, OpenString, EmptyString}
use Rattle.lexer.specs.declared.piece.Refusal.TheVariants.{LargeNumber, TouchingLetter, StringByte}
use Rattle.lexer.specs.declared.token.Kind.{Kind}
use Rattle.lexer.specs.declared.token.Kind.TheVariants as kind
use Rattle.lexer.specs.Spelling.{word_of}
use Rattle.lexer.specs.Shape.{Shape, Separator, Letters, Digits, Quoted, Mark, shape_of, opens_comment, begins}

-- the greatest length, up to a bound, of a front of the text that has a shape, and that shape
abbrev pub longest : ℕ → List ℕ → Option (ℕ × Shape)
longest zero text = None
longest (suc n) text =
    option_or (option_map (λ s. (suc n, s)) (shape_of (take (suc n) text) (drop (suc n) text))) (longest n text)

-- the value of digits
abbrev pub value_of : List ℕ → ℕ
value_of digits = fold (λ value digit. value * 10 + (digit - 48)) 0 digits

-- the first byte that no string may have
abbrev pub bad_byte : List ℕ → Option ℕ
bad_byte string = position (λ b. not (is_in_range 32 126 b)) string

-- the first byte is a letter
abbrev pub begins_with_letter : List ℕ → Bool
begins_with_letter [] = false
begins_with_letter (b ∷ bs) = is_ascii_alphabetic b

-- the word symbol that letters spell, or else an identifier
abbrev pub kind_of : List ℕ → Kind
kind_of letters = option_map_or kind.Word (word_of letters) kind.Identifier

-- the piece that bytes of a shape are, of which others stand behind
abbrev pub piece_of : Shape → List ℕ → List ℕ → Result Piece Refusal
piece_of Separator bytes behind = Ok piece.Separator
piece_of Letters bytes behind = Ok (piece.Token (kind_of bytes))
piece_of Digits bytes behind =
    if nat_lt 2147483647 (value_of bytes) then Err LargeNumber
    else (if begins_with_letter behind then Err TouchingLetter
    else Ok (piece.Token (kind.Number (value_of bytes))))
piece_of Quoted bytes behind =
    if length bytes == 2 then Err EmptyString
    else option_map_or (λ offset. Err (StringByte offset)) (bad_byte bytes) (Ok (piece.Token kind.Text))
piece_of (Mark s) bytes behind = Ok (piece.Token (kind.Symbol s))

-- why no front of a text has a shape
abbrev pub shapeless : List ℕ → Refusal
shapeless text =
    if opens_comment text then OpenComment else (if begins (codes "'") text then OpenString else UnknownByte)

-- the same piece with its length
abbrev pub with_length : ℕ → Result Piece Refusal → Result (Piece × ℕ) Refusal
with_length n (Ok p) = Ok (p, n)
with_length n (Err why) = Err why

-- the piece that a text begins with, where this is its longest front with a shape
abbrev pub piece_from : List ℕ → Option (ℕ × Shape) → Result (Piece × ℕ) Refusal
piece_from text None = Err (shapeless text)
piece_from text (Some found) = with_length found.0 (piece_of found.1 (take found.0 text) (drop found.0 text))

-- the piece that a text begins with and its length, or why it begins with none
unfoldable pub piece_at : List ℕ → Result (Piece × ℕ) Refusal
piece_at text = piece_from text (longest (length text) text)

-- the piece that a text begins with, where this is how far the string that opens there goes, if it closes
abbrev pub string_piece : List ℕ → Option ℕ → Result (Piece × ℕ) Refusal
string_piece text None = Err OpenString
string_piece text (Some n) = with_length n (piece_of Quoted (take n text) (drop n text))

-- how many bytes of the text stand before the fault
abbrev pub offset_of : Refusal → ℕ
offset_of (StringByte offset) = offset
offset_of _ = 0
