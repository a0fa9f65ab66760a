-- The tokens of a text, and its first fault (ISO 7185:1990, 6.1). A text is a row of separators and tokens,
-- each of its class and as long as can be.
-- This doesn't say what the tokens mean together: that is syntax.
use Rattle.std.specs.Prelude.{◌≡◌, ◌≢◌, ℕ, ◌+◌, ◌-◌, ◌<◌, ◌≤◌, List, [], ◌∷◌, ◌++◌, length, take, drop, Ok, Err, ◌⊎◌}
use Rattle.place.specs.declared.Place.{Place}
use Rattle.lexer.specs.declared.token.Kind.{Kind}
use Rattle.lexer.specs.declared.token.Token.{Token}
use Rattle.lexer.specs.declared.piece.Piece.{Piece}
use Rattle.lexer.specs.declared.piece.Piece.TheVariants as piece
use Rattle.lexer.specs.declared.piece.Refusal.{Refusal}
use Rattle.lexer.specs.declared.piece.Refusal.TheVariants as refusal
use Rattle.lexer.specs.declared.fault.LexFault.{LexFault}
use Rattle.lexer.specs.declared.fault.LexFault.TheVariants as fault
use Rattle.place.specs.Place.{start, place_of, place_after}
use Rattle.lexer.specs.Piece.{piece_at, offset_of}

-- the most bytes that a text may have
abbrev pub most : ℕ
most = 1048576

-- a token: its class, its bytes and the place of the first
pub record Lexeme : Type 0 where
  pub kind : Kind
  pub text : List ℕ
  pub place : Place

-- a token as a program keeps it
abbrev pub lexeme_of : Token → Lexeme
lexeme_of t = record { kind = t.kind; text = t.text.now; place = t.place }

-- a text begins with these pieces, and then the rest is left
abbrev pub TokensLeave : List ℕ → List (Piece × ℕ) → List ℕ → Type 0
TokensLeave text [] rest = text ≡ rest
TokensLeave text (p ∷ ps) rest = (piece_at text ≡ Ok p) × TokensLeave (drop p.1 text) ps rest

-- the token that a piece is, if it is one
abbrev pub lexemes_of : Piece → List ℕ → Place → List Lexeme
lexemes_of piece.Separator bytes place = []
lexemes_of (piece.Token k) bytes place = record { kind = k; text = bytes; place = place } ∷ []

-- the tokens among pieces of a text that begins at a place
abbrev pub lexemes : Place → List ℕ → List (Piece × ℕ) → List Lexeme
lexemes place text [] = []
lexemes place text (p ∷ ps) =
    lexemes_of p.0 (take p.1 text) place ++ lexemes (place_after place (take p.1 text)) (drop p.1 text) ps

-- the text is a row of pieces, and these are the tokens among them
abbrev pub IsTokenList : List ℕ → List Lexeme → Type 0
IsTokenList text list =
    (length text ≤ most) × (pieces : List (Piece × ℕ)) × TokensLeave text pieces [] × (list ≡ lexemes start text pieces)

-- a refusal as a fault of the whole text, at its place
abbrev pub fault_of : Refusal → Place → LexFault
fault_of refusal.UnknownByte place = fault.UnknownByte place
fault_of refusal.OpenComment place = fault.OpenComment place
fault_of refusal.OpenString place = fault.OpenString place
fault_of refusal.EmptyString place = fault.EmptyString place
fault_of refusal.LargeNumber place = fault.LargeNumber place
fault_of refusal.TouchingLetter place = fault.TouchingLetter place
fault_of (refusal.StringByte offset) place = fault.StringByte place

-- Pieces leave a rest that begins with none: the fault of the rest is the text's first. It stands past all bytes
-- before the rest and past those of the rest that stand before it.
abbrev pub StopsAt : List ℕ → LexFault → Type 0
StopsAt text found =
    (pieces : List (Piece × ℕ)) × (rest : List ℕ) × TokensLeave text pieces rest × (rest ≢ []) × (why : Refusal)
    × (piece_at rest ≡ Err why)
    × (found ≡ fault_of why (place_of (take (length text - length rest + offset_of why) text)))

-- the first fault of a text: that it is too long is told before all others
abbrev pub IsFirstFault : List ℕ → LexFault → Type 0
IsFirstFault text found =
    ((most < length text) × (found ≡ fault.LongText start)) ⊎ ((length text ≤ most) × StopsAt text found)
