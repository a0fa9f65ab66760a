-- The definitions computed on small texts.
use Rattle.std.proofs.Common.{◌≡◌, [], ◌∷◌, Ok, Err, codes, refl, inr, lit≤}
use Rattle.lexer.specs.declared.fault.LexFault.TheVariants as fault
use Rattle.lexer.specs.declared.token.Kind.TheVariants as kind
use Rattle.lexer.specs.declared.token.Symbol.TheVariants as symbol
use Rattle.lexer.specs.declared.token.Word.TheVariants as word
use Rattle.lexer.specs.declared.piece.Piece.TheVariants as piece
use Rattle.lexer.specs.declared.piece.Refusal.TheVariants as refusal
use Rattle.lexer.specs.Piece.{piece_at}
use Rattle.lexer.specs.Spelling.{symbol_of, word_of}
use Rattle.lexer.specs.Shape.{shape_of}
use Rattle.lexer.specs.Tokens.{IsTokenList, IsFirstFault}

a_number_takes_no_point : piece_at (codes "1..2") ≡ Ok (piece.Token (kind.Number 1), 1)
unfolding piece_at shape_of symbol_of word_of
a_number_takes_no_point = refl

either_mark_closes : piece_at (codes "(*}") ≡ Ok (piece.Separator, 3)
unfolding piece_at shape_of symbol_of word_of
either_mark_closes = refl

either_mark_closes_a_brace : piece_at (codes "{*)") ≡ Ok (piece.Separator, 3)
unfolding piece_at shape_of symbol_of word_of
either_mark_closes_a_brace = refl

a_mark_doesnt_close_itself : piece_at (codes "(*)") ≡ Err refusal.OpenComment
unfolding piece_at shape_of symbol_of word_of
a_mark_doesnt_close_itself = refl

comments_dont_nest : piece_at (codes "{{}}") ≡ Ok (piece.Separator, 3)
unfolding piece_at shape_of symbol_of word_of
comments_dont_nest = refl

two_apostrophes_are_one : piece_at (codes "'a''b'") ≡ Ok (piece.Token kind.Text, 6)
unfolding piece_at shape_of symbol_of word_of
two_apostrophes_are_one = refl

three_apostrophes_are_open : piece_at (codes "'''") ≡ Err refusal.OpenString
unfolding piece_at shape_of symbol_of word_of
three_apostrophes_are_open = refl

two_apostrophes_are_empty : piece_at (codes "'' ") ≡ Err refusal.EmptyString
unfolding piece_at shape_of symbol_of word_of
two_apostrophes_are_empty = refl

a_letter_touches : piece_at (codes "10div") ≡ Err refusal.TouchingLetter
unfolding piece_at shape_of symbol_of word_of
a_letter_touches = refl

a_large_number_before_a_letter : piece_at (codes "99999999999a") ≡ Err refusal.LargeNumber
unfolding piece_at shape_of symbol_of word_of
a_large_number_before_a_letter = refl

a_bracket_before_a_point : piece_at (codes "(..") ≡ Ok (piece.Token (kind.Symbol symbol.OpenBracket), 2)
unfolding piece_at shape_of symbol_of word_of
a_bracket_before_a_point = refl

a_range_before_a_bracket : piece_at (codes "..)") ≡ Ok (piece.Token (kind.Symbol symbol.Range), 2)
unfolding piece_at shape_of symbol_of word_of
a_range_before_a_bracket = refl

case_doesnt_matter : piece_at (codes "DIV") ≡ Ok (piece.Token (kind.Word word.Div), 3)
unfolding piece_at shape_of symbol_of word_of
case_doesnt_matter = refl

no_token : piece_at (codes "_a") ≡ Err refusal.UnknownByte
unfolding piece_at shape_of symbol_of word_of
no_token = refl

a_line_end_opens_a_string : piece_at (39 ∷ 97 ∷ 10 ∷ 39 ∷ []) ≡ Err refusal.OpenString
unfolding piece_at shape_of symbol_of word_of
a_line_end_opens_a_string = refl

a_carriage_return_is_no_character : piece_at (39 ∷ 97 ∷ 13 ∷ 39 ∷ []) ≡ Err (refusal.StringByte 2)
unfolding piece_at shape_of symbol_of word_of
a_carriage_return_is_no_character = refl

-- `1..2` is three tokens
a_range_of_numbers : IsTokenList (codes "1..2")
    (record { kind = kind.Number 1; text = codes "1"; place = record { line = 1; column = 1 } }
    ∷ record { kind = kind.Symbol symbol.Range; text = codes ".."; place = record { line = 1; column = 2 } }
    ∷ record { kind = kind.Number 2; text = codes "2"; place = record { line = 1; column = 4 } } ∷ [])
unfolding piece_at shape_of symbol_of word_of
a_range_of_numbers = (
  lit≤ tt,
  (piece.Token (kind.Number 1), 1) ∷ (piece.Token (kind.Symbol symbol.Range), 2) ∷ (piece.Token (kind.Number 2), 1) ∷ [],
  (refl, (refl, (refl, refl))),
  refl,
)

-- `a.)` is a name and a bracket
a_name_and_a_bracket : IsTokenList (codes "a.)")
    (record { kind = kind.Identifier; text = codes "a"; place = record { line = 1; column = 1 } }
    ∷ record { kind = kind.Symbol symbol.CloseBracket; text = codes ".)"; place = record { line = 1; column = 2 } } ∷ [])
unfolding piece_at shape_of symbol_of word_of
a_name_and_a_bracket =
    (lit≤ tt, (piece.Token kind.Identifier, 1) ∷ (piece.Token (kind.Symbol symbol.CloseBracket), 2) ∷ [], (refl, (refl, refl)), refl)

-- of a name, a line end and a string with a carriage return the fault is at the carriage return
the_place_of_a_carriage_return : IsFirstFault (97 ∷ 10 ∷ 39 ∷ 13 ∷ 39 ∷ []) (fault.StringByte (record { line = 2; column = 2 }))
unfolding piece_at shape_of symbol_of word_of
the_place_of_a_carriage_return =
    inr (
      lit≤ tt,
      (
        (piece.Token kind.Identifier, 1) ∷ (piece.Separator, 1) ∷ [],
        39 ∷ 13 ∷ 39 ∷ [],
        (refl, (refl, refl)),
        (λ e. cc),
        refusal.StringByte 1,
        refl,
        refl,
      ),
    )
