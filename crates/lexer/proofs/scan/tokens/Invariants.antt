use Rattle.std.proofs.Common.{◌≡◌, ℕ, ◌+◌, ◌≤◌, List, length, map}
use Rattle.lexer.specs.declared.piece.Piece.{Piece}
use Rattle.place.specs.Place.{start}
use Rattle.lexer.specs.Tokens.{TokensLeave, lexemes, lexeme_of}
use Rattle.lexer.proofs.Rows.{place_behind}
use Rattle.lexer.proofs.scan.tokens.Given as goal

abbrev pub invariant-loop-rest : goal.invariant-loop-rest
invariant-loop-rest l =
    (l.place.line + length l.rest ≤ 1048577) × (l.place.column + length l.rest ≤ 1048577)
    × (pieces : List (Piece × ℕ)) × TokensLeave l.fn.text pieces l.rest × (map lexeme_of l.tokens.items ≡ lexemes start l.fn.text pieces) ×
    (l.place ≡ place_behind start l.fn.text pieces)

abbrev pub decreases-loop-rest : goal.decreases-loop-rest
decreases-loop-rest l = length l.rest
