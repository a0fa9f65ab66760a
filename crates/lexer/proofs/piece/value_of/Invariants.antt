use Rattle.std.proofs.Common.{◌≡◌, ◌≤◌, take}
use Rattle.lexer.specs.Piece.{value_of}
use Rattle.lexer.proofs.piece.value_of.Given as goal

abbrev pub invariant-loop-digit : goal.invariant-loop-digit
invariant-loop-digit l = (l.value ≤ 2147483647) × (l.value ≡ value_of (take l.digit-index l.digits))
