use Rattle.std.proofs.Common.{◌≡◌, ◌-◌, ◌≤◌, length, drop}
use Rattle.lexer.proofs.Ends.{shifted}
use Rattle.lexer.proofs.Strings.{string_end}
use Rattle.lexer.proofs.piece.string_length.Given as goal

abbrev pub invariant-loop-at : goal.invariant-loop-at
invariant-loop-at l = (1 ≤ l.at) × (shifted l.at (string_end (drop l.at l.text)) ≡ shifted 1 (string_end (drop 1 l.text)))

abbrev pub decreases-loop-at : goal.decreases-loop-at
decreases-loop-at l = length l.text - l.at
