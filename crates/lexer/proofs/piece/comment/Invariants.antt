use Rattle.std.proofs.Common.{◌≡◌, drop}
use Rattle.lexer.proofs.Ends.{shifted}
use Rattle.lexer.proofs.Comments.{comment_end}
use Rattle.lexer.proofs.piece.comment.Given as goal

abbrev pub invariant-loop-at : goal.invariant-loop-at
invariant-loop-at l = shifted l.at (comment_end (drop l.at l.text)) ≡ shifted l.opening (comment_end (drop l.opening l.text))
