use Rattle.std.proofs.Common.{◌≡◌, drop}
use Rattle.token_cursor.specs.LeftOut.{first_left_out}
use Rattle.token_cursor.proofs.left_out.first_left_out.Given as goal

abbrev pub invariant-loop-token : goal.invariant-loop-token
invariant-loop-token l = first_left_out (drop l.token-index l.tokens) ≡ first_left_out l.tokens
