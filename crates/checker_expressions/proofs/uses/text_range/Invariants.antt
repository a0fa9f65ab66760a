use Rattle.std.proofs.Common.{◌≡◌, drop}
use Rattle.checker_expressions.specs.Walk.{text_range}
use Rattle.checker_expressions.proofs.uses.text_range.Given as goal

-- the characters from the last one down
abbrev pub invariant-loop-i : goal.invariant-loop-i
invariant-loop-i l = l.range ≡ text_range (drop l.i l.characters)
