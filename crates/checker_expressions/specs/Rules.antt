-- The numbers of the rules on what a certificate claims, C2 to C7. It doesn't say which certificate breaks which rule.
use Rattle.std.specs.Prelude.{ℕ}
use Rattle.checker_expressions.specs.declared.fault.Rule.{Rule}
use Rattle.checker_expressions.specs.declared.fault.Rule.TheVariants.{LoopEntry, LoopTurn, Exit, CallEntry, Aliases}
use Rattle.checker_expressions.specs.declared.fault.Rule.TheVariants.{Changes}

-- the number of a rule behind the letter C
abbrev pub code_of : Rule → ℕ
code_of LoopEntry = 2
code_of LoopTurn = 3
code_of Exit = 4
code_of CallEntry = 5
code_of Aliases = 6
code_of Changes = 7
