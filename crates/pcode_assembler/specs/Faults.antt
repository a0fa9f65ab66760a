-- The numbers of the rules of a code's text, A1 to A6. It doesn't say which text breaks which rule.
use Rattle.std.specs.Prelude.{ℕ, Bool, Option, Some, None, if◌then◌else◌}
use Rattle.pcode_assembler.specs.declared.fault.AsmRule.{AsmRule}
use Rattle.pcode_assembler.specs.declared.fault.AsmRule.TheVariants as rule

-- the number of a rule behind the letter A
abbrev pub code_of : AsmRule → ℕ
code_of rule.UnknownLine = 1
code_of rule.Operand = 2
code_of rule.Target = 3
code_of rule.LabelTwice = 4
code_of rule.TooMany = 5
code_of rule.CutOff = 6

-- a rule, unless it is kept
abbrev pub unless : AsmRule → Bool → Option AsmRule
unless broken is_kept = if is_kept then None else Some broken
