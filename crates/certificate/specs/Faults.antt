-- The numbers and the lines of the faults of a certificate's text, F1 to F5. It doesn't say which text has which fault.
use Rattle.std.specs.Prelude.{ℕ, Option, Some, None}
use Rattle.certificate.specs.declared.fault.ReadFault.{ReadFault}
use Rattle.certificate.specs.declared.fault.ReadFault.TheVariants.{Memory, FirstLine, NotInGrammar, OutOfOrder}
use Rattle.certificate.specs.declared.fault.ReadFault.TheVariants.{OutOfRange, Unended}

-- the number of a fault behind the letter F, and 0 for want of memory
abbrev pub code_of : ReadFault → ℕ
code_of (Memory _) = 0
code_of (FirstLine line) = 1
code_of (NotInGrammar line) = 2
code_of (OutOfOrder line) = 3
code_of (OutOfRange line) = 4
code_of (Unended line) = 5

-- the line of a fault
abbrev pub line_of : ReadFault → Option ℕ
line_of (Memory _) = None
line_of (FirstLine line) = Some line
line_of (NotInGrammar line) = Some line
line_of (OutOfOrder line) = Some line
line_of (OutOfRange line) = Some line
line_of (Unended line) = Some line
