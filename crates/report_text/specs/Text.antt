-- The lines that the programs print for an open site, a fault and a stop, each with its line end, and the status that
-- a program ends with. It says nothing of which of them comes.
use Rattle.std.specs.Prelude.{ℕ, List, [], ◌∷◌, ◌++◌, Option, Some, None, decimal, codes}
use Rattle.place.specs.declared.Place.{Place}
use Rattle.lexer.specs.LexFault as lex
use Rattle.token_cursor.specs.ParseFault as parse
use Rattle.typed_tree.specs.declared.fault.TypeFault.{TypeFault}
use Rattle.typed_tree.specs.Faults.{code_of, place_of_fault}
use Rattle.typed_tree.specs.declared.site.Site.{Site}
use Rattle.typed_tree.specs.declared.site.SiteKind.{SiteKind}
use Rattle.typed_tree.specs.Sites.{name_of, kind_of}
use Rattle.certificate.specs.declared.fault.ReadFault.{ReadFault}
use Rattle.certificate.specs.Faults.{line_of}
use Rattle.certificate.specs.Faults as read
use Rattle.checker_expressions.specs.declared.fault.CheckFault.{CheckFault}
use Rattle.checker_expressions.specs.declared.fault.CheckFault.TheVariants as check
use Rattle.checker_expressions.specs.Rules as rule
use Rattle.pcode_assembler.specs.declared.fault.AsmFault.{AsmFault}
use Rattle.pcode_assembler.specs.declared.fault.AsmFault.TheVariants as assemble
use Rattle.pcode_assembler.specs.Faults as asm
use Rattle.code_generator.specs.declared.fault.GenFault.{GenFault}
use Rattle.code_generator.specs.declared.fault.GenFault.TheVariants as generate
use Rattle.stack_machine.specs.declared.stop.Stop.{Stop}
use Rattle.stack_machine.specs.declared.stop.Stop.TheVariants as stop
use Rattle.text_input.specs.declared.InputFault.{InputFault}
use Rattle.text_input.specs.declared.InputFault.TheVariants as input
use Rattle.stack_machine.specs.declared.stop.MachineFault.{MachineFault}
use Rattle.stack_machine.specs.declared.stop.MachineFault.TheVariants as machine
use Rattle.report_text.specs.declared.fault.Fault.{Fault}
use Rattle.report_text.specs.declared.fault.Fault.TheVariants as fault
use Rattle.report_text.specs.declared.text.RuleCode.{RuleCode}
use Rattle.report_text.specs.declared.text.Refusal.{Refusal}
use Rattle.report_text.specs.declared.text.Refusal.TheVariants.{Memory, At, Certificate, Claim, Claims, Code, Whole}

-- how many digits a number of 64 bits has at most, and how long the name of an error or a fault is
abbrev pub number_size : ℕ
number_size = 20

abbrev pub name_size : ℕ
name_size = 22

-- `LINE:COLUMN`
abbrev pub place_text : ℕ → ℕ → List ℕ
place_text line column = decimal line ++ codes ":" ++ decimal column

-- one line for an open site
abbrev pub open_line : Site → List ℕ
open_line site =
    place_text site.place.line site.place.column ++ codes ": possible error: " ++ name_of site.kind ++ 10 ∷ []

-- the letters of the rules: L of tokens, P of syntax, F of the text of a certificate, C of its claims, K of a program
-- that the checker has no numbers for, G of the code, A of its text; those of names and types tell their own
abbrev pub letter_l : ℕ
letter_l = 76

abbrev pub letter_p : ℕ
letter_p = 80

abbrev pub letter_f : ℕ
letter_f = 70

abbrev pub letter_c : ℕ
letter_c = 67

abbrev pub letter_k : ℕ
letter_k = 75

abbrev pub letter_g : ℕ
letter_g = 71

abbrev pub letter_a : ℕ
letter_a = 65

-- a letter and a number
abbrev pub code_text : RuleCode → List ℕ
code_text code = code.letter ∷ [] ++ decimal code.number

-- a rule at a place; want of memory, where there is none
abbrev pub at_or_memory : Option Place → ℕ → ℕ → Refusal
at_or_memory None letter number = Memory
at_or_memory (Some place) letter number = At place (record { letter = letter; number = number })

abbrev pub typing_refusal : TypeFault → Refusal
typing_refusal fault = at_or_memory (place_of_fault fault) (code_of fault).0 (code_of fault).1

-- a rule at a line of the certificate
abbrev pub at_line_or_memory : Option ℕ → ℕ → Refusal
at_line_or_memory None number = Memory
at_line_or_memory (Some line) number = Certificate line (record { letter = letter_f; number = number })

abbrev pub certificate_refusal : ReadFault → Refusal
certificate_refusal fault = at_line_or_memory (line_of fault) (read.code_of fault)

abbrev pub checker_refusal : CheckFault → Refusal
checker_refusal (check.Memory _) = Memory
checker_refusal check.TooLarge = Whole (record { letter = letter_k; number = 10 })
checker_refusal check.Foreign = Claims (record { letter = letter_c; number = 1 })
checker_refusal (check.Broken broken place) =
    Claim place (record { letter = letter_c; number = rule.code_of broken })

abbrev pub generator_refusal : GenFault → Refusal
generator_refusal (generate.Memory _) = Memory
generator_refusal generate.TooLarge = Whole (record { letter = letter_g; number = 1 })

-- a rule at a line of the text of a code
abbrev pub assembler_refusal : AsmFault → Refusal
assembler_refusal (assemble.Memory _) = Memory
assembler_refusal (assemble.Refused rule line) =
    Code line (record { letter = letter_a; number = asm.code_of rule })

-- what a fault says
abbrev pub refusal_of : Fault → Refusal
refusal_of (fault.Memory _) = Memory
refusal_of (fault.Lex f) = at_or_memory (lex.place_of_fault f) letter_l (lex.code_of f)
refusal_of (fault.Parse f) = at_or_memory (parse.place_of_fault f) letter_p (parse.code_of f)
refusal_of (fault.Typing f) = typing_refusal f
refusal_of (fault.Certificate f) = certificate_refusal f
refusal_of (fault.Check f) = checker_refusal f
refusal_of (fault.Generate f) = generator_refusal f
refusal_of (fault.Code f) = assembler_refusal f

-- of which text, its line and the rule
abbrev pub line_refusal : List ℕ → ℕ → RuleCode → List ℕ
line_refusal text line code = text ++ decimal line ++ codes ": refused " ++ code_text code ++ 10 ∷ []

-- the line of a refusal
abbrev pub refusal_line : Refusal → List ℕ
refusal_line Memory = codes "no memory\n"
refusal_line (At place code) = place_text place.line place.column ++ codes ": refused " ++ code_text code ++ 10 ∷ []
refusal_line (Certificate line code) = line_refusal (codes "certificate:") line code
refusal_line (Claim place code) =
    place_text place.line place.column ++ codes ": certificate refused " ++ code_text code ++ 10 ∷ []
refusal_line (Claims code) = codes "certificate refused " ++ code_text code ++ 10 ∷ []
refusal_line (Whole code) = codes "refused " ++ code_text code ++ 10 ∷ []
refusal_line (Code line code) = line_refusal (codes "code:") line code

-- the status of a refusal: 3 for want of memory, 2 for all else
abbrev pub refusal_status : Refusal → ℕ
refusal_status Memory = 3
refusal_status (At place code) = 2
refusal_status (Certificate line code) = 2
refusal_status (Claim place code) = 2
refusal_status (Claims code) = 2
refusal_status (Whole code) = 2
refusal_status (Code line code) = 2

-- the name of an error by its number
abbrev pub kind_name : Option SiteKind → List ℕ
kind_name None = codes "unknown"
kind_name (Some kind) = name_of kind

abbrev pub error_name : ℕ → List ℕ
error_name kind = kind_name (kind_of kind)

-- the words for a fault of the input
abbrev pub input_name : InputFault → List ℕ
input_name input.EndOfInput = codes "end of input"
input_name input.NotANumber = codes "not a number"
input_name input.NumberTooLarge = codes "number too large"
input_name input.OutsideType = codes "value outside the type"
input_name input.NotACharacter = codes "not a character"

-- the code of a machine fault
abbrev pub machine_text : MachineFault → List ℕ
machine_text machine.Underflow = codes "M1"
machine_text machine.OutOfBounds = codes "M2"
machine_text machine.WrongKind = codes "M3"
machine_text machine.WrongDivisor = codes "M4"

-- one line for a stop, and none for a run that finished
abbrev pub stop_line : Stop → List ℕ
stop_line stop.Finished = []
stop_line (stop.Error site) = place_text site.line site.column ++ codes ": error: " ++ error_name site.kind ++ 10 ∷ []
stop_line (stop.Input point fault) =
    place_text point.line point.column ++ codes ": input: " ++ input_name fault ++ 10 ∷ []
stop_line stop.More = codes "budget used up\n"
stop_line stop.StoreFull = codes "store full\n"
stop_line (stop.Fault fault) = codes "machine fault " ++ machine_text fault ++ 10 ∷ []
stop_line stop.ReadFailed = codes "read failed\n"
stop_line stop.WriteFailed = codes "write failed\n"

-- the status of a stop
abbrev pub stop_status : Stop → ℕ
stop_status stop.Finished = 0
stop_status (stop.Error site) = 4
stop_status (stop.Input point fault) = 5
stop_status stop.More = 3
stop_status stop.StoreFull = 6
stop_status (stop.Fault fault) = 7
stop_status stop.ReadFailed = 3
stop_status stop.WriteFailed = 3
