-- What `pint` does, by its words: the text of a code is read and assembled, and the code is run. It does not say how
-- long that takes.
use Rattle.std.specs.Prelude.{◌≡◌, ℕ, true, List, Some, Result, Ok, Err}
use Rattle.clap.specs.Words.{Text}
use Rattle.command_line.specs.declared.pint.PintWords.{PintWords}
use Rattle.command_line.specs.declared.WordsFault.{WordsFault}
use Rattle.command_line.specs.Pint.{AreSaid}
use Rattle.command_line.specs.Pint as command
use Rattle.command_line.specs.Words.{IsWordsFault}
use Rattle.pcode_assembler.specs.declared.code.Code.{Code as CodeOf}
use Rattle.pcode_assembler.specs.Contents.{Says}
use Rattle.pcode_assembler.specs.Text.{first_fault}
use Rattle.report_text.specs.declared.fault.Fault.{Fault}
use Rattle.report_text.specs.declared.fault.Fault.TheVariants.{Code, Memory}
use Rattle.report_text.specs.Text.{refusal_line, refusal_of, refusal_status}
use Rattle.report.specs.Courses.{Course, ends_with, reads, runs, untaken}

-- why the text of a code is refused: its first faulty line, or for want of memory
abbrev pub IsCodeRefusal : List ℕ → Fault → Type 0
IsCodeRefusal text (Memory _) = Unit {0}
IsCodeRefusal text (Code fault) = first_fault text ≡ Some fault
IsCodeRefusal text _ = ⊥

-- a text is refused, and that is told; or the code that its lines say is run, behind a report that tells nothing
abbrev pub assembles_to : ℕ → List ℕ → Result CodeOf Fault → Course
assembles_to cells text (Err fault) acts answer =
    IsCodeRefusal text fault
    × ends_with (refusal_line (refusal_of fault)) (refusal_status (refusal_of fault)) acts answer
assembles_to cells text (Ok code) acts answer = Says text code × runs code cells true 0 acts answer

abbrev pub assembles : ℕ → List ℕ → Course
assembles cells text acts answer = (result : Result CodeOf Fault) × assembles_to cells text result acts answer

-- the text of the code is read
abbrev pub by_words : PintWords → Course
by_words words = reads words.code.now (assembles words.cells)

-- words that are taken say what is done; others get their answer
abbrev pub said : List Text → Result PintWords WordsFault → Course
said texts (Ok words) acts answer = AreSaid texts words × by_words words acts answer
said texts (Err fault) acts answer = IsWordsFault command.pint texts fault × untaken fault acts answer

abbrev pub pint : List Text → Course
pint texts acts answer = (result : Result PintWords WordsFault) × said texts result acts answer
