-- How a run of code is told in a text: what it wrote, and behind that a word for its stop. It does not say that no
-- reader and no writer fails.
use Rattle.std.specs.Prelude.{◌≡◌, ℕ, List, [], ◌++◌, ◌==◌, if◌then◌else◌, codes}
use Rattle.text_input.specs.declared.InputFault.{InputFault}
use Rattle.text_input.specs.declared.InputFault.TheVariants as input
use Rattle.stack_machine.specs.declared.stop.Stop.{Stop}
use Rattle.stack_machine.specs.declared.stop.Stop.TheVariants as stop
use Rattle.stack_machine.specs.declared.stop.MachineFault.TheVariants as machine
use Rattle.stack_machine.specs.Failures.{read_failures_of}
use Rattle.stack_machine.specs.Ran.{Did}
use Rattle.stack_machine.specs.Run.{Outcome}

-- the word of a fault of the input
abbrev pub fault_word : InputFault → List ℕ
fault_word input.EndOfInput = codes "N1"
fault_word input.NotANumber = codes "N2"
fault_word input.NumberTooLarge = codes "N3"
fault_word input.OutsideType = codes "N4"
fault_word input.NotACharacter = codes "N5"

-- the word of a stop; none where the run finished. Of the errors that of the first site has a word of its own, and of
-- the faults of the input those at the first point.
abbrev pub word_of : Stop → List ℕ
word_of stop.Finished = []
word_of (stop.Error site) = if site.id == 0 then codes "error" else codes "another stop"
word_of (stop.Input point fault) = if point.id == 0 then fault_word fault else codes "another stop"
word_of stop.More = codes "more"
word_of stop.StoreFull = codes "full"
word_of (stop.Fault machine.Underflow) = codes "M1"
word_of (stop.Fault machine.OutOfBounds) = codes "M2"
word_of (stop.Fault machine.WrongKind) = codes "M3"
word_of (stop.Fault machine.WrongDivisor) = codes "M4"
word_of stop.ReadFailed = codes "unread"
word_of stop.WriteFailed = codes "failed"

-- the text is some bytes, and behind them the word of a stop; where no reader failed, the run stops so and these bytes
-- are its output, or a beginning of it where the writer failed
abbrev pub IsToldRun : List ℕ → Outcome → Type 0
IsToldRun text run =
    (stop : Stop) × (bytes : List ℕ) × (text ≡ bytes ++ word_of stop)
    × (read_failures_of stop ≡ 0 → Did stop bytes run)
