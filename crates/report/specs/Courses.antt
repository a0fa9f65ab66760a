-- What a program of the compiler does outside of itself, from one act on to its end, and with which status it ends.
-- It does not say what files and streams are, nor what one that fails has taken.
use Rattle.std.specs.Prelude.{◌≡◌, ℕ, ◌-◌, ◌^◌, ◌==◌, if◌then◌else◌, Bool, true, false, List, [], ◌∷◌, ◌++◌, codes}
use Rattle.std.specs.Prelude.{Option, Some, None, Result, Ok, Err}
use denote.Ref.{Bor}
use Rattle.clap.specs.Words.{kind_of}
use Rattle.clap.specs.declared.error.kind.ErrorKind.{ErrorKind}
use Rattle.clap.specs.declared.error.kind.ErrorKind.TheVariants as kind
use Rattle.command_line.specs.declared.WordsFault.{WordsFault}
use Rattle.command_line.specs.declared.WordsFault.TheVariants as words
use Rattle.pcode_assembler.specs.declared.code.Code.{Code}
use Rattle.stack_machine.specs.declared.stop.Stop.{Stop}
use Rattle.outside.specs.Acts.{Act, Answered, Follow, IsRun, RanCode, ReadFile, Streams, Told, WroteFile}
use Rattle.report_text.specs.declared.fault.Fault.TheVariants.{Memory}
use Rattle.report_text.specs.Text.{refusal_line, refusal_of, refusal_status, stop_line, stop_status}

-- how a program goes on: by these acts, in this order, and then it ends with this status
abbrev pub Course : Type 1
Course = List Act → ℕ → Type 0

-- behind what was done before, where that is known, a program went on like this
abbrev pub CourseGoes : Option (List Act) → Option (List Act) → ℕ → Course → Type 0
CourseGoes before after status course = (acts : List Act) × Follow before after acts × course acts status

-- ---- what is told

-- the line of a file that can't be read or written, by its path, and the status
abbrev pub unreadable_line : List ℕ → List ℕ
unreadable_line path = codes "cannot read " ++ (path ++ codes "\n")

abbrev pub unwritable_line : List ℕ → List ℕ
unwritable_line path = codes "cannot write " ++ (path ++ codes "\n")

abbrev pub file_status : ℕ
file_status = 3

-- it ends here
abbrev pub stops : ℕ → Course
stops status acts answer = (acts ≡ []) × (answer ≡ status)

-- a text is told, and it goes on, by whether all of it was taken
abbrev pub tells : List ℕ → (Bool → Course) → Course
tells text next acts answer =
    (is_whole : Bool) × (rest : List Act) × (acts ≡ Told text is_whole ∷ rest) × next is_whole rest answer

-- a line is told, and it ends
abbrev pub ends_with : List ℕ → ℕ → Course
ends_with line status = tells line (λ is_whole. stops status)

-- ---- words

-- the status where words get an answer: that of the help and the version, or that of words that aren't taken
abbrev pub words_status : ErrorKind → ℕ
words_status kind.DisplayHelp = 0
words_status kind.DisplayVersion = 0
words_status _ = 3

-- words that aren't taken get an answer, or it is told that there is no memory for them
abbrev pub untaken : WordsFault → Course
untaken (words.Memory refused) =
    ends_with (refusal_line (refusal_of (Memory refused))) (refusal_status (refusal_of (Memory refused)))
untaken (words.Words told) =
    λ acts answer. (acts ≡ Answered (kind_of told) ∷ []) × (answer ≡ words_status (kind_of told))

-- ---- files

-- it goes on with the bytes that a file has; where it can't be read, that is told
abbrev pub with_bytes : List ℕ → (List ℕ → Course) → Option (List ℕ) → Course
with_bytes path next None = ends_with (unreadable_line path) file_status
with_bytes path next (Some bytes) = next bytes

-- the file of a path is read
abbrev pub reads : List ℕ → (List ℕ → Course) → Course
reads path next acts answer =
    (bytes : Option (List ℕ)) × (rest : List Act) × (acts ≡ ReadFile path bytes ∷ rest)
    × with_bytes path next bytes rest answer

-- one is read where it is named
abbrev pub reads_if : Option (List ℕ) → (Option (List ℕ) → Course) → Course
reads_if None next = next None
reads_if (Some path) next = reads path (λ bytes. next (Some bytes))

-- it goes on where a file has taken a text; else that is told
abbrev pub once_written : List ℕ → Course → Bool → Course
once_written path next true = next
once_written path next false = ends_with (unwritable_line path) file_status

-- a text is written to the file of a path, where one is named
abbrev pub writes_if : Option (List ℕ) → List ℕ → Course → Course
writes_if None text next = next
writes_if (Some path) text next =
    λ acts answer. (is_whole : Bool) × (rest : List Act) × (acts ≡ WroteFile path text is_whole ∷ rest)
    × once_written path next is_whole rest answer

-- a text was written to the file of a path, where one is named, or the path is told, whose file didn't take it
abbrev pub HasWritten :
    Option (List ℕ) → List ℕ → (before after : Option (List Act)) → Result (Unit {0}) (Bor (List ℕ)) → Type 0
HasWritten None text before after (Ok done) = after ≡ before
HasWritten None text before after (Err failed) = ⊥
HasWritten (Some path) text before after (Ok done) = Follow before after (WroteFile path text true ∷ [])
HasWritten (Some path) text before after (Err failed) =
    (failed.now ≡ path) × Follow before after (WroteFile path text false ∷ [])

-- ---- runs

-- how many instructions a run may take
abbrev pub budget : ℕ
budget = 2 ^ 64 - 1

-- the status of a run: the stop's, but the report's where the run finished
abbrev pub run_status : ℕ → Stop → ℕ
run_status report stop = if stop_status stop == 0 then report else stop_status stop

-- how a run stopped is told where all was taken that was told before
abbrev pub tells_stop : Bool → Stop → ℕ → Course
tells_stop true stop status = ends_with (stop_line stop) status
tells_stop false stop status = stops status

-- a code is run on so many cells, behind a report with this status
abbrev pub runs : Code → ℕ → Bool → ℕ → Course
runs code cells told report acts answer =
    (stop : Stop) × (before after : Streams) × IsRun code cells budget stop before after
    × (rest : List Act) × (acts ≡ RanCode code cells budget stop before after ∷ rest)
    × tells_stop told stop (run_status report stop) rest answer
