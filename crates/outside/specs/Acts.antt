-- What a program does outside of itself, one act after another: files, messages, and the run of a code. It does not say
-- what a file or a stream that fails has taken, nor which acts a program does.
use Rattle.std.specs.Prelude.{◌≡◌, ⊤, ℕ, ◌+◌, Bool, List, ◌++◌, ◌∷◌, [], Option, Some, None}
use Rattle.clap.specs.declared.error.kind.ErrorKind.{ErrorKind}
use Rattle.run_ports.specs.Seen.{Feeds, Sunk}
use Rattle.pcode_assembler.specs.declared.code.Code.{Code}
use Rattle.stack_machine.specs.declared.stop.Stop.{Stop}
use Rattle.stack_machine.specs.Failures.{write_failures_of}
use Rattle.stack_machine.specs.Ran.{Ran}

-- what is seen of a reader and of a writer
pub record Streams : Type 0 where
  pub feeds : Feeds
  pub sunk : Sunk

abbrev pub streams : Feeds → Sunk → Streams
streams feeds sunk = record { feeds = feeds; sunk = sunk }

-- A code was run, on so many cells and for at most so many instructions, over a reader and a writer. For whatever the
-- reader would have given behind what it gave, the stop is that of the run, and the writer's known bytes grew by its
-- output, or by a beginning of it where the writer failed.
pub record IsRun (code : Code) (cells budget : ℕ) (stop : Stop) (before after : Streams) : Type 0 where
  pub ran : Ran code cells budget stop before.feeds after.feeds before.sunk after.sunk
  pub failed : after.sunk.failures ≡ before.sunk.failures + write_failures_of stop

pub data Act : Type 0 where
  -- what a command's words get for an answer was printed: its help, its version, or why they aren't taken
  Answered : ErrorKind → Act
  -- the file of a path was read; its bytes, if it could be
  ReadFile : (path : List ℕ) → (bytes : Option (List ℕ)) → Act
  -- a text was written to the file of a path; whether all of it was taken
  WroteFile : (path text : List ℕ) → (is_whole : Bool) → Act
  -- a text was written to standard error; whether all of it was taken
  Told : (text : List ℕ) → (is_whole : Bool) → Act
  -- a code was run from standard input to standard output
  RanCode : Code → (cells budget : ℕ) → Stop → (before after : Streams) → Act

-- behind what was done so far, where that is known, come these acts
abbrev pub Follow : Option (List Act) → Option (List Act) → List Act → Type 0
Follow None after acts = ⊤
Follow (Some before) None acts = ⊥
Follow (Some before) (Some after) acts = after ≡ before ++ acts

-- and this one alone
abbrev pub Follows : Option (List Act) → Option (List Act) → Act → Type 0
Follows before after act = Follow before after (act ∷ [])
