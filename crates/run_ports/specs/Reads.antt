-- What an operation on the input does: it reads what the definition reads, asks the reader for bytes only where the
-- definition needs one behind all that were given, and lets the output go out before it asks. It does not say what is
-- read.
use Rattle.std.specs.Prelude.{◌≡◌, ℕ, zero, suc, ◌<◌, ◌⊎◌, ◌||◌, Bool, true, false, List, [], ◌∷◌, ◌++◌, length, Result}
use Rattle.std.specs.Prelude.{Ok, Err}
use Rattle.std.specs.Prelude.{if◌then◌else◌}
use Rattle.std.specs.Io.KnownBytes.{Appends}
use Rattle.text_input.specs.declared.InputFault.TheVariants.{EndOfInput}
use Rattle.text_input.specs.Input.{Reading, Reads as ReadsIt, Fails, Ends}
use Rattle.run_ports.specs.Seen.{Feeds}
use Rattle.run_ports.specs.declared.fault.ReadStop.{ReadStop}
use Rattle.run_ports.specs.declared.fault.ReadStop.TheVariants as read_stop
use Rattle.run_ports.specs.declared.ports.RunPorts.{RunPorts}
use Rattle.run_ports.specs.Feeding.{Source, Tail, MayGive, Gave, Each, behind, before_calls, failed_calls}
use Rattle.run_ports.specs.Feeding.{failing}
use Rattle.run_ports.specs.Feeding.{fails_of, is_ended, joined, last_call, left}
use Rattle.run_ports.specs.Ports.{Ports, Loses, Offers, piece_of}

-- what is read where the end of the input is asked for; a reader that fails behind the bytes doesn't tell it
abbrev pub read_end : Bool → List ℕ → Reading Bool
read_end fails [] = if fails then Ends else ReadsIt true []
read_end fails (byte ∷ bytes) = ReadsIt false (byte ∷ bytes)

-- how many failures of the reader an answer stands for
abbrev pub read_failures_in : {A : Type 0} → Result A ReadStop → ℕ
read_failures_in (Ok a) = 0
read_failures_in (Err (read_stop.Input fault)) = 0
read_failures_in (Err read_stop.ReadFailed) = 1
read_failures_in (Err read_stop.WriteFailed) = 0

-- how many failures of the writer an answer stands for
abbrev pub lost_in : {A : Type 0} → Result A ReadStop → ℕ
lost_in (Ok a) = 0
lost_in (Err (read_stop.Input fault)) = 0
lost_in (Err read_stop.ReadFailed) = 0
lost_in (Err read_stop.WriteFailed) = 1

-- the answer is what the definition reads, and this is left then
abbrev pub Answers : {A : Type 0} → Result A ReadStop → Reading A → Bool → List ℕ → Type 0
Answers (Ok a) reading fails rest = reading ≡ ReadsIt a rest
Answers (Err (read_stop.Input fault)) reading fails rest =
    (reading ≡ Fails fault) ⊎ ((reading ≡ Ends) × (fault ≡ EndOfInput) × (fails ≡ false))
Answers (Err read_stop.ReadFailed) reading fails rest = (reading ≡ Ends) × (fails ≡ true)
Answers (Err read_stop.WriteFailed) reading fails rest = Unit {0}

-- the output goes out before the first of these calls; where the writer failed, there was some and the reader wasn't
-- called
abbrev pub GoesOutAs : ℕ → List (List ℕ) → Ports → Ports → Type 0
GoesOutAs zero [] before after = after ≡ before
GoesOutAs zero (piece ∷ calls) before after =
    (after.held ≡ []) × Appends before.known after.known before.held
    × Offers before.offered after.offered (piece_of (length before.held))
GoesOutAs (suc n) calls before after =
    (calls ≡ []) × Loses before.known after.known before.held × (0 < length before.held)

abbrev pub GoesOut : {A : Type 0} → Result A ReadStop → List (List ℕ) → Ports → Ports → Type 0
GoesOut answer = GoesOutAs (lost_in answer)

-- an operation reads as the definition does, for whatever comes
pub record Reads {A : Type 0} (reading : Bool → List ℕ → Reading A) (answer : Result A ReadStop) (old new : RunPorts)
    (feeds feeds' : Feeds) (before after : Ports) : Type 0 where
  pub pieces : List (List ℕ)
  pub tail : Tail
  pub gave : Gave feeds feeds' pieces tail
  pub answers : (source : Source) → MayGive tail source
      → Answers answer (reading (fails_of old.input source) (left old.input (behind (joined pieces) source)))
      (fails_of old.input source) (left new.input source)
  -- each call was needed
  pub needed : Each (λ given. reading true (left old.input (failing given)) ≡ Ends)
      (before_calls [] (pieces ++ last_call tail))
  -- the reader is known to be at its end from the call on that told it, and isn't asked again
  pub at_end : new.input.is_at_end ≡ (old.input.is_at_end || is_ended tail)
  pub once : old.input.is_at_end ≡ true → pieces ++ last_call tail ≡ []
  -- it failed where the answer says so
  pub failed : failed_calls tail ≡ read_failures_in answer
  pub out : GoesOut answer (pieces ++ last_call tail) before after
