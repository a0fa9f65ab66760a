-- The steps of which an operation on the input is made: a piece is asked for, the next byte is looked at or taken. It
-- does not say when the output goes out.
use Rattle.std.specs.Prelude.{◌≡◌, ℕ, ◌+◌, ◌-◌, ◌^◌, ◌<◌, Bool, true, false, List, [], ◌∷◌, ◌++◌, if◌then◌else◌, nat_eq}
use Rattle.std.specs.Prelude.{Option, None, Some, Result}
use Rattle.text_input.specs.Input.{Reading, Reads as ReadsIt, Ends, is_blank}
use Rattle.run_ports.specs.Seen.{Feeds}
use Rattle.run_ports.specs.declared.fault.ReadStop.{ReadStop}
use Rattle.run_ports.specs.declared.input.Input.{Input}
use Rattle.run_ports.specs.Feeding.{Source, Tail, MayGo, Failed, MayGive, Gave, behind, failed_calls, is_ended}
use Rattle.run_ports.specs.Feeding.{joined}
use Rattle.run_ports.specs.Feeding.{last_call, left, window}
use Rattle.run_ports.specs.Reads.{read_failures_in}

-- the next byte, or none where nothing is left; nothing is taken
abbrev pub peeked : Bool → List ℕ → Reading (Option ℕ)
peeked fails [] = if fails then Ends else ReadsIt None []
peeked fails (byte ∷ bytes) = ReadsIt (Some byte) (byte ∷ bytes)

-- the next byte, which isn't taken
abbrev pub looked_at : List ℕ → Reading ℕ
looked_at [] = Ends
looked_at (byte ∷ bytes) = ReadsIt byte (byte ∷ bytes)

-- the next byte is taken
abbrev pub byte_taken : List ℕ → Reading ℕ
byte_taken [] = Ends
byte_taken (byte ∷ bytes) = ReadsIt byte bytes

-- the sign of a number, if it has one, behind spaces and line ends: whether it is a minus
abbrev pub sign_taken : List ℕ → Reading Bool
sign_taken [] = Ends
sign_taken (byte ∷ bytes) =
    if is_blank byte then sign_taken bytes
    else if nat_eq byte 45 then ReadsIt true bytes
    else if nat_eq byte 43 then ReadsIt false bytes
    else ReadsIt false (byte ∷ bytes)

-- the reader was called once where nothing was held, and what it gave is held
pub record Fills (answer : Result (Unit {0}) ReadStop) (old new : Input) (feeds feeds' : Feeds) : Type 0 where
  pub pieces : List (List ℕ)
  pub tail : Tail
  pub gave : Gave feeds feeds' pieces tail
  pub same : (source : Source) → MayGive tail source → left old (behind (joined pieces) source) ≡ left new source
  pub once : (given : List ℕ) × (pieces ++ last_call tail ≡ given ∷ [])
  pub at_end : new.is_at_end ≡ is_ended tail
  pub failed : failed_calls tail ≡ read_failures_in answer
  -- a byte is held where the reader gave some, and none where it failed
  pub held : tail ≡ MayGo → new.next < new.held
  pub none : tail ≡ Failed → window new ≡ []

-- the next byte is gone
pub record InputTakes (old new : Input) : Type 0 where
  pub byte : ℕ
  pub rest : (source : Source) → left old source ≡ byte ∷ left new source
  pub at_end : new.is_at_end ≡ old.is_at_end

-- how many bytes may still be taken, where the reader has given so many
abbrev pub may_take : Input → ℕ → ℕ
may_take input given = (input.held - input.next) + (2 ^ 64 - given) + (if input.is_at_end then 0 else 1)
