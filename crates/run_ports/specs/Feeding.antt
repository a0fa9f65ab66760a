-- What a reader gives to a run, and what of it is left to be read: the bytes that are held, and those that come. A last
-- line end that is missing is supplied, but not behind a failure. It does not say how many bytes a reader gives in one
-- call.
use Rattle.std.specs.Prelude.{◌≡◌, ℕ, Bool, true, false, List, [], ◌∷◌, ◌++◌, drop, length, map, take, if◌then◌else◌}
use Rattle.std.specs.Prelude.{Option, ◌+◌}
use Rattle.std.specs.Io.KnownBytes.{Appends, Consumes, IsAtEnd}
use Rattle.text_input.specs.Input.{completed}
use Rattle.run_ports.specs.Seen.{Feeds}
use Rattle.run_ports.specs.declared.input.Input.{Input}

-- what a reader gives: its bytes, and whether it fails behind them
pub record Source : Type 0 where
  pub bytes : List ℕ
  pub fails : Bool

-- an input that is there as a whole
abbrev pub whole : List ℕ → Source
whole input = record { bytes = input; fails = false }

-- a reader that fails behind these bytes
abbrev pub failing : List ℕ → Source
failing bytes = record { bytes = bytes; fails = true }

-- the reader gives these bytes first
abbrev pub behind : List ℕ → Source → Source
behind given source = record source { bytes = given ++ source.bytes }

-- the rest of an input, by whether it begins within a line, with its last line ended
abbrev pub completed_rest : Bool → List ℕ → List ℕ
completed_rest true [] = 10 ∷ []
completed_rest is_in_line bytes = completed bytes

-- what may be read of a source, by whether a line is begun before it
abbrev pub readable_rest : Bool → Source → List ℕ
readable_rest is_in_line source = if source.fails then source.bytes else completed_rest is_in_line source.bytes

-- what may be read of a source
abbrev pub readable : Source → List ℕ
readable = readable_rest false

-- the bytes that are held of an input
abbrev pub window : Input → List ℕ
window input = drop input.next (take input.held input.bytes.items)

-- what comes behind them of a source; nothing, once the reader was at its end
abbrev pub coming : Input → Source → List ℕ
coming input source = if input.is_at_end then [] else readable_rest input.is_in_line source

-- what is left to be read, by what the reader gives from now on
abbrev pub left : Input → Source → List ℕ
left input source = window input ++ coming input source

-- whether a byte that is needed behind the last one is missing because the reader failed
abbrev pub fails_of : Input → Source → Bool
fails_of input source = if input.is_at_end then false else source.fails

-- ---- calls of a reader

-- how a reader is behind what it gave: it may give more, nothing is left, or it failed
pub data Tail : Type 0 where
  MayGo : Tail
  Ended : Tail
  Failed : Tail

-- what it may give from then on
abbrev pub MayGive : Tail → Source → Type 0
MayGive MayGo source = Unit {0}
MayGive Ended source = source ≡ whole []
MayGive Failed source = source ≡ failing []

-- the call at which it gave nothing, if there is one
abbrev pub last_call : Tail → List (List ℕ)
last_call MayGo = []
last_call Ended = [] ∷ []
last_call Failed = [] ∷ []

-- whether the reader is at its end
abbrev pub is_ended : Tail → Bool
is_ended MayGo = false
is_ended Ended = true
is_ended Failed = false

-- how many of its calls failed
abbrev pub failed_calls : Tail → ℕ
failed_calls MayGo = 0
failed_calls Ended = 0
failed_calls Failed = 1

-- all bytes of some pieces
abbrev pub joined : List (List ℕ) → List ℕ
joined [] = []
joined (piece ∷ pieces) = piece ++ joined pieces

-- nothing is left of a reader that is at its end, as far as that is known
abbrev pub IsDone : Tail → Option (List ℕ) → Type 0
IsDone MayGo remaining = Unit {0}
IsDone Ended remaining = IsAtEnd remaining
IsDone Failed remaining = Unit {0}

-- a reader was called, and gave these pieces, one a call
pub record Gave (before after : Feeds) (pieces : List (List ℕ)) (tail : Tail) : Type 0 where
  pub gives : Consumes before.remaining after.remaining (joined pieces)
  pub done : IsDone tail after.remaining
  pub asked : Appends before.asked after.asked (map length (pieces ++ last_call tail))
  pub failed : after.failures ≡ before.failures + failed_calls tail
  pub unasked : pieces ++ last_call tail ≡ [] → after ≡ before

-- what the reader had given before each of its calls, behind these bytes
abbrev pub before_calls : List ℕ → List (List ℕ) → List (List ℕ)
before_calls given [] = []
before_calls given (piece ∷ pieces) = given ∷ before_calls (given ++ piece) pieces

-- this holds of each of them
abbrev pub Each : (List ℕ → Type 0) → List (List ℕ) → Type 0
Each P [] = Unit {0}
Each P (given ∷ more) = P given × Each P more
