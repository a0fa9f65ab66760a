-- Where the output of a run is: the bytes that the writer holds, those that are held back for it, and the pieces in
-- which it was offered them. It does not say how many of them a writer took that failed.
use Rattle.std.specs.Prelude.{◌≡◌, ℕ, zero, suc, ◌+◌, ◌*◌, ◌/◌, ◌%◌, ◌≤◌, List, [], ◌∷◌, ◌++◌, length, replicate}
use Rattle.std.specs.Prelude.{Option, Result, Ok, Err}
use Rattle.std.specs.Io.KnownBytes.{Appends}

-- a writer and what is held back for it
pub record Ports : Type 0 where
  -- the bytes that the writer holds, where they are known
  pub known : Option (List ℕ)
  -- how long the pieces were that the writer was offered, where that is known
  pub offered : Option (List ℕ)
  -- the bytes that are held back
  pub held : List ℕ

-- how many bytes pieces of these lengths have
abbrev pub total : List ℕ → ℕ
total [] = 0
total (length ∷ more) = length + total more

-- the writer was offered pieces of these lengths, and nothing else unless bytes were offered anew: it had taken only a
-- part of a piece then
pub record Offers (before after : Option (List ℕ)) (pieces : List ℕ) : Type 0 where
  pub lengths : List ℕ
  pub grew : Appends before after lengths
  pub enough : total pieces ≤ total lengths
  pub at_once : total lengths ≡ total pieces → lengths ≡ pieces

-- a piece of so many bytes; there is none of no byte
abbrev pub piece_of : ℕ → List ℕ
piece_of zero = []
piece_of (suc length) = suc length ∷ []

-- the pieces of so many bytes: of 4,096 each, and then one of what is left
abbrev pub pieces_of : ℕ → List ℕ
pieces_of count = replicate (count / 4096) 4096 ++ piece_of (count % 4096)

-- the writer got these bytes behind those that were held back, up to those that are held back still; what it got are
-- whole pieces
pub record Passes (before after : Ports) (bytes : List ℕ) : Type 0 where
  pub done : List ℕ
  pub grew : Appends before.known after.known done
  pub in_order : done ++ after.held ≡ before.held ++ bytes
  pub pieces : ℕ
  pub whole : pieces * 4096 ≡ length done
  pub offers : Offers before.offered after.offered (replicate pieces 4096)

-- the known bytes grew by a beginning of these
pub record Loses (before after : Option (List ℕ)) (bytes : List ℕ) : Type 0 where
  pub done : List ℕ
  pub lost : List ℕ
  pub grew : Appends before after done
  pub in_order : bytes ≡ done ++ lost

-- the writer got the bytes, or a beginning of them where it failed
abbrev pub PassesOrLoses : {A E : Type 0} → Result A E → Ports → Ports → List ℕ → Type 0
PassesOrLoses (Ok value) before after bytes = Passes before after bytes
PassesOrLoses (Err error) before after bytes = Loses before.known after.known (before.held ++ bytes)

-- the same where nothing is held back
abbrev pub AppendsOrLoses : {A E : Type 0} → Result A E → Option (List ℕ) → Option (List ℕ) → List ℕ → Type 0
AppendsOrLoses (Ok value) before after bytes = Appends before after bytes
AppendsOrLoses (Err error) before after bytes = Loses before after bytes

-- how many failures of the writer an answer stands for
abbrev pub write_failures_in : {A E : Type 0} → Result A E → ℕ
write_failures_in (Ok value) = 0
write_failures_in (Err error) = 1
