-- Which calls of a reader or a writer count as failures: a read or a write that answers an error, and a write that
-- takes no byte of a piece that isn't empty. It does not say why a call fails, nor that one ever does.
use Rattle.std.specs.Prelude.{ℕ, ◌==◌, ◌&&◌, nat_lt, if◌then◌else◌, length, List, Result, Ok, Err}

-- how many failures a read is: one, or none
abbrev pub read_failures : {E : Type 0} → Result ℕ E → ℕ
read_failures (Ok count) = 0
read_failures (Err error) = 1

-- how many bytes a read gave: none where it failed
abbrev pub read_count : {E : Type 0} → Result ℕ E → ℕ
read_count (Ok count) = count
read_count (Err error) = 0

-- how many failures a write of the piece is: one, or none
abbrev pub write_failures : {E : Type 0} → List ℕ → Result ℕ E → ℕ
write_failures piece (Ok count) = if (count == 0) && nat_lt 0 (length piece) then 1 else 0
write_failures piece (Err error) = 1
