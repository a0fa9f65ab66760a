-- What is read where something is wanted of the input, as a number. It does not say what is made of it.
use Rattle.std.specs.Prelude.{ℕ, ℤ, pos, Bool, true, false, List}
use Rattle.text_input.specs.Input.{Reading, Reads, Fails, Ends, read_character, read_eoln, read_integer, read_line}
use Rattle.run_ports.specs.declared.wanted.Wanted.{Wanted}
use Rattle.run_ports.specs.declared.wanted.Wanted.TheVariants as wanted
use Rattle.run_ports.specs.Reads.{read_end}

-- what is made of what is read
abbrev pub read_with : {A B : Type 0} → (A → B) → Reading A → Reading B
read_with f (Reads a rest) = Reads (f a) rest
read_with f (Fails why) = Fails why
read_with f Ends = Ends

-- a truth value as a number
abbrev pub one_if : Bool → ℤ
one_if true = pos 1
one_if false = pos 0

-- what is read, where the reader may fail behind the bytes
abbrev pub read_wanted : Wanted → Bool → List ℕ → Reading ℤ
read_wanted wanted.Integer fails bytes = read_integer bytes
read_wanted wanted.Character fails bytes = read_with pos (read_character bytes)
read_wanted wanted.LineEnd fails bytes = read_with one_if (read_eoln bytes)
read_wanted wanted.NextLine fails bytes = read_with (λ done. pos 0) (read_line bytes)
read_wanted wanted.End fails bytes = read_with one_if (read_end fails bytes)
