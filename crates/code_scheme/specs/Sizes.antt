-- Numbers as the compiler counts them, in 32 bits. It does not say what they count.
use Rattle.std.specs.Prelude.{ℕ, min}

-- a number, or the greatest number of 32 bits
abbrev pub capped : ℕ → ℕ
capped n = min n 4294967295
