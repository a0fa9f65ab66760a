-- Sets that are written, and empty ones behind them. It does not say which are.
use Rattle.std.specs.Prelude.{ℕ, ◌-◌, List, ◌++◌, length, replicate}

-- the members of sets, with empty ones behind them up to so many
abbrev pub with_empty : List ℕ → ℕ → List ℕ
with_empty written count = written ++ replicate (count - length written) 0
