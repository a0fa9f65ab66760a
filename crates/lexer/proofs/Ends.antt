-- How many bytes stand up to an end, if there is one.
use Rattle.std.proofs.Common.{◌≡◌, ℕ, ◌+◌, Option, Some, None}
use Rattle.std.specs.Option.{option_map}

-- so many bytes
abbrev pub counted : ℕ → Option ℕ
counted n = Some n

-- the same from some bytes before
abbrev pub shifted : ℕ → Option ℕ → Option ℕ
shifted k o = option_map (λ n. k + n) o

pub none_same : (o : Option ℕ) (j : ℕ) → o ≡ None → o ≡ Some j → ⊥
none_same o j p q = cc

pub some_same : (o : Option ℕ) (n j : ℕ) → o ≡ Some n → o ≡ Some j → n ≡ j
some_same o n j p q = cc
