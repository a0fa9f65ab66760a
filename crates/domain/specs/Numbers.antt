-- What some numbers, such as the constants of a case statement (ISO 7185:1990, 6.8.3.5), leave of a range. It does not
-- say which constants a case statement has, nor what stands behind them.
use Rattle.std.specs.Prelude.{Bool, ℤ, pos, ◌+ℤ◌, ◌≤ℤ◌, ◌<ℤ◌, List, map}
use Rattle.std.specs.Int.{int_gap}
use Rattle.std.specs.List.{Contains, fold, list_all, list_any, range_with_len}
use Rattle.std.specs.Ordering.{int_eq}
use Rattle.domain.specs.Interval.{Interval, vacant, joined}

-- the range of one number
abbrev pub single : ℤ → Interval
single n = record { first = n; last = n }

-- the least range that has each of some numbers: the vacant range, joined with each of them in turn
abbrev pub hull : List ℤ → Interval
hull numbers = fold (λ range n. joined range (single n)) vacant numbers

-- a number is one of some numbers
abbrev pub is_among : List ℤ → ℤ → Bool
is_among numbers n = list_any (λ number. int_eq number n) numbers

-- the numbers of a range, ascending
abbrev pub numbers_of : Interval → List ℤ
numbers_of range = map (λ k. range.first +ℤ pos k) (range_with_len 0 (int_gap range.first (range.last +ℤ pos 1)))

-- each number of a range is one of some numbers
unfoldable pub is_covered : Interval → List ℤ → Bool
is_covered range numbers = list_all (is_among numbers) (numbers_of range)

-- the first number from a first one on that is none of some numbers
abbrev pub IsFirstOther : ℤ → List ℤ → ℤ → Type 0
IsFirstOther first numbers other =
    (first ≤ℤ other) × ((n : ℤ) → first ≤ℤ n → n <ℤ other → Contains numbers n) × ¬ Contains numbers other
