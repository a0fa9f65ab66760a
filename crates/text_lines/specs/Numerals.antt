-- Numbers from 0 on as words: decimal digits without a leading zero.
use Rattle.std.specs.Prelude.{ℕ, ◌+◌, ◌*◌, ◌-◌, Bool, false, nat_eq, nat_lt, ◌==◌, if◌then◌else◌, List, [], ◌∷◌}
use Rattle.std.specs.Prelude.{length, fold, Option, Some, None}
use Rattle.std.specs.Char.{is_ascii_digit}
use Rattle.std.specs.List.{list_all}

-- decimal digits without a leading zero
abbrev pub is_number : List ℕ → Bool
is_number [] = false
is_number (first ∷ more) = if first == 48 then nat_eq (length more) 0 else list_all is_ascii_digit (first ∷ more)

-- the value of digits
abbrev pub value_of : List ℕ → ℕ
value_of digits = fold (λ value digit. value * 10 + (digit - 48)) 0 digits

-- the value of digits, if it is at most a limit
abbrev pub value_up_to : ℕ → List ℕ → Option ℕ
value_up_to limit digits = if nat_lt limit (value_of digits) then None else Some (value_of digits)

-- the number that a word spells, if it is at most a limit
abbrev pub natural : ℕ → List ℕ → Option ℕ
natural limit word = if is_number word then value_up_to limit word else None
