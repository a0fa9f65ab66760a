-- Hexadecimal digits and their values.
use Rattle.std.proofs.Common.{◌≡◌, ℕ, suc, zero, ◌+◌, ◌*◌, ◌-◌, ◌^◌, ◌<◌, ◌≤◌, true, List, [], ◌∷◌}
use Rattle.std.proofs.Common.{ap, subst, arith, get_or, length}
use Rattle.std.proofs.Math.Nat.{pow-suc}
use Rattle.std.specs.List.{list_all}
use Rattle.std.proofs.lemmas.Bool.{and_parts}
use Rattle.std.proofs.lemmas.Bool.Decides.{nat_tests}
use Rattle.pcode_assembler.specs.Words.{is_hexadecimal, nibble_of}

pub nibble_small : (digit : ℕ) → is_hexadecimal digit ≡ true → nibble_of digit < 16
nibble_small digit is = grind (arith, nat_tests)

pub digit_at : (digits : List ℕ) (k : ℕ) → list_all is_hexadecimal digits ≡ true → k < length digits
    → is_hexadecimal (get_or digits k 0) ≡ true
digit_at [] k all within = absurd (omega arith)
digit_at (digit ∷ more) zero all within = (and_parts (is_hexadecimal digit) _ all).0
digit_at (digit ∷ more) (suc k) all within = digit_at more k (and_parts (is_hexadecimal digit) _ all).1 (omega arith)

grows_by : (k m : ℕ) → 16 ^ k ≤ 16 ^ (k + m)
grows_by k zero = let n : 16 ^ (k + 0) ≡ 16 ^ k = ap (λ j. 16 ^ j) (omega arith) in omega (arith, n)
grows_by k (suc m) =
    let p = pow-suc 16 (k + m) in
    let n : 16 ^ (k + suc m) ≡ 16 ^ suc (k + m) = ap (λ j. 16 ^ j) (omega arith) in
    omega (arith, grows_by k m, p, n)

pub next_power : (value k digit : ℕ) → value < 16 ^ k → digit < 16 → value * 16 + digit < 16 ^ (k + 1)
next_power value k digit small low =
    let p = pow-suc 16 k in
    let n : 16 ^ (k + 1) ≡ 16 ^ suc k = ap (λ j. 16 ^ j) (omega arith) in
    omega (arith, p, n)

-- 32 digits are of 128 bits
power_within : (k m : ℕ) → k + m ≡ 32 → 16 ^ k ≤ 2 ^ 128
power_within k m is = subst (λ (n : ℕ). 16 ^ k ≤ 16 ^ n) is (grows_by k m)

pub next_fits : (value k digit : ℕ) → value < 16 ^ k → digit < 16 → k < 32 → value * 16 + digit < 2 ^ 128
next_fits value k digit small low few =
    let next = next_power value k digit small low in
    let all = power_within (k + 1) (31 - k) (omega arith) in
    omega (arith, next, all)
