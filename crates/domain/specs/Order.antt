-- How products, squares, quotients and remainders of whole numbers stand in the order (ISO 7185:1990, 6.7.2.2).
use Rattle.std.proofs.Common.{◌≡◌, ℕ, zero, suc, ◌*◌, ◌/◌, ◌≤◌, ◌<◌, ℤ, pos, negsuc, ◌*ℤ◌, ◌≤ℤ◌, ◌<ℤ◌, neg_ℤ, int_div}
use Rattle.std.proofs.Common.{unsigned_abs, arith, refl}
use Rattle.std.proofs.lemmas.Int.{ints, clamps}
use Rattle.std.proofs.lemmas.Nat.{le-div}
use Rattle.std.proofs.Math.IntN.{*ℤ-negsuc, *ℤ_comm}
use Rattle.std.proofs.Math.Nat.{mul-le-mul, mul-le-mul_right, div-le_self, div-mul-le_self, mod-le}
use Rattle.std.specs.Int.{int_min, int_max, int_rem_euclid}
use Rattle.domain.specs.Interval.{Interval, HasMember, magnitude}

-- from the lesser to the greater of two numbers
abbrev pub span : ℤ → ℤ → Interval
span p q = record { first = int_min p q; last = int_max p q }

pub span-ascending : (p q z : ℤ) → p ≤ℤ z → z ≤ℤ q → HasMember (span p q) z
span-ascending p q z low high = (omega (arith, ints, clamps), omega (arith, ints, clamps))

pub span-descending : (p q z : ℤ) → q ≤ℤ z → z ≤ℤ p → HasMember (span p q) z
span-descending p q z low high = (omega (arith, ints, clamps), omega (arith, ints, clamps))

-- ---- products

pub times-le : (k : ℕ) (x y : ℤ) → x ≤ℤ y → (x *ℤ pos k) ≤ℤ (y *ℤ pos k)
times-le k (pos a) (pos b) below =
    let more = mul-le-mul_right {m = a} {n = b} k (omega (arith, ints)) in
    omega (arith, ints)
times-le k (pos a) (negsuc b) below = absurd below.le
times-le k (negsuc a) (pos b) below = omega (arith, ints)
times-le k (negsuc a) (negsuc b) below =
    let more = mul-le-mul_right {m = suc b} {n = suc a} k (omega (arith, ints)) in
    omega (arith, ints)

times-le_negative : (k : ℕ) (x y : ℤ) → x ≤ℤ y → (y *ℤ negsuc k) ≤ℤ (x *ℤ negsuc k)
times-le_negative k x y below =
    let more = times-le (suc k) x y below in omega (arith, ints, *ℤ-negsuc x k, *ℤ-negsuc y k)

-- a factor's numbers from a first to a last one give products between the products of these
pub product-between : (first x last y : ℤ) → first ≤ℤ x → x ≤ℤ last → HasMember (span (first *ℤ y) (last *ℤ y)) (x *ℤ y)
product-between first x last (pos k) low high =
    span-ascending (first *ℤ pos k) (last *ℤ pos k) (x *ℤ pos k) (times-le k first x low) (times-le k x last high)
product-between first x last (negsuc k) low high =
    span-descending (first *ℤ negsuc k) (last *ℤ negsuc k) (x *ℤ negsuc k)
    (times-le_negative k x last high) (times-le_negative k first x low)

pub product-between_right : (first y last x : ℤ) → first ≤ℤ y → y ≤ℤ last
    → HasMember (span (x *ℤ first) (x *ℤ last)) (x *ℤ y)
product-between_right first y last x low high =
    let there = product-between first y last x low high in
    rw (*ℤ_comm x first, *ℤ_comm x last, *ℤ_comm x y) there

-- ---- squares

square-is : (x : ℤ) → x *ℤ x ≡ pos (unsigned_abs x * unsigned_abs x)
square-is (pos a) = refl
square-is (negsuc a) = refl

pub magnitude-is : (x : ℤ) → magnitude x ≡ pos (unsigned_abs x)
magnitude-is (pos a) = omega (arith, ints, clamps)
magnitude-is (negsuc a) = omega (arith, ints, clamps)

pub square-le : (x y : ℤ) → magnitude x ≤ℤ magnitude y → (x *ℤ x) ≤ℤ (y *ℤ y)
square-le x y below =
    let less : unsigned_abs x ≤ unsigned_abs y = omega (arith, ints, magnitude-is x, magnitude-is y) in
    let more = mul-le-mul less less in
    omega (arith, ints, square-is x, square-is y)

-- ---- quotients

div-le : (m n k : ℕ) → m ≤ n → m / k ≤ n / k
div-le m n zero below = omega arith
div-le m n (suc k) below = le-div (m / suc k) n (suc k) (omega arith) (omega (arith, div-mul-le_self m (suc k)))

div-le_divisor : (n k m : ℕ) → 0 < k → k ≤ m → n / m ≤ n / k
div-le_divisor n k m present below =
    let more = mul-le-mul {n₁ = n / m} {m₁ = k} {n₂ = n / m} {m₂ = m} (omega arith) below in
    le-div (n / m) n k present (omega (arith, div-mul-le_self n m))

quotient-le : (k : ℕ) (x y : ℤ) → x ≤ℤ y → int_div x (pos k) ≤ℤ int_div y (pos k)
quotient-le k (pos a) (pos b) below = let more = div-le a b k (omega (arith, ints)) in omega (arith, ints)
quotient-le k (pos a) (negsuc b) below = absurd below.le
quotient-le k (negsuc a) (pos b) below = omega (arith, ints)
quotient-le k (negsuc a) (negsuc b) below =
    let more = div-le (suc b) (suc a) k (omega (arith, ints)) in
    omega (arith, ints)

quotient-negsuc : (x : ℤ) (k : ℕ) → int_div x (negsuc k) ≡ neg_ℤ (int_div x (pos (suc k)))
quotient-negsuc (pos a) k = refl
quotient-negsuc (negsuc a) k = omega (arith, ints)

quotient-le_negative : (k : ℕ) (x y : ℤ) → x ≤ℤ y → int_div y (negsuc k) ≤ℤ int_div x (negsuc k)
quotient-le_negative k x y below =
    let more = quotient-le (suc k) x y below in omega (arith, ints, quotient-negsuc x k, quotient-negsuc y k)

-- dividends from a first to a last one give quotients between the quotients of these
pub quotient-between : (first x last y : ℤ) → first ≤ℤ x → x ≤ℤ last
    → HasMember (span (int_div first y) (int_div last y)) (int_div x y)
quotient-between first x last (pos k) low high =
    span-ascending (int_div first (pos k)) (int_div last (pos k)) (int_div x (pos k))
    (quotient-le k first x low) (quotient-le k x last high)
quotient-between first x last (negsuc k) low high =
    span-descending (int_div first (negsuc k)) (int_div last (negsuc k)) (int_div x (negsuc k))
    (quotient-le_negative k x last high) (quotient-le_negative k first x low)

divisor-between : (first y last : ℕ) (x : ℤ) → 0 < first → first ≤ y → y ≤ last
    → HasMember (span (int_div x (pos first)) (int_div x (pos last))) (int_div x (pos y))
divisor-between first y last (pos a) present low high =
    let less = div-le_divisor a first y present low in
    let more = div-le_divisor a y last (omega arith) high in
    span-descending (pos (a / first)) (pos (a / last)) (pos (a / y)) (omega (arith, ints)) (omega (arith, ints))
divisor-between first y last (negsuc a) present low high =
    let less = div-le_divisor (suc a) first y present low in
    let more = div-le_divisor (suc a) y last (omega arith) high in
    span-ascending (neg_ℤ (pos (suc a / first))) (neg_ℤ (pos (suc a / last))) (neg_ℤ (pos (suc a / y)))
    (omega (arith, ints)) (omega (arith, ints))

span-negated : (p q z : ℤ) → HasMember (span p q) z → HasMember (span (neg_ℤ q) (neg_ℤ p)) (neg_ℤ z)
span-negated p q z (low, high) = (omega (arith, ints, clamps), omega (arith, ints, clamps))

-- divisors of one sign from a first to a last one give quotients between the quotients by these
pub quotient-between_positive : (first y last x : ℤ) → pos 0 <ℤ first → first ≤ℤ y → y ≤ℤ last
    → HasMember (span (int_div x first) (int_div x last)) (int_div x y)
quotient-between_positive (pos first) (pos y) (pos last) x present low high =
    divisor-between first y last x (omega (arith, ints)) (omega (arith, ints)) (omega (arith, ints))
quotient-between_positive (negsuc first) y last x present low high = absurd present.lt
quotient-between_positive (pos first) (negsuc y) last x present low high = absurd low.le
quotient-between_positive (pos first) (pos y) (negsuc last) x present low high = absurd high.le

pub quotient-between_negative : (first y last x : ℤ) → last <ℤ pos 0 → first ≤ℤ y → y ≤ℤ last
    → HasMember (span (int_div x first) (int_div x last)) (int_div x y)
quotient-between_negative (negsuc first) (negsuc y) (negsuc last) x present low high =
    let there =
    divisor-between (suc last) (suc y) (suc first) x (omega arith) (omega (arith, ints)) (omega (arith, ints)) in
    rw (quotient-negsuc x first, quotient-negsuc x last, quotient-negsuc x y)
    (span-negated (int_div x (pos (suc last))) (int_div x (pos (suc first))) (int_div x (pos (suc y))) there)
quotient-between_negative first y (pos last) x present low high = absurd (omega (arith, ints))
quotient-between_negative first (pos y) (negsuc last) x present low high = absurd high.le
quotient-between_negative (pos first) (negsuc y) (negsuc last) x present low high = absurd low.le

-- a quotient's magnitude isn't greater than the dividend's
pub quotient-le_magnitude : (x y : ℤ) → (neg_ℤ (magnitude x) ≤ℤ int_div x y) × (int_div x y ≤ℤ magnitude x)
quotient-le_magnitude (pos a) (pos b) = (omega (arith, ints, clamps), omega (arith, ints, clamps, div-le_self a b))
quotient-le_magnitude (pos a) (negsuc b) =
    (omega (arith, ints, clamps, div-le_self a (suc b)), omega (arith, ints, clamps))
quotient-le_magnitude (negsuc a) (pos b) =
    (omega (arith, ints, clamps, div-le_self (suc a) b), omega (arith, ints, clamps))
quotient-le_magnitude (negsuc a) (negsuc b) =
    (omega (arith, ints, clamps), omega (arith, ints, clamps, div-le_self (suc a) (suc b)))

-- ---- remainders

-- a remainder by a divisor of at least 1 isn't negative, and is below the divisor
pub remainder-below : (x y : ℤ) → pos 1 ≤ℤ y → (pos 0 ≤ℤ int_rem_euclid x y) × (int_rem_euclid x y <ℤ y)
remainder-below x (negsuc d) present = absurd present.le
remainder-below x (pos zero) present = absurd (omega (arith, ints))
remainder-below (pos a) (pos (suc d)) present = (omega (arith, ints), omega (arith, ints))
remainder-below (negsuc a) (pos (suc d)) present = (omega (arith, ints), omega (arith, ints))

-- and isn't greater than a dividend that isn't negative
pub remainder-le : (x y : ℤ) → pos 0 ≤ℤ x → int_rem_euclid x y ≤ℤ x
remainder-le (pos a) y present = omega (arith, ints, mod-le a (unsigned_abs y))
remainder-le (negsuc a) y present = absurd present.le
