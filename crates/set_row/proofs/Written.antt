-- Members that are written, and empty ones behind them.
use Rattle.std.proofs.Common.{◌≡◌, ℕ, ◌+◌, ◌-◌, ◌<◌, ◌≤◌, List, ◌++◌, length, take, drop, replicate, ap, sym, ◌∙◌, append_assoc, arith}
use Rattle.std.specs.Prelude.{slice_set}
use Rattle.std.specs.List.{copy_within}
use Rattle.std.proofs.lemmas.List.{drop-append-le, length-append, length-drop}
use Rattle.std.proofs.lemmas.List.{length-replicate, length-set, length-take-le, replicate-append-replicate, set-append_left, take-append-le}
use Rattle.set_row.specs.Empty.{with_empty}

-- how many there are
long_with : (xs : List ℕ) (n : ℕ) → length (with_empty xs n) ≡ length xs + (n - length xs)
long_with xs n =
    let more = n - length xs in
    let none : List ℕ = replicate more 0 in
    let long : length none ≡ more = length-replicate {A = ℕ} more 0 in
    length-append xs none ∙ ap (λ k. length xs + k) long

pub length-with_empty : (xs : List ℕ) (n : ℕ) → length xs ≤ n → length (with_empty xs n) ≡ n
length-with_empty xs n few =
    omega (arith, long_with xs n, few)

-- more of the empty ones are written
pub reached : (xs : List ℕ) (n end : ℕ) → length xs ≤ n → end ≤ n → with_empty (with_empty xs end) n ≡ with_empty xs n
reached xs n end few within =
    let more = end - length xs in
    let left : n - length (with_empty xs end) ≡ n - (length xs + more) = ap (λ k. n - k) (long_with xs end) in
    let all : more + (n - (length xs + more)) ≡ n - length xs = omega (arith, few, within) in
    ap (λ k. with_empty xs end ++ replicate k 0) left ∙ append_assoc xs (replicate more 0) (replicate (n - (length xs + more)) 0)
    ∙ ap (λ l. xs ++ l) (replicate-append-replicate more (n - (length xs + more)) 0 ∙ ap (λ k. replicate k 0) all)

-- as many are written as are asked for, or as were before
pub record Longer (old now : List ℕ) (end : ℕ) : Type 0 where
  pub least : end ≤ length now
  pub kept : length old ≤ length now
  pub most : length now ≤ length old + (end - length old)

pub longer : (old : List ℕ) (end : ℕ) (now : List ℕ) → now ≡ with_empty old end → Longer old now end
longer old end now e =
    let long : length now ≡ length old + (end - length old) = ap length e ∙ long_with old end in
    record { least = omega (arith, long); kept = omega (arith, long); most = omega (arith, long) }

-- one is put
pub put_at : (xs : List ℕ) (n place set : ℕ) → place < length xs → with_empty (slice_set xs place set) n ≡ slice_set (with_empty xs n) place set
put_at xs n place set within =
    ap (λ k. slice_set xs place set ++ replicate (n - k) 0) (length-set xs place set)
    ∙ sym (set-append_left xs (replicate (n - length xs) 0) place set within)

-- some are copied
pub copied : (xs : List ℕ) (n from end to : ℕ) → from ≤ end → end ≤ length xs → to + (end - from) ≤ length xs
    → with_empty (copy_within xs from end to) n ≡ copy_within (with_empty xs n) from end to
copied xs n from end to ordered within beside =
    let count = end - from in
    let behind = to + count in
    let rest : List ℕ = replicate (n - length xs) 0 in
    let front = take to xs in
    let part = take count (drop from xs) in
    let back = drop behind xs in
    let d = length-drop from xs in
    let e = length-drop behind xs in
    let f = length-take-le to xs (omega (arith, beside)) in
    let g = length-take-le count (drop from xs) (omega (arith, d, ordered, within)) in
    let same : length (front ++ part ++ back) ≡ length xs =
    omega (arith, length-append (front ++ part) back, length-append front part, d, e, f, g, ordered, within, beside) in
    let one : take to (xs ++ rest) ≡ front = take-append-le to xs rest (omega (arith, beside)) in
    let two : take count (drop from (xs ++ rest)) ≡ part =
    ap (take count) (drop-append-le from xs rest (omega (arith, ordered, within)))
    ∙ take-append-le count (drop from xs) rest (omega (arith, d, ordered, within)) in
    let three : drop behind (xs ++ rest) ≡ back ++ rest = drop-append-le behind xs rest beside in
    ap (λ k. (front ++ part ++ back) ++ replicate (n - k) 0) same ∙ append_assoc (front ++ part) back rest
    ∙ ap (λ l. l ++ part ++ (back ++ rest)) (sym one) ∙ ap (λ l. take to (xs ++ rest) ++ l ++ (back ++ rest)) (sym two)
    ∙ ap (λ l. take to (xs ++ rest) ++ take count (drop from (xs ++ rest)) ++ l) (sym three)
