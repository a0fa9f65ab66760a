-- What a search by halves finds in numbers that ascend.
use Rattle.std.proofs.Common.{arith, ◌≡◌, ◌∙◌, sym, ℕ, ◌<◌, ◌≤◌, false, nat_eq, List, length, get_or, Result, Ok, Err}
use Rattle.std.specs.List.Sorted.{IsPermutation, IsSorted, IsBinarySearchResult}
use Rattle.std.specs.Ordering.{nat_cmp}
use Rattle.std.specs.Result.{MatchResult, is_ok}
use Rattle.std.proofs.lemmas.Bool.{eq-eqb, ne_eqb}
use Rattle.std.proofs.lemmas.List.Elements.{All-from_get_or}
use Rattle.std.proofs.lemmas.List.Folds.{list_any_at, list_any_none}
use Rattle.std.proofs.lemmas.List.Sorted.{IsNonDecreasingBy-from_sort, list_any-IsPermutation, searched}
use Rattle.std.proofs.lemmas.Bool.{cases_lt}
use Rattle.std.proofs.Common.{inl, inr}
use Rattle.checker_state.specs.Loops.{is_among}
use Rattle.checker_loops.specs.Listed.{AreSame, Ascends}

found-is : (numbers : List ℕ) (root : ℕ) (found : Result ℕ ℕ)
    → MatchResult found (λ i. (i < length numbers) × (get_or numbers i 0 ≡ root))
    (λ i. (i ≤ length numbers) × ((k : ℕ) → k < i → get_or numbers k 0 < root) × ((k : ℕ) → i ≤ k → k < length numbers → root < get_or numbers k 0))
    → is_ok found ≡ is_among root numbers
found-is numbers root (Ok i) (inside, is) = sym (list_any_at (λ other. nat_eq other root) numbers i 0 inside (eq-eqb (get_or numbers i 0) root is))
found-is numbers root (Err i) (bound, below, above) =
    sym (list_any_none (λ other. nat_eq other root) numbers
    (All-from_get_or (λ other. nat_eq other root ≡ false) numbers 0
    (λ k inside. elim (cases_lt k i) [
      | inl before ↦ let less = below k before in ne_eqb (get_or numbers k 0) root (λ same. omega (arith, less, same))
      | inr behind ↦ let more = above k behind inside in ne_eqb (get_or numbers k 0) root (λ same. omega (arith, more, same))
    ])))

pub found-among : (listed sorted : List ℕ) (root : ℕ) (found : Result ℕ ℕ) → AreSame listed sorted → Ascends sorted
    → IsBinarySearchResult (λ y. nat_cmp y root) sorted found → is_ok found ≡ is_among root listed
found-among listed sorted root found same ascends is = found-is sorted root found (searched sorted root found is ascends) ∙ same root

pub sorted-same : (listed sorted : List ℕ) → IsPermutation listed sorted → AreSame listed sorted
sorted-same listed sorted moved root = sym (list_any-IsPermutation (λ other. nat_eq other root) listed sorted moved)

pub sorted-ascends : (sorted : List ℕ) → IsSorted nat_cmp sorted → Ascends sorted
sorted-ascends sorted is i j from inside = IsNonDecreasingBy-from_sort (λ n. n) sorted is i j 0 from inside
