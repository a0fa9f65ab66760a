-- Laws of the range of some numbers, and of a range that they cover.
use Rattle.std.proofs.Common.{◌≡◌, inl, inr, ⊎_elim, ℕ, ◌+◌, ◌<◌, ℤ, pos, negsuc, ◌+ℤ◌, ◌≤ℤ◌, ◌<ℤ◌, int_lt, Bool, true, false, List, [], ◌∷◌, ◌++◌}
use Rattle.std.proofs.Common.{length, take, get_or, arith, refl, ap, sym, subst, ◌∙◌}
use Rattle.std.proofs.lemmas.Int.{ints, by_lt_z}
use Rattle.std.proofs.lemmas.Bool.{false≢true, or_cases, or_left, or_right}
use Rattle.std.proofs.lemmas.Bool.Decides.{Decides-int_eq, Decides-by_and, Decides-like, Decides-at, same_from_decides}
use Rattle.std.proofs.lemmas.Cmp.{int_cmp_total}
use Rattle.std.proofs.lemmas.List.{take_more, get_or-take, get_or_default, length-take}
use Rattle.std.proofs.lemmas.List.Elements.{Contains-append_left, Contains-push, Contains-push_cases}
use Rattle.std.proofs.lemmas.List.Folds.{Any-from_list_any, list_any-from_Any, list_all-map}
use Rattle.std.proofs.lemmas.List.FromFn.{length-range_with_len, get_or-range_with_len}
use Rattle.std.proofs.lemmas.List.Sums.{fold_more}
use Rattle.std.proofs.lemmas.List.Sorted.{sorted_far, ranks_by, Contains-permutation, IsPermutation-sym}
use Rattle.std.specs.Bool.{Decides}
use Rattle.std.specs.Int.{int_gap}
use Rattle.std.specs.List.{All, Any, Contains, fold, list_all, range_with_len}
use Rattle.std.specs.List.Sorted.{IsSorted, IsPermutation}
use Rattle.std.specs.Ordering.{int_cmp, int_eq, is_lt}
use Rattle.domain.specs.Interval.{Interval, HasMember, Includes, vacant, joined, common, between, IsPlain}
use Rattle.domain.specs.Numbers.{single, hull, is_among, is_covered, IsFirstOther}
use Rattle.domain.specs.Ranges.{joined-has_left, joined-has_right, joined-least, common-has, between-same, has-present, present-ordered, same_ends}

-- ---- membership

-- the test for a number tells whether the list has it
pub Decides-among : (numbers : List ℤ) (n : ℤ) → Decides (is_among numbers n) (Contains numbers n)
Decides-among numbers n = (
  λ is.
      let found : Any (λ x. int_eq x n ≡ true) numbers = Any-from_list_any (λ x. int_eq x n) numbers is in
      let same : found.1 ≡ n = (Decides-int_eq found.1 n).0 found.4 in
      subst (Contains numbers) same (found.0, found.2, found.3),
  λ has.
      list_any-from_Any (λ x. int_eq x n) numbers
      (has.0, n, has.1, has.2, (Decides-int_eq n n).1 refl),
)

-- ---- the hull

-- a fold of joins has what it began with
fold-keeps : (start : Interval) (numbers : List ℤ) (n : ℤ) → HasMember start n
    → HasMember (fold (λ range m. joined range (single m)) start numbers) n
fold-keeps start [] n has = has
fold-keeps start (m ∷ numbers) n has =
    fold-keeps (joined start (single m)) numbers n (joined-has_left start (single m) n has)

fold-has : (start : Interval) (numbers : List ℤ) (n : ℤ) → is_among numbers n ≡ true
    → HasMember (fold (λ range m. joined range (single m)) start numbers) n
fold-has start [] n is = absurd (false≢true is)
fold-has start (m ∷ numbers) n is =
    ⊎_elim
    (λ here.
    let same : m ≡ n = (Decides-int_eq m n).0 here in
    fold-keeps (joined start (single m)) numbers n
    (joined-has_right start (single m) n (omega (arith, ints, same), omega (arith, ints, same))))
    (λ later. fold-has (joined start (single m)) numbers n later)
    (or_cases (int_eq m n) (is_among numbers n) is)

-- the hull of some numbers has each of them
pub among-hull : (numbers : List ℤ) (n : ℤ) → is_among numbers n ≡ true → HasMember (hull numbers) n
among-hull numbers n is = fold-has vacant numbers n is

pub hull-has : (numbers : List ℤ) (n : ℤ) → Contains numbers n → HasMember (hull numbers) n
hull-has numbers n has = among-hull numbers n ((Decides-among numbers n).1 has)

fold-least : (start : Interval) (numbers : List ℤ) (outer : Interval) → Includes outer start
    → ((n : ℤ) → is_among numbers n ≡ true → HasMember outer n)
    → Includes outer (fold (λ range m. joined range (single m)) start numbers)
fold-least start [] outer begins each = begins
fold-least start (m ∷ numbers) outer begins each =
    let own : HasMember outer m = each m (or_left (int_eq m m) (is_among numbers m) ((Decides-int_eq m m).1 refl)) in
    fold-least (joined start (single m)) numbers outer
    (joined-least start (single m) outer begins
    (λ n here. (omega (arith, ints, own.0, here.0), omega (arith, ints, own.1, here.1))))
    (λ n later. each n (or_right (int_eq m n) (is_among numbers n) later))

-- and no range that has each of them leaves one of its numbers out
pub hull-least : (numbers : List ℤ) (outer : Interval) → ((n : ℤ) → Contains numbers n → HasMember outer n)
    → Includes outer (hull numbers)
hull-least numbers outer each =
    fold-least vacant numbers outer (λ n none. absurd (omega (arith, ints, none.0, none.1)))
    (λ n is. each n ((Decides-among numbers n).0 is))

-- a number of a range that is one of some numbers lies in the common part of the range and their hull
pub common-hull-has : (range : Interval) (numbers : List ℤ) (n : ℤ) → HasMember range n → Contains numbers n
    → HasMember (common range (hull numbers)) n
common-hull-has range numbers n inside has = common-has range (hull numbers) n inside (hull-has numbers n has)

fold-plain : (start : Interval) (numbers : List ℤ) → IsPlain start
    → IsPlain (fold (λ range n. joined range (single n)) start numbers)
fold-plain start [] plain = plain
fold-plain start (n ∷ numbers) plain =
    fold-plain (joined start (single n)) numbers
    (inr (has-present (joined start (single n)) n (joined-has_right start (single n) n (omega (arith, ints), omega (arith, ints)))))

-- the hull of no numbers is written as the vacant range
pub hull-plain : (numbers : List ℤ) → IsPlain (hull numbers)
hull-plain numbers = fold-plain vacant numbers (inl refl)

-- a plain range is what its numbers are
same-plain : (a b : Interval) → IsPlain a → IsPlain b → Includes a b → Includes b a → a ≡ b
same-plain a b (inl none) (inl none') one other = none ∙ sym none'
same-plain a b (inl none) (inr present) one other =
    let first : HasMember a b.first = one b.first (omega (arith, ints), present-ordered b present) in
    absurd (false≢true (sym (has-present vacant b.first (subst (λ (r : Interval). HasMember r b.first) none first))))
same-plain a b (inr present) (inl none) one other =
    let first : HasMember b a.first = other a.first (omega (arith, ints), present-ordered a present) in
    absurd (false≢true (sym (has-present vacant a.first (subst (λ (r : Interval). HasMember r a.first) none first))))
same-plain a b (inr present) (inr present') one other =
    let left = present-ordered a present in
    let right = present-ordered b present' in
    let a-first = other a.first (omega (arith, ints), left) in
    let a-last = other a.last (left, omega (arith, ints)) in
    let b-first = one b.first (omega (arith, ints), right) in
    let b-last = one b.last (right, omega (arith, ints)) in
    same_ends a b.first b.last (omega (arith, ints, a-first.0, b-first.0)) (omega (arith, ints, a-last.1, b-last.1))

-- the hull is the same in whatever order the numbers stand
pub hull-permuted : (numbers sorted : List ℤ) → IsPermutation numbers sorted → hull sorted ≡ hull numbers
hull-permuted numbers sorted permuted =
    same-plain (hull sorted) (hull numbers) (hull-plain sorted) (hull-plain numbers)
    (hull-least numbers (hull sorted) (λ n has. hull-has sorted n (Contains-permutation numbers sorted n permuted has)))
    (hull-least sorted (hull numbers)
    (λ n has. hull-has numbers n (Contains-permutation sorted numbers n (IsPermutation-sym numbers sorted permuted) has)))

-- one number more
pub hull-more : (numbers : List ℤ) (i : ℕ) (d : ℤ) (before one more : Interval) → i < length numbers → before ≡ hull (take i numbers)
    → one ≡ between (get_or numbers i d) (get_or numbers i d) → more ≡ joined before one → more ≡ hull (take (i + 1) numbers)
hull-more numbers i d before one more inside so_far one-is grown =
    grown
    ∙ ap (λ range. joined range one) so_far
    ∙ ap (joined (hull (take i numbers))) (one-is ∙ between-same (get_or numbers i d))
    ∙ sym (fold_more (λ range n. joined range (single n)) vacant numbers i d inside)

-- ---- covered ranges

gap-is : (first n : ℤ) → first ≤ℤ n → first +ℤ pos (int_gap first n) ≡ n
gap-is (pos a) (pos b) low = omega (arith, ints)
gap-is (pos a) (negsuc b) low = absurd low.le
gap-is (negsuc a) (pos b) low = omega (arith, ints)
gap-is (negsuc a) (negsuc b) low = omega (arith, ints)

gap-none : (first n : ℤ) → n <ℤ first → int_gap first n ≡ 0
gap-none (pos a) (pos b) below = omega (arith, ints)
gap-none (pos a) (negsuc b) below = refl
gap-none (negsuc a) (pos b) below = absurd below.lt
gap-none (negsuc a) (negsuc b) below = omega (arith, ints)

-- how far a number of a range is above the first one
gap-member : (range : Interval) (n : ℤ) → HasMember range n → int_gap range.first n < int_gap range.first (range.last +ℤ pos 1)
gap-member range n (low, high) =
    let own = gap-is range.first n low in
    let all = gap-is range.first (range.last +ℤ pos 1) (omega (arith, ints)) in
    omega (arith, ints, own, all)

-- what is so far above the first number of a range is a number of it
gap-inside : (range : Interval) (k : ℕ) → k < int_gap range.first (range.last +ℤ pos 1) → HasMember range (range.first +ℤ pos k)
gap-inside range k below =
    by_lt_z (range.last +ℤ pos 1) range.first
    (λ none. absurd (omega (arith, gap-none range.first (range.last +ℤ pos 1) none)))
    (λ some.
    let all = gap-is range.first (range.last +ℤ pos 1) some in
    (omega (arith, ints), omega (arith, ints, all)))

-- a range is covered where each of its numbers is one of the numbers
pub Decides-covered : (range : Interval) (numbers : List ℤ)
    → Decides (is_covered range numbers) ((n : ℤ) → HasMember range n → Contains numbers n)
unfolding is_covered
Decides-covered range numbers =
    let count = int_gap range.first (range.last +ℤ pos 1) in
    let Has : ℕ → Type 0 = λ k. Contains numbers (range.first +ℤ pos k) in
    let has : ℕ → Bool = λ k. is_among numbers (range.first +ℤ pos k) in
    Decides-like (is_covered range numbers)
    (λ (all : All Has (range_with_len 0 count)). λ n inside.
    let k = int_gap range.first n in
    let below : k < count = gap-member range n inside in
    let at : get_or (range_with_len 0 count) k 0 ≡ k = get_or-range_with_len 0 count k 0 below ∙ omega arith in
    let here : Has (get_or (range_with_len 0 count) k 0) = all k 0 (omega (arith, length-range_with_len 0 count)) in
    subst (Contains numbers) (gap-is range.first n inside.0) (subst Has at here))
    (λ each. λ k d below.
    let less : k < count = omega (arith, length-range_with_len 0 count) in
    let at : get_or (range_with_len 0 count) k d ≡ k = get_or-range_with_len 0 count k d less ∙ omega arith in
    subst Has (sym at) (each (range.first +ℤ pos k) (gap-inside range k less)))
    (Decides-at (is_covered range numbers) (list_all has (range_with_len 0 count))
    (list_all-map (is_among numbers) (λ k. range.first +ℤ pos k) (range_with_len 0 count))
    (Decides-by_and has Has (list_all has) (λ k. Decides-among numbers (range.first +ℤ pos k)) refl (λ _ _. refl)
    (range_with_len 0 count)))

-- each number of a covered range is one of the numbers
pub covered-among : (range : Interval) (numbers : List ℤ) (n : ℤ) → is_covered range numbers ≡ true → HasMember range n
    → is_among numbers n ≡ true
covered-among range numbers n covered inside =
    (Decides-among numbers n).1 ((Decides-covered range numbers).0 covered n inside)

-- a range is covered in whatever order the numbers stand
pub is_covered-permuted : (range : Interval) (numbers sorted : List ℤ) → IsPermutation numbers sorted
    → is_covered range sorted ≡ is_covered range numbers
is_covered-permuted range numbers sorted permuted =
    same_from_decides (is_covered range sorted) (is_covered range numbers) (Decides-covered range sorted)
    (Decides-like (is_covered range numbers)
    (λ each. λ n inside. Contains-permutation numbers sorted n permuted (each n inside))
    (λ each. λ n inside. Contains-permutation sorted numbers n (IsPermutation-sym numbers sorted permuted) (each n inside))
    (Decides-covered range numbers))

-- the first number from the first of a range on that is none of the numbers lies behind the last where the range is covered
pub covered-behind : (range : Interval) (numbers : List ℤ) (other : ℤ) → IsFirstOther range.first numbers other
    → Decides (int_lt range.last other) ((n : ℤ) → HasMember range n → Contains numbers n)
covered-behind range numbers other (low, each, none) = (
  λ behind n inside. each n inside.0 (grind (arith, ints, inside.1, behind)),
  λ all. by_lt_z range.last other
      (λ behind. grind (arith, ints))
      (λ inside. absurd (none (all other (low, inside)))),
)

-- ---- the first other number

not_less : (x y : ℤ) → is_lt (int_cmp x y) ≡ false → y ≤ℤ x
not_less x y above = by_lt_z x y (λ less. absurd (grind (arith, ints))) (λ holds. holds)

-- none of the first numbers of an ascending list is greater than the last of these
taken-below : (numbers : List ℤ) (i : ℕ) (d n : ℤ) → IsSorted int_cmp numbers → i < length numbers
    → Contains (take (i + 1) numbers) n → n ≤ℤ get_or numbers i d
taken-below numbers i d n sorted inside (k, below, is) =
    let less : k < i + 1 = omega (arith, length-take (i + 1) numbers) in
    let at : get_or numbers k n ≡ n = sym (get_or-take (i + 1) numbers k n less) ∙ is in
    let up : is_lt (int_cmp (get_or numbers i n) (get_or numbers k n)) ≡ false =
    sorted_far (λ x y. is_lt (int_cmp x y)) (ranks_by int_cmp_total (λ x. x)) numbers sorted k i n (omega arith) inside in
    let ordered : get_or numbers k n ≤ℤ get_or numbers i n = not_less (get_or numbers i n) (get_or numbers k n) up in
    omega (arith, ints, at, get_or_default numbers i n d inside)

-- it was the next number
pub other-next : (first : ℤ) (numbers : List ℤ) (i : ℕ) (d other : ℤ) → IsSorted int_cmp numbers → i < length numbers
    → IsFirstOther first (take i numbers) other → get_or numbers i d ≡ other
    → IsFirstOther first (take (i + 1) numbers) (other +ℤ pos 1)
other-next first numbers i d other sorted inside (low, each, none) is = (
  omega (arith, ints, low),
  λ n from to. by_lt_z n other
      (λ below. subst (λ xs. Contains xs n) (sym (take_more numbers i d inside))
      (Contains-append_left (take i numbers) (get_or numbers i d ∷ []) n (each n from below)))
      (λ above.
      let same : get_or numbers i d ≡ n = omega (arith, ints, is, above, to) in
      subst (λ xs. Contains xs n) (sym (take_more numbers i d inside))
      (subst (Contains (take i numbers ++ get_or numbers i d ∷ [])) same (Contains-push (take i numbers) (get_or numbers i d)))),
  λ has. absurd (omega (arith, ints, is, taken-below numbers i d (other +ℤ pos 1) sorted inside has)),
)

-- or wasn't
pub other-stays : (first : ℤ) (numbers : List ℤ) (i : ℕ) (d other : ℤ) → i < length numbers
    → IsFirstOther first (take i numbers) other → (get_or numbers i d ≡ other → ⊥)
    → IsFirstOther first (take (i + 1) numbers) other
other-stays first numbers i d other inside (low, each, none) apart = (
  low,
  λ n from to. subst (λ xs. Contains xs n) (sym (take_more numbers i d inside))
      (Contains-append_left (take i numbers) (get_or numbers i d ∷ []) n (each n from to)),
  λ has. ⊎_elim none apart
      (Contains-push_cases (take i numbers) (get_or numbers i d) other
      (subst (λ xs. Contains xs other) (take_more numbers i d inside) has)),
)

-- none of no numbers
pub other-begins : (first : ℤ) → IsFirstOther first [] first
other-begins first = (omega (arith, ints), λ n from to. absurd (omega (arith, ints, from, to)), λ has. absurd (omega (arith, has.1)))
