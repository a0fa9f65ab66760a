use Rattle.std.proofs.Common.{arith, ◌≡◌, ◌∙◌, sym, ap, refl, ℕ, ◌+◌, ◌<◌, ◌≤◌, Bool, true, false, ◌==◌, nat_lt, cond, List, [], ◌∷◌, ◌++◌, length, take}
use Rattle.std.proofs.Common.{append-nil, get_or, Result, Ok, Err}
use Rattle.std.proofs.lemmas.Bool.Decides.{nat_tests}
use Rattle.std.proofs.lemmas.List.Sorted.{searched, sorted_far, list_any-IsPermutation, ranks_by}
use Rattle.std.proofs.lemmas.Cmp.{nat_cmp_total}
use Rattle.std.proofs.lemmas.List.{get_or_read}
use Rattle.std.proofs.lemmas.List.Elements.{filter_more}
use Rattle.std.proofs.lemmas.List.Folds.{list_any_at, Any-from_list_any}
use Rattle.std.specs.List.{list_any, Any, filter}
use Rattle.typed_tree.specs.declared.site.Site.{Site}
use Rattle.cert_checker.specs.Promise.{open_in}
use Rattle.std.specs.List.Sorted.{IsSorted, IsPermutation, IsBinarySearchResult}
use Rattle.std.specs.Ordering.{nat_cmp, is_lt}
use Rattle.std.specs.Result.{is_ok}

not_lt : (x y : ℕ) → is_lt (nat_cmp x y) ≡ false → y ≤ x
not_lt x y no_lt = grind (arith, nat_tests)

rises : (xs : List ℕ) → IsSorted nat_cmp xs → (i j : ℕ) → i ≤ j → j < length xs → get_or xs i 0 ≤ get_or xs j 0
rises xs sorted i j le inside =
    let not_below : is_lt (nat_cmp (get_or xs j 0) (get_or xs i 0)) ≡ false =
    sorted_far (λ x y. is_lt (nat_cmp x y)) (ranks_by nat_cmp_total (λ x. x)) xs sorted i j 0 le inside in
    not_lt (get_or xs j 0) (get_or xs i 0) not_below

found-among : (xs : List ℕ) (x i : ℕ) → i < length xs → get_or xs i 0 ≡ x → list_any (λ y. y == x) xs ≡ true
found-among xs x i inside is = list_any_at (λ y. y == x) xs i 0 inside (grind (arith, nat_tests))

same : (x y : ℕ) → (x == y) ≡ true → x ≡ y
same x y is = grind (arith, nat_tests)

none-among : (xs : List ℕ) (x : ℕ) (any : Bool) → list_any (λ y. y == x) xs ≡ any → ((k : ℕ) → k < length xs → get_or xs k 0 ≡ x → ⊥) → any ≡ false
none-among xs x true is none =
    let found : Any (λ y. (y == x) ≡ true) xs = Any-from_list_any (λ y. y == x) xs is in
    absurd (none found.0 found.2 (sym (get_or_read xs found.0 found.1 found.2 (sym found.3) 0) ∙ same found.1 x found.4))
none-among xs x false is none = refl

-- no number of a list that jumps over x is x
apart : (xs : List ℕ) (x i k : ℕ) (before : Bool) → nat_lt k i ≡ before → ((n : ℕ) → n < i → get_or xs n 0 < x) → ((n : ℕ) → i ≤ n → n < length xs
    → x < get_or xs n 0) → k < length xs → get_or xs k 0 ≡ x → ⊥
apart xs x i k true is below above inside same =
    let before : k < i = grind (arith, nat_tests) in
    let less : get_or xs k 0 < x = below k before in
    omega arith
apart xs x i k false is below above inside same =
    let behind : i ≤ k = grind (arith, nat_tests) in
    let more : x < get_or xs k 0 = above k behind inside in
    omega arith

-- a binary search over ascending numbers tells whether a number is among them
pub among : (xs : List ℕ) (x : ℕ) (r : Result ℕ ℕ) → IsSorted nat_cmp xs → IsBinarySearchResult (λ y. nat_cmp y x) xs r → is_ok r ≡ list_any (λ y. y == x) xs
among xs x (Ok i) sorted result =
    let at = searched xs x (Ok i) result (rises xs sorted) in
    sym (found-among xs x i at.0 at.1)
among xs x (Err i) sorted result =
    let at = searched xs x (Err i) result (rises xs sorted) in
    sym (none-among xs x (list_any (λ y. y == x) xs) refl (λ k inside is. apart xs x i k (nat_lt k i) refl at.1 at.2 inside is))

filter-same : {X : Type 0} (p q : X → Bool) → ((x : X) → p x ≡ q x) → (xs : List X) → filter p xs ≡ filter q xs
filter-same p q same [] = refl
filter-same p q same (x ∷ xs) =
    ap (λ t. cond t (x ∷ filter p xs) (filter p xs)) (same x)
    ∙ ap (λ more. cond (q x) (x ∷ more) more) (filter-same p q same xs)

-- the sites with these ids are the same in whatever order the ids stand
pub open_in-permuted : (ids sorted : List ℕ) (sites : List Site) → IsPermutation ids sorted → open_in sorted sites ≡ open_in ids sites
open_in-permuted ids sorted sites permuted =
    filter-same (λ site. list_any (λ id. id == site.id) sorted) (λ site. list_any (λ id. id == site.id) ids)
    (λ site. sym (list_any-IsPermutation (λ id. id == site.id) ids sorted permuted)) sites

-- one site more
open_in-more : (ids : List ℕ) (sites : List Site) (i : ℕ) (d : Site) (found : List Site) (is : Bool) → i < length sites → found ≡ open_in ids (take i sites)
    → list_any (λ id. id == (get_or sites i d).id) ids ≡ is
    → found ++ cond is (get_or sites i d ∷ []) [] ≡ open_in ids (take (i + 1) sites)
open_in-more ids sites i d found is inside so_far tells =
    let site = get_or sites i d in
    ap (λ f. f ++ cond is (site ∷ []) []) so_far ∙ ap (λ b. open_in ids (take i sites) ++ cond b (site ∷ []) []) (sym tells)
    ∙ sym (filter_more (λ s. list_any (λ id. id == s.id) ids) sites i d inside)

-- which is open
pub open_in-taken : (ids : List ℕ) (sites : List Site) (i : ℕ) (d : Site) (found more : List Site) (is : Bool) → i < length sites
    → found ≡ open_in ids (take i sites) → is ≡ list_any (λ id. id == (get_or sites i d).id) ids
    → is ≡ true → more ≡ found ++ (get_or sites i d ∷ []) → more ≡ open_in ids (take (i + 1) sites)
open_in-taken ids sites i d found more is inside so_far tells taken grown =
    grown ∙ open_in-more ids sites i d found true inside so_far (sym tells ∙ taken)

-- or isn't
pub open_in-left : (ids : List ℕ) (sites : List Site) (i : ℕ) (d : Site) (found more : List Site) (is : Bool) → i < length sites
    → found ≡ open_in ids (take i sites) → is ≡ list_any (λ id. id == (get_or sites i d).id) ids
    → is ≡ false → more ≡ found → more ≡ open_in ids (take (i + 1) sites)
open_in-left ids sites i d found more is inside so_far tells left kept =
    kept ∙ sym (append-nil found) ∙ open_in-more ids sites i d found false inside so_far (sym tells ∙ left)
