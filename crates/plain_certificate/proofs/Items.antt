-- Items of lists that are made one by one: what is pushed in a turn of a loop, and what is among them.
use Rattle.std.proofs.Common.{arith, ◌≡◌, ◌∙◌, sym, ap, ap₂, refl, ℕ, zero, suc, ◌+◌, ◌-◌, ◌<◌, ◌≤◌, Bool, true, false, cond, List, [], ◌∷◌, ◌++◌, length, map}
use Rattle.std.proofs.Common.{take, filter, get_or, append-nil, append_assoc}
use Rattle.std.specs.List.{Contains, list_all, range_with_len}
use Rattle.std.specs.Prelude.{flat_map, nat_lt}
use Rattle.std.proofs.lemmas.Bool.{and_from, false≢true}
use Rattle.std.proofs.lemmas.Bool.Decides.{nat_tests}
use Rattle.std.proofs.lemmas.List.{map-append, take_more}
use Rattle.std.proofs.lemmas.List.Concat.{flat_map-append}
use Rattle.std.proofs.lemmas.List.Elements.{filter_more}
use Rattle.std.proofs.lemmas.List.FromFn.{filter_of_map_range_with_len_more, get_or-range_with_len, length-range_with_len}
use Rattle.certificate.specs.declared.AliasPair.{AliasPair}
use Rattle.plain_certificate.specs.Widest.{pairs_with}

-- one more item of a list, each mapped
pub map-more : {A B C : Type 0} (f : A → C) (g : B → C) (made more : List A) (one : A) (items : List B) (i : ℕ) (d : B) → i < length items
    → map f made ≡ map g (take i items) → more ≡ made ++ one ∷ [] → f one ≡ g (get_or items i d) → map f more ≡ map g (take (i + 1) items)
map-more f g made more one items i d inside so_far grown same =
    ap (map f) grown ∙ map-append f made (one ∷ []) ∙ ap₂ (λ (a : List _) (x : _). a ++ x ∷ []) so_far same
    ∙ sym (ap (map g) (take_more items i d inside) ∙ map-append g (take i items) (get_or items i d ∷ []))

-- what is made of one item more
pub flat-more : {A B : Type 0} (f : A → List B) (made more : List B) (items : List A) (i : ℕ) (d : A) → i < length items
    → made ≡ flat_map f (take i items) → more ≡ made ++ f (get_or items i d) → more ≡ flat_map f (take (i + 1) items)
flat-more f made more items i d inside so_far grown =
    grown ∙ ap (λ (a : List _). a ++ f (get_or items i d)) so_far
    ∙ ap (λ (b : List _). flat_map f (take i items) ++ b) (sym (append-nil (f (get_or items i d))))
    ∙ sym (ap (flat_map f) (take_more items i d inside) ∙ flat_map-append f (take i items) (get_or items i d ∷ []))

pub is-less : (a b : ℕ) → a < b → nat_lt a b ≡ true
is-less a b less = grind (arith, nat_tests)

pub is-no-less : (a b : ℕ) → b ≤ a → nat_lt a b ≡ false
is-no-less a b most = grind (arith, nat_tests)

-- a pair more, or none
pub pairs-more : (before made more : List AliasPair) (first : ℕ) (others : List ℕ) (i d : ℕ) (behind : Bool) → i < length others
    → made ≡ before ++ pairs_with first (take i others) → nat_lt first (get_or others i d) ≡ behind
    → more ≡ made ++ cond behind (record { first = first; second = get_or others i d } ∷ []) []
    → more ≡ before ++ pairs_with first (take (i + 1) others)
pairs-more before made more first others i d behind inside so_far tells grown =
    grown ∙ ap (λ (a : List AliasPair). a ++ last behind) so_far ∙ append_assoc before (pairs_with first (take i others)) (last behind)
    ∙ ap (λ (b : List AliasPair). before ++ b)
    (sym
    (ap (map pair) (filter_more (nat_lt first) others i d inside)
    ∙ map-append pair (filter (nat_lt first) (take i others)) (cond (nat_lt first (get_or others i d)) (get_or others i d ∷ []) [])
    ∙ ap (λ (b : List AliasPair). pairs_with first (take i others) ++ b) (by (nat_lt first (get_or others i d)) tells)))
  where
    pair : ℕ → AliasPair
    pair second = record { first = first; second = second }

    last : Bool → List AliasPair
    last b = cond b (pair (get_or others i d) ∷ []) []

    by : (b : Bool) → b ≡ behind → map pair (cond b (get_or others i d ∷ []) []) ≡ last behind
    by true is = ap last is
    by false is = ap last is

-- an item more that passes, or none
pub kept-more : {A B : Type 0} (view : A → B) (f : ℕ → B) (test : B → Bool) (made more : List A) (one : A) (n : ℕ) (kept : Bool)
    → map view made ≡ filter test (map f (range_with_len 0 n)) → view one ≡ f n → test (view one) ≡ kept → more ≡ made ++ cond kept (one ∷ []) []
    → map view more ≡ filter test (map f (range_with_len 0 (n + 1)))
kept-more view f test made more one n kept so_far same tells grown =
    ap (map view) grown ∙ map-append view made (cond kept (one ∷ []) []) ∙ ap₂ (λ (a b : List _). a ++ b) so_far (by kept tells)
    ∙ sym (filter_of_map_range_with_len_more test f 0 n n (omega arith))
  where
    by : (b : Bool) → test (view one) ≡ b → map view (cond b (one ∷ []) []) ≡ cond (test (f n)) (f n ∷ []) []
    by true is = ap (λ (x : _). x ∷ []) same ∙ ap (λ (c : Bool). cond c (f n ∷ []) []) (sym is ∙ ap test same)
    by false is = ap (λ (c : Bool). cond c (f n ∷ []) []) (sym is ∙ ap test same)

-- ---- what is among them

pub in-range : (start count n : ℕ) → start ≤ n → n < start + count → Contains (range_with_len start count) n
in-range start count n least most =
    let plain : start + (n - start) ≡ n = omega (arith, least) in (
      n - start,
      omega (arith, least, most, length-range_with_len start count),
      get_or-range_with_len start count (n - start) n (omega (arith, least, most)) ∙ plain,
    )

pub in-filter : {A : Type 0} (test : A → Bool) (items : List A) (item : A) → Contains items item → test item ≡ true → Contains (filter test items) item
in-filter test [] item (k, within, at) is = absurd (omega (arith, within))
in-filter test (first ∷ items) item (zero, within, at) is = by (test first) (ap test at ∙ is)
  where
    by : (b : Bool) → b ≡ true → Contains (cond b (first ∷ filter test items) (filter test items)) item
    by true so = (0, omega arith, at)
    by false so = absurd (false≢true so)
in-filter test (first ∷ items) item (suc k, within, at) is = by (test first) (in-filter test items item (k, omega (arith, within), at) is)
  where
    by : (b : Bool) → Contains (filter test items) item → Contains (cond b (first ∷ filter test items) (filter test items)) item
    by true (i, inside, there) = (suc i, omega (arith, inside), there)
    by false later = later

pub all-from : {A : Type 0} (test : A → Bool) (items : List A) → ((item : A) → Contains items item → test item ≡ true) → list_all test items ≡ true
all-from test [] each = refl
all-from test (first ∷ items) each =
    and_from (test first) (list_all test items) (each first (0, omega arith, refl))
    (all-from test items (λ item inside. let (k, within, at) = inside in each item (suc k, omega (arith, within), at)))
