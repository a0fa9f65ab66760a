-- Lists of which each item comes behind the one before it: numbers that ascend, what is kept of them, what is made of
-- them, and lists that are joined.
use Rattle.std.proofs.Common.{arith, ◌≡◌, ap, refl, ℕ, zero, suc, ◌+◌, ◌<◌, ◌≤◌, Bool, true, false, cond, ◌&&◌, List, [], ◌∷◌, ◌++◌, map, filter}
use Rattle.std.proofs.Common.{Option, Some, None}
use Rattle.std.specs.List.{range_with_len}
use Rattle.std.specs.Option.{option_map}
use Rattle.std.specs.Ordering.{is_lt, nat_cmp}
use Rattle.std.specs.Prelude.{nat_lt}
use Rattle.std.specs.declared.cmp.Ordering.{Ordering}
use Rattle.std.proofs.lemmas.Bool.{and_from, and_parts}
use Rattle.std.proofs.lemmas.Bool.Decides.{nat_tests}
use Rattle.certificate.specs.Contents.{are_listed, comes_behind}
use Rattle.plain_certificate.proofs.Items.{is-less}

-- ---- numbers that ascend

-- numbers, each greater than the one before it, and each right
abbrev pub ascends : (ℕ → Bool) → Option ℕ → List ℕ → Bool
ascends right last numbers = are_listed nat_cmp (λ number. number) right last numbers

less-behind : (a b : ℕ) → a < b → is_lt (nat_cmp a b) ≡ true
less-behind a b less = grind (arith, nat_tests)

between : (a b c : ℕ) → is_lt (nat_cmp a b) ≡ true → is_lt (nat_cmp b c) ≡ true → is_lt (nat_cmp a c) ≡ true
between a b c first second = grind (arith, nat_tests)

-- what comes behind a number comes behind an earlier one
pub earlier : (right : ℕ → Bool) (last : Option ℕ) (number : ℕ) (numbers : List ℕ) → comes_behind nat_cmp last number ≡ true
    → ascends right (Some number) numbers ≡ true → ascends right last numbers ≡ true
earlier right last number [] behind listed = refl
earlier right None number (next ∷ more) behind listed = (and_parts (is_lt (nat_cmp number next)) _ listed).1
earlier right (Some last) number (next ∷ more) behind listed =
    let parts = and_parts (is_lt (nat_cmp number next)) _ listed in
    and_from (is_lt (nat_cmp last next)) _ (between last number next behind parts.0) parts.1

-- what is kept of them ascends
pub kept : (test old right : ℕ → Bool) → ((number : ℕ) → test number ≡ true → old number ≡ true → right number ≡ true)
    → (last : Option ℕ) (numbers : List ℕ) → ascends old last numbers ≡ true → ascends right last (filter test numbers) ≡ true
kept test old right each last [] listed = refl
kept test old right each last (number ∷ more) listed =
    let parts = and_parts (comes_behind nat_cmp last number) _ listed in
    let rest = and_parts (old number) (ascends old (Some number) more) parts.1 in
    by (test number) refl parts.0 rest.0 (kept test old right each (Some number) more rest.1)
    (kept test old right each last more (earlier old last number more parts.0 rest.1))
  where
    by : (b : Bool) → test number ≡ b → comes_behind nat_cmp last number ≡ true → old number ≡ true
        → ascends right (Some number) (filter test more) ≡ true → ascends right last (filter test more) ≡ true
        → ascends right last (cond b (number ∷ filter test more) (filter test more)) ≡ true
    by true is behind was with without =
        and_from (comes_behind nat_cmp last number) _ behind (and_from (right number) _ (each number is was) with)
    by false is behind was with without = without

-- numbers that are right in one way are right in another
pub right-too : (old right : ℕ → Bool) → ((number : ℕ) → old number ≡ true → right number ≡ true) → (last : Option ℕ) (numbers : List ℕ)
    → ascends old last numbers ≡ true → ascends right last numbers ≡ true
right-too old right each last [] listed = refl
right-too old right each last (number ∷ more) listed =
    let parts = and_parts (comes_behind nat_cmp last number) _ listed in
    let rest = and_parts (old number) (ascends old (Some number) more) parts.1 in
    and_from (comes_behind nat_cmp last number) _ parts.0
    (and_from (right number) _ (each number rest.0) (right-too old right each (Some number) more rest.1))

-- the numbers from one up ascend
pub up-from : (last : Option ℕ) (start count bound : ℕ) → comes_behind nat_cmp last start ≡ true → start + count ≤ bound
    → ascends (λ number. nat_lt number bound) last (range_with_len start count) ≡ true
up-from last start zero bound behind within = refl
up-from last start (suc count) bound behind within =
    and_from (comes_behind nat_cmp last start) _ behind
    (and_from (nat_lt start bound) _ (is-less start bound (omega (arith, within)))
    (up-from (Some start) (start + 1) count bound (less-behind start (start + 1) (omega arith)) (omega (arith, within))))

-- ---- any lists

module _ {A C K : Type 0} (order : K → K → Ordering) (key : C → K) (right : C → Bool) (make : A → C) where
  -- what is made of items is in order as they are
  pub made : (last : Option A) (items : List A)
      → are_listed order key right (option_map (λ item. key (make item)) last) (map make items)
      ≡ are_listed (λ a b. order (key (make a)) (key (make b))) (λ item. item) (λ item. right (make item)) last items
  made last [] = refl
  made None (item ∷ more) = ap (λ (rest : Bool). right (make item) && rest) (made (Some item) more)
  made (Some last) (item ∷ more) =
      ap (λ (rest : Bool). is_lt (order (key (make last)) (key (make item))) && (right (make item) && rest)) (made (Some item) more)

  -- it may begin behind what it all comes behind
  pub begun : (last : Option K) → ((item : A) → comes_behind order last (key (make item)) ≡ true) → (items : List A)
      → are_listed order key right None (map make items) ≡ true → are_listed order key right last (map make items) ≡ true
  begun last behind [] listed = refl
  begun last behind (item ∷ more) listed = and_from (comes_behind order last (key (make item))) _ (behind item) listed

  -- other items may stand behind it, if they may behind each of it
  pub joined : (others : List C) → ((item : A) → are_listed order key right (Some (key (make item))) others ≡ true) → (last : Option K)
      → are_listed order key right last others ≡ true → (items : List A) → are_listed order key right last (map make items) ≡ true
      → are_listed order key right last (map make items ++ others) ≡ true
  joined others each last behind [] listed = behind
  joined others each last behind (item ∷ more) listed =
      let parts = and_parts (comes_behind order last (key (make item))) _ listed in
      let rest = and_parts (right (make item)) _ parts.1 in
      and_from (comes_behind order last (key (make item))) _ parts.0
      (and_from (right (make item)) _ rest.0 (joined others each (Some (key (make item))) (each item) more rest.1))

-- what is kept of what is made is made of what is kept
pub kept-made : {A C : Type 0} (test : C → Bool) (make : A → C) (items : List A)
    → filter test (map make items) ≡ map make (filter (λ item. test (make item)) items)
kept-made test make [] = refl
kept-made test make (item ∷ more) = by (test (make item)) (kept-made test make more)
  where
    by : (b : Bool) → filter test (map make more) ≡ map make (filter (λ one. test (make one)) more)
        → cond b (make item ∷ filter test (map make more)) (filter test (map make more))
        ≡ map make (cond b (item ∷ filter (λ one. test (make one)) more) (filter (λ one. test (make one)) more))
    by true rest = ap (λ (made : List _). make item ∷ made) rest
    by false rest = rest
