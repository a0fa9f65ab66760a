-- What holds of each element of a list that is taken or made from another, or to which elements were added.
use Rattle.std.proofs.Common.{arith, ◌≡◌, ◌⊎◌, ⊎_elim, inl, inr, refl, subst, ℕ, zero, suc, Bool, true, false, nat_eq, List, [], ◌∷◌, Option, Some, None}
use Rattle.std.specs.List.{Contains, cons_option, filter, filter_map, list_any}
use Rattle.std.specs.declared.cmp.Ordering.{Ordering}
use Rattle.std.specs.declared.cmp.Ordering.TheVariants.{Less, Equal, Greater}
use Rattle.std.proofs.lemmas.Bool.{both_ways, eq-eqb, false_from_ne_true}
use Rattle.std.proofs.lemmas.List.Elements.{All-contains, All-contains_itself, All-filter, filter_passes}
use Rattle.std.proofs.lemmas.List.Folds.{Any-from_list_any, list_any-from_Any}
use Rattle.checker_state.specs.State.{Held, held_order, put, with_more, with_one}
use Rattle.checker_state.specs.Loops.{is_among}

-- what holds of each element
abbrev pub Each : {A : Type 0} → (A → Type 0) → List A → Type 0
Each {A} P list = (one : A) → Contains list one → P one

-- ---- the first element, and the others

pub at-head : {A : Type 0} (x : A) (list : List A) → Contains (x ∷ list) x
at-head x list = (0, omega arith, refl)

pub in-tail : {A : Type 0} (x y : A) (list : List A) → Contains list y → Contains (x ∷ list) y
in-tail x y list (k, within, is) = (suc k, omega (arith, within), is)

pub head-or_tail : {A : Type 0} (x y : A) (list : List A) → Contains (x ∷ list) y → (x ≡ y) ⊎ Contains list y
head-or_tail x y list (zero, within, is) = inl is
head-or_tail x y list (suc k, within, is) = inr (k, omega (arith, within), is)

pub in-none : {A : Type 0} (x : A) → Contains [] x → ⊥
in-none x (k, within, is) = omega (arith, within)

each-cons : {A : Type 0} (P : A → Type 0) (x : A) (list : List A) → P x → Each P list → Each P (x ∷ list)
each-cons P x list first rest one inside = ⊎_elim (λ same. subst P same first) (rest one) (head-or_tail x one list inside)

-- ---- those that pass a test

pub in-filter : {A : Type 0} (test : A → Bool) (list : List A) (one : A) → Contains (filter test list) one → Contains list one × (test one ≡ true)
in-filter test list one inside = (
  All-contains (Contains list) (filter test list) one (All-filter test (Contains list) list (All-contains_itself list)) inside,
  All-contains (λ x. test x ≡ true) (filter test list) one (filter_passes test list) inside,
)

pub any-in : {A : Type 0} (test : A → Bool) (list : List A) → list_any test list ≡ true → (one : A) × Contains list one × (test one ≡ true)
any-in test list is = let found = Any-from_list_any test list is in (found.1, (found.0, found.2, found.3), found.4)

pub none-in : {A : Type 0} (test : A → Bool) (list : List A) → list_any test list ≡ false → Each (λ one. test one ≡ false) list
none-in test list none one (k, within, is) =
    false_from_ne_true (test one) (λ passes. both_ways (list_any test list) none (list_any-from_Any test list (k, one, within, is, passes)))

-- a number that isn't among some is none of them
pub not-among : (number : ℕ) (numbers : List ℕ) → is_among number numbers ≡ false → Contains numbers number → ⊥
not-among number numbers is inside =
    both_ways (nat_eq number number) (none-in (λ other. nat_eq other number) numbers is number inside) (eq-eqb number number refl)

-- ---- what elements become

first-becomes : {A B : Type 0} (change : A → Option B) (first : A) (rest : List A) (one : B) (found : Option B) (more : List B) → change first ≡ found
    → (Contains more one → (old : A) × Contains rest old × (change old ≡ Some one)) → Contains (cons_option found more) one
    → (old : A) × Contains (first ∷ rest) old × (change old ≡ Some one)
first-becomes change first rest one None more is later inside =
    let old = later inside in
    (old.0, in-tail first old.0 rest old.1, old.2)
first-becomes change first rest one (Some new) more is later inside =
    ⊎_elim (λ same. (first, at-head first rest, subst (λ b. change first ≡ Some b) same is))
    (λ behind. let old = later behind in (old.0, in-tail first old.0 rest old.1, old.2)) (head-or_tail new one more inside)

pub in-filter_map : {A B : Type 0} (change : A → Option B) (list : List A) (one : B) → Contains (filter_map change list) one
    → (old : A) × Contains list old × (change old ≡ Some one)
in-filter_map change [] one inside = absurd (in-none one inside)
in-filter_map change (first ∷ rest) one inside =
    first-becomes change first rest one (change first) (filter_map change rest) refl (in-filter_map change rest one) inside

-- ---- what is added to what is held

put-each : (P : Held → Type 0) (order : Ordering) (one first : Held) (rest longer : List Held) → P one → Each P (first ∷ rest) → Each P longer
    → Each P (put order one first rest longer)
put-each P Less one first rest longer so each more = each-cons P one (first ∷ rest) so each
put-each P Equal one first rest longer so each more = each
put-each P Greater one first rest longer so each more = each-cons P first longer (each first (at-head first rest)) more

pub with_one-each : (P : Held → Type 0) (one : Held) (held : List Held) → P one → Each P held → Each P (with_one one held)
with_one-each P one [] so each = each-cons P one [] so each
with_one-each P one (first ∷ rest) so each =
    put-each P (held_order one first) one first rest (with_one one rest) so each
    (with_one-each P one rest so (λ other inside. each other (in-tail first other rest inside)))

pub with_more-each : (P : Held → Type 0) (more held : List Held) → Each P more → Each P held → Each P (with_more more held)
with_more-each P [] held of_more each = each
with_more-each P (one ∷ more) held of_more each =
    with_more-each P more (with_one one held) (λ other inside. of_more other (in-tail one other more inside))
    (with_one-each P one held (of_more one (at-head one more)) each)
