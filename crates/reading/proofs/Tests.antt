-- What tests tell.
use Rattle.std.proofs.Common.{◌≡◌, ℕ, ◌≤◌, Bool, true, false, ◌&&◌, nat_eq, nat_le, List, [], ◌∷◌, refl, arith}
use Rattle.std.specs.Cmp.Lexicographic.{pointwise}
use Rattle.std.proofs.lemmas.Bool.{eq-eqb, eqb-true}
use Rattle.std.proofs.lemmas.Bool.Decides.{nat_tests}

pub and_left : (a b : Bool) → a && b ≡ true → a ≡ true
and_left true b h = refl
and_left false b h = absurd cc

pub and_right : (a b : Bool) → a && b ≡ true → b ≡ true
and_right true b h = h
and_right false b h = absurd cc

pub and_true : (a b : Bool) → a ≡ true → b ≡ true → a && b ≡ true
and_true true b h k = k
and_true false b h k = absurd cc

pub at_least : (a b : ℕ) → nat_le a b ≡ true → a ≤ b
at_least a b h = grind (arith, nat_tests)

pub is_at_least : (a b : ℕ) → a ≤ b → nat_le a b ≡ true
is_at_least a b h = grind (arith, nat_tests)

pub same_letters : (xs ys : List ℕ) → pointwise nat_eq xs ys ≡ true → xs ≡ ys
same_letters [] [] h = refl
same_letters [] (y ∷ ys) h = absurd cc
same_letters (x ∷ xs) [] h = absurd cc
same_letters (x ∷ xs) (y ∷ ys) h =
    let first = eqb-true x y (and_left (nat_eq x y) (pointwise nat_eq xs ys) h) in
    let others = same_letters xs ys (and_right (nat_eq x y) (pointwise nat_eq xs ys) h) in
    cc

pub letters_same : (xs : List ℕ) → pointwise nat_eq xs xs ≡ true
letters_same [] = refl
letters_same (x ∷ xs) = and_true (nat_eq x x) (pointwise nat_eq xs xs) (eq-eqb x x refl) (letters_same xs)
