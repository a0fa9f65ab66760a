-- Places that come one before another.
use Rattle.std.proofs.Common.{◌≡◌, ℕ, ◌+◌, ◌<◌, ◌⊎◌, inl, inr, Bool, true, false, ◌==◌, if◌then◌else◌, ◌&&◌, ◌||◌, nat_eq, nat_lt, IsTrue, List, [], ◌∷◌}
use Rattle.std.proofs.Common.{length, refl, sym, subst, arith}
use Rattle.std.proofs.lemmas.Bool.{ltb-true, lt-ltb, eqb-true, eq-eqb}
use Rattle.place.specs.declared.Place.{Place}
use Rattle.place.specs.Place.{past, place_after, comes_before, ArePlacesInOrder}

-- on a line before, or on the same line at a column before
abbrev pub Earlier : Place → Place → Type 0
Earlier a b = (a.line < b.line) ⊎ ((a.line ≡ b.line) × (a.column < b.column))

either : (a b c : Bool) → IsTrue (a || (b && c)) → (a ≡ true) ⊎ ((b ≡ true) × (c ≡ true))
either true b c h = inl refl
either false true true h = inr (refl, refl)
either false true false h = cc
either false false c h = cc

earlier_of : (a b : Place) → (nat_lt a.line b.line ≡ true) ⊎ ((nat_eq a.line b.line ≡ true) × (nat_lt a.column b.column ≡ true)) → Earlier a b
earlier_of a b (inl h) = inl (ltb-true a.line b.line h)
earlier_of a b (inr h) = inr (eqb-true a.line b.line h.0, ltb-true a.column b.column h.1)

pub earlier : (a b : Place) → IsTrue (comes_before a b) → Earlier a b
earlier a b h = earlier_of a b (either (nat_lt a.line b.line) (nat_eq a.line b.line) (nat_lt a.column b.column) h)

on_a_line : (a b c : Bool) → a ≡ true → IsTrue (a || (b && c))
on_a_line true b c h = refl
on_a_line false b c h = cc

at_a_column : (a b c : Bool) → b ≡ true → c ≡ true → IsTrue (a || (b && c))
at_a_column true b c h k = refl
at_a_column false true true h k = refl
at_a_column false true false h k = cc
at_a_column false false c h k = cc

pub comes_if : (a b : Place) → Earlier a b → IsTrue (comes_before a b)
comes_if a b (inl h) = on_a_line (nat_lt a.line b.line) (nat_eq a.line b.line) (nat_lt a.column b.column) (lt-ltb a.line b.line h)
comes_if a b (inr h) =
    at_a_column (nat_lt a.line b.line) (nat_eq a.line b.line) (nat_lt a.column b.column) (eq-eqb a.line b.line h.0) (lt-ltb a.column b.column h.1)

earlier_still : (a b c : Place) → Earlier a b → Earlier b c → Earlier a c
earlier_still a b c (inl h) (inl k) = inl (omega arith)
earlier_still a b c (inl h) (inr k) = inl (omega arith)
earlier_still a b c (inr h) (inl k) = inl (omega arith)
earlier_still a b c (inr h) (inr k) = inr (omega arith, omega arith)

-- a place before one that comes before a third comes before the third
pub comes_still : (a b c : Place) → IsTrue (comes_before a b) → IsTrue (comes_before b c) → IsTrue (comes_before a c)
comes_still a b c h k = comes_if a c (earlier_still a b c (earlier a b h) (earlier b c k))

-- the second of places in order can be left out, and the first
pub without_second : (a b : Place) (others : List Place) → ArePlacesInOrder (a ∷ b ∷ others) → ArePlacesInOrder (a ∷ others)
without_second a b [] h = tt
without_second a b (c ∷ others) h = (comes_still a b c h.0 h.1.0, h.1.1)

pub without_first : (a : Place) (others : List Place) → ArePlacesInOrder (a ∷ others) → ArePlacesInOrder others
without_first a [] h = tt
without_first a (b ∷ others) h = h.1

past_moves : (p : Place) (b : ℕ) (ends : Bool) → (b == 10) ≡ ends → IsTrue (comes_before p (past p b))
past_moves p b true e = subst (λ x. IsTrue
    (comes_before p (if x then record { line = p.line + 1; column = 1 } else record { line = p.line; column = p.column + 1 }))) (sym e)
    (comes_if p (record { line = p.line + 1; column = 1 }) (inl (omega arith)))
past_moves p b false e = subst (λ x. IsTrue
    (comes_before p (if x then record { line = p.line + 1; column = 1 } else record { line = p.line; column = p.column + 1 }))) (sym e)
    (comes_if p (record { line = p.line; column = p.column + 1 }) (inr (refl, omega arith)))

-- a byte moves its place on
pub past_behind : (p : Place) (b : ℕ) → IsTrue (comes_before p (past p b))
past_behind p b = past_moves p b (b == 10) refl

after_still : (q p : Place) (bytes : List ℕ) → IsTrue (comes_before q p) → IsTrue (comes_before q (place_after p bytes))
after_still q p [] h = h
after_still q p (b ∷ bs) h = after_still q (past p b) bs (comes_still q p (past p b) h (past_behind p b))

-- a place comes before the one just past bytes that begin there
pub after_behind : (p : Place) (bytes : List ℕ) → 0 < length bytes → IsTrue (comes_before p (place_after p bytes))
after_behind p [] h = absurd (omega arith)
after_behind p (b ∷ bs) h = after_still p (past p b) bs (past_behind p b)
