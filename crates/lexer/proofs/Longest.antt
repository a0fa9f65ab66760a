-- The longest front of a text that has a shape.
use Rattle.std.proofs.Common.{◌≡◌, ℕ, ◌<◌, ◌≤◌, zero, suc, List, take, drop, Some, None, inl, inr, refl, arith, subst, sym, ap}
use Rattle.std.proofs.Math.Nat.{eq-or-lt_of_le}
use Rattle.lexer.specs.Shape.{Shape, shape_of}
use Rattle.lexer.specs.Piece.{longest}

-- no front above m has a shape
abbrev pub NoLonger : ℕ → ℕ → List ℕ → Type 0
NoLonger m n text = (k : ℕ) → m < k → k ≤ n → shape_of (take k text) (drop k text) ≡ None

pub longest_none : (n : ℕ) (text : List ℕ) → NoLonger 0 n text → longest n text ≡ None
longest_none zero text h = refl
longest_none (suc n) text h =
    let e : shape_of (take (suc n) text) (drop (suc n) text) ≡ None = h (suc n) (omega arith) (omega arith) in
    rw e (longest_none n text (λ k p q. h k p (omega arith)))

pub longest_is : (n m : ℕ) (text : List ℕ) (s : Shape) → 0 < m → m ≤ n → shape_of (take m text) (drop m text) ≡ Some s → NoLonger m n text
    → longest n text ≡ Some (m, s)
longest_is zero m text s p q e h = absurd (omega arith)
longest_is (suc n) m text s p q e h = elim (eq-or-lt_of_le q) [
  | inl same ↦
      let here : shape_of (take (suc n) text) (drop (suc n) text) ≡ Some s = subst (λ k. shape_of (take k text) (drop k text) ≡ Some s) same e in
      rw here (ap (λ k. Some (k, s)) (sym same))
  | inr less ↦
      let none : shape_of (take (suc n) text) (drop (suc n) text) ≡ None = h (suc n) less (omega arith) in
      rw none (longest_is n m text s p (omega arith) e (λ k r t. h k r (omega arith)))
]
