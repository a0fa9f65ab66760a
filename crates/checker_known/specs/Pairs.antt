-- What those tell together that stand beside one another in what is held. It does not say what is told of two.
use Rattle.std.specs.Prelude.{ℕ, zero, suc, ◌+◌, List, [], ◌∷◌}
use Rattle.checker_state.specs.State.{Held}

module _ (told : Held → Held → ℕ) where
  abbrev pub told_before : Held → List Held → ℕ
  told_before one [] = 0
  told_before one (next ∷ held) = told one next

  -- the sum of what is told of each and the next
  abbrev pub told_of : List Held → ℕ
  told_of [] = 0
  told_of (one ∷ held) = told_before one held + told_of held

  -- what is told of the one before a place and the one at it, if there are both
  abbrev pub told_at : ℕ → List Held → ℕ
  told_at place [] = 0
  told_at zero (one ∷ held) = 0
  told_at (suc zero) (one ∷ held) = told_before one held
  told_at (suc (suc place)) (one ∷ held) = told_at (suc place) held

  -- the same of a place and the next
  abbrev pub told_around : ℕ → List Held → ℕ
  told_around place held = told_at place held + told_at (suc place) held
