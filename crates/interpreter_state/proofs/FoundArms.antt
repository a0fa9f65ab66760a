-- The arm of a case at a value of its index.
use Rattle.std.proofs.Common.{◌≡◌, ℕ, ℤ, zero, suc, ◌<◌, List, [], ◌∷◌, Bool, true, false, Option, Some, None, Vec, Global}
use Rattle.std.proofs.Common.{drop, get_or, length, arith, sym, ◌∙◌, ap, refl, if◌then◌else◌}
use Rattle.typed_tree.specs.declared.tree.Stmt.{Stmt}
use Rattle.meaning.specs.Meaning.{is_among}
use Rattle.interpreter_state.specs.Answers.{arm_at}

none_without_arms : (rows : List (Vec ℤ Global)) (n : ℤ) → arm_at rows [] n ≡ None
none_without_arms [] n = refl
none_without_arms (row ∷ rows) n = refl

later_arm : (found : Bool) (arm : Stmt) (later : Option Stmt) → found ≡ false → later ≡ (if found then Some arm else later)
later_arm true arm later absent = let never : ⊥ = cc in absurd never
later_arm false arm later absent = refl

-- where a row doesn't hold the value, the arm is found behind it
pub arm-later : (place : ℕ) (rows : List (Vec ℤ Global)) (arms : List Stmt) (n : ℤ) (row : Vec ℤ Global) → place < length rows →
    row ≡ get_or rows place row → is_among row.items n ≡ false →
    arm_at (drop (suc place) rows) (drop (suc place) arms) n ≡ arm_at (drop place rows) (drop place arms) n
arm-later place [] arms n row there is absent = let never : ⊥ = omega (arith, there) in absurd never
arm-later zero (one ∷ rows) [] n row there is absent = none_without_arms rows n
arm-later zero (one ∷ rows) (arm ∷ arms) n row there is absent =
    later_arm (is_among one.items n) arm (arm_at rows arms n) (ap (λ (r : Vec ℤ Global). is_among r.items n) (sym is) ∙ absent)
arm-later (suc place) (one ∷ rows) [] n row there is absent = none_without_arms (drop (suc place) rows) n ∙ sym (none_without_arms (drop place rows) n)
arm-later (suc place) (one ∷ rows) (arm ∷ arms) n row there is absent = arm-later place rows arms n row (omega (arith, there)) is absent
