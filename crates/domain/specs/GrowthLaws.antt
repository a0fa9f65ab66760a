-- Proofs of the laws of growths, which the `impl` of `Domain` and the methods of `Growth` name. No promise rests on
-- reading them.
use Rattle.std.proofs.Common.{◌≡◌, ℕ, suc, ◌+◌, ℤ, pos, ◌+ℤ◌, ◌*ℤ◌, ◌≤ℤ◌, int_le, Bool, true, false, ◌&&◌, ◌↔◌}
use Rattle.std.proofs.Common.{arith, refl, ap, sym, subst, ◌∙◌, Option, Some, None, IsTrue, IfSome}
use Rattle.std.proofs.lemmas.Bool.{and_parts, cond_both}
use Rattle.std.proofs.lemmas.Int.{ints, clamps}
use Rattle.std.proofs.Math.IntN.{*ℤ_comm, *ℤ-zero, suc_ℤ-*ℤ}
use Rattle.std.specs.Int.{int_min, int_max}
use Rattle.domain.specs.declared.growth.Growth.{Growth}
use Rattle.domain.specs.Growths.{behind, HasPair, is_no_greater, is_within, joined, common, stepped, next, reach}
use Rattle.domain.specs.Growths.{written}
use Rattle.domain.specs.Interval.{Interval, HasMember, IsEnd, has_number, nearest_end}
use Rattle.domain.specs.Order.{times-le, product-between_right}
use Rattle.domain.specs.Ranges.{between-members}

-- ---- the order

-- where a number begins no less and its step is no less, it stays no less
behind-le : (k : ℕ) (begun step begun' step' : ℤ) → begun ≤ℤ begun' → step ≤ℤ step'
    → behind begun step (pos k) ≤ℤ behind begun' step' (pos k)
behind-le k begun step begun' step' first more =
    let below = times-le k step step' more in
    omega (arith, ints)

pub is-le : (x y : ℤ) → int_le x y ≡ true → x ≤ℤ y
is-le x y holds = grind (arith, ints)

no-greater : (begun step begun' step' : ℤ) → is_no_greater begun step begun' step' ≡ true
    → (begun ≤ℤ begun') × (step ≤ℤ step')
no-greater begun step begun' step' holds =
    let each = and_parts (int_le begun begun') (int_le step step') holds in
    (is-le begun begun' each.0, is-le step step' each.1)

-- numbers that are no less below and no greater above leave no member out
wider-has : (g h : Growth) (p : ℕ × ℤ) → h.first ≤ℤ g.first → h.first_step ≤ℤ g.first_step
    → g.last ≤ℤ h.last → g.last_step ≤ℤ h.last_step → HasPair g p → HasPair h p
wider-has g h (k, n) first first_step last last_step (low, high) =
    let below = behind-le k h.first h.first_step g.first g.first_step first first_step in
    let above = behind-le k g.last g.last_step h.last h.last_step last last_step in
    (omega (arith, ints, low, below), omega (arith, ints, high, above))

pub within-has : (g h : Growth) (p : ℕ × ℤ) → is_within g h ≡ true → HasPair g p → HasPair h p
within-has g h p within has =
    let each = and_parts (is_no_greater h.first h.first_step g.first g.first_step)
    (is_no_greater g.last g.last_step h.last h.last_step) within in
    let lower = no-greater h.first h.first_step g.first g.first_step each.0 in
    let upper = no-greater g.last g.last_step h.last h.last_step each.1 in
    wider-has g h p lower.0 lower.1 upper.0 upper.1 has

pub joined-has_pair_left : (g h : Growth) (p : ℕ × ℤ) → HasPair g p → HasPair (joined g h) p
joined-has_pair_left g h p has =
    wider-has g (joined g h) p
    (omega (arith, ints, clamps)) (omega (arith, ints, clamps)) (omega (arith, ints, clamps))
    (omega (arith, ints, clamps)) has

pub joined-has_pair_right : (g h : Growth) (p : ℕ × ℤ) → HasPair h p → HasPair (joined g h) p
joined-has_pair_right g h p has =
    wider-has h (joined g h) p
    (omega (arith, ints, clamps)) (omega (arith, ints, clamps)) (omega (arith, ints, clamps))
    (omega (arith, ints, clamps)) has

-- the meet is one of both
pub common-has_pair : (g h : Growth) (p : ℕ × ℤ) → HasPair g p → HasPair h p → HasPair (common g h) p
common-has_pair g h p left right =
    cond_both (is_within g h) g _ (λ r. HasPair r p)
    (λ _. left)
    (λ _. cond_both (is_within h g) h g (λ r. HasPair r p) (λ _. right) (λ _. left))

pub never_vacant : (g : Growth) (p : ℕ × ℤ) → HasPair g p → false ≡ false
never_vacant g p has = refl

-- ---- turns

behind-next : (begun step : ℤ) (k : ℕ) → behind (begun +ℤ step) step (pos k) ≡ behind begun step (pos (k + 1))
behind-next begun step k =
    let count : k + 1 ≡ suc k = omega arith in
    let more : step *ℤ pos (k + 1) ≡ (step *ℤ pos k) +ℤ step =
    ap (λ m. step *ℤ pos m) count
    ∙ *ℤ_comm step (pos (suc k)) ∙ suc_ℤ-*ℤ (pos k) step ∙ ap (λ z. z +ℤ step) (*ℤ_comm (pos k) step) in
    omega (arith, ints, more)

-- what holds of the next turn behind k turns holds behind one more
pub next-pairs : (g : Growth) (k : ℕ) (n : ℤ) → HasPair (next g) (k, n) ↔ HasPair g (k + 1, n)
next-pairs g k n =
    let first = behind-next g.first g.first_step k in
    let last = behind-next g.last g.last_step k in (
      λ has. (omega (arith, ints, first, has.0), omega (arith, ints, last, has.1)),
      λ has. (omega (arith, ints, first, has.0), omega (arith, ints, last, has.1)),
    )

pub within-next : (g begun : Growth) (test : Bool) → test ≡ is_within g (next begun) → IsTrue test
    → (k : ℕ) (n : ℤ) → HasPair g (k, n) → HasPair begun (k + 1, n)
within-next g begun test is holds k n has =
    (next-pairs begun k n).0 (within-has g (next begun) (k, n) (sym is ∙ holds) has)

-- ---- steps

-- a step adds a number of the range
moved-has : (range : Interval) (g : Growth) (k : ℕ) (n e : ℤ) → HasPair g (k, n) → HasMember range e
    → HasPair (record g { first = g.first +ℤ range.first; last = g.last +ℤ range.last }) (k, n +ℤ e)
moved-has range g k n e has inside =
    (omega (arith, ints, has.0, inside.0), omega (arith, ints, has.1, inside.1))

pub stepped-has : (range : Interval) (g : Growth) (more : Option Growth) → more ≡ stepped range g
    → IfSome more (λ more. (k : ℕ) (n e : ℤ) → HasPair g (k, n) → HasMember range e → HasPair more (k, n +ℤ e))
stepped-has range g more is =
    let Steps : Option Growth → Type 0 = λ more.
    IfSome more (λ more. (k : ℕ) (n e : ℤ) → HasPair g (k, n) → HasMember range e → HasPair more (k, n +ℤ e)) in
    subst Steps (sym is)
    (cond_both (has_number written (g.first +ℤ range.first) && has_number written (g.last +ℤ range.last))
    (Some (record g { first = g.first +ℤ range.first; last = g.last +ℤ range.last })) None Steps
    (λ _. moved-has range g) (λ _. tt))

-- ---- what is reached

-- a number between what it is at first and behind the most turns
behind-between : (begun step most : ℤ) (k : ℕ) → pos k ≤ℤ most
    → (int_min begun (behind begun step most) ≤ℤ behind begun step (pos k))
    × (behind begun step (pos k) ≤ℤ int_max begun (behind begun step most))
behind-between begun step most k below =
    let there = product-between_right (pos 0) (pos k) most step (omega (arith, ints)) below in
    let none = *ℤ-zero step in
    (omega (arith, ints, clamps, none, there.0), omega (arith, ints, clamps, none, there.1))

pub reach-has : (most : ℤ) (g : Growth) (k : ℕ) (n : ℤ) → HasPair g (k, n) → pos k ≤ℤ most → IsEnd n
    → HasMember (reach most g) n
reach-has most g k n has below fits =
    let first = behind-between g.first g.first_step most k below in
    let last = behind-between g.last g.last_step most k below in
    (between-members
    (nearest_end (int_min g.first (behind g.first g.first_step most)))
    (nearest_end (int_max g.last (behind g.last g.last_step most))) n).1
    (omega (arith, ints, clamps, first.0, has.0, fits), omega (arith, ints, clamps, last.1, has.1, fits))
