use Rattle.std.proofs.Common.{arith, ◌≡◌, ◌∙◌, ap, ℕ}
use Rattle.checker_known.specs.Knots.{knot_at}
use Rattle.checker_known.proofs.HeldLists.{said_all}
use Rattle.checker_known.proofs.Tangles.{knot-beside, knot-none, no-knot-first}
use Rattle.checker_known.proofs.knots.knot_at.Goals as goal

pub returns-then-place-eq0 : goal.returns-then-place-eq0
returns-then-place-eq0 c =
    let held = said_all c.args.held.now in
    no-knot-first held ∙ ap (λ (n : ℕ). knot_at n held) (let same : 0 ≡ c.args.place = omega (arith, c.if-place-eq0.true) in same)

pub returns-then-place-held : goal.returns-then-place-held
returns-then-place-held c = knot-none c.args.place c.args.held.now c.if-place-held.true

pub returns : goal.returns
returns c = c.knot.ensures ∙ knot-beside c.args.held.now c.args.place _ _ c.if-place-eq0.false (omega (arith, c.if-place-held.false))
