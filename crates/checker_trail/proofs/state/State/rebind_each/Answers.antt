use Rattle.std.proofs.Common.{arith, ◌≡◌, drop, subst, ℕ}
use Rattle.checker_state.specs.View.{held_by}
use Rattle.checker_known.proofs.HeldLists.{changed_each}
use Rattle.checker_trail.specs.Trail.{Moves, over_held}
use Rattle.checker_trail.proofs.Steps.{each-begin, each-more, each-moves}
use Rattle.checker_trail.proofs.state.State.rebind_each.Goals as goal

pub loop-i-init : goal.loop-i-init
loop-i-init c = each-begin (held_by c.args.how) c.args.places.now c.args.self.now

pub loop-i-preserved : goal.loop-i-preserved
loop-i-preserved c =
    each-more (held_by c.args.how) c.args.places.now _ c.loop-i.i (omega (arith, c.loop-i-test.true))
    (omega (arith, c.loop-i-test.true, c.loop-i.auto.i)) c.loop-i.invariant c.rebind_at.ensures

pub returns : goal.returns
returns c =
    let done : c.loop-i.i ≡ 0 = omega (arith, c.loop-i-test.false) in
    each-moves c.args.how c.args.places.now c.requires
    (subst (λ (n : ℕ). Moves (over_held (changed_each (held_by c.args.how) (drop n c.args.places.now))) c.args.self.now c.loop-i.self) done
    c.loop-i.invariant)
