use Rattle.std.proofs.Common.{ap, subst, sym, List, ℕ, Option}
use Rattle.std.specs.Global.{Vec}
use Rattle.std.specs.Option.{IfSome}
use Rattle.std.specs.List.{filter_map}
use Rattle.checker_state.specs.State.{Held}
use Rattle.checker_state.specs.View.{held_by}
use Rattle.checker_known.specs.Knowledge.{Core}
use Rattle.checker_known.specs.Resting.{AreChanging}
use Rattle.checker_known.proofs.HeldLists.{said_all}
use Rattle.checker_trail.specs.Trail.{over_held}
use Rattle.checker_trail.proofs.Steps.{unseen-moves}
use Rattle.checker_trail.proofs.state.State.rebind.Goals as goal

pub returns-in-Ok-None : goal.returns-in-Ok-None
returns-in-Ok-None c =
    unseen-moves (over_held (filter_map (held_by c.args.how))) c.args.self.now c.rebind_all.new.self c.changing.new.self c.changing.ensures.same
    c.rebind_all.ensures

pub rebind_each-requires : goal.rebind_each-requires
rebind_each-requires c =
    let held = said_all c.args.self.now.known.held.items in
    subst (λ (some : List Held). AreChanging c.args.how some c.deref.result.now)
    (sym (ap (λ (one : Core). said_all one.held) c.changing.ensures.same))
    (subst (λ (places : List ℕ). AreChanging c.args.how held places) (sym c.deref.ensures.value)
    (subst (λ (found : Option (Vec ℕ)). IfSome found (λ one. AreChanging c.args.how held one.items)) c.in-Ok-Some.field-0-is
    c.in-Ok-Some.ensures.places))

pub returns-in-Ok-Some : goal.returns-in-Ok-Some
returns-in-Ok-Some c =
    unseen-moves (over_held (filter_map (held_by c.args.how))) c.args.self.now c.rebind_each.new.self c.changing.new.self c.changing.ensures.same
    c.rebind_each.ensures
