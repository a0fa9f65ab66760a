use Rattle.std.proofs.Common.{List, ◌≡◌, ◌∙◌, ap, drop, map}
use Rattle.checker_known.specs.declared.change.Change.{Change}
use Rattle.checker_known.specs.Knowledge.{core, viewed}
use Rattle.checker_known.specs.Told.{rows_changed, said_at}
use Rattle.checker_trail.specs.Shorter.{at_row}
use Rattle.checker_trail.proofs.ShorterWays.{shortens, trail-end}
use Rattle.checker_trail.proofs.state.State.shorten.Goals as goal

pub returns-clause-shortens : goal.returns-clause-shortens
returns-clause-shortens c = λ start marks way.
    let state = c.args.self.now in
    let mark = c.args.mark.length in
    let rows_are : map said_at c.deref-3.result.now ≡ map (at_row (viewed (core state.known))) (rows_changed (drop mark state.trail.items)) =
    ap (map said_at) c.deref-3.ensures.value ∙ c.in-Ok.ensures
    ∙ ap (λ (some : List Change). map (at_row (viewed (core state.known))) (rows_changed some))
    (trail-end state.trail.items c.deref.result.now mark c.deref.ensures.value) in
    let held_are : c.deref-4.result.now ≡ state.known.held.items =
    c.deref-4.ensures.value ∙ c.in-Ok-from_slice.ensures.items ∙ c.deref-2.ensures.value in
    shortens c.deref-3.result.now c.deref-4.result.now mark marks c.if-self.false way rows_are held_are
    (c.leave-here.ensures.back start marks way) c.goes_straight.ensures.goes c.if-not-goes_straight.ensures.straight
