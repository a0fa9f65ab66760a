use Rattle.std.proofs.Common.{arith, rules, ◌∙◌, ◌∷◌, subst, sym, SFits, w32}
use Rattle.std.proofs.lemmas.Int.{ints}
use Rattle.checker_state.specs.Bounds.{Bound}
use Rattle.checker_state.specs.View.{inner_bounds, said_bound}
use Rattle.checker_known.specs.Longer.{AreNear}
use Rattle.checker_known.specs.Knowledge.{core, viewed}
use Rattle.checker_known.proofs.HeldLists.{said_all}
use Rattle.checker_known.proofs.Near.{begins-fall, ends-fall, near-number, number-is}
use Rattle.checker_known.proofs.Searches.{edge-there}
use Rattle.checker_known.proofs.knowledge.Knowledge.near.Goals as goal

pub returns : goal.returns
returns c =
    let self = c.args.self.now in
    let held = said_all self.held.items in
    let row = c.args.row in
    let first = c.places-first.result.0 in
    let end = c.places-first.result.1 in
    let loose = c.if-not-is_loose.ensures in
    let ordered = sym self.counted ∙ loose.ordered in
    let own = c.places-first.ensures.own loose.ordered in
    let within = c.places-first.ensures.between.ends in
    let number = c.args.point.index.number in
    let rest = inner_bounds c.args.point.inner in
    let fits : SFits w32 number = search rules in
    subst (λ (bound : Bound). AreNear (viewed (core self)) row (bound ∷ rest) held c.edge.result c.edge-2.result)
    (number-is (said_bound c.args.point.index) (sym c.is_some.ensures ∙ c.if-is_some.false))
    (near-number row held first end within own ordered loose.no_knot loose.several (viewed (core self)) number _ _ rest c.edge.result c.edge-2.result
    c.places-first.ensures.between (omega (arith, ints, fits, c.from-number.ensures)) (omega (arith, ints, fits, c.from-number.ensures))
    (edge-there _ self.held.items c.deref.result.now first end c.edge.result c.deref.ensures.value c.edge.ensures
    (ends-fall row held first end within own ordered loose.no_knot loose.several _))
    (edge-there _ self.held.items c.deref-2.result.now first end c.edge-2.result c.deref-2.ensures.value c.edge-2.ensures
    (begins-fall row held first end within own ordered loose.no_knot loose.several _)))
