use Rattle.std.proofs.Common.{Bool, ◌∙◌, sym}
use Rattle.checker_state.specs.State.{Held}
use Rattle.checker_state.specs.View.{said_held}
use Rattle.checker_state.specs.declared.held.Group.TheVariants as group
use Rattle.checker_known.specs.View.{reaches}
use Rattle.checker_known.proofs.InOrder.{any-here, inside-between, none-begin, none-more, none-there}
use Rattle.checker_known.proofs.Reached.{reaches-outside}
use Rattle.checker_known.proofs.knowledge.Knowledge.is_reached.Goals as goal

pub loop-place-init : goal.loop-place-init
loop-place-init g c =
    let asks = g.A.Ask.asks c.args.wanted in
    let held = c.args.self.now.held.items in
    let test : Held → Bool = reaches c.args.row asks in
    none-begin test (group.Row c.args.row) (reaches-outside c.args.row asks) held c.places-first.result.0 c.places-first.result.1
    c.places-first.ensures.between

pub returns-then-reaches : goal.returns-then-reaches
returns-then-reaches g c =
    let asks = g.A.Ask.asks c.args.wanted in
    let held = c.args.self.now.held.items in
    let test : Held → Bool = reaches c.args.row asks in
    any-here test held c.loop-place.place c.index.result.now
    (inside-between held c.loop-place.place c.places-first.ensures.between c.loop-place-test.true) c.index.ensures
    (◌∙◌ {a = test (said_held c.index.result.now)} (sym {b = test (said_held c.index.result.now)} c.reaches.ensures) c.if-reaches.true)

pub loop-place-preserved : goal.loop-place-preserved
loop-place-preserved g c =
    let asks = g.A.Ask.asks c.args.wanted in
    let held = c.args.self.now.held.items in
    let test : Held → Bool = reaches c.args.row asks in
    none-more test held c.loop-place.place c.index.result.now c.loop-place.invariant
    (inside-between held c.loop-place.place c.places-first.ensures.between c.loop-place-test.true) c.index.ensures
    (◌∙◌ {a = test (said_held c.index.result.now)} (sym {b = test (said_held c.index.result.now)} c.reaches.ensures) c.if-reaches.false)

pub returns : goal.returns
returns g c =
    let asks = g.A.Ask.asks c.args.wanted in
    let held = c.args.self.now.held.items in
    let test : Held → Bool = reaches c.args.row asks in
    none-there test (group.Row c.args.row) (reaches-outside c.args.row asks) held c.places-first.result.0 c.places-first.result.1
    c.places-first.ensures.between c.loop-place.place c.loop-place.invariant c.loop-place-test.false
