use Rattle.std.proofs.Common.{◌∙◌, sym}
use Rattle.checker_state.specs.State.{says_at_most}
use Rattle.checker_state.specs.View.{said_term}
use Rattle.checker_state.specs.declared.held.Group.TheVariants as group
use Rattle.checker_known.proofs.HeldLists.{said_all}
use Rattle.checker_known.proofs.InOrder.{any-here, inside-between, none-at-all, none-begin, none-more, none-there}
use Rattle.checker_state.proofs.HeldOrders.{says-no-first, says-no-second, says-outside}
use Rattle.checker_known.proofs.knowledge.Knowledge.says_at_most.Goals as goal

pub returns-in_default-root : goal.returns-in_default-root
returns-in_default-root c =
    let a = said_term c.args.left in
    let b = said_term c.args.right in
    none-at-all (says_at_most a b) (said_all c.args.self.now.held.items) (says-no-second a b c.in_default-root.is)

pub returns-in_default : goal.returns-in_default
returns-in_default c =
    let a = said_term c.args.left in
    let b = said_term c.args.right in
    none-at-all (says_at_most a b) (said_all c.args.self.now.held.items) (says-no-first a b c.in_default.is)

pub loop-place-init : goal.loop-place-init
loop-place-init c =
    let a = said_term c.args.left in
    let b = said_term c.args.right in
    none-begin (says_at_most a b) (group.Pair c.in-Some.root c.in-Some-root.other)
    (says-outside a b c.in-Some.root c.in-Some-root.other c.in-Some.is c.in-Some-root.is) c.args.self.now.held.items
    c.places-first.result.0 c.places-first.result.1 c.places-first.ensures.between

pub returns-then-says_at_most : goal.returns-then-says_at_most
returns-then-says_at_most c =
    let held = c.args.self.now.held.items in
    any-here (says_at_most (said_term c.args.left) (said_term c.args.right)) held c.loop-place.place c.index.result.now
    (inside-between held c.loop-place.place c.places-first.ensures.between c.loop-place-test.true) c.index.ensures
    (sym c.says_at_most.ensures ∙ c.if-says_at_most.true)

pub loop-place-preserved : goal.loop-place-preserved
loop-place-preserved c =
    let held = c.args.self.now.held.items in
    none-more (says_at_most (said_term c.args.left) (said_term c.args.right)) held c.loop-place.place c.index.result.now c.loop-place.invariant
    (inside-between held c.loop-place.place c.places-first.ensures.between c.loop-place-test.true) c.index.ensures
    (sym c.says_at_most.ensures ∙ c.if-says_at_most.false)

pub returns : goal.returns
returns c =
    let a = said_term c.args.left in
    let b = said_term c.args.right in
    none-there (says_at_most a b) (group.Pair c.in-Some.root c.in-Some-root.other)
    (says-outside a b c.in-Some.root c.in-Some-root.other c.in-Some.is c.in-Some-root.is) c.args.self.now.held.items
    c.places-first.result.0 c.places-first.result.1 c.places-first.ensures.between c.loop-place.place c.loop-place.invariant c.loop-place-test.false
