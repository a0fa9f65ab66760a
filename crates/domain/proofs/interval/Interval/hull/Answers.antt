use Rattle.std.proofs.Common.{rules, pos, w32, get_or, ap, refl, subst, sym, ◌∙◌}
use Rattle.std.proofs.lemmas.Int.{to_z-of_z}
use Rattle.std.proofs.lemmas.List.{take_all}
use Rattle.domain.specs.Interval.{Interval, HasMember, Includes, between}
use Rattle.domain.specs.Numbers.{hull}
use Rattle.domain.proofs.Numbers.{hull-has, hull-least, hull-more}
use Rattle.domain.proofs.interval.Interval.hull.Goals as goal

pub loop-number-init : goal.loop-number-init
loop-number-init c = refl

pub loop-number-preserved : goal.loop-number-preserved
loop-number-preserved c =
    let numbers = c.args.numbers.now in
    let i = c.loop-number.number-index in
    let read = to_z-of_z w32 (get_or numbers i (pos 0)) (search rules) in
    hull-more numbers i (pos 0) c.loop-number.hull c.between.result c.join-hull.result c.loop-number-test.true c.loop-number.invariant
    (c.between.ensures.ends ∙ ap (λ n. between n n) read) c.join-hull.ensures.answer

pub returns-clause-ends : goal.returns-clause-ends
returns-clause-ends c =
    c.loop-number.invariant ∙ ap hull (take_all c.loop-number.number-index c.args.numbers.now c.loop-number-test.false)

pub returns-clause-members : goal.returns-clause-members
returns-clause-members c = λ n has.
    subst (λ (range : Interval). HasMember range n) (sym (returns-clause-ends c)) (hull-has c.args.numbers.now n has)

pub returns-clause-least : goal.returns-clause-least
returns-clause-least c = λ outer each.
    subst (λ (range : Interval). Includes outer range) (sym (returns-clause-ends c)) (hull-least c.args.numbers.now outer each)
