use Rattle.std.proofs.Common.{◌≡◌, ◌↔◌, Bool, sym, ◌∙◌}
use Rattle.std.specs.Prelude.{IsTrue}
use Rattle.domain.specs.Interval.{Interval, Includes, is_included}
use Rattle.domain.specs.Ranges.{included-has, has-included, included-low, included-below, as_is, same_le}
use Rattle.domain.proofs.interval.IntervalDomain.leq.Goals as goal

-- the test tells whether the numbers of one range are among those of the other
exact : (a b : Interval) (answer : Bool) → answer ≡ is_included a b → IsTrue answer ↔ Includes b a
exact a b answer same = (λ holds z. included-has a b z (sym same ∙ holds), λ includes. same ∙ has-included a b includes)

pub returns-then-first-clause-answer : goal.returns-then-first-clause-answer
returns-then-first-clause-answer c =
    let a = c.args.self.now in
    let b = c.args.other.now in
    let first = as_is c.first.result c.first.ensures.bounds ∙ c.first.ensures.value in
    let own = as_is c.first-else-is_empty.result c.first-else-is_empty.ensures.bounds ∙ c.first-else-is_empty.ensures.value in
    let last = as_is c.last.result c.last.ensures.bounds ∙ c.last.ensures.value in
    let other = as_is c.last-then-first.result c.last-then-first.ensures.bounds ∙ c.last-then-first.ensures.value in
    included-low a b _ (sym c.is_empty.ensures.answer ∙ c.if-is_empty.false)
    (sym (same_le _ _ b.first a.first first own) ∙ c.if-first.true) (same_le _ _ a.last b.last last other)

pub returns-then-first-clause-exact : goal.returns-then-first-clause-exact
returns-then-first-clause-exact c = exact c.args.self.now c.args.other.now _ (returns-then-first-clause-answer c)

pub returns-else-first-clause-answer : goal.returns-else-first-clause-answer
returns-else-first-clause-answer c =
    let a = c.args.self.now in
    let b = c.args.other.now in
    let first = as_is c.first.result c.first.ensures.bounds ∙ c.first.ensures.value in
    let own = as_is c.first-else-is_empty.result c.first-else-is_empty.ensures.bounds ∙ c.first-else-is_empty.ensures.value in
    included-below a b _ (sym c.is_empty.ensures.answer ∙ c.if-is_empty.false) (same_le _ _ b.first a.first first own) c.if-first.false

pub returns-else-first-clause-exact : goal.returns-else-first-clause-exact
returns-else-first-clause-exact c = exact c.args.self.now c.args.other.now _ (returns-else-first-clause-answer c)
