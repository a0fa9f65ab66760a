use Rattle.std.proofs.Common.{◌≡◌, ◌↔◌, ℤ, w64, sym, subst, ◌∙◌}
use Rattle.std.proofs.lemmas.Int.{to_z-of_z}
use Rattle.std.specs.Int.{int_min, int_max}
use Rattle.domain.specs.Interval.{Interval, HasMember, common}
use Rattle.domain.specs.Ranges.{common-has, common-has_left, common-has_right, common-none, common-present, as_is, same_lt, same_min, same_max}
use Rattle.domain.proofs.interval.IntervalDomain.meet.Goals as goal

-- the members of the common part are those of both
exact : (a b r : Interval) → r ≡ common a b → (z : ℤ) → HasMember r z ↔ (HasMember a z × HasMember b z)
exact a b r same z = (
  λ has.
      let there : HasMember (common a b) z = subst (λ (i : Interval). HasMember i z) same has in
      (common-has_left a b z there, common-has_right a b z there),
  λ has. subst (λ (i : Interval). HasMember i z) (sym same) (common-has a b z has.0 has.1),
)

pub returns-then-last-first-clause-answer : goal.returns-then-last-first-clause-answer
returns-then-last-first-clause-answer c =
    let a = c.args.self.now in
    let b = c.args.other.now in
    let first =
    to_z-of_z w64 c.max-first.result (record { sfits = c.max-first.type_inv }) ∙ c.max-first.ensures.value
    ∙ same_max _ _ a.first b.first
    (as_is c.first.result c.first.ensures.bounds ∙ c.first.ensures.value) (as_is c.first-2.result c.first-2.ensures.bounds ∙ c.first-2.ensures.value)
    in
    let last =
    to_z-of_z w64 c.min-last.result (record { sfits = c.min-last.type_inv }) ∙ c.min-last.ensures.value
    ∙ same_min _ _ a.last b.last
    (as_is c.last.result c.last.ensures.bounds ∙ c.last.ensures.value) (as_is c.last-2.result c.last-2.ensures.bounds ∙ c.last-2.ensures.value)
    in
    common-none a b (sym (same_lt _ _ (int_min a.last b.last) (int_max a.first b.first) last first) ∙ c.if-last-first.true)

pub returns-then-last-first-clause-exact : goal.returns-then-last-first-clause-exact
returns-then-last-first-clause-exact c = exact c.args.self.now c.args.other.now _ (returns-then-last-first-clause-answer c)

pub returns-clause-answer : goal.returns-clause-answer
returns-clause-answer c =
    let a = c.args.self.now in
    let b = c.args.other.now in
    let first =
    to_z-of_z w64 c.max-first.result (record { sfits = c.max-first.type_inv }) ∙ c.max-first.ensures.value
    ∙ same_max _ _ a.first b.first
    (as_is c.first.result c.first.ensures.bounds ∙ c.first.ensures.value) (as_is c.first-2.result c.first-2.ensures.bounds ∙ c.first-2.ensures.value)
    in
    let last =
    to_z-of_z w64 c.min-last.result (record { sfits = c.min-last.type_inv }) ∙ c.min-last.ensures.value
    ∙ same_min _ _ a.last b.last
    (as_is c.last.result c.last.ensures.bounds ∙ c.last.ensures.value) (as_is c.last-2.result c.last-2.ensures.bounds ∙ c.last-2.ensures.value)
    in
    common-present a b _ (sym (same_lt _ _ (int_min a.last b.last) (int_max a.first b.first) last first) ∙ c.if-last-first.false) first last

pub returns-clause-exact : goal.returns-clause-exact
returns-clause-exact c = exact c.args.self.now c.args.other.now _ (returns-clause-answer c)
