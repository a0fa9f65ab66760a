use Rattle.std.proofs.Common.{arith, rules, ◌≡◌, ◌∙◌, sym, ap, ap₂, true, Bool, cond, to_z, of_z, w64}
use Rattle.std.specs.Ordering.{int_eq}
use Rattle.std.proofs.lemmas.Int.{ints, to_z-of_z}
use Rattle.checker_state.specs.Conditions.{without_first, without_last}
use Rattle.checker_sides.proofs.sides.unlike.Goals as goal

pub returns-then-number-last : goal.returns-then-number-last
returns-then-number-last c =
    let own = c.args.own in
    let first = c.args.other.first in
    let number : to_z w64 (of_z w64 c.first-number.result) ≡ first = search (rules, to_z-of_z) in
    let same : int_eq first c.args.other.last ≡ true = grind (arith, ints) in
    c.without_last.ensures ∙ ap₂ without_last number (c.without_first.ensures ∙ ap (λ n. without_first n own) number)
    ∙ ap (λ (b : Bool). cond b (without_last first (without_first first own)) own) (sym same)
