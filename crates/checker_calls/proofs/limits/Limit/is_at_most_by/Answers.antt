use Rattle.std.proofs.Common.{◌≡◌, ◌∙◌, ap, rules, to_z, of_z, w32, ℤ, pos}
use Rattle.std.specs.Prelude.{option_map}
use Rattle.checker_state.specs.Bounds.{raised_bound}
use Rattle.checker_state.specs.State.{is_below, moved}
use Rattle.checker_trail.specs.Trail.{seen}
use Rattle.checker_calls.specs.Entry.{Limit, limit_moved}
use Rattle.checker_calls.specs.View.{said_limit, said_terms}
use Rattle.checker_calls.proofs.Limited.{else-below, ends-below, limit-still}
use Rattle.checker_calls.proofs.limits.Limit.is_at_most_by.Goals as goal

pub returns-else-are_at_most : goal.returns-else-are_at_most
returns-else-are_at_most c =
    let self = said_limit c.args.self.now in
    let one = limit_moved c.args.by self in
    let other = said_limit c.args.other.now in
    let still = limit-still other in
    let same : to_z w32 (of_z w32 c.args.by) ≡ c.args.by = search rules in
    else-below (seen c.args.state.now) one other (said_terms c.term.result) (said_terms c.term-2.result) c.are_at_most.result c.is_below.result
    (c.term.ensures ∙ ap (λ (n : ℤ). option_map (raised_bound n) self.form) same) (c.term-2.ensures ∙ ap (λ (l : Limit). l.form) still)
    c.are_at_most.ensures c.if-are_at_most.false
    (c.is_below.ensures ∙ ends-below c.ends.result c.ends-else-are_at_most.result _ _ c.ends.ensures c.ends-else-are_at_most.ensures
    ∙ ap (λ (n : ℤ). is_below (moved n self.range) (limit_moved (pos 0) other).range) same
    ∙ ap (λ (l : Limit). is_below one.range l.range) still)
