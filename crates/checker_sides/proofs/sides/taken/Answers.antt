use Rattle.std.proofs.Common.{rules, ◌≡◌, ◌∙◌, sym, ap, true, false, map}
use Rattle.std.specs.List.{list_all}
use Rattle.checker_state.specs.Conditions.{conjunct_of, taken, takes_both}
use Rattle.checker_sides.proofs.SidesMet.{taken-is}
use Rattle.checker_sides.proofs.sides.taken.Goals as goal

pub returns-then-all_take_both : goal.returns-then-all_take_both
returns-then-all_take_both c = λ ordinal.
    let truth = c.in_ok-truth.truth in
    let rest = c.args.rest.now in
    let all : list_all (λ link. takes_both truth link.operation) rest ≡ true = search rules in
    taken-is ordinal rest truth true all ∙ ap (taken (map (conjunct_of ordinal) rest)) (sym c.in_ok-truth.was)

pub returns-else-all_take_both : goal.returns-else-all_take_both
returns-else-all_take_both c = λ ordinal.
    let truth = c.in_ok-truth.truth in
    let rest = c.args.rest.now in
    let all : list_all (λ link. takes_both truth link.operation) rest ≡ false = search rules in
    taken-is ordinal rest truth false all ∙ ap (taken (map (conjunct_of ordinal) rest)) (sym c.in_ok-truth.was)
