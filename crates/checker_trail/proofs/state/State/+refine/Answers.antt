use Rattle.std.proofs.Common.{rules, ◌≡◌, ◌∙◌, sym, ap₂, map, refl, subst, true, false, List, []}
use Rattle.std.specs.List.{list_all}
use Rattle.std.proofs.lemmas.List.{drop_all}
use Rattle.typed_tree.specs.declared.tree.Expr.{Expr}
use Rattle.typed_tree.specs.declared.tree.Link.{Link}
use Rattle.checker_state.specs.Conditions.{all_refined, condition_of, conjunct_of, single_refined, takes_both}
use Rattle.checker_trail.specs.Trail.{Moves, seen}
use Rattle.checker_trail.proofs.ConditionsOf.{chain-moves, chain-single, ordinals_of, refined-more}
use Rattle.checker_trail.proofs.Ways.{moves-as, moves-stay}
use Rattle.checker_trail.proofs.state.State.+refine.Goals as goal

pub returns-then-not-all_take_both : goal.returns-then-not-all_take_both
returns-then-not-all_take_both t c =
    let state = seen c.args.self.now in
    let ordinal = ordinals_of c.args.self.now in
    let truth = c.args.truth in
    let first = c.in-Chain.first in
    let rest = c.in-Chain.rest in
    let none : list_all (λ link. takes_both truth link.operation) rest.items ≡ false = search rules in
    moves-as ((condition_of ordinal c.args.condition.now).refined truth) c.refine_single.ensures
    (ap₂ (λ (e : Expr) (links : List Link). single_refined truth (condition_of ordinal e).form (map (conjunct_of ordinal) links) state)
    c.deref-then-not-all_take_both.ensures c.deref-then-not-all_take_both-2.ensures.value
    ∙ chain-single ordinal c.args.condition.now first rest truth state c.in-Chain.is none)

pub loop-link-init : goal.loop-link-init
loop-link-init t c = λ end more.
    let truth = c.args.truth in
    let first = c.in-Chain.first in
    let rest = c.in-Chain.rest in
    let start = c.args.self.now in
    let next = c.refine-in-Chain.new.self in
    let all : list_all (λ link. takes_both truth link.operation) rest.items ≡ true = search rules in
    chain-moves c.args.condition.now first rest truth c.in-Chain.is all
    (subst (λ (e : Expr). Moves ((condition_of (ordinals_of start) e).refined truth) start next) c.deref-in-Chain-2.ensures c.refine-in-Chain.ensures)
    (subst (λ (links : List Link). Moves (all_refined truth (map (conjunct_of (ordinals_of next)) links)) next end)
    c.deref-link-items.ensures.value more)

pub loop-link-preserved : goal.loop-link-preserved
loop-link-preserved t c = λ end more.
    c.loop-link.invariant end
    (refined-more c.args.truth c.deref-link-items.result.now c.loop-link.link-index c.link-item.result c.loop-link-test.true c.link-item.is
    c.refine-in-loop-link.ensures more)

pub returns-after-loop-link : goal.returns-after-loop-link
returns-after-loop-link t c =
    let state = c.loop-link.self in
    let ordinal = ordinals_of state in
    c.loop-link.invariant state
    (subst (λ (links : List Link). Moves (all_refined c.args.truth (map (conjunct_of ordinal) links)) state state)
    (sym (drop_all c.loop-link.link-index c.deref-link-items.result.now c.loop-link-test.false))
    (moves-stay (all_refined c.args.truth (map (conjunct_of ordinal) [])) state refl))
