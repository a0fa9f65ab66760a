use Rattle.std.proofs.Common.{◌∙◌, sym, ap, Bool, cond}
use Rattle.checker_state.specs.Conditions.{branched, condition_of, unless_excluded}
use Rattle.checker_rows.specs.Rows.{is_ordinal_variable}
use Rattle.checker_state.specs.State.{Dead, State}
use Rattle.typed_tree.specs.declared.tree.Tree.{Tree}
use Rattle.checker_trail.specs.Trail.{seen}
use Rattle.checker_trail.proofs.ConditionsOf.{ordinals_of}
use Rattle.checker_trail.proofs.Ways.{moves-as, moves-told}
use Rattle.checker_trail.proofs.state.State.branch.Goals as goal

pub returns-then-holds_call : goal.returns-then-holds_call
returns-then-holds_call c =
    let state = seen c.args.self.now in
    let ordinal = ordinals_of c.args.self.now in
    let truth = c.args.truth in
    let e = c.args.condition.now in
    let left = unless_excluded truth c.args.range state in
    moves-as (branched ordinal truth e c.args.range) c.die_if.ensures
    (ap (λ (b : Bool). cond b Dead state) c.excludes.ensures
    ∙ sym (ap (λ (b : Bool). cond b left ((condition_of ordinal e).refined truth left)) (sym c.holds_call.ensures ∙ c.if-holds_call.true)))

pub returns : goal.returns
returns c =
    let state = seen c.args.self.now in
    let ordinal = ordinals_of c.args.self.now in
    let truth = c.args.truth in
    let e = c.args.condition.now in
    let left = unless_excluded truth c.args.range state in
    moves-as (branched ordinal truth e c.args.range)
    (moves-told (λ (tree : Tree) (left : State). (condition_of (is_ordinal_variable tree) e).refined truth left) c.die_if.ensures c.refine.ensures)
    (ap (λ (b : Bool). (condition_of ordinal e).refined truth (cond b Dead state)) c.excludes.ensures
    ∙ sym (ap (λ (b : Bool). cond b left ((condition_of ordinal e).refined truth left)) (sym c.holds_call.ensures ∙ c.if-holds_call.false)))
