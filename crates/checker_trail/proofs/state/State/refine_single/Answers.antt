use Rattle.std.proofs.Common.{◌≡◌, ◌∙◌, sym, ap, ap₂, map, Option}
use Rattle.checker_state.specs.Bounds.{Bound}
use Rattle.checker_state.specs.State.{Live, State}
use Rattle.checker_state.specs.Conditions.{bound_form, condition_of, conjunct_of, operation_refined, single_refined}
use Rattle.checker_known.specs.Knowledge.{core, viewed}
use Rattle.checker_trail.specs.Trail.{seen}
use Rattle.checker_trail.proofs.ConditionsOf.{ordinals_of, seen-dead, seen-live, single-dead, single-none, single-one}
use Rattle.checker_trail.proofs.Ways.{moves-as, moves-stay}
use Rattle.checker_trail.proofs.state.State.refine_single.Goals as goal

pub returns-then-rest-ne1 : goal.returns-then-rest-ne1
returns-then-rest-ne1 c =
    let ordinal = ordinals_of c.args.self.now in
    let form = (condition_of ordinal c.args.first.now).form in
    moves-stay (single_refined c.args.truth form (map (conjunct_of ordinal) c.args.rest.now)) c.args.self.now
    (single-none ordinal c.args.rest.now c.args.truth form (seen c.args.self.now) c.if-rest-ne1.true)

pub returns-then-self : goal.returns-then-self
returns-then-self c =
    let ordinal = ordinals_of c.args.self.now in
    let refined = single_refined c.args.truth (condition_of ordinal c.args.first.now).form (map (conjunct_of ordinal) c.args.rest.now) in
    let dead = seen-dead c.args.self.now c.if-self.true in
    moves-stay refined c.args.self.now (dead ∙ single-dead (map (conjunct_of ordinal) c.args.rest.now) c.args.truth _ ∙ ap refined (sym dead))

pub returns : goal.returns
returns c =
    let facts = viewed (core c.args.self.now.known) in
    let live = seen-live c.args.self.now c.if-self.false in
    let truth = c.args.truth in
    let link = c.index-rest-0.result in
    let ordinal = ordinals_of c.args.self.now in
    let form = (condition_of ordinal c.args.first.now).form in
    let refined = single_refined truth form (map (conjunct_of ordinal) c.args.rest.now) in
    let operated = λ (left right : Option Bound) (state : State). operation_refined link.operation truth left right state in
    let first = bound_form ordinal facts.rules c.args.first.now in
    let second = bound_form ordinal facts.rules link.operand in
    moves-as refined c.refine_operation.ensures
    (ap₂ (λ (left right : Option Bound). operated left right (seen c.args.self.now)) c.bound_form.ensures c.bound_form-2.ensures
    ∙ ap (operated first second) live
    ∙ single-one ordinal c.args.rest.now truth form facts link c.if-rest-ne1.false (sym c.index-rest-0.is) ∙ ap refined (sym live))
