use Rattle.std.proofs.Common.{◌∙◌, ap₂, cond, sym, Bool}
use Rattle.checker_state.specs.View.{said_reach}
use Rattle.checker_calls.specs.Actuals.{unknown_reach}
use Rattle.checker_expressions.specs.View.{callees_at}
use Rattle.checker_expressions.specs.Walk.{calls_in, index_pieces, reach_behind}
use Rattle.checker_expressions.proofs.Forms.{indexes-hold}
use Rattle.checker_expressions.proofs.flow.Flow.reach_before.Goals as goal

pub returns-then-hold_call : goal.returns-then-hold_call
returns-then-hold_call c =
    let reach = said_reach c.args.reach in
    let behind = reach_behind (callees_at c.args.self.now) (calls_in (index_pieces c.args.later.now)) reach in
    c.unknown_reach.ensures
    ∙ sym (ap₂ (λ (apart hold : Bool). cond apart behind (cond hold (unknown_reach reach) reach)) (sym c.has.ensures ∙ c.if-has.false)
    (indexes-hold c.args.later.now ∙ sym c.hold_call.ensures ∙ c.if-hold_call.true))

pub returns-else-hold_call : goal.returns-else-hold_call
returns-else-hold_call c =
    let reach = said_reach c.args.reach in
    let behind = reach_behind (callees_at c.args.self.now) (calls_in (index_pieces c.args.later.now)) reach in
    sym (ap₂ (λ (apart hold : Bool). cond apart behind (cond hold (unknown_reach reach) reach)) (sym c.has.ensures ∙ c.if-has.false)
    (indexes-hold c.args.later.now ∙ sym c.hold_call.ensures ∙ c.if-hold_call.false))
