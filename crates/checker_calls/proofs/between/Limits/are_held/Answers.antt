use Rattle.std.proofs.Common.{◌∙◌, sym}
use Rattle.checker_calls.specs.View.{said_limits}
use Rattle.checker_calls.proofs.HeldBetween.{dead-held, live-held}
use Rattle.checker_known.specs.Knowledge.{core, viewed}
use Rattle.checker_calls.proofs.between.Limits.are_held.Goals as goal

pub returns-then-is_dead : goal.returns-then-is_dead
returns-then-is_dead c =
    let state = c.args.state.now in
    dead-held state.table.now (viewed (core state.known)) c.args.row (said_limits c.args.self.now) state.known.is_dead
    (sym c.is_dead.ensures ∙ c.if-is_dead.true)

pub returns : goal.returns
returns c =
    let state = c.args.state.now in
    c.is_had.ensures
    ∙ live-held state.table.now (viewed (core state.known)) c.args.row (said_limits c.args.self.now) state.known.is_dead
    (sym c.is_dead.ensures ∙ c.if-is_dead.false)
