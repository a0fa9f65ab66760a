use Rattle.std.proofs.Common.{Some, None, Ok, ◌∙◌, ap}
use Rattle.interpreter.proofs.Advancing.{advances_on}
use Rattle.interpreter.proofs.interpreter.Run.finish.Goals as goal

pub loop-ending-preserved : goal.loop-ending-preserved
loop-ending-preserved c =
    advances_on c.args.self.now c.loop-ending.self c.work_in_turn.new.self c.work_in_turn.result (Ok None) (c.in_ok-ending.was ∙ ap Ok c.in_default.is)
    c.loop-ending.invariant c.work_in_turn.ensures.does

pub returns-in-Some : goal.returns-in-Some
returns-in-Some c =
    advances_on c.args.self.now c.loop-ending.self c.work_in_turn.new.self c.work_in_turn.result (Ok (Some c.in-Some.ending))
    (c.in_ok-ending.was ∙ ap Ok c.in-Some.is) c.loop-ending.invariant c.work_in_turn.ensures.does
