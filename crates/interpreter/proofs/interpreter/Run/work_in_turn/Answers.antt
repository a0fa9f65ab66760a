use Rattle.std.proofs.Common.{Some, None, Ok, ◌∙◌, ap, arith}
use Rattle.interpreter.proofs.Advancing.{advances_on}
use Rattle.interpreter.proofs.interpreter.Run.work_in_turn.Goals as goal

pub loop-ending-preserved : goal.loop-ending-preserved
loop-ending-preserved c =
    let went_on = c.in_ok-ending.was ∙ ap Ok c.in_default.is in
    let turns = c.loop-ending.invariant.turns in
    let fewer = c.advance.ensures.fewer went_on in
    record {
      does = advances_on c.args.self.now c.loop-ending.self c.advance.new.self c.advance.result (Ok None) went_on c.loop-ending.invariant.does
          c.advance.ensures.does;
      turns = omega (arith, turns, fewer, c.if-self-turns.false);
    }

pub returns-in-Some-clause-does : goal.returns-in-Some-clause-does
returns-in-Some-clause-does c =
    advances_on c.args.self.now c.loop-ending.self c.advance.new.self c.advance.result (Ok (Some c.in-Some.ending)) (c.in_ok-ending.was ∙ ap Ok c.in-Some.is)
    c.loop-ending.invariant.does c.advance.ensures.does

pub returns-then-self-turns-clause-does : goal.returns-then-self-turns-clause-does
returns-then-self-turns-clause-does c =
    advances_on c.args.self.now c.loop-ending.self c.advance.new.self c.advance.result (Ok None) (c.in_ok-ending.was ∙ ap Ok c.in_default.is)
    c.loop-ending.invariant.does c.advance.ensures.does
