use Rattle.std.proofs.Common.{◌≡◌, true, reverse, sym, ◌∙◌, ap}
use Rattle.interpreter_state.specs.declared.work.Work.TheVariants as work
use Rattle.meaning.specs.Meaning.{is_so}
use Rattle.interpreter.specs.Pending.{top_of, below_top, turning_tested, operands_of}
use Rattle.interpreter.proofs.Resuming.{calls_extended, goes_on_below}
use Rattle.interpreter.proofs.Unrolling.{does-while-turn}
use Rattle.interpreter.proofs.interpreter.Run.while_turn.Goals as goal

pub returns-then-truth_of-clause-does : goal.returns-then-truth_of-clause-does
returns-then-truth_of-clause-does c = λ env outer s agrees.
    let old = c.args.self.now in
    let head = c.args.head in
    let body = c.args.body in
    let operands = operands_of old in
    let so : is_so (top_of operands) ≡ true = ap is_so (sym c.popped.ensures.top) ∙ sym c.truth_of.ensures ∙ c.if-truth_of.true in
    goes_on_below old c.popped.new.self c.tested_turn.new.self env outer s
    (λ env. turning_tested env (work.Statement body) head.now.condition (work.WhileTurn head body)) (below_top operands)
    c.tested_turn.result _ c.popped.ensures.same c.popped.ensures.below
    (does-while-turn env outer (calls_extended env outer old s agrees) head body (reverse old.pending.items) operands s so)
    agrees c.tested_turn.ensures.does
