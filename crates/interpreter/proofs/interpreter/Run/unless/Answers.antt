use Rattle.std.proofs.Common.{◌≡◌, false, reverse, sym, ◌∙◌, ap}
use Rattle.meaning.specs.Meaning.{is_so}
use Rattle.interpreter.specs.Pending.{top_of, below_top, repeating, operands_of}
use Rattle.interpreter.proofs.Resuming.{goes_on_below}
use Rattle.interpreter.proofs.Unrolling.{does-unless}
use Rattle.interpreter.proofs.interpreter.Run.unless.Goals as goal

pub returns-else-truth_of-clause-does : goal.returns-else-truth_of-clause-does
returns-else-truth_of-clause-does c = λ env outer s agrees.
    let old = c.args.self.now in
    let head = c.args.head in
    let statements = c.args.statements in
    let operands = operands_of old in
    let so : is_so (top_of operands) ≡ false = ap is_so (sym c.popped.ensures.top) ∙ sym c.truth_of.ensures ∙ c.if-truth_of.false in
    goes_on_below old c.popped.new.self c.repeat_round.new.self env outer s (λ env. repeating env head.now statements.now.items) (below_top operands)
    c.repeat_round.result _ c.popped.ensures.same c.popped.ensures.below
    (does-unless env outer head statements (reverse old.pending.items) operands s so)
    agrees c.repeat_round.ensures.does
