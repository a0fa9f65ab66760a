use Rattle.std.proofs.Common.{◌∷◌, refl}
use Rattle.interpreter_state.specs.declared.work.Work.TheVariants as work
use Rattle.meaning.specs.declared.value.Value.TheVariants.{Members}
use Rattle.meaning.specs.Meaning.{OfValue}
use Rattle.interpreter.specs.Pending.{operands_of, resumed}
use Rattle.interpreter.proofs.Resuming.{goes_on_below}
use Rattle.interpreter.proofs.interpreter.Run.constructor.Goals as goal

pub returns-clause-does : goal.returns-clause-does
returns-clause-does c = λ env outer s agrees.
    let old = c.args.self.now in
    goes_on_below old c.push.new.self c.do_next.new.self env outer s (λ env. resumed env (work.Gather c.args.designators c.args.members))
    (OfValue (Members 0) ∷ operands_of old) c.do_next.result _ c.push.ensures.same c.in_ok-push.ensures.top refl agrees c.do_next.ensures.does
