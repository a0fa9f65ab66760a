use Rattle.std.proofs.Common.{sym, ◌∙◌, ap}
use Rattle.std.specs.Option.{ok_or}
use Rattle.meaning.specs.Meaning.{OfValue}
use Rattle.interpreter_state.specs.Answers.{answered, checked}
use Rattle.interpreter.specs.Pending.{below_top, operands_of, tested, top_of}
use Rattle.interpreter.proofs.Resuming.{goes_on_by, tested_as}
use Rattle.interpreter.proofs.interpreter.Run.test.Goals as goal

pub returns-clause-does : goal.returns-clause-does
returns-clause-does c = λ env outer s agrees.
    let old = c.args.self.now in
    let operands = operands_of old in
    let fits = c.args.fits in
    let top = c.popped-value.ensures in
    goes_on_by OfValue old c.popped-value.new.self c.go_on.new.self env outer s (tested fits (top_of operands)) c.ok_or.result (below_top operands)
    c.go_on.result top.same top.below
    (tested_as fits (top_of operands) s
    ∙ ap (λ a. answered a s)
    (sym (c.ok_or.ensures.value ∙ ap (λ o. ok_or o fits.site) (c.value_in.ensures ∙ ap (checked fits.range) top.top))))
    agrees c.go_on.ensures.does
