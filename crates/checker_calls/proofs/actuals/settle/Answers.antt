use Rattle.std.proofs.Common.{arith, ◌<◌, length, map}
use Rattle.std.proofs.lemmas.List.{length-map}
use Rattle.checker_calls.specs.Actuals.{after_call}
use Rattle.checker_calls.specs.View.{said_actual}
use Rattle.checker_calls.proofs.Mapped.{said-next}
use Rattle.checker_calls.proofs.actuals.settle.Goals as goal

pub loop-i-preserved : goal.loop-i-preserved
loop-i-preserved c =
    let old = map said_actual c.args.actuals.now.items in
    let i = c.loop-i.i in
    let inside : i < length old =
    omega (arith, c.loop-i-test.true, c.len-i-end.ensures, length-map c.args.actuals.now.items said_actual, c.args.actuals.now.ok.0) in
    said-next said_actual after_call old c.loop-i.actuals.items i c.settle.new.self c.index_mut.result.now inside c.loop-i.invariant
    c.index_mut.ensures.value c.settle.ensures
