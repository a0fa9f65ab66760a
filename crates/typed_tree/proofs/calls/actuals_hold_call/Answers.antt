use Rattle.std.proofs.Common.{◌∙◌, sym}
use Rattle.typed_tree.specs.Calls.{passed_holds_call}
use Rattle.typed_tree.proofs.AnyOf.{any-found, any-on}
use Rattle.typed_tree.proofs.calls.actuals_hold_call.Goals as goal

pub returns-then-passed_holds_call : goal.returns-then-passed_holds_call
returns-then-passed_holds_call c =
    any-found passed_holds_call c.args.actuals.now c.loop-actual.actual-index c.actual-item.result c.loop-actual-test.true
    c.actual-item.is (sym c.passed_holds_call.ensures ∙ c.if-passed_holds_call.true)
    ∙ c.loop-actual.invariant

pub loop-actual-preserved : goal.loop-actual-preserved
loop-actual-preserved c =
    any-on passed_holds_call c.args.actuals.now c.loop-actual.actual-index c.actual-item.result c.loop-actual-test.true
    c.actual-item.is (sym c.passed_holds_call.ensures ∙ c.if-passed_holds_call.false)
    ∙ c.loop-actual.invariant
