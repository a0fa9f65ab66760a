use Rattle.std.proofs.Common.{◌≡◌, map, drop}
use Rattle.typed_tree.specs.Calls.{actuals_hold_call, any_holds, passed_holds_call}
use Rattle.typed_tree.proofs.calls.actuals_hold_call.Given as goal

abbrev pub invariant-loop-actual : goal.invariant-loop-actual
invariant-loop-actual l = any_holds (map passed_holds_call (drop l.actual-index l.actuals)) ≡ actuals_hold_call l.actuals
