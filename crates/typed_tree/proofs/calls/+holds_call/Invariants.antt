use Rattle.std.proofs.Common.{◌≡◌, map, drop}
use Rattle.typed_tree.specs.Calls.{any_holds, hold_call, holds_call, link_holds_call_of}
use Rattle.typed_tree.proofs.calls.+holds_call.Given as goal

abbrev pub invariant-hold_call-loop-expression : goal.invariant-hold_call-loop-expression
invariant-hold_call-loop-expression l = any_holds (map holds_call (drop l.expression-index l.expressions)) ≡ hold_call l.expressions

abbrev pub invariant-links_hold_call-loop-link : goal.invariant-links_hold_call-loop-link
invariant-links_hold_call-loop-link l =
    any_holds (map link_holds_call_of (drop l.link-index l.link-items)) ≡ any_holds (map link_holds_call_of l.link-items)
