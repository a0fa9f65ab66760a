use Rattle.std.proofs.Common.{◌≡◌, Some, drop}
use Rattle.checker_calls.specs.Names.{has_boxes}
use Rattle.cert_checker.proofs.names.has_boxes.Given as goal

-- with the spans that are left, the steps that are left
abbrev pub invariant-loop-step : goal.invariant-loop-step
invariant-loop-step l =
    has_boxes l.types (drop l.step-index l.steps) (Some l.left) l.id ≡ has_boxes l.types l.steps (Some l.fn.spans) l.id
