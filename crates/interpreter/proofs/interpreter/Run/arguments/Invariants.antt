use Rattle.std.proofs.Common.{◌≡◌, map, reverse}
use Rattle.interpreter_state.specs.Views.{operand_seen}
use Rattle.interpreter.specs.Pending.{left_below, operands_of, taken_from}
use Rattle.interpreter.proofs.interpreter.Run.arguments.Given as goal

-- so many were taken, the last one is deepest
abbrev pub invariant-loop : goal.invariant-loop
invariant-loop l =
    (l.self ≡ record l.initial.self { operands = l.self.operands })
    × (map operand_seen l.arguments.items ≡ reverse (taken_from l.counter (operands_of l.initial.self)))
    × (operands_of l.self ≡ left_below l.counter (operands_of l.initial.self))
