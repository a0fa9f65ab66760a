use Rattle.std.proofs.Common.{◌≡◌, length}
use Rattle.stack_machine.proofs.Characters.{order_from}
use Rattle.stack_machine.proofs.rows.order.Given as goal

abbrev pub invariant-loop-a : goal.invariant-loop-a
invariant-loop-a l =
    (goal.iterator-loop-a).can_next l.a-iterator × (goal.iterator-loop-a).is_finite l.a-iterator
    × (order_from l.left l.right (length l.yielded) ≡ order_from l.left l.right 0)
