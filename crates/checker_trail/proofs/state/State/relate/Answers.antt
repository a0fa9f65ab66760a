use Rattle.std.proofs.Common.{sym, subst}
use Rattle.typed_tree.specs.declared.tree.Relation.{Relation}
use Rattle.checker_state.specs.Conditions.{related}
use Rattle.checker_trail.specs.Trail.{Moves}
use Rattle.checker_state.specs.View.{said_bound}
use Rattle.checker_trail.proofs.Ways.{moves-then}
use Rattle.checker_trail.proofs.state.State.relate.Goals as goal

pub returns-in-Equal : goal.returns-in-Equal
returns-in-Equal c =
    subst (λ (r : Relation). Moves (related r (said_bound c.args.left) (said_bound c.args.right)) c.args.self.now c.put_order-in-Equal.new.self)
    (sym c.in-Equal.is) (moves-then c.put_order.ensures c.put_order-in-Equal.ensures)
