use Rattle.std.proofs.Common.{length}
use Rattle.checker_sides.proofs.SidesMet.{rest-left}
use Rattle.checker_sides.proofs.sides.meet_operands.Goals as goal

pub returns-clause-rest : goal.returns-clause-rest
returns-clause-rest c = rest-left c.args.notes.now (length c.args.rest.now) c.min.result c.min.ensures
