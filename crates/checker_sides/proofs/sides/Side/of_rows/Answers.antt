use Rattle.std.proofs.Common.{ap}
use Rattle.std.specs.Option.{option_map}
use Rattle.checker_sides.specs.Sides.{row_side}
use Rattle.checker_sides.proofs.SidesMet.{only-other}
use Rattle.checker_sides.proofs.sides.Side.of_rows.Goals as goal

pub returns-else-rows-eq1 : goal.returns-else-rows-eq1
returns-else-rows-eq1 c = ap (option_map row_side) (only-other c.args.rows.first c.args.rows.count c.if-rows-eq1.false)
