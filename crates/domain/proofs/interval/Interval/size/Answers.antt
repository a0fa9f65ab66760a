use Rattle.std.proofs.Common.{arith}
use Rattle.std.proofs.lemmas.Int.{to_z-of_z}
use Rattle.domain.specs.Ranges.{end-max}
use Rattle.domain.proofs.interval.Interval.size.Goals as goal

pub returns-clause-bounds : goal.returns-clause-bounds
returns-clause-bounds c = end-max c.magnitude.result c.magnitude-2.result _ c.magnitude.ensures.bounds c.magnitude-2.ensures.bounds (grind (arith, to_z-of_z))
