use Rattle.members.proofs.Memberships.{one_has, range_has}
use Rattle.members.proofs.laws.ranges_by_members.Goals as goal

pub returns-clause-range : goal.returns-clause-range
returns-clause-range c = range_has

pub returns-clause-one : goal.returns-clause-one
returns-clause-one c = one_has
