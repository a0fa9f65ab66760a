use Rattle.members.proofs.Memberships.{operators_stay, range_stays}
use Rattle.members.proofs.laws.sets_stay_sets.Goals as goal

pub returns-clause-operators : goal.returns-clause-operators
returns-clause-operators c = operators_stay

pub returns-clause-range : goal.returns-clause-range
returns-clause-range c = range_stays

pub returns-clause-one : goal.returns-clause-one
returns-clause-one c = λ one. range_stays one one
