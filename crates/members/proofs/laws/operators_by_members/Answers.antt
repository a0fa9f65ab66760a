use Rattle.members.proofs.Memberships.{difference_has, intersection_has, union_has}
use Rattle.members.proofs.laws.operators_by_members.Goals as goal

pub returns-clause-union : goal.returns-clause-union
returns-clause-union c = union_has

pub returns-clause-intersection : goal.returns-clause-intersection
returns-clause-intersection c = intersection_has

pub returns-clause-difference : goal.returns-clause-difference
returns-clause-difference c = difference_has
