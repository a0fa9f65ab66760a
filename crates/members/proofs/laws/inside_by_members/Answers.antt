use Rattle.members.proofs.Memberships.{inside_has, within_has}
use Rattle.members.proofs.laws.inside_by_members.Goals as goal

pub returns-clause-inside : goal.returns-clause-inside
returns-clause-inside c = inside_has

pub returns-clause-within : goal.returns-clause-within
returns-clause-within c = within_has
