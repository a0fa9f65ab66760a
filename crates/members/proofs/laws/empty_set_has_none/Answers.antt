use Rattle.members.proofs.Memberships.{empty_has}
use Rattle.members.proofs.laws.empty_set_has_none.Goals as goal

pub returns : goal.returns
returns c = empty_has
