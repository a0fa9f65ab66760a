use Rattle.members.proofs.Memberships.{same_members}
use Rattle.members.proofs.laws.members_tell_sets_apart.Goals as goal

pub returns : goal.returns
returns c = same_members
