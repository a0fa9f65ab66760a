use Rattle.members.proofs.Memberships.{can_be}
use Rattle.members.proofs.laws.members_can_be_members.Goals as goal

pub returns : goal.returns
returns c = can_be
