use Rattle.std.proofs.Common.{sym, ◌∙◌}
use Rattle.interpreter_state.proofs.Members.{no_member}
use Rattle.interpreter_state.proofs.sets.is_member.Goals as goal

pub returns-in-None : goal.returns-in-None
returns-in-None c = sym (no_member c.args.set c.args.number c.ranges.set.fits (sym c.member_at.ensures ∙ c.in-None.is))
