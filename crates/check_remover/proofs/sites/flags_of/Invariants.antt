use Rattle.std.proofs.Common.{take}
use Rattle.check_remover.specs.Open.{AreFlagsOf}
use Rattle.check_remover.proofs.sites.flags_of.Given as goal

-- the flags of the sites so far
abbrev pub invariant-loop-site : goal.invariant-loop-site
invariant-loop-site l = AreFlagsOf (take l.site-index l.sites) l.flags.items
