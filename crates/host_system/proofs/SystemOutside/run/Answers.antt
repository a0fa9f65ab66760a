use Rattle.outside.proofs.Runs.{seen}
use Rattle.host_system.proofs.SystemOutside.run.Goals as goal

pub returns : goal.returns
returns c = seen _ _ _ _ _ _ _ _ c.run_prepared.ensures.ran c.run_prepared.ensures.write_failed
