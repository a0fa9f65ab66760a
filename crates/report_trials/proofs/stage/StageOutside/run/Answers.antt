use Rattle.outside.proofs.Runs.{seen}
use Rattle.report_trials.proofs.stage.StageOutside.run.Goals as goal

pub returns : goal.returns
returns c = seen _ _ _ _ _ _ _ _ c.run_prepared-stop.ensures.ran c.run_prepared-stop.ensures.write_failed
