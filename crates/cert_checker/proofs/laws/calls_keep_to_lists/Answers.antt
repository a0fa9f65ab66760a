use Rattle.cert_checker.proofs.EffectsRoutines.{calls-change-what-they-list}
use Rattle.cert_checker.proofs.laws.calls_keep_to_lists.Goals as goal

pub returns : goal.returns
returns c tree certificate open_sites valid well = calls-change-what-they-list tree well certificate valid.unbroken
