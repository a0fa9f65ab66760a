use Rattle.cert_checker.proofs.SoundProgram.{closed-never_err}
use Rattle.cert_checker.proofs.laws.errors_are_open.Goals as goal

pub returns : goal.returns
returns c tree certificate open_sites valid well in_order =
    closed-never_err tree certificate open_sites valid.unbroken valid.known valid.open_are well in_order
