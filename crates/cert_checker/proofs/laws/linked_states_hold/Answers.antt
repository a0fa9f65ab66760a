use Rattle.cert_checker.proofs.Entered.{links_entries}
use Rattle.cert_checker.proofs.SoundProgram.{states-hold}
use Rattle.cert_checker.proofs.laws.linked_states_hold.Goals as goal

pub returns : goal.returns
returns c tree certificate open_sites valid well numbered =
    states-hold tree certificate valid.unbroken valid.known (links_entries tree certificate).of_program well numbered
