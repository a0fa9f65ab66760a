use Rattle.std.proofs.Common.{rules}
use Rattle.run_ports.proofs.bytes.Counted.failures.Goals as goal

pub returns : goal.returns
returns g c = search rules
