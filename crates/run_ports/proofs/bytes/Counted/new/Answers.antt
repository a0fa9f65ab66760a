use Rattle.std.proofs.Common.{rules}
use Rattle.run_ports.proofs.bytes.Counted.new.Goals as goal

pub returns-clause-failures : goal.returns-clause-failures
returns-clause-failures g c = search rules
