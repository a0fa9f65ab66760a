use Rattle.std.proofs.Common.{rules}
use Rattle.run_ports.proofs.bytes.CountedSink.write.Goals as goal

pub returns-clause-counted : goal.returns-clause-counted
returns-clause-counted g c = search rules
