use Rattle.std.proofs.Common.{refl}
use Rattle.std.proofs.lemmas.Result.{err_from_is_err_and}
use Rattle.run_ports.specs.Steps.{byte_taken}
use Rattle.run_ports.proofs.Taken.{Looked-stops, Taken-is}
use Rattle.run_ports.proofs.ports.RunPorts.next_byte.Goals as goal

pub returns-in_err-next-clause-reads : goal.returns-in_err-next-clause-reads
returns-in_err-next-clause-reads g c =
    let p = err_from_is_err_and c.from_residual.result c.from_residual.ensures.1 in
    rw (p.1, p.2) (Looked-stops byte_taken _ _ _ _ _ _ _ refl c.in_err-next.ensures.reads)

pub returns-clause-reads : goal.returns-clause-reads
returns-clause-reads g c = Taken-is c.in_ok-next.next _ c.look.new.self _ _ _ _ _ c.take.ensures.takes c.in_ok-next.ensures.reads
