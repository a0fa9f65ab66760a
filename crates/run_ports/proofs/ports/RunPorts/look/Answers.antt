use Rattle.std.proofs.lemmas.Result.{err_from_is_err_and}
use Rattle.run_ports.proofs.Peeked.{Look-none, Look-some, Look-stops}
use Rattle.run_ports.proofs.ports.RunPorts.look.Goals as goal

pub returns-in_err-byte-clause-reads : goal.returns-in_err-byte-clause-reads
returns-in_err-byte-clause-reads g c =
    let p = err_from_is_err_and c.from_residual.result c.from_residual.ensures.1 in
    rw (p.1, p.2) (Look-stops _ _ _ _ _ _ _ c.in_err-byte.ensures.reads)

pub returns-in-Some-clause-reads : goal.returns-in-Some-clause-reads
returns-in-Some-clause-reads g c =
    let reads = rw c.in-Some.is at c.in_ok-byte.ensures.reads in
    Look-some c.in-Some.byte _ _ _ _ _ _ reads

pub returns-in-None-clause-reads : goal.returns-in-None-clause-reads
returns-in-None-clause-reads g c =
    let reads = rw c.in-None.is at c.in_ok-byte.ensures.reads in
    Look-none _ _ _ _ _ _ reads
