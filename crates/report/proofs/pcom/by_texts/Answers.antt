use Rattle.std.proofs.Common.{Ok, Err}
use Rattle.report.proofs.pcom.by_texts.Goals as goal

pub returns-in-Ok : goal.returns-in-Ok
returns-in-Ok g c =
    let done = c.put_out.ensures in (done.0, done.1, (Ok c.in-Ok.prepared.compiled, (c.in-Ok.ensures.compiled, done.2)))

pub returns-in-Err : goal.returns-in-Err
returns-in-Err g c =
    let done = c.refuse.ensures in (done.0, done.1, (Err c.in-Err.fault, (c.in-Err.ensures.refused, done.2)))
