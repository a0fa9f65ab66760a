use Rattle.std.proofs.Common.{sym, subst}
use Rattle.report.specs.Pcom.{spelled, writes_code}
use Rattle.report.specs.Prepared.{IsThereFor}
use Rattle.report.specs.Refusals.{given}
use Rattle.report.proofs.CourseLemmas.{unwritten, written}
use Rattle.report.proofs.prepared.Prepared.put_out.Goals as goal

pub returns-in-Ok : goal.returns-in-Ok
returns-in-Ok g c =
    let compiled = c.args.self.compiled in
    let path = given c.args.words.write_cert in
    written path (spelled compiled) c.deref.result.now _ _ _ c.put_out_code.result (writes_code c.args.words compiled)
    (subst (IsThereFor path (spelled compiled)) (sym c.deref.ensures.value) c.requires.certificate) c.in-Ok.ensures c.put_out_code.ensures

pub returns-in-Err : goal.returns-in-Err
returns-in-Err g c =
    let compiled = c.args.self.compiled in
    let path = given c.args.words.write_cert in
    unwritten path (spelled compiled) c.deref.result.now c.in-Err.path _ _ _ c.cannot_write.result (writes_code c.args.words compiled)
    (subst (IsThereFor path (spelled compiled)) (sym c.deref.ensures.value) c.requires.certificate) c.in-Err.ensures c.cannot_write.ensures
