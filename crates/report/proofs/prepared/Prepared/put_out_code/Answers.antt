use Rattle.std.proofs.Common.{sym, subst}
use Rattle.pcode_assembler.specs.Contents.{spelling}
use Rattle.report.specs.Pcom.{code_of, reports}
use Rattle.report.specs.Prepared.{IsThereFor}
use Rattle.report.specs.Refusals.{given}
use Rattle.report.proofs.CourseLemmas.{unwritten, written}
use Rattle.report.proofs.prepared.Prepared.put_out_code.Goals as goal

pub returns-in-Ok : goal.returns-in-Ok
returns-in-Ok g c =
    let compiled = c.args.self.compiled in
    let path = given c.args.words.code in
    let wanted = spelling (code_of c.args.words.keep_checks compiled) in
    written path wanted c.deref.result.now _ _ _ c.report_to.result (reports c.args.words compiled)
    (subst (IsThereFor path wanted) (sym c.deref.ensures.value) c.requires.code) c.in-Ok.ensures c.report_to.ensures

pub returns-in-Err : goal.returns-in-Err
returns-in-Err g c =
    let compiled = c.args.self.compiled in
    let path = given c.args.words.code in
    let wanted = spelling (code_of c.args.words.keep_checks compiled) in
    unwritten path wanted c.deref.result.now c.in-Err.path _ _ _ c.cannot_write.result (reports c.args.words compiled)
    (subst (IsThereFor path wanted) (sym c.deref.ensures.value) c.requires.code) c.in-Err.ensures c.cannot_write.ensures
