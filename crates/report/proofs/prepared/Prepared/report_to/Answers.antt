use Rattle.std.proofs.Common.{ℕ, List, Bool, ◌∷◌, ap, subst, ◌∙◌, append-nil}
use Rattle.stack_machine.specs.Does.{cell_count}
use Rattle.outside.specs.Acts.{Act, Told}
use Rattle.report.specs.Courses.{runs}
use Rattle.report.specs.Pcom.{code_of, open_sites, report_status, reports}
use Rattle.report.specs.Prepared.{IsReadyIf}
use Rattle.report.proofs.CourseLemmas.{goes-on, runs-on}
use Rattle.report.proofs.prepared.Prepared.report_to.Goals as goal

pub returns : goal.returns
returns g c =
    let words = c.args.words in
    let compiled = c.args.self.compiled in
    let ready = c.in-Some.ready in
    let told = c.tell-told.result in
    let status = c.report_status-status.result in
    let code = c.chosen-code.result.now in
    let wanted = code_of words.keep_checks compiled in
    goes-on (reports words compiled) (runs code (cell_count ready.machine) told status) (Told _ told) _ _ _ c.run_code.result c.tell-told.ensures
    c.run_code.ensures (λ (rest : List Act) done. (
      told,
      rest,
      ap (λ (t : List ℕ). Told t told ∷ rest) (append-nil _ ∙ c.as_slice.ensures.value ∙ c.requires.report),
      runs-on words.go ready code wanted told status (report_status (open_sites compiled)) rest c.run_code.result
          (subst (IsReadyIf words.go wanted) c.in-Some.is c.requires.ready) c.chosen-code.ensures
          (c.report_status-status.ensures ∙ ap report_status c.deref.ensures.value) done,
    ))
