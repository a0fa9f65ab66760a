use Rattle.std.proofs.Common.{rules, ap, subst, sym}
use Rattle.std.proofs.lemmas.Result.{err_from_is_err_and}
use Rattle.report_text.specs.Faults.{certificate_fault}
use Rattle.report.specs.Refusals.{IsRefusal, given}
use Rattle.report.proofs.RefusalLemmas.{refused_by, certificate-refusal}
use Rattle.report.proofs.compile.serving.Goals as goal

pub returns-in_err-read-in-Some : goal.returns-in_err-read-in-Some
returns-in_err-read-in-Some c = λ source sound.
    let told = err_from_is_err_and c.from_residual.result c.from_residual.ensures.1 in
    let fault = c.in_err-read-in-Some.field-0.0 in
    refused_by _ source (given c.args.text) c.from_residual.result told.0 _ told.1 told.2
    (subst (λ text. IsRefusal source text (certificate_fault fault)) (sym (ap given c.in-Some.is))
    (certificate-refusal source c.in-Some.text.now c.args.tree.now fault sound.typed (search rules)))
