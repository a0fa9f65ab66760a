use Rattle.std.proofs.Common.{subst}
use Rattle.std.specs.Prelude.{IfSome}
use Rattle.std.proofs.lemmas.Result.{err_from_is_err_and}
use Rattle.analyser.specs.Verdicts.{IsVerdict}
use Rattle.report.specs.Refusals.{given}
use Rattle.report.proofs.RefusalLemmas.{refused_by, checking-refusal}
use Rattle.report.proofs.compile.judged.Goals as goal

-- the verdict that came with the certificate is the checker's by it
pub returns-in-Some : goal.returns-in-Some
returns-in-Some c = λ source sound.
    let served = c.in_ok-certificate.ensures source sound in
    let it = subst (λ verdict. IfSome verdict (IsVerdict c.args.tree.now c.in_ok-certificate.field-0.certificate)) c.in-Some.is served.1 in
    record {
      serves = served.0;
      valid = it.valid;
      entered = it.entered;
      closed_never_err = it.closed_never_err sound.well_formed sound.in_order;
      states_hold = it.states_hold sound.well_formed sound.numbered;
      calls_change = it.calls_change sound.well_formed;
    }

-- the one that is made here is the checker's too
pub returns-in_ok-verdict-in-None : goal.returns-in_ok-verdict-in-None
returns-in_ok-verdict-in-None c = λ source sound.
    let served = c.in_ok-certificate.ensures source sound in
    let it = c.in_ok-verdict-in-None.ensures in
    record {
      serves = served.0;
      valid = it.valid;
      entered = it.visits;
      closed_never_err = it.closed_never_err sound.well_formed sound.in_order;
      states_hold = it.states_hold sound.well_formed sound.numbered;
      calls_change = it.calls_change sound.well_formed;
    }

pub returns-in_err-certificate : goal.returns-in_err-certificate
returns-in_err-certificate c = λ source sound.
    let text = given c.args.certificate in
    let told = err_from_is_err_and c.from_residual.result c.from_residual.ensures.1 in
    refused_by _ source text c.from_residual.result told.0 _ told.1 told.2 (c.in_err-certificate.ensures source sound)

pub returns-in_err-verdict-in-None : goal.returns-in_err-verdict-in-None
returns-in_err-verdict-in-None c = λ source sound.
    let text = given c.args.certificate in
    let told = err_from_is_err_and c.from_residual-in_err-verdict-in-None.result c.from_residual-in_err-verdict-in-None.ensures.1 in
    refused_by _ source text c.from_residual-in_err-verdict-in-None.result told.0 _ told.1 told.2
    (checking-refusal source text c.args.tree.now c.in_ok-certificate.field-0.certificate c.in_err-verdict-in-None.field-0.0
    sound.well_formed (record { typed = sound.typed; serves = (c.in_ok-certificate.ensures source sound).0 })
    c.in_err-verdict-in-None.ensures.refused)
