use Rattle.std.proofs.lemmas.Result.{err_from_is_err_and}
use Rattle.report.specs.Refusals.{given}
use Rattle.report.proofs.RefusalLemmas.{refused_by}
use Rattle.report.proofs.compile.whole.Goals as goal

pub returns : goal.returns
returns c =
    let source = c.args.source.now in
    let text = given c.args.certificate in
    let sound = c.in_ok-tree.ensures in
    let judgement = c.in_ok-certificate.ensures source sound in
    record { tree = sound; judgement = judgement; codes = c.in_ok-full.ensures source text _ sound judgement }

pub returns-in_err-tree : goal.returns-in_err-tree
returns-in_err-tree c =
    let source = c.args.source.now in
    let text = given c.args.certificate in
    let told = err_from_is_err_and c.from_residual.result c.from_residual.ensures.1 in
    refused_by _ source text c.from_residual.result told.0 _ told.1 told.2 (c.in_err-tree.ensures text)

pub returns-in_err-certificate : goal.returns-in_err-certificate
returns-in_err-certificate c =
    let source = c.args.source.now in
    let text = given c.args.certificate in
    let told = err_from_is_err_and c.from_residual-in_err-certificate.result c.from_residual-in_err-certificate.ensures.1 in
    refused_by _ source text c.from_residual-in_err-certificate.result told.0 _ told.1 told.2 (c.in_err-certificate.ensures source c.in_ok-tree.ensures)

pub returns-in_err-full : goal.returns-in_err-full
returns-in_err-full c =
    let source = c.args.source.now in
    let text = given c.args.certificate in
    let sound = c.in_ok-tree.ensures in
    let judgement = c.in_ok-certificate.ensures source sound in
    let told = err_from_is_err_and c.from_residual-in_err-full.result c.from_residual-in_err-full.ensures.1 in
    refused_by _ source text c.from_residual-in_err-full.result told.0 _ told.1 told.2 (c.in_err-full.ensures source text _ sound judgement)
