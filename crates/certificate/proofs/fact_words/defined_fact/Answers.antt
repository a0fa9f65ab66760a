use Rattle.std.proofs.Common.{sym, ap, ◌∙◌, take}
use Rattle.certificate.specs.Lines.{defined_at, spanned_fact}
use Rattle.certificate.proofs.WordLaws.{word_behind}
use Rattle.certificate.proofs.fact_words.defined_fact.Goals as goal

pub returns-in-Some : goal.returns-in-Some
returns-in-Some c =
    let words = c.args.words.now in
    let end = c.in-Some.end in
    let version = c.args.version in
    c.spanned_fact.ensures ∙ ap (spanned_fact version (take end words)) (word_behind words end)
    ∙ ap (defined_at version words) (sym c.in-Some.is ∙ c.blank.ensures)
