use Rattle.std.proofs.Common.{ℕ, List, Some, None, refl, subst}
use Rattle.outside.specs.Acts.{Act, ReadFile}
use Rattle.report.specs.Courses.{ends_with, file_status, unreadable_line}
use Rattle.report.specs.Pint.{assembles, by_words}
use Rattle.report.proofs.CourseLemmas.{goes-on}
use Rattle.report.proofs.pint.by_words.Goals as goal

pub returns-in-Some : goal.returns-in-Some
returns-in-Some g c =
    let bytes = c.in-Some.text.items in
    let cells = c.args.words.cells in
    goes-on (by_words c.args.words) (assembles cells c.deref.result.now) (ReadFile c.args.words.code.now (Some bytes)) _ _ _ c.by_text.result
    c.in-Some.ensures c.by_text.ensures
    (λ (rest : List Act) done.
    (Some bytes, rest, refl, subst (λ (t : List ℕ). assembles cells t rest c.by_text.result) c.deref.ensures.value done))

pub returns-in-None : goal.returns-in-None
returns-in-None g c =
    let path = c.args.words.code.now in
    goes-on (by_words c.args.words) (ends_with (unreadable_line path) file_status) (ReadFile path None) _ _ _ c.cannot_read.result
    c.in-None.ensures c.cannot_read.ensures (λ (rest : List Act) done. (None, rest, refl, done))
