use Rattle.std.proofs.Common.{ℕ, List, Option, Some, None, refl, subst, sym, ◌∷◌}
use denote.Ref.{Bor}
use Rattle.outside.specs.Acts.{Act, ReadFile}
use Rattle.report.specs.Courses.{ends_with, file_status, unreadable_line, reads_if}
use Rattle.report.specs.Pcom.{by_source, compiles}
use Rattle.report.specs.Refusals.{given}
use Rattle.report.proofs.CourseLemmas.{goes-on}
use Rattle.report.proofs.pcom.by_source.Goals as goal

pub returns-in-Some-read_file : goal.returns-in-Some-read_file
returns-in-Some-read_file g c =
    let bytes = c.in-Some-read_file.text.items in
    let path = c.in-Some.path.now in
    let source = c.args.source.now in
    let status = c.by_texts-in-Some-read_file.result in
    let next = compiles c.args.words source in
    goes-on (by_source c.args.words source) (compiles c.args.words source (Some c.deref.result.now)) (ReadFile path (Some bytes)) _ _ _
    status c.in-Some-read_file.ensures c.by_texts-in-Some-read_file.ensures
    (λ (rest : List Act) done. subst (λ (p : Option (Bor (List ℕ))). reads_if (given p) next (ReadFile path (Some bytes) ∷ rest) status)
    (sym c.in-Some.is) (Some bytes, rest, refl, subst (λ (t : List ℕ). compiles c.args.words source (Some t) rest status) c.deref.ensures.value done))

pub returns-in-None : goal.returns-in-None
returns-in-None g c =
    let path = c.in-Some.path.now in
    let status = c.cannot_read.result in
    let next = compiles c.args.words c.args.source.now in
    goes-on (by_source c.args.words c.args.source.now) (ends_with (unreadable_line path) file_status) (ReadFile path None) _ _ _ status
    c.in-None.ensures c.cannot_read.ensures
    (λ (rest : List Act) done. subst (λ (p : Option (Bor (List ℕ))). reads_if (given p) next (ReadFile path None ∷ rest) status)
    (sym c.in-Some.is) (None, rest, refl, done))
