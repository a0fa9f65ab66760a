use Rattle.std.proofs.Common.{rules, sym, ◌∙◌}
use Rattle.certificate.proofs.SpanLaws.{too_many}
use Rattle.certificate.proofs.bounds.inner_span.Goals as goal

pub returns-in-Some : goal.returns-in-Some
returns-in-Some c =
    too_many c.args.words.now c.in_ok-first.first.now c.in_ok-first.last.now c.in-Some.field-0 (search rules) (sym c.blank.ensures ∙ c.in-Some.is)
