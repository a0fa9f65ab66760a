use Rattle.std.proofs.Common.{rules, false, true, sym, ap, ◌∙◌, take}
use Rattle.certificate.specs.Bounds.{span_and, span_of, spans_up_to}
use Rattle.certificate.proofs.SpanLaws.{spans_by, spans_cut, too_many}
use Rattle.certificate.proofs.WordLaws.{word_behind}
use Rattle.certificate.proofs.bounds.spans_of.Goals as goal

pub returns-in-Some : goal.returns-in-Some
returns-in-Some c =
    let words = c.args.words.now in
    let first = c.in_ok-first.first.now in
    let rest = c.in_ok-first.words.now in
    let end = c.in-Some.end in
    c.two_spans.ensures ∙ ap (λ more. span_and (span_of first (take end rest)) (spans_up_to 1 more)) (word_behind rest end)
    ∙ sym (spans_by c.args.version words true (sym c.has.ensures ∙ c.if-has.true)
    ∙ spans_cut 1 words first rest end (search rules) (sym c.blank.ensures ∙ c.in-Some.is))

pub returns-in-Some-2 : goal.returns-in-Some-2
returns-in-Some-2 c =
    let words = c.args.words.now in
    too_many words c.in_ok-first.first.now c.in_ok-first.words.now c.in-Some.end (search rules) (sym c.blank.ensures ∙ c.in-Some.is)
    ∙ sym (spans_by c.args.version words false (sym c.has.ensures ∙ c.if-has.false))
