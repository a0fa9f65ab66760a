use Rattle.std.proofs.Common.{◌∙◌, ap, sym, [], ◌∷◌, Option}
use Rattle.types.specs.declared.form.OrdinalRange.{OrdinalRange}
use Rattle.checker_rows.specs.Leaves.{index_before}
use Rattle.checker_state.specs.State.{Span, Wanted, has_span, have_spans, wanted_of}
use Rattle.checker_state.specs.View.{said_span}
use Rattle.checker_known.specs.Knowledge.{core, viewed}
use Rattle.checker_known.proofs.Within.{all-has}
use Rattle.checker_known.proofs.knowledge.Knowledge.has_all.Goals as goal

pub returns-in-Some : goal.returns-in-Some
returns-in-Some c =
    let known = viewed (core c.args.self.now) in
    let held = said_span c.args.held in
    c.has_span.ensures ∙ ap (λ (asks : Wanted). has_span asks held) c.between.ensures
    ∙ ap (λ (span : Span). has_span (wanted_of known span) held) c.all.ensures ∙ all-has known c.in-Some.range held
    ∙ ap (λ (index : Option OrdinalRange). have_spans known (index_before index []) [] (held ∷ [])) (sym c.in-Some.is)
