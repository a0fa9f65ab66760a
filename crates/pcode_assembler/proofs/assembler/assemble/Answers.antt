use Rattle.std.proofs.Common.{◌≡◌, refl, rules, sym, ap, arith, ◌∙◌, length, map}
use Rattle.std.proofs.lemmas.List.{with_items_is}
use Rattle.pcode_assembler.specs.Contents.{going_to, named}
use Rattle.pcode_assembler.specs.Reading.{seen_by}
use Rattle.pcode_assembler.specs.Text.{body, body_fault, end_fault, fault_from, start}
use Rattle.pcode_assembler.proofs.Whole.{heading_first, end_from, error_only, exactly, memory_only, no_body_fault, no_end_fault, no_fault_below, one_code}
use Rattle.pcode_assembler.proofs.assembler.assemble.Goals as goal

pub returns-in_err-check_end-clause-spelled : goal.returns-in_err-check_end-clause-spelled
returns-in_err-check_end-clause-spelled c code says =
    let text = c.args.text.now in
    let error = c.in_err-check_end.field-0.0 in
    error_only code _ error c.from_residual.ensures.1
    (memory_only error (end_fault text) (no_end_fault text code says) (λ _. sym c.in_err-check_end.ensures))

pub returns-in_err-below-clause-spelled : goal.returns-in_err-below-clause-spelled
returns-in_err-below-clause-spelled c code says =
    let text = c.args.text.now in
    let error = c.in_err-below.field-0.0 in
    error_only code _ error c.from_residual-in_err-below.ensures.1
    (memory_only error (body_fault (body text)) (no_body_fault text code says) (λ _. heading_first (body text) error c.in_err-below.ensures))

pub returns-in_err-below-clause-fault : goal.returns-in_err-below-clause-fault
returns-in_err-below-clause-fault c = search (heading_first, rules)

pub returns-in_err-code-clause-spelled : goal.returns-in_err-code-clause-spelled
returns-in_err-code-clause-spelled c code says =
    let text = c.args.text.now in
    let error = c.in_err-code.field-0.0 in
    let seen = seen_by c.in_ok-labels.labels in
    let below = body c.in_ok-below.below.now in
    error_only code _ error c.from_residual-in_err-code.ensures.1
    (memory_only error (fault_from seen start 2 below)
    (no_fault_below text below seen code says c.in_ok-below.ensures c.in_ok-labels.ensures) c.in_err-code.ensures)

pub returns-clause-exact : goal.returns-clause-exact
returns-clause-exact c =
    let text = c.args.text.now in
    let seen = seen_by c.in_ok-labels.labels in
    let below = body c.in_ok-below.below.now in
    let old = c.in_ok-code.code.instructions in
    let kept : length c.resolve_all.new.instructions ≡ old.len = omega arith in
    let resolved = with_items_is old c.resolve_all.new.instructions kept ∙ c.resolve_all.ensures ∙ ap (map (going_to (named seen))) c.as_mut_slice.ensures.value
    in
    exactly text below seen c.in_ok-code.code _ (end_from text (sym c.in_ok-check_end.ensures)) c.in_ok-below.ensures
    c.in_ok-labels.ensures c.in_ok-code.ensures.0 refl refl resolved

pub returns-clause-spelled : goal.returns-clause-spelled
returns-clause-spelled c code says = one_code c.args.text.now code _ says (returns-clause-exact c)
