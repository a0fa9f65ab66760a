use Rattle.std.proofs.Common.{◌∙◌, ap, cond, None, sym}
use Rattle.checker_rows.specs.Rows.{is_ordinal_variable}
use Rattle.checker_expressions.specs.Walk.{form_by, piece_of}
use Rattle.checker_expressions.proofs.Forms.{bound-same, indexes-hold}
use Rattle.checker_expressions.proofs.walk.form_before.Goals as goal

pub returns-then-hold_call : goal.returns-then-hold_call
returns-then-hold_call c =
    let form = form_by (is_ordinal_variable c.args.rows.now) c.args.version (piece_of c.args.index.now) in
    sym (ap (λ b. cond b None form) (indexes-hold c.args.later.now ∙ sym c.hold_call.ensures ∙ c.if-hold_call.true))

pub returns-else-hold_call : goal.returns-else-hold_call
returns-else-hold_call c =
    let ordinal = is_ordinal_variable c.args.rows.now in
    let form = form_by ordinal c.args.version (piece_of c.args.index.now) in
    c.bound_form.ensures ∙ sym (bound-same ordinal c.args.version c.args.index.now)
    ∙ sym (ap (λ b. cond b None form) (indexes-hold c.args.later.now ∙ sym c.hold_call.ensures ∙ c.if-hold_call.false))
