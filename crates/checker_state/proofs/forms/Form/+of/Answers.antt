use Rattle.std.proofs.Common.{◌∙◌, sym, ap, ap₂, ◌+◌, List, drop, map}
use Rattle.std.proofs.lemmas.List.{drop_all}
use Rattle.typed_tree.specs.declared.tree.Expr.{Expr}
use Rattle.typed_tree.specs.declared.tree.Link.{Link}
use Rattle.checker_state.specs.declared.forms.Form.{Form}
use Rattle.checker_state.specs.Conditions.{condition_of, conjunct_of, operand_of}
use Rattle.checker_state.specs.Forms.{chain_form, operated_form}
use Rattle.checker_rows.specs.Rows.{is_ordinal_variable}
use Rattle.checker_state.proofs.FormsOf.{chain-begins, link-more, other-chain}
use Rattle.checker_state.proofs.forms.Form.+of.Goals as goal

pub loop-link-init : goal.loop-link-init
loop-link-init t c =
    let ordinal = is_ordinal_variable c.args.rows.now in
    ap₂ (λ (form : Form) (links : List Link). chain_form form (map operand_of (map (conjunct_of ordinal) links)))
    (c.of-form.ensures ∙ ap (λ (e : Expr). (condition_of ordinal e).form) c.deref-in-Chain.ensures) c.deref-link-items.ensures.value
    ∙ chain-begins ordinal c.args.expression.now c.in-Chain.first c.in-Chain.rest c.in-Chain.is

pub returns-then-not-goes_on : goal.returns-then-not-goes_on
returns-then-not-goes_on t c =
    let ordinal = is_ordinal_variable c.args.rows.now in
    let links = c.deref-link-items.result.now in
    let i = c.loop-link.link-index in
    let link = c.link-item.result in
    let left = map operand_of (map (conjunct_of ordinal) (drop (i + 1) links)) in
    let right = (condition_of ordinal link.operand).form in
    sym (other-chain left) ∙ ap (λ (form : Form). chain_form form left) (sym (c.goes_on.ensures right c.if-not-goes_on.true))
    ∙ link-more ordinal links i link c.loop-link.form c.loop-link-test.true c.link-item.is ∙ c.loop-link.invariant

pub loop-link-preserved : goal.loop-link-preserved
loop-link-preserved t c =
    let ordinal = is_ordinal_variable c.args.rows.now in
    let links = c.deref-link-items.result.now in
    let i = c.loop-link.link-index in
    let link = c.link-item.result in
    let left = map operand_of (map (conjunct_of ordinal) (drop i links)) in
    ap (λ (form : Form). chain_form form (map operand_of (map (conjunct_of ordinal) (drop (i + 1) links))))
    (c.operated-form.ensures ∙ ap (λ (right : Form). operated_form link.operation c.loop-link.form right) c.of-in-loop-link.ensures)
    ∙ link-more ordinal links i link c.loop-link.form c.loop-link-test.true c.link-item.is ∙ c.loop-link.invariant

pub returns-after-loop-link : goal.returns-after-loop-link
returns-after-loop-link t c =
    let ordinal = is_ordinal_variable c.args.rows.now in
    ap (λ (links : List Link). chain_form c.loop-link.form (map operand_of (map (conjunct_of ordinal) links)))
    (sym (drop_all c.loop-link.link-index c.deref-link-items.result.now c.loop-link-test.false))
    ∙ c.loop-link.invariant
