use Rattle.std.proofs.Common.{◌≡◌, ◌∙◌, sym, ap, subst, get_or, length, if◌then◌else◌, ◌<◌, ◌++◌}
use Rattle.plain_certificate.proofs.Items.{flat-more}
use Rattle.plain_certificate.specs.Widest.{paired_roots, pairs_of, pairs_with, parameters_of}
use Rattle.checker_calls.specs.Names.{is_variable_parameter}
use Rattle.plain_certificate.proofs.pairs.block_pairs.Goals.{then-is_variable_parameter, else-is_variable_parameter}
use Rattle.plain_certificate.proofs.pairs.block_pairs.Goals as goal

pub loop-first-preserved : goal.loop-first-preserved
loop-first-preserved c =
    let tree = c.args.tree.now in
    let block = c.args.block in
    let i = c.loop-first.first-index in
    let paired_is : c.deref-first-items.result.now ≡ paired_roots tree block = c.deref-first-items.ensures.value ∙ c.in_ok-paired.ensures in
    let first = get_or c.deref-first-items.result.now i 0 in
    let first_is : first ≡ get_or (paired_roots tree block) i 0 = ap (λ items. get_or items i 0) paired_is in
    let inside : i < length (paired_roots tree block) = subst (λ items. i < length items) paired_is c.loop-first-test.true in
    let parameters_are = c.loop-first.invariant.1 in
    let others_are : c.deref.result.now ≡ (if is_variable_parameter tree block first then paired_roots tree block else parameters_of tree block) =
    c.deref.ensures.value
    ∙ elim c.if-is_variable_parameter.branch [
      | then-is_variable_parameter w ↦ ap (λ others. others.now.items) w.others-is ∙ c.in_ok-paired.ensures
          ∙ sym (ap (λ b. if b then paired_roots tree block else parameters_of tree block)
          (sym c.is_variable_parameter.ensures ∙ w.if-is_variable_parameter.true))
      | else-is_variable_parameter w ↦ ap (λ others. others.now.items) w.others-is ∙ parameters_are
          ∙ sym (ap (λ b. if b then paired_roots tree block else parameters_of tree block)
          (sym c.is_variable_parameter.ensures ∙ w.if-is_variable_parameter.false))
    ] in (
      flat-more (pairs_of tree block) c.loop-first.pairs.items c.add_pairs.new.pairs.items (paired_roots tree block) i 0 inside c.loop-first.invariant.0
          (c.in_ok-add_pairs.ensures
          ∙ ap (λ others. c.loop-first.pairs.items ++ pairs_with first others) others_are
          ∙ ap (λ n. c.loop-first.pairs.items ++ pairs_of tree block n) first_is),
      parameters_are,
    )
