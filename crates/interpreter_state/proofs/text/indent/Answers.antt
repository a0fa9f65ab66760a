use Rattle.std.proofs.Common.{◌++◌, [], ◌∷◌, replicate, ap, ◌∙◌, append_assoc}
use Rattle.std.proofs.lemmas.List.{replicate_more}
use Rattle.interpreter_state.proofs.text.indent.Goals as goal

pub loop-space-preserved : goal.loop-space-preserved
loop-space-preserved c =
    let before = c.args.output.now.items in
    let spaces = replicate c.loop-space._space 32 in
    c.in_ok-push.ensures.items ∙ ap (λ written. written ++ 32 ∷ []) c.loop-space.invariant
    ∙ append_assoc before spaces (32 ∷ []) ∙ ap (λ more. before ++ more) (replicate_more c.loop-space._space 32)
