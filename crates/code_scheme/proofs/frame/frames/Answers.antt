use Rattle.std.proofs.Common.{take, sym, ◌∙◌, subst}
use Rattle.std.proofs.lemmas.List.{take_all, take_more}
use Rattle.code_scheme.specs.Frames.{AreCounted}
use Rattle.code_scheme.proofs.frame.frames.Goals as goal

pub loop-variable-preserved : goal.loop-variable-preserved
loop-variable-preserved c =
    let items = c.deref-variable-items.result.now in
    let i = c.loop-variable.variable-index in
    subst (λ vs. AreCounted c.args.tree.now.types vs c.count_in.new.frames.items) (sym (take_more items i _ c.loop-variable-test.true))
    (c.in_ok-count_in.ensures (take i items) c.loop-variable.invariant)

pub returns : goal.returns
returns c =
    let all = take_all c.loop-variable.variable-index c.deref-variable-items.result.now c.loop-variable-test.false ∙ c.deref-variable-items.ensures.value in
    subst (λ vs. AreCounted c.args.tree.now.types vs c.loop-variable.frames.items) all c.loop-variable.invariant
