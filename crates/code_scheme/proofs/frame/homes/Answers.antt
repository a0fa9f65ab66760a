use Rattle.std.proofs.Common.{◌++◌, take, ap, sym, ◌∙◌, subst, append-nil}
use Rattle.std.proofs.lemmas.List.{drop_all, take_more}
use Rattle.code_scheme.specs.Frames.{AreCounted}
use Rattle.code_scheme.specs.Scopes.{homes_from}
use Rattle.code_scheme.proofs.Framed.{one_home}
use Rattle.code_scheme.proofs.frame.homes.Goals as goal

pub loop-variable-preserved : goal.loop-variable-preserved
loop-variable-preserved c =
    let tree = c.args.tree.now in
    let items = c.deref-variable-items.result.now in
    let i = c.loop-variable.variable-index in (
      subst (λ vs. AreCounted tree.types vs c.count_in.new.frames.items) (sym (take_more items i _ c.loop-variable-test.true))
          (c.in_ok-count_in.ensures (take i items) c.loop-variable.invariant.0),
      λ all.
          one_home tree c.loop-variable.homes.items c.push.new.self.items c.loop-variable.before.items c.deref.result.now c.args.frames.now items i _
          c.home_at.result c.start_in-start.result c.loop-variable-test.true c.deref-variable-items.ensures.value c.loop-variable.invariant.0 all
          c.deref.ensures.value c.start_in-start.ensures c.home_at.ensures c.in_ok-push.ensures.items (c.loop-variable.invariant.1 all),
    )

pub returns : goal.returns
returns c = λ all.
    let homes = c.loop-variable.homes.items in
    let i = c.loop-variable.variable-index in
    sym (append-nil homes)
    ∙ sym (ap (λ vs. homes ++ homes_from c.args.tree.now i vs) (drop_all i c.deref-variable-items.result.now c.loop-variable-test.false))
    ∙ c.loop-variable.invariant.1 all
