use Rattle.std.proofs.Common.{◌≡◌, true, false, Option, Box, Global, reverse, sym, ◌∙◌, ap}
use Rattle.typed_tree.specs.declared.tree.Stmt.{Stmt}
use Rattle.meaning.specs.Effect.{and_then}
use Rattle.meaning.specs.Meaning.{effect_of, is_so}
use Rattle.interpreter.specs.Pending.{otherwise, top_of, below_top, pending_of, operands_of}
use Rattle.interpreter.proofs.Resuming.{executing, goes_on_below, chooses}
use Rattle.interpreter.proofs.interpreter.Run.choose.Goals as goal

pub returns-then-truth_of-clause-does : goal.returns-then-truth_of-clause-does
returns-then-truth_of-clause-does c = λ env outer s agrees.
    let old = c.args.self.now in
    let operands = operands_of old in
    let next = pending_of env outer (reverse old.pending.items) in
    let so : is_so (top_of operands) ≡ true = ap is_so (sym c.popped.ensures.top) ∙ sym c.truth_of.ensures ∙ c.if-truth_of.true in
    goes_on_below old c.popped.new.self c.do_next.new.self env outer s (executing c.deref.result.now) (below_top operands) c.do_next.result _
    c.popped.ensures.same c.popped.ensures.below
    (chooses env c.args.consequence.now.value c.args.alternative.now next operands s true so
    ∙ ap (λ (e : Stmt). and_then (effect_of e env s) (λ _. next (below_top operands))) (sym c.deref.ensures))
    agrees c.do_next.ensures.does

pub returns-in-Some-clause-does : goal.returns-in-Some-clause-does
returns-in-Some-clause-does c = λ env outer s agrees.
    let old = c.args.self.now in
    let operands = operands_of old in
    let next = pending_of env outer (reverse old.pending.items) in
    let so : is_so (top_of operands) ≡ false = ap is_so (sym c.popped.ensures.top) ∙ sym c.truth_of.ensures ∙ c.if-truth_of.false in
    goes_on_below old c.popped.new.self c.do_next-in-Some.new.self env outer s (executing c.deref-in-Some.result.now) (below_top operands)
    c.do_next-in-Some.result _ c.popped.ensures.same c.popped.ensures.below
    (chooses env c.args.consequence.now.value c.args.alternative.now next operands s false so
    ∙ ap (λ (o : Option (Box Stmt Global)). and_then (otherwise o env s) (λ _. next (below_top operands))) c.in-Some.is
    ∙ ap (λ (e : Stmt). and_then (effect_of e env s) (λ _. next (below_top operands))) (sym c.deref-in-Some.ensures))
    agrees c.do_next-in-Some.ensures.does
