use Rattle.std.proofs.Common.{◌≡◌, reverse, sym, ◌∙◌, ap, arith}
use Rattle.typed_tree.specs.declared.tree.Stmt.{Stmt}
use Rattle.meaning.specs.Effect.{and_then}
use Rattle.meaning.specs.Meaning.{effect_of}
use Rattle.interpreter.specs.Pending.{operands_of, pending_of}
use Rattle.interpreter.proofs.Resuming.{continues_as, none_left}
use Rattle.interpreter.specs.Size.{size_of_record, size_of_selectors}
use Rattle.interpreter.proofs.Sizes.{adds_within, row-first}
use Rattle.interpreter.proofs.Unrolling.{does-opened, does-opening, entered}
use Rattle.interpreter.proofs.interpreter.Run.with.Goals as goal

pub returns-in-Some-clause-does : goal.returns-in-Some-clause-does
returns-in-Some-clause-does c = λ env outer s agrees.
    let old = c.args.self.now in
    let first = c.in-Some.first in
    continues_as env outer old c.access.new.self _ _ c.access.result
    (does-opening first c.in-Some.rest c.args.records.now c.in-Some.ensures.cases.0 c.args.body c.deref.result.now c.deref.ensures.value env
    (pending_of env outer (reverse old.pending.items)) (operands_of old) s)
    (c.access.ensures.does env outer (entered first.now.access.number env s) agrees)

pub returns-in-None-clause-does : goal.returns-in-None-clause-does
returns-in-None-clause-does c = λ env outer s agrees.
    let old = c.args.self.now in
    let next = pending_of env outer (reverse old.pending.items) in
    continues_as env outer old c.do_next.new.self _ _ c.do_next.result
    (does-opened c.args.records.now (none_left c.args.records.now c.in-None.ensures.cases) c.args.body.now.value env next (operands_of old) s
    ∙ ap (λ (e : Stmt). and_then (effect_of e env s) (λ _. next (operands_of old))) (sym c.deref-in-None.ensures))
    (c.do_next.ensures.does env outer s agrees)

pub returns-in-Some-clause-fewer : goal.returns-in-Some-clause-fewer
returns-in-Some-clause-fewer c =
    let first = c.in-Some.first.now in
    let all = row-first 4 size_of_record first c.in-Some.rest.now c.args.records.now c.in-Some.ensures.cases.0 in
    let same : size_of_selectors first.access.selectors.items c.deref.result.now ≡ size_of_record first =
    ap (size_of_selectors first.access.selectors.items) c.deref.ensures.value in
    adds_within c.args.self.now c.access.new.self c.access.result _ _ c.access.ensures.size (omega (arith, all, same))
