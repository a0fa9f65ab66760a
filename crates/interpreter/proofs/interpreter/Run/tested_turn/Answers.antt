use Rattle.std.proofs.Common.{◌≡◌, suc, ◌-◌, List, refl, reverse, arith, sym, ap, ◌∙◌}
use Rattle.meaning.specs.Effect.{State, and_then, take_turn}
use Rattle.meaning.specs.Meaning.{value_of}
use Rattle.interpreter_state.specs.declared.work.Work.{Work}
use Rattle.interpreter.specs.Pending.{Agrees, giving, operands_of, pending_of, resumed}
use Rattle.interpreter.proofs.Resuming.{continues_as, reverse_pushed}
use Rattle.interpreter.proofs.interpreter.Run.tested_turn.Goals as goal

pub returns-clause-does : goal.returns-clause-does
returns-clause-does c = λ env outer s agrees.
    let old = c.args.self.now in
    let left = old.turns - 1 in
    let some : old.turns ≡ suc left = omega (arith, c.if-self-eq0.false) in
    let after : State = record s { turns = left } in
    let moved : Agrees env outer (record old { turns = left }) after = record {
      visible = agrees.visible;
      calls = agrees.calls;
      waits = agrees.waits;
      deep = let deep = agrees.deep in omega (arith, deep, some);
      few = let few = agrees.few in omega (arith, few, some);
      store = agrees.store;
      input = agrees.input;
      output = agrees.output;
      turns = refl;
      activations = agrees.activations;
      records = agrees.records;
    } in
    let works = pending_of env outer (reverse old.pending.items) in
    let tested = giving (value_of c.args.condition.now env) (resumed env c.args.later works) in
    continues_as env outer old c.plan.new.self _ _ c.plan.result
    (ap (λ n. and_then (take_turn n s) (λ _. resumed env c.args.next tested (operands_of old))) (sym agrees.turns ∙ some)
    ∙ ap (λ (l : List Work). resumed env c.args.next (giving (value_of c.args.condition.now env) (pending_of env outer l)) (operands_of old) after)
    (sym (reverse_pushed _ _ _ _ c.in_ok-put.ensures refl)))
    (c.plan.ensures.does env outer after moved)
