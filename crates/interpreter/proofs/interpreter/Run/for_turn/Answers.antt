use Rattle.std.proofs.Common.{◌≡◌, [], suc, ◌-◌, List, reverse, refl, arith, sym, ap, ◌∙◌}
use Rattle.interpreter_state.specs.declared.work.Work.{Work}
use Rattle.meaning.specs.Effect.{State, and_then, take_turn}
use Rattle.meaning.specs.Meaning.{effect_of, within_for}
use Rattle.interpreter.specs.declared.interpreter.Run.{Run}
use Rattle.interpreter.specs.Pending.{Agrees, operands_of, pending_of, resumed}
use Rattle.interpreter.proofs.Activating.{agrees_within}
use Rattle.interpreter.proofs.Resuming.{continues_as, reverse_pushed}
use Rattle.interpreter.proofs.interpreter.Run.for_turn.Goals as goal

pub returns-clause-does : goal.returns-clause-does
returns-clause-does c = λ finished env outer s agrees.
    let old = c.args.self.now in
    let left = old.turns - 1 in
    let some : old.turns ≡ suc left = omega (arith, c.if-self-eq0.false) in
    let after : State = record s { turns = left } in
    let body = c.args.body.now in
    let later = c.args.later in
    let there = within_for env finished in
    let planned : Run = record old { turns = left; pending = c.put.new.pending } in
    let moved : Agrees env outer planned after = record {
      visible = agrees.visible;
      calls = agrees.calls;
      waits = agrees.waits;
      deep = let deep = agrees.deep in omega (arith, deep, some);
      few = let few = agrees.few in omega (arith, few, some);
      store = agrees.store;
      input = agrees.input;
      output = agrees.output;
      turns = refl;
      activations = agrees.activations;
      records = agrees.records;
    } in
    let mid : Run = record planned { callers = c.push.new.self; pending = c.replace-pending.new.dest } in
    let agreed = agrees_within planned mid c.replace-pending.result finished env outer after moved (ap (λ v. v.items) c.replace-pending.ensures.value)
    c.in_ok-push.ensures.items refl in
    let works = pending_of env outer (reverse old.pending.items) in
    let next = pending_of env outer (reverse planned.pending.items) in
    let none : mid.pending.items ≡ [] = ap (λ v. v.items) c.replace-pending.ensures.after ∙ c.new.ensures.items in
    continues_as there next old c.do_next.new.self _ _ c.do_next.result
    (ap (λ n. and_then (take_turn n s) (λ _ t. and_then (effect_of body there t) (λ _. resumed env later works (operands_of old)))) (sym agrees.turns ∙ some)
    ∙ ap (λ (l : List Work). and_then (effect_of body there after) (λ _. pending_of env outer l (operands_of old)))
    (sym (reverse_pushed _ _ _ _ c.in_ok-put.ensures refl))
    ∙ ap (λ (l : List Work). and_then (effect_of body there after) (λ _. pending_of there next (reverse l) (operands_of old))) (sym none))
    (c.do_next.ensures.does there next after agreed)
