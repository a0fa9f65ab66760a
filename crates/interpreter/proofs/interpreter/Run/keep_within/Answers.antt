use Rattle.std.proofs.Common.{option_map, reverse, sym, ◌∙◌, ap, subst}
use Rattle.interpreter.specs.declared.interpreter.Run.{Run}
use Rattle.meaning.specs.Store.{kept}
use Rattle.meaning.specs.Effect.{State}
use Rattle.interpreter_state.specs.Views.{place_seen}
use Rattle.interpreter.specs.Pending.{Agrees, operands_of, pending_of, rest_of}
use Rattle.interpreter.proofs.Resuming.{keeps, checked_some}
use Rattle.interpreter.proofs.interpreter.Run.keep_within.Goals as goal

pub returns-in_ok-keep-in-Some-clause-does : goal.returns-in_ok-keep-in-Some-clause-does
returns-in_ok-keep-in-Some-clause-does c = λ env outer s agrees.
    let old = c.args.self.now in
    let new = c.keep.new.self in
    let place = option_map place_seen c.args.place in
    let value = c.in-Some.value in
    let after : State = record s { store = kept s.store place value } in
    let fine = checked_some c.args.range c.args.value value c.value_in.result c.value_in.ensures c.in-Some.is in
    let moved : Agrees env outer (record old { store = new.store }) after = record {
      visible = agrees.visible;
      calls = agrees.calls;
      waits = agrees.waits;
      deep = agrees.deep;
      few = agrees.few;
      store = c.in_ok-keep-in-Some.ensures.agrees s.store agrees.store;
      input = agrees.input;
      output = agrees.output;
      turns = agrees.turns;
      activations = agrees.activations;
      records = agrees.records;
    } in (
      env,
      outer,
      after,
      subst (λ (r : Run). Agrees env outer r after) (sym c.keep.ensures.same) moved,
      keeps place c.args.value value c.args.range c.args.ending (pending_of env outer (reverse old.pending.items)) (operands_of old) s fine.0 fine.1
          ∙ ap (λ (r : Run). rest_of env outer r after) (sym c.keep.ensures.same),
    )
