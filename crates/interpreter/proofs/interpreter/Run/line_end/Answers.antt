use Rattle.std.proofs.Common.{Bool, [], ◌∷◌, ◌++◌, reverse, ap, ◌∙◌}
use Rattle.meaning.specs.Effect.{State}
use Rattle.interpreter.specs.Pending.{line_ending, pending_of, operands_of}
use Rattle.interpreter.proofs.interpreter.Run.line_end.Goals as goal

pub returns-in_ok-push-clause-does : goal.returns-in_ok-push-clause-does
returns-in_ok-push-clause-does c = λ env outer s agrees.
    let old = c.args.self.now in
    let after : State = record s { output = s.output ++ 10 ∷ [] } in (
      env,
      outer,
      after,
      record {
        visible = agrees.visible;
        calls = agrees.calls;
        waits = agrees.waits;
        deep = agrees.deep;
        few = agrees.few;
        store = agrees.store;
        input = agrees.input;
        output = c.in_ok-push.ensures.items ∙ ap (λ out. out ++ 10 ∷ []) agrees.output;
        turns = agrees.turns;
        activations = agrees.activations;
        records = agrees.records;
      },
      ap (λ (b : Bool). line_ending b (pending_of env outer (reverse old.pending.items)) (operands_of old) s) c.if-ends_line.true,
    )
