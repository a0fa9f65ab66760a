use Rattle.std.proofs.lemmas.Int.{ints}
use Rattle.std.proofs.Common.{◌≡◌, ℤ, arith, option_map, reverse, sym, ◌∙◌, ap, subst}
use Rattle.interpreter.specs.declared.interpreter.Run.{Run}
use Rattle.meaning.specs.declared.value.Value.TheVariants.{Number}
use Rattle.interpreter_state.specs.declared.work.Rounds.TheVariants.{Behind}
use Rattle.interpreter_state.specs.declared.work.Work.TheVariants as work
use Rattle.meaning.specs.Counting.{values_before}
use Rattle.meaning.specs.Store.{kept}
use Rattle.meaning.specs.Effect.{State}
use Rattle.interpreter_state.specs.Views.{place_seen}
use Rattle.interpreter.specs.Pending.{Agrees, RunDoes, StoreAgrees, pending_of, turning_inside, operands_of}
use Rattle.interpreter.proofs.Resuming.{calls_extended, continues_as, passed_three}
use Rattle.interpreter.proofs.Unrolling.{does-for-round}
use Rattle.interpreter.proofs.interpreter.Run.for_round.Goals as goal

pub returns-clause-does : goal.returns-clause-does
returns-clause-does c = λ env outer s agrees.
    let old = c.args.self.now in
    let new = c.keep.new.self in
    let same = c.keep.ensures.same in
    let head = c.args.head in
    let control = head.now.control in
    let value = Number c.args.value in
    let body = c.args.body in
    let told : c.new.result ≡ c.args.value = c.new.ensures ∙ omega (arith, ints, c.ranges.value) in
    let here = option_map place_seen c.in_ok-place.place in
    let after : State = record s { store = kept s.store (env.visible.variables control) value } in
    let moved : Agrees env outer (record old { store = new.store }) after = record {
      visible = agrees.visible;
      calls = agrees.calls;
      waits = agrees.waits;
      deep = agrees.deep;
      few = agrees.few;
      store = subst (λ home. StoreAgrees new.store (kept s.store home value)) (c.in_ok-place.ensures ∙ sym (agrees.visible.variables control))
          (subst (λ (n : ℤ). StoreAgrees new.store (kept s.store here (Number n))) told (c.in_ok-keep.ensures.agrees s.store agrees.store));
      input = agrees.input;
      output = agrees.output;
      turns = agrees.turns;
      activations = agrees.activations;
      records = agrees.records;
    } in
    let agreed : Agrees env outer new after = subst (λ (r : Run). Agrees env outer r after) (sym same) moved in
    let finished = values_before head.now.direction c.args.first c.args.value in
    let does : ℤ → ℤ → ℤ → Type 0 = λ first n m.
    RunDoes (λ env. turning_inside env finished body.now (work.For head (Behind first n m) body)) new c.for_turn.result c.for_turn.new.self in
    let later = work.For head (Behind c.args.first c.args.value c.args.last) body in
    continues_as env outer old c.for_turn.new.self _ _ c.for_turn.result
    (does-for-round env (calls_extended env outer old s agrees) head c.args.first c.args.value c.args.last body
    (pending_of env outer (reverse old.pending.items)) (operands_of old) s
    ∙ ap (λ (r : Run). turning_inside env finished body.now later (pending_of env outer (reverse r.pending.items)) (operands_of r) after) (sym same))
    (passed_three does c.args.first c.args.value c.args.last c.ranges.first c.ranges.value c.ranges.last (c.for_turn.ensures.does finished) env outer after
    agreed)
