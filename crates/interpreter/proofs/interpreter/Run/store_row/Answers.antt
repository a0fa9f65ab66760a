use Rattle.std.proofs.Common.{◌≡◌, List, Option, reverse, subst, sym, ap, ◌∙◌}
use Rattle.types.specs.Forms.{Form}
use Rattle.types.specs.Components.{components_of}
use Rattle.interpreter.specs.declared.interpreter.Run.{Run}
use Rattle.meaning.specs.declared.value.Value.{Value}
use Rattle.meaning.specs.Store.{Place}
use Rattle.meaning.specs.Effect.{State, Reply, and_then}
use Rattle.interpreter.specs.Pending.{Agrees, StoreAgrees, below_top, kept_all, operands_of, pending_of, rest_of, top_place, top_row}
use Rattle.interpreter.proofs.Resuming.{agreed_below}
use Rattle.interpreter.proofs.Rows.{stored_all}
use Rattle.interpreter.proofs.interpreter.Run.store_row.Goals as goal

pub returns-clause-does : goal.returns-clause-does
returns-clause-does c = λ env outer s agrees.
    let old = c.args.self.now in
    let popped = c.popped_place-place.new.self in
    let new = c.keep_row.new.self in
    let top = c.popped_row-row.ensures in
    let under = c.popped_place-place.ensures in
    let same : popped ≡ record old { operands = popped.operands } =
    under.same ∙ ap (λ (r : Run). record r { operands = popped.operands }) top.same in
    let operands = operands_of old in
    let place = top_place (below_top operands) in
    let row = top_row operands in
    let components = components_of env.visible.types c.args.type_id in
    let after : State = record s { store = kept_all s.store place components row } in
    let agreed : Agrees env outer popped s = agreed_below old popped env outer s same agrees in
    let moved : Agrees env outer (record popped { store = new.store }) after = record {
      visible = agreed.visible;
      calls = agreed.calls;
      waits = agreed.waits;
      deep = agreed.deep;
      few = agreed.few;
      store = subst (λ (l : List Form). StoreAgrees new.store (kept_all s.store place (components_of l c.args.type_id) row)) (sym agreed.visible.types)
          (subst (λ (l : List Value). StoreAgrees new.store (kept_all s.store place (components_of popped.tree.now.types c.args.type_id) l))
          (c.deref.ensures.value ∙ top.top)
          (subst (λ (p : Option Place). StoreAgrees new.store (kept_all s.store p (components_of popped.tree.now.types c.args.type_id) c.deref.result.now))
          (under.top ∙ ap top_place top.below) (c.in_ok-keep_row.ensures.agrees s.store agreed.store)));
      input = agreed.input;
      output = agreed.output;
      turns = agreed.turns;
      activations = agreed.activations;
      records = agreed.records;
    } in
    let works = reverse old.pending.items in
    let below = below_top (below_top operands) in (
      env,
      outer,
      after,
      subst (λ (r : Run). Agrees env outer r after) (sym c.keep_row.ensures.same) moved,
      ap (λ (r : Reply (Unit {0})). and_then r (λ _. pending_of env outer works below)) (stored_all place components row s)
          ∙ ap (λ l. pending_of env outer works l after) (sym (under.below ∙ ap below_top top.below))
          ∙ ap (λ (r : Run). pending_of env outer (reverse r.pending.items) (operands_of popped) after) (sym same)
          ∙ ap (λ (r : Run). rest_of env outer r after) (sym c.keep_row.ensures.same),
    )
