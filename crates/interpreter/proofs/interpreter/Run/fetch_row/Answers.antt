use Rattle.std.proofs.Common.{◌≡◌, ◌∷◌, List, Option, Some, None, option_map, reverse, sym, ap, ◌∙◌}
use Rattle.types.specs.Forms.{Form}
use Rattle.types.specs.Components.{components_of}
use Rattle.interpreter.specs.declared.interpreter.Run.{Run}
use Rattle.meaning.specs.declared.value.Value.{Value}
use Rattle.meaning.specs.Store.{Place}
use Rattle.meaning.specs.Effect.{Reply, and_then}
use Rattle.meaning.specs.Meaning.{OfRow}
use Rattle.interpreter.specs.Pending.{below_top, held_all, items_of, operands_of, pending_of, top_place}
use Rattle.interpreter.proofs.Resuming.{agreed_below, goes_on_to, stops_below}
use Rattle.interpreter.proofs.Rows.{fetched_all, row_fetched}
use Rattle.interpreter.proofs.interpreter.Run.fetch_row.Goals as goal

pub returns-in-Some-clause-does : goal.returns-in-Some-clause-does
returns-in-Some-clause-does c = λ env outer s agrees.
    let old = c.args.self.now in
    let popped = c.popped_place-place.new.self in
    let new = c.push.new.self in
    let top = c.popped_place-place.ensures in
    let place = top_place (operands_of old) in
    let components = components_of env.visible.types c.args.type_id in
    let works = reverse old.pending.items in
    let row = c.in-Some.row.items in
    let same : new ≡ record old { operands = new.operands } = c.push.ensures.same ∙ ap (λ (r : Run). record r { operands = new.operands }) top.same in
    let agreed = agreed_below old popped env outer s top.same agrees in
    let held : held_all s.store place components ≡ Some row =
    ap (held_all s.store place) (ap (λ (l : List Form). components_of l c.args.type_id) agreed.visible.types)
    ∙ sym (c.in_ok-row.ensures s.store agreed.store ∙ ap (λ (p : Option Place). held_all s.store p (components_of popped.tree.now.types c.args.type_id))
    top.top)
    ∙ ap (option_map items_of) c.in-Some.is in
    goes_on_to env outer old new s works (OfRow row ∷ below_top (operands_of old)) _ (agreed_below old new env outer s same agrees)
    (ap (λ (r : Run). reverse r.pending.items) same) (c.in_ok-push-in-Some.ensures.top ∙ ap (λ l. OfRow row ∷ l) top.below)
    (ap (λ (r : Reply (List Value)). and_then r (λ row. pending_of env outer works (OfRow row ∷ below_top (operands_of old))))
    (fetched_all place components c.args.defined s ∙ ap (λ o. row_fetched o c.args.defined s) held))

pub returns-clause-does : goal.returns-clause-does
returns-clause-does c = λ env outer s agrees.
    let old = c.args.self.now in
    let popped = c.popped_place-place.new.self in
    let top = c.popped_place-place.ensures in
    let place = top_place (operands_of old) in
    let components = components_of env.visible.types c.args.type_id in
    let works = reverse old.pending.items in
    let agreed = agreed_below old popped env outer s top.same agrees in
    let held : held_all s.store place components ≡ None =
    ap (held_all s.store place) (ap (λ (l : List Form). components_of l c.args.type_id) agreed.visible.types)
    ∙ sym (c.in_ok-row.ensures s.store agreed.store ∙ ap (λ (p : Option Place). held_all s.store p (components_of popped.tree.now.types c.args.type_id))
    top.top)
    ∙ ap (option_map items_of) c.in-None.is in
    stops_below old popped env outer s _ _ top.same
    (ap (λ (r : Reply (List Value)). and_then r (λ row. pending_of env outer works (OfRow row ∷ below_top (operands_of old))))
    (fetched_all place components c.args.defined s ∙ ap (λ o. row_fetched o c.args.defined s) held))
    agrees
