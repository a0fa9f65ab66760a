use Rattle.std.proofs.Common.{◌≡◌, ◌+◌, ◌<◌, ◌≤◌, [], drop, length, Some, None, option_map, slice_index_or, append-nil, arith, sym, ap, ◌∙◌}
use Rattle.std.proofs.lemmas.List.{drop_all}
use Rattle.types.specs.Components.{components_of}
use Rattle.types.proofs.Laid.{length_components}
use Rattle.meaning.specs.Store.{held, part}
use Rattle.interpreter_state.specs.Views.{place_seen}
use Rattle.interpreter.specs.Pending.{held_all, joined}
use Rattle.interpreter.proofs.Rows.{in_front, from-component, one_more}
use Rattle.interpreter.proofs.interpreter.Run.row.Goals as goal

pub returns-in-None : goal.returns-in-None
returns-in-None c = λ s agrees.
    let now = c.loop-component in
    let place = option_map place_seen c.args.place.now in
    let components = components_of c.args.self.now.tree.now.types c.args.type_id in
    let there : now.component < length components =
    omega (arith, length_components c.args.self.now.tree.now.types c.args.type_id, c.cells-component-end.ensures, c.loop-component-test.true) in
    let rest = held_all s place (drop (now.component + 1) components) in
    let none : held s (part place (slice_index_or components now.component [])) ≡ None =
    sym (c.found.ensures s agrees ∙ ap (held s) c.in_ok-part.ensures) ∙ c.in-None.is in
    sym (now.invariant s agrees
    ∙ ap (λ l. in_front now.row.items (held_all s place l)) (from-component components now.component there)
    ∙ ap (λ o. in_front now.row.items (joined o rest)) none)

pub loop-component-preserved : goal.loop-component-preserved
loop-component-preserved c = λ s agrees.
    let now = c.loop-component in
    let place = option_map place_seen c.args.place.now in
    let components = components_of c.args.self.now.tree.now.types c.args.type_id in
    let there : now.component < length components =
    omega (arith, length_components c.args.self.now.tree.now.types c.args.type_id, c.cells-component-end.ensures, c.loop-component-test.true) in
    let rest = held_all s place (drop (now.component + 1) components) in
    let value = c.in-Some.value in
    let some : held s (part place (slice_index_or components now.component [])) ≡ Some value =
    sym (c.found.ensures s agrees ∙ ap (held s) c.in_ok-part.ensures) ∙ c.in-Some.is in
    now.invariant s agrees
    ∙ ap (λ l. in_front now.row.items (held_all s place l)) (from-component components now.component there)
    ∙ ap (λ o. in_front now.row.items (joined o rest)) some
    ∙ one_more now.row.items value rest
    ∙ ap (λ l. in_front l rest) (sym c.in_ok-push-in-Some.ensures.items)

pub returns : goal.returns
returns c = λ s agrees.
    let now = c.loop-component in
    let place = option_map place_seen c.args.place.now in
    let components = components_of c.args.self.now.tree.now.types c.args.type_id in
    let all : length components ≤ now.component =
    omega (arith, length_components c.args.self.now.tree.now.types c.args.type_id, c.cells-component-end.ensures, c.loop-component-test.false) in
    sym (now.invariant s agrees
    ∙ ap (λ l. in_front now.row.items (held_all s place l)) (drop_all now.component components all)
    ∙ ap Some (append-nil now.row.items))
