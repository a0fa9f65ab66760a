use Rattle.std.proofs.Common.{◌≡◌, ◌+◌, ◌∷◌, ◌<◌, ◌≤◌, [], drop, length, List, option_map, slice_index_or, get_or, arith, subst, sym, ap, ◌∙◌}
use Rattle.std.proofs.lemmas.List.{drop_all}
use Rattle.types.specs.Forms.{Form}
use Rattle.types.specs.Components.{components_of}
use Rattle.types.proofs.Laid.{length_components}
use Rattle.meaning.specs.Store.{kept, part}
use Rattle.interpreter.specs.declared.interpreter.Run.{Run}
use Rattle.interpreter_state.specs.Views.{place_seen}
use Rattle.interpreter.specs.Pending.{StoreAgrees, kept_all}
use Rattle.interpreter.proofs.Rows.{from-component, from-value, kept-none}
use Rattle.interpreter.proofs.interpreter.Run.keep_row.Goals as goal

pub loop-component-preserved : goal.loop-component-preserved
loop-component-preserved c =
    let now = c.loop-component in
    let new = c.keep.new.self in
    let i = now.component in
    let place = option_map place_seen c.args.place.now in
    let types = c.args.self.now.tree.now.types in
    let components = components_of types c.args.type_id in
    let steps = slice_index_or components i [] in
    let value = c.in-Some.value.now in
    let there : i < length components =
    omega (arith, length_components types c.args.type_id, c.cells-component-end.ensures, c.loop-component-test.true) in
    let here_too : i < length c.args.row.now = omega (arith, c.in-Some.ensures.lookup) in
    let found : value ≡ get_or c.args.row.now i value = c.in-Some.ensures.lookup.1 in
    let here = c.in_ok-part.ensures
    ∙ ap (λ (l : List Form). part place (slice_index_or (components_of l c.args.type_id) i [])) (ap (λ (r : Run). r.tree.now.types) now.invariant.0) in (
      c.keep.ensures.same ∙ ap (λ (r : Run). record r { store = new.store }) now.invariant.0,
      λ s agrees.
          let before = now.invariant.1 s agrees in (
            kept before.0 (part place steps) value,
            subst (λ p. StoreAgrees new.store (kept before.0 p value)) here (c.in_ok-keep.ensures.agrees before.0 before.1),
            before.2
                ∙ ap (λ l. kept_all before.0 place l (drop i c.args.row.now)) (from-component components i there)
                ∙ ap (λ l. kept_all before.0 place (steps ∷ drop (i + 1) components) l) (from-value c.args.row.now i value here_too found),
          ),
    )

pub returns-after-loop-component-clause-agrees : goal.returns-after-loop-component-clause-agrees
returns-after-loop-component-clause-agrees c = λ s agrees.
    let now = c.loop-component in
    let place = option_map place_seen c.args.place.now in
    let types = c.args.self.now.tree.now.types in
    let components = components_of types c.args.type_id in
    let before = now.invariant.1 s agrees in
    let all : length components ≤ now.component =
    omega (arith, length_components types c.args.type_id, c.cells-component-end.ensures, c.loop-component-test.false) in
    subst (λ t. StoreAgrees now.self.store t)
    (sym (before.2 ∙ ap (λ l. kept_all before.0 place l (drop now.component c.args.row.now)) (drop_all now.component components all))) before.1

pub returns-in_default-clause-agrees : goal.returns-in_default-clause-agrees
returns-in_default-clause-agrees c = λ s agrees.
    let now = c.loop-component in
    let place = option_map place_seen c.args.place.now in
    let components = components_of c.args.self.now.tree.now.types c.args.type_id in
    let before = now.invariant.1 s agrees in
    let left = drop now.component components in
    let none : length c.args.row.now ≤ now.component = omega (arith, c.in_default.ensures.lookup) in
    subst (λ t. StoreAgrees now.self.store t)
    (sym (before.2 ∙ ap (kept_all before.0 place left) (drop_all now.component c.args.row.now none) ∙ kept-none before.0 place left)) before.1
