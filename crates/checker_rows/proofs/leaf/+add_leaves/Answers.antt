use Rattle.std.proofs.Common.{◌≡◌, ◌∙◌, sym, ap, subst, ◌++◌, ◌∷◌, [], map, Some, None, List, take}
use Rattle.std.proofs.lemmas.Option.{slice_get_past}
use Rattle.std.specs.Prelude.{OnOk, flat_map}
use Rattle.std.specs.Option.{option_map, option_and_then}
use Rattle.types.specs.Forms.{Form, Array, Record, form_of, field_form}
use Rattle.types.specs.Types.{form_at, range_of, scalar_range}
use Rattle.types.specs.declared.form.Field.{Field}
use Rattle.checker_rows.specs.declared.leaf.RowRanges.{RowRanges}
use Rattle.checker_rows.specs.Leaves.{scalar}
use Rattle.checker_rows.specs.View.{own_type, part_leaves, ranges_on, way_behind}
use Rattle.checker_rows.proofs.Counted.{all_taken, array_ranges, none_ranges, record_ranges, scalar_ranges}
use Rattle.checker_rows.proofs.leaf.+add_leaves.Goals as goal

pub returns-in-Array : goal.returns-in-Array
returns-in-Array n c =
    let types : List Form = c.args.types.now in
    let id = c.in-Some.id in
    let is : form_at types id ≡ Some (Array c.in-Array.packed c.in-Array.index c.in-Array.element) =
    sym c.form.ensures ∙ ap (option_map (λ form. form_of form.now)) c.in-Some-form.is ∙ ap (λ form. Some (form_of form)) c.in-Array.is in
    let all : map (ranges_on c.args.way) (part_leaves types c.args.part) ≡ map (ranges_on c.behind.result) (part_leaves types c.own_type-in-Array.result) =
    ap (λ part. map (ranges_on c.args.way) (part_leaves types part)) c.in-Some.is
    ∙ array_ranges types id c.args.way c.in-Array.packed c.in-Array.index c.in-Array.element is
    ∙ ap (λ index. map (ranges_on (way_behind c.args.way (option_and_then (range_of types) index))) (part_leaves types (own_type id c.in-Array.element)))
    (sym c.own_type.ensures)
    ∙ ap (λ range. map (ranges_on (way_behind c.args.way range)) (part_leaves types (own_type id c.in-Array.element))) (sym c.part_range-range.ensures)
    ∙ ap (λ way. map (ranges_on way) (part_leaves types (own_type id c.in-Array.element))) (sym c.behind.ensures)
    ∙ ap (λ part. map (ranges_on c.behind.result) (part_leaves types part)) (sym c.own_type-in-Array.ensures) in
    subst (λ l. OnOk c.add_leaves.result (c.add_leaves.new.rows.items ≡ c.args.rows.now.items ++ l)) (sym all) c.add_leaves.ensures

pub returns-after-loop-field : goal.returns-after-loop-field
returns-after-loop-field n c =
    let types : List Form = c.args.types.now in
    let id = c.in-Some.id in
    let is : form_at types id ≡ Some (Record c.in-Record.packed (map field_form c.in-Record.fields.items)) =
    sym c.form.ensures ∙ ap (option_map (λ form. form_of form.now)) c.in-Some-form.is ∙ ap (λ form. Some (form_of form)) c.in-Record.is in
    let every : take c.loop-field.field-index c.deref-field-items.result.now ≡ c.in-Record.fields.items =
    all_taken c.deref-field-items.result.now c.loop-field.field-index
    (slice_get_past c.deref-field-items.result.now c.loop-field.field-index c.loop-field-test.false) ∙ c.deref-field-items.ensures.value in
    let parts : List Field → List RowRanges = λ fields. flat_map (λ field. map (ranges_on c.args.way) (part_leaves types (own_type id field.type_id))) fields in
    c.loop-field.invariant ∙ ap (λ fields. c.args.rows.now.items ++ parts fields) every
    ∙ ap (λ l. c.args.rows.now.items ++ l)
    (sym (record_ranges types id c.args.way c.in-Record.packed c.in-Record.fields.items is)
    ∙ sym (ap (λ part. map (ranges_on c.args.way) (part_leaves types part)) c.in-Some.is))

pub returns-in_default-form : goal.returns-in_default-form
returns-in_default-form n c =
    let types : List Form = c.args.types.now in
    let is : form_at types c.in-Some.id ≡ None = sym c.form.ensures ∙ ap (option_map (λ form. form_of form.now)) c.in_default-form.is in
    let all : map (ranges_on c.args.way) (part_leaves types c.args.part) ≡ c.scalar-in_default-form.result ∷ [] =
    ap (λ part. map (ranges_on c.args.way) (part_leaves types part)) c.in-Some.is ∙ none_ranges types c.args.way c.in-Some.id is
    ∙ ap (λ r. r ∷ []) (sym c.scalar-in_default-form.ensures) in
    subst (λ l. OnOk c.add_row-in_default-form.result (c.add_row-in_default-form.new.rows.items ≡ c.args.rows.now.items ++ l)) (sym all)
    c.add_row-in_default-form.ensures

pub returns-in_default-form-2 : goal.returns-in_default-form-2
returns-in_default-form-2 n c =
    let types : List Form = c.args.types.now in
    let form = c.in-Some-form.form.now in
    let is : form_at types c.in-Some.id ≡ Some (form_of form) = sym c.form.ensures ∙ ap (option_map (λ form. form_of form.now)) c.in-Some-form.is in
    let all : map (ranges_on c.args.way) (part_leaves types c.args.part) ≡ c.scalar-in_default-form-2.result ∷ [] =
    ap (λ part. map (ranges_on c.args.way) (part_leaves types part)) c.in-Some.is
    ∙ scalar_ranges types c.args.way c.in-Some.id form is c.in_default-form-2.not-Array c.in_default-form-2.not-Record
    ∙ ap (λ values. ranges_on c.args.way (scalar (Some c.in-Some.id) values) ∷ []) (ap scalar_range (sym c.kind.ensures) ∙ sym c.scalar_range.ensures)
    ∙ ap (λ r. r ∷ []) (sym c.scalar-in_default-form-2.ensures) in
    subst (λ l. OnOk c.add_row-in_default-form-2.result (c.add_row-in_default-form-2.new.rows.items ≡ c.args.rows.now.items ++ l)) (sym all)
    c.add_row-in_default-form-2.ensures
