use Rattle.std.proofs.Common.{◌≡◌, ◌<◌, Some, map, sum_by, rules, sym, ap, subst, ◌∙◌, arith}
use Rattle.std.specs.Option.{option_map}
use Rattle.types.specs.Forms.{Record, field_form, form_of}
use Rattle.types.specs.Types.{before, cells_at, form_at}
use Rattle.types.proofs.Counts.{cells_of_fields, cells_of_form}
use Rattle.types.proofs.table.TypeTable.field.Goals as goal

-- the cells of the fields are those of the record
pub field_among-requires : goal.field_among-requires
field_among-requires c =
    let fields = c.in-Record.fields.items in
    let entries = before c.args.self.now c.args.id in
    let is : form_at c.args.self.now c.args.id ≡ Some (Record c.in-Record.packed (map field_form fields)) =
    sym c.form.ensures ∙ ap (option_map (λ form. form_of form.now)) c.in_ok-fields.was ∙ ap (λ kept. Some (form_of kept)) c.in-Record.is in
    let counted =
    c.cells-cells.ensures ∙ cells_of_form c.args.self.now c.args.id (Record c.in-Record.packed (map field_form fields)) is ∙ cells_of_fields entries fields in
    let fits : c.cells-cells.result < 4294967296 = search rules in
    let all : sum_by (λ field. cells_at entries field.type_id) fields < 4294967296 = omega (arith, counted, fits) in
    subst (λ fields. sum_by (λ field. cells_at entries field.type_id) fields < 4294967296) (sym c.deref.ensures.value) all
