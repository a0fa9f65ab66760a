use Rattle.std.proofs.Common.{◌+◌, inr, nat_eq, refl, sym, ap₂, subst, ◌∙◌}
use Rattle.std.specs.List.{list_any}
use Rattle.std.specs.Cmp.Lexicographic.{pointwise}
use Rattle.std.proofs.lemmas.List.{get_or_default}
use Rattle.types.specs.declared.form.Field.{Field}
use Rattle.typing.proofs.NamedFields.{AreFieldsFrom, field_next, field_twice}
use Rattle.typing.proofs.fields.add_fields.Goals as goal

-- a name that stands before it
pub returns-then-has_field : goal.returns-then-has_field
returns-then-has_field c =
    let names = c.args.names.now in
    let i = c.loop-written.written-index in
    let same = ap₂ (λ name fields. list_any (λ (field : Field). pointwise nat_eq field.name.items name) fields)
    (c.deref-in-loop-written.ensures.value ∙ c.in_ok-name.ensures) c.deref.ensures.value in
    inr (field_twice c.args.type_id names c.args.fields.now.items i _ c.loop-written.fields.items c.loop-written-test.true
    (get_or_default names i _ _ c.loop-written-test.true) c.loop-written.invariant c.has_field.result (c.has_field.ensures ∙ same) c.if-has_field.true)

-- one field more
pub loop-written-preserved : goal.loop-written-preserved
loop-written-preserved c =
    let names = c.args.names.now in
    let i = c.loop-written.written-index in
    let same = ap₂ (λ name fields. list_any (λ (field : Field). pointwise nat_eq field.name.items name) fields)
    (c.deref-in-loop-written.ensures.value ∙ c.in_ok-name.ensures) c.deref.ensures.value in
    subst (AreFieldsFrom c.args.type_id names c.args.fields.now.items (i + 1)) (sym c.in_ok-push.ensures.items)
    (field_next c.args.type_id names c.args.fields.now.items i _ c.loop-written.fields.items c.loop-written-test.true
    (get_or_default names i _ _ c.loop-written-test.true) c.loop-written.invariant c.has_field.result (c.has_field.ensures ∙ same)
    _ c.if-has_field.false c.in_ok-name.ensures refl)
