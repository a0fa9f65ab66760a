use Rattle.std.proofs.Common.{ap, ◌∙◌}
use Rattle.scopes.proofs.Inserts.{defines_more}
use Rattle.scopes.specs.declared.denotation.Definition.{Definition}
use Rattle.scopes.proofs.regions.fields_region.Goals as goal

-- one definition more
pub loop-field-preserved : goal.loop-field-preserved
loop-field-preserved c =
    let name = λ (d : Definition). d.name.items in
    defines_more (λ d. (d.name.items, d.denotation)) c.args.fields.now c.loop-field.field-index c.field-item.result c.in_ok-key.field-0 c.loop-field.region
    c.insert.new.self c.loop-field-test.true
    (c.in_ok-key.ensures ∙ c.deref.ensures.value ∙ ap name c.field-item.is) (cc (c.in_ok-insert.ensures.entries, c.field-item.is)) c.loop-field.invariant
