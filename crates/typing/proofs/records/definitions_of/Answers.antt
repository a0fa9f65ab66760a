use Rattle.std.proofs.Common.{map, ◌∙◌}
use Rattle.typing.specs.Steps.{definition_of}
use Rattle.typing.specs.View.{definition, definition_or_none}
use Rattle.typing.proofs.FieldNames.{names_more}
use Rattle.typing.proofs.records.definitions_of.Goals as goal

-- one field more
pub loop-field-preserved : goal.loop-field-preserved
loop-field-preserved c =
    c.in_ok-put.ensures
    ∙ names_more (definition_of c.args.types.now c.args.id c.args.slot) c.args.fields.now c.loop-field.field-index c.field-item.result
    (map definition c.loop-field.made.items) (definition_or_none c.in_ok-found.found) c.loop-field-test.true c.field-item.is c.loop-field.invariant
    c.in_ok-found.ensures
