use Rattle.std.proofs.Common.{◌≡◌, map, take}
use Rattle.std.specs.List.{flat_map}
use Rattle.types.specs.Forms.{field_form}
use Rattle.typing.specs.Steps.{definition_of}
use Rattle.typing.specs.View.{definition}
use Rattle.typing.proofs.records.definitions_of.Given as goal

-- those of the fields so far
abbrev pub invariant-loop-field : goal.invariant-loop-field
invariant-loop-field l =
    map definition l.made.items ≡ flat_map (definition_of l.types l.id l.slot) (map field_form (take l.field-index l.fields))
