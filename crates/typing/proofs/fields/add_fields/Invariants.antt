use Rattle.typing.proofs.NamedFields.{AreFieldsFrom}
use Rattle.typing.proofs.fields.add_fields.Given as goal

-- what is left
abbrev pub invariant-loop-written : goal.invariant-loop-written
invariant-loop-written l = AreFieldsFrom l.type_id l.names l.initial.fields.items l.written-index l.fields.items
