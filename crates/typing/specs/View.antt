-- How what is known of blocks and of records is read as what the definitions speak of. It says nothing of what is
-- known.
use Rattle.std.specs.Prelude.{ℕ, List, [], ◌∷◌, Option, Some, None}
use Rattle.scopes.specs.Scopes.{region_of}
use Rattle.scopes.specs.declared.denotation.Definition.{Definition}
use Rattle.scopes.specs.declared.denotation.Denotation.{Denotation}
use Rattle.typed_tree.specs.Accesses.{origin_by}
use Rattle.typing.specs.Expressions.{Denoted}
use Rattle.typing.specs.Passing.{Headed, Enclosing, OpenRecord as OpenedRecord}
use Rattle.typing.specs.declared.blocks.PassedHeading.{PassedHeading}
use Rattle.typing.specs.declared.blocks.EnclosingBlock.{EnclosingBlock}
use Rattle.typing.specs.declared.records.OpenRecord.{OpenRecord}
use Rattle.typing.specs.declared.records.DenotedVariable.{DenotedVariable}

-- a heading that was passed
abbrev pub headed_of : PassedHeading → Headed
headed_of heading = record {
  around = heading.around.items;
  parameters = heading.parameters.items;
  result = heading.result;
  region = region_of heading.region;
  cells = heading.cells;
}

-- a block that is passed
abbrev pub enclosing_of : EnclosingBlock → Enclosing
enclosing_of block = record {
  block = block.block;
  around = block.around.items;
  cells = block.cells;
  waiting = block.waiting.entries;
}

-- a record of a with
abbrev pub record_of : OpenRecord → OpenedRecord
record_of opened = record { root = opened.root; steps = opened.steps.items; type_id = opened.type_id }

-- where an access begins that a name denotes
abbrev pub denoted_of : DenotedVariable → Denoted
denoted_of variable = record {
  origin = origin_by variable.root variable.base;
  from = variable.from;
  selectors = variable.selectors.items;
  type_id = variable.type_id;
}

-- a name with what it denotes
abbrev pub definition : Definition → List ℕ × Denotation
definition d = (d.name.items, d.denotation)

abbrev pub definition_or_none : Option Definition → List (List ℕ × Denotation)
definition_or_none None = []
definition_or_none (Some d) = definition d ∷ []
