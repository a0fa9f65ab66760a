use Rattle.std.proofs.Common.{◌≡◌, ◌++◌, flat_map, take}
use Rattle.typing.specs.Names.{all_folded, type_names}
use Rattle.declarations.specs.Parts.{texts}
use Rattle.declarations.proofs.names.fold_types.Given as goal

-- the names so far
abbrev pub invariant-loop-definition : goal.invariant-loop-definition
invariant-loop-definition l = texts l.keys.items ≡ texts l.initial.keys.items ++ all_folded (flat_map type_names (take l.definition-index l.definitions))
