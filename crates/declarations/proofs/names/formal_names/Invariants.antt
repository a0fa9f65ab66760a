use Rattle.std.proofs.Common.{◌≡◌, flat_map, take}
use Rattle.typing.specs.Names.{all_folded, formal_names}
use Rattle.declarations.specs.Parts.{texts}
use Rattle.declarations.proofs.names.formal_names.Given as goal

-- the names so far
abbrev pub invariant-loop-group : goal.invariant-loop-group
invariant-loop-group l = texts l.keys.items ≡ all_folded (flat_map formal_names (take l.group-index l.groups))
