use Rattle.std.proofs.Common.{◌≡◌, ◌++◌, flat_map, take}
use Rattle.typing.specs.Names.{all_folded, group_names}
use Rattle.declarations.specs.Parts.{texts}
use Rattle.declarations.proofs.names.fold_groups.Given as goal

-- the names so far
abbrev pub invariant-loop-group : goal.invariant-loop-group
invariant-loop-group l = texts l.keys.items ≡ texts l.initial.keys.items ++ all_folded (flat_map group_names (take l.group-index l.groups))
