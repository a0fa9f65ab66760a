use Rattle.std.proofs.Common.{◌≡◌, ◌++◌, take}
use Rattle.typing.specs.Names.{all_folded}
use Rattle.declarations.specs.Parts.{texts}
use Rattle.declarations.proofs.names.fold_names.Given as goal

-- the names so far
abbrev pub invariant-loop-name : goal.invariant-loop-name
invariant-loop-name l = texts l.keys.items ≡ texts l.initial.keys.items ++ all_folded (take l.name-index l.names)
