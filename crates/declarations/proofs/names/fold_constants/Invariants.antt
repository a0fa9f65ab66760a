use Rattle.std.proofs.Common.{◌≡◌, ◌++◌, map, take}
use Rattle.typing.specs.Names.{all_folded}
use Rattle.declarations.specs.Parts.{texts}
use Rattle.declarations.proofs.names.fold_constants.Given as goal

-- the names so far
abbrev pub invariant-loop-definition : goal.invariant-loop-definition
invariant-loop-definition l = texts l.keys.items ≡ texts l.initial.keys.items ++ all_folded (map (λ d. d.name) (take l.definition-index l.definitions))
