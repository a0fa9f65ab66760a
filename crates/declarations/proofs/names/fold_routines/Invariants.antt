use Rattle.std.proofs.Common.{◌≡◌, ◌++◌, take}
use Rattle.typing.specs.Names.{all_folded}
use Rattle.declarations.specs.Parts.{routine_names, texts}
use Rattle.declarations.proofs.names.fold_routines.Given as goal

-- the names so far
abbrev pub invariant-loop-routine : goal.invariant-loop-routine
invariant-loop-routine l = texts l.keys.items ≡ texts l.initial.keys.items ++ all_folded (routine_names (take l.routine-index l.routines))
