use Rattle.std.proofs.Common.{◌≡◌, take}
use Rattle.std.specs.Prelude.{map, filter}
use Rattle.check_remover.specs.Strip.{is_among, moved, stays}
use Rattle.check_remover.specs.Places.{new_place}
use Rattle.check_remover.proofs.remove.kept.Given as goal

abbrev pub invariant-loop-instr : goal.invariant-loop-instr
invariant-loop-instr l = l.rest.items ≡ map (moved (new_place l.places)) (filter (stays (is_among l.open_sites)) (take l.instr-index l.code))
