use Rattle.std.proofs.Common.{◌≤◌, length, take}
use Rattle.checker_known.specs.Longer.{AreLonger}
use Rattle.checker_known.specs.Knowledge.{core, viewed}
use Rattle.checker_state.specs.View.{said_point}
use Rattle.checker_known.proofs.HeldLists.{said_all}
use Rattle.checker_known.proofs.knowledge.Knowledge.beside.Given as goal

abbrev pub invariant-loop-place : goal.invariant-loop-place
invariant-loop-place l =
    (l.place ≤ length l.self.held.items)
    × AreLonger (viewed (core l.self)) l.row (said_point l.point) l.beside.places.items l.beside.longer.items (said_all (take l.place l.self.held.items))
