use Rattle.std.proofs.Common.{map, take}
use Rattle.certificate.specs.Contents.{loop_of}
use Rattle.checker_loops.specs.Loops.{found_among}
use Rattle.checker_loops.specs.View.{AreFound}
use Rattle.checker_loops.proofs.loops.enter_all.Given as goal

-- the claims so far
abbrev pub invariant-loop-claims : goal.invariant-loop-claims
invariant-loop-claims l =
    AreFound l.fn.found l.found (λ number. found_among number (map loop_of (take l.claims-index l.loops)))
