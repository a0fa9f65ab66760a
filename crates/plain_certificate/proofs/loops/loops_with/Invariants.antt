use Rattle.std.proofs.Common.{◌≡◌, map, take}
use Rattle.certificate.specs.Contents.{loop_of}
use Rattle.plain_certificate.specs.Widest.{loop_with}
use Rattle.plain_certificate.proofs.loops.loops_with.Given as goal

abbrev pub invariant-loop-number : goal.invariant-loop-number
invariant-loop-number l = map loop_of l.loops.items ≡ map (loop_with l.roots.items) (take l.number-index l.numbers)
