use Rattle.std.proofs.Common.{◌≡◌, ◌++◌, take}
use Rattle.plain_certificate.specs.Widest.{pairs_with}
use Rattle.plain_certificate.proofs.pairs.add_pairs.Given as goal

abbrev pub invariant-loop-second : goal.invariant-loop-second
invariant-loop-second l = l.pairs.items ≡ l.fn.pairs.items ++ pairs_with l.first (take l.second-index l.others)
