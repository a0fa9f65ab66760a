use Rattle.std.proofs.Common.{◌≡◌, take}
use Rattle.std.specs.Prelude.{flat_map}
use Rattle.plain_certificate.specs.Widest.{paired_roots, pairs_of, parameters_of}
use Rattle.plain_certificate.proofs.pairs.block_pairs.Given as goal

abbrev pub invariant-loop-first : goal.invariant-loop-first
invariant-loop-first l =
    (l.pairs.items ≡ flat_map (pairs_of l.tree l.block) (take l.first-index (paired_roots l.tree l.block)))
    × (l.parameters.items ≡ parameters_of l.tree l.block)
