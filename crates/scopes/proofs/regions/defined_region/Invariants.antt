use Rattle.std.proofs.Common.{◌≡◌, map, take}
use Rattle.scopes.specs.Scopes.{opened_with, region_of}
use Rattle.scopes.proofs.regions.defined_region.Given as goal

-- the region of the definitions so far
abbrev pub invariant-loop-definition : goal.invariant-loop-definition
invariant-loop-definition l = region_of l.region ≡ opened_with (map (λ d. (d.0.now, d.1)) (take l.definition-index l.definitions))
