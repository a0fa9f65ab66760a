use Rattle.std.proofs.Common.{◌≡◌, map, take}
use Rattle.scopes.specs.Scopes.{opened_beside, region_of}
use Rattle.scopes.proofs.regions.region_beside.Given as goal

-- the region of the parameters, and of the names so far
abbrev pub invariant-loop-name : goal.invariant-loop-name
invariant-loop-name l = region_of l.region ≡ opened_beside (region_of l.initial.region) (map (λ name. name.items) (take l.name-index l.names))
