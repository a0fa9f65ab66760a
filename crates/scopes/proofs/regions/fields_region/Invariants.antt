use Rattle.std.proofs.Common.{◌≡◌, map, take}
use Rattle.scopes.specs.Scopes.{opened_with, region_of}
use Rattle.scopes.proofs.regions.fields_region.Given as goal

-- the region of the fields so far
abbrev pub invariant-loop-field : goal.invariant-loop-field
invariant-loop-field l = region_of l.region ≡ opened_with (map (λ d. (d.name.items, d.denotation)) (take l.field-index l.fields))
