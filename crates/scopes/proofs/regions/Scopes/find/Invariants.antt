use Rattle.std.proofs.Common.{◌≡◌, length, map, reverse}
use Rattle.scopes.specs.Scopes.{found, region_of}
use Rattle.scopes.proofs.regions.Scopes.find.Given as goal

-- the regions that are left decide over the name
abbrev pub invariant-loop-innermost : goal.invariant-loop-innermost
invariant-loop-innermost l = found (reverse (map region_of l.regions)) l.name ≡ found (reverse (map region_of l.initial.regions)) l.name

abbrev pub decreases-loop-innermost : goal.decreases-loop-innermost
decreases-loop-innermost l = length l.regions
