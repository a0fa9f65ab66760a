use Rattle.std.proofs.Common.{◌≡◌, drop, map}
use Rattle.std.specs.Prelude.{flat_map}
use Rattle.typed_tree.specs.Entries.{entries_of_read}
use Rattle.checker_expressions.specs.Visits.{all_counted}
use Rattle.cert_checker.specs.declared.walk.Walk.{Walk}
use Rattle.cert_checker.specs.Walk.{all_of, read_walk}
use Rattle.cert_checker.specs.View.{WalkGoes}
use Rattle.cert_checker.proofs.walk.Walk.read.Given as goal

-- whatever the checker does over the variables that are left, it did over them all, and so it is with their entries
abbrev pub invariant-loop-one : goal.invariant-loop-one
invariant-loop-one g l =
    ((new : Walk) → WalkGoes (all_of (map (read_walk l.reading.name) (drop l.one-index l.one-items))) l.self new tt
    → WalkGoes (all_of (map (read_walk l.reading.name) l.one-items)) l.fn.self new tt)
    × (all_counted g.C.Count.counted (flat_map entries_of_read (drop l.one-index l.one-items)) l.visits
    ≡ all_counted g.C.Count.counted (flat_map entries_of_read l.one-items) (g.C.Count.counted l.reading.number l.fn.visits))
