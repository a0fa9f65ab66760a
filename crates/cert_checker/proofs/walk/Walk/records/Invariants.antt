use Rattle.std.proofs.Common.{◌≡◌, drop, map}
use Rattle.std.specs.Prelude.{flat_map}
use Rattle.typed_tree.specs.Entries.{entries_of_record}
use Rattle.checker_expressions.specs.Visits.{all_counted}
use Rattle.cert_checker.specs.declared.walk.Walk.{Walk}
use Rattle.cert_checker.specs.Walk.{all_of, record_walk}
use Rattle.cert_checker.specs.View.{WalkGoes}
use Rattle.cert_checker.proofs.walk.Walk.records.Given as goal

-- whatever the checker does over the records that are left, it did over them all, and so it is with their entries
abbrev pub invariant-loop-one : goal.invariant-loop-one
invariant-loop-one g l =
    ((new : Walk) → WalkGoes (all_of (map record_walk (drop l.one-index l.records))) l.self new tt
    → WalkGoes (all_of (map record_walk l.records)) l.fn.self new tt)
    × (all_counted g.C.Count.counted (flat_map entries_of_record (drop l.one-index l.records)) l.visits
    ≡ all_counted g.C.Count.counted (flat_map entries_of_record l.records) l.fn.visits)
