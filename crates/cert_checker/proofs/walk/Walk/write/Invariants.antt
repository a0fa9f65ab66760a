use Rattle.std.proofs.Common.{◌≡◌, drop, map}
use Rattle.std.specs.Prelude.{flat_map}
use Rattle.typed_tree.specs.Entries.{entries_of_parameter}
use Rattle.checker_expressions.specs.Visits.{all_counted}
use Rattle.checker_expressions.specs.Walk.{parameter_walk}
use Rattle.cert_checker.specs.declared.walk.Walk.{Walk}
use Rattle.cert_checker.specs.Walk.{all_of}
use Rattle.cert_checker.specs.View.{WalkGoes}
use Rattle.cert_checker.proofs.walk.Walk.write.Given as goal

-- whatever the checker does over the values that are left, it did over them all, and so it is with their entries
abbrev pub invariant-loop-parameter : goal.invariant-loop-parameter
invariant-loop-parameter g l =
    ((new : Walk) → WalkGoes (all_of (map parameter_walk (drop l.parameter-index l.parameter-items))) l.self new tt
    → WalkGoes (all_of (map parameter_walk l.parameter-items)) l.fn.self new tt)
    × (all_counted g.C.Count.counted (flat_map entries_of_parameter (drop l.parameter-index l.parameter-items)) l.visits
    ≡ all_counted g.C.Count.counted (flat_map entries_of_parameter l.parameter-items) (g.C.Count.counted l.writing.number l.fn.visits))
