use Rattle.std.proofs.Common.{◌≡◌, drop, map}
use Rattle.checker_expressions.specs.Visits.{all_counted}
use Rattle.cert_checker.specs.declared.walk.Walk.{Walk}
use Rattle.cert_checker.specs.Walk.{all_of, statement_walk}
use Rattle.cert_checker.specs.View.{WalkGoes, arms_from_here, statements_entries}
use Rattle.cert_checker.proofs.StepsCase.{GoesLeft}
use Rattle.cert_checker.proofs.walk.Walk.+statement.Given as goal

-- whatever the checker does over the statements that are left, it did over them all, and so it is with their entries
abbrev pub invariant-statements-loop-statement : goal.invariant-statements-loop-statement
invariant-statements-loop-statement g l =
    ((new : Walk) → WalkGoes (all_of (map statement_walk (drop l.statement-index l.statements))) l.self new tt
    → WalkGoes (all_of (map statement_walk l.statements)) l.fn.self new tt)
    × (all_counted g.C.Count.counted (statements_entries (drop l.statement-index l.statements)) l.visits
    ≡ all_counted g.C.Count.counted (statements_entries l.statements) l.fn.visits)

-- so it is with arms
abbrev pub invariant-arms-loop-number : goal.invariant-arms-loop-number
invariant-arms-loop-number g l =
    ((new : Walk) → GoesLeft l.index l.constants l.arms l.mark.length l.number l.self l.behind new
    → WalkGoes (arms_from_here l.index l.constants (map statement_walk l.arms)) l.fn.self new tt)
    × (all_counted g.C.Count.counted (statements_entries (drop l.number l.arms)) l.visits
    ≡ all_counted g.C.Count.counted (statements_entries l.arms) l.fn.visits)
