use Rattle.std.proofs.Common.{◌≡◌, drop, map}
use Rattle.std.specs.List.{list_all}
use Rattle.certificate.specs.Contents.{said_fact}
use Rattle.checker_trail.specs.Trail.{seen}
use Rattle.checker_calls.specs.Entry.{is_given}
use Rattle.checker_calls.specs.View.{said_bindings}
use Rattle.checker_calls.proofs.entry.are_given.Given as goal

-- what is left from here is what was to be done
abbrev pub invariant-loop-fact : goal.invariant-loop-fact
invariant-loop-fact l =
    list_all (is_given l.state.table.now (said_bindings l.bindings) (seen l.state)) (map said_fact (drop l.fact-index l.facts))
    ≡ list_all (is_given l.state.table.now (said_bindings l.bindings) (seen l.state)) (map said_fact l.facts)
