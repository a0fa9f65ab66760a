use Rattle.std.proofs.Common.{◌≡◌, take, true}
use Rattle.std.specs.List.{list_all}
use Rattle.certificate.specs.Contents.{said_fact}
use Rattle.checker_state.specs.Loops.{gives_all}
use Rattle.checker_state.specs.State.{table_of}
use Rattle.checker_trail.specs.Trail.{seen}
use Rattle.checker_loops.specs.Loops.{asked}
use Rattle.checker_loops.proofs.claims.gives_facts.Given as goal

-- the facts so far
abbrev pub invariant-loop-fact : goal.invariant-loop-fact
invariant-loop-fact l =
    list_all (λ fact. gives_all (table_of l.state.table.now) (seen l.state) (asked l.state.table.now (said_fact fact))) (take l.fact-index l.facts) ≡ true
