use Rattle.std.proofs.Common.{map, take}
use Rattle.certificate.specs.Contents.{said_fact}
use Rattle.checker_trail.specs.Trail.{Moves}
use Rattle.checker_calls.specs.Exit.{with_exits}
use Rattle.checker_calls.specs.View.{said_bindings}
use Rattle.checker_calls.proofs.exit.add_exits.Given as goal

-- the facts so far
abbrev pub invariant-loop-fact : goal.invariant-loop-fact
invariant-loop-fact l =
    Moves (with_exits l.rows l.block (said_bindings l.bindings) l.touches (map said_fact (take l.fact-index l.exit))) l.fn.state l.state
