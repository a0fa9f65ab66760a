use Rattle.std.proofs.Common.{map, take}
use Rattle.checker_trail.specs.Trail.{Moves}
use Rattle.checker_loops.specs.Aliases.{with_aliases_stored}
use Rattle.checker_ways.specs.View.{said_stored}
use Rattle.checker_ways.proofs.aliases.store.Given as goal

-- what was stored so far
abbrev pub invariant-loop-one : goal.invariant-loop-one
invariant-loop-one l =
    Moves (with_aliases_stored l.fn.state.table.now l.aliases (map said_stored (take l.one-index l.stored))) l.fn.state l.state
