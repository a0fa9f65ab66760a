use Rattle.std.proofs.Common.{take}
use Rattle.checker_trail.specs.Trail.{Moves}
use Rattle.checker_loops.specs.Aliases.{aliases_joined}
use Rattle.checker_ways.specs.View.{said_stored}
use Rattle.checker_ways.proofs.aliases.join_aliases.Given as goal

-- the aliases so far
abbrev pub invariant-loop-alias : goal.invariant-loop-alias
invariant-loop-alias l = Moves (aliases_joined l.fn.state.table.now (said_stored l.stored) (take l.alias-index l.aliases)) l.fn.state l.state
