use Rattle.std.proofs.Common.{◌+◌, ◌*◌, map, length}
use Rattle.reading.specs.Declarations as spec
use Rattle.reading.specs.Trees.{routine_outline}
use Rattle.token_cursor.proofs.Turns.{Parts}
use Rattle.parser.specs.Blocks.{block_below}
use Rattle.parser.proofs.block.+block.Given as goal

abbrev pub decreases-block : goal.decreases-block
decreases-block l = 4 * l.levels + 3

abbrev pub decreases-routines : goal.decreases-routines
decreases-routines l = 4 * l.levels + 2

abbrev pub decreases-routine : goal.decreases-routine
decreases-routine l = 4 * l.levels + 1

abbrev pub decreases-body : goal.decreases-body
decreases-body l = 4 * l.levels

abbrev pub invariant-routines-loop-routines : goal.invariant-routines-loop-routines
invariant-routines-loop-routines l =
    Parts (spec.routines (block_below l.levels) l.fn.cursor.rest.now) (map routine_outline l.routines.items)
    (spec.routines (block_below l.levels) l.cursor.rest.now)

abbrev pub decreases-routines-loop-routines : goal.decreases-routines-loop-routines
decreases-routines-loop-routines l = length l.cursor.rest.now
