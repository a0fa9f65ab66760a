use Rattle.std.proofs.Common.{map, length}
use Rattle.reading.specs.Reading as spec
use Rattle.token_cursor.proofs.Turns.{Parts}
use Rattle.parser.proofs.lists.separated.Given as goal

abbrev pub invariant-loop-found : goal.invariant-loop-found
invariant-loop-found g l =
    Parts (spec.separated l.symbol g.P.Part.rule l.fn.cursor.rest.now) (map g.P.Part.look l.found.items)
    (spec.separated l.symbol g.P.Part.rule l.cursor.rest.now)

abbrev pub decreases-loop-found : goal.decreases-loop-found
decreases-loop-found g l = length l.cursor.rest.now
