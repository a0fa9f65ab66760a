use Rattle.std.proofs.Common.{◌+◌, ◌*◌, map, length}
use Rattle.lexer.specs.declared.token.Symbol.TheVariants as symbol
use Rattle.reading.specs.Declarations as spec
use Rattle.reading.specs.Reading.{separated}
use Rattle.reading.specs.Statements.{parts_to_end}
use Rattle.reading.specs.Trees.{denoter_outline}
use Rattle.token_cursor.proofs.Turns.{Parts}
use Rattle.parser.specs.Fields.{fields_look}
use Rattle.parser.proofs.Pairs.{Paired}
use Rattle.parser.proofs.denoter.+denoter.Given as goal

abbrev pub decreases-denoter : goal.decreases-denoter
decreases-denoter l = 4 * l.levels

abbrev pub decreases-structured : goal.decreases-structured
decreases-structured l = 4 * l.levels + 3

abbrev pub decreases-array : goal.decreases-array
decreases-array l = 4 * l.levels + 2

abbrev pub decreases-part : goal.decreases-part
decreases-part l = 4 * l.levels + 1

abbrev pub decreases-set : goal.decreases-set
decreases-set l = 4 * l.levels + 2

abbrev pub decreases-indexes : goal.decreases-indexes
decreases-indexes l = 4 * l.levels + 1

abbrev pub decreases-record : goal.decreases-record
decreases-record l = 4 * l.levels + 2

abbrev pub decreases-fields : goal.decreases-fields
decreases-fields l = 4 * l.levels + 1

abbrev pub invariant-indexes-loop-indexes : goal.invariant-indexes-loop-indexes
invariant-indexes-loop-indexes l =
    Parts (separated symbol.Comma (spec.denoter l.levels) l.fn.cursor.rest.now) (map denoter_outline l.indexes.items)
    (separated symbol.Comma (spec.denoter l.levels) l.cursor.rest.now)

abbrev pub decreases-indexes-loop-indexes : goal.decreases-indexes-loop-indexes
decreases-indexes-loop-indexes l = length l.cursor.rest.now

abbrev pub invariant-fields-loop-denoters : goal.invariant-fields-loop-denoters
invariant-fields-loop-denoters l =
    Paired fields_look (parts_to_end (spec.fields (spec.denoter l.levels)) l.fn.cursor.rest.now) l.names.items l.denoters.items
    (parts_to_end (spec.fields (spec.denoter l.levels)) l.cursor.rest.now)

abbrev pub decreases-fields-loop-denoters : goal.decreases-fields-loop-denoters
decreases-fields-loop-denoters l = length l.cursor.rest.now
