use Rattle.std.proofs.Common.{length, map}
use Rattle.lexer.specs.declared.token.Symbol.TheVariants as symbol
use Rattle.reading.specs.Reading.{separated}
use Rattle.reading.specs.Statements.{record_variable}
use Rattle.reading.specs.Trees.{record_outline}
use Rattle.token_cursor.proofs.Turns.{Parts}
use Rattle.parser.proofs.statement.records.Given as goal

abbrev pub invariant-loop-records : goal.invariant-loop-records
invariant-loop-records l =
    Parts (separated symbol.Comma (record_variable l.levels) l.fn.cursor.rest.now) (map record_outline l.records.items)
    (separated symbol.Comma (record_variable l.levels) l.cursor.rest.now)

abbrev pub decreases-loop-records : goal.decreases-loop-records
decreases-loop-records l = length l.cursor.rest.now
