use Rattle.std.proofs.Common.{◌+◌, ◌*◌, length, map}
use Rattle.lexer.specs.declared.token.Symbol.TheVariants as symbol
use Rattle.reading.specs.Reading.{separated}
use Rattle.reading.specs.Statements.{arm, parts_to_end, statement}
use Rattle.reading.specs.Trees.{stmt_outline}
use Rattle.token_cursor.proofs.Turns.{Parts}
use Rattle.parser.specs.Built.{arms_outlines}
use Rattle.parser.proofs.Pairs.{Paired}
use Rattle.parser.proofs.statement.+statement.Given as goal

abbrev pub decreases-compound : goal.decreases-compound
decreases-compound l = 4 * l.levels + 2

abbrev pub decreases-statements : goal.decreases-statements
decreases-statements l = 4 * l.levels + 1

abbrev pub decreases-statement : goal.decreases-statement
decreases-statement l = 4 * l.levels

abbrev pub decreases-conditional : goal.decreases-conditional
decreases-conditional l = 4 * l.levels + 3

abbrev pub decreases-while_loop : goal.decreases-while_loop
decreases-while_loop l = 4 * l.levels + 3

abbrev pub decreases-repeat_loop : goal.decreases-repeat_loop
decreases-repeat_loop l = 4 * l.levels + 3

abbrev pub decreases-for_loop : goal.decreases-for_loop
decreases-for_loop l = 4 * l.levels + 3

abbrev pub decreases-case_of : goal.decreases-case_of
decreases-case_of l = 4 * l.levels + 3

abbrev pub decreases-with_fields : goal.decreases-with_fields
decreases-with_fields l = 4 * l.levels + 3

abbrev pub decreases-arms : goal.decreases-arms
decreases-arms l = 4 * l.levels + 1

abbrev pub decreases-alternative : goal.decreases-alternative
decreases-alternative l = 4 * l.levels + 2

abbrev pub decreases-body : goal.decreases-body
decreases-body l = 4 * l.levels + 1

abbrev pub invariant-statements-loop-statements : goal.invariant-statements-loop-statements
invariant-statements-loop-statements l =
    Parts (separated symbol.Semicolon (statement l.levels) l.fn.cursor.rest.now) (map stmt_outline l.statements.items)
    (separated symbol.Semicolon (statement l.levels) l.cursor.rest.now)

abbrev pub decreases-statements-loop-statements : goal.decreases-statements-loop-statements
decreases-statements-loop-statements l = length l.cursor.rest.now

abbrev pub invariant-arms-loop-arms : goal.invariant-arms-loop-arms
invariant-arms-loop-arms l =
    Paired arms_outlines (parts_to_end (arm l.levels (statement l.levels)) l.fn.cursor.rest.now) l.constants.items l.arms.items
    (parts_to_end (arm l.levels (statement l.levels)) l.cursor.rest.now)

abbrev pub decreases-arms-loop-arms : goal.decreases-arms-loop-arms
decreases-arms-loop-arms l = length l.cursor.rest.now
