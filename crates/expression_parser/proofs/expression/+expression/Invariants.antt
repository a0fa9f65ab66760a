use Rattle.std.proofs.Common.{◌+◌, ◌-◌, ◌*◌, length, map}
use Rattle.lexer.specs.declared.token.Symbol.TheVariants as symbol
use Rattle.reading.specs.Expressions.{actual, expression_below, member}
use Rattle.reading.specs.Reading.{loop, separated}
use Rattle.reading.specs.Trees.{actual_outline, link_outline}
use Rattle.token_cursor.specs.Level.{level_number}
use Rattle.token_cursor.proofs.Turns.{Parts, Turns}
use Rattle.expression_parser.specs.Levels.{links, turn_of}
use Rattle.expression_parser.proofs.Members.{MembersSoFar}
use Rattle.expression_parser.proofs.Selectors.{SelectorsSoFar}
use Rattle.expression_parser.proofs.expression.+expression.Given as goal

abbrev pub decreases-expression : goal.decreases-expression
decreases-expression l = 20 * l.levels + 16

abbrev pub decreases-chain : goal.decreases-chain
decreases-chain l = 20 * l.levels + 2 * (3 - level_number l.level) + 11

abbrev pub decreases-links : goal.decreases-links
decreases-links l = 20 * l.levels + 2 * (3 - level_number l.level) + 10

abbrev pub decreases-first_operand : goal.decreases-first_operand
decreases-first_operand l = 20 * l.levels + 2 * (3 - level_number l.level) + 9

abbrev pub decreases-operand : goal.decreases-operand
decreases-operand l = 20 * l.levels + 2 * (3 - level_number l.level) + 9

abbrev pub decreases-signed : goal.decreases-signed
decreases-signed l = 20 * l.levels + 12

abbrev pub decreases-factor : goal.decreases-factor
decreases-factor l = 20 * l.levels + 8

abbrev pub decreases-negated : goal.decreases-negated
decreases-negated l = 20 * l.levels + 7

abbrev pub decreases-named : goal.decreases-named
decreases-named l = 20 * l.levels + 7

abbrev pub decreases-parenthesized : goal.decreases-parenthesized
decreases-parenthesized l = 20 * l.levels + 7

abbrev pub decreases-set : goal.decreases-set
decreases-set l = 20 * l.levels + 7

abbrev pub decreases-members : goal.decreases-members
decreases-members l = 20 * l.levels + 6

abbrev pub decreases-member_list : goal.decreases-member_list
decreases-member_list l = 20 * l.levels + 5

abbrev pub decreases-member : goal.decreases-member
decreases-member l = 20 * l.levels + 4

abbrev pub decreases-selectors : goal.decreases-selectors
decreases-selectors l = 20 * l.levels + 6

abbrev pub decreases-selector : goal.decreases-selector
decreases-selector l = 20 * l.levels + 5

abbrev pub decreases-unjoined : goal.decreases-unjoined
decreases-unjoined l = 20 * l.levels + 4

abbrev pub decreases-index_selector : goal.decreases-index_selector
decreases-index_selector l = 20 * l.levels + 3

abbrev pub decreases-actuals : goal.decreases-actuals
decreases-actuals l = 20 * l.levels + 6

abbrev pub decreases-actual_list : goal.decreases-actual_list
decreases-actual_list l = 20 * l.levels + 5

abbrev pub decreases-actual : goal.decreases-actual
decreases-actual l = 20 * l.levels + 4

abbrev pub decreases-index : goal.decreases-index
decreases-index l = 20 * l.levels + 2

abbrev pub decreases-below : goal.decreases-below
decreases-below l = 20 * l.levels + 1

abbrev pub invariant-links-loop-operator : goal.invariant-links-loop-operator
invariant-links-loop-operator l =
    Turns (links l.level l.levels l.fn.cursor.rest.now) (map link_outline l.links.items) (loop (turn_of l.level l.levels) tt l.cursor.rest.now)

abbrev pub decreases-links-loop-operator : goal.decreases-links-loop-operator
decreases-links-loop-operator l = length l.cursor.rest.now

abbrev pub invariant-selectors-loop-indexes : goal.invariant-selectors-loop-indexes
invariant-selectors-loop-indexes l =
    SelectorsSoFar (expression_below l.levels) l.fn.cursor.rest.now l.selectors.items l.indexes.items l.within l.cursor.rest.now

abbrev pub decreases-selectors-loop-indexes : goal.decreases-selectors-loop-indexes
decreases-selectors-loop-indexes l = length l.cursor.rest.now

abbrev pub invariant-member_list-loop-members : goal.invariant-member_list-loop-members
invariant-member_list-loop-members l =
    MembersSoFar (separated symbol.Comma (member (expression_below l.levels)) l.fn.cursor.rest.now) l.designators.items l.members.items
    (separated symbol.Comma (member (expression_below l.levels)) l.cursor.rest.now)

abbrev pub decreases-member_list-loop-members : goal.decreases-member_list-loop-members
decreases-member_list-loop-members l = length l.cursor.rest.now

abbrev pub invariant-actual_list-loop-actuals : goal.invariant-actual_list-loop-actuals
invariant-actual_list-loop-actuals l =
    Parts (separated symbol.Comma (actual (expression_below l.levels)) l.fn.cursor.rest.now) (map actual_outline l.actuals.items)
    (separated symbol.Comma (actual (expression_below l.levels)) l.cursor.rest.now)

abbrev pub decreases-actual_list-loop-actuals : goal.decreases-actual_list-loop-actuals
decreases-actual_list-loop-actuals l = length l.cursor.rest.now
