-- How many statements may still stand in one another, and behind that how far a function stands above the next one.
use Rattle.std.proofs.Common.{◌≡◌, ℕ, ◌+◌, ◌*◌}
use Rattle.analyser.proofs.analysis.Analysis.+statement.Given as goal

abbrev pub decreases-statement : goal.decreases-statement
decreases-statement l = 16 * l.left

abbrev pub decreases-visit : goal.decreases-visit
decreases-visit l = 16 * l.left + 1

abbrev pub decreases-enter : goal.decreases-enter
decreases-enter l = 16 * l.left + 2

abbrev pub decreases-calls : goal.decreases-calls
decreases-calls l = 16 * l.left + 3

abbrev pub decreases-calls_among : goal.decreases-calls_among
decreases-calls_among l = 16 * l.left + 4

abbrev pub decreases-simple : goal.decreases-simple
decreases-simple l = 16 * l.left + 5

abbrev pub decreases-value : goal.decreases-value
decreases-value l = 16 * l.left + 6

abbrev pub decreases-condition : goal.decreases-condition
decreases-condition l = 16 * l.left + 6

abbrev pub decreases-comes_back : goal.decreases-comes_back
decreases-comes_back l = 16 * l.left + 5

abbrev pub decreases-records : goal.decreases-records
decreases-records l = 16 * l.left + 7

abbrev pub decreases-statements : goal.decreases-statements
decreases-statements l = 16 * l.left + 6

abbrev pub decreases-tested_turn : goal.decreases-tested_turn
decreases-tested_turn l = 16 * l.left + 7

abbrev pub decreases-turn : goal.decreases-turn
decreases-turn l = 16 * l.left + 8

abbrev pub decreases-turns : goal.decreases-turns
decreases-turns l = 16 * l.left + 9

abbrev pub decreases-for_loop : goal.decreases-for_loop
decreases-for_loop l = 16 * l.left + 10

abbrev pub decreases-case : goal.decreases-case
decreases-case l = 16 * l.left + 9

abbrev pub invariant-turns-loop-repeats : goal.invariant-turns-loop-repeats
invariant-turns-loop-repeats l = l.left ≡ l.fn.left

abbrev pub invariant-calls-loop-event : goal.invariant-calls-loop-event
invariant-calls-loop-event l = l.left ≡ l.fn.left

abbrev pub invariant-case-loop-number : goal.invariant-case-loop-number
invariant-case-loop-number l = l.left ≡ l.fn.left

abbrev pub invariant-records-loop-index : goal.invariant-records-loop-index
invariant-records-loop-index l = l.left ≡ l.fn.left

abbrev pub invariant-records-loop-record : goal.invariant-records-loop-record
invariant-records-loop-record l = l.left ≡ l.fn.left

abbrev pub invariant-statements-loop-statement : goal.invariant-statements-loop-statement
invariant-statements-loop-statement l = l.left ≡ l.fn.left
