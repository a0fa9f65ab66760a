use Rattle.std.proofs.Common.{◌≡◌, drop}
use Rattle.checker_expressions.specs.View.{any_touches}
use Rattle.checker_expressions.specs.Walk.{calls_in, index_pieces}
use Rattle.checker_expressions.proofs.TouchedParts.{actual_calls, link_calls}
use Rattle.checker_expressions.proofs.flow.Flow.+touching.Given as goal

abbrev pub invariant-actuals_touch-loop-actual : goal.invariant-actuals_touch-loop-actual
invariant-actuals_touch-loop-actual l =
    any_touches l.self l.root (actual_calls (drop l.actual-index l.actuals)) ≡ any_touches l.self l.root (actual_calls l.actuals)

abbrev pub invariant-are_touching-loop-expression : goal.invariant-are_touching-loop-expression
invariant-are_touching-loop-expression l =
    any_touches l.self l.root (calls_in (index_pieces (drop l.expression-index l.expressions)))
    ≡ any_touches l.self l.root (calls_in (index_pieces l.expressions))

abbrev pub invariant-links_touch-loop-link : goal.invariant-links_touch-loop-link
invariant-links_touch-loop-link l =
    any_touches l.self l.root (link_calls (drop l.link-index l.links)) ≡ any_touches l.self l.root (link_calls l.links)
