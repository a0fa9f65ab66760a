use Rattle.std.proofs.Common.{◌≡◌, drop, map}
use Rattle.std.specs.List.{list_all}
use Rattle.typed_tree.specs.Accesses.{origin_of}
use Rattle.checker_calls.specs.Actuals.{bound_to}
use Rattle.checker_calls.specs.Overlaps.{is_listed_with}
use Rattle.checker_calls.specs.View.{said_actual}
use Rattle.checker_calls.proofs.overlaps.are_listed_with.Given as goal

-- what is left from here is what was to be done
abbrev pub invariant-loop-i : goal.invariant-loop-i
invariant-loop-i l =
    list_all (is_listed_with l.pairs.pairs l.formal (origin_of l.access) l.access.selectors.items)
    (bound_to (drop l.i l.roots) (map said_actual (drop l.i l.actuals)))
    ≡ list_all (is_listed_with l.pairs.pairs l.formal (origin_of l.access) l.access.selectors.items) (bound_to l.roots (map said_actual l.actuals))
