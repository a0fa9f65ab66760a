use Rattle.std.proofs.Common.{◌≡◌, false, Some, drop}
use Rattle.typing.specs.Expressions.{is_of_packed}
use Rattle.typing.proofs.passing.is_of_packed.Given as goal

-- those that are left tell the rest
abbrev pub invariant-loop-selector : goal.invariant-loop-selector
invariant-loop-selector l =
    is_of_packed l.types (Some l.fn.type_id) false l.selectors ≡ is_of_packed l.types l.id l.packed (drop l.selector-index l.selectors)
