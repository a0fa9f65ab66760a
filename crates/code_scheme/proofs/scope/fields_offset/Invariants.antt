use Rattle.std.proofs.Common.{◌≡◌, ◌+◌, ◌≤◌, length}
use Rattle.code_scheme.specs.Scopes.{fields_offset as offset_of_fields}
use Rattle.code_scheme.specs.Sizes.{capped}
use Rattle.code_scheme.proofs.scope.fields_offset.Given as goal

abbrev pub invariant-loop-before : goal.invariant-loop-before
invariant-loop-before l =
    (l.offset ≤ 4294967295) × (capped (l.offset + offset_of_fields l.rest) ≡ capped (offset_of_fields l.initial.rest))

abbrev pub decreases-loop-before : goal.decreases-loop-before
decreases-loop-before l = length l.rest
