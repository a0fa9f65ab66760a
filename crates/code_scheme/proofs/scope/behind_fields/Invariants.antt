use Rattle.std.proofs.Common.{◌≡◌, length}
use Rattle.code_scheme.specs.Scopes.{behind_fields as behind}
use Rattle.code_scheme.proofs.scope.behind_fields.Given as goal

abbrev pub invariant-loop-others : goal.invariant-loop-others
invariant-loop-others l = behind l.rest ≡ behind l.initial.rest

abbrev pub decreases-loop-others : goal.decreases-loop-others
decreases-loop-others l = length l.rest
