use Rattle.std.proofs.Common.{◌≡◌, false, take}
use Rattle.std.specs.List.{list_any}
use Rattle.checker_state.specs.Changes.{bound_rests_on}
use Rattle.checker_state.specs.View.{said_bound}
use Rattle.checker_ways.proofs.aliases.form_unless_alias.Given as goal

-- none so far
abbrev pub invariant-loop-alias : goal.invariant-loop-alias
invariant-loop-alias l = list_any (λ alias. bound_rests_on alias (said_bound l.bound)) (take l.alias-index l.aliases) ≡ false
