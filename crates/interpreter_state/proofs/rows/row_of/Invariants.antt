use Rattle.std.proofs.Common.{◌≡◌, map, pos, take}
use Rattle.meaning.specs.declared.value.Value.TheVariants.{Number}
use Rattle.interpreter_state.proofs.rows.row_of.Given as goal

abbrev pub invariant-loop-character : goal.invariant-loop-character
invariant-loop-character l = l.row.items ≡ map (λ c. Number (pos c)) (take l.character-index l.characters)
