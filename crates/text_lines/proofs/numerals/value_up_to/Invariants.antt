use Rattle.std.proofs.Common.{◌≡◌, ◌≤◌, take}
use Rattle.text_lines.specs.Numerals.{value_of}
use Rattle.text_lines.proofs.numerals.value_up_to.Given as goal

abbrev pub invariant-loop-digit : goal.invariant-loop-digit
invariant-loop-digit l = (l.value ≤ l.limit) × (l.value ≡ value_of (take l.digit-index l.digits))
