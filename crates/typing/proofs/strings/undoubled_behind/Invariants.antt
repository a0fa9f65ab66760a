use Rattle.std.proofs.Common.{◌≡◌, ◌++◌, length, option_map}
use Rattle.typing.specs.Strings.{characters_behind}
use Rattle.typing.proofs.strings.undoubled_behind.Given as goal

-- the characters that were read stand before those that are left
abbrev pub invariant-loop-character : goal.invariant-loop-character
invariant-loop-character l = characters_behind l.fn.text ≡ option_map (λ cs. l.made.items ++ cs) (characters_behind l.rest)

abbrev pub decreases-loop-character : goal.decreases-loop-character
decreases-loop-character l = length l.rest
