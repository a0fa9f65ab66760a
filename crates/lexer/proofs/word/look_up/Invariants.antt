use Rattle.std.proofs.Common.{◌≡◌, map, drop}
use Rattle.std.specs.Char.{to_ascii_lowercase}
use Rattle.lexer.specs.Spelling.{entry, in_small_letters}
use Rattle.lexer.proofs.word.look_up.Given as goal

abbrev pub invariant-loop-spelling : goal.invariant-loop-spelling
invariant-loop-spelling l =
    entry (in_small_letters (drop l.spelling-index l.table)) (map to_ascii_lowercase l.letters) ≡ entry (in_small_letters l.table)
    (map to_ascii_lowercase l.letters)
