use Rattle.std.proofs.Common.{◌≡◌, ◌++◌, take}
use Rattle.checker_loops.specs.Pairs.{all_aliases_in}
use Rattle.checker_loops.proofs.pairs.Pairs.add_all_aliases.Given as goal

-- so far
abbrev pub invariant-loop-root : goal.invariant-loop-root
invariant-loop-root l = l.found.items ≡ l.fn.found.items ++ all_aliases_in l.self l.block (take l.root-index l.roots)
