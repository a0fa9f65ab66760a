use Rattle.std.proofs.Common.{◌≡◌, ◌++◌, take}
use Rattle.std.specs.Prelude.{flat_map}
use Rattle.checker_loops.specs.Pairs.{declared_aliases}
use Rattle.checker_loops.proofs.pairs.Pairs.add_aliases.Given as goal

-- so far
abbrev pub invariant-loop-number : goal.invariant-loop-number
invariant-loop-number l =
    l.found.items ≡ l.fn.found.items ++ flat_map (declared_aliases l.self l.root) (take l.number-index l.number-items)
