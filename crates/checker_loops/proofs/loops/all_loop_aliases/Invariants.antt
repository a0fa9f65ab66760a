use Rattle.std.proofs.Common.{◌≡◌, map}
use Rattle.std.specs.List.{range_with_len}
use Rattle.checker_loops.specs.View.{loop_aliases, said_claims}
use Rattle.checker_loops.proofs.loops.all_loop_aliases.Given as goal

-- so far
abbrev pub invariant-loop-number : goal.invariant-loop-number
invariant-loop-number l =
    map (λ row. row.items) l.found.items ≡ map (loop_aliases l.tree l.pairs (map said_claims l.claims)) (range_with_len 0 l.number)
