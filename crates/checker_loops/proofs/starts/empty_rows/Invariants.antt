use Rattle.std.proofs.Common.{◌≡◌, ℕ, suc, [], map, min, replicate}
use Rattle.std.specs.Global.{Vec}
use Rattle.checker_loops.proofs.starts.empty_rows.Given as goal

-- so far
abbrev pub invariant-loop : goal.invariant-loop
invariant-loop l = map (λ (row : Vec ℕ). row.items) l.rows.items ≡ replicate (suc (min l.counter l.count)) []
