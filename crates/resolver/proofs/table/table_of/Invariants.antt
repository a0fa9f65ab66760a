use Rattle.std.proofs.Common.{◌≡◌, None, flat_map, map, take}
use Rattle.resolver.specs.Table.{row_of, rows_of_made}
use Rattle.resolver.proofs.table.table_of.Given as goal

-- the rows of the blocks so far
abbrev pub invariant-loop-made : goal.invariant-loop-made
invariant-loop-made l = l.met.refused ≡ None → map row_of l.met.loops.items ≡ flat_map rows_of_made (take l.made-index l.blocks)
