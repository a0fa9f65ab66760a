use Rattle.std.proofs.Common.{◌≡◌, map, take}
use Rattle.checker_ways.specs.View.{said_stored}
use Rattle.cert_checker.specs.StoresView.{said_stores}
use Rattle.cert_checker.specs.View.{row_stored}
use Rattle.cert_checker.proofs.stores.Stores.in_rows.Given as goal

-- so far
abbrev pub invariant-loop-place : goal.invariant-loop-place
invariant-loop-place l = map said_stored l.stored.items ≡ map (row_stored l.rows) (take l.place (said_stores l.self))
