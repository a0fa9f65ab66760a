-- What a counted reader or writer shows: the reader or writer itself, and its count. It does not say when the count
-- rises.
use Rattle.std.specs.Prelude.{ℕ}
use Rattle.run_ports.specs.declared.bytes.Counted.{Counted}

-- the reader or writer itself
abbrev pub inner_of : {T : Type 0} → Counted T → T
inner_of c = c.inner

-- how many of its calls have failed
abbrev pub failure_count : {T : Type 0} → Counted T → ℕ
failure_count c = c.failures
