-- Which stops are failures of a reader or a writer. It does not say why a call of one fails, nor that one ever does.
use Rattle.std.specs.Prelude.{ℕ, if◌then◌else◌, Bool, true, false}
use Rattle.stack_machine.specs.declared.stop.Stop.{Stop}
use Rattle.stack_machine.specs.declared.stop.Stop.TheVariants as stop

-- whether a stop is a failure of the writer
abbrev pub is_write_failed : Stop → Bool
is_write_failed stop.Finished = false
is_write_failed (stop.Error site) = false
is_write_failed (stop.Input point fault) = false
is_write_failed stop.More = false
is_write_failed stop.StoreFull = false
is_write_failed (stop.Fault fault) = false
is_write_failed stop.ReadFailed = false
is_write_failed stop.WriteFailed = true

-- how many failures of the writer a stop stands for: one, or none
abbrev pub write_failures_of : Stop → ℕ
write_failures_of why = if is_write_failed why then 1 else 0

-- whether a stop is a failure of the reader
abbrev pub is_read_failed : Stop → Bool
is_read_failed stop.Finished = false
is_read_failed (stop.Error site) = false
is_read_failed (stop.Input point fault) = false
is_read_failed stop.More = false
is_read_failed stop.StoreFull = false
is_read_failed (stop.Fault fault) = false
is_read_failed stop.ReadFailed = true
is_read_failed stop.WriteFailed = false

-- how many failures of the reader a stop stands for: one, or none
abbrev pub read_failures_of : Stop → ℕ
read_failures_of why = if is_read_failed why then 1 else 0
