-- A run is one of the acts: what is seen of its reader and its writer, before and after it.
use Rattle.std.proofs.Common.{◌≡◌, ℕ, ◌+◌}
use Rattle.run_ports.specs.Seen.{Feeds, Sunk}
use Rattle.pcode_assembler.specs.declared.code.Code.{Code}
use Rattle.stack_machine.specs.declared.stop.Stop.{Stop}
use Rattle.stack_machine.specs.Failures.{write_failures_of}
use Rattle.stack_machine.specs.Ran.{Ran}
use Rattle.outside.specs.Acts.{IsRun, Streams}

pub seen : (code : Code) (cells budget : ℕ) (stop : Stop) (feeds feeds' : Feeds) (sunk sunk' : Sunk) → Ran code cells budget stop feeds feeds' sunk sunk'
    → sunk'.failures ≡ sunk.failures + write_failures_of stop
    → (before : Streams) × (after : Streams) × IsRun code cells budget stop before after × Unit {0}
seen code cells budget stop feeds feeds' sunk sunk' ran failed =
    (record { feeds = feeds; sunk = sunk }, record { feeds = feeds'; sunk = sunk' }, record { ran = ran; failed = failed }, tt)
