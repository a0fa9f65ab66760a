-- The bytes that an output holds back for its writer. It does not say when these go out.
use Rattle.std.specs.Prelude.{ℕ, List, take}
use Rattle.run_ports.specs.Seen.{Sunk}
use Rattle.run_ports.specs.declared.output.Output.{Output}
use Rattle.run_ports.specs.Ports.{Ports}

-- the bytes that are held back
abbrev pub held_by : Output → List ℕ
held_by output = take output.held output.bytes.items

-- a writer of which this is seen, and the output
abbrev pub ports : Sunk → Output → Ports
ports sunk output = record { known = sunk.contents; offered = sunk.offered; held = held_by output }
