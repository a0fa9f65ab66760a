use Rattle.std.proofs.Common.{◌≡◌, take}
use Rattle.run_ports.specs.Output.{ports}
use Rattle.run_ports.specs.Ports.{Passes}
use Rattle.run_ports.proofs.output.Output.put_all.Given as goal

abbrev pub invariant-loop-byte : goal.invariant-loop-byte
invariant-loop-byte g l =
    ((g.W.Sink.got l.writer).failures ≡ (g.W.Sink.got l.initial.writer).failures) × Passes
    (ports (g.W.Sink.got l.initial.writer) l.initial.self)
    (ports (g.W.Sink.got l.writer) l.self) (take l.byte-index l.bytes)
