use Rattle.std.proofs.Common.{◌≡◌, replicate}
use Rattle.run_ports.specs.Output.{ports}
use Rattle.run_ports.specs.Ports.{Passes}
use Rattle.run_ports.proofs.output.Output.put_blanks.Given as goal

abbrev pub invariant-loop-blank : goal.invariant-loop-blank
invariant-loop-blank g l =
    ((g.W.Sink.got l.writer).failures ≡ (g.W.Sink.got l.initial.writer).failures) × Passes
    (ports (g.W.Sink.got l.initial.writer) l.initial.self)
    (ports (g.W.Sink.got l.writer) l.self) (replicate l._blank 32)
