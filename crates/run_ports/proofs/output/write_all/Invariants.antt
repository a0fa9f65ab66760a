use Rattle.std.proofs.Common.{◌≡◌, length}
use Rattle.run_ports.specs.Ports.{Loses}
use Rattle.run_ports.proofs.Written.{Offering}
use Rattle.run_ports.proofs.output.write_all.Given as goal

abbrev pub invariant-loop-rest : goal.invariant-loop-rest
invariant-loop-rest g l =
    ((g.W.Sink.got l.writer).failures ≡ (g.W.Sink.got l.initial.writer).failures) ×
    ((got : Loses (g.W.Sink.got l.initial.writer).contents (g.W.Sink.got l.writer).contents l.piece) × (got.lost ≡ l.rest)) × Offering
    (g.W.Sink.got l.initial.writer).offered (g.W.Sink.got l.writer).offered (length l.piece) (length l.rest)

abbrev pub decreases-loop-rest : goal.decreases-loop-rest
decreases-loop-rest g l = length l.rest
