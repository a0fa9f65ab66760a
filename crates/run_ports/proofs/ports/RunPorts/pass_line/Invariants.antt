use Rattle.std.proofs.Common.{◌≡◌}
use Rattle.text_input.specs.Input.{read_line}
use Rattle.run_ports.specs.Output.{ports}
use Rattle.run_ports.specs.Steps.{may_take}
use Rattle.run_ports.proofs.Reading.{Continues}
use Rattle.run_ports.proofs.ports.RunPorts.pass_line.Given as goal

abbrev pub invariant-loop : goal.invariant-loop
invariant-loop g l =
    ((g.R.Feed.fed l.reader).failures ≡ (g.R.Feed.fed l.initial.reader).failures)
    × ((g.W.Sink.got l.writer).failures ≡ (g.W.Sink.got l.initial.writer).failures)
    × Continues (λ fails. read_line) (λ fails. read_line) l.initial.self l.self
    (g.R.Feed.fed l.initial.reader) (g.R.Feed.fed l.reader)
    (ports (g.W.Sink.got l.initial.writer) l.initial.self.output)
    (ports (g.W.Sink.got l.writer) l.self.output)

abbrev pub decreases-loop : goal.decreases-loop
decreases-loop g l = may_take l.self.input (g.R.Feed.given l.reader)
