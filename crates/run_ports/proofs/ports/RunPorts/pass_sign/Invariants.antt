use Rattle.std.proofs.Common.{◌≡◌}
use Rattle.run_ports.specs.Output.{ports}
use Rattle.run_ports.specs.Steps.{may_take, sign_taken}
use Rattle.run_ports.proofs.Reading.{Continues}
use Rattle.run_ports.proofs.ports.RunPorts.pass_sign.Given as goal

abbrev pub invariant-loop-self : goal.invariant-loop-self
invariant-loop-self g l =
    ((g.R.Feed.fed l.reader).failures ≡ (g.R.Feed.fed l.initial.reader).failures)
    × ((g.W.Sink.got l.writer).failures ≡ (g.W.Sink.got l.initial.writer).failures)
    × Continues (λ fails. sign_taken) (λ fails. sign_taken) l.initial.self l.self
    (g.R.Feed.fed l.initial.reader) (g.R.Feed.fed l.reader)
    (ports (g.W.Sink.got l.initial.writer) l.initial.self.output)
    (ports (g.W.Sink.got l.writer) l.self.output)

abbrev pub decreases-loop-self : goal.decreases-loop-self
decreases-loop-self g l = may_take l.self.input (g.R.Feed.given l.reader)
