use Rattle.std.proofs.Common.{◌≡◌, ℕ, min}
use Rattle.text_input.specs.Input.{digits}
use Rattle.run_ports.specs.Output.{ports}
use Rattle.run_ports.specs.Steps.{may_take}
use Rattle.run_ports.proofs.Reading.{Continues}
use Rattle.run_ports.proofs.ports.RunPorts.digits.Given as goal

abbrev pub invariant-loop-byte : goal.invariant-loop-byte
invariant-loop-byte g l =
    (n : ℕ) × (l.magnitude ≡ min n 2147483648) ×
    ((g.R.Feed.fed l.reader).failures ≡ (g.R.Feed.fed l.initial.reader).failures)
    × ((g.W.Sink.got l.writer).failures ≡ (g.W.Sink.got l.initial.writer).failures)
    × Continues (λ fails. digits l.is_negative 0) (λ fails. digits l.is_negative n) l.initial.self l.self
    (g.R.Feed.fed l.initial.reader) (g.R.Feed.fed l.reader)
    (ports (g.W.Sink.got l.initial.writer) l.initial.self.output)
    (ports (g.W.Sink.got l.writer) l.self.output)

abbrev pub decreases-loop-byte : goal.decreases-loop-byte
decreases-loop-byte g l = may_take l.self.input (g.R.Feed.given l.reader)
