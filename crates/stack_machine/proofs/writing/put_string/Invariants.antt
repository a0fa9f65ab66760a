use Rattle.std.proofs.Common.{◌≡◌, take}
use Rattle.run_ports.specs.Output.{ports}
use Rattle.run_ports.specs.Ports.{Passes}
use Rattle.stack_machine.specs.Texts.{characters}
use Rattle.stack_machine.proofs.writing.put_string.Given as goal

abbrev pub invariant-loop-word : goal.invariant-loop-word
invariant-loop-word g l =
    ((g.W.Sink.got l.writer).failures ≡ (g.W.Sink.got l.initial.writer).failures) × Passes
    (ports (g.W.Sink.got l.initial.writer) l.initial.to.output)
    (ports (g.W.Sink.got l.writer) l.to.output) (take l.word-index (characters l.word-items))
    × (l.to.input ≡ l.initial.to.input)
