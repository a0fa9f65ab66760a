use Rattle.std.proofs.Common.{◌≡◌, length}
use Rattle.report_text.proofs.MessagesLemmas.{Left}
use Rattle.report_text.proofs.messages.put.Given as goal

-- no call has failed yet, and the rest is still to be written
abbrev pub invariant-loop-rest : goal.invariant-loop-rest
invariant-loop-rest g l =
    ((g.E.Sink.got l.errors).failures ≡ (g.E.Sink.got l.initial.errors).failures)
    × Left (g.E.Sink.got l.initial.errors).contents (g.E.Sink.got l.errors).contents l.rest l.text

abbrev pub decreases-loop-rest : goal.decreases-loop-rest
decreases-loop-rest g l = length l.rest
