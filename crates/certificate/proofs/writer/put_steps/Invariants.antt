use Rattle.std.proofs.Common.{map, take}
use Rattle.std.specs.List.{flat_map}
use Rattle.text_lines.specs.Writing.{Appends}
use Rattle.domain.specs.Facts.{said_step}
use Rattle.certificate.specs.Paths.{step_words}
use Rattle.certificate.proofs.writer.put_steps.Given as goal

abbrev pub invariant-loop-step : goal.invariant-loop-step
invariant-loop-step l = Appends (flat_map step_words (map said_step (take l.step-index l.steps))) l.initial.writer l.writer
