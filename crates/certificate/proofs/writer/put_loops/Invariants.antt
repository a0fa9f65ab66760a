use Rattle.std.proofs.Common.{map, take}
use Rattle.std.specs.List.{flat_map}
use Rattle.text_lines.specs.Writing.{Appends}
use Rattle.certificate.specs.Contents.{loop_of}
use Rattle.certificate.specs.Writing.{loop_text}
use Rattle.certificate.proofs.writer.put_loops.Given as goal

abbrev pub invariant-loop-claims : goal.invariant-loop-claims
invariant-loop-claims l = Appends (flat_map loop_text (map loop_of (take l.claims-index l.loops))) l.initial.writer l.writer
