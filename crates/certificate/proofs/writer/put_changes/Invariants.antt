use Rattle.std.proofs.Common.{take}
use Rattle.std.specs.List.{flat_map}
use Rattle.text_lines.specs.Writing.{Appends}
use Rattle.certificate.specs.Writing.{change_line}
use Rattle.certificate.proofs.writer.put_changes.Given as goal

abbrev pub invariant-loop-root : goal.invariant-loop-root
invariant-loop-root l = Appends (flat_map change_line (take l.root-index l.roots)) l.initial.writer l.writer
