use Rattle.std.proofs.Common.{take}
use Rattle.std.specs.List.{flat_map}
use Rattle.text_lines.specs.Writing.{Appends}
use Rattle.certificate.specs.Writing.{alias_line}
use Rattle.certificate.proofs.writer.put_aliases.Given as goal

abbrev pub invariant-loop-pair : goal.invariant-loop-pair
invariant-loop-pair l = Appends (flat_map alias_line (take l.pair-index l.pairs)) l.initial.writer l.writer
