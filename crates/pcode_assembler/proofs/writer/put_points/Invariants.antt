use Rattle.std.proofs.Common.{map, take}
use Rattle.pcode_assembler.specs.Contents.{point_line}
use Rattle.pcode_assembler.specs.Writing.{AppendsLines}
use Rattle.pcode_assembler.proofs.writer.put_points.Given as goal

abbrev pub invariant-loop-point : goal.invariant-loop-point
invariant-loop-point l = AppendsLines (map point_line (take l.point-index l.points)) l.initial.writer l.writer
