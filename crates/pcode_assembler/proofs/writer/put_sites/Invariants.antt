use Rattle.std.proofs.Common.{map, take}
use Rattle.pcode_assembler.specs.Contents.{site_line}
use Rattle.pcode_assembler.specs.Writing.{AppendsLines}
use Rattle.pcode_assembler.proofs.writer.put_sites.Given as goal

abbrev pub invariant-loop-site : goal.invariant-loop-site
invariant-loop-site l = AppendsLines (map site_line (take l.site-index l.sites)) l.initial.writer l.writer
