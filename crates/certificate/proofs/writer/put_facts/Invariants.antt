use Rattle.std.proofs.Common.{map, take}
use Rattle.std.specs.List.{flat_map}
use Rattle.text_lines.specs.Writing.{Appends}
use Rattle.certificate.specs.Contents.{said_fact}
use Rattle.certificate.specs.Writing.{fact_line}
use Rattle.certificate.proofs.writer.put_facts.Given as goal

abbrev pub invariant-loop-fact : goal.invariant-loop-fact
invariant-loop-fact l = Appends (flat_map (fact_line l.word) (map said_fact (take l.fact-index l.facts))) l.initial.writer l.writer
