use Rattle.pcode_assembler.proofs.writer.+put_hexadecimal.Given as goal

abbrev pub decreases-put_hexadecimal : goal.decreases-put_hexadecimal
decreases-put_hexadecimal l = l.count
