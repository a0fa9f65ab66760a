use Rattle.std.proofs.Common.{arith}
use Rattle.text_lines.specs.Writing.{written}
use Rattle.pcode_assembler.proofs.Sets.{digits_appended, digits_end}
use Rattle.pcode_assembler.proofs.writer.+put_hexadecimal.Goals as goal

pub returns-then-count-gt0 : goal.returns-then-count-gt0
returns-then-count-gt0 t c whole =
    let second = c.append.ensures whole in
    let first = c.put_hexadecimal.ensures second.0 in (
      first.0,
      digits_appended (written c.args.writer.now) (written c.put_hexadecimal.new.writer) _ c.args.count c.args.number
          c.hexadecimal_digit.result (omega arith) first.1 second.1 c.hexadecimal_digit.ensures,
    )

pub returns-else-count-gt0 : goal.returns-else-count-gt0
returns-else-count-gt0 t c whole = (whole, digits_end (written c.args.writer.now) c.args.count c.args.number (omega arith))
