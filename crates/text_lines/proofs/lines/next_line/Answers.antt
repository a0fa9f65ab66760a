use Rattle.std.proofs.Common.{◌+◌, ◌-◌, arith, sym, ◌∙◌, length, take, drop}
use Rattle.std.proofs.lemmas.Grind.{common_steps}
use Rattle.text_lines.proofs.TextLines.{lines-found, lines-not_found}
use Rattle.text_lines.proofs.lines.next_line.Goals as goal

pub returns-in-None : goal.returns-in-None
returns-in-None c =
    let text = c.args.text.now in (
      lines-not_found text (take (length text - length text) (drop (length text) text))
          (grind (arith, common_steps)) (sym c.line_end.ensures ∙ c.in-None.is) (grind (arith, common_steps)),
      grind (arith, common_steps),
    )

pub returns-in-Some : goal.returns-in-Some
returns-in-Some c =
    let text = c.args.text.now in
    let next = c.in-Some.end + 1 in (
      lines-found text (take (length text - next) (drop next text)) c.in-Some.end
          (sym c.line_end.ensures ∙ c.in-Some.is) (grind (arith, common_steps)),
      grind (arith, common_steps),
    )
