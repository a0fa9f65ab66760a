use Rattle.std.proofs.Common.{◌++◌, ◌∙◌, List, ℕ, sym, ap, subst, map}
use Rattle.std.proofs.lemmas.Result.{IfOk-weaker}
use Rattle.text_lines.specs.Lines.{ended}
use Rattle.text_lines.specs.Writing.{written}
use Rattle.text_lines.proofs.Finished.{finished}
use Rattle.pcode_assembler.specs.Contents.{Says, body_lines, point_line, site_line}
use Rattle.pcode_assembler.specs.Text.{heading}
use Rattle.pcode_assembler.specs.Writing.{have_numbers, lines_text}
use Rattle.pcode_assembler.proofs.SaidAgain.{spelled}
use Rattle.pcode_assembler.proofs.Written as lines
use Rattle.pcode_assembler.proofs.code.Code.write.Goals as goal

pub returns-clause-exact : goal.returns-clause-exact
returns-clause-exact c =
    let code = c.args.self.now in
    finished c.finish.result (λ made. made.items) c.append-2.new.self _ c.finish.ensures (λ whole.
    let fifth = c.append-2.ensures whole in
    let fourth = c.put_instructions.ensures.lines fifth.0 in
    let third = c.put_points.ensures fourth.0 in
    let second = c.put_sites.ensures third.0 in
    let first = c.append.ensures second.0 in
    lines.written (map site_line code.sites.items) (map point_line code.points.items) (body_lines code.instructions.items 0 code.instructions.items)
    (written c.append.new.self) (written c.put_sites.new.writer) (written c.put_points.new.writer) (written c.put_instructions.new.writer) _
    (first.1 ∙ ap (λ t. t ++ ended heading) c.new-writer.ensures)
    (second.1 ∙ ap (λ sites. written c.append.new.self ++ lines_text (map site_line sites)) c.deref-2.ensures.value)
    (third.1 ∙ ap (λ points. written c.put_sites.new.writer ++ lines_text (map point_line points)) c.deref-3.ensures.value)
    (fourth.1 ∙ ap (λ is. written c.put_points.new.writer ++ lines_text (body_lines is 0 is)) c.deref-5.ensures.value) fifth.1)

pub returns-clause-reads : goal.returns-clause-reads
returns-clause-reads c has_text =
    let code = c.args.self.now in
    let numbers = ap have_numbers (sym c.deref-5.ensures.value) ∙ c.put_instructions.ensures.numbers in
    IfOk-weaker c.finish.result _ _ (λ made exact. subst (λ (text : List ℕ). Says text code) (sym exact) (spelled code has_text numbers))
    (returns-clause-exact c)
