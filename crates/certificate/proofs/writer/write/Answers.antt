use Rattle.std.proofs.Common.{◌++◌, ◌∙◌, ap, map}
use Rattle.std.proofs.lemmas.Result.{IfOk-weaker}
use Rattle.std.specs.List.{flat_map}
use Rattle.text_lines.specs.Lines.{ended}
use Rattle.text_lines.specs.Writing.{written}
use Rattle.text_lines.proofs.Finished.{finished}
use Rattle.certificate.specs.Contents.{contents, heading, section_of}
use Rattle.certificate.specs.Writing.{section_text}
use Rattle.certificate.proofs.Written as sections
use Rattle.certificate.proofs.writer.write.Goals as goal

pub returns-clause-exact : goal.returns-clause-exact
returns-clause-exact c =
    let certificate = c.args.certificate.now in
    let front = written c.put_heading.new.writer in
    finished c.finish.result (λ made. made.items) c.put_sections.new.writer _ c.finish.ensures (λ whole.
    let more = c.put_sections.ensures whole in
    sections.written certificate.version (contents certificate) front _
    ((c.put_heading.ensures more.0).1 ∙ ap (λ text. text ++ ended (heading certificate.version)) c.new-writer.ensures)
    (more.1 ∙ ap (λ sections. front ++ flat_map section_text (map section_of sections)) c.deref.ensures.value))

pub returns-clause-spells : goal.returns-clause-spells
returns-clause-spells c in_order =
    IfOk-weaker c.finish.result _ _ (λ made exact. record { in_order = in_order; text_is = exact }) (returns-clause-exact c)
