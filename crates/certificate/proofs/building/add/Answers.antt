use Rattle.std.proofs.Common.{◌<◌, rules, vec_len}
use Rattle.std.proofs.lemmas.Result.{on_ok_weaker}
use Rattle.certificate.specs.Building.{in_section, said_content}
use Rattle.certificate.specs.Contents.{section_of}
use Rattle.certificate.proofs.LastChanged.{in_last_section, last_changed}
use Rattle.certificate.proofs.building.add.Goals as goal

pub returns-in-Some : goal.returns-in-Some
returns-in-Some c =
    let sections = c.args.sections.now in
    let content = said_content c.args.content.now in
    let some : 0 < vec_len sections = c.last_mut.ensures.variant.0 (search rules) in
    on_ok_weaker c.add.result
    (λ told. in_last_section c.args.content.now _ _ c.in_default.not-Block
    (last_changed section_of (in_section content) sections.items (vec_len sections) c.in-Some.section.now c.add.new.self
    sections.ok.0 some c.in-Some.ensures.value told))
    c.add.ensures
