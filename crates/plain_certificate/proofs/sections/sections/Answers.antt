use Rattle.std.proofs.Common.{◌∙◌, sym, ap, not, true, false, append-nil}
use Rattle.certificate.specs.Contents.{section_of as contents_of}
use Rattle.plain_certificate.proofs.Items.{kept-more}
use Rattle.plain_certificate.specs.Widest.{is_vacant, section_of}
use Rattle.plain_certificate.proofs.sections.sections.Goals.{then-not-is_vacant+in_ok-push, else-not-is_vacant}
use Rattle.plain_certificate.proofs.sections.sections.Goals as goal

pub loop-block-preserved : goal.loop-block-preserved
loop-block-preserved c =
    let tree = c.args.tree.now in
    let so_far = c.loop-block.sections.items in
    let one = c.in_ok-section.section in
    elim c.if-not-is_vacant.branch [
      | then-not-is_vacant+in_ok-push w ↦ kept-more contents_of (section_of tree) (λ section. not (is_vacant section)) so_far
          c.if-not-is_vacant.sections.items one c.loop-block.block true c.loop-block.invariant c.in_ok-section.ensures
          (ap not (sym c.is_vacant.ensures ∙ w.if-not-is_vacant.true)) (ap (λ list. list.items) w.sections-is ∙ w.in_ok-push.ensures.items)
      | else-not-is_vacant w ↦ kept-more contents_of (section_of tree) (λ section. not (is_vacant section)) so_far
          c.if-not-is_vacant.sections.items one c.loop-block.block false c.loop-block.invariant c.in_ok-section.ensures
          (ap not (sym c.is_vacant.ensures ∙ w.if-not-is_vacant.false)) (ap (λ list. list.items) w.sections-is ∙ sym (append-nil so_far))
    ]
