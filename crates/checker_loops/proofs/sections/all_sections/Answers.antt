use Rattle.std.proofs.Common.{rules, ◌∙◌, ◌≡◌, ◌+◌, [], ◌∷◌, List, None, ap, length, replicate, subst, sym, take}
use Rattle.std.proofs.lemmas.List.{take_all, with_items_is}
use Rattle.certificate.specs.declared.Section.{Section as KeptSection}
use Rattle.checker_loops.proofs.Claimed.{none-cloned}
use Rattle.checker_loops.specs.BlockView.{AreFound, first_on}
use Rattle.checker_loops.proofs.Sectioned.{Rows, all-found, found-nothing, found-then, sections-more}
use Rattle.checker_loops.proofs.sections.all_sections.Goals as goal

pub loop-section-init : goal.loop-section-init
loop-section-init c = found-nothing c.in_ok-found.found.items

pub loop-section-preserved : goal.loop-section-preserved
loop-section-preserved c =
    let sections = c.deref-section-items.result.now in
    let i = c.loop-section.section-index in
    let one = c.section-item.result in
    let start = c.in_ok-found.found.items in
    let before = c.loop-section.found.items in
    let after = c.enter.new.found in
    let entered : AreFound before after (λ number. first_on number (one ∷ [])) =
    subst (λ (rows : Rows). AreFound rows after (λ number. first_on number (one ∷ []))) c.deref_mut.ensures.value c.enter.ensures in
    let long = entered.same_length ∙ sym c.loop-section.found.ok.0 in
    subst (λ (rows : Rows). AreFound start rows (λ number. first_on number (take (i + 1) sections))) (sym (with_items_is c.loop-section.found after long))
    (found-then start before after (λ number. first_on number (take i sections)) (λ number. first_on number (one ∷ [])) _ c.loop-section.invariant entered
    (λ number. sections-more number sections i one c.loop-section-test.true c.section-item.is))

pub returns : goal.returns
returns c =
    let blocks = c.args.tree.now.blocks in
    let count = length blocks.items in
    let rows = c.loop-section.found.items in
    let sections = c.deref-section-items.result.now in
    let empty : c.in_ok-found.found.items ≡ replicate count None =
    c.in_ok-found.ensures.items_if_clones_equal (none-cloned _ (λ one never. never)) ∙ ap (λ n. replicate n None) (search rules) in
    let whole = take_all c.loop-section.section-index sections c.loop-section-test.false ∙ c.deref-section-items.ensures.value in
    all-found c.args.certificate.now count rows
    (subst (λ (start : Rows). AreFound start rows (λ number. first_on number c.args.certificate.now.sections.items)) empty
    (subst (λ (all : List KeptSection). AreFound c.in_ok-found.found.items rows (λ number. first_on number all)) whole c.loop-section.invariant))
