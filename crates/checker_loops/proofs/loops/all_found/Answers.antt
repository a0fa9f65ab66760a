use Rattle.std.proofs.Common.{rules, ℕ, ◌+◌, map, take, subst, sym, ap, replicate, ◌∙◌, ◌≡◌, Option, None, length, List}
use Rattle.std.proofs.lemmas.List.{take_all, with_items_is}
use Rattle.certificate.specs.declared.LoopClaims.{LoopClaims as KeptClaims}
use Rattle.certificate.specs.declared.Section.{Section as KeptSection}
use Rattle.certificate.specs.Contents.{LoopClaims, contents, loop_of, section_of}
use Rattle.checker_loops.specs.Loops.{found_among, found_in}
use Rattle.checker_loops.specs.View.{AreFound}
use Rattle.checker_loops.proofs.Claimed.{Rows, all-found, found-nothing, found-then, none-cloned, sections-more}
use Rattle.checker_loops.proofs.loops.all_found.Goals as goal

pub loop-section-init : goal.loop-section-init
loop-section-init c = found-nothing c.in_ok-found.found.items

pub loop-section-preserved : goal.loop-section-preserved
loop-section-preserved c =
    let sections = c.deref-section-items.result.now in
    let i = c.loop-section.section-index in
    let one = c.section-item.result in
    let start = c.in_ok-found.found.items in
    let before = c.loop-section.found.items in
    let after = c.enter_all.new.found in
    let found : ℕ → Option LoopClaims = λ number. found_in number (map section_of (take (i + 1) sections)) in
    let entered : AreFound before after (λ number. found_among number (map loop_of one.loops.items)) =
    subst (λ (rows : Rows). AreFound rows after (λ number. found_among number (map loop_of one.loops.items))) c.deref_mut.ensures.value
    (subst (λ (loops : List KeptClaims). AreFound c.deref_mut.result.now after (λ number. found_among number (map loop_of loops))) c.deref.ensures.value
    c.enter_all.ensures) in
    let long = entered.same_length ∙ sym c.loop-section.found.ok.0 in
    subst (λ (rows : Rows). AreFound start rows found) (sym (with_items_is c.loop-section.found after long))
    (found-then start before after (λ number. found_in number (map section_of (take i sections)))
    (λ number. found_among number (map loop_of one.loops.items)) found c.loop-section.invariant entered
    (λ number. sections-more number sections i one c.loop-section-test.true c.section-item.is))

pub returns : goal.returns
returns c =
    let loops = c.args.tree.now.loops in
    let count = length loops.items in
    let rows = c.loop-section.found.items in
    let sections = c.deref-section-items.result.now in
    let empty : c.in_ok-found.found.items ≡ replicate count None =
    c.in_ok-found.ensures.items_if_clones_equal (none-cloned _ (λ one never. never)) ∙ ap (λ n. replicate n None) (search rules) in
    let whole = take_all c.loop-section.section-index sections c.loop-section-test.false ∙ c.deref-section-items.ensures.value in
    all-found c.args.certificate.now count rows
    (subst (λ (start : Rows). AreFound start rows (λ number. found_in number (contents c.args.certificate.now))) empty
    (subst (λ (all : List KeptSection). AreFound c.in_ok-found.found.items rows (λ number. found_in number (map section_of all))) whole
    c.loop-section.invariant))
