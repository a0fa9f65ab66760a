use Rattle.std.proofs.Common.{◌≡◌, ◌∙◌, ◌++◌, append-nil, append_assoc, ap, length, refl, sym}
use Rattle.std.specs.Prelude.{Some, None, flat_map, slice_get}
use Rattle.std.proofs.lemmas.List.{take_all}
use Rattle.std.proofs.lemmas.Option.{slice_get_past, slice_get_read}
use Rattle.checker_loops.specs.Pairs.{Listed, aliases_in, declared_aliases}
use Rattle.checker_loops.proofs.ByBlock.{if-ok, no-block, seen-aliases}
use Rattle.checker_loops.proofs.pairs.Pairs.add_aliases.Goals as goal

pub returns : goal.returns
returns c =
    let listed = c.args.self.now in
    let tree = c.self.inside.tree.now in
    let block = c.args.block in
    let root = c.args.root in
    let before = c.args.found.now.items in
    let seen = c.in-Some.seen.now in
    let blocks = c.deref.result.now in
    let own = declared_aliases listed root in
    let found = c.in-Some.ensures.lookup in
    let at : slice_get tree.blocks.items block ≡ Some seen =
    ap (λ all. slice_get all block) (sym c.deref.ensures.value) ∙ slice_get_read blocks (length blocks) block seen refl found.3.0 found.1 in
    let around = take_all c.loop-number.number-index c.deref-number-items.result.now c.loop-number-test.false ∙ c.deref-number-items.ensures.value in
    if-ok c.extend_from_slice-2.result c.extend_from_slice-2.new.self.items (c.loop-number.found.items ++ c.declared_by-2.result.now)
    (before ++ aliases_in listed block root) c.loop-number.found.items c.extend_from_slice-2.ensures.items
    (ap (λ items. items ++ c.declared_by-2.result.now) (c.loop-number.invariant ∙ ap (λ blocks. before ++ flat_map own blocks) around)
    ∙ ap (λ more. (before ++ flat_map own seen.heading.around.items) ++ more) c.declared_by-2.ensures
    ∙ append_assoc before (flat_map own seen.heading.around.items) (own block)
    ∙ ap (λ more. before ++ more) (seen-aliases listed tree block root seen (sym (ap (λ (l : Listed). l.tree) c.self.view_is)) at))

pub returns-in_default : goal.returns-in_default
returns-in_default c =
    let listed = c.args.self.now in
    let tree = c.self.inside.tree.now in
    let block = c.args.block in
    let before = c.args.found.now.items in
    let blocks = c.deref.result.now in
    let found = c.in_default.ensures.lookup in
    let none : slice_get tree.blocks.items block ≡ None =
    ap (λ all. slice_get all block) (sym c.deref.ensures.value) ∙ slice_get_past blocks block found.3 in
    sym (append-nil before)
    ∙ ap (λ more. before ++ more) (sym (no-block listed tree block c.args.root (sym (ap (λ (l : Listed). l.tree) c.self.view_is)) none))
