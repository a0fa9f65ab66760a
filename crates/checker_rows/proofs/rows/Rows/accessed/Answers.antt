use Rattle.std.proofs.Common.{◌≡◌, ◌∙◌, sym, ap, refl, ℕ, ◌+◌, ◌++◌, map, drop, List, Some}
use Rattle.std.proofs.lemmas.List.{drop_all, drop_more}
use Rattle.std.specs.Prelude.{pos, slice_index_or}
use Rattle.types.specs.Forms.{Form}
use Rattle.typed_tree.specs.Accesses.{origin_by, origin_of, root_of, steps_of}
use Rattle.typed_tree.specs.declared.tree.Base.{Base}
use Rattle.typed_tree.specs.declared.tree.Base.TheVariants as base
use Rattle.typed_tree.specs.declared.tree.Selector.{Selector}
use Rattle.typed_tree.specs.declared.tree.Selector.TheVariants.{Element}
use Rattle.typed_tree.specs.declared.tree.Scalar.TheVariants as scalar
use Rattle.checker_rows.specs.Rows.{leaf_step, path_step}
use Rattle.checker_rows.specs.View.{variable_part}
use Rattle.checker_rows.proofs.Variables.{all_of_part, part_under, under_along, under_of, under_step}
use Rattle.checker_rows.proofs.rows.Rows.accessed.Goals as goal

-- where there is none
abbrev no_selector : Selector
no_selector = Element (record { site = 0; tests = scalar.Ordinal; range = record { first = pos 0; last = pos 0 } }) 0

-- each access begins in the variable of its root
root-is : (root : ℕ) (b : Base) → root ≡ root_of (origin_by root b)
root-is root base.Variable = refl
root-is root (base.Record slot steps) = refl

pub loop-selector-init : goal.loop-selector-init
loop-selector-init c =
    let tree = c.args.self.now in
    let access = c.args.access.now in
    let own = map leaf_step access.selectors.items in
    let before = map path_step (steps_of (origin_of access)) in
    record {
      fits = c.begun-part.ensures.fits;
      same =
          ap (part_under tree.types own) c.begun-part.ensures.part ∙ sym (under_along tree.types before own (Some (variable_part tree access.root)))
          ∙ ap (λ (root : ℕ). part_under tree.types (before ++ own) (Some (variable_part tree root))) (root-is access.root access.base)
          ∙ sym (under_of tree (root_of (origin_of access)) (before ++ own));
    }

pub loop-selector-preserved : goal.loop-selector-preserved
loop-selector-preserved c =
    let types : List Form = c.args.self.now.types in
    let n = c.loop-selector.selector-index in
    let items : List Selector = c.deref-selector-items.result.now in
    let left = map leaf_step (drop (n + 1) items) in
    let item = slice_index_or items n no_selector in
    record {
      fits = c.selected-part.ensures.fits;
      same =
          ap (λ (l : List Selector). part_under types (map leaf_step (drop (n + 1) l)) c.selected-part.result) (sym c.deref-selector-items.ensures.value)
          ∙ ap (part_under types left) c.selected-part.ensures.part ∙ sym (under_step types c.loop-selector.part (leaf_step item) left)
          ∙ ap (λ l. part_under types (map leaf_step l) c.loop-selector.part) (sym (drop_more items n no_selector c.loop-selector-test.true))
          ∙ ap (λ (l : List Selector). part_under types (map leaf_step (drop n l)) c.loop-selector.part) c.deref-selector-items.ensures.value
          ∙ c.loop-selector.invariant.same;
    }

pub returns : goal.returns
returns c =
    let types : List Form = c.args.self.now.types in
    let part = c.loop-selector.part in
    let n = c.loop-selector.selector-index in
    c.span.ensures ∙ sym (all_of_part types part)
    ∙ ap (λ l. part_under types (map leaf_step l) part) (sym (drop_all n c.deref-selector-items.result.now c.loop-selector-test.false))
    ∙ ap (λ (l : List Selector). part_under types (map leaf_step (drop n l)) part) c.deref-selector-items.ensures.value
    ∙ c.loop-selector.invariant.same
