use Rattle.std.proofs.Common.{arith, ◌∙◌, sym, ap, subst, ◌<◌, ◌^◌, ℕ, List, Some, length}
use Rattle.std.specs.Option.{option_map}
use Rattle.std.specs.Prelude.{slice_get, slice_index_or}
use Rattle.typed_tree.specs.declared.tree.Tree.{Tree}
use Rattle.typed_tree.specs.declared.tree.Variable.{Variable}
use Rattle.checker_rows.specs.declared.part.Part.{Part}
use Rattle.checker_rows.specs.View.{end_of, variable_part}
use Rattle.checker_rows.proofs.Variables.{ends_kept, found_kept}
use Rattle.checker_rows.proofs.rows.Rows.variable.Goals as goal

pub returns-clause-part : goal.returns-clause-part
returns-clause-part c =
    let root = c.args.root in
    found_kept c.self.inside.tree.now c.self.inside.counts.items c.self.inside.firsts.items c.self.inside.rows.items c.self.invariant root
    (record { first = c.first_at.result; type_id = c.type_of.result })
    (c.first_at.ensures ∙ ap (λ (l : List ℕ). slice_index_or l root root) c.deref.ensures.value)
    (c.type_of.ensures ∙ ap (λ (l : List Variable). option_map (λ (v : Variable). v.type_id) (slice_get l root)) c.deref-2.ensures.value)
    ∙ ap (λ (t : Tree). variable_part t root) c.self.view_is

pub returns-clause-fits : goal.returns-clause-fits
returns-clause-fits c =
    let root = c.args.root in
    let few : length c.self.inside.rows.items < 2 ^ 64 = omega (arith, c.self.inside.rows.ok.0, c.self.inside.rows.ok.1, c.self.inside.rows.small) in
    let ends = ends_kept c.self.inside.tree.now c.self.inside.counts.items c.self.inside.firsts.items c.self.inside.rows.items c.self.invariant few root
    c.ranges.root.fits in
    subst (λ (part : Part). end_of c.args.self.now.types (Some part) < 2 ^ 64) (sym (returns-clause-part c))
    (subst (λ (t : Tree). end_of t.types (Some (variable_part t root)) < 2 ^ 64) c.self.view_is ends)
