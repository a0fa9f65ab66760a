use Rattle.std.proofs.Common.{arith, ◌≡◌, ◌∙◌, sym, ap, subst, ◌+◌, ◌<◌, ◌≤◌, ◌++◌, ◌∷◌, [], length, map, take, List}
use Rattle.std.proofs.lemmas.List.{take_more}
use Rattle.std.proofs.lemmas.Option.{slice_get_past}
use Rattle.std.specs.Prelude.{flat_map, slice_index_or}
use Rattle.types.specs.Forms.{Form}
use Rattle.typed_tree.specs.declared.tree.Variable.{Variable}
use Rattle.typed_tree.specs.declared.tree.VariableKind.TheVariants.{Local}
use Rattle.checker_rows.specs.View.{first_under, firsts_from, own_ranges, variable_ranges}
use Rattle.checker_rows.proofs.Counted.{all_taken}
use Rattle.checker_rows.proofs.Variables.{firsts_more, ranges_are, ranges_more}
use Rattle.checker_rows.proofs.rows.Rows.of.Goals as goal

abbrev no_variable : Variable
no_variable = record { block = 0; type_id = record { index = 0 }; kind = Local }

pub loop-root-preserved : goal.loop-root-preserved
loop-root-preserved c =
    let types : List Form = c.args.tree.now.types in
    let all : List Variable = c.args.tree.now.variables.items in
    let n = c.loop-root.root in
    let so_far = c.loop-root.invariant in
    let rows = c.loop-root.rows.items in
    let same : c.deref-variable-items.result.now ≡ all = c.deref-variable-items.ensures.value in
    let item = slice_index_or all n no_variable in
    let within : n < length all = subst (λ (l : List Variable). n < length l) same c.loop-root-test.true in
    let more : take (n + 1) all ≡ take n all ++ item ∷ [] = take_more all n no_variable within in
    record {
      firsts =
          c.in_ok-push.ensures.items ∙ ap (λ l. l ++ c.in_ok-first.first ∷ []) so_far.firsts
          ∙ ap (λ k. firsts_from types 0 (length all) (take n all) ++ k ∷ [])
          (c.in_ok-first.ensures.first ∙ ap (λ (l : List Variable). first_under types n (length rows) (slice_index_or l n no_variable)) same)
          ∙ sym (firsts_more types all n item rows so_far.rows more (omega (arith, within)));
      rows =
          c.in_ok-first.ensures.added ∙ ap (λ (l : List Variable). rows ++ variable_ranges types (slice_index_or l n no_variable)) same
          ∙ sym (ranges_more types all n item rows so_far.rows more);
    }

pub invariant_of-result : goal.invariant_of-result
invariant_of-result c =
    let types : List Form = c.args.tree.now.types in
    let all : List Variable = c.args.tree.now.variables.items in
    let n = c.loop-root.root in
    let so_far = c.loop-root.invariant in
    let past : take n all ≡ all =
    all_taken all n
    (slice_get_past all n (subst (λ (l : List Variable). length l ≤ n) c.deref-variable-items.ensures.value c.loop-root-test.false)) in
    record {
      counts_are = c.in_ok-counts.ensures;
      firsts_are = so_far.firsts ∙ ap (firsts_from types 0 (length all)) past;
      rows_are =
          so_far.rows ∙ ap (λ l. map (own_ranges types) all ++ flat_map (variable_ranges types) l) past ∙ sym (ranges_are c.args.tree.now);
    }
