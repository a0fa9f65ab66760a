-- The aliases of what each loop changes, by the numbers of the loops.
use Rattle.std.proofs.Common.{arith, ◌≡◌, ◌∙◌, sym, ap, ℕ, List, [], ◌++◌, get_or, length}
use Rattle.std.proofs.lemmas.Bool.{cases_lt}
use Rattle.std.proofs.Common.{Option, Some, inl, inr}
use Rattle.std.specs.Prelude.{slice_get}
use Rattle.std.proofs.lemmas.List.{get_or_past}
use Rattle.std.proofs.lemmas.List.Concat.{flat_map-append}
use Rattle.std.proofs.lemmas.List.FromFn.{get_or-map-range_with_len, length-map-range_with_len}
use Rattle.std.proofs.lemmas.Option.{slice_get_past}
use Rattle.typed_tree.specs.declared.tree.Loop.{Loop}
use Rattle.typed_tree.specs.declared.tree.Tree.{Tree}
use Rattle.checker_loops.specs.Loops.{Claims, aliases_there, claims_at, controls_inside, controls_of}
use Rattle.checker_loops.specs.Pairs.{Listed, aliases_in, all_aliases_in}
use Rattle.checker_loops.specs.View.{all_loop_aliases, loop_aliases}

aliases_append : (listed : Listed) (block : ℕ) (roots more : List ℕ)
    → all_aliases_in listed block (roots ++ more) ≡ all_aliases_in listed block roots ++ all_aliases_in listed block more
aliases_append listed block roots more = flat_map-append (aliases_in listed block) roots more

-- those of a loop with a row
pub aliases-there : (listed : Listed) (tree : Tree) (number : ℕ) (row : Loop) (changes : List ℕ) → slice_get tree.loops.items number ≡ Some row
    → all_aliases_in listed row.block row.controls.items ++ all_aliases_in listed row.block changes
    ≡ aliases_there listed (controls_inside tree number ++ changes) (slice_get tree.loops.items number)
aliases-there listed tree number row changes is =
    sym (aliases_append listed row.block row.controls.items changes)
    ∙ ap (λ (found : Option Loop). aliases_there listed (controls_of found ++ changes) found) (sym is)

-- those of the loop of a number, which has none where there is no such loop
pub aliases-at : (tree : Tree) (listed : Listed) (claims : List Claims) (number : ℕ)
    → get_or (all_loop_aliases tree listed claims) number [] ≡ loop_aliases tree listed claims number
aliases-at tree listed claims number =
    let count = length tree.loops.items in
    elim (cases_lt number count) [
      | inl inside ↦ get_or-map-range_with_len (loop_aliases tree listed claims) 0 count number number [] inside (omega arith)
      | inr past ↦
          get_or_past (all_loop_aliases tree listed claims) number []
          (omega (arith, past, length-map-range_with_len (loop_aliases tree listed claims) 0 count))
          ∙ sym (ap (aliases_there listed (controls_inside tree number ++ (claims_at claims number).changes))
          (slice_get_past tree.loops.items number past))
    ]
