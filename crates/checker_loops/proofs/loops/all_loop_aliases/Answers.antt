use Rattle.std.proofs.Common.{arith, ◌∙◌, ◌∷◌, ◌++◌, [], ap, ap₂, sym, map, ℕ, List}
use Rattle.std.specs.Global.{Vec}
use Rattle.std.proofs.lemmas.List.{map-append}
use Rattle.std.proofs.lemmas.List.FromFn.{map-range_with_len_more}
use Rattle.checker_loops.specs.View.{loop_aliases, said_claims}
use Rattle.checker_loops.proofs.loops.all_loop_aliases.Goals as goal

pub loop-number-preserved : goal.loop-number-preserved
loop-number-preserved c =
    let number = c.loop-number.number in
    let aliases = loop_aliases c.args.tree.now c.args.pairs.now (map said_claims c.args.claims.now) in
    let items : Vec ℕ → List ℕ = λ (row : Vec ℕ). row.items in
    ap (map items) c.in_ok-push.ensures.items ∙ map-append items c.loop-number.found.items (c.in_ok-loop_aliases.field-0 ∷ [])
    ∙ ap₂ (λ all one. all ++ one ∷ []) c.loop-number.invariant c.in_ok-loop_aliases.ensures
    ∙ sym (map-range_with_len_more aliases 0 number number (omega arith))
