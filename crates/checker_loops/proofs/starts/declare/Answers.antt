use Rattle.std.proofs.Common.{◌∙◌, ◌∷◌, ◌++◌, [], ap, map, sym, List, ℕ}
use Rattle.std.specs.Prelude.{slice_set}
use Rattle.std.specs.Global.{Vec}
use Rattle.std.proofs.lemmas.List.{get_or-map, map-set}
use Rattle.checker_loops.proofs.starts.declare.Goals as goal

pub returns-in_ok-push : goal.returns-in_ok-push
returns-in_ok-push c =
    let rows = c.args.rows.now.items in
    let block = c.args.block in
    let items : Vec ℕ → List ℕ = λ (row : Vec ℕ). row.items in
    map-set items rows block c.push.new.self
    ∙ ap (slice_set (map items rows) block)
    (c.in_ok-push.ensures.items
    ∙ ap (λ found. found ++ c.args.root ∷ [])
    (ap items c.in-Some.ensures.value ∙ sym (get_or-map items rows block c.in-Some.found.now [] c.requires)))
