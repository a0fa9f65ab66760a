use Rattle.std.proofs.Common.{◌∙◌, ◌≡◌, ◌∷◌, ◌++◌, [], ap, sym, ℕ}
use Rattle.std.specs.Global.{Vec}
use Rattle.checker_loops.specs.View.{kept_row, row_at}
use Rattle.checker_loops.proofs.ByBlock.{has-at}
use Rattle.checker_loops.proofs.pairs.put_at.Goals.{in-None, in-Some}
use Rattle.checker_loops.proofs.pairs.put_at.Goals as goal

pub returns : goal.returns
returns c =
    let old = c.args.table.now in
    let key = c.args.key in
    let row = c.match-remove.row in
    let was : row.items ≡ row_at old key.0 key.1 =
    elim c.match-remove.branch [
      | in-None w ↦ ap (λ (v : Vec ℕ). v.items) w.row-is ∙ w.new-row.ensures.items ∙ ap kept_row (sym w.in-None.is ∙ c.remove.ensures.value)
      | in-Some w ↦ ap (λ (v : Vec ℕ). v.items) w.row-is ∙ ap kept_row (sym w.in-Some.is ∙ c.remove.ensures.value)
    ] in
    has-at old c.remove.new.self c.insert.new.self key c.args.other c.push.new.self c.remove.ensures.updates.0 c.in_ok-insert.ensures.updates.0
    (c.in_ok-push.ensures.items ∙ ap (λ items. items ++ c.args.other ∷ []) was)
