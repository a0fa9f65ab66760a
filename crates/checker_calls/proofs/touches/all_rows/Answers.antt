use Rattle.std.proofs.Common.{◌∙◌, sym, ap}
use Rattle.checker_calls.specs.ExitView.{met, range_at}
use Rattle.checker_calls.proofs.KnownRanges.{rows-kept, rows-set}
use Rattle.checker_calls.proofs.touches.all_rows.Goals.{then-is_entire+in_ok-set, else-is_entire}
use Rattle.checker_calls.proofs.touches.all_rows.Goals as goal

pub loop-change-preserved : goal.loop-change-preserved
loop-change-preserved c =
    let changes = c.args.changes.now in
    let i = c.loop-change.change-index in
    let change = c.change-item.result in
    let inside = c.loop-change-test.true in
    elim c.if-is_entire.branch [
      | then-is_entire+in_ok-set w ↦ λ row.
          ap (λ rows. range_at rows row) w.rows-is
          ∙ rows-set changes i change w.met-all.result c.loop-change.rows w.set.new.self inside c.change-item.is (sym c.is_entire.ensures ∙ w.if-is_entire.true)
          c.loop-change.invariant (w.met-all.ensures ∙ ap (λ known. met known change.range) w.at.ensures) w.in_ok-set.ensures row
      | else-is_entire w ↦ λ row.
          ap (λ rows. range_at rows row) w.rows-is
          ∙ rows-kept changes i change c.loop-change.rows inside c.change-item.is (sym c.is_entire.ensures ∙ w.if-is_entire.false) c.loop-change.invariant row
    ]
