use Rattle.std.proofs.Common.{◌∙◌, ap}
use Rattle.checker_calls.specs.ExitView.{added, joined_with, range_of_type}
use Rattle.checker_calls.proofs.KnownRanges.{types-kept, types-set}
use Rattle.checker_calls.proofs.touches.all_types.Goals.{in-Some+in_ok-set, in_default}
use Rattle.checker_calls.proofs.touches.all_types.Goals as goal

pub loop-change-preserved : goal.loop-change-preserved
loop-change-preserved c =
    let changes = c.args.changes.now in
    let i = c.loop-change.change-index in
    let change = c.change-item.result in
    let inside = c.loop-change-test.true in
    elim c.match-change.branch [
      | in-Some+in_ok-set w ↦ λ type_id range.
          ap (λ types. joined_with (range_of_type types type_id) range) w.types-is
          ∙ types-set changes i change w.in-Some.id w.added-all.result c.loop-change.types w.set.new.self inside c.change-item.is w.in-Some.is
          c.loop-change.invariant (w.added-all.ensures ∙ ap (λ known. added known change.range) w.at.ensures) w.in_ok-set.ensures type_id range
      | in_default w ↦ λ type_id range.
          ap (λ types. joined_with (range_of_type types type_id) range) w.types-is
          ∙ types-kept changes i change c.loop-change.types inside c.change-item.is w.in_default.is c.loop-change.invariant type_id range
    ]
