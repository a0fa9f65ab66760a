use Rattle.std.proofs.Common.{arith, ◌≡◌, ◌∙◌, ◌+◌, ◌-◌, ap, sym, refl}
use Rattle.checker_trail.specs.Trail.{seen}
use Rattle.checker_expressions.specs.Walk.{all_joined, ranges_of}
use Rattle.checker_expressions.proofs.RowUses.{from-first, joined-cut, rows-past, rows_from}
use Rattle.checker_expressions.proofs.uses.joined_ranges.Goals as goal

pub loop-row-init : goal.loop-row-init
loop-row-init c =
    let span = c.args.span in
    record {
      after_first = omega (arith, c.end-row.ensures);
      joined =
          sym (ap (λ rows. all_joined (ranges_of (seen c.args.state.now) rows))
          (rows-past c.end-row.result (span.first + span.count) (omega (arith, c.end-row.ensures))));
    }

pub loop-row-preserved : goal.loop-row-preserved
loop-row-preserved c =
    let span = c.args.span in
    record {
      after_first = omega (arith, c.loop-row-test.true);
      joined =
          joined-cut (seen c.args.state.now) c.loop-row.row (c.loop-row.row - 1) (span.first + span.count) _ (omega (arith, c.loop-row-test.true))
          (omega (arith, c.loop-row-test.true, c.loop-row.auto.row, c.end-row.ensures))
          c.loop-row.invariant.joined c.row_range.ensures c.join-range.ensures.answer;
    }

pub returns : goal.returns
returns c =
    let span = c.args.span in
    let at_first : c.loop-row.row ≡ span.first = omega (arith, c.loop-row-test.false, c.loop-row.invariant.after_first) in
    c.loop-row.invariant.joined ∙ ap (λ row. all_joined (ranges_of (seen c.args.state.now) (rows_from row (span.first + span.count)))) at_first
    ∙ ap (λ rows. all_joined (ranges_of (seen c.args.state.now) rows)) (from-first span (span.first + span.count) refl)
