use Rattle.domain.specs.Interval.{is_included}
use Rattle.checker_trail.specs.Trail.{seen}
use Rattle.checker_calls.specs.Actuals.{Bearer}
use Rattle.checker_calls.specs.Entry.{range_borne}
use Rattle.checker_calls.proofs.Within.{passed-all, reached-all}
use Rattle.checker_calls.proofs.entry.are_within.Goals as goal

pub returns-in-Passed : goal.returns-in-Passed
returns-in-Passed c =
    passed-all (λ (bearer : Bearer). is_included (range_borne (seen c.args.state.now) bearer) c.args.range) c.args.bearers.now c.in-Passed.ranges
    c.ranges_within.result c.in-Passed.is c.ranges_within.ensures

pub returns-in-Reached : goal.returns-in-Reached
returns-in-Reached c =
    reached-all (λ (bearer : Bearer). is_included (range_borne (seen c.args.state.now) bearer) c.args.range) c.args.bearers.now c.in-Reached.rows
    c.in-Reached.reach c.rows_within.result c.in-Reached.is c.rows_within.ensures
