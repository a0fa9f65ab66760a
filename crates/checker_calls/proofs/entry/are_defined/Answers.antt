use Rattle.std.proofs.Common.{refl}
use Rattle.checker_trail.specs.Trail.{seen}
use Rattle.checker_calls.specs.Entry.{is_defined_borne}
use Rattle.checker_calls.proofs.Within.{passed-so, reached-all}
use Rattle.checker_calls.proofs.entry.are_defined.Goals as goal

pub returns-in-Passed : goal.returns-in-Passed
returns-in-Passed c =
    passed-so (is_defined_borne c.args.state.now.table.now (seen c.args.state.now)) c.args.bearers.now c.in-Passed.field-0 c.in-Passed.is
    (λ range. refl)

pub returns-in-Reached : goal.returns-in-Reached
returns-in-Reached c =
    reached-all (is_defined_borne c.args.state.now.table.now (seen c.args.state.now)) c.args.bearers.now c.in-Reached.rows c.in-Reached.reach
    c.rows_defined.result c.in-Reached.is c.rows_defined.ensures
