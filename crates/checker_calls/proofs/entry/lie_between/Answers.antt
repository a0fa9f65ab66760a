use Rattle.std.proofs.Common.{refl, true}
use Rattle.std.specs.List.{list_all, list_any}
use Rattle.checker_trail.specs.Trail.{seen}
use Rattle.checker_calls.specs.Entry.{is_borne_between, is_empty_between}
use Rattle.checker_calls.specs.View.{said_bearers, said_limits}
use Rattle.checker_calls.proofs.Within.{or-so, passed-so, reached-all}
use Rattle.checker_calls.proofs.entry.lie_between.Goals as goal

pub returns-in-Passed : goal.returns-in-Passed
returns-in-Passed c =
    let state = seen c.args.state.now in
    let limits = said_limits c.args.limits.now in
    let test = is_borne_between c.args.state.now.table.now state limits in
    or-so c.have_empty.result (list_any (is_empty_between state) limits) true (list_all test (said_bearers c.args.bearers.now))
    c.have_empty.ensures c.if-have_empty.false (passed-so test c.args.bearers.now c.in-Passed.field-0 c.in-Passed.is (λ range. refl))

pub returns-in-Reached : goal.returns-in-Reached
returns-in-Reached c =
    let state = seen c.args.state.now in
    let limits = said_limits c.args.limits.now in
    let test = is_borne_between c.args.state.now.table.now state limits in
    or-so c.have_empty.result (list_any (is_empty_between state) limits) c.rows_between.result
    (list_all test (said_bearers c.args.bearers.now)) c.have_empty.ensures c.if-have_empty.false
    (reached-all test c.args.bearers.now c.in-Reached.rows c.in-Reached.reach c.rows_between.result c.in-Reached.is c.rows_between.ensures)
