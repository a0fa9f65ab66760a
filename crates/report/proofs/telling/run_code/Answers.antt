use Rattle.std.proofs.Common.{List, refl}
use Rattle.outside.specs.Acts.{Act, RanCode}
use Rattle.report.specs.Courses.{budget, run_status, runs, tells_stop}
use Rattle.stack_machine.specs.Does.{cell_count}
use Rattle.report.proofs.CourseLemmas.{goes-on}
use Rattle.report.proofs.telling.run_code.Goals as goal

pub returns : goal.returns
returns g c =
    let ran = c.run-stop.ensures in
    let cells = cell_count c.args.ready.now.machine in
    let stop = c.run-stop.result in
    goes-on (runs c.args.code.now cells c.args.told c.args.report) (tells_stop c.args.told stop (run_status c.args.report stop))
    (RanCode c.args.code.now cells budget stop ran.0 ran.1) _ _ _ c.tell_stop.result ran.3 c.tell_stop.ensures
    (λ (rest : List Act) done. (stop, ran.0, ran.1, ran.2, rest, refl, done))
