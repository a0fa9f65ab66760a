use Rattle.std.proofs.Common.{ℕ, Ok, Err, true, subst}
use Rattle.report.specs.Courses.{runs}
use Rattle.report.proofs.pint.by_text.Goals as goal

pub returns-in-Ok : goal.returns-in-Ok
returns-in-Ok g c =
    let done = c.run_code.ensures in
    let code = c.in-Ok.code in
    let made = c.in-Ok.ensures in
    (done.0, done.1, (Ok code, (made.0, subst (λ (n : ℕ). runs code n true 0 done.0 c.run_code.result) made.1.cells_are done.2)))

pub returns-in-Err : goal.returns-in-Err
returns-in-Err g c =
    let done = c.refuse.ensures in (done.0, done.1, (Err c.in-Err.fault, (c.in-Err.ensures, done.2)))
