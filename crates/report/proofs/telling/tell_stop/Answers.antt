use Rattle.std.proofs.Common.{Bool, sym, subst, ◌∙◌, append-nil}
use Rattle.report.specs.Courses.{CourseGoes, run_status, tells_stop}
use Rattle.report.proofs.CourseLemmas.{run_answer, told}
use Rattle.report_text.specs.Text.{stop_line}
use Rattle.report.proofs.telling.tell_stop.Goals as goal

pub returns : goal.returns
returns g c =
    let stop = c.args.stop.now in
    let status = run_status c.args.report stop in
    let answer = run_answer c.args.report stop _ _ c.stop_text-line.ensures.status c.run_status-2.ensures in
    let acts = g.O.Outside.acts in
    subst (λ (is_told : Bool). CourseGoes (acts c.args.outside.now) (acts c.tell.new.self) c.run_status-2.result (tells_stop is_told stop status))
    (sym c.if-not-told.false)
    (told _ _ _ (stop_line stop) _ status c.run_status-2.result c.tell.ensures
    (append-nil _ ∙ c.as_slice.ensures ∙ c.stop_text-line.ensures.line) answer)
