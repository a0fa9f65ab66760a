use Rattle.std.proofs.Common.{subst}
use Rattle.domain.specs.Interval.{Interval}
use Rattle.checker_expressions.specs.Walk.{within}
use Rattle.cert_checker.specs.View.{WalkGoes}
use Rattle.cert_checker.proofs.Steps.{lifted}
use Rattle.cert_checker.proofs.walk.Walk.tested_end.Goals as goal

pub returns : goal.returns
returns c =
    let old = c.args.self.now in
    subst (λ (limits : Interval). WalkGoes (within limits c.args.fits.site c.args.range) old (record old { flow = c.within.new.self }) c.within.result)
    c.limits.ensures (lifted c.within.ensures)
