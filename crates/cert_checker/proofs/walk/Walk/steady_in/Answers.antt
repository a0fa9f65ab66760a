use Rattle.std.proofs.Common.{ap₂, ◌∙◌, Option, ℕ}
use Rattle.checker_loops.specs.Loops.{Round, touched, with_own}
use Rattle.checker_ways.specs.View.{said_way}
use Rattle.checker_loops.specs.Ways.{steady}
use Rattle.cert_checker.proofs.walk.Walk.steady_in.Goals as goal

pub returns : goal.returns
returns c = λ ready.
    let loop = c.round.ensures ready in
    c.steady.ensures
    ∙ ap₂ (λ (own : Option ℕ) (round : Round). steady (touched (with_own own round)) (said_way c.args.way.now)) loop.own_is loop.loop_is
