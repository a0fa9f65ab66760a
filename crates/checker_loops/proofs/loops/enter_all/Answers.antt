use Rattle.std.proofs.Common.{map, take, [], ◌∷◌}
use Rattle.certificate.specs.Contents.{loop_of}
use Rattle.checker_loops.specs.Loops.{found_among}
use Rattle.checker_loops.proofs.Claimed.{found-then, loops-more}
use Rattle.checker_loops.proofs.loops.enter_all.Goals as goal

pub loop-claims-preserved : goal.loop-claims-preserved
loop-claims-preserved c =
    let loops = c.args.loops.now in
    let i = c.loop-claims.claims-index in
    let one = c.claims-item.result in
    found-then c.args.found.now c.loop-claims.found c.enter.new.found (λ number. found_among number (map loop_of (take i loops)))
    (λ number. found_among number (loop_of one ∷ [])) _ c.loop-claims.invariant c.enter.ensures
    (λ number. loops-more number loops i one c.loop-claims-test.true c.claims-item.is)
