-- What the checker did over the bounds of a for statement, from what it did over each of them.
use Rattle.std.proofs.Common.{◌≡◌, refl, ap₂, None}
use Rattle.domain.specs.Interval.{Interval}
use Rattle.checker_rows.specs.Limits.{limits_of}
use Rattle.checker_trail.specs.Trail.{seen}
use Rattle.checker_loops.specs.Ways.{Way, entered, met, with_values}
use Rattle.checker_expressions.specs.View.{state_of}
use Rattle.checker_expressions.specs.Walk.{Walking, ◌>>=◌, changed_by, give, within}
use Rattle.cert_checker.specs.declared.walk.Walk.{Walk}
use Rattle.cert_checker.specs.View.{WalkGoes, context_of}
use Rattle.cert_checker.specs.Walk.{assign, begin_way, tested_way}
use Rattle.cert_checker.proofs.Steps.{goes-give, goes-here, goes-then, goes-valued}

-- the tests of both bounds, by what is known where there are values
pub way-tested : (way told : Way) (first_range last_range first last : Interval) {old mid new : Walk}
    → first_range ≡ met way.first.form (seen old.flow.state) way.first.values → last_range ≡ met way.last.form (seen old.flow.state) way.last.values
    → WalkGoes (within (limits_of way.first.fits.range) way.first.fits.site first_range) old mid first
    → WalkGoes (within (limits_of way.last.fits.range) way.last.fits.site last_range) mid new last → told ≡ with_values first last way
    → WalkGoes (tested_way way) old new told
way-tested way told first_range last_range first last {old = old} {new = new} first_is last_is one two told_is =
    let first_test : Interval → Walking Interval = λ range. within (limits_of way.first.fits.range) way.first.fits.site range in
    let last_test : Interval → Walking Interval = λ range. within (limits_of way.last.fits.range) way.last.fits.site range in
    let behind : Interval → Interval → Walking Way = λ range first. last_test range >>= λ last. give (with_values first last way) in
    goes-valued (tested_way way) told told_is
    (goes-here (first_test first_range >>= behind last_range) (tested_way way)
    (ap₂ (λ (one other : Interval). (first_test one >>= behind other) (context_of old) (state_of old.flow)) first_is last_is)
    (goes-then (first_test first_range) (behind last_range) one
    (goes-then (last_test last_range) (λ last. give (with_values first last way)) two (goes-give (with_values first last way) new))))

-- the control variable is the first bound, where a first turn may begin
pub way-begun : (way : Way) {old mid new : Walk} → WalkGoes (changed_by (entered way)) old mid tt
    → WalkGoes (assign way.control way.first.form None way.first.values) mid new tt → WalkGoes (begin_way way) old new tt
way-begun way one two =
    goes-here (changed_by (entered way) >>= λ _. assign way.control way.first.form None way.first.values) (begin_way way) refl
    (goes-then (changed_by (entered way)) (λ _. assign way.control way.first.form None way.first.values) one two)
