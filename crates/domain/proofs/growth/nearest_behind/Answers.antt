use Rattle.std.proofs.Common.{◌≡◌, ◌+ℤ◌, ◌*ℤ◌, w64, to_z, of_z, rules, ◌∙◌}
use Rattle.std.specs.Int.{saturate_signed}
use Rattle.domain.specs.Interval.{nearest_end}
use Rattle.domain.proofs.Growths.{nearest-saturated}
use Rattle.domain.proofs.growth.nearest_behind.Goals as goal

pub returns-clause-value : goal.returns-clause-value
returns-clause-value c =
    let begun = c.args.begun in
    let step = c.args.step in
    let most = c.args.most in
    let product : c.saturating_mul.result ≡ saturate_signed w64 (step *ℤ most) = search rules in
    let sum : c.saturating_add.result ≡ saturate_signed w64 (c.saturating_mul.result +ℤ begun) = search rules in
    let cut : to_z w64 (of_z w64 c.max.result) ≡ nearest_end c.saturating_add.result = search rules in
    cut ∙ nearest-saturated begun (step *ℤ most) c.saturating_mul.result c.saturating_add.result c.ranges.begun product sum
