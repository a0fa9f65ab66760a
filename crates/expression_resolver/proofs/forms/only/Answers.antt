use Rattle.std.proofs.Common.{refl, length, ◌≡◌, arith}
use Rattle.expression_resolver.proofs.Only.{one_alone}
use Rattle.expression_resolver.proofs.forms.only.Goals as goal

-- the actual is alone
pub returns-clause-one : goal.returns-clause-one
returns-clause-one c =
    let one : length c.args.actuals.now ≡ 1 = omega (arith, c.in-len1.len_at_least, c.in-len1.len_below) in
    (c.actual-item.result, one_alone c.args.actuals.now c.actual-item.result one c.actual-item.is, refl)
