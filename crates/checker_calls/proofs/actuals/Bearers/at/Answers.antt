use Rattle.std.proofs.Common.{◌≡◌, ◌∙◌, ap₂, arith, sym, ◌+◌, ◌-◌, drop, min, take, ℕ}
use Rattle.checker_calls.specs.View.{said_bearers}
use Rattle.checker_calls.proofs.Spans.{bearers-cut}
use Rattle.checker_calls.proofs.actuals.Bearers.at.Goals as goal

pub returns : goal.returns
returns c =
    let wanted = c.args.wanted in
    let all = c.args.all in
    let bearers = said_bearers c.args.self.now in
    let first : c.saturating_sub-first.result ≡ wanted.first - all.first = omega (arith, c.saturating_sub-first.ensures) in
    let end : c.min.result ≡ min (wanted.first + wanted.count - all.first) all.count =
    omega (arith, c.min.ensures, c.saturating_sub-end.ensures, c.end.ensures) in
    c.between.ensures ∙ ap₂ (λ (k n : ℕ). drop k (take n bearers)) first end
    ∙ sym (bearers-cut wanted.first wanted.count all.first all.count bearers)
