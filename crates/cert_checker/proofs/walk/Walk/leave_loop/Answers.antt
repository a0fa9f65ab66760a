use Rattle.std.proofs.Common.{arith, ◌≡◌, ◌∙◌, ◌-◌, ap, length, take, vec_len}
use Rattle.cert_checker.proofs.LoopsEntered.{outside-reached}
use Rattle.cert_checker.proofs.walk.Walk.leave_loop.Goals as goal

pub returns : goal.returns
returns c =
    let before = c.ask.new.self.grounds.rounds in
    let count : vec_len before ≡ length before.items = omega (arith, before.ok.0) in
    outside-reached c.args.number c.args.place c.round.result c.pop.new.self c.is_given-given.result c.round.ensures
    c.is_given-given.ensures c.ask.ensures (c.pop.ensures.rest ∙ ap (λ n. take (n - 1) before.items) count)
