use Rattle.cert_checker.proofs.LoopsEntered.{head-reached}
use Rattle.cert_checker.proofs.walk.Walk.enter_loop.Goals as goal

pub returns-in-Ok : goal.returns-in-Ok
returns-in-Ok c =
    head-reached c.args.number c.args.place c.args.control c.round-round.result c.push.new.self c.is_given-given.result c.round-round.ensures
    c.is_given-given.ensures c.ask.ensures c.head.ensures c.in-Ok.ensures.items
