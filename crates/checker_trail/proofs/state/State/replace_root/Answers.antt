use Rattle.checker_trail.proofs.Turns.{replaced-moves}
use Rattle.checker_trail.proofs.state.State.replace_root.Goals as goal

pub returns : goal.returns
returns c = replaced-moves c.args.root c.in-Some.own c.args.own c.in-Some.is c.rebind.ensures c.order_anew.ensures
