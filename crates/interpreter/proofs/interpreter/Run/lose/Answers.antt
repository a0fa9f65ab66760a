use Rattle.std.proofs.Common.{None, Option, option_map, sym, subst}
use Rattle.interpreter_state.specs.declared.store.Place.{Place as KeptPlace}
use Rattle.meaning.specs.Store.{forgotten}
use Rattle.interpreter_state.specs.Views.{place_seen}
use Rattle.interpreter.specs.Pending.{StoreAgrees}
use Rattle.interpreter.proofs.Places.{agrees_behind}
use Rattle.interpreter.proofs.interpreter.Run.lose.Goals as goal

pub returns-in-Some-clause-agrees : goal.returns-in-Some-clause-agrees
returns-in-Some-clause-agrees c = λ s agrees.
    let old = c.args.self.now.store in
    let new = c.remove.new.self in
    let place = c.in-Some.place in
    subst (λ (o : Option KeptPlace). StoreAgrees new (forgotten s (option_map place_seen o))) (sym c.in-Some.is)
    (agrees_behind old new place None s c.remove.ensures.updates.0 agrees)
