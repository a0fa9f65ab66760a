use Rattle.std.proofs.Common.{Some, Option, option_map, sym, subst}
use Rattle.interpreter_state.specs.declared.store.Place.{Place as KeptPlace}
use Rattle.meaning.specs.Store.{kept}
use Rattle.interpreter_state.specs.Views.{place_seen}
use Rattle.interpreter.specs.Pending.{StoreAgrees}
use Rattle.interpreter.proofs.Places.{agrees_behind}
use Rattle.interpreter.proofs.interpreter.Run.keep.Goals as goal

pub returns-in_ok-insert-clause-agrees : goal.returns-in_ok-insert-clause-agrees
returns-in_ok-insert-clause-agrees c = λ s agrees.
    let old = c.args.self.now.store in
    let new = c.insert.new.self in
    let place = c.in-Some.place in
    subst (λ (o : Option KeptPlace). StoreAgrees new (kept s (option_map place_seen o) c.args.value)) (sym c.in-Some.is)
    (agrees_behind old new place (Some c.args.value) s c.in_ok-insert.ensures.updates.0 agrees)
