use Rattle.std.proofs.Common.{List, ◌∷◌, Option, option_map, reverse, sym, ◌∙◌, ap}
use Rattle.typed_tree.specs.declared.tree.Selector.{Selector}
use Rattle.interpreter_state.specs.declared.work.Work.TheVariants as work
use Rattle.meaning.specs.Store.{Place}
use Rattle.meaning.specs.Meaning.{selected, values_of}
use Rattle.meaning.specs.Meaning.{OfPlace}
use Rattle.interpreter_state.specs.Views.{place_seen}
use Rattle.interpreter.specs.Pending.{giving_place, operands_of, pending_of, resumed}
use Rattle.typed_tree.specs.Accesses.{origin_of}
use Rattle.interpreter.proofs.Activating.{starts_there}
use Rattle.interpreter.proofs.Resuming.{goes_on_below}
use Rattle.interpreter.proofs.Unrolling.{selecting-on}
use Rattle.interpreter.proofs.interpreter.Run.access.Goals as goal

pub returns-clause-does : goal.returns-clause-does
returns-clause-does c = λ env outer s agrees.
    let old = c.args.self.now in
    let access = c.args.access.now in
    let indexes = values_of c.args.indexes.now in
    let later = c.args.later in
    let works = pending_of env outer (reverse old.pending.items) in
    let place = option_map place_seen c.in_ok-place.place in
    goes_on_below old c.push.new.self c.plan.new.self env outer s
    (λ env next. resumed env (work.Select c.deref.result c.args.indexes) (resumed env later next)) (OfPlace place ∷ operands_of old) c.plan.result _
    c.push.ensures.same c.in_ok-push.ensures.top
    (ap (λ (p : Option Place). giving_place (selected access.selectors.items indexes env p) (resumed env later works) (operands_of old) s)
    (starts_there env outer old s (origin_of access) agrees ∙ sym c.in_ok-place.ensures)
    ∙ ap (λ (l : List Selector). giving_place (selected l indexes env place) (resumed env later works) (operands_of old) s) (sym c.deref.ensures.value)
    ∙ sym (selecting-on env c.deref.result.now c.args.indexes.now place (resumed env later works) (operands_of old) s))
    agrees c.plan.ensures.does
