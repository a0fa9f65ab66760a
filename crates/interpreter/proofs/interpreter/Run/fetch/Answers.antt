use Rattle.std.proofs.Common.{ap, ◌∙◌}
use Rattle.meaning.specs.Store.{held}
use Rattle.meaning.specs.Effect.{fetch}
use Rattle.meaning.specs.Meaning.{OfValue}
use Rattle.interpreter.specs.Pending.{below_top, operands_of, top_place}
use Rattle.interpreter.proofs.Resuming.{agreed_below, fetched_there, goes_on_by}
use Rattle.interpreter.proofs.interpreter.Run.fetch.Goals as goal

pub returns-clause-does : goal.returns-clause-does
returns-clause-does c = λ env outer s agrees.
    let old = c.args.self.now in
    let taken = c.popped_place-place.new.self in
    let popped = c.popped_place-place.ensures in
    let place = top_place (operands_of old) in
    let agreed = agreed_below old taken env outer s popped.same agrees in
    let holds = c.found-value.ensures s.store agreed.store ∙ ap (held s.store) popped.top in
    goes_on_by OfValue old taken c.go_on.new.self env outer s (fetch place c.args.defined) c.ok_or.result (below_top (operands_of old)) c.go_on.result
    popped.same popped.below (fetched_there c.args.defined s place c.found-value.result c.ok_or.result holds c.ok_or.ensures.value)
    agrees c.go_on.ensures.does
