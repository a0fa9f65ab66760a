use Rattle.std.proofs.Common.{option_map, reverse, sym, ◌∙◌, ap, ap₂}
use Rattle.interpreter.specs.declared.interpreter.Run.{Run}
use Rattle.meaning.specs.declared.outcome.Ending.TheVariants as ending
use Rattle.interpreter_state.specs.Views.{place_seen}
use Rattle.interpreter.specs.Pending.{below_top, keeping, operands_of, pending_of, top_place}
use Rattle.interpreter.proofs.Resuming.{goes_on_below}
use Rattle.interpreter.proofs.interpreter.Run.store.Goals as goal

pub returns-clause-does : goal.returns-clause-does
returns-clause-does c = λ env outer s agrees.
    let old = c.args.self.now in
    let popped = c.popped_place-place.new.self in
    let top = c.popped-value.ensures in
    let under = c.popped_place-place.ensures in
    let fits = c.args.fits in
    let wrong = ending.Error fits.site in
    let left = below_top (below_top (operands_of old)) in
    goes_on_below old popped c.keep_within.new.self env outer s
    (λ env. keeping (option_map place_seen c.popped_place-place.result) c.popped-value.result fits.range wrong) left c.keep_within.result _
    (under.same ∙ ap (λ (r : Run). record r { operands = popped.operands }) top.same) (under.below ∙ ap below_top top.below)
    (ap₂ (λ p v. keeping p v fits.range wrong (pending_of env outer (reverse old.pending.items)) left s)
    (sym (under.top ∙ ap top_place top.below)) (sym top.top))
    agrees c.keep_within.ensures.does
