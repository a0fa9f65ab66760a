use Rattle.std.proofs.Common.{rules, ◌≡◌, ℤ, Option, option_map, reverse, sym, ◌∙◌, ap, arith}
use Rattle.std.proofs.lemmas.Int.{ints}
use mir.Syntax.{w32}
use mir.Val.{SFits, to_z, of_z}
use Rattle.text_input.specs.declared.InputFault.TheVariants as fault
use Rattle.text_input.specs.Input.{Reads}
use Rattle.interpreter.specs.declared.interpreter.Run.{Run}
use Rattle.meaning.specs.declared.outcome.Ending.TheVariants as ending
use Rattle.meaning.specs.declared.value.Value.TheVariants.{Number}
use Rattle.meaning.specs.Effect.{State}
use Rattle.meaning.specs.Store.{Place}
use Rattle.interpreter_state.specs.Views.{failed, left_in, place_seen, read_by}
use Rattle.interpreter.specs.Pending.{below_top, keeping, operands_of, pending_of, top_place}
use Rattle.interpreter.proofs.Inputs.{agrees_behind, reads_on, reads_ends}
use Rattle.interpreter.proofs.Resuming.{agreed_below, goes_on_from, stops_below}
use Rattle.interpreter.proofs.interpreter.Run.read.Goals as goal

pub returns-in-Ok-clause-does : goal.returns-in-Ok-clause-does
returns-in-Ok-clause-does c = λ env outer s agrees.
    let old = c.args.self.now in
    let popped = c.popped_place-place.new.self in
    let top = c.popped_place-place.ensures in
    let one = c.args.variable.now in
    let place = option_map place_seen c.popped_place-place.result in
    let n = c.in-Ok.number in
    let rest = c.in-Ok.rest in
    let wrong = ending.Input one.point fault.OutsideType in
    let left = below_top (operands_of old) in
    let next = pending_of env outer (reverse old.pending.items) in
    let there : State = record s { input = left_in rest } in
    let fits : SFits w32 n = search rules in
    let same : to_z w32 (of_z w32 n) ≡ n = omega (arith, ints, fits) in
    let agreed = agreed_below old popped env outer s top.same agrees in
    let reads : read_by one.reads s.input ≡ Reads n (left_in rest) = ap (read_by one.reads) (sym agreed.input) ∙ c.in-Ok.ensures in
    goes_on_from old (record popped { input = rest }) c.keep_within.new.self env outer there
    (λ env. keeping place (Number c.new.result) one.range wrong) left c.keep_within.result _
    (ap (λ (r : Run). r.pending.items) top.same) top.below
    (reads_on one (top_place (operands_of old)) next left s n (left_in rest) reads
    ∙ ap (λ (p : Option Place). keeping p (Number n) one.range wrong next left there) (sym top.top)
    ∙ ap (λ (m : ℤ). keeping place (Number m) one.range wrong next left there) (sym (c.new.ensures ∙ same)))
    (agrees_behind env outer popped s rest agreed) c.keep_within.ensures.does

pub returns-in-Err-clause-does : goal.returns-in-Err-clause-does
returns-in-Err-clause-does c = λ env outer s agrees.
    let old = c.args.self.now in
    let popped = c.popped_place-place.new.self in
    let same = c.popped_place-place.ensures.same in
    let one = c.args.variable.now in
    let why = c.in-Err.fault in
    let agreed = agreed_below old popped env outer s same agrees in
    let reads : read_by one.reads s.input ≡ failed why = ap (read_by one.reads) (sym agreed.input) ∙ c.in-Err.ensures in
    stops_below old popped env outer s _ (ending.Input one.point why) same
    (reads_ends one (top_place (operands_of old)) (pending_of env outer (reverse old.pending.items)) (below_top (operands_of old)) s why reads) agrees
