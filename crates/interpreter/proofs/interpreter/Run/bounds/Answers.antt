use mir.Syntax.{w32}
use mir.Val.{SFits}
use Rattle.std.proofs.Common.{◌≡◌, ℕ, ℤ, List, rules, Option, Some, None, Result, Ok, Err, reverse, sym, ◌∙◌, ap, ap₂, subst}
use Rattle.typed_tree.specs.declared.tree.ForHead.{ForHead}
use Rattle.interpreter.specs.declared.interpreter.Run.{Run}
use Rattle.meaning.specs.Effect.{Reply, and_then, number_of}
use Rattle.meaning.specs.Meaning.{Argument}
use Rattle.interpreter_state.specs.Answers.{bounds_tested}
use Rattle.interpreter.specs.Pending.{RunDoes, counting_on, forgetting, pending_of, top_of, below_top, operands_of}
use Rattle.interpreter.specs.Size.{Adds}
use Rattle.interpreter.proofs.Counts.{bounds-leave, looped-counting}
use Rattle.interpreter.proofs.Resuming.{goes_on_below, passed, stops_below}
use Rattle.interpreter.proofs.Unrolling.{does-bounds}
use Rattle.interpreter.proofs.interpreter.Run.bounds.Goals as goal

-- the numbers that were taken are the two topmost
both_taken : (head : ForHead) (operands rest : List Argument) (first last : ℤ) → last ≡ number_of (top_of operands) → rest ≡ below_top operands →
    first ≡ number_of (top_of rest) → (result : Result (Option (ℤ × ℤ)) ℕ) → bounds_tested head first last ≡ result →
    bounds_tested head (number_of (top_of (below_top operands))) (number_of (top_of operands)) ≡ result
both_taken head operands rest first last one left other result is =
    ap₂ (bounds_tested head) (sym (other ∙ ap (λ (l : List Argument). number_of (top_of l)) left)) (sym one) ∙ is

pub returns-in-Ok-Some-clause-fewer : goal.returns-in-Ok-Some-clause-fewer
returns-in-Ok-Some-clause-fewer c =
    let taken = c.popped_number-first.new.self in
    let same = c.popped_number-first.ensures.same
    ∙ ap (λ (r : Run). record r { operands = taken.operands }) c.popped_number-last.ensures.same in
    subst (λ (r : Run). Adds 0 r c.for_round.result c.for_round.new.self) same c.for_round.ensures.size

pub returns-in-Ok-Some-clause-does : goal.returns-in-Ok-Some-clause-does
returns-in-Ok-Some-clause-does c = λ env outer s agrees.
    let old = c.args.self.now in
    let taken = c.popped_number-first.new.self in
    let head = c.args.head.now in
    let body = c.args.body.now in
    let value = c.in-Ok-Some.value in
    let final = c.in-Ok-Some.last in
    let value_fits : SFits w32 value = search rules in
    let final_fits : SFits w32 final = search rules in
    let does : ℤ → ℤ → Type 0 = λ n m. RunDoes (λ env. counting_on env head n n m body) taken c.for_round.result c.for_round.new.self in
    let operands = operands_of old in
    let below = below_top (below_top operands) in
    let last = c.popped_number-last.ensures in
    let first = c.popped_number-first.ensures in
    let same = first.same ∙ ap (λ (r : Run). record r { operands = taken.operands }) last.same in
    let tested = both_taken head operands _ _ _ last.top last.below first.top (Ok (Some (value, final)))
    (sym c.tested_bounds.ensures ∙ c.in-Ok-Some.is ∙ ap Ok c.in-Ok-Some.field-0-is) in
    goes_on_below old taken c.for_round.new.self env outer s (λ env. counting_on env head value value final body) below c.for_round.result _
    same (first.below ∙ ap below_top last.below)
    (does-bounds env outer head body (reverse old.pending.items) operands s (Ok (Some (value, final))) tested
    ∙ ap (λ (r : Reply (Unit {0})). and_then r (λ _. forgetting (env.visible.variables head.control) (pending_of env outer (reverse old.pending.items)) below))
    (looped-counting env head value final body s (bounds-leave head _ _ value final tested)))
    agrees (passed does value final value_fits final_fits c.for_round.ensures.does)

pub returns-in-Ok-None-clause-does : goal.returns-in-Ok-None-clause-does
returns-in-Ok-None-clause-does c = λ env outer s agrees.
    let old = c.args.self.now in
    let taken = c.popped_number-first.new.self in
    let head = c.args.head.now in
    let operands = operands_of old in
    let last = c.popped_number-last.ensures in
    let first = c.popped_number-first.ensures in
    let same = first.same ∙ ap (λ (r : Run). record r { operands = taken.operands }) last.same in
    let tested = both_taken head operands _ _ _ last.top last.below first.top (Ok None)
    (sym c.tested_bounds.ensures ∙ c.in-Ok-None.is ∙ ap Ok c.in-Ok-None.field-0-is) in
    goes_on_below old taken c.forget.new.self env outer s (λ env. forgetting (env.visible.variables head.control)) (below_top (below_top operands))
    c.forget.result _ same (first.below ∙ ap below_top last.below)
    (does-bounds env outer head c.args.body.now (reverse old.pending.items) operands s (Ok None) tested)
    agrees c.forget.ensures.does

pub returns-in-Err-clause-does : goal.returns-in-Err-clause-does
returns-in-Err-clause-does c = λ env outer s agrees.
    let old = c.args.self.now in
    let taken = c.popped_number-first.new.self in
    let head = c.args.head.now in
    let operands = operands_of old in
    let last = c.popped_number-last.ensures in
    let first = c.popped_number-first.ensures in
    let same = first.same ∙ ap (λ (r : Run). record r { operands = taken.operands }) last.same in
    let tested = both_taken head operands _ _ _ last.top last.below first.top (Err c.in-Err.site) (sym c.tested_bounds.ensures ∙ c.in-Err.is) in
    stops_below old taken env outer s _ _ same
    (does-bounds env outer head c.args.body.now (reverse old.pending.items) operands s (Err c.in-Err.site) tested)
    agrees
