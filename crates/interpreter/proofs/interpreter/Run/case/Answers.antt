use Rattle.std.proofs.Common.{◌≡◌, ◌+◌, ℤ, List, Vec, Global, Option, Some, Bor, option_map, reverse, sym, ◌∙◌, ap, ap₂, subst}
use Rattle.interpreter.specs.declared.interpreter.Run.{Run}
use Rattle.typed_tree.specs.declared.tree.Stmt.{Stmt}
use Rattle.meaning.specs.Effect.{Reply, and_then}
use Rattle.meaning.specs.Effect.{number_of}
use Rattle.meaning.specs.Meaning.{Argument}
use Rattle.interpreter_state.specs.Answers.{arm_at}
use Rattle.interpreter.specs.Pending.{top_of, below_top, pending_of, operands_of}
use Rattle.interpreter.proofs.FoundArms.{arm_or_error, arm-found, size-found}
use Rattle.interpreter.proofs.Resuming.{executing, goes_on_below, stops_below}
use Rattle.interpreter.specs.Size.{Adds, size_of_statement}
use Rattle.interpreter.proofs.Sizes.{adds_within}
use Rattle.interpreter.proofs.interpreter.Run.case.Goals as goal

-- the arm at the number that was taken is the one at the topmost number
arm_taken : (rows kept : List (Vec ℤ Global)) (arms : List Stmt) (operands : List Argument) (n : ℤ) (found : Option Stmt) → rows ≡ kept →
    n ≡ number_of (top_of operands) → found ≡ arm_at rows arms n → arm_at kept arms (number_of (top_of operands)) ≡ found
arm_taken rows kept arms operands n found same top is = ap₂ (λ l m. arm_at l arms m) (sym same) (sym top) ∙ sym is

pub returns-in-Some-clause-does : goal.returns-in-Some-clause-does
returns-in-Some-clause-does c = λ env outer s agrees.
    let old = c.args.self.now in
    let operands = operands_of old in
    let next = pending_of env outer (reverse old.pending.items) in
    let site = c.args.head.now.site in
    let rows = c.args.head.now.constants.items in
    let arms = c.args.arms.now.items in
    let index = c.popped_number-index.ensures in
    let found = arm_taken _ rows arms operands _ _ c.deref.ensures.value index.top
    (c.arm_at.ensures ∙ ap (λ (l : List Stmt). arm_at c.deref.result.now l c.popped_number-index.result) c.deref-2.ensures.value)
    ∙ ap (option_map (λ (arm : Bor Stmt). arm.now)) c.in-Some.is in
    goes_on_below old c.popped_number-index.new.self c.do_next.new.self env outer s (executing c.in-Some.arm.now) (below_top operands) c.do_next.result _
    index.same index.below
    (ap (λ (r : Reply (Unit {0})). and_then r (λ _. next (below_top operands)))
    (arm-found site rows arms (number_of (top_of operands)) env s ∙ ap (λ (o : Option Stmt). arm_or_error site o env s) found))
    agrees c.do_next.ensures.does

pub returns-in-None-clause-does : goal.returns-in-None-clause-does
returns-in-None-clause-does c = λ env outer s agrees.
    let old = c.args.self.now in
    let operands = operands_of old in
    let next = pending_of env outer (reverse old.pending.items) in
    let site = c.args.head.now.site in
    let rows = c.args.head.now.constants.items in
    let arms = c.args.arms.now.items in
    let index = c.popped_number-index.ensures in
    let found = arm_taken _ rows arms operands _ _ c.deref.ensures.value index.top
    (c.arm_at.ensures ∙ ap (λ (l : List Stmt). arm_at c.deref.result.now l c.popped_number-index.result) c.deref-2.ensures.value)
    ∙ ap (option_map (λ (arm : Bor Stmt). arm.now)) c.in-None.is in
    stops_below old c.popped_number-index.new.self env outer s _ _ index.same
    (ap (λ (r : Reply (Unit {0})). and_then r (λ _. next (below_top operands)))
    (arm-found site rows arms (number_of (top_of operands)) env s ∙ ap (λ (o : Option Stmt). arm_or_error site o env s) found))
    agrees

pub returns-in-Some-clause-fewer : goal.returns-in-Some-clause-fewer
returns-in-Some-clause-fewer c =
    let arm = c.in-Some.arm.now in
    let rows = c.deref.result.now in
    let found : arm_at rows c.args.arms.now.items c.popped_number-index.result ≡ Some arm =
    sym (c.arm_at.ensures ∙ ap (λ (l : List Stmt). arm_at rows l c.popped_number-index.result) c.deref-2.ensures.value)
    ∙ ap (option_map (λ (arm : Bor Stmt). arm.now)) c.in-Some.is in
    let adds = λ (r : Run). Adds (1 + size_of_statement arm) r c.do_next.result c.do_next.new.self in
    adds_within c.args.self.now c.do_next.new.self c.do_next.result _ _ (subst adds c.popped_number-index.ensures.same c.do_next.ensures.size)
    (size-found rows c.args.arms.now.items c.popped_number-index.result arm found)
