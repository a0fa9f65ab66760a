use Rattle.std.proofs.Common.{◌≡◌, [], ◌∷◌, ◌++◌, refl, ◌∙◌, ap}
use Rattle.interpreter_state.specs.declared.work.Caller.{Caller}
use Rattle.meaning.specs.declared.outcome.Ending.TheVariants as ending
use Rattle.meaning.specs.Effect.{Gives, Stops}
use Rattle.meaning.specs.Meaning.{result_of}
use Rattle.interpreter_state.specs.Answers.{answered}
use Rattle.interpreter.specs.declared.interpreter.Run.{Run}
use Rattle.interpreter.proofs.Activating.{closes, ends_turn, goes_back, stops_back}
use Rattle.interpreter.proofs.Resuming.{continues_as}
use Rattle.interpreter.proofs.interpreter.Run.leave.Goals as goal

pub returns-in-Ok-clause-does : goal.returns-in-Ok-clause-does
returns-in-Ok-clause-does c = λ env outer s agrees none some.
    let old = c.args.self.now in
    let given = c.in-Some-Call in
    let popped = given.ensures.items ∙ ap (λ (w : Caller). c.pop.new.self.items ++ w ∷ []) given.field-0-is in
    let back : Run = record old { callers = c.pop.new.self; activation = given.activation; pending = given.pending } in
    let gives : result_of old.activation.result env.visible s ≡ Gives c.in-Ok.value s =
    c.in_ok-answer-in-Some-Call.ensures env.visible s agrees.visible agrees.store ∙ ap (λ a. answered a s) c.in-Ok.is in
    let there = goes_back old back given.activation given.pending c.pop.new.self.items env outer s c.in-Ok.value agrees popped gives refl refl in
    continues_as there.0 there.1 old c.go_on.new.self _ _ c.go_on.result there.4 (c.go_on.ensures.does there.0 there.1 there.2 there.3)

pub returns-in-Err-clause-does : goal.returns-in-Err-clause-does
returns-in-Err-clause-does c = λ env outer s agrees none some.
    let old = c.args.self.now in
    let given = c.in-Some-Call in
    let popped = given.ensures.items ∙ ap (λ (w : Caller). c.pop.new.self.items ++ w ∷ []) given.field-0-is in
    let back : Run = record old { callers = c.pop.new.self; activation = given.activation; pending = given.pending } in
    let stops : result_of old.activation.result env.visible s ≡ Stops (ending.Error c.in-Err.site) s =
    c.in_ok-answer-in-Some-Call.ensures env.visible s agrees.visible agrees.store ∙ ap (λ a. answered a s) c.in-Err.is in
    stops_back old back given.activation given.pending c.pop.new.self.items env outer s c.in-Err.site agrees popped stops refl refl

pub returns-in-Some-With-clause-does : goal.returns-in-Some-With-clause-does
returns-in-Some-With-clause-does c = λ env outer s agrees none some.
    let old = c.args.self.now in
    let given = c.in-Some-With in
    let popped = given.ensures.items ∙ ap (λ (w : Caller). c.pop.new.self.items ++ w ∷ []) given.field-0-is in
    let new : Run = record old { callers = c.pop.new.self; activation = c.close.new.self; pending = given.pending } in
    closes old new c.close.new.self given.pending c.pop.new.self.items env outer s agrees popped c.close.ensures.same c.close.ensures.records
    refl refl

pub returns-in-Some-For-clause-does : goal.returns-in-Some-For-clause-does
returns-in-Some-For-clause-does c = λ env outer s agrees none some.
    let old = c.args.self.now in
    let given = c.in-Some-For in
    let popped = given.ensures.items ∙ ap (λ (w : Caller). c.pop.new.self.items ++ w ∷ []) given.field-0-is in
    let new : Run = record old { callers = c.pop.new.self; pending = given.pending } in
    ends_turn old new given.pending c.pop.new.self.items env outer s agrees popped refl refl
