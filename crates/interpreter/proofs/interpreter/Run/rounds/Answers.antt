use Rattle.std.proofs.Common.{ℤ, ap, rules}
use mir.Syntax.{w32}
use mir.Val.{SFits}
use Rattle.interpreter_state.specs.declared.work.Rounds.{Rounds}
use Rattle.interpreter_state.specs.declared.work.Rounds.TheVariants.{Behind}
use Rattle.interpreter_state.specs.declared.work.Work.TheVariants as work
use Rattle.interpreter.specs.Pending.{RunDoes, resumed}
use Rattle.interpreter.proofs.Resuming.{does_as, passed_three}
use Rattle.interpreter.proofs.interpreter.Run.rounds.Goals as goal

pub returns-in-Between-clause-does : goal.returns-in-Between-clause-does
returns-in-Between-clause-does c =
    does_as c.args.self.now c.bounds.new.self _ _ c.bounds.result (ap (λ (rounds : Rounds). work.For c.args.head rounds c.args.body) c.in-Between.is)
    c.bounds.ensures.does

pub returns-in-Behind-clause-does : goal.returns-in-Behind-clause-does
returns-in-Behind-clause-does c =
    let given = c.in-Behind in
    let old = c.args.self.now in
    let new = c.next_round.new.self in
    let first_fits : SFits w32 given.first = search rules in
    let fits : SFits w32 given.value = search rules in
    let last_fits : SFits w32 given.last = search rules in
    let does : ℤ → ℤ → ℤ → Type 0 = λ first value last.
    RunDoes (λ env. resumed env (work.For c.args.head (Behind first value last) c.args.body)) old c.next_round.result new in
    does_as old new _ _ c.next_round.result (ap (λ (rounds : Rounds). work.For c.args.head rounds c.args.body) given.is)
    (passed_three does given.first given.value given.last first_fits fits last_fits c.next_round.ensures.does)
