use mir.Syntax.{w32}
use mir.Val.{SFits, to_z, of_z}
use Rattle.std.proofs.lemmas.Int.{ints}
use Rattle.std.proofs.Common.{◌≡◌, ℤ, rules, arith, Option, reverse, sym, ◌∙◌, ap}
use Rattle.meaning.specs.Effect.{and_then, another, looped}
use Rattle.interpreter_state.specs.Answers.{value_before}
use Rattle.interpreter.specs.Pending.{RunDoes, counting, counting_on, forgetting, pending_of, operands_of}
use Rattle.interpreter.proofs.Resuming.{continues_as, passed_three}
use Rattle.interpreter.proofs.interpreter.Run.next_round.Goals as goal

pub returns-in-Some-clause-does : goal.returns-in-Some-clause-does
returns-in-Some-clause-does c = λ env outer s agrees.
    let old = c.args.self.now in
    let head = c.args.head.now in
    let each = counting env head c.args.first c.args.last c.args.body.now in
    let value_fits : SFits w32 c.in-Some.value = search rules in
    let does : ℤ → ℤ → ℤ → Type 0 = λ first n m.
    RunDoes (λ env. counting_on env head first n m c.args.body.now) old c.for_round.result c.for_round.new.self in
    let last : to_z w32 (of_z w32 c.args.last) ≡ c.args.last = omega (arith, ints, c.ranges.last) in
    let value : to_z w32 (of_z w32 c.args.value) ≡ c.args.value = omega (arith, ints, c.ranges.value) in
    let next = pending_of env outer (reverse old.pending.items) in
    continues_as env outer old c.for_round.new.self _ _ c.for_round.result
    (ap (λ (o : Option ℤ). and_then (another o (looped each) s) (λ _. forgetting (env.visible.variables head.control) next (operands_of old)))
    (sym (ap (value_before head.direction c.args.last) value)
    ∙ sym (ap (λ n. value_before head.direction n (to_z w32 (of_z w32 c.args.value))) last) ∙ sym c.value_toward.ensures ∙ c.in-Some.is))
    (passed_three does c.args.first c.in-Some.value c.args.last c.ranges.first value_fits c.ranges.last c.for_round.ensures.does env outer s agrees)
