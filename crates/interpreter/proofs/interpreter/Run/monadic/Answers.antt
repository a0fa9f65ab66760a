use Rattle.std.proofs.Common.{ℤ, subst}
use Rattle.meaning.specs.Effect.{number_of}
use Rattle.meaning.specs.Meaning.{operated}
use Rattle.interpreter_state.specs.Answers.{Answers}
use Rattle.interpreter.specs.Pending.{top_of, below_top, operands_of}
use Rattle.interpreter.proofs.Resuming.{goes_on_by, number_in_hand}
use Rattle.interpreter.proofs.interpreter.Run.monadic.Goals as goal

pub returns-clause-does : goal.returns-clause-does
returns-clause-does c = λ env outer s agrees.
    let old = c.args.self.now in
    let operands = operands_of old in
    let operand = c.popped_number-operand.ensures in
    let answer = c.operated_number.result in
    let answers : Answers (operated c.args.operation (number_of (top_of operands))) answer =
    subst (λ (n : ℤ). Answers (operated c.args.operation n) answer) operand.top c.operated_number.ensures in
    goes_on_by number_in_hand old c.popped_number-operand.new.self c.go_on_with.new.self env outer s
    (operated c.args.operation (number_of (top_of operands))) answer (below_top operands) c.go_on_with.result
    operand.same operand.below (answers s) agrees c.go_on_with.ensures.does
