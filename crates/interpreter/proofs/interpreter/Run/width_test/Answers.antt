use Rattle.std.proofs.Common.{ℤ, subst}
use Rattle.meaning.specs.Effect.{number_of}
use Rattle.interpreter_state.specs.Answers.{Answers, positive}
use Rattle.interpreter.specs.Pending.{top_of, below_top, operands_of}
use Rattle.interpreter.proofs.Resuming.{goes_on_by, number_in_hand}
use Rattle.interpreter.proofs.interpreter.Run.width_test.Goals as goal

pub returns-clause-does : goal.returns-clause-does
returns-clause-does c = λ env outer s agrees.
    let old = c.args.self.now in
    let operands = operands_of old in
    let width = c.popped_number-width.ensures in
    let answer = c.positive_width.result in
    let answers : Answers (positive c.args.site (number_of (top_of operands))) answer =
    subst (λ (n : ℤ). Answers (positive c.args.site n) answer) width.top c.positive_width.ensures in
    goes_on_by number_in_hand old c.popped_number-width.new.self c.go_on_with.new.self env outer s (positive c.args.site (number_of (top_of operands))) answer
    (below_top operands) c.go_on_with.result width.same width.below (answers s) agrees c.go_on_with.ensures.does
