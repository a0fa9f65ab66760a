use Rattle.std.proofs.Common.{List, ◌∙◌, ap, subst}
use Rattle.interpreter.specs.declared.interpreter.Run.{Run}
use Rattle.meaning.specs.declared.value.Value.{Value}
use Rattle.meaning.specs.Meaning.{Argument, OfValue, operated_both}
use Rattle.interpreter_state.specs.Answers.{Answers}
use Rattle.interpreter.specs.Pending.{top_of, below_top, operands_of}
use Rattle.interpreter.proofs.Resuming.{goes_on_by}
use Rattle.interpreter.proofs.interpreter.Run.combine.Goals as goal

pub returns-clause-does : goal.returns-clause-does
returns-clause-does c = λ env outer s agrees.
    let old = c.args.self.now in
    let operands = operands_of old in
    let taken = c.popped-left.new.self in
    let answer = c.operated_value.result in
    let right = c.popped-right.ensures in
    let left = c.popped-left.ensures in
    let same = left.same ∙ ap (λ (r : Run). record r { operands = taken.operands }) right.same in
    let a = top_of (below_top operands) in
    let b = top_of operands in
    let answers : Answers (operated_both c.args.operation a b) answer =
    subst (λ (v : Value). Answers (operated_both c.args.operation a v) answer) right.top
    (subst (λ (v : Value). Answers (operated_both c.args.operation v c.popped-right.result) answer)
    (left.top ∙ ap (λ (l : List Argument). top_of l) right.below) c.operated_value.ensures) in
    goes_on_by OfValue old taken c.go_on.new.self env outer s (operated_both c.args.operation a b) answer (below_top (below_top operands))
    c.go_on.result same (left.below ∙ ap below_top right.below) (answers s) agrees c.go_on.ensures.does
