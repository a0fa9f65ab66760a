use Rattle.std.proofs.Common.{List, ℕ, ℤ, ◌∙◌, ap, subst}
use Rattle.interpreter.specs.declared.interpreter.Run.{Run}
use Rattle.meaning.specs.declared.value.Value.TheVariants.{Number}
use Rattle.meaning.specs.Effect.{members_of, number_of}
use Rattle.meaning.specs.Meaning.{Argument, with_range}
use Rattle.interpreter_state.specs.Answers.{Answers}
use Rattle.interpreter.specs.Pending.{top_of, below_top, operands_of}
use Rattle.interpreter.proofs.Resuming.{goes_on_by, set_in_hand}
use Rattle.interpreter.proofs.interpreter.Run.add_range.Goals as goal

pub returns-clause-does : goal.returns-clause-does
returns-clause-does c = λ env outer s agrees.
    let old = c.args.self.now in
    let operands = operands_of old in
    let taken = c.popped_set-set.new.self in
    let answer = c.with_range.result in
    let site = c.args.site in
    let top = c.popped_number-last.ensures in
    let next = c.popped_number-first.ensures in
    let under = c.popped_set-set.ensures in
    let same = under.same ∙ ap (λ (r : Run). record r { operands = taken.operands })
    (next.same ∙ ap (λ (r : Run). record r { operands = c.popped_number-first.new.self.operands }) top.same) in
    let two = next.below ∙ ap below_top top.below in
    let b = top_of operands in
    let a = top_of (below_top operands) in
    let set = members_of (top_of (below_top (below_top operands))) in
    let answers : Answers (with_range site a b set) answer =
    subst (λ (n : ℤ). Answers (with_range site a (Number n) set) answer) top.top
    (subst (λ (n : ℤ). Answers (with_range site (Number n) (Number c.popped_number-last.result) set) answer)
    (next.top ∙ ap (λ (l : List Argument). number_of (top_of l)) top.below)
    (subst (λ (m : ℕ). Answers (with_range site (Number c.popped_number-first.result) (Number c.popped_number-last.result) m) answer)
    (under.top ∙ ap (λ (l : List Argument). members_of (top_of l)) two) c.with_range.ensures)) in
    goes_on_by set_in_hand old taken c.go_on_with_set.new.self env outer s (with_range site a b set) answer
    (below_top (below_top (below_top operands))) c.go_on_with_set.result same (under.below ∙ ap below_top two) (answers s) agrees
    c.go_on_with_set.ensures.does
