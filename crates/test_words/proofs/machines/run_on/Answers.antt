use Rattle.std.proofs.Common.{◌≡◌, ◌++◌, ◌∙◌, ap, subst, sym, Some}
use Rattle.stack_machine.specs.Does.{cell_count}
use Rattle.stack_machine.specs.Ran.{Did}
use Rattle.stack_machine.specs.Run.{machine}
use Rattle.stack_machine.proofs.Finishing.{ran_on}
use Rattle.test_words.proofs.machines.run_on.Goals as goal

-- the text is what the writer held, and the word; the machine has the cells that were asked for
pub returns : goal.returns
returns c =
    let stop = c.run.result in
    let bytes = c.into_inner.result.items in
    let word = c.word_of-word.result.now in
    let code = c.args.code.now in
    let input = c.args.input.now in
    let cells = cell_count c.in_ok-machine.machine in
    let empty = ap (λ v. v.items) c.new-writer.ensures.inner ∙ c.new-2.ensures.items in
    let held : c.run.new.writer.inner.items ≡ bytes = sym (ap (λ v. v.items) c.into_inner.ensures) in (
      stop,
      bytes,
      c.in_ok-push_str.ensures.bytes ∙ ap (λ text. text ++ word) (ap (λ v. v.items) c.in_ok-told.ensures.ok) ∙ ap (λ w. bytes ++ w) c.word_of-word.ensures,
      λ unread.
          let ran = ran_on code cells c.args.budget stop _ _ _ _ input (ap (λ s. Some s.now) c.new-reader.ensures.inner) unread c.run.ensures.ran in
          let done : ran.0 ≡ bytes = ap (λ l. l ++ ran.0) (sym empty) ∙ sym ran.1 ∙ held in
          subst (λ n. Did stop bytes (machine code input n c.args.budget)) c.in_ok-machine.ensures
          (subst (λ l. Did stop l (machine code input cells c.args.budget)) done ran.2),
    )
