use Rattle.std.proofs.Common.{◌≡◌, Some, suc, slice_get, sym, ap, ◌∙◌, refl}
use Rattle.std.specs.Option.{option_copied}
use Rattle.interpreter.specs.declared.interpreter.Run.{Run}
use Rattle.meaning.specs.Effect.{give}
use Rattle.meaning.specs.Meaning.{program_surroundings}
use Rattle.interpreter.specs.Pending.{Resumption, operands_of, rest_of}
use Rattle.interpreter.proofs.Starting.{agrees_first, begins_with_block, ends_alike}
use Rattle.interpreter.proofs.interpreter.Run.execute.Goals as goal

pub returns-in_ok-put-in-Some : goal.returns-in_ok-put-in-Some
returns-in_ok-put-in-Some c = λ s fresh.
    let old = c.args.self.now in
    let tree = old.tree.now in
    let block = c.in-Some.block.now in
    let begun : Run = record old { activation = record c.in_ok-activation-in-Some.activation { depth = old.turns }; pending = c.put.new.pending } in
    let env = program_surroundings tree (suc old.turns) block.heading in
    let outer : Resumption = λ operands. give tt in
    let first : slice_get tree.blocks.items 0 ≡ Some block =
    sym (ap (λ l. slice_get l 0) c.deref.ensures.value) ∙ sym c.first.ensures.value ∙ ap option_copied c.in-Some.is in
    let agreed = agrees_first old begun block.heading s fresh c.in_ok-activation-in-Some.ensures.visible refl refl
    c.in_ok-activation-in-Some.ensures.records in
    ends_alike c.finish.new.self _ (rest_of env outer begun s) c.finish.result
    (begins_with_block _ block tree (suc old.turns) (operands_of old) s c.put.new.pending.items old.pending.items c.in_ok-put-in-Some.ensures fresh.pending refl
    first)
    (c.finish.ensures env outer s agreed)
