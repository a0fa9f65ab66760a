use Rattle.std.proofs.lemmas.Result.{on_ok_weaker}
use Rattle.declarations.specs.Parts.{texts}
use Rattle.declarations.proofs.Defined.{names_gathered}
use Rattle.declarations.proofs.names.fold_block.Goals as goal

-- all parts are met
pub returns : goal.returns
returns c =
    on_ok_weaker c.fold_routines.result
    (names_gathered c.args.block.now c.deref.result.now c.deref-2.result.now c.deref-3.result.now c.deref-4.result.now (texts c.args.keys.now.items)
    (texts c.fold_constants.new.keys.items) (texts c.fold_types.new.keys.items) (texts c.fold_groups.new.keys.items)
    (texts c.fold_routines.new.keys.items) c.deref.ensures.value c.deref-2.ensures.value c.deref-3.ensures.value c.deref-4.ensures.value
    c.in_ok-fold_constants.ensures c.in_ok-fold_types.ensures c.in_ok-fold_groups.ensures)
    c.fold_routines.ensures
