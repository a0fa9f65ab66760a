use Rattle.std.proofs.Common.{length}
use Rattle.declarations.specs.Parts.{texts}
use Rattle.declarations.proofs.Defined.{AreNamesFrom, AreGroupNamesFrom}
use Rattle.declarations.proofs.names.+denoters.Given as goal

-- what is left
abbrev pub invariant-fold_denoters-loop-denoter : goal.invariant-fold_denoters-loop-denoter
invariant-fold_denoters-loop-denoter l = AreNamesFrom l.denoters (texts l.initial.keys.items) l.denoter-index (texts l.keys.items)

abbrev pub invariant-fold_fields-loop-denoter : goal.invariant-fold_fields-loop-denoter
invariant-fold_fields-loop-denoter l =
    AreGroupNamesFrom l.rows l.denoters (texts l.initial.keys.items) (length l.yielded) (texts l.keys.items)
