use Rattle.std.proofs.Common.{replicate}
use Rattle.run_ports.proofs.Written.{Loses-more, PassesOrLoses-then, PassesOrLoses-err}
use Rattle.stack_machine.proofs.writing.put_after_blanks.Goals as goal

pub returns-in_err-put_blanks-clause-bytes : goal.returns-in_err-put_blanks-clause-bytes
returns-in_err-put_blanks-clause-bytes g c =
    PassesOrLoses-err c.from_residual.result _ _ _ c.from_residual.ensures.0
    (Loses-more _ _ _ (replicate c.args.blanks 32) c.args.text.now c.in_err-put_blanks.ensures.bytes)

pub returns-clause-bytes : goal.returns-clause-bytes
returns-clause-bytes g c =
    PassesOrLoses-then c.put_all.result _ _ _ (replicate c.args.blanks 32) c.args.text.now c.in_ok-put_blanks.ensures.bytes c.put_all.ensures.bytes
