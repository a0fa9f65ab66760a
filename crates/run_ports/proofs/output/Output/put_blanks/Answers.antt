use Rattle.std.proofs.Common.{arith, refl}
use Rattle.run_ports.proofs.Written.{Passes-none, Passes-same, Loses-same, PassesOrLoses-err}
use Rattle.run_ports.proofs.output.Output.put_blanks.Goals as goal

pub loop-blank-init : goal.loop-blank-init
loop-blank-init g c = (refl, Passes-none _)

pub returns-in_err-put-clause-bytes : goal.returns-in_err-put-clause-bytes
returns-in_err-put-clause-bytes g c =
    PassesOrLoses-err c.from_residual.result _ _ _ c.from_residual.ensures.0
    (Loses-same _ _ _ c.args.count c.loop-blank._blank 32 c.loop-blank-test.true c.loop-blank.invariant.1 c.in_err-put.ensures.bytes)

pub loop-blank-preserved : goal.loop-blank-preserved
loop-blank-preserved g c = (
  omega (arith, c.in_ok-put.ensures.failures, c.loop-blank.invariant.0),
  Passes-same _ _ _ c.loop-blank._blank 32 c.loop-blank.invariant.1
      c.in_ok-put.ensures.bytes,
)
