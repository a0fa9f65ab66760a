use Rattle.std.proofs.Common.{arith}
use Rattle.run_ports.proofs.Written.{Passes-row, Loses-row, PassesOrLoses-err}
use Rattle.run_ports.proofs.output.Output.put_all.Goals as goal

pub returns-in_err-put-clause-bytes : goal.returns-in_err-put-clause-bytes
returns-in_err-put-clause-bytes g c =
    PassesOrLoses-err c.from_residual.result _ _ _ c.from_residual.ensures.0
    (Loses-row _ _ _ c.args.bytes.now c.loop-byte.byte-index c.loop-byte-test.true c.loop-byte.invariant.1 c.in_err-put.ensures.bytes)

pub loop-byte-preserved : goal.loop-byte-preserved
loop-byte-preserved g c = (
  omega (arith, c.in_ok-put.ensures.failures, c.loop-byte.invariant.0),
  Passes-row _ _ _ c.args.bytes.now c.loop-byte.byte-index c.loop-byte-test.true
      c.loop-byte.invariant.1 c.in_ok-put.ensures.bytes,
)
