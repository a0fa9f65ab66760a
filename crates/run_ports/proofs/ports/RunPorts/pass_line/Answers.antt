use Rattle.std.proofs.Common.{refl, arith}
use Rattle.std.proofs.lemmas.Result.{err_from_is_err_and}
use Rattle.text_input.specs.Input.{read_line}
use Rattle.run_ports.proofs.Taken.{Taken-as, Taken-on, Taken-stops, line_ends, line_goes}
use Rattle.run_ports.proofs.ports.RunPorts.pass_line.Goals as goal

pub loop-init : goal.loop-init
loop-init g c = (refl, refl, λ y new f p h. h)

pub returns-in_err-next_byte-clause-reads : goal.returns-in_err-next_byte-clause-reads
returns-in_err-next_byte-clause-reads g c =
    let p = err_from_is_err_and c.from_residual.result c.from_residual.ensures.1 in
    rw (p.1, p.2) (c.loop.invariant.2 _ _ _ _ (Taken-stops read_line _ _ _ _ _ _ _ refl c.in_err-next_byte.ensures.reads))

pub returns-then-branch-eq10-clause-reads : goal.returns-then-branch-eq10-clause-reads
returns-then-branch-eq10-clause-reads g c =
    let byte = c.in_ok-next_byte.field-0 in
    c.loop.invariant.2 _ _ _ _
    (Taken-as read_line byte _ _ _ _ _ _ _ refl refl refl (λ fails xs. line_ends byte xs c.if-branch-eq10.true) c.in_ok-next_byte.ensures.reads)

pub loop-preserved : goal.loop-preserved
loop-preserved g c =
    let byte = c.in_ok-next_byte.field-0 in (
      omega (arith, c.loop.invariant.0, c.in_ok-next_byte.ensures.read_failures),
      omega (arith, c.loop.invariant.1, c.in_ok-next_byte.ensures.write_failures),
      λ y new f p h. c.loop.invariant.2 y new f p
          (Taken-on read_line read_line byte y _ _ _ _ _ _ _ _ _ refl (λ xs. line_goes byte xs c.if-branch-eq10.false) c.in_ok-next_byte.ensures.reads h),
    )
