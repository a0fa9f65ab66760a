use Rattle.std.proofs.Common.{◌<◌, arith, refl, sym}
use Rattle.std.proofs.lemmas.Result.{err_from_is_err_and}
use Rattle.run_ports.proofs.Peeked.{Out-is, Peek-failed, Peek-filled, Peek-held, Peek-lost, lost_some}
use Rattle.run_ports.proofs.ports.RunPorts.peek.Goals as goal
use Rattle.run_ports.proofs.ports.RunPorts.peek.Goals.{then-is_spent+in_ok-write_out+in_ok-fill, else-is_spent}

pub returns-in_err-write_out-clause-reads : goal.returns-in_err-write_out-clause-reads
returns-in_err-write_out-clause-reads g c =
    let p = err_from_is_err_and c.from_residual.result c.from_residual.ensures.1 in
    let output = c.args.self.now.output in
    let few : output.held < output.bytes.len = omega arith in
    rw (p.1, p.2) (Peek-lost _ _ _ _ _ refl (lost_some output few c.in_err-write_out.ensures.nothing_lost) c.in_err-write_out.ensures.bytes)

pub returns-in_err-fill-clause-reads : goal.returns-in_err-fill-clause-reads
returns-in_err-fill-clause-reads g c =
    let p = err_from_is_err_and c.from_residual-in_err-fill.result c.from_residual-in_err-fill.ensures.1 in
    let output = c.args.self.now.output in
    let few : output.held < output.bytes.len = omega arith in
    let wrote = c.in_ok-write_out.ensures in
    rw (p.1, p.2)
    (Peek-failed _ _ _ _ _ _ _ c.in_err-fill.ensures.only c.in_err-fill.ensures.fills (sym c.if-is_spent.ensures)
    (Out-is (g.W.Sink.got c.args.writer.now) (g.W.Sink.got c.write_out.new.writer) output c.write_out.new.self few wrote.nothing_held wrote.bytes wrote.pieces))

pub returns-clause-reads : goal.returns-clause-reads
returns-clause-reads g c =
    let output = c.args.self.now.output in
    let few : output.held < output.bytes.len = omega arith in
    elim c.if-is_spent.branch [
      | then-is_spent+in_ok-write_out+in_ok-fill w ↦
          let wrote = w.in_ok-write_out.ensures in
          let first = rw w.self-is at c.first.ensures in
          rw (w.self-is, w.reader-is, w.writer-is)
          (Peek-filled c.first.result _ _ _ _ _ _ w.in_ok-fill.ensures.fills (sym w.if-is_spent.ensures)
          (Out-is (g.W.Sink.got c.args.writer.now) (g.W.Sink.got w.write_out.new.writer) output w.write_out.new.self few wrote.nothing_held
          wrote.bytes wrote.pieces) first)
      | else-is_spent w ↦
          let first = rw w.self-is at c.first.ensures in
          rw (w.self-is, w.reader-is, w.writer-is) (Peek-held c.first.result _ _ _ (sym w.if-is_spent.ensures) first)
    ]
