use Rattle.std.proofs.Common.{arith, ◌<◌, [], ◌++◌, length, take, ◌∙◌, ap, sym, refl}
use Rattle.std.proofs.Math.ListN.{take-append-drop}
use Rattle.run_ports.proofs.Written.{Appends-none, Loses-part, Offering-none, Offering-more, part_left, none_failed}
use Rattle.run_ports.proofs.output.write_all.Goals as goal

pub loop-rest-init : goal.loop-rest-init
loop-rest-init g c = (
  refl,
  (record { done = []; lost = c.args.piece.now; grew = Appends-none (g.W.Sink.got c.args.writer.now).contents; in_order = refl }, refl),
  Offering-none
      (g.W.Sink.got c.args.writer.now).offered (length c.args.piece.now),
)

pub loop-rest-preserved : goal.loop-rest-preserved
loop-rest-preserved g c =
    let kept = c.loop-rest.invariant in
    let rest = c.loop-rest.rest.now in
    let count = c.in-Ok.count in
    let none = none_failed rest count c.if-count-gt0.true in
    let some : 0 < length rest = omega (arith, c.in-Ok.ensures.bound, c.if-count-gt0.true) in
    let whole = sym (take-append-drop count rest) ∙ ap (λ xs. take count rest ++ xs) (part_left rest count) in (
      omega (arith, none, c.in-Ok.ensures.counted, kept.0),
      Loses-part _ _ _ c.args.piece.now (take count rest) rest _ kept.1.0 kept.1.1 c.in-Ok.ensures.bytes
          whole,
      Offering-more _ _ _ (length c.args.piece.now) (length rest) _ some kept.2 c.in-Ok.ensures.offered,
    )
