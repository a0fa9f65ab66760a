use Rattle.std.proofs.Common.{◌+◌, ◌-◌, arith, length, take, drop}
use Rattle.std.proofs.lemmas.Grind.{common_steps}
use Rattle.certificate.proofs.Pieces.{pieces_next}
use Rattle.certificate.proofs.paths.first_piece.Goals as goal

pub returns : goal.returns
returns c =
    let steps = c.args.steps.now in
    let end = c.step_place-end.result + 1 in (
      pieces_next steps (take (length steps - end) (drop end steps)) end (grind (arith, common_steps)) (grind (arith, common_steps))
          (grind (arith, common_steps)),
      grind (arith, common_steps),
    )
