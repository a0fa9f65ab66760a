use Rattle.std.proofs.Common.{◌≡◌, [], ◌∷◌, ◌<◌, length, arith, ◌∙◌, refl}
use Rattle.std.proofs.lemmas.List.{take_more_set}
use Rattle.run_ports.specs.Output.{held_by}
use Rattle.run_ports.proofs.Written.{Passes-held, PassesOrLoses-piece, last_byte}
use Rattle.run_ports.proofs.output.Output.put.Goals as goal

pub returns-then-held-eq-PIECE-clause-bytes : goal.returns-then-held-eq-PIECE-clause-bytes
returns-then-held-eq-PIECE-clause-bytes g c =
    let s = c.args.self.now in
    let piece = c.as_slice.result.now in
    let full : length piece ≡ 4096 = omega (arith, c.as_slice.ensures.len) in
    PassesOrLoses-piece c.write_all.result _ _ (c.args.byte ∷ []) piece refl
    (c.as_slice.ensures.value ∙ last_byte s.bytes.items s.held c.args.byte (omega arith)) full c.write_all.ensures.bytes c.write_all.ensures.pieces

pub returns-clause-bytes : goal.returns-clause-bytes
returns-clause-bytes g c =
    let s = c.args.self.now in
    let within : s.held < length s.bytes.items = omega arith in
    Passes-held (g.W.Sink.got c.args.writer.now).contents (g.W.Sink.got c.args.writer.now).offered (held_by s) _ (c.args.byte ∷ [])
    (take_more_set s.bytes.items s.held c.args.byte within)
