use Rattle.code_scheme.specs.Calls.{place_in, with_call}
use Rattle.std.proofs.Common.{ap, ◌∙◌, arith}
use Rattle.std.specs.Prelude.{slice_set}
use Rattle.std.proofs.lemmas.List.Edits.{map_over_more}
use Rattle.code_emitter.proofs.program.place_calls.Goals as goal

pub loop-place-preserved : goal.loop-place-preserved
loop-place-preserved c =
    let code = c.loop-place.code.items in
    let i = c.loop-place.place in
    ap (slice_set code i) c.with_call.ensures
    ∙ map_over_more (with_call (place_in c.args.places.now)) c.args.code.now.items code i c.index.result.now (omega arith) c.loop-place.invariant
    c.index.ensures
