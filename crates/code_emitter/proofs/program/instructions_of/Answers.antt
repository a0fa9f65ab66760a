use Rattle.std.proofs.Common.{rules, ◌≡◌, List, Ok, Err, ap, sym, subst, ◌∙◌, arith}
use Rattle.std.proofs.lemmas.List.{drop_all}
use Rattle.std.specs.List.{list_all}
use Rattle.pcode_assembler.specs.Bounds.{in_bounds}
use Rattle.code_scheme.specs.declared.frame.Frame.{Frame}
use Rattle.code_scheme.specs.Code.{block_code}
use Rattle.code_scheme.specs.Frames.{AreCounted, frame_at}
use Rattle.code_scheme.specs.Large.{passes_too_much}
use Rattle.code_scheme.proofs.Bounds.{program_in_bounds}
use Rattle.code_emitter.specs.Emitted.{Grows, IsKept, place_of}
use Rattle.code_emitter.proofs.Blocks.{blocks_all, blocks_more, is_large_program, is_program, is_small_program, places_all}
use Rattle.code_emitter.proofs.Emitted.{next_of}
use Rattle.code_emitter.proofs.program.instructions_of.Goals as goal

pub loop-block-preserved : goal.loop-block-preserved
loop-block-preserved c =
    let tree = c.args.tree.now in
    let blocks = c.deref-block-items.result.now in
    let i = c.loop-block.block-index in
    let n = c.loop-block.number in
    let block = c.block-item.result in
    let now = c.loop-block.code in
    let after = c.emit_block.new.code in
    let counts = c.in_ok-frames.ensures in
    let counted = λ (frames : List Frame) (same : frames ≡ c.in_ok-frames.frames.items). subst (AreCounted tree.types tree.variables.items) (sym same) counts in
    let homes = c.as_slice-in-loop-block.ensures.value ∙ c.in_ok-homes.ensures (counted c.as_slice.result.now c.as_slice.ensures.value) in
    let scope = c.of_block-scope.ensures homes (counted c.as_slice-in-loop-block-2.result.now c.as_slice-in-loop-block-2.ensures.value) in
    let frame = c.frame_at-frame.ensures ∙ ap (λ fs. frame_at fs n) c.as_slice-in-loop-block-3.ensures.value ∙ counts n in
    let emitted = subst (λ s. Grows (passes_too_much tree n) now after (block_code tree n block s (place_of now))) scope
    (c.emit_block.ensures tree frame) in
    record {
      number = omega (arith, c.loop-block.invariant.number);
      left = blocks_more tree now after c.loop-block.places.items c.push.new.self.items n block _ _ c.place.result c.loop-block.invariant.left
          (next_of blocks i block c.loop-block-test.true c.block-item.is) c.place.ensures.place c.in_ok-push.ensures.items emitted;
    }

pub returns-in_err-instructions-clause-too_large : goal.returns-in_err-instructions-clause-too_large
returns-in_err-instructions-clause-too_large c = λ large.
    let blocks = c.deref-block-items.result.now in
    let end = drop_all c.loop-block.block-index blocks c.loop-block-test.false in
    let all = blocks_all c.args.tree.now c.loop-block.code c.loop-block.places.items c.loop-block.number _ c.loop-block.invariant.left end in
    let same : c.from_residual-in_err-instructions.result ≡ Err c.in_err-instructions.field-0.0 = search rules in
    is_large_program c.args.tree.now c.loop-block.code (c.in_err-instructions.ensures.seen ∙ cc) all

pub returns-clause-instructions : goal.returns-clause-instructions
returns-clause-instructions c =
    let blocks = c.deref-block-items.result.now in
    let end = drop_all c.loop-block.block-index blocks c.loop-block-test.false in
    let all = blocks_all c.args.tree.now c.loop-block.code c.loop-block.places.items c.loop-block.number _ c.loop-block.invariant.left end in
    let code = c.in_ok-instructions.instructions.items in
    let seen : c.loop-block.code ≡ Ok code = c.in_ok-instructions.ensures.seen in
    let stand = places_all c.args.tree.now c.loop-block.code c.loop-block.places.items c.loop-block.number _ c.loop-block.invariant.left end
    (subst IsKept (sym seen) tt) in
    is_program c.args.tree.now c.loop-block.code code seen all c.as_slice-2.result.now c.place_calls.new.code.items
    (c.as_slice-2.ensures.value ∙ stand) c.place_calls.ensures

pub returns-clause-small : goal.returns-clause-small
returns-clause-small c =
    let blocks = c.deref-block-items.result.now in
    let end = drop_all c.loop-block.block-index blocks c.loop-block-test.false in
    let all = blocks_all c.args.tree.now c.loop-block.code c.loop-block.places.items c.loop-block.number _ c.loop-block.invariant.left end in
    is_small_program c.args.tree.now c.loop-block.code c.in_ok-instructions.instructions.items c.in_ok-instructions.ensures.seen all
    c.in_ok-instructions.ensures.small

pub returns-clause-in_bounds : goal.returns-clause-in_bounds
returns-clause-in_bounds c = ap (list_all in_bounds) (returns-clause-instructions c) ∙ program_in_bounds c.args.tree.now
