use Rattle.std.proofs.Common.{◌≡◌, ap, ◌∙◌, arith}
use Rattle.pcode_assembler.specs.declared.instr.Instr.TheVariants as instr
use Rattle.code_scheme.specs.declared.frame.Frame.{Frame}
use Rattle.code_scheme.specs.Depth.{block_depth}
use Rattle.code_scheme.specs.Large.{passes_too_much}
use Rattle.code_scheme.specs.Scopes.{count, other_cells}
use Rattle.code_scheme.specs.Sizes.{capped}
use Rattle.code_emitter.specs.Emitted.{with_instr}
use Rattle.code_emitter.proofs.Blocks.{block_gets, large_block, small_block}
use Rattle.code_emitter.proofs.block.emit_block.Goals as goal

pub returns-then-passes_too_much : goal.returns-then-passes_too_much
returns-then-passes_too_much c = λ tree frame.
    let block = c.args.block.now in
    let number = c.args.number in
    let deep : c.max-depth.result ≡ capped (block_depth block) = omega (arith, c.emit_stmt-body.ensures.needs, c.needed_by_result.ensures) in
    let others : c.min-variables.result ≡ count (other_cells tree number) = omega (arith, ap (λ (f : Frame). f.others) frame) in
    let set = c.set.ensures
    ∙ ap (λ n. with_instr n (instr.Enter c.min-variables.result c.min-evaluation.result) c.emit_end.new.code) c.hole-enter.ensures.place in
    large_block (passes_too_much tree number) (c.if-passes_too_much.ensures tree number frame)
    (block_gets tree number block c.args.scope.now c.min-variables.result c.min-evaluation.result c.hole-enter.ensures.emits c.emit_stmt-body.ensures.emits
    c.emit_end.ensures set others (omega (arith, deep, c.min-evaluation.ensures))) c.lose.ensures.grows

pub returns-else-passes_too_much : goal.returns-else-passes_too_much
returns-else-passes_too_much c = λ tree frame.
    let block = c.args.block.now in
    let number = c.args.number in
    let deep : c.max-depth.result ≡ capped (block_depth block) = omega (arith, c.emit_stmt-body.ensures.needs, c.needed_by_result.ensures) in
    let others : c.min-variables.result ≡ count (other_cells tree number) = omega (arith, ap (λ (f : Frame). f.others) frame) in
    let set = c.set.ensures
    ∙ ap (λ n. with_instr n (instr.Enter c.min-variables.result c.min-evaluation.result) c.emit_end.new.code) c.hole-enter.ensures.place in
    small_block (passes_too_much tree number) (c.if-passes_too_much.ensures tree number frame)
    (block_gets tree number block c.args.scope.now c.min-variables.result c.min-evaluation.result c.hole-enter.ensures.emits c.emit_stmt-body.ensures.emits
    c.emit_end.ensures set others (omega (arith, deep, c.min-evaluation.ensures)))
