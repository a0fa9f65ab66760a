use Rattle.std.proofs.Common.{rules, ◌≡◌, ◌+◌, ap, ◌∙◌, arith}
use Rattle.code_scheme.specs.declared.frame.Frame.{Frame}
use Rattle.code_scheme.specs.Frames.{routines_by}
use Rattle.code_scheme.specs.Scopes.{block_level, count, other_cells, parameter_cells}
use Rattle.code_scheme.proofs.Routines.{known_are_numbered}
use Rattle.code_scheme.proofs.scope.Scope.of_block.Goals as goal

pub returns : goal.returns
returns c = λ homes counts.
    let tree = c.args.tree.now in
    let number = c.args.number in
    let frame = c.frame_at-frame.ensures ∙ counts number in
    let routines = ap (λ bs. routines_by bs c.args.frames.now 0 bs) c.as_slice.ensures.value
    ∙ known_are_numbered tree c.args.frames.now counts 0 tree.blocks.items in
    let level : c.level_of.result ≡ block_level tree number = search rules in
    let next : c.min-next.result ≡ count (4 + parameter_cells tree number + other_cells tree number) =
    omega (
      arith,
      ap (λ (f : Frame). f.parameters) frame,
      ap (λ (f : Frame). f.others) frame,
    ) in
    cc
