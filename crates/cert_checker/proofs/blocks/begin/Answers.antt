use Rattle.std.proofs.Common.{ap, map, ◌∙◌, List}
use Rattle.checker_trail.proofs.Ways.{moves-as}
use Rattle.checker_loops.specs.Sections.{BlockClaims, block_claims_at}
use Rattle.checker_loops.specs.Starts.{block_start}
use Rattle.checker_loops.specs.BlockView.{said_section}
use Rattle.checker_loops.specs.declared.sections.BlockSection.{BlockSection}
use Rattle.cert_checker.specs.View.{start_of}
use Rattle.cert_checker.proofs.blocks.begin.Goals as goal

pub returns-clause-begins : goal.returns-clause-begins
returns-clause-begins c = λ table start.
    let flow = c.args.flow.now in
    let number = c.args.number in
    moves-as (λ _. start_of number flow) (c.begin_block.ensures.begins flow.grounds.version table start)
    (ap (λ (claims : BlockClaims). block_start flow.grounds.version flow.state.table.now number claims.entry)
    (c.block_claims_at-claims.ensures
    ∙ ap (λ (sections : List BlockSection). block_claims_at (map said_section sections) number) c.deref.ensures.value))
