use Rattle.std.proofs.Common.{ap, map, ◌∙◌, List}
use Rattle.checker_trail.specs.Trail.{seen}
use Rattle.checker_loops.specs.Loops.{gives_claims}
use Rattle.checker_loops.specs.Sections.{BlockClaims, block_claims_at}
use Rattle.checker_loops.specs.BlockView.{said_section}
use Rattle.checker_loops.specs.declared.sections.BlockSection.{BlockSection}
use Rattle.cert_checker.proofs.StepsBlocks.{exit-asked}
use Rattle.cert_checker.proofs.blocks.ask_exit.Goals as goal

pub returns : goal.returns
returns c =
    let state = c.args.flow.now.state in
    exit-asked c.args.number c.args.end c.gives_facts-given.result
    (c.gives_facts-given.ensures
    ∙ ap (λ (claims : BlockClaims). gives_claims state.table.now (seen state) claims.exit)
    (c.block_claims_at-claims.ensures
    ∙ ap (λ (sections : List BlockSection). block_claims_at (map said_section sections) c.args.number) c.deref.ensures.value))
    c.ask.ensures
