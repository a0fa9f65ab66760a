use Rattle.std.proofs.Common.{rules, ◌≡◌, ◌∙◌, [], ◌∷◌, ◌++◌, Ok, None, ap, refl, sym}
use Rattle.syntax_tree.specs.declared.Block.TheViews.{out-Block}
use Rattle.typed_tree.specs.declared.tree.Heading.{Heading}
use Rattle.typing.specs.Passing.{after}
use Rattle.resolver.specs.Made.{look_made}
use Rattle.resolver.specs.declared.typed.MadeBlock.{MadeBlock}
use Rattle.resolver.proofs.BlockForms.{program_made, program_stops}
use Rattle.resolver.proofs.program.program_blocks.Goals as goal

-- its block stops
pub returns-in_err-body-clause-made : goal.returns-in_err-body-clause-made
returns-in_err-body-clause-made c =
    let stops = program_stops c.args.program.now c.args.typer.now c.requires.begun c.in_err-body.field-0.0 c.in_err-body.ensures.made in
    search (rules, stops)

-- its blocks are made
pub returns-clause-made : goal.returns-clause-made
returns-clause-made c =
    let program = c.args.program.now in
    let typed = c.in_ok-body.ensures.made in
    let body = c.in_ok-body.body in
    let heading : Heading = record { around = c.new.result; parameters = c.new-2.result; result = None } in
    let made : MadeBlock = record { number = 0; block = record { heading = heading; body = body; end = (out-Block program.block).end } } in
    let blocks : typed.0 ++ made ∷ [] ≡ c.push_reserved.new.self.items =
    sym (c.push_reserved.ensures.items ∙ ap (λ l. l ++ made ∷ []) (typed.1 ∙ ap (λ l. l ++ typed.0) c.requires.none)) in
    program_made program c.args.typer.now c.body.new.typer c.requires.begun typed.0 body typed.2 heading c.new.ensures.items c.new-2.ensures.items refl
    ∙ ap (λ l. Ok (after tt (look_made l) c.body.new.typer)) blocks
