use Rattle.std.proofs.Common.{rules, ◌∙◌, ap, subst, sym}
use Rattle.typed_tree.specs.Kinds.{are_held}
use Rattle.resolver.specs.Made.{AreArranged}
use Rattle.resolver.specs.Table.{IsTableOf}
use Rattle.resolver.proofs.BlockForms.{parameters_stop}
use Rattle.resolver.proofs.Programs.{is_resolved}
use Rattle.resolver.proofs.program.typed_program.Goals as goal

-- the parameters stop
pub returns-in_err-typer : goal.returns-in_err-typer
returns-in_err-typer c =
    let stops = parameters_stop c.args.program.now c.in_err-typer.field-0.0 c.in_err-typer.ensures.refused in
    search (rules, stops)

-- the tree of the program
pub returns : goal.returns
returns c =
    let are = c.in_ok-laid.ensures in
    let tree = c.tree.result in
    is_resolved c.args.program.now are.made c.laid_blocks.new.typer are.typed tree
    (subst (AreArranged are.made) (sym (ap (λ v. v.items) c.tree.ensures.blocks)) are.laid_out.arranged)
    (ap (λ v. v.items) c.tree.ensures.bodies ∙ are.laid_out.bodies)
    (subst (IsTableOf are.made) (sym (ap (λ v. v.items) c.tree.ensures.loops)) are.laid_out.loops)
    (ap (λ v. are_held v.items) c.tree.ensures.blocks ∙ are.laid_out.held)
    c.tree.ensures.left
