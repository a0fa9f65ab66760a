use Rattle.std.proofs.Common.{◌∙◌, sym, ap, ◌+◌, map, drop, List}
use Rattle.std.proofs.lemmas.List.{drop_all, drop_more}
use Rattle.types.specs.Forms.{Form}
use Rattle.typed_tree.specs.declared.tree.PathStep.{PathStep}
use Rattle.typed_tree.specs.declared.tree.PathStep.TheVariants as path
use Rattle.checker_rows.specs.Rows.{path_step}
use Rattle.checker_rows.specs.View.{part_along}
use Rattle.checker_rows.proofs.rows.Rows.along.Goals as goal

pub loop-step-preserved : goal.loop-step-preserved
loop-step-preserved c =
    let types : List Form = c.args.self.now.types in
    let n = c.loop-step.step-index in
    let items : List PathStep = c.args.path.now in
    let left = map path_step (drop (n + 1) items) in
    record {
      fits = c.stepped-part.ensures.fits;
      same =
          ap (part_along types left) c.stepped-part.ensures.part
          ∙ ap (λ l. part_along types (map path_step l) c.loop-step.part) (sym (drop_more items n path.Element c.loop-step-test.true))
          ∙ c.loop-step.invariant.same;
    }

pub returns-clause-part : goal.returns-clause-part
returns-clause-part c =
    let types : List Form = c.args.self.now.types in
    ap (λ l. part_along types (map path_step l) c.loop-step.part) (sym (drop_all c.loop-step.step-index c.args.path.now c.loop-step-test.false))
    ∙ c.loop-step.invariant.same
