use Rattle.std.proofs.Common.{[], subst}
use Rattle.types.specs.Types.{kind_of}
use Rattle.typed_tree.specs.Accesses.{AtVariable}
use Rattle.typed_tree.specs.Look.{Fits}
use Rattle.typed_tree.specs.declared.tree.Scalar.TheVariants as scalar
use Rattle.typing.specs.Expressions.{expression}
use Rattle.typing.specs.Statements.{bound}
use Rattle.expression_resolver.specs.Made.{MakesFitted, fitted}
use Rattle.expression_resolver.specs.Values.{tested_as}
use Rattle.expression_resolver.proofs.Fitting.{value_marked}
use Rattle.resolver.proofs.heads.bound.Goals as goal

-- it is what is assigned to the control variable, tested at its first token
pub returns-clause-made : goal.returns-clause-made
unfolding bound
returns-clause-made c = λ control.
    let type_id = c.args.type_id in
    let w = expression c.args.written.now in
    let old = c.args.typer.now in
    value_marked scalar.Ordinal type_id w.first w (λ fits. Fits (AtVariable control) [] fits) old c.fitted.result c.fitted.new.typer
    (subst (λ tested. MakesFitted (fitted tested type_id w.first w old) c.fitted.result c.fitted.new.typer) c.requires.ordinal
    (subst (λ place. MakesFitted (fitted (tested_as (kind_of old.types type_id)) type_id place w old) c.fitted.result c.fitted.new.typer)
    c.first_place.ensures c.fitted.ensures.made))
