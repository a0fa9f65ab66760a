-- A name as an expression.
use Rattle.std.proofs.Common.{◌≡◌, Option, ap, ◌∙◌}
use Rattle.syntax_tree.specs.declared.Name.{Name}
use Rattle.syntax_tree.specs.declared.Expr.{Expr as SyntaxExpr}
use Rattle.syntax_tree.specs.declared.Expr.TheVariants as syntax
use Rattle.typed_tree.specs.declared.site.SiteKind.{SiteKind}
use Rattle.typing.specs.Passing.{Passed, behind_marks}
use Rattle.typing_rules.specs.Checked.{and_then}
use Rattle.typing.specs.Steps.{find}
use Rattle.typing.specs.Expressions.{expression, named, denoted}
use Rattle.typing.proofs.Written.{typing_name}

-- its typing goes on from what it denotes
pub named_is : (w : SyntaxExpr) (name : Name) → w ≡ syntax.Name name → (lead : Option SiteKind) (old : Passed)
    → (expression w).typing lead old ≡ and_then (find name old) (λ a. behind_marks a.look (denoted a.answer name.place lead a.passed))
unfolding named
named_is w name is lead old = ap (λ e. e.typing lead old) (ap expression is ∙ typing_name name)
