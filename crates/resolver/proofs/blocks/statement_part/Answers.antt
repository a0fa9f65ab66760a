use Rattle.std.proofs.Common.{rules, map, inr, sym, ap, subst, ◌∙◌}
use Rattle.typing.specs.Outcomes.{IsFault}
use Rattle.typing.specs.Passing.{After, behind_marks}
use Rattle.typing_rules.specs.Checked.{Checked, and_then}
use Rattle.typing.specs.Statements.{compound, statement}
use Rattle.typing.proofs.Rows.{behind_nothing}
use Rattle.resolver.specs.Made.{MakesStmt, statement_part}
use Rattle.resolver.proofs.blocks.statement_part.Goals as goal

-- one of them didn't come
pub returns-in_err-all_came-clause-made : goal.returns-in_err-all_came-clause-made
returns-in_err-all_came-clause-made c =
    let behind = λ (outcome : Checked (After (Unit {0}))). and_then outcome
    (λ a. behind_marks a.look (compound (map statement c.args.written.now) a.passed)) in
    let stops : IsFault (statement_part c.args.written.now c.args.typer.now) c.in_err-all_came.field-0.0 = inr (ap behind c.in_err-all_came.ensures) in
    search rules

-- all came
pub returns-clause-made : goal.returns-clause-made
returns-clause-made c =
    let behind = λ (outcome : Checked (After (Unit {0}))). and_then outcome
    (λ a. behind_marks a.look (compound (map statement c.args.written.now) a.passed)) in
    subst (λ outcome. MakesStmt outcome c.compound.result c.compound.new.typer)
    (sym (ap behind c.in_ok-all_came.ensures ∙ behind_nothing (compound (map statement c.args.written.now) c.args.typer.now))) c.compound.ensures.made
