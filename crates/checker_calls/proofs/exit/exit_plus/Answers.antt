use Rattle.std.proofs.Common.{rules, ◌≡◌, ◌∙◌, sym, ap, Some, of_z, to_z, w32}
use Rattle.checker_calls.specs.Exit.{exit_bound_of}
use Rattle.checker_calls.specs.View.{said_actual, said_found}
use Rattle.checker_calls.proofs.exit.exit_plus.Goals as goal

pub returns-in-Some : goal.returns-in-Some
returns-in-Some c =
    let tree = c.args.rows.now in
    let touches = c.args.touches.now in
    let root = c.args.root in
    let same : to_z w32 (of_z w32 c.args.number) ≡ c.args.number = search rules in
    c.exit_of_actual.ensures root
    ∙ ap (λ n. exit_bound_of tree touches root n (Some (said_actual c.in-Some.actual.now))) same
    ∙ ap (exit_bound_of tree touches root c.args.number) (ap said_found (sym c.in-Some.is) ∙ c.actual.ensures)
