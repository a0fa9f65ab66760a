use Rattle.std.proofs.Common.{rules, ◌≡◌, false, true}
use Rattle.types.specs.Types.{is_structured_kind, kind_of}
use Rattle.typed_tree.proofs.Looks.{look_assign, look_copy}
use Rattle.typed_tree.specs.Accesses.{origin_of}
use Rattle.typed_tree.specs.Look.{Fits}
use Rattle.typing.specs.Expressions.{expression, kind_now}
use Rattle.typing.specs.Statements as spec
use Rattle.expression_resolver.specs.Values.{tested_as}
use Rattle.expression_resolver.proofs.Fitting.{by_value}
use Rattle.resolver.specs.Made.{accessed_of}
use Rattle.resolver.proofs.Targets.{scalar_kind, scalar_look, structured_kind}
use Rattle.resolver.proofs.assignments.assignment.Goals as goal

-- its target is refused
pub returns-in_err-target-clause-made : goal.returns-in_err-target-clause-made
unfolding spec.assignment
returns-in_err-target-clause-made c = search rules

-- ---- it is structured

pub returns-in-Err-clause-made : goal.returns-in-Err-clause-made
unfolding spec.assignment spec.copied kind_now
returns-in-Err-clause-made c =
    let test : is_structured_kind (kind_of c.target.new.typer.types c.in_ok-target.target.type_id) ≡ true = search rules in
    let structured = structured_kind (kind_of c.target.new.typer.types c.in_ok-target.target.type_id) test in
    search (rules, structured)

pub returns-then-is_structured-clause-made : goal.returns-then-is_structured-clause-made
unfolding spec.assignment spec.copied kind_now
returns-then-is_structured-clause-made c =
    let test : is_structured_kind (kind_of c.target.new.typer.types c.in_ok-target.target.type_id) ≡ true = search rules in
    let structured = structured_kind (kind_of c.target.new.typer.types c.in_ok-target.target.type_id) test in
    search (rules, structured, look_copy)

-- ---- it is an ordinal or a set

pub returns-in-Err-fitted-clause-made : goal.returns-in-Err-fitted-clause-made
unfolding spec.assignment spec.assigned kind_now
returns-in-Err-fitted-clause-made c =
    let made = c.in_ok-target.target in
    let kind = kind_of c.target.new.typer.types made.type_id in
    let test : is_structured_kind kind ≡ false = search rules in
    let scalar = scalar_kind kind (accessed_of made) c.args.becomes (expression c.args.value.now) test in
    let goes = by_value (tested_as kind) made.type_id c.args.becomes (expression c.args.value.now)
    (λ fits. Fits (origin_of made.access) made.access.selectors.items fits) c.target.new.typer in
    search (rules, scalar, goes)

pub returns-clause-made : goal.returns-clause-made
unfolding spec.assignment spec.assigned kind_now
returns-clause-made c =
    let made = c.in_ok-target.target in
    let kind = kind_of c.target.new.typer.types made.type_id in
    let test : is_structured_kind kind ≡ false = search rules in
    let scalar = scalar_kind kind (accessed_of made) c.args.becomes (expression c.args.value.now) test in
    let looks = scalar_look kind made test in
    let goes = by_value (tested_as kind) made.type_id c.args.becomes (expression c.args.value.now)
    (λ fits. Fits (origin_of made.access) made.access.selectors.items fits) c.target.new.typer in
    search (rules, scalar, looks, goes, look_assign)
