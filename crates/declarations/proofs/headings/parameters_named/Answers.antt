use Rattle.std.proofs.Common.{rules, ◌≡◌, [], ◌∷◌, ◌++◌, subst, ◌+◌, arith}
use Rattle.std.proofs.lemmas.List.{get_or_default}
use Rattle.typing.specs.Routines.{declared}
use Rattle.declarations.proofs.HeadingForms.{NamedFrom, named_next}
use Rattle.declarations.proofs.Kept.{declared_keeps, names_stay}
use Rattle.declarations.proofs.headings.parameters_named.Goals as goal

-- one parameter more is passed
pub loop-name-preserved : goal.loop-name-preserved
loop-name-preserved c =
    let block = c.args.number in
    let kind = c.args.kind in
    let type_id = c.args.type_id in
    let names = c.args.names.now in
    let i = c.loop-name.name-index in
    let roots = c.loop-name.roots.items in
    let root = c.in_ok-variable.field-0 in
    let now = c.loop-name.typer in
    let new = c.variable.new.self in
    let passes = c.in_ok-variable.ensures in
    let next = named_next block kind type_id names c.args.typer.now i _ roots now c.loop-name-test.true (get_or_default names i _ _ c.loop-name-test.true)
    c.loop-name.invariant.left root new passes in
    let pushed : roots ++ root ∷ [] ≡ c.push_reserved.new.self.items = search (rules, c.push_reserved.ensures.items) in
    record {
      left = subst (λ l. NamedFrom block kind type_id names c.args.typer.now (i + 1) l new) pushed next;
      known = names_stay (declared block kind type_id _) (declared_keeps block kind type_id _) root [] now new passes names c.loop-name.invariant.known;
      count = omega (arith, c.push_reserved.ensures.len);
      room = omega (arith, c.push_reserved.ensures.capacity);
    }
