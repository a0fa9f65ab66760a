use Rattle.std.proofs.Common.{rules, ◌≡◌, [], Ok, ap, sym, subst, ◌∙◌}
use Rattle.typing.specs.Outcomes.{IsFault}
use Rattle.typing.specs.Passing.{Passing, after}
use Rattle.typing.specs.Routines.{heading, new_heading}
use Rattle.declarations.specs.Parts.{name_of_result}
use Rattle.declarations.proofs.HeadingForms.{heading_is}
use Rattle.declarations.proofs.headings.begin.Goals as goal

-- the heading stops
pub returns-in_err-heading : goal.returns-in_err-heading
unfolding new_heading
returns-in_err-heading c =
    let why = c.in_err-heading.field-0.0 in
    let name = c.args.name.now in
    let stops = subst (λ (p : Passing (Unit {0})). IsFault (p c.declare.new.self) why)
    (sym (heading_is c.in_ok-number.number name c.args.groups.now (name_of_result c.args.of_result))) c.in_err-heading.ensures in
    search (rules, stops)

-- the heading was passed
pub returns : goal.returns
unfolding new_heading
returns c =
    let name = c.args.name.now in
    let passes : heading c.in_ok-number.number name c.args.groups.now (name_of_result c.args.of_result) c.declare.new.self
    ≡ Ok (after tt [] c.heading.new.typer) =
    ap (λ (p : Passing (Unit {0})). p c.declare.new.self) (heading_is c.in_ok-number.number name c.args.groups.now (name_of_result c.args.of_result))
    ∙ c.in_ok-heading.ensures in
    grind (rules, passes)
