use Rattle.std.proofs.Common.{◌∙◌, [], ap, map, ℕ, Bool, List}
use Rattle.std.specs.Prelude.{get_or}
use Rattle.checker_loops.specs.Loops.{Round, claims_at, controls_inside}
use Rattle.checker_loops.specs.View.{loop_aliases, said_claims}
use Rattle.checker_loops.proofs.Aliased.{aliases-at}
use Rattle.checker_loops.proofs.rounds.Round.of.Goals as goal

abbrev round : (changes controls aliases : List ℕ) → Bool → Round
round changes controls aliases counts = record { changes = changes; controls = controls; aliases = aliases; is_for = counts }

pub returns-clause-loop_is : goal.returns-clause-loop_is
returns-clause-loop_is c = λ listed all.
    let claims = map said_claims c.args.claims.now in
    let number = c.args.number in
    let controls = c.controls_inside.result.now in
    let aliases = c.aliases_at.result.now in
    let counts = c.is_for_statement.result in
    ap (λ found. round found controls aliases counts) c.changes_at.ensures
    ∙ ap (λ more. round (claims_at claims number).changes more aliases counts) c.controls_inside.ensures
    ∙ ap (λ found. round (claims_at claims number).changes (controls_inside c.args.tree.now number) found counts)
    (c.aliases_at.ensures ∙ ap (λ rows. get_or rows number []) all
    ∙ aliases-at c.args.tree.now listed claims number)
    ∙ ap (round (claims_at claims number).changes (controls_inside c.args.tree.now number)
    (loop_aliases c.args.tree.now listed claims number)) c.is_for_statement.ensures
