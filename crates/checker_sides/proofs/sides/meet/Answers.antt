use Rattle.std.proofs.Common.{rules, ◌≡◌, ◌∙◌, sym, ap, ap₂, ◌-ℤ◌, Option, to_z, of_z, w64}
use Rattle.std.proofs.lemmas.Int.{to_z-of_z}
use Rattle.domain.specs.Interval.{Interval, at_least, at_most}
use Rattle.checker_state.specs.Conditions.{narrowed}
use Rattle.checker_trail.specs.Trail.{seen}
use Rattle.checker_trail.proofs.Ways.{moves-as, moves-then}
use Rattle.checker_sides.specs.Sides.{met}
use Rattle.checker_sides.specs.declared.sides.Side.{Side}
use Rattle.checker_sides.proofs.sides.meet.Goals as goal

pub returns-in-Some : goal.returns-in-Some
returns-in-Some c =
    let state = seen c.args.state.now in
    let side = c.in-Some.side in
    let range = c.args.range in
    let last : to_z w64 (of_z w64 c.difference-last.result) ≡ range.last -ℤ side.number = search (rules, to_z-of_z) in
    let first : to_z w64 (of_z w64 c.difference-first.result) ≡ range.first -ℤ side.number = search (rules, to_z-of_z) in
    moves-as (met c.args.side range) (moves-then c.set_range.ensures c.unless_empty.ensures)
    (ap (λ (r : Interval). narrowed side.row r state)
    (c.at_least-range.ensures.ends ∙ ap₂ at_least first (c.at_most.ensures.ends ∙ ap₂ at_most last c.row_range.ensures))
    ∙ ap (λ (one : Option Side). met one range state) (sym c.in-Some.is))
