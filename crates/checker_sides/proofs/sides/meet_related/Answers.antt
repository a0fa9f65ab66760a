use Rattle.std.proofs.Common.{◌≡◌, ◌∙◌, sym, ap, ap₂}
use Rattle.domain.specs.Interval.{Interval}
use Rattle.typed_tree.specs.declared.tree.Relation.{Relation}
use Rattle.checker_state.specs.declared.value.Known.{Known}
use Rattle.checker_trail.specs.Trail.{seen}
use Rattle.checker_trail.proofs.Ways.{moves-as, moves-then}
use Rattle.checker_sides.specs.Sides.{let_through, met, relation_met}
use Rattle.checker_sides.proofs.sides.meet_related.Goals as goal

pub returns : goal.returns
returns c =
    let state = seen c.args.state.now in
    let left = c.args.left in
    let right = c.args.right in
    let a = c.in-Ordinal.one in
    let b = c.in-Ordinal-right.other in
    moves-as (relation_met c.args.relation left right (c.args.noted.now.left, c.args.noted.now.right)) (moves-then c.meet.ensures c.meet-2.ensures)
    (ap₂ (λ (two one : Interval). met right two (met left one state))
    (c.let_through-2.ensures ∙ ap (λ (r : Relation). let_through r a b) c.mirrored.ensures) c.let_through.ensures
    ∙ ap₂ (λ (one two : Known). relation_met c.args.relation left right (one, two) state) (sym c.in-Ordinal.is) (sym c.in-Ordinal-right.is))
