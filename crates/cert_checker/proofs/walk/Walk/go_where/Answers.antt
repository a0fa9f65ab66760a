use Rattle.std.proofs.Common.{subst, List}
use Rattle.typed_tree.specs.declared.tree.Tree.{Tree}
use Rattle.domain.specs.Interval.{Interval}
use Rattle.checker_rows.specs.Rows.{is_ordinal_variable}
use Rattle.checker_state.specs.Conditions.{branched}
use Rattle.checker_state.specs.State.{State}
use Rattle.checker_state.specs.Values.{known_range}
use Rattle.checker_trail.proofs.Ways.{moves-told}
use Rattle.checker_sides.specs.Sides.{sided}
use Rattle.checker_expressions.specs.Walk.{changed_by}
use Rattle.checker_expressions.specs.declared.noting.Noted.{Noted}
use Rattle.cert_checker.specs.View.{WalkGoes, at_state}
use Rattle.cert_checker.proofs.Steps.{moved}
use Rattle.cert_checker.proofs.walk.Walk.go_where.Goals as goal

pub returns : goal.returns
returns c =
    let old = c.args.self.now in
    let truth = c.args.truth in
    let condition = c.args.condition.now in
    let tell = λ (notes : List Noted) (tree : Tree) (state : State). sided tree truth condition notes state in
    let goes = λ (notes : List Noted) (range : Interval). WalkGoes
    (changed_by (λ state. tell notes old.flow.state.table.now (branched (is_ordinal_variable old.flow.state.table.now) truth condition range state))) old
    (at_state c.meet_sides.new.state old) tt in
    subst (λ (notes : List Noted). goes notes (known_range c.args.valued.now.known)) c.deref.ensures.value
    (subst (λ (range : Interval). goes c.deref.result.now range) c.range.ensures
    (moved (moves-told (tell c.deref.result.now) c.branch-state.ensures c.meet_sides.ensures)))
