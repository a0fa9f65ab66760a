use Rattle.std.proofs.Common.{ap, map}
use Rattle.typed_tree.specs.declared.tree.Tree.{Tree}
use Rattle.certificate.specs.Contents.{said_fact}
use Rattle.checker_rows.specs.Limits.{row_limits}
use Rattle.checker_rows.specs.Rows.{rows_of, rows_touched}
use Rattle.checker_state.specs.Changes.{all_changed}
use Rattle.checker_state.specs.Loops.{all_forgotten, with_claims, with_limits}
use Rattle.checker_trail.specs.Trail.{seen}
use Rattle.checker_trail.proofs.Ways.{moves-as, moves-then, moves-told}
use Rattle.checker_loops.specs.Loops.{all_said, head_of, touched}
use Rattle.checker_loops.specs.View.{head_round}
use Rattle.checker_loops.proofs.rounds.Round.head.Goals as goal

pub returns : goal.returns
returns c =
    let tree = c.args.state.now.table.now in
    let round = head_round c.args.self.now in
    let facts = map said_fact c.args.self.now.facts.now in
    let state = seen c.args.state.now in
    moves-as (head_of tree round facts)
    (moves-told (λ (tree : Tree). with_claims (all_said tree facts))
    (moves-then (moves-then c.change_all.ensures c.touch_all.ensures) c.forget_all.ensures) c.claim_facts.ensures)
    (ap (λ (rows : Tree). with_claims (all_said tree facts)
    (all_forgotten round.controls (with_limits (row_limits (rows_of rows)) (rows_touched rows (touched round)) (all_changed (touched round) state))))
    c.table-rows.ensures)
