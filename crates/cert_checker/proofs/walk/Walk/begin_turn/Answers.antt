use Rattle.typed_tree.specs.declared.tree.Tree.{Tree}
use Rattle.checker_loops.specs.Growths.{growths_begun}
use Rattle.checker_loops.specs.View.{claims_of_round, said_turns}
use Rattle.checker_trail.proofs.Ways.{moves-told}
use Rattle.cert_checker.proofs.Steps.{moved}
use Rattle.cert_checker.proofs.walk.Walk.begin_turn.Goals as goal

pub returns : goal.returns
returns c =
    let turns = c.args.turns.now in
    moved (moves-told (λ (tree : Tree). growths_begun tree (said_turns turns) (claims_of_round turns.round).facts) c.begin_turn.ensures c.begin.ensures)
