use Rattle.std.proofs.Common.{◌≡◌, ◌∙◌, ap, ap₂, map, List, ℕ}
use Rattle.std.specs.Global.{Vec}
use Rattle.typed_tree.specs.declared.tree.Tree.{Tree}
use Rattle.certificate.specs.Contents.{said_fact}
use Rattle.checker_state.specs.Loops.{with_claims}
use Rattle.checker_trail.proofs.Ways.{moves-as, moves-told}
use Rattle.checker_loops.specs.Loops.{all_said}
use Rattle.checker_loops.specs.Starts.{all_declared, block_start}
use Rattle.checker_loops.specs.BlockView.{all_begun, own_roots}
use Rattle.checker_loops.proofs.Beginning.{start-is}
use Rattle.checker_loops.proofs.starts.begin_block.Goals as goal

pub returns-clause-begins : goal.returns-clause-begins
returns-clause-begins c = λ rules table start.
    let tree = c.args.state.now.table.now in
    let block = c.args.block in
    let facts = map said_fact c.args.facts.now in
    let given : List (List ℕ) = map (λ (row : Vec ℕ). row.items) c.args.declared.now in
    let roots : c.own_roots.result.now ≡ own_roots tree (all_declared tree) block =
    c.own_roots.ensures ∙ ap (λ (t : Tree). own_roots t given block) (c.tree.ensures ∙ c.table.ensures)
    ∙ ap (λ (rows : List (List ℕ)). own_roots tree rows block) table in
    moves-as (λ _. block_start rules tree block facts)
    (moves-told (λ (t : Tree). with_claims (all_said t facts)) c.begin_all.ensures c.claim_facts.ensures)
    (ap (with_claims (all_said tree facts)) (ap₂ (all_begun tree block) roots start ∙ start-is tree block rules))
