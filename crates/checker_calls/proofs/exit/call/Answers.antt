use Rattle.std.proofs.Common.{◌∙◌, ap, map}
use Rattle.typed_tree.specs.declared.tree.Tree.{Tree}
use Rattle.certificate.specs.Contents.{said_fact}
use Rattle.checker_trail.specs.Trail.{seen}
use Rattle.checker_trail.proofs.Ways.{moves-as}
use Rattle.checker_loops.specs.BlockView.{said_claims}
use Rattle.checker_calls.specs.Exit.{Touches, behind_call}
use Rattle.checker_calls.specs.View.{said_bindings}
use Rattle.checker_calls.specs.ExitView.{left_behind, touches_by}
use Rattle.checker_calls.proofs.exit.call.Goals as goal

pub returns-in-Ok : goal.returns-in-Ok
returns-in-Ok c =
    let pairs = c.args.pairs.now in
    let caller = c.args.caller in
    let block = c.args.block in
    let bindings = said_bindings c.args.bindings in
    let claims = said_claims c.args.claims in
    let facts = map said_fact c.args.claims.end.now in
    let state = seen c.args.state.now in
    moves-as (behind_call c.args.state.now.table.now pairs caller block bindings claims) c.go_behind.ensures
    (ap (λ (touches : Touches). left_behind c.table-rows.result.now block bindings touches facts state) c.in-Ok.ensures
    ∙ ap (λ (tree : Tree). left_behind tree block bindings (touches_by tree pairs caller bindings claims.changes facts) facts state) c.table-rows.ensures)
