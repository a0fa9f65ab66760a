use Rattle.std.proofs.Common.{get_or, take}
use Rattle.std.proofs.lemmas.List.{get_or_default}
use Rattle.typed_tree.specs.declared.tree.Tree.{Tree}
use Rattle.checker_rows.specs.View.{numbers}
use Rattle.checker_loops.specs.Aliases.{alias_joined, aliases_joined}
use Rattle.checker_ways.specs.View.{said_stored}
use Rattle.checker_ways.proofs.Stored.{alias-moves, aliases-over}
use Rattle.checker_loops.proofs.Told.{told-more}
use Rattle.checker_ways.proofs.aliases.join_aliases.Goals as goal

pub loop-alias-preserved : goal.loop-alias-preserved
loop-alias-preserved c =
    let tree = c.args.state.now.table.now in
    let stored = said_stored c.args.stored.now in
    let aliases = c.args.aliases.now in
    let i = c.loop-alias.alias-index in
    let alias = get_or aliases i 0 in
    told-more (aliases_joined tree stored) (λ (t : Tree). alias_joined t stored alias) aliases i alias c.loop-alias-test.true
    (get_or_default aliases i 0 alias c.loop-alias-test.true) c.loop-alias.invariant
    (alias-moves stored c.table.result.now alias (numbers c.of_variable-rows.result) c.table.ensures c.of_variable-rows.ensures c.join_rows.ensures)
    (aliases-over tree stored (take i aliases) alias)
