use Rattle.std.proofs.Common.{List, map, take}
use Rattle.typed_tree.specs.declared.tree.Tree.{Tree}
use Rattle.checker_ways.specs.declared.aliases.Stored.{Stored as KeptStored}
use Rattle.checker_loops.specs.Aliases.{aliases_joined, with_aliases_stored}
use Rattle.checker_ways.specs.View.{said_stored}
use Rattle.checker_ways.proofs.Stored.{stored-over}
use Rattle.checker_loops.proofs.Told.{told-more}
use Rattle.checker_ways.proofs.aliases.store.Goals as goal

pub loop-one-preserved : goal.loop-one-preserved
loop-one-preserved c =
    let tree = c.args.state.now.table.now in
    let aliases = c.args.aliases.now in
    let stored = c.args.stored.now in
    let i = c.loop-one.one-index in
    let one = c.one-item.result in
    told-more (λ (some : List KeptStored). with_aliases_stored tree aliases (map said_stored some))
    (λ (t : Tree). aliases_joined t (said_stored one) aliases) stored i one c.loop-one-test.true c.one-item.is c.loop-one.invariant
    c.join_aliases.ensures (stored-over tree aliases (take i stored) one)
