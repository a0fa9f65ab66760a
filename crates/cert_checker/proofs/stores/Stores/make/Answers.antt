use Rattle.std.proofs.Common.{ap, map}
use Rattle.checker_state.specs.Stores.{Reach, all_stored}
use Rattle.checker_state.specs.View.{said_reach}
use Rattle.checker_loops.specs.Aliases.{reach_unless_alias, with_aliases_stored}
use Rattle.checker_trail.proofs.Ways.{moves-as, moves-then}
use Rattle.checker_trail.specs.Trail.{seen}
use Rattle.cert_checker.specs.StoresView.{said_stores}
use Rattle.cert_checker.specs.View.{row_stored}
use Rattle.cert_checker.proofs.stores.Stores.make.Goals as goal

pub returns : goal.returns
returns c =
    let state = c.args.state.now in
    let tree = state.table.now in
    let aliases = c.args.aliases.now in
    let stores = said_stores c.args.self.now in
    moves-as (λ known. all_stored (reach_unless_alias aliases (said_reach c.args.reach)) stores
    (with_aliases_stored tree aliases (map (row_stored tree) stores) known)) (moves-then c.show.ensures c.store.ensures)
    (ap (λ (reach : Reach). all_stored reach stores (with_aliases_stored tree aliases (map (row_stored tree) stores) (seen state)))
    c.reach_unless_alias.ensures)
