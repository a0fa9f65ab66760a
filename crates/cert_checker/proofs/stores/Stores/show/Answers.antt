use Rattle.std.proofs.Common.{ap, sym, ◌∙◌, ◌≡◌, length, List, map, rules, true}
use Rattle.std.specs.Bool.{◌==◌}
use Rattle.typed_tree.specs.declared.tree.Tree.{Tree}
use Rattle.checker_loops.specs.Aliases.{Stored, with_aliases_stored}
use Rattle.checker_ways.specs.View.{said_stored}
use Rattle.checker_trail.proofs.Ways.{moves-as, moves-stay}
use Rattle.checker_trail.specs.Trail.{seen}
use Rattle.cert_checker.specs.StoresView.{said_stores}
use Rattle.cert_checker.specs.View.{row_stored}
use Rattle.cert_checker.proofs.StoresMade.{unseen}
use Rattle.cert_checker.proofs.stores.Stores.show.Goals as goal

pub returns-then-is_empty : goal.returns-then-is_empty
returns-then-is_empty c =
    let state = c.args.state.now in
    let aliases = c.args.aliases.now in
    let stored = map (row_stored state.table.now) (said_stores c.args.self.now) in
    let none : (length aliases == 0) ≡ true = search (rules, c.is_empty.ensures, c.if-is_empty.true) in
    moves-stay (with_aliases_stored state.table.now aliases stored) state (sym (unseen state.table.now aliases stored (seen state) none))

pub returns-in-Ok : goal.returns-in-Ok
returns-in-Ok c =
    let state = c.args.state.now in
    let aliases = c.args.aliases.now in
    let stores = said_stores c.args.self.now in
    moves-as (with_aliases_stored state.table.now aliases (map (row_stored state.table.now) stores)) c.store.ensures
    (ap (λ (stored : List Stored). with_aliases_stored state.table.now aliases stored (seen state))
    (ap (map said_stored) c.deref.ensures.value ∙ c.in-Ok.ensures ∙ ap (λ (tree : Tree). map (row_stored tree) stores) c.table.ensures))
