use Rattle.std.proofs.Common.{◌≡◌, drop, option_map}
use Rattle.types.specs.Components.{components_of}
use Rattle.meaning.specs.Store.{Store}
use Rattle.interpreter_state.specs.Views.{place_seen}
use Rattle.interpreter.specs.Pending.{StoreAgrees, kept_all}
use Rattle.interpreter.proofs.interpreter.Run.keep_row.Given as goal

-- the store alone has changed, and what is left to keep in it is that of the components that are left
abbrev pub invariant-loop-component : goal.invariant-loop-component
invariant-loop-component l =
    (l.self ≡ record l.initial.self { store = l.self.store })
    × ((s : Store) → StoreAgrees l.initial.self.store s →
    (t : Store) × StoreAgrees l.self.store t
    × (kept_all s (option_map place_seen l.place) (components_of l.initial.self.tree.now.types l.type_id) l.row ≡
    kept_all t (option_map place_seen l.place) (drop l.component (components_of l.initial.self.tree.now.types l.type_id)) (drop l.component l.row)))
