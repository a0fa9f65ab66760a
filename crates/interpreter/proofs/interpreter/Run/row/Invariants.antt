use Rattle.std.proofs.Common.{◌≡◌, drop, option_map}
use Rattle.types.specs.Components.{components_of}
use Rattle.meaning.specs.Store.{Store}
use Rattle.interpreter_state.specs.Views.{place_seen}
use Rattle.interpreter.specs.Pending.{StoreAgrees, held_all}
use Rattle.interpreter.proofs.Rows.{in_front}
use Rattle.interpreter.proofs.interpreter.Run.row.Given as goal

-- the values so far stand before those of the components that are left
abbrev pub invariant-loop-component : goal.invariant-loop-component
invariant-loop-component l =
    (s : Store) → StoreAgrees l.self.store s →
    held_all s (option_map place_seen l.place) (components_of l.self.tree.now.types l.type_id) ≡
    in_front l.row.items (held_all s (option_map place_seen l.place) (drop l.component (components_of l.self.tree.now.types l.type_id)))
