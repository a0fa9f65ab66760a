use Rattle.std.proofs.Common.{◌≡◌, length, map}
use Rattle.meaning.specs.Effect.{State}
use Rattle.meaning.specs.Store.{Environment, Store}
use Rattle.meaning.specs.Meaning.{assign_all}
use Rattle.interpreter_state.specs.Views.{operand_seen}
use Rattle.interpreter.specs.Pending.{Sees, StoreAgrees}
use Rattle.interpreter.proofs.interpreter.Run.assign_all.Given as goal

-- the store alone has changed, and what is left to assign in it is that of the parameters that are left
abbrev pub invariant-loop-root : goal.invariant-loop-root
invariant-loop-root l =
    (l.self ≡ record l.initial.self { store = l.self.store })
    × ((visible : Environment) (s : State) → Sees visible l.initial.self.tree.now l.initial.self.activation →
    StoreAgrees l.initial.self.store s.store → (t : Store) × StoreAgrees l.self.store t
    × (assign_all l.initial.self.tree.now visible l.parameters (map operand_seen l.arguments) s ≡
    assign_all l.initial.self.tree.now visible l.roots (map operand_seen l.left) (record s { store = t })))

abbrev pub decreases-loop-root : goal.decreases-loop-root
decreases-loop-root l = length l.roots
