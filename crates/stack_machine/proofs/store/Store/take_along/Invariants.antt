use Rattle.std.proofs.Common.{◌≡◌, ◌+◌, ◌++◌, take, drop, length}
use Rattle.stack_machine.proofs.store.Store.take_along.Given as goal

abbrev pub invariant-loop-offset : goal.invariant-loop-offset
invariant-loop-offset l =
    (length l.self.cells ≡ length l.initial.self.cells) × (l.self.used ≡ l.initial.self.used) × (l.self.frame ≡ l.initial.self.frame) ×
    (l.self.limit ≡ l.initial.self.limit) × (l.self.size ≡ l.initial.self.size)
    × (take (l.self.frame + l.offset) l.self.cells ≡ take l.self.frame l.initial.self.cells ++ take l.offset
    (drop l.first l.initial.self.cells)) × (drop (l.first + l.offset) l.self.cells ≡ drop (l.first + l.offset) l.initial.self.cells)
