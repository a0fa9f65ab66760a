use Rattle.std.proofs.Common.{◌≡◌, ◌+◌, ◌≤◌, take}
use Rattle.place.specs.Place.{place_after}
use Rattle.place.proofs.Place.after.Given as goal

abbrev pub invariant-loop-byte : goal.invariant-loop-byte
invariant-loop-byte l =
    (l.place ≡ place_after l.fn.self (take l.byte-index l.bytes)) × (l.place.line ≤ l.fn.self.line + l.byte-index) ×
    (l.place.column ≤ l.fn.self.column + l.byte-index)
