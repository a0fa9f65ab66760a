use Rattle.std.proofs.Common.{◌≡◌, ℕ, ◌<◌, length, slice_index}
use Rattle.check_remover.specs.Strip.{is_among, moved_place}
use Rattle.check_remover.proofs.places.places_of.Given as goal

abbrev pub invariant-loop-instr : goal.invariant-loop-instr
invariant-loop-instr l =
    (length l.places.items ≡ l.instr-index) × ((place : ℕ) → place < l.instr-index → slice_index l.places.items place ≡ moved_place (is_among l.sites)
    l.code place) × (l.kept ≡ moved_place (is_among l.sites) l.code l.instr-index)
