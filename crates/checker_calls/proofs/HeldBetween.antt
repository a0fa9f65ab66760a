-- What is held between limits, where a run comes and where none does.
use Rattle.std.proofs.Common.{◌≡◌, refl, ℕ, Bool, true, false, cond, List, map}
use Rattle.typed_tree.specs.declared.tree.Tree.{Tree}
use Rattle.checker_rows.specs.Rows.{indexes_at, rows_of}
use Rattle.checker_state.specs.State.{Dead, Facts, Live, State, is_dead, is_had}
use Rattle.checker_calls.specs.Entry.{Between, holds_between, wanted_between}

module _ (tree : Tree) (known : Facts) (row : ℕ) (limits : List Between) where
  abbrev seen_by : Bool → State
  seen_by dead = cond dead Dead (Live known)

  pub live-held : (dead : Bool) → is_dead (seen_by dead) ≡ false
      → is_had known (indexes_at (rows_of tree) row) row (map (wanted_between tree (seen_by dead)) limits) ≡ holds_between tree (seen_by dead) row limits
  live-held true is = absurd (cc)
  live-held false is = refl

  pub dead-held : (dead : Bool) → is_dead (seen_by dead) ≡ true → false ≡ holds_between tree (seen_by dead) row limits
  dead-held true is = refl
  dead-held false is = absurd (cc)
