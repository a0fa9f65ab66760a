-- What becomes longer of what is held where first indexes of a row become defined, and where that stands. It does not
-- say what is held from there on.
use Rattle.std.specs.Prelude.{◌≡◌, ℕ, suc, ◌<◌, ◌≤◌, List, [], ◌∷◌, Option, Some, None, length, map, slice_index_or}
use Rattle.std.specs.List.{filter_map, remove}
use Rattle.checker_state.specs.declared.held.Held.{Held as KeptHeld}
use Rattle.checker_state.specs.Bounds.{Bound}
use Rattle.checker_state.specs.State.{Facts, Held}
use Rattle.checker_state.specs.Stores.{longer}
use Rattle.checker_state.specs.View.{said_held}

-- only what stands between two places may
pub record AreNear (known : Facts) (row : ℕ) (indexes : List Bound) (held : List Held) (first end : ℕ) : Type 0 where
  pub begins : first ≤ length held
  pub ends : end ≤ length held
  pub before : (i : ℕ) (none : Held) → i < first → longer known row indexes (slice_index_or held i none) ≡ None
  pub behind : (i : ℕ) (none : Held) → end ≤ i → i < length held
      → longer known row indexes (slice_index_or held i none) ≡ None

-- the places, counted from a number, of those of which something becomes
abbrev pub place_if : Option Held → ℕ → List ℕ → List ℕ
place_if None place places = places
place_if (Some now) place places = place ∷ places

abbrev pub places_from : (Held → Option Held) → ℕ → List Held → List ℕ
places_from change place [] = []
places_from change place (one ∷ held) = place_if (change one) place (places_from change (suc place) held)

-- those that stand at none of some places
abbrev pub without : List ℕ → List Held → List Held
without [] held = held
without (place ∷ places) held = remove (without places held) place

-- where those stand that become longer, and what becomes of them
pub record AreLonger (known : Facts) (row : ℕ) (indexes : List Bound) (places : List ℕ) (more : List KeptHeld)
    (held : List Held) : Type 0 where
  pub places_are : places ≡ places_from (longer known row indexes) 0 held
  pub more_are : map said_held more ≡ filter_map (longer known row indexes) held
