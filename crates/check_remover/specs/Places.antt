-- Where the places of some code go. It does not say which instructions stay.
use Rattle.std.specs.Prelude.{◌≡◌, ℕ, ◌+◌, ◌-◌, ◌≤◌, List, length, slice_index, min}

-- these are the new places of 0 to the last place
pub record IsPlaces (to : ℕ → ℕ) (last : ℕ) (places : List ℕ) : Type 0 where
  pub count : length places ≡ last + 1
  pub each : (place : ℕ) → place ≤ last → slice_index places place ≡ to place

-- the new place of a place, that of the last one for all beyond it
abbrev pub new_place : List ℕ → ℕ → ℕ
new_place places place = slice_index places (min (length places - 1) place)
