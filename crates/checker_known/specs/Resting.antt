-- What is held, listed by the variables on whose values it rests: what a rebinding changes stands in the list of its
-- variable, and at some places. It does not say what becomes of it.
use Rattle.std.specs.Prelude.{◌≡◌, ◌⊎◌, ◌||◌, ℕ, suc, ◌<◌, ◌≤◌, Bool, true, false, List, [], ◌∷◌, length, map}
use Rattle.std.specs.Prelude.{Option, None, Some}
use Rattle.std.specs.Prelude.{slice_index_or, Contains}
use Rattle.std.specs.Ordering.{eq_by_cmp}
use Rattle.std.specs.List.{list_any}
use Rattle.std.specs.Global.{Vec}
use Rattle.checker_state.specs.declared.bound.Rebinding.{Rebinding}
use Rattle.checker_state.specs.declared.held.Held.{Held as KeptHeld}
use Rattle.checker_state.specs.State.{Held, held_order}
use Rattle.checker_state.specs.View.{held_by, root_of, said_held}
use Rattle.checker_known.specs.declared.resting.Resting.{Resting}

-- ---- lists

-- the list of a variable; one that isn't there has nothing
abbrev pub listed : List (Vec KeptHeld) → ℕ → List Held
listed lists root = map said_held (slice_index_or (map (λ list. list.items) lists) root [])

-- something stands in a list
abbrev pub has : List Held → Held → Bool
has list one = list_any (eq_by_cmp held_order one) list

-- it is left as it is
abbrev pub is_left : Held → Option Held → Bool
is_left one None = false
is_left one (Some other) = eq_by_cmp held_order one other

-- a rebinding leaves something as it is, or it stands in the list of the variable
abbrev pub IsListed : List (Vec KeptHeld) → Held → Type 0
IsListed lists one =
    (how : Rebinding) → (is_left one (held_by how one) || has (listed lists (root_of how)) one) ≡ true

-- all of what is held is listed
abbrev pub AreListed : List (Vec KeptHeld) → List Held → Type 0
AreListed lists held = (one : Held) → Contains held one → IsListed lists one

-- all is listed still that was
abbrev pub Keeps : (old new : List (Vec KeptHeld)) → Type 0
Keeps old new = (root : ℕ) (one : Held) → Contains (listed old root) one → Contains (listed new root) one

-- something stands in a list, and all that stood there does
pub record Puts (one : Held) (old new : List Held) : Type 0 where
  pub there : Contains new one
  pub keeps : (other : Held) → Contains old other → Contains new other

-- something stands in the lists of the variables that pass a test, and nothing was left out before
pub record Lists (test : ℕ → Bool) (one : Held) (old new : Resting) : Type 0 where
  pub was_whole : old.is_whole ≡ true
  pub there : (root : ℕ) → test root ≡ true → Contains (listed new.lists.items root) one
  pub keeps : Keeps old.lists.items new.lists.items

-- something more is listed, and nothing was left out before
pub record ListsMore (one : Held) (old new : Resting) : Type 0 where
  pub was_whole : old.is_whole ≡ true
  pub there : IsListed new.lists.items one
  pub keeps : Keeps old.lists.items new.lists.items

-- ---- places

-- places between two, each behind the one before
abbrev pub AreRising : (first : ℕ) (places : List ℕ) (end : ℕ) → Type 0
AreRising first [] end = first ≤ end
AreRising first (place ∷ places) end = (first ≤ place) × AreRising (suc place) places end

-- where something is held that is held at all
abbrev pub IsAt : Held → List Held → ℕ → Type 0
IsAt one held place = (place < length held) × (slice_index_or held place one ≡ one)

-- the place of one, if it is held
abbrev pub IsFound : Held → List Held → Option ℕ → Type 0
IsFound one held None = (place : ℕ) → IsAt one held place → ⊥
IsFound one held (Some place) = (place < length held) × ((other : ℕ) → IsAt one held other → other ≡ place)

-- a list has what stands at some places
abbrev pub HasAllAt : (places : List ℕ) → (held list : List Held) → Type 0
HasAllAt places held list = (one : Held) (place : ℕ) → Contains places place → IsAt one held place → Contains list one

-- places of what is held, in any order, with those of all that stands in a list
pub record AreFound (list : List Held) (held : List Held) (places : List ℕ) : Type 0 where
  pub inside : (place : ℕ) → Contains places place → place < length held
  pub there : (one : Held) (place : ℕ) → Contains list one → IsAt one held place → Contains places place

-- the same places, each behind the one before
pub record HaveAll (list : List Held) (held : List Held) (places : List ℕ) : Type 0 where
  pub rising : AreRising 0 places (length held)
  pub there : (one : Held) (place : ℕ) → Contains list one → IsAt one held place → Contains places place

-- places of what is held, with those of all that a rebinding changes
pub record AreChanging (how : Rebinding) (held : List Held) (places : List ℕ) : Type 0 where
  pub rising : AreRising 0 places (length held)
  pub others : (one : Held) (place : ℕ) → IsAt one held place → (held_by how one ≡ Some one) ⊎ Contains places place
