-- How far what is held stands in its order, and what stands together in it. It does not say what is held.
use Rattle.std.specs.Prelude.{◌≡◌, ℕ, ◌<◌, ◌≤◌, Bool, true, false, List, length}
use Rattle.std.specs.Prelude.{slice_index_or}
use Rattle.std.specs.declared.cmp.Ordering.{Ordering}
use Rattle.std.specs.declared.cmp.Ordering.TheVariants.{Less, Equal, Greater}
use Rattle.checker_known.specs.Pairs.{told_around, told_at, told_of}
use Rattle.checker_state.specs.declared.held.Group.{Group}
use Rattle.checker_state.specs.State.{Held, group_of, group_order, held_order}

-- ---- disorder

-- one that doesn't come before the next
abbrev pub wrong : Ordering → ℕ
wrong Less = 0
wrong Equal = 1
wrong Greater = 1

abbrev pub out_of_order : Held → Held → ℕ
out_of_order one next = wrong (held_order one next)

-- how many of some don't come before the next
abbrev pub disorder_of : List Held → ℕ
disorder_of held = told_of out_of_order held

-- the one before a place doesn't come before the one at it, if there are both
abbrev pub wrong_at : ℕ → List Held → ℕ
wrong_at place held = told_at out_of_order place held

-- the same of a place and the next
abbrev pub wrong_around : ℕ → List Held → ℕ
wrong_around place held = told_around out_of_order place held

-- ---- what stands together

-- how something that is held stands to those that stand together
abbrev pub stands : Group → Held → Ordering
stands place one = group_order (group_of one) place

-- it comes before them, or is among them and these count too
abbrev pub comes_before : (with_them : Bool) → Ordering → Bool
comes_before with_them Less = true
comes_before with_them Equal = with_them
comes_before with_them Greater = false

-- between two places stand those of a group, perhaps with others
pub record AreBetween (group : Group) (held : List Held) (first end : ℕ) : Type 0 where
  pub begins : first ≤ length held
  pub ends : end ≤ length held
  pub before : (i : ℕ) (one : Held) → i < first → i < length held → stands group (slice_index_or held i one) ≡ Less
  pub behind : (i : ℕ) (one : Held) → end ≤ i → i < length held → stands group (slice_index_or held i one) ≡ Greater

-- all between two places are of a group
pub record AreOf (group : Group) (held : List Held) (first end : ℕ) : Type 0 where
  pub of : (i : ℕ) (one : Held) → first ≤ i → i < end → stands group (slice_index_or held i one) ≡ Equal
