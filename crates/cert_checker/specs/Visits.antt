-- How the checker counts the entries of its walk. It does not say what is entered.
use Rattle.std.specs.Prelude.{ℕ, ◌+◌, ◌-◌, ◌^◌, min, Bool, true, ◌&&◌, nat_eq}

-- a counter of entries: how many there were, and whether each came at its own number
pub record Visits : Type 0 where
  pub entries : ℕ
  pub are_in_order : Bool

-- a counter goes no further than this: no memory holds so many entries
abbrev pub most_counted : ℕ
most_counted = 2 ^ 64 - 1

-- no entry yet
abbrev pub none_counted : Visits
none_counted = record { entries = 0; are_in_order = true }

-- the counter after an entry of a number
abbrev pub counted : ℕ → Visits → Visits
counted number visits = record {
  entries = min (visits.entries + 1) most_counted;
  are_in_order = visits.are_in_order && nat_eq number visits.entries;
}
