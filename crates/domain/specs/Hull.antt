-- Hulls: what is known of a set (ISO 7185:1990, 6.4.3.4) is a range in which all its members lie. Which sets a hull
-- has, and the hulls of sets that are made of members (6.7.1). The empty set is a set of each hull. Hulls are ordered,
-- joined and met as their ranges are. It does not say which members the sets of a type may have.
use Rattle.std.specs.Prelude.{◌≡◌, ℕ, true, ℤ, pos, ◌≤ℤ◌}
use Rattle.domain.specs.Interval.{Interval, HasMember, common, at_least, at_most}
use Rattle.members.specs.Members.{has}

-- a set has its members in a range
abbrev pub HasSet : Interval → ℕ → Type 0
HasSet hull set = (n : ℤ) → has set n ≡ true → HasMember hull n

-- the outer hull has each set of the inner one
abbrev pub IncludesSets : Interval → Interval → Type 0
IncludesSets outer inner = (set : ℕ) → HasSet inner set → HasSet outer set

-- the numbers that can be members
abbrev pub members : Interval
members = record { first = pos 0; last = pos 127 }

-- the ends of a hull are such numbers
abbrev pub IsHull : Interval → Type 0
IsHull range = (pos 0 ≤ℤ range.first) × (range.last ≤ℤ pos 127)

-- the hull of the sets with members in a range
abbrev pub hull_of : Interval → Interval
hull_of range = common range members

-- the hull of the sets of all members from a number of one range to a number of another
abbrev pub hull_between : Interval → Interval → Interval
hull_between first last = at_most last.last (at_least first.first members)
