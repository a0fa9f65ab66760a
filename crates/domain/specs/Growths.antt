-- Growths: what is known of a number that changes with the turns of a for statement (ISO 7185:1990, 6.8.3.9): between
-- which numbers it lies behind so many of them. Their members, their order, their join and meet, and what steps and
-- turns make of them. It does not say which statements are steps, nor how many turns a loop makes.
use Rattle.std.specs.Prelude.{ℕ, ℤ, pos, ◌+ℤ◌, ◌*ℤ◌, neg_ℤ, ◌≤ℤ◌, int_le, Bool, ◌&&◌, if◌then◌else◌, Option, Some, None}
use Rattle.std.specs.Int.{int_min, int_max}
use Rattle.domain.specs.declared.growth.Growth.{Growth}
use Rattle.domain.specs.Interval.{Interval, between, has_number, nearest_end}

-- what a number that begins as another, and to which each of k turns adds a step, is behind them
abbrev pub behind : (begun step k : ℤ) → ℤ
behind begun step k = begun +ℤ step *ℤ k

-- a number behind k turns lies between the least and the greatest one that there may be
abbrev pub HasPair : Growth → ℕ × ℤ → Type 0
HasPair g pair =
    (behind g.first g.first_step (pos pair.0) ≤ℤ pair.1) × (pair.1 ≤ℤ behind g.last g.last_step (pos pair.0))

-- neither where it begins nor in its step is one greater than another
abbrev pub is_no_greater : (begun step other_begun other_step : ℤ) → Bool
is_no_greater begun step other_begun other_step = int_le begun other_begun && int_le step other_step

-- neither lower number is less and neither upper number is greater
abbrev pub is_within : Growth → Growth → Bool
is_within g h =
    is_no_greater h.first h.first_step g.first g.first_step && is_no_greater g.last g.last_step h.last h.last_step

-- the least of the lower numbers and the greatest of the upper ones
abbrev pub joined : Growth → Growth → Growth
joined g h = record {
  first = int_min g.first h.first;
  first_step = int_min g.first_step h.first_step;
  last = int_max g.last h.last;
  last_step = int_max g.last_step h.last_step;
}

-- the smaller one where the order tells, otherwise the first
abbrev pub common : Growth → Growth → Growth
common g h = if is_within g h then g else (if is_within h g then h else g)

-- the numbers that a certificate may write
abbrev pub written : Interval
written = record { first = neg_ℤ (pos 2147483647); last = pos 2147483647 }

-- the sums of a number and one of a range, if both ends may be written
abbrev pub stepped : Interval → Growth → Option Growth
stepped range g =
    if has_number written (g.first +ℤ range.first) && has_number written (g.last +ℤ range.last)
    then Some (record g { first = g.first +ℤ range.first; last = g.last +ℤ range.last })
    else None

-- what holds behind one turn more
abbrev pub next : Growth → Growth
next g = record g { first = g.first +ℤ g.first_step; last = g.last +ℤ g.last_step }

-- the numbers behind at most so many turns, each end the nearest that a range may have
abbrev pub reach : ℤ → Growth → Interval
reach most g =
    between
    (nearest_end (int_min g.first (behind g.first g.first_step most)))
    (nearest_end (int_max g.last (behind g.last g.last_step most)))
