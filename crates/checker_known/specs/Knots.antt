-- Where stretches of numbers of one row go on, each from the one before, and how many don't: knots. Where a row has
-- none, a number makes only those longer that begin or end near it. It does not say what is held.
use Rattle.std.specs.Prelude.{◌≡◌, ℕ, ◌+◌, ◌<◌, ◌≤◌, zero, suc, ◌-◌, min, int_le, nat_eq, not, Bool, false, ◌&&◌}
use Rattle.std.specs.Prelude.{List, [], ◌∷◌, Option, Some, None, if◌then◌else◌, length, slice_index_or, slice_set}
use Rattle.std.specs.Option.{is_none}
use Rattle.checker_state.specs.State.{Held, Span, Stretch, stretch_in}
use Rattle.checker_known.specs.Pairs.{told_of}

-- both bounds are numbers, and the first is at most the last
abbrev pub is_plain : Span → Bool
is_plain span =
    is_none span.first.root && (is_none span.last.root && int_le span.first.number span.last.number)

-- the first spans of two are plain, and that of the other ends no sooner
abbrev pub goes_on : (one other : List Span) → Bool
goes_on [] other = false
goes_on (span ∷ one) [] = false
goes_on (span ∷ one) (next ∷ other) = is_plain span && (is_plain next && int_le span.last.number next.last.number)

-- the row of two stretches of which the other doesn't go on from the one
abbrev pub knot_in : (one other : Option Stretch) → Option ℕ
knot_in None next = None
knot_in (Some one) None = None
knot_in (Some one) (Some other) =
    if nat_eq one.row other.row && not (goes_on one.spans other.spans) then Some one.row else None

abbrev pub knot : (one other : Held) → Option ℕ
knot one other = knot_in (stretch_in one) (stretch_in other)

-- the same of the one before a place and the one at it, if there are both
abbrev pub knot_at : ℕ → List Held → Option ℕ
knot_at place [] = None
knot_at zero (one ∷ held) = None
knot_at (suc zero) (one ∷ []) = None
knot_at (suc zero) (one ∷ next ∷ held) = knot one next
knot_at (suc (suc place)) (one ∷ held) = knot_at (suc place) held

-- ---- how many a row has

abbrev pub counts : ℕ → Option ℕ → ℕ
counts row None = 0
counts row (Some one) = if nat_eq one row then 1 else 0

abbrev pub knots_of : ℕ → List Held → ℕ
knots_of row held = told_of (λ one next. counts row (knot one next)) held

-- none of the rows for which they are counted has more
abbrev pub AreCounted : List ℕ → List Held → Type 0
AreCounted knots held = (row : ℕ) → row < length knots → knots_of row held ≤ slice_index_or knots row 0

-- a row has one less, or one more
abbrev pub lowered : Option ℕ → List ℕ → List ℕ
lowered None knots = knots
lowered (Some row) knots = slice_set knots row (slice_index_or knots row 0 - 1)

abbrev pub raised : Option ℕ → List ℕ → List ℕ
raised None knots = knots
raised (Some row) knots = slice_set knots row (min (slice_index_or knots row 0 + 1) 18446744073709551615)

-- some went, and some came
abbrev pub recounted : (gone come : Option ℕ × Option ℕ) → List ℕ → List ℕ
recounted gone come knots = raised come.1 (raised come.0 (lowered gone.1 (lowered gone.0 knots)))

-- there are several between two places, all in their order, and a row has no knot
pub record IsLoose (row first end disorder : ℕ) (held : List Held) : Type 0 where
  pub ordered : disorder ≡ 0
  pub several : suc first < end
  pub no_knot : knots_of row held ≡ 0
