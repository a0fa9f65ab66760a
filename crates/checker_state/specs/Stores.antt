-- What is known after values were stored to components of structured variables (ISO 7185:1990, 6.4.3, 6.5.3). It does
-- not say which components an access leads to.
use Rattle.std.specs.Prelude.{ℕ, ℤ, Bool, true, false, ◌&&◌, ◌||◌, List, [], ◌∷◌, ◌++◌, Option, Some, None}
use Rattle.std.specs.Prelude.{if◌then◌else◌, filter, map, nat_eq}
use Rattle.std.specs.List.{filter_map}
use Rattle.types.specs.declared.form.OrdinalRange.{OrdinalRange}
use Rattle.domain.specs.declared.versions.Extension.TheVariants.{Boxes}
use Rattle.domain.specs.Interval.{Interval, joined}
use Rattle.domain.specs.Versions.{has}
use Rattle.checker_state.specs.Bounds.{Bound, constant}
use Rattle.checker_state.specs.Changes.{span_between}
use Rattle.checker_state.specs.State.{Claim, Dead, Defined, Facts, Held, Live, Span, State, Stretch, Table, all_indexes}
use Rattle.checker_state.specs.State.{in_spans, is_dead, is_next, le, range_of, state_gives, stretch_in, stretched}
use Rattle.checker_state.specs.State.{with_defined, with_more, with_range}
use Rattle.meaning.specs.Integers.{is_integer_number}

-- an index by its value: its form, and where it lies
pub record Index : Type 0 where
  pub form : Option Bound
  pub range : Interval

-- what an access reaches of the rows under it: of each the components of these first indexes; all of these, or some
pub record Reach : Type 0 where
  pub indexes : List Index
  pub is_all : Bool

-- all of each row
abbrev pub entire : Reach
entire = record { indexes = []; is_all = true }

-- it is all of each row
abbrev pub is_entire_by : Bool → List Index → Bool
is_entire_by is_all [] = is_all
is_entire_by is_all (index ∷ indexes) = false

abbrev pub is_entire : Reach → Bool
is_entire reach = is_entire_by reach.is_all reach.indexes

-- ---- what is defined

-- the span of a single index
abbrev pub point : Bound → Span
point index = record { first = index; last = index }

-- those of single first indexes
abbrev pub points : List Bound → List Span
points indexes = map point indexes

-- that each component of a row is defined: of one with indexes, all first indexes are
abbrev pub all_of_row : Option OrdinalRange → ℕ → Claim
all_of_row None row = Defined row
all_of_row (Some range) row = in_spans row (all_indexes range ∷ [])

-- a bound of a number, if it is one that bounds have
abbrev pub bound_of_number : ℤ → Option Bound
bound_of_number n = if is_integer_number n then Some (constant n) else None

-- the span of a form, and that of a range, if its ends are numbers that bounds have
abbrev pub form_span : Option Bound → Option Span
form_span None = None
form_span (Some form) = Some (point form)

abbrev pub range_span : Interval → Option Span
range_span range = span_between (bound_of_number range.first) (bound_of_number range.last)

module _ (table : Table) where
  -- the components of a first index are defined, by its form or by where it lies
  abbrev pub gives_some : State → ℕ → Option Span → Bool
  gives_some state row None = is_dead state
  gives_some state row (Some span) =
      state_gives table state (in_spans row (span ∷ []))

  abbrev pub gives_form : State → ℕ → Option Bound → Bool
  gives_form state row None = false
  gives_form state row (Some form) = state_gives table state (in_spans row (point form ∷ []))

  abbrev pub gives_index : State → ℕ → Index → Bool
  gives_index state row one = gives_form state row one.form || gives_some state row (range_span one.range)

  -- those of two, each by its form or by where it lies
  abbrev pub gives_block : State → ℕ → Option Span → Option Span → Bool
  gives_block state row (Some span) (Some inner) =
      state_gives table state (in_spans row (span ∷ inner ∷ []))
  gives_block state row span inner = false

  abbrev pub gives_inner : State → ℕ → Option Span → Index → Bool
  gives_inner state row span two =
      gives_block state row span (form_span two.form) || gives_block state row span (range_span two.range)

  abbrev pub gives_both : State → ℕ → Index → Index → Bool
  gives_both state row one two =
      gives_inner state row (form_span one.form) two || gives_inner state row (range_span one.range) two

  -- all of a row is asked of the row: two stretches that meet don't give it together
  abbrev pub gives_indexes : State → ℕ → List Index → Bool
  gives_indexes state row [] = state_gives table state (Defined row)
  gives_indexes state row (one ∷ []) = gives_index state row one
  gives_indexes state row (one ∷ two ∷ more) = gives_index state row one || gives_both state row one two

  -- what an access reaches in a row is defined
  abbrev pub gives_reached : State → Reach → ℕ → Bool
  gives_reached state reach row = gives_indexes state row reach.indexes

-- ---- stores

-- a span with an index more, if that lies just behind it or before it
abbrev pub longer_span : Facts → Bound → Span → Option Span
longer_span known one span =
    if is_next known span.last one then Some (record span { last = one })
    else if is_next known one span.first then Some (record span { first = one }) else None

-- a span has just one index
abbrev pub is_at : Facts → Bound → Span → Bool
is_at known one span =
    (le known span.first one && le known one span.first) && (le known span.last one && le known one span.last)

-- a stretch of a span and of single indexes before and behind it
abbrev pub longer_of : ℕ → (front back : List Bound) → Option Span → Option Held
longer_of row front back None = None
longer_of row front back (Some span) = Some (stretched row (map point front ++ span ∷ map point back))

-- a stretch of so many spans that others make longer: of two spans one has to be just its index, in a version without
-- boxes the first
abbrev pub longer_by : Facts → ℕ → List Bound → List Span → Option Held
longer_by known row (one ∷ []) (span ∷ []) = longer_of row [] [] (longer_span known one span)
longer_by known row (one ∷ two ∷ []) (span ∷ inner ∷ []) =
    if is_at known one span then longer_of row (one ∷ []) [] (longer_span known two inner)
    else if has known.rules Boxes && is_at known two inner then longer_of row [] (two ∷ []) (longer_span known one span)
    else None
longer_by known row indexes spans = None

abbrev pub longer_stretch : Facts → ℕ → List Bound → Option Stretch → Option Held
longer_stretch known row indexes None = None
longer_stretch known row indexes (Some stretch) =
    if nat_eq stretch.row row then longer_by known row indexes stretch.spans else None

-- what is held of a row that first indexes make longer
abbrev pub longer : Facts → ℕ → List Bound → Held → Option Held
longer known row indexes one = longer_stretch known row indexes (stretch_in one)

abbrev pub is_none : Option Held → Bool
is_none None = true
is_none (Some held) = false

-- stretches that became longer, or else that of the indexes alone
abbrev pub or_alone : ℕ → List Bound → List Held → List Held
or_alone row indexes [] = stretched row (points indexes) ∷ []
or_alone row indexes (held ∷ more) = held ∷ more

-- the components of first indexes, one or two, are defined from here on: each stretch that they make longer becomes so,
-- or else there is that of the indexes alone
abbrev pub with_element : ℕ → List Bound → State → State
with_element row indexes Dead = Dead
with_element row indexes (Live known) = Live (record known {
  held = with_more (or_alone row indexes (filter_map (longer known row indexes) known.held))
      (filter (λ held. is_none (longer known row indexes held)) known.held);
})

abbrev pub with_some_element : ℕ → Option Bound → State → State
with_some_element row None state = state
with_some_element row (Some one) state = with_element row (one ∷ []) state

abbrev pub with_both : ℕ → Option Bound → Option Bound → State → State
with_both row (Some one) (Some two) state = with_element row (one ∷ two ∷ []) state
with_both row one two state = state

-- components of a row may have a value of a range from here on
abbrev pub with_joined : ℕ → Interval → State → State
with_joined row range state = with_range row (joined (range_of state row) range) state

-- values of a range were stored to what these first indexes lead to in a row: all of that, or some
abbrev pub stored_at : Bool → List Index → ℕ → Interval → State → State
stored_at true [] row range state = with_defined row (with_range row range state)
stored_at true (one ∷ []) row range state = with_some_element row one.form (with_joined row range state)
stored_at true (one ∷ two ∷ []) row range state = with_both row one.form two.form (with_joined row range state)
stored_at is_all indexes row range state = with_joined row range state

-- values of a range were stored to what an access reaches in a row
abbrev pub stored : Reach → ℕ → Interval → State → State
stored reach row range state = stored_at reach.is_all reach.indexes row range state

-- the same of several rows, each with its range
abbrev pub all_stored : Reach → List (ℕ × Interval) → State → State
all_stored reach [] state = state
all_stored reach (one ∷ more) state = all_stored reach more (stored reach one.0 one.1 state)
