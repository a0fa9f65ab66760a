-- What the program has of a state, as the definitions see it. It does not say what a state means.
use Rattle.std.specs.Prelude.{◌≡◌, ℕ, pos, false, List, [], ◌∷◌, Option, Some, None}
use Rattle.domain.specs.Interval.{Interval}
use Rattle.checker_state.specs.declared.bound.Bound.{Bound as KeptBound}
use Rattle.checker_state.specs.declared.bound.Rebinding.{Rebinding}
use Rattle.checker_state.specs.declared.bound.Rebinding.TheVariants as rebinding
use Rattle.checker_state.specs.declared.ends.Ends.{Ends}
use Rattle.checker_state.specs.declared.term.Term.{Term}
use Rattle.checker_state.specs.declared.held.Point.{Point as KeptPoint}
use Rattle.checker_state.specs.declared.held.Span.{Span as KeptSpan}
use Rattle.checker_state.specs.declared.held.Stretch.{Stretch as KeptStretch}
use Rattle.checker_state.specs.declared.held.Order.{Order as KeptOrder}
use Rattle.checker_state.specs.declared.held.Claim.{Claim as KeptClaim}
use Rattle.checker_state.specs.declared.held.Claim.TheVariants as kept_claim
use Rattle.checker_state.specs.declared.held.Held.{Held as KeptHeld}
use Rattle.checker_state.specs.declared.held.Held.TheVariants as kept
use Rattle.checker_state.specs.declared.reach.Index.{Index as KeptIndex}
use Rattle.checker_state.specs.declared.reach.Indexes.{Indexes}
use Rattle.checker_state.specs.declared.reach.Indexes.TheVariants as kept_indexes
use Rattle.checker_state.specs.declared.reach.Reach.{Reach as KeptReach}
use Rattle.checker_state.specs.Bounds.{Bound}
use Rattle.checker_state.specs.Terms.{IsWithin, bound_of_parts}
use Rattle.checker_state.specs.State.{Claim, Defined, Held, Holds, Ordered, Range, Span, Stretch, Stretched}
use Rattle.checker_state.specs.Stores.{Index, Reach}
use Rattle.checker_state.specs.Changes.{bound_in_place, changed, changed_bound, in_place, rests_on}

-- ---- bounds

-- what a bound says, and what there may be of one
abbrev pub said_bound : KeptBound → Bound
said_bound bound = record { root = bound.root; number = bound.number }

abbrev pub said_form : Option KeptBound → Option Bound
said_form None = None
said_form (Some bound) = Some (said_bound bound)

-- what a bound in a test says
abbrev pub said_term : Term → Bound
said_term term = bound_of_parts term.root term.number

-- the ends of a range
pub record AreEnds (ends : Ends) (range : Interval) : Type 0 where
  pub first_is : ends.first ≡ range.first
  pub last_is : ends.last ≡ range.last
  pub first_near : IsWithin (pos 4611686027017322495) ends.first
  pub last_near : IsWithin (pos 4611686027017322495) ends.last

-- ---- what is held

abbrev pub said_span : KeptSpan → Span
said_span span = record { first = said_bound span.first; last = said_bound span.last }

abbrev pub said_span_form : Option KeptSpan → Option Span
said_span_form None = None
said_span_form (Some span) = Some (said_span span)

-- the indexes of a point
abbrev pub inner_bounds : Option KeptBound → List Bound
inner_bounds None = []
inner_bounds (Some bound) = said_bound bound ∷ []

abbrev pub said_point : KeptPoint → List Bound
said_point point = said_bound point.index ∷ inner_bounds point.inner

-- the spans behind the first
abbrev pub inner_spans : Option KeptSpan → List Span
inner_spans None = []
inner_spans (Some span) = said_span span ∷ []

abbrev pub said_spans : KeptStretch → List Span
said_spans stretch = said_span stretch.span ∷ inner_spans stretch.inner

abbrev pub said_stretch : KeptStretch → Stretch
said_stretch stretch = record { row = stretch.row; spans = said_spans stretch }

abbrev pub said_stretch_form : Option KeptStretch → Option Stretch
said_stretch_form None = None
said_stretch_form (Some stretch) = Some (said_stretch stretch)

abbrev pub said_stretched : Option KeptStretch → Option Held
said_stretched None = None
said_stretched (Some stretch) = Some (Stretched (said_stretch stretch))

abbrev pub said_order : KeptOrder → Held
said_order order = Ordered order.root order.other order.number

abbrev pub said_ordered : Option KeptOrder → Option Held
said_ordered None = None
said_ordered (Some order) = Some (said_order order)

abbrev pub said_held : KeptHeld → Held
said_held (kept.Stretched stretch) = Stretched (said_stretch stretch)
said_held (kept.Ordered order) = said_order order

abbrev pub said_more : Option KeptHeld → Option Held
said_more None = None
said_more (Some held) = Some (said_held held)

-- ---- claims

abbrev pub said_claim : KeptClaim → Claim
said_claim (kept_claim.Range row range) = Range row range
said_claim (kept_claim.Defined row) = Defined row
said_claim (kept_claim.Holds held) = Holds (said_held held)

-- an index, and what is reached
abbrev pub said_index : KeptIndex → Index
said_index index = record { form = said_form index.form; range = index.range }

abbrev pub said_indexes : Indexes → List Index
said_indexes kept_indexes.Entire = []
said_indexes (kept_indexes.One index) = said_index index ∷ []
said_indexes (kept_indexes.Two one other) = said_index one ∷ said_index other ∷ []

abbrev pub said_reach : KeptReach → Reach
said_reach reach = record { indexes = said_indexes reach.indexes; is_all = reach.is_all }

-- ---- what becomes of it

abbrev pub bound_by : Rebinding → Bound → Option Bound
bound_by (rebinding.Changed root form) bound = changed_bound root (said_form form) bound
bound_by (rebinding.InPlace root own) bound = bound_in_place root (said_bound own) bound

abbrev pub held_by : Rebinding → Held → Option Held
held_by (rebinding.Changed root form) held = changed root (said_form form) held
held_by (rebinding.InPlace root own) held = in_place root (said_bound own) held

-- the variable that is rebound
abbrev pub root_of : Rebinding → ℕ
root_of (rebinding.Changed root form) = root
root_of (rebinding.InPlace root own) = root

-- a rebinding of a variable on which it doesn't rest leaves it as it is
abbrev pub IsSettled : Held → Type 0
IsSettled one = (how : Rebinding) → rests_on (root_of how) one ≡ false → held_by how one ≡ Some one
