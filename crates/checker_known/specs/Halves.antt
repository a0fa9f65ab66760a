-- Tests of what is held that those pass who stand first, and where the others begin. It does not say why they stand so.
use Rattle.std.specs.Prelude.{◌≡◌, ℕ, ◌<◌, ◌≤◌, ℤ, pos, int_lt, Bool, true, false, List, [], ◌∷◌, Option, Some}
use Rattle.std.specs.Prelude.{None, slice_index_or}
use Rattle.std.specs.Ordering.{is_gt}
use Rattle.checker_state.specs.State.{Held, Span, Stretch, held_order, stretch_in}
use Rattle.checker_state.specs.View.{said_held}
use Rattle.checker_known.specs.declared.halves.Test.{Test}
use Rattle.checker_known.specs.declared.halves.Test.TheVariants as test
use Rattle.checker_known.specs.Order.{comes_before, stands}

-- the numbers of the bounds of the first of some spans
abbrev pub first_of : List Span → ℤ
first_of [] = pos 0
first_of (span ∷ spans) = span.first.number

abbrev pub last_of : List Span → ℤ
last_of [] = pos 0
last_of (span ∷ spans) = span.last.number

-- the spans of a stretch
abbrev pub spans_in : Option Stretch → List Span
spans_in None = []
spans_in (Some stretch) = stretch.spans

abbrev pub spans_of : Held → List Span
spans_of one = spans_in (stretch_in one)

abbrev pub passes : Test → Held → Bool
passes (test.Before group) one = comes_before false (stands group one)
passes (test.UpTo group) one = comes_before true (stands group one)
passes (test.Below own) one = is_gt (held_order (said_held own) one)
passes (test.EndsBelow number) one = int_lt (last_of (spans_of one)) number
passes (test.BeginsBelow number) one = int_lt (first_of (spans_of one)) number

-- of those between two places each passes that stands before one that does
pub record Falls (test : Held → Bool) (held : List Held) (first end : ℕ) : Type 0 where
  pub falls : (i j : ℕ) (none : Held) → first ≤ i → i < j → j < end → test (slice_index_or held j none) ≡ true
      → test (slice_index_or held i none) ≡ true

-- of those between two places those pass that stand before another place
pub record IsEdge (test : Held → Bool) (held : List Held) (first end place : ℕ) : Type 0 where
  pub begins : first ≤ place
  pub ends : place ≤ end
  pub before : (i : ℕ) (none : Held) → first ≤ i → i < place → test (slice_index_or held i none) ≡ true
  pub behind : (i : ℕ) (none : Held) → place ≤ i → i < end → test (slice_index_or held i none) ≡ false
