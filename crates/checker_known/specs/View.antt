-- What the program has of rows, as the definitions see it. It does not say what is known of them.
use Rattle.std.specs.Prelude.{Bool, true, ◌&&◌, nat_eq, ℕ, ◌+◌, ◌<◌, ◌≤◌, min, List, [], ◌∷◌, Option, Some, None, false}
use Rattle.std.specs.Prelude.{length, map}
use Rattle.std.specs.Prelude.{slice_index_or}
use Rattle.typed_tree.specs.declared.tree.Tree.{Tree}
use Rattle.checker_rows.specs.Limits.{limits_or_integer}
use Rattle.checker_rows.specs.Rows.{Row, rows_of}
use Rattle.checker_state.specs.State.{Held, RowState, Span, Stretch, Wanted as Asks, stretch_in}
use Rattle.checker_state.specs.declared.growing.Growing.{Growing}
use Rattle.checker_known.specs.declared.had.Wanted.{Wanted}
use Rattle.checker_known.specs.declared.knowledge.Row.{Row as KeptRow}
use Rattle.checker_known.specs.Knots.{counts}

-- what is known of a row
abbrev pub said_row : KeptRow → RowState
said_row row = record { range = row.range; is_defined = row.is_defined; growth = row.growth }

-- how deep the for statement is taken to stand with whose turns a variable grows: no deeper than 128
abbrev pub depth_of : Option Growing → Option ℕ
depth_of None = None
depth_of (Some growing) = Some (min growing.depth 128)

-- of how many rows the variable grows with the turns of one so deep
abbrev pub growing_at : (depth : ℕ) → List RowState → ℕ
growing_at depth [] = 0
growing_at depth (row ∷ rows) = counts depth (depth_of row.growth) + growing_at depth rows

-- of none so deep that it is counted more do
abbrev pub AreGrowing : (most : List ℕ) → List RowState → Type 0
AreGrowing most rows = (depth : ℕ) → depth < length most → growing_at depth rows ≤ slice_index_or most depth 0

-- what types tell of a row, and of each row of a program
abbrev pub type_state : Row → RowState
type_state row = record { range = limits_or_integer row.leaf.values; is_defined = false; growth = None }

abbrev pub type_rows : Tree → List RowState
type_rows tree = map type_state (rows_of tree)

-- ---- what is wanted

-- what is asked of an inner span, if there is one
abbrev pub inner_asked : {A : Type 0} → (A → Asks) → Option A → List Asks
inner_asked asks None = []
inner_asked asks (Some inner) = asks inner ∷ []

-- what is asked of both spans
abbrev pub asked : {A B : Type 0} → (A → Asks) → (B → Asks) → Wanted A B → List Asks
asked of_first of_second wanted = of_first wanted.first ∷ inner_asked of_second wanted.second

-- the first of some spans goes to the wanted end
abbrev pub spans_reach : Asks → List Span → Bool
spans_reach asks [] = true
spans_reach asks (span ∷ spans) = asks.ends span.last

abbrev pub stretch_reaches : ℕ → Asks → Option Stretch → Bool
stretch_reaches row asks None = false
stretch_reaches row asks (Some stretch) = nat_eq row stretch.row && spans_reach asks stretch.spans

-- what is held is of a row and goes to the wanted end
abbrev pub reaches : ℕ → Asks → Held → Bool
reaches row asks one = stretch_reaches row asks (stretch_in one)
