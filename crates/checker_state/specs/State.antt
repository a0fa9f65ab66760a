-- What a checker knows at a point of a program (ISO 7185:1990, 6.5.1: a variable is undefined or has a value): of each
-- row of components the range of their values, whether all are defined, and how a variable grows with the turns of a
-- for statement; and what it holds besides: orders of variables, and stretches of rows that are defined; and which
-- facts that gives. It does not say how such a state comes about, nor what it means for a run.
use Rattle.std.specs.Prelude.{ℕ, ℤ, pos, ◌+ℤ◌, int_le, Bool, true, false, not, ◌&&◌, ◌||◌, List, [], ◌∷◌, Option}
use Rattle.std.specs.Prelude.{Some, None, if◌then◌else◌, drop, length, map, nat_eq, nat_lt, slice_index_or, slice_set}
use Rattle.std.specs.Prelude.{take}
use Rattle.std.specs.List.{list_any}
use Rattle.std.specs.Cmp.Lexicographic.{slice_cmp}
use Rattle.std.specs.Ordering.{int_cmp, nat_cmp, ordering_then}
use Rattle.std.specs.declared.cmp.Ordering.{Ordering}
use Rattle.std.specs.declared.cmp.Ordering.TheVariants.{Less, Equal, Greater}
use Rattle.types.specs.declared.form.OrdinalRange.{OrdinalRange}
use Rattle.typed_tree.specs.declared.tree.Tree.{Tree}
use Rattle.checker_rows.specs.Rows.{indexes_at, is_ordinal_variable, rows_of}
use Rattle.domain.specs.Interval.{Interval, is_included, is_vacant, vacant}
use Rattle.domain.specs.Versions.{has}
use Rattle.domain.specs.declared.versions.Extension.TheVariants.{Blocks, Boxes}
use Rattle.domain.specs.declared.versions.Version.{Version}
use Rattle.checker_state.specs.Bounds.{Bound, bound_order, constant, is_at_most, is_variable, plus, raised_bound}
use Rattle.checker_state.specs.declared.growing.Growing.{Growing}
use Rattle.checker_state.specs.declared.held.Group.{Group}
use Rattle.checker_state.specs.declared.held.Group.TheVariants as group

-- ---- states

-- what is known of a row: its values lie in a range, and perhaps each of its components is defined; that of a variable
-- may grow with the turns of a for statement round the point, of one at most
pub record RowState : Type 0 where
  pub range : Interval
  pub is_defined : Bool
  pub growth : Option Growing

-- the indexes between two bounds
pub record Span : Type 0 where
  pub first : Bound
  pub last : Bound

-- the components of a row whose first indexes lie in spans, the first index in the first span, and so on; an index
-- behind the last span is any
pub record Stretch : Type 0 where
  pub row : ℕ
  pub spans : List Span

-- what is held besides: a stretch is defined; or two variables are, and the first is at most the other plus a number
pub data Held : Type 0 where
  Stretched : Stretch → Held
  Ordered : (root other : ℕ) → ℤ → Held

-- what is known of each row, by its number, and what is held, in its order, each once; and the version of certificates
-- by whose rules it is known
pub record Facts : Type 0 where
  pub rows : List RowState
  pub held : List Held
  pub rules : Version

-- no run comes here, or what is known where one does
pub data State : Type 0 where
  Dead : State
  Live : Facts → State

-- a row that is not there: none of its components has a value
abbrev pub no_row : RowState
no_row = record { range = vacant; is_defined = false; growth = None }

abbrev pub row_at : Facts → ℕ → RowState
row_at known row = slice_index_or known.rows row no_row

-- of rows whose components have these values, nothing else is known
abbrev pub of_types : Version → List RowState → State
of_types rules rows = Live (record { rows = rows; held = []; rules = rules })

-- no run comes here
abbrev pub is_dead : State → Bool
is_dead Dead = true
is_dead (Live known) = false

-- where the values of a row lie; a variable has the row of its root number
abbrev pub range_of : State → ℕ → Interval
range_of Dead row = vacant
range_of (Live known) row = (row_at known row).range

-- each component of a row is known to be defined
abbrev pub is_defined : State → ℕ → Bool
is_defined Dead row = true
is_defined (Live known) row = (row_at known row).is_defined

-- what is known of a row from here on
abbrev pub with_row : ℕ → RowState → Facts → Facts
with_row row known facts = record facts { rows = slice_set facts.rows row known }

-- each component of a row is defined from here on
abbrev pub with_defined : ℕ → State → State
with_defined row Dead = Dead
with_defined row (Live known) = Live (with_row row (record (row_at known row) { is_defined = true }) known)

-- the values of a row lie in a range from here on
abbrev pub with_range : ℕ → Interval → State → State
with_range row range Dead = Dead
with_range row range (Live known) = Live (with_row row (record (row_at known row) { range = range }) known)

-- a variable grows so from here on, or isn't known to
abbrev pub with_growth : ℕ → Option Growing → Facts → Facts
with_growth root growth known = with_row root (record (row_at known root) { growth = growth }) known

-- a variable has a value of a range from here on
abbrev pub with_value : ℕ → Interval → State → State
with_value root range state = with_defined root (with_range root range state)

-- no run goes on from an empty range
abbrev pub unless_empty : Interval → State → State
unless_empty range state = if is_vacant range then Dead else state

-- ---- what is asked of what is held

-- what lies in spans of a row is defined
abbrev pub stretched : ℕ → List Span → Held
stretched row spans = Stretched (record { row = row; spans = spans })

-- the stretch that it is of, if it is of rows
abbrev pub stretch_in : Held → Option Stretch
stretch_in (Stretched stretch) = Some stretch
stretch_in (Ordered root other number) = None

-- the first variable of an order, and the bound that it is at most
abbrev pub order_span : (root other : ℕ) → ℤ → Span
order_span root other number = record { first = plus root (pos 0); last = plus other number }

-- the spans between the bounds that it has: it rests on the variables of these
abbrev pub ends_of : Held → List Span
ends_of (Stretched stretch) = stretch.spans
ends_of (Ordered root other number) = order_span root other number ∷ []

-- with what it stands together: with the stretches of a row, or the orders of two variables
abbrev pub group_of : Held → Group
group_of (Stretched stretch) = group.Row stretch.row
group_of (Ordered root other number) = group.Pair root other

-- rows stand before pairs
abbrev pub group_order : Group → Group → Ordering
group_order (group.Row row) (group.Row other) = nat_cmp row other
group_order (group.Row row) (group.Pair a b) = Less
group_order (group.Pair a b) (group.Row row) = Greater
group_order (group.Pair a b) (group.Pair c d) = ordering_then (nat_cmp a c) (nat_cmp b d)

-- ---- the order of what is held: stretches by their rows and their spans, then orders by their variables

abbrev pub span_order : Span → Span → Ordering
span_order a b = ordering_then (bound_order a.first b.first) (bound_order a.last b.last)

abbrev pub held_order : Held → Held → Ordering
held_order (Stretched a) (Stretched b) = ordering_then (nat_cmp a.row b.row) (slice_cmp span_order a.spans b.spans)
held_order (Stretched a) (Ordered root other number) = Less
held_order (Ordered root other number) (Stretched b) = Greater
held_order (Ordered a b m) (Ordered c d n) =
    ordering_then (nat_cmp a c) (ordering_then (nat_cmp b d) (int_cmp m n))

-- one comes before, or is, or comes behind the first of a list
abbrev pub put : Ordering → Held → Held → (rest longer : List Held) → List Held
put Less one first rest longer = one ∷ first ∷ rest
put Equal one first rest longer = first ∷ rest
put Greater one first rest longer = first ∷ longer

-- one more in its place, unless it is held
abbrev pub with_one : Held → List Held → List Held
with_one one [] = one ∷ []
with_one one (first ∷ rest) = put (held_order one first) one first rest (with_one one rest)

-- more, each in its place
abbrev pub with_more : (more : List Held) → List Held → List Held
with_more [] held = held
with_more (one ∷ more) held = with_more more (with_one one held)

-- ---- what is known of bounds

-- a range whose numbers are greater by a number
abbrev pub moved : ℤ → Interval → Interval
moved n range = record { first = range.first +ℤ n; last = range.last +ℤ n }

-- where the value of a variable lies, if there is one, plus a number
abbrev pub bound_range_by : State → Option ℕ → ℤ → Interval
bound_range_by state None n = record { first = n; last = n }
bound_range_by state (Some root) n = moved n (range_of state root)

-- where a bound lies
abbrev pub bound_range : State → Bound → Interval
bound_range state bound = bound_range_by state bound.root bound.number

-- each number of a range is at most each of another, and neither is empty
abbrev pub is_below : Interval → Interval → Bool
is_below a b = not (is_vacant a || is_vacant b) && int_le a.last b.first

-- what is held says that a bound is at most another
abbrev pub says_at_most : Bound → Bound → Held → Bool
says_at_most a b (Stretched stretch) = false
says_at_most a b (Ordered root other number) =
    is_variable root a.root && (is_variable other b.root && int_le (number +ℤ a.number) b.number)

-- a bound is known to be at most another: by itself, by ranges, or by an order
abbrev pub le : Facts → Bound → Bound → Bool
le known a b =
    is_at_most a b
    || (is_below (bound_range (Live known) a) (bound_range (Live known) b)
    || list_any (says_at_most a b) known.held)

-- the same at any point: at a dead one, each is
abbrev pub at_most : State → Bound → Bound → Bool
at_most Dead a b = true
at_most (Live known) a b = le known a b

-- a bound is known to lie below another
abbrev pub lies_below : Facts → Bound → Bound → Bool
lies_below known a b = le known (raised_bound (pos 1) a) b

-- a bound is known to be the one behind another
abbrev pub is_next : Facts → Bound → Bound → Bool
is_next known a b = lies_below known a b && le known b (raised_bound (pos 1) a)

-- ---- what is given

-- no index lies in a span, since its last bound lies below its first
abbrev pub is_empty : Facts → Span → Bool
is_empty known span = lies_below known span.last span.first

-- what is asked of a span: which bounds are known to be at most its first one, and which at least its last one
pub record Wanted : Type 0 where
  pub begins : Bound → Bool
  pub ends : Bound → Bool

-- what is asked of the span between two bounds
abbrev pub wanted_of : Facts → Span → Wanted
wanted_of known span = record { begins = λ bound. le known bound span.first; ends = λ bound. le known span.last bound }

-- a span has all that is wanted
abbrev pub has_span : Wanted → Span → Bool
has_span wanted held = wanted.begins held.first && wanted.ends held.last

-- the span of all values of an index
abbrev pub all_indexes : OrdinalRange → Span
all_indexes range = record { first = constant range.first; last = constant range.last }

-- spans have all that is wanted, of indexes that are of these values: an index behind the last of them is any, so where
-- what is wanted ends and what is held goes on, that has to have all values of the index
abbrev pub have_spans : Facts → List OrdinalRange → List Wanted → (held : List Span) → Bool
have_spans known indexes wanted [] = true
have_spans known indexes (one ∷ wanted) (span ∷ held) =
    has_span one span && have_spans known (drop 1 indexes) wanted held
have_spans known [] [] (span ∷ held) = false
have_spans known (range ∷ indexes) [] (span ∷ held) =
    has_span (wanted_of known (all_indexes range)) span && have_spans known indexes [] held

-- spans begin in time, and behind the first of them have all that is wanted; or they do so behind the first, which has
-- what is wanted of it
abbrev pub begin_in_time : (inside : Bool) → Facts → List OrdinalRange → List Wanted → (held : List Span) → Bool
begin_in_time false known indexes (one ∷ wanted) (span ∷ held) =
    one.begins span.first && have_spans known (drop 1 indexes) wanted held
begin_in_time true known indexes (one ∷ wanted) (span ∷ held) =
    has_span one span && begin_in_time false known (drop 1 indexes) wanted held
begin_in_time inside known indexes wanted held = false

-- other spans go on from these to the wanted end: the first of them begins at the latest behind the last index of
-- these; or they do so behind the first, which has what is wanted of it
abbrev pub go_on : (inside : Bool) → Facts → List OrdinalRange → List Wanted → (held next : List Span) → Bool
go_on false known indexes (one ∷ wanted) (span ∷ held) (other ∷ next) =
    le known other.first (raised_bound (pos 1) span.last)
    && (one.ends other.last && have_spans known (drop 1 indexes) wanted next)
go_on true known indexes (one ∷ wanted) (span ∷ held) (other ∷ next) =
    has_span one other && go_on false known (drop 1 indexes) wanted held next
go_on inside known indexes wanted held next = false

-- what is held of a row whose indexes are of these values
module _ (known : Facts) (indexes : List OrdinalRange) (row : ℕ) (wanted : List Wanted) where
  abbrev pub stretch_covers : Option Stretch → Bool
  stretch_covers None = false
  stretch_covers (Some stretch) = nat_eq row stretch.row && have_spans known indexes wanted stretch.spans

  -- it has all that is wanted
  abbrev pub covers : Held → Bool
  covers one = stretch_covers (stretch_in one)

  -- one has it all
  abbrev pub is_covered : Bool
  is_covered = list_any covers known.held

  -- two have it together, by the first of the spans or by the second
  module _ (inside : Bool) where
    abbrev pub stretch_begins : Option Stretch → Bool
    stretch_begins None = false
    stretch_begins (Some stretch) = nat_eq row stretch.row && begin_in_time inside known indexes wanted stretch.spans

    -- it has it from the beginning on
    abbrev pub begins : Held → Bool
    begins one = stretch_begins (stretch_in one)

    abbrev pub stretches_join : (one other : Option Stretch) → Bool
    stretches_join (Some one) (Some other) =
        nat_eq row other.row && go_on inside known indexes wanted one.spans other.spans
    stretches_join one other = false

    -- another has the rest to the end
    abbrev pub joins : (one other : Held) → Bool
    joins one other = stretches_join (stretch_in one) (stretch_in other)

    abbrev pub is_joined : Bool
    is_joined = list_any (λ one. begins one && list_any (joins one) known.held) known.held

-- two have what is wanted together by their second spans, or, where it has two spans itself, by the first
abbrev pub is_joined_inside : Facts → List OrdinalRange → ℕ → List Wanted → Bool
is_joined_inside known indexes row [] = false
is_joined_inside known [] row (one ∷ []) = false
is_joined_inside known (first ∷ []) row (one ∷ []) = false
is_joined_inside known (first ∷ second ∷ indexes) row (one ∷ []) =
    is_joined known (first ∷ second ∷ indexes) row (one ∷ wanted_of known (all_indexes second) ∷ []) true
is_joined_inside known indexes row (one ∷ two ∷ wanted) =
    is_joined known indexes row (one ∷ two ∷ wanted) true || is_joined known indexes row (one ∷ two ∷ wanted) false

-- it has all that is wanted; in a version with blocks it does also where one or two together have the first of the
-- wanted spans, with any index behind it; and in one with boxes where two together have them all
abbrev pub is_had : Facts → List OrdinalRange → ℕ → List Wanted → Bool
is_had known indexes row wanted =
    is_covered known indexes row wanted
    || ((has known.rules Blocks
    && (is_covered known indexes row (take 1 wanted) || is_joined known indexes row (take 1 wanted) false))
    || (has known.rules Boxes && is_joined_inside known indexes row wanted))

-- the stretch of all first indexes of a row
abbrev pub all_of : ℕ → OrdinalRange → Stretch
all_of row range = record { row = row; spans = all_indexes range ∷ [] }

-- what is held has all first indexes of a row whose indexes are of these values, if it has any: one alone has them, or
-- in a version with boxes two together
abbrev pub is_spanned : Facts → ℕ → List OrdinalRange → Bool
is_spanned known row [] = false
is_spanned known row (range ∷ indexes) =
    let wanted = wanted_of known (all_indexes range) ∷ [] in
    if has known.rules Boxes then is_had known (range ∷ indexes) row wanted
    else is_covered known (range ∷ indexes) row wanted

-- what is told of the rows of a program: how many variables have one of their own, which come first; which of these
-- variables are ordinals; and the values of each index on the way to the components of each row, the first one first
pub record Table : Type 0 where
  pub variables : ℕ
  pub ordinal : ℕ → Bool
  pub indexes : ℕ → List OrdinalRange

abbrev pub table_of : Tree → Table
table_of tree = record {
  variables = length tree.variables.items;
  ordinal = is_ordinal_variable tree;
  indexes = indexes_at (rows_of tree);
}

module _ (table : Table) where
  -- an ordinal variable that is there is known to be defined
  abbrev pub has_number : State → ℕ → Bool
  has_number Dead root = true
  has_number (Live known) root =
      nat_lt root table.variables && (table.ordinal root && (row_at known root).is_defined)

  -- the variable of a bound, if it has one, is
  abbrev pub has_value_by : State → Option ℕ → Bool
  has_value_by state None = true
  has_value_by state (Some root) = has_number state root

  abbrev pub has_value : State → Bound → Bool
  has_value state bound = has_value_by state bound.root

  -- the bounds of a span have values
  abbrev pub has_values : State → Span → Bool
  has_values state span = has_value state span.first && has_value state span.last

  -- those of each
  abbrev pub have_values : State → List Span → Bool
  have_values state [] = true
  have_values state (span ∷ spans) = has_values state span && have_values state spans

  -- the variables are defined on which something that is held rests
  abbrev pub has_its_values : State → Held → Bool
  has_its_values state one = have_values state (ends_of one)

  -- each component of a row is known to be defined: by the row, or since all its first indexes are held
  abbrev pub is_whole : Facts → ℕ → Bool
  is_whole known row = (row_at known row).is_defined || is_spanned known row (table.indexes row)

  -- a stretch is known to be defined: its bounds have values, and no index lies in it, or all of its row is defined, or
  -- what is held has all of it
  abbrev pub gives_stretch : Facts → Stretch → Bool
  gives_stretch known stretch =
      have_values (Live known) stretch.spans
      && (list_any (is_empty known) stretch.spans
      || (is_whole known stretch.row
      || is_had known (table.indexes stretch.row) stretch.row (map (wanted_of known) stretch.spans)))

  -- what is known gives what may be held: of an order that both variables are defined, and that the first is at most
  -- the other plus the number
  abbrev pub gives : Facts → Held → Bool
  gives known (Stretched stretch) = gives_stretch known stretch
  gives known (Ordered root other number) =
      has_number (Live known) root
      && (has_number (Live known) other && le known (plus root (pos 0)) (plus other number))

-- what may be said of rows: their values lie in a range, each component is defined, or what may be held
pub data Claim : Type 0 where
  Range : (row : ℕ) → Interval → Claim
  Defined : (row : ℕ) → Claim
  Holds : Held → Claim

-- what lies in spans of a row is defined, and a variable is at most another plus a number
abbrev pub in_spans : ℕ → List Span → Claim
in_spans row spans = Holds (stretched row spans)

abbrev pub at_most_by : (root other : ℕ) → ℤ → Claim
at_most_by root other number = Holds (Ordered root other number)

module _ (table : Table) where
  abbrev pub gives_claim : Facts → Claim → Bool
  gives_claim known (Range row range) = is_included (row_at known row).range range
  gives_claim known (Defined row) = is_whole table known row
  gives_claim known (Holds held) = gives table known held

  -- a state gives it: a dead one gives each
  abbrev pub state_gives : State → Claim → Bool
  state_gives Dead claim = true
  state_gives (Live known) claim = gives_claim known claim
