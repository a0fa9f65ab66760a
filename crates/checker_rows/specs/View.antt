-- The rows of a program as programs keep them: how many leaves each type has, which row is the first under each
-- variable, and the ranges of each row. It says nothing of what the components of a row hold.
use Rattle.std.specs.Prelude.{◌≡◌, ℕ, zero, suc, ◌+◌, ◌-◌, ◌^◌, List, [], ◌∷◌, length, map, min, Option, Some, None}
use Rattle.std.specs.Prelude.{if◌then◌else◌, nat_lt, slice_get, slice_index_or, sum_by}
use Rattle.std.specs.List.{range_with_len}
use Rattle.std.specs.Option.{option_map}
use Rattle.types.specs.Forms.{FieldForm, Form, Array, Record}
use Rattle.types.specs.declared.form.OrdinalRange.{OrdinalRange}
use Rattle.types.specs.declared.form.TypeId.{TypeId}
use Rattle.types.specs.Types.{is_structured, scalar_range_of}
use Rattle.typed_tree.specs.declared.tree.Tree.{Tree}
use Rattle.typed_tree.specs.declared.tree.Variable.{Variable}
use Rattle.checker_rows.specs.declared.leaf.RowRanges.{RowRanges}
use Rattle.checker_rows.specs.declared.leaf.Descent.{Descent}
use Rattle.checker_rows.specs.declared.leaf.Descent.TheVariants.{Direct, Once, Twice}
use Rattle.checker_rows.specs.declared.part.Part.{Part}
use Rattle.checker_rows.specs.declared.span.Span.{Span}
use Rattle.checker_rows.specs.declared.rows.NamedPart.{NamedPart}
use Rattle.checker_rows.specs.Leaves.{Leaf, LeafStep, Elements, FieldAt, index_before, leafed, leaves_of, scalar}
use Rattle.checker_rows.specs.Rows.{Named, rows_of, rows_under}

-- the numbers of a span
abbrev pub numbers : Span → List ℕ
numbers span = range_with_len span.first span.count

-- what is answered of a path: what it names, and the rows there
abbrev pub IsAnswerOf : Tree → (root : ℕ) → Option Named → Option NamedPart → Type 0
IsAnswerOf tree root None None = Unit {0}
IsAnswerOf tree root None (Some found) = ⊥
IsAnswerOf tree root (Some named) None = ⊥
IsAnswerOf tree root (Some named) (Some found) =
    (found.type_id ≡ named.type_id) × (numbers found.rows ≡ rows_under tree root named.steps)

-- ---- ranges

abbrev pub ranges_of : Leaf → RowRanges
ranges_of leaf = record {
  type_id = leaf.type_id;
  values = leaf.values;
  index = slice_get leaf.indexes 0;
  inner = slice_get leaf.indexes 1;
}

-- the values of the indexes on a way from a variable before those behind it
abbrev pub indexes_on : Descent → List OrdinalRange → List OrdinalRange
indexes_on Direct indexes = indexes
indexes_on (Once index) indexes = index_before index indexes
indexes_on (Twice first index) indexes = first ∷ index_before index indexes

-- the ranges of a leaf on a way from a variable
abbrev pub ranges_on : Descent → Leaf → RowRanges
ranges_on way leaf = ranges_of (record leaf { indexes = indexes_on way leaf.indexes })

-- those of a variable's own row
abbrev pub own_ranges : List Form → Variable → RowRanges
own_ranges types variable = ranges_of (scalar (Some variable.type_id) (scalar_range_of types variable.type_id))

-- those of the rows of its leaves, if it is structured
abbrev pub variable_ranges : List Form → Variable → List RowRanges
variable_ranges types variable =
    if is_structured types variable.type_id then map ranges_of (leaves_of types variable.type_id) else []

-- a way on to the elements of an array
abbrev pub way_behind : Descent → Option OrdinalRange → Descent
way_behind Direct index = Once index
way_behind (Once None) index = Once None
way_behind (Once (Some first)) index = Twice first index
way_behind (Twice first inner) index = Twice first inner

-- ---- how many there are

-- a number, or the greatest number of 64 bits
abbrev pub capped : ℕ → ℕ
capped n = min n (2 ^ 64 - 1)

-- how many leaves each type has
abbrev pub leaf_counts : List Form → List ℕ
leaf_counts types = map (λ entry. length entry.leaves) (leafed types)

abbrev pub count_in : Option ℕ → ℕ
count_in None = 1
count_in (Some count) = count

abbrev pub count_at : List ℕ → TypeId → ℕ
count_at counts id = count_in (slice_get counts id.index)

abbrev pub form_count : List ℕ → Form → ℕ
form_count counts (Array packed index element) = count_at counts element
form_count counts (Record packed fields) = sum_by (λ field. count_at counts field.type_id) fields
form_count counts form = 1

-- the type of a part, if it stands before that of the whole
abbrev pub own_type : (whole part : TypeId) → Option TypeId
own_type whole part = if nat_lt part.index whole.index then Some part else None

abbrev pub part_leaves : List Form → Option TypeId → List Leaf
part_leaves types None = scalar None None ∷ []
part_leaves types (Some id) = leaves_of types id

abbrev pub part_count : List ℕ → Option TypeId → ℕ
part_count counts None = 1
part_count counts (Some id) = count_at counts id

-- ---- where they begin

-- how many leaves a variable has among the rows
abbrev pub rows_count : List Form → Variable → ℕ
rows_count types variable =
    if is_structured types variable.type_id then count_at (leaf_counts types) variable.type_id else 0

-- the first row under a variable: its own, or that of its first leaf, which is given
abbrev pub first_under : List Form → (root first : ℕ) → Variable → ℕ
first_under types root first variable = if is_structured types variable.type_id then first else root

-- the same of each variable, from a root number on
abbrev pub firsts_from : List Form → (root first : ℕ) → List Variable → List ℕ
firsts_from types root first [] = []
firsts_from types root first (variable ∷ variables) =
    first_under types root first variable
    ∷ firsts_from types (suc root) (first + rows_count types variable) variables

abbrev pub firsts_of : Tree → List ℕ
firsts_of tree = firsts_from tree.types 0 (length tree.variables.items) tree.variables.items

-- the rows of a program are kept; the greatest number stands for a count of leaves that is greater
pub record AreKept (tree : Tree) (counts firsts : List ℕ) (rows : List RowRanges) : Type 0 where
  pub counts_are : counts ≡ map capped (leaf_counts tree.types)
  pub firsts_are : firsts ≡ firsts_of tree
  pub rows_are : rows ≡ map (λ row. ranges_of row.leaf) (rows_of tree)

-- ---- parts of variables

-- a variable as a whole, by the first row under it; one that isn't there has a row of its own number
abbrev pub variable_part : Tree → ℕ → Part
variable_part tree root = record {
  first = slice_index_or (firsts_of tree) root root;
  type_id = option_map (λ variable. variable.type_id) (slice_get tree.variables.items root);
}

-- a field of a record, the first row of which is given
abbrev pub field_part : List ℕ → TypeId → ℕ → List FieldForm → ℕ → Option Part
field_part counts id first [] position = None
field_part counts id first (field ∷ fields) zero =
    Some (record { first = first; type_id = own_type id field.type_id })
field_part counts id first (field ∷ fields) (suc position) =
    field_part counts id (first + part_count counts (own_type id field.type_id)) fields position

abbrev pub form_part : List ℕ → TypeId → ℕ → Option Form → LeafStep → Option Part
form_part counts id first (Some (Array packed index element)) Elements =
    Some (record { first = first; type_id = own_type id element })
form_part counts id first (Some (Record packed fields)) (FieldAt position) =
    field_part counts id first fields position
form_part counts id first form step = None

abbrev pub typed_part : List Form → ℕ → Option TypeId → LeafStep → Option Part
typed_part types first None step = None
typed_part types first (Some id) step =
    form_part (leaf_counts types) id first (slice_get types id.index) step

-- the part to which a step leads
abbrev pub next_part : List Form → Option Part → LeafStep → Option Part
next_part types None step = None
next_part types (Some part) step = typed_part types part.first part.type_id step

-- the part to which steps lead, one after another
abbrev pub part_along : List Form → List LeafStep → Option Part → Option Part
part_along types [] part = part
part_along types (step ∷ steps) part = part_along types steps (next_part types part step)

-- the numbers of its rows
abbrev pub part_rows : List Form → Option Part → List ℕ
part_rows types None = []
part_rows types (Some part) = range_with_len part.first (part_count (leaf_counts types) part.type_id)

-- how many rows lie before the end of a part
abbrev pub end_of : List Form → Option Part → ℕ
end_of types None = 0
end_of types (Some part) = part.first + part_count (leaf_counts types) part.type_id
