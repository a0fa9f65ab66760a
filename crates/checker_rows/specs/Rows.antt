-- The rows of a program (ISO 7185:1990, 6.4.3, 6.5.3): one for each variable, by its root number, and behind them one
-- for each leaf of each structured variable, one variable after another. A row is told by its number from 0. It says
-- nothing of what the components of a row hold.
use Rattle.std.specs.Prelude.{ℕ, suc, ℤ, ◌≤ℤ◌, Bool, false, not, ◌&&◌, List, [], ◌∷◌, ◌++◌, Option, Some, None}
use Rattle.std.specs.Prelude.{if◌then◌else◌, filter, is_some, map, flat_map, length, nat_eq, slice_get}
use Rattle.std.specs.Option.{option_and_then}
use Rattle.types.specs.Components.{components_of}
use Rattle.types.specs.Forms.{Form}
use Rattle.types.specs.Types.{element_of, field_of, is_ordinal, is_structured, scalar_range_of, set_base}
use Rattle.types.specs.declared.form.ArrayElement.{ArrayElement}
use Rattle.types.specs.declared.form.OrdinalRange.{OrdinalRange}
use Rattle.types.specs.declared.form.RecordField.{RecordField}
use Rattle.types.specs.declared.form.Step.{Step}
use Rattle.types.specs.declared.form.Step.TheVariants as step
use Rattle.types.specs.declared.form.TypeId.{TypeId}
use Rattle.typed_tree.specs.declared.tree.PathStep.{PathStep}
use Rattle.typed_tree.specs.declared.tree.PathStep.TheVariants as path
use Rattle.typed_tree.specs.declared.tree.Selector.{Selector}
use Rattle.typed_tree.specs.declared.tree.Selector.TheVariants as selector
use Rattle.typed_tree.specs.declared.tree.Tree.{Tree}
use Rattle.typed_tree.specs.declared.tree.Variable.{Variable}
use Rattle.typed_tree.specs.Accesses.{Origin, root_of, steps_of}
use Rattle.typed_tree.specs.WellFormed.{of_one}
use Rattle.domain.specs.Facts as fact
use Rattle.domain.specs.Facts.{Path}
use Rattle.checker_rows.specs.Leaves.{Leaf, LeafStep, Elements, FieldAt, begins, is_named, leaves_of, scalar}

-- a leaf of a variable, by the variable's root number; a variable as a whole is its own leaf
pub record Row : Type 0 where
  pub root : ℕ
  pub leaf : Leaf

-- ---- the rows of a program

-- those of variables by their root numbers, the first of which is given
abbrev pub own_rows : List Form → ℕ → List Variable → List Row
own_rows types root [] = []
own_rows types root (variable ∷ variables) =
    record { root = root; leaf = scalar (Some variable.type_id) (scalar_range_of types variable.type_id) }
    ∷ own_rows types (suc root) variables

abbrev pub variable_rows : List Form → ℕ → Variable → List Row
variable_rows types root variable =
    if is_structured types variable.type_id
    then map (λ leaf. record { root = root; leaf = leaf }) (leaves_of types variable.type_id)
    else []

-- those of the leaves of structured variables, the first of which has a root number
abbrev pub rows_from : List Form → ℕ → List Variable → List Row
rows_from types root [] = []
rows_from types root (variable ∷ variables) =
    variable_rows types root variable ++ rows_from types (suc root) variables

abbrev pub leaf_rows : Tree → List Row
leaf_rows tree = rows_from tree.types 0 tree.variables.items

abbrev pub rows_of : Tree → List Row
rows_of tree = own_rows tree.types 0 tree.variables.items ++ leaf_rows tree

-- ---- some of them

-- the numbers of those of which a test holds, the first row having a number
abbrev pub numbers_where : (Row → Bool) → ℕ → List Row → List ℕ
numbers_where test number [] = []
numbers_where test number (row ∷ rows) =
    if test row then number ∷ numbers_where test (suc number) rows else numbers_where test (suc number) rows

abbrev pub is_under : ℕ → List LeafStep → Row → Bool
is_under root steps row = nat_eq row.root root && begins steps row.leaf.steps

-- a variable that is there is structured
abbrev pub is_structured_variable : Tree → ℕ → Bool
is_structured_variable tree root =
    of_one (λ variable. is_structured tree.types variable.type_id) (slice_get tree.variables.items root)

-- a variable that is there is an ordinal
abbrev pub is_ordinal_variable : Tree → ℕ → Bool
is_ordinal_variable tree root =
    of_one (λ variable. is_ordinal tree.types variable.type_id) (slice_get tree.variables.items root)

-- the row of a variable that is there and no structured one is its own
abbrev pub is_variable_row : Tree → ℕ → Bool
is_variable_row tree row =
    of_one (λ variable. not (is_structured tree.types variable.type_id)) (slice_get tree.variables.items row)

-- the row of a structured variable as a whole, which says nothing
abbrev pub is_whole_row : Tree → ℕ → Bool
is_whole_row tree row = is_structured_variable tree row

-- the row of a variable that is no structured one
abbrev pub own_row : ℕ → List LeafStep → List ℕ
own_row root [] = root ∷ []
own_row root (step ∷ steps) = []

-- those that lie under a part of a variable: of one that is structured the leaves there, and else the variable's own
abbrev pub rows_under : Tree → ℕ → List LeafStep → List ℕ
rows_under tree root steps =
    if is_structured_variable tree root
    then numbers_where (is_under root steps) (length tree.variables.items) (leaf_rows tree)
    else own_row root steps

abbrev pub leaf_step : Selector → LeafStep
leaf_step (selector.Element fits cells) = Elements
leaf_step (selector.Field position offset) = FieldAt position

abbrev pub path_step : PathStep → LeafStep
path_step path.Element = Elements
path_step (path.Field position) = FieldAt position

-- the steps from a variable to what is accessed in it, its indexes aside: those to where the access begins, which may
-- be at a record of a with statement (6.8.3.10), and then its own
abbrev pub steps_accessed : Origin → List Selector → List LeafStep
steps_accessed origin selectors = map path_step (steps_of origin) ++ map leaf_step selectors

-- those under what is accessed
abbrev pub rows_accessed : Tree → Origin → List Selector → List ℕ
rows_accessed tree origin selectors = rows_under tree (root_of origin) (steps_accessed origin selectors)

-- those of several variables
abbrev pub rows_touched : Tree → List ℕ → List ℕ
rows_touched tree roots = flat_map (λ root. rows_under tree root []) roots

-- what is known of a row by its number
abbrev pub type_at : List Row → ℕ → Option TypeId
type_at rows number = option_and_then (λ row. row.leaf.type_id) (slice_get rows number)

abbrev pub values_at : List Row → ℕ → Option OrdinalRange
values_at rows number = option_and_then (λ row. row.leaf.values) (slice_get rows number)

-- the values of each index on the way to its components, the first one first; and of the first two, if there are such
abbrev pub row_indexes : Option Row → List OrdinalRange
row_indexes None = []
row_indexes (Some row) = row.leaf.indexes

abbrev pub indexes_at : List Row → ℕ → List OrdinalRange
indexes_at rows number = row_indexes (slice_get rows number)

abbrev pub index_at : List Row → ℕ → Option OrdinalRange
index_at rows number = slice_get (indexes_at rows number) 0

abbrev pub inner_at : List Row → ℕ → Option OrdinalRange
inner_at rows number = slice_get (indexes_at rows number) 1

-- a type is one of sets (6.4.3.4)
abbrev pub is_of_sets : List Form → Option TypeId → Bool
is_of_sets types None = false
is_of_sets types (Some id) = is_some (set_base types id)

-- the components of a row are sets
abbrev pub holds_sets : Tree → ℕ → Bool
holds_sets tree row = is_of_sets tree.types (type_at (rows_of tree) row)

-- ---- paths of certificates

-- a part of a variable, or a part of each of its elements, and its type
pub record Named : Type 0 where
  pub steps : List LeafStep
  pub type_id : TypeId

abbrev pub behind_element : Named → Option ArrayElement → Option Named
behind_element before None = None
behind_element before (Some element) =
    Some (record { steps = before.steps ++ Elements ∷ []; type_id = element.type_id })

abbrev pub behind_name : Named → Option RecordField → Option Named
behind_name before None = None
behind_name before (Some field) =
    Some (record { steps = before.steps ++ FieldAt field.position ∷ []; type_id = field.type_id })

-- what a step of a path names, behind what was named before it
abbrev pub next_named : List Form → Named → fact.Step → Option Named
next_named types before fact.Elements = behind_element before (element_of types before.type_id)
next_named types before (fact.Field name) = behind_name before (field_of types before.type_id name)

abbrev pub steps_named : List Form → List fact.Step → Named → Option Named
steps_named types [] before = Some before
steps_named types (next ∷ steps) before = option_and_then (steps_named types steps) (next_named types before next)

abbrev pub variable_named : List Form → List fact.Step → Option Variable → Option Named
variable_named types steps None = None
variable_named types steps (Some variable) =
    steps_named types steps (record { steps = []; type_id = variable.type_id })

-- what a path names, if it is there
abbrev pub part_named : Tree → Path → Option Named
part_named tree path = variable_named tree.types path.steps (slice_get tree.variables.items path.root)

-- ---- the components of a row

-- components of a variable, each by the steps to it
pub record Parts : Type 0 where
  pub root : ℕ
  pub components : List (List Step)

abbrev pub components_in : List Form → Option Variable → List (List Step)
components_in types None = []
components_in types (Some variable) = components_of types variable.type_id

-- those of a leaf of a structured variable
abbrev pub parts_of : Tree → Row → Parts
parts_of tree row = record {
  root = row.root;
  components = filter (is_named row.leaf.steps) (components_in tree.types (slice_get tree.variables.items row.root));
}

-- a variable as a whole is the one component of its own row
abbrev pub own_part : Row → Parts
own_part row = record { root = row.root; components = [] ∷ [] }

-- the components of each row of a program
abbrev pub all_parts : Tree → List Parts
all_parts tree =
    map own_part (own_rows tree.types 0 tree.variables.items) ++ map (parts_of tree) (leaf_rows tree)

-- the components of the row of a number
abbrev pub no_parts : Parts
no_parts = record { root = 0; components = [] }

-- the first index among the steps to a component, if there is one
abbrev pub first_index : List Step → Option ℤ
first_index [] = None
first_index (step.Element index ∷ steps) = Some index
first_index (step.Field position ∷ steps) = first_index steps

-- the indexes among these steps, the first one first
abbrev pub indexes_of : List Step → List ℤ
indexes_of [] = []
indexes_of (step.Element index ∷ steps) = index ∷ indexes_of steps
indexes_of (step.Field position ∷ steps) = indexes_of steps

-- indexes are of these values, the first index of the first, and so on; one behind them is any
abbrev pub LieIn : List OrdinalRange → List ℤ → Type 0
LieIn [] indexes = Unit {0}
LieIn (range ∷ ranges) [] = ⊥
LieIn (range ∷ ranges) (index ∷ indexes) =
    (range.first ≤ℤ index) × (index ≤ℤ range.last) × LieIn ranges indexes
