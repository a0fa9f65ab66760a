-- Where the cells of a block's frame lie: behind its four links those of its parameters, then those of its other
-- variables, each as many as the type of the variable takes, and above them what is held while its statements run. A
-- variable parameter has one cell, with the address at which its actual one lies, as has each record of a `with` round
-- a place (ISO 7185:1990, 6.8.3.10). It does not say what the others hold.
use Rattle.std.specs.Prelude.{ℕ, zero, suc, ◌+◌, ◌-◌, ◌&&◌, min, Bool, true, false, List, [], ◌∷◌, ◌++◌}
use Rattle.std.specs.Prelude.{Option, Some, None}
use Rattle.std.specs.Prelude.{filter, if◌then◌else◌, length, nat_eq, not, slice_get, sum_by, take}
use Rattle.types.specs.Forms.{Form}
use Rattle.types.specs.Types.{cells_of}
use Rattle.typed_tree.specs.declared.tree.Tree.{Tree}
use Rattle.typed_tree.specs.declared.tree.Access.{Access}
use Rattle.typed_tree.specs.declared.tree.Base.{Base}
use Rattle.typed_tree.specs.declared.tree.Base.TheVariants as base
use Rattle.typed_tree.specs.declared.tree.Block.{Block}
use Rattle.typed_tree.specs.declared.tree.Selector.{Selector}
use Rattle.typed_tree.specs.declared.tree.Selector.TheVariants.{Field}
use Rattle.typed_tree.specs.declared.tree.Variable.{Variable}
use Rattle.typed_tree.specs.WellFormed.{is_parameter_kind, is_variable_kind}
use Rattle.code_scheme.specs.declared.home.Home.{Home}
use Rattle.code_scheme.specs.declared.routine.Routine.{Routine}

-- a number as an offset, or the greatest offset
abbrev pub offset : ℕ → ℕ
offset n = min n 16777215

-- a number of cells as a count, or the greatest count
abbrev pub count : ℕ → ℕ
count n = min n 16777216

-- a number of components as a length, or the greatest length
abbrev pub row_length : ℕ → ℕ
row_length n = min n 65536

-- a number of static links to follow, or the greatest number
abbrev pub links : ℕ → ℕ
links n = min n 15

-- where code runs: the variables by root, and the routines by the number of their block; the level of its own block;
-- where in the frame the next cell lies that is held above the variables and above those that are held already; and the
-- records of the `with` statements round it, by their slots, each of which has such a cell
pub record Scope : Type 0 where
  pub homes : List Home
  pub routines : List Routine
  pub level : ℕ
  pub next : ℕ
  pub records : List Home

-- how many cells a variable takes in a frame
abbrev pub slot_cells : List Form → Variable → ℕ
slot_cells types variable = if is_variable_kind variable.kind then 1 else cells_of types variable.type_id

-- the parameters among the variables that a block declares, and the others
abbrev pub is_parameter_of : ℕ → Variable → Bool
is_parameter_of block variable = nat_eq variable.block block && is_parameter_kind variable.kind

abbrev pub is_other_of : ℕ → Variable → Bool
is_other_of block variable = nat_eq variable.block block && not (is_parameter_kind variable.kind)

-- how many cells those of some variables take of which a test holds
abbrev pub cells_where : List Form → (Variable → Bool) → List Variable → ℕ
cells_where types test variables = sum_by (slot_cells types) (filter test variables)

-- how many the parameters of a block take, and its other variables
abbrev pub parameter_cells : Tree → ℕ → ℕ
parameter_cells tree block = cells_where tree.types (is_parameter_of block) tree.variables.items

abbrev pub other_cells : Tree → ℕ → ℕ
other_cells tree block = cells_where tree.types (is_other_of block) tree.variables.items

-- where a variable begins in the frame of its block: behind the links, and behind those that stand before it there
abbrev pub start_of : Tree → ℕ → Variable → ℕ
start_of tree root variable =
    let before = take root tree.variables.items in
    4 + (if is_parameter_kind variable.kind then cells_where tree.types (is_parameter_of variable.block) before
    else parameter_cells tree variable.block + cells_where tree.types (is_other_of variable.block) before)

-- the level of a block: how many stand round it
abbrev pub level_of : Option Block → ℕ
level_of None = 0
level_of (Some block) = length block.heading.around.items

abbrev pub block_level : Tree → ℕ → ℕ
block_level tree number = level_of (slice_get tree.blocks.items number)

abbrev pub home_of : Tree → ℕ → Variable → Home
home_of tree root variable = record {
  level = block_level tree variable.block;
  start = offset (start_of tree root variable);
  refers = is_variable_kind variable.kind;
}

-- where these variables lie, of which the first has this root
abbrev pub homes_from : Tree → ℕ → List Variable → List Home
homes_from tree root [] = []
homes_from tree root (variable ∷ variables) = home_of tree root variable ∷ homes_from tree (suc root) variables

abbrev pub homes_of : Tree → List Home
homes_of tree = homes_from tree 0 tree.variables.items

-- where nothing lies
abbrev pub no_home : Home
no_home = record { level = 0; start = 0; refers = false }

abbrev pub home_or_none : Option Home → Home
home_or_none None = no_home
home_or_none (Some home) = home

-- where a variable lies, by its root
abbrev pub variable_home : Scope → ℕ → Home
variable_home scope root = home_or_none (slice_get scope.homes root)

-- where the address of a record lies, by its slot
abbrev pub record_home : Scope → ℕ → Home
record_home scope slot = home_or_none (slice_get scope.records slot)

-- the same of what an access begins at: a variable or a record
abbrev pub begun_home : Scope → ℕ → Base → Home
begun_home scope root base.Variable = variable_home scope root
begun_home scope root (base.Record slot path) = record_home scope slot

abbrev pub access_home : Scope → Access → Home
access_home scope access = begun_home scope access.root access.base

abbrev pub no_routine : Routine
no_routine = record { level = 0; cells = 0; place = 0 }

abbrev pub routine_or_none : Option Routine → Routine
routine_or_none None = no_routine
routine_or_none (Some routine) = routine

-- a routine, by the number of its block
abbrev pub called_routine : Scope → ℕ → Routine
called_routine scope block = routine_or_none (slice_get scope.routines block)

-- how many static links lead from where code runs to the frame of a block of this level
abbrev pub links_to : Scope → ℕ → ℕ
links_to scope level = links (scope.level - level)

-- how many cells lie before the component that the fields before the first index select
abbrev pub fields_offset : List Selector → ℕ
fields_offset (Field position before ∷ selectors) = before + fields_offset selectors
fields_offset other = 0

-- the selectors behind them: from the first index on
abbrev pub behind_fields : List Selector → List Selector
behind_fields (Field position before ∷ selectors) = behind_fields selectors
behind_fields other = other

-- the selectors from which code goes on over an address: from that of a variable parameter's actual one, or of a
-- record, all of them, else those from the first index on
abbrev pub selectors_from : Bool → List Selector → List Selector
selectors_from true selectors = selectors
selectors_from false selectors = behind_fields selectors

-- where in the frame that component begins, if the access begins at a variable that is no variable parameter
abbrev pub access_offset : Scope → Access → ℕ
access_offset scope access =
    offset ((access_home scope access).start + fields_offset access.selectors.items)

-- where the n-th cell lies in the frame that is held above the variables and above those that are held already
abbrev pub held_offset : Scope → ℕ → ℕ
held_offset scope n = offset (scope.next + n)

-- the scope of code that runs while so many cells more are held
abbrev pub holding : ℕ → Scope → Scope
holding cells scope = record scope { next = count (scope.next + cells) }

-- the scope of code that runs while the address of one record more is held, and of so many records more
abbrev pub with_record : Scope → Scope
with_record scope = record scope {
  next = count (scope.next + 1);
  records = scope.records ++ record { level = scope.level; start = held_offset scope 0; refers = true } ∷ [];
}

abbrev pub with_records : ℕ → Scope → Scope
with_records zero scope = scope
with_records (suc n) scope = with_records n (with_record scope)

-- the scope of a block of a number, at whose level it runs: nothing is held above its variables
abbrev pub block_scope : Tree → List Routine → ℕ → Scope
block_scope tree routines number = record {
  homes = homes_of tree;
  routines = routines;
  level = block_level tree number;
  next = count (4 + parameter_cells tree number + other_cells tree number);
  records = [];
}
