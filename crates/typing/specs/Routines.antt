-- The typing of blocks (ISO 7185:1990, 6.2.1) and of the routines that they declare (6.6.1, 6.6.2): a heading, whose
-- types are looked up outside the routine's block, and then the block, or the directive forward in its place. It says
-- nothing of what a routine does.
use Rattle.std.specs.Prelude.{ℕ, Bool, true, false, not, ◌&&◌, ◌++◌, List, [], ◌∷◌, Option, Some, None, Ok, Err}
use Rattle.std.specs.Prelude.{flat_map, if◌then◌else◌, is_none, map, nat_eq}
use Rattle.std.specs.Map.{lookup}
use Rattle.std.specs.Option.{option_or}
use Rattle.indexmap.specs.IndexMap.{insert_entry}
use Rattle.place.specs.declared.Place.{Place}
use Rattle.syntax_tree.specs.declared.Name.{Name}
use Rattle.syntax_tree.specs.declared.Block.{Block}
use Rattle.syntax_tree.specs.declared.Block.TheOpen.{Block-F, Routine-F}
use Rattle.syntax_tree.specs.declared.Block.TheFolds.{fold-Block, fold-Routine}
use Rattle.syntax_tree.specs.declared.Routine.{Routine}
use Rattle.syntax_tree.specs.declared.ConstantDefinition.{ConstantDefinition}
use Rattle.syntax_tree.specs.declared.FormalGroup.{FormalGroup}
use Rattle.syntax_tree.specs.declared.Heading.{Heading}
use Rattle.syntax_tree.specs.declared.Heading.TheVariants.{Procedure, Function, Resumed}
use Rattle.syntax_tree.specs.declared.Passing.{Passing as FormalKind}
use Rattle.syntax_tree.specs.declared.Passing.TheVariants as formal
use Rattle.syntax_tree.specs.declared.TypeDefinition.{TypeDefinition}
use Rattle.syntax_tree.specs.declared.VariableGroup.{VariableGroup}
use Rattle.types.specs.declared.form.TypeId.{TypeId}
use Rattle.types.specs.Types.{is_ordinal}
use Rattle.scopes.specs.Scopes.{said}
use Rattle.scopes.specs.declared.denotation.Denotation.{Denotation}
use Rattle.scopes.specs.declared.denotation.Denotation.TheVariants as denotes
use Rattle.typed_tree.specs.declared.fault.TypeFault.TheVariants as fault
use Rattle.typed_tree.specs.declared.site.SiteKind.TheVariants as kind
use Rattle.typed_tree.specs.declared.tree.FunctionResult.{FunctionResult}
use Rattle.typed_tree.specs.declared.tree.VariableKind.{VariableKind}
use Rattle.typed_tree.specs.declared.tree.VariableKind.TheVariants as variable
use Rattle.typed_tree.specs.Look.{BlockEnds}
use Rattle.typing.specs.Names.{folded, all_folded, formal_names, heading_names, names_defined}
use Rattle.typing.specs.Passing.{Headed, Passing, fail, given, mark, each, pure, after, ◌>>=◌, ◌>>◌, ◌>>?◌}
use Rattle.typing_rules.specs.Checked.{Checked}
use Rattle.typing.specs.Steps.{add_heading, close_block, declare, heading_at, innermost, is_assigned, may_nest}
use Rattle.typing_rules.specs.Checked.{fits}
use Rattle.typing.specs.Steps.{next_block, next_root, open_beside, open_block, enclosing_now, reserve, site}
use Rattle.typing.specs.Steps.{with_enclosing}
use Rattle.typing.specs.Constants.{constant}
use Rattle.typing.specs.Denoters.{denoted_type, type_of_name}
use Rattle.typing.specs.Statements.{statement, compound}

-- ---- declarations

-- a constant definition: its value, and then its name
unfoldable pub definition : ConstantDefinition → Passing (Unit {0})
definition d = constant d.value >>= declare d.name

-- a type definition: its denoter, and then its name
unfoldable pub type_definition : TypeDefinition → Passing (Unit {0})
type_definition d = denoted_type d.denoter >>= (λ type_id. declare d.name (denotes.TypeName type_id))

-- a variable of a block: its definition, and then its cells
unfoldable pub declared : ℕ → VariableKind → TypeId → Name → Passing ℕ
declared block kind type_id name = do
  root ← next_root name.place
  declare name (denotes.Variable root type_id)
  reserve name.place block kind type_id
  pure root

-- one of the variable declaration part of the block round the place
unfoldable pub local : TypeId → Name → Passing (Unit {0})
local type_id name = do
  enclosing ← enclosing_now
  declared enclosing.block variable.Local type_id name
  pure tt

-- variables that are declared together; their type is looked up first
unfoldable pub group : VariableGroup → Passing (Unit {0})
group g = denoted_type g.denoter >>= (λ type_id. each (local type_id) g.names.items)

-- ---- headings

-- how a formal parameter is declared (6.6.3)
abbrev pub parameter_kind : FormalKind → VariableKind
parameter_kind formal.Value = variable.ValueParameter
parameter_kind formal.Variable = variable.VariableParameter

-- the types of groups of formal parameters, which are looked up before any of these is declared
abbrev pub group_types : List FormalGroup → Passing (List TypeId)
group_types [] = pure []
group_types (g ∷ groups) = do
  type_id ← type_of_name g.type_name
  types ← group_types groups
  pure (type_id ∷ types)

-- the type of a result is ordinal; K1 at its name where it isn't
unfoldable pub result_type : Name → Passing TypeId
result_type name = type_of_name name >>? (λ types id. fits (is_ordinal types id) name.place id)

-- the result of a block's function, if it is one: it has no name of its own
unfoldable pub result : ℕ → Place → Option TypeId → Passing (Option ℕ)
result block place None = pure None
result block place (Some type_id) = do
  root ← next_root place
  reserve place block variable.Result type_id
  pure (Some root)

-- formal parameters of a block, by their roots
abbrev pub parameters_named : ℕ → VariableKind → TypeId → List Name → Passing (List ℕ)
parameters_named block kind type_id [] = pure []
parameters_named block kind type_id (name ∷ names) = do
  root ← declared block kind type_id name
  roots ← parameters_named block kind type_id names
  pure (root ∷ roots)

abbrev pub parameters : ℕ → List FormalGroup → List TypeId → Passing (List ℕ)
parameters block [] types = pure []
parameters block (g ∷ groups) [] = pure []
parameters block (g ∷ groups) (type_id ∷ types) = do
  roots ← parameters_named block (parameter_kind g.by) type_id g.names.items
  others ← parameters block groups types
  pure (roots ++ others)

abbrev pub type_of_result : Option Name → Passing (Option TypeId)
type_of_result None = pure None
type_of_result (Some name) = result_type name >>= (λ type_id. pure (Some type_id))

-- a heading of a block of a number, with parameters, and with the name of its result's type if it is a function's; the
-- cells of the block round it count on behind it
unfoldable pub heading : ℕ → Name → List FormalGroup → Option Name → Passing (Unit {0})
heading number name groups of_result = do
  types ← group_types groups
  result_id ← type_of_result of_result
  round ← enclosing_now
  with_enclosing (record round { cells = 0 })
  root ← result number name.place result_id
  open_block (all_folded (flat_map formal_names groups))
  roots ← parameters number groups types
  region ← close_block
  own ← enclosing_now
  with_enclosing round
  add_heading (record {
    around = round.around ++ round.block ∷ [];
    parameters = roots;
    result = root;
    region = region;
    cells = own.cells;
  })

-- a routine's name is declared, with the heading of its block, whose number it is
unfoldable pub new_heading : Name → List FormalGroup → Option Name → Passing ℕ
new_heading name groups of_result = do
  may_nest name.place
  number ← next_block name.place
  declare name (denotes.Routine number (not (is_none of_result)))
  heading number name groups of_result
  pure number

-- ---- the directive forward

abbrev pub is_same_kind : Bool → Bool → Bool
is_same_kind true other = other
is_same_kind false other = not other

-- a routine waits for its block
abbrev pub is_waiting : Option (Option Place) → Bool
is_waiting None = false
is_waiting (Some None) = false
is_waiting (Some (Some place)) = true

-- the block of a routine that waits for it
abbrev pub waits : Bool → List (ℕ × Option Place) → Option (Option Denotation) → Option ℕ
waits is_function waiting (Some (Some (denotes.Routine block of_function))) =
    if is_waiting (lookup (nat_eq block) waiting) && is_same_kind is_function of_function then Some block else None
waits is_function waiting says = None

-- the block of a function, or of a procedure, of this name, if the block round the place declared it and it waits
unfoldable pub waiting_for : Bool → Name → Passing (Option ℕ)
waiting_for is_function name = λ s.
    Ok (after (waits is_function s.enclosing.waiting (said (innermost s.regions) (folded name.text.now))) [] s)

-- the number of the block behind a heading, and whether that is the block's first
pub record Begun : Type 0 where
  pub number : ℕ
  pub is_first : Bool

abbrev pub resumed : ℕ → Passing Begun
resumed number = pure (record { number = number; is_first = false })

abbrev pub begun : Name → List FormalGroup → Option Name → Passing Begun
begun name groups of_result =
    new_heading name groups of_result >>= (λ number. pure (record { number = number; is_first = true }))

abbrev pub or_mismatched : Name → Option ℕ → Passing Begun
or_mismatched name (Some number) = resumed number
or_mismatched name None = fail (fault.Mismatch name.place)

abbrev pub or_new : Name → Option ℕ → Passing Begun
or_new name (Some number) = resumed number
or_new name None = begun name [] None

abbrev pub procedure_headed : Name → List FormalGroup → Passing Begun
procedure_headed name [] = waiting_for false name >>= or_new name
procedure_headed name (g ∷ groups) = begun name (g ∷ groups) None

-- the block of a heading: a procedure without parameters may be one that waits, and so is a function without a type
abbrev pub headed : Heading → Passing Begun
headed (Procedure name formals) = procedure_headed name formals.items
headed (Function name formals of_result) = begun name formals.items (Some of_result)
headed (Resumed name) = waiting_for true name >>= or_mismatched name

-- ---- blocks

-- a block as it is typed: the names that it defines, its last `end`, and its typing in its region
pub record TypedBlock : Type 0 where
  pub names : List Name
  pub end : Place
  pub typing : Passing (Unit {0})

-- a routine: the names that it defines round its block, and its typing
pub record TypedRoutine : Type 0 where
  pub names : List Name
  pub typing : Passing (Unit {0})

-- a routine of the block waits for its block from a place on, or no longer
unfoldable pub told_waiting : ℕ → Option Place → Passing (Unit {0})
told_waiting number place =
    enclosing_now
    >>= (λ enclosing. with_enclosing (record enclosing {
      waiting = insert_entry nat_eq enclosing.waiting number place;
    }))

-- the place of the first that waits
abbrev pub first_waiting : List (ℕ × Option Place) → Option Place
first_waiting [] = None
first_waiting (one ∷ others) = option_or one.1 (first_waiting others)

abbrev pub none_waits : Option Place → Checked (Unit {0})
none_waits None = Ok tt
none_waits (Some place) = Err (fault.NotCompleted place)

-- no routine of the block waits; K9 at the name of the first that does
unfoldable pub all_came : Passing (Unit {0})
all_came = enclosing_now >>= (λ enclosing. given (none_waits (first_waiting enclosing.waiting)))

-- the end of a function has the site of its result; K7 at the function's name where that is assigned nowhere
unfoldable pub result_at_end : Place → Place → Option ℕ → Passing (Option FunctionResult)
result_at_end name end None = pure None
result_at_end name end (Some root) = do
  is_assigned name root
  defined ← site kind.UndefinedResult end
  pure (Some (record { root = root; defined = defined }))

-- the block of a number ends
unfoldable pub block_end : ℕ → Place → Place → Headed → Passing (Unit {0})
block_end number name end heading = do
  result ← result_at_end name end heading.result
  mark (BlockEnds number heading.around heading.parameters result end)

-- the block of a routine, behind its heading; behind it the block round it goes on
unfoldable pub routine_block : ℕ → Name → TypedBlock → Passing (Unit {0})
routine_block number name block = do
  round ← enclosing_now
  heading ← heading_at number
  with_enclosing (record { block = number; around = heading.around; cells = heading.cells; waiting = [] })
  open_beside heading.region (all_folded block.names)
  block.typing
  block_end number name.place block.end heading
  close_block
  with_enclosing round

abbrev pub heading_name : Heading → Name
heading_name (Procedure name formals) = name
heading_name (Function name formals result) = name
heading_name (Resumed name) = name

-- the directive forward stands behind the first heading alone; else the name is declared twice
abbrev pub forward : Bool → ℕ → Place → Passing (Unit {0})
forward true number place = told_waiting number (Some place)
forward false number place = fail (fault.DeclaredTwice place)

-- what stands behind a heading: a block, or the directive forward
abbrev pub routine_body : Begun → Name → Option TypedBlock → Passing (Unit {0})
routine_body heading name None = forward heading.is_first heading.number name.place
routine_body heading name (Some block) = told_waiting heading.number None >> routine_block heading.number name block

abbrev pub routine_step : Routine-F TypedBlock TypedRoutine → TypedRoutine
routine_step r = record {
  names = heading_names r.heading;
  typing = headed r.heading >>= (λ begins. routine_body begins (heading_name r.heading) r.block);
}

-- the declarations of a block in the order of the text, and its statements
abbrev pub block_step : Block-F TypedBlock TypedRoutine → TypedBlock
block_step b = record {
  names =
      names_defined b.constants.items b.types.items b.variables.items
      (flat_map (λ routine. routine.names) b.routines.items);
  end = b.end;
  typing = do
    each definition b.constants.items
    each type_definition b.types.items
    each group b.variables.items
    each (λ routine. routine.typing) b.routines.items
    all_came
    compound (map statement b.statements.items);
}

-- a block
abbrev pub typed_block : Block → TypedBlock
typed_block = fold-Block TypedBlock TypedRoutine block_step routine_step

-- a routine
abbrev pub typed_routine : Routine → TypedRoutine
typed_routine = fold-Routine TypedBlock TypedRoutine block_step routine_step
