-- What stays while declarations are passed: a name that is known stays known, since each form goes a way.
use Rattle.std.proofs.Common.{◌≡◌, ℕ, Bool, true, List, [], map, slice_index_or, Result, Ok, Err, IfOk}
use Rattle.place.specs.declared.Place.{Place}
use Rattle.syntax_tree.specs.declared.Name.{Name}
use Rattle.syntax_tree.specs.declared.Constant.{Constant}
use Rattle.syntax_tree.specs.declared.ConstantDefinition.{ConstantDefinition}
use Rattle.syntax_tree.specs.declared.TypeDefinition.{TypeDefinition}
use Rattle.syntax_tree.specs.declared.TypeDenoter.{TypeDenoter}
use Rattle.syntax_tree.specs.declared.VariableGroup.{VariableGroup}
use Rattle.types.specs.Forms.{Form}
use Rattle.types.specs.declared.form.TypeId.{TypeId}
use Rattle.scopes.specs.Scopes.{Knows}
use Rattle.scopes.specs.declared.denotation.Denotation.{Denotation}
use Rattle.typed_tree.specs.declared.fault.TypeFault.{TypeFault}
use Rattle.typed_tree.specs.declared.tree.VariableKind.{VariableKind}
use Rattle.typed_tree.specs.Look.{Look}
use Rattle.typing.specs.Constants.{constant}
use Rattle.typing.specs.Denoters.{denoted_type, index_type, index_types}
use Rattle.typing.specs.Names.{folded, group_names, type_names}
use Rattle.typing.specs.Outcomes.{TypingTakes}
use Rattle.typing.specs.Passing.{Passed, Passing, after, each}
use Rattle.typing.specs.Routines.{declared, definition, group, local, parameters_named, type_definition, waiting_for}
use Rattle.typing.specs.Steps.{add_type, declare, pass}
use Rattle.typing.specs.Typing.{parameter_of_program}
use Rattle.typing.proofs.Stays.{stays}
use Rattle.typing.proofs.WalkedBlocks.{declared_walks, definition_walks, denoted_type_walks, denoters_walk, group_walks, index_type_walks, index_types_walk}
use Rattle.typing.proofs.WalkedBlocks.{local_walks, named_walk, parameter_walks, type_definition_walks, waiting_for_walks}
use Rattle.typing.proofs.WalkedForms.{constant_walks}
use Rattle.typing.proofs.Ways.{Anyone, Way, Walks, add_type_walks, declare_walks, each_walks, pass_walks}
use Rattle.declarations.specs.Known.{AreKnown, AreKnownDefinitions, AreKnownTypes, AreKnownGroups}

-- a form goes a way
abbrev pub Keeps : {A : Type 0} → Passing A → Type 0
Keeps p = Walks (Way true Anyone 0 0) p

pub pass_keeps : (place : Place) → Keeps (pass place)
pass_keeps place = pass_walks place

pub add_type_keeps : (place : Place) (form : Form) → Keeps (add_type place form)
add_type_keeps place form = add_type_walks place form tt

pub declare_keeps : (name : Name) (denotation : Denotation) → Keeps (declare name denotation)
declare_keeps name denotation = declare_walks name denotation tt

pub each_keeps : {A : Type 0} (step : A → Passing (Unit {0})) (forms : List A) → ((a : A) → Keeps (step a)) → Keeps (each step forms)
each_keeps step forms keeps = each_walks step forms keeps

pub constant_keeps : (c : Constant) → Keeps (constant c)
constant_keeps = constant_walks true Anyone 0

pub definition_keeps : (d : ConstantDefinition) → Keeps (definition d)
definition_keeps = definition_walks true Anyone tt 0

pub parameter_keeps : (name : Name) → Keeps (parameter_of_program name)
parameter_keeps = parameter_walks true Anyone tt 0

pub denoted_type_keeps : (d : TypeDenoter) → Keeps (denoted_type d)
denoted_type_keeps = denoted_type_walks true Anyone tt 0

pub index_keeps : (d : TypeDenoter) → Keeps (index_type (denoted_type d))
index_keeps d = index_type_walks true Anyone tt 0 (denoted_type d) (denoted_type_keeps d)

pub types_keep : (ds : List TypeDenoter) → Keeps (index_types (map denoted_type ds))
types_keep ds = index_types_walk true Anyone tt 0 (map denoted_type ds) (denoters_walk true Anyone tt 0 ds)

pub type_definition_keeps : (d : TypeDefinition) → Keeps (type_definition d)
type_definition_keeps = type_definition_walks true Anyone tt 0

pub declared_keeps : (block : ℕ) (kind : VariableKind) (type_id : TypeId) (name : Name) → Keeps (declared block kind type_id name)
declared_keeps block kind type_id name = declared_walks true Anyone tt 0 block kind type_id name tt

pub local_keeps : (type_id : TypeId) (name : Name) → Keeps (local type_id name)
local_keeps = local_walks true 0

pub group_keeps : (g : VariableGroup) → Keeps (group g)
group_keeps = group_walks true 0

pub parameters_named_keep : (block : ℕ) (kind : VariableKind) (type_id : TypeId) (names : List Name) → Keeps (parameters_named block kind type_id names)
parameters_named_keep block kind type_id names = named_walk true Anyone tt 0 block kind type_id names tt

pub waiting_for_keeps : (is_function : Bool) (name : Name) → Keeps (waiting_for is_function name)
waiting_for_keeps = waiting_for_walks true Anyone tt 0

-- names stay known behind a step, if it passes
pub known_behind : {A : Type 0} (step : Passing A) → Keeps step → (old new : Passed) (answer : Result A TypeFault) → TypingTakes (step old) answer new
    → (names : List Name) → AreKnown names old.regions → IfOk answer (λ _. AreKnown names new.regions)
known_behind step keeps old new (Err why) takes names known = tt
known_behind step keeps old new (Ok answer) takes names known =
    λ k d within. (stays step keeps answer [] old new takes).known (folded (slice_index_or names k d).text.now) (known k d within)

-- behind a step that passes
module _ {A : Type 0} (step : Passing A) (keeps : Keeps step) (answer : A) (look : Look) (old new : Passed)
    (passes : step old ≡ Ok (after answer look new)) where
  pub still_known : (name : List ℕ) → Knows old.regions name → Knows new.regions name
  still_known = (stays step keeps answer look old new passes).known

  -- names stay known
  pub names_stay : (names : List Name) → AreKnown names old.regions → AreKnown names new.regions
  names_stay names known k d within = still_known (folded (slice_index_or names k d).text.now) (known k d within)

  -- names of constants stay known
  pub definitions_stay : (definitions : List ConstantDefinition) → AreKnownDefinitions definitions old.regions → AreKnownDefinitions definitions new.regions
  definitions_stay definitions known k d within = still_known (folded (slice_index_or definitions k d).name.text.now) (known k d within)

  -- names of types stay known
  pub types_stay : (definitions : List TypeDefinition) → AreKnownTypes definitions old.regions → AreKnownTypes definitions new.regions
  types_stay definitions known k d within = names_stay (type_names (slice_index_or definitions k d)) (known k d within)

  -- names of groups stay known
  pub groups_stay : (groups : List VariableGroup) → AreKnownGroups groups old.regions → AreKnownGroups groups new.regions
  groups_stay groups known k d within = names_stay (group_names (slice_index_or groups k d)) (known k d within)
