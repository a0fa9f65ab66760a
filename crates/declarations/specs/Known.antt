-- The names whose definitions are to come (ISO 7185:1990, 6.2.2): the region of their block lists them from the start.
-- It says nothing of what they denote.
use Rattle.std.specs.Prelude.{List, Vec, All, map, flat_map}
use Rattle.std.specs.declared.alloc.Global.{Global}
use Rattle.syntax_tree.specs.declared.ConstantDefinition.{ConstantDefinition}
use Rattle.syntax_tree.specs.declared.Name.{Name}
use Rattle.syntax_tree.specs.declared.TypeDefinition.{TypeDefinition}
use Rattle.syntax_tree.specs.declared.TypeDenoter.{TypeDenoter}
use Rattle.syntax_tree.specs.declared.VariableGroup.{VariableGroup}
use Rattle.syntax_tree.specs.Places.{fields_of}
use Rattle.scopes.specs.Scopes.{Region, Knows}
use Rattle.syntax_tree.specs.declared.Routine.{Routine}
use Rattle.syntax_tree.specs.declared.Block.TheViews.{out-Routine}
use Rattle.typing.specs.Names.{folded, denoter_names, group_names, heading_names, type_names}

-- the innermost region lists each of these names
abbrev pub AreKnown : List Name → List Region → Type 0
AreKnown names regions = All (λ name. Knows regions (folded name.text.now)) names

-- the innermost region lists the name of each of these constants
abbrev pub AreKnownDefinitions : List ConstantDefinition → List Region → Type 0
AreKnownDefinitions definitions regions = All (λ d. Knows regions (folded d.name.text.now)) definitions

-- the innermost region lists each name of these type definitions
abbrev pub AreKnownTypes : List TypeDefinition → List Region → Type 0
AreKnownTypes definitions regions = All (λ d. AreKnown (type_names d) regions) definitions

-- the innermost region lists each name of these groups
abbrev pub AreKnownGroups : List VariableGroup → List Region → Type 0
AreKnownGroups groups regions = All (λ group. AreKnown (group_names group) regions) groups

-- the innermost region lists the name of each of these routines that is declared first
abbrev pub AreKnownRoutines : List Routine → List Region → Type 0
AreKnownRoutines routines regions = All (λ r. AreKnown (heading_names (out-Routine r).heading) regions) routines

-- the names that denoters define
abbrev pub names_in : List TypeDenoter → List Name
names_in denoters = flat_map (λ names. names) (map denoter_names denoters)

-- those that the denoters of groups of fields define
abbrev pub names_in_groups : List (Vec Name Global) → List TypeDenoter → List Name
names_in_groups rows denoters = flat_map (λ field. field.1) (fields_of rows (map denoter_names denoters))
