-- The names of a program (ISO 7185:1990, 6.1.3, 6.2.2, 6.10): small and capital letters are alike; the required
-- identifiers stand in a region round the program, and its block defines its parameters, its constants, its types, the
-- constants of enumerated types, and its variables.
-- It says nothing of the order in which definitions are passed.
use Rattle.std.specs.Prelude.{ℕ, Bool, true, false, pos, ◌+◌, ◌&&◌, ◌++◌, List, [], ◌∷◌, Some}
use Rattle.std.specs.Prelude.{if◌then◌else◌, nat_le, map}
use Rattle.std.specs.Prelude.{codes, flat_map}
use Rattle.syntax_tree.specs.declared.Name.{Name}
use Rattle.syntax_tree.specs.declared.ConstantDefinition.{ConstantDefinition}
use Rattle.syntax_tree.specs.declared.TypeDefinition.{TypeDefinition}
use Rattle.syntax_tree.specs.declared.TypeDenoter.{TypeDenoter}
use Rattle.syntax_tree.specs.declared.TypeDenoter.TheOpen.{TypeDenoter-F}
use Rattle.syntax_tree.specs.declared.TypeDenoter.TheOpen.TypeDenoter-F.{Name as NamedType, Enumerated, Subrange}
use Rattle.syntax_tree.specs.declared.TypeDenoter.TheOpen.TypeDenoter-F.{Array, Record, Set}
use Rattle.syntax_tree.specs.declared.TypeDenoter.TheFolds.{fold-TypeDenoter}
use Rattle.syntax_tree.specs.Places.{fields_of}
use Rattle.syntax_tree.specs.declared.VariableGroup.{VariableGroup}
use Rattle.syntax_tree.specs.declared.FormalGroup.{FormalGroup}
use Rattle.syntax_tree.specs.declared.Heading.{Heading}
use Rattle.syntax_tree.specs.declared.Heading.TheVariants.{Procedure, Function, Resumed}
use Rattle.types.specs.Types.{integer, boolean, char}
use Rattle.scopes.specs.Scopes.{Region}
use Rattle.scopes.specs.declared.denotation.Denotation.{Denotation}
use Rattle.scopes.specs.declared.denotation.Denotation.TheVariants.{TypeName, Constant}
use Rattle.scopes.specs.declared.denotation.Denotation.TheVariants as denotes
use Rattle.scopes.specs.declared.denotation.File.{File}
use Rattle.scopes.specs.declared.denotation.File.TheVariants as file
use Rattle.scopes.specs.declared.denotation.InputFunction.TheVariants.{Eof, Eoln}
use Rattle.scopes.specs.declared.denotation.FunctionArgument.{FunctionArgument}
use Rattle.scopes.specs.declared.denotation.FunctionArgument.TheVariants as takes
use Rattle.scopes.specs.declared.denotation.FunctionType.{FunctionType}
use Rattle.scopes.specs.declared.denotation.FunctionType.TheVariants as gives
use Rattle.scopes.specs.declared.denotation.FunctionOperation.{FunctionOperation}
use Rattle.scopes.specs.declared.denotation.FunctionOperation.TheVariants.{Calculates, Tests}
use Rattle.scopes.specs.declared.denotation.FunctionValue.TheVariants as value
use Rattle.scopes.specs.declared.denotation.FunctionTest.TheVariants as test

-- a small letter for a capital one
abbrev pub small : ℕ → ℕ
small b = if nat_le 65 b && nat_le b 90 then b + 32 else b

-- a name in small letters
abbrev pub folded : List ℕ → List ℕ
folded name = map small name

-- names in small letters
abbrev pub all_folded : List Name → List (List ℕ)
all_folded names = map (λ name. folded name.text.now) names

-- a required function, by what it takes and gives, and what it does
abbrev pub function : FunctionArgument → FunctionType → FunctionOperation → Denotation
function argument result operation = denotes.Function (record { takes = argument; gives = result; does = operation })

-- the required functions (6.6.6)
abbrev pub required_functions : List (List ℕ × Denotation)
required_functions =
    (codes "abs", function takes.Integer gives.Integer (Calculates value.Absolute))
    ∷ (codes "sqr", function takes.Integer gives.Integer (Calculates value.Square))
    ∷ (codes "odd", function takes.Integer gives.Boolean (Calculates value.Parity))
    ∷ (codes "ord", function takes.Ordinal gives.Integer (Calculates value.Same))
    ∷ (codes "chr", function takes.Integer gives.Char (Tests test.Character))
    ∷ (codes "succ", function takes.Ordinal gives.OfArgument (Tests test.Next))
    ∷ (codes "pred", function takes.Ordinal gives.OfArgument (Tests test.Previous)) ∷ []

-- a required procedure, by its file, and whether it passes or ends a line (6.9)
abbrev pub procedure : File → Bool → Denotation
procedure f ends_line = denotes.Procedure (record { file = f; ends_line = ends_line })

-- the required procedures and functions of the files
abbrev pub required_of_files : List (List ℕ × Denotation)
required_of_files =
    (codes "write", procedure file.Output false) ∷ (codes "writeln", procedure file.Output true)
    ∷ (codes "read", procedure file.Input false) ∷ (codes "readln", procedure file.Input true)
    ∷ (codes "eof", denotes.InputFunction Eof) ∷ (codes "eoln", denotes.InputFunction Eoln) ∷ []

-- the required identifiers (6.2.2.10)
abbrev pub required : List (List ℕ × Denotation)
required =
    (codes "integer", TypeName integer) ∷ (codes "boolean", TypeName boolean) ∷ (codes "char", TypeName char)
    ∷ (codes "maxint", Constant (pos 2147483647) integer)
    ∷ (codes "false", Constant (pos 0) boolean) ∷ (codes "true", Constant (pos 1) boolean)
    ∷ (required_of_files ++ required_functions)

-- their region: all of them are defined
unfoldable pub required_region : Region
required_region = map (λ d. (d.0, Some d.1)) required

-- the names that a denoter defines: the constants of enumerated types, in the order of the text
abbrev pub denoter_step : TypeDenoter-F (List Name) → List Name
denoter_step (NamedType name) = []
denoter_step (Enumerated constants) = constants.items
denoter_step (Subrange first between last) = []
denoter_step (Array packed place indexes element) = flat_map (λ names. names) indexes.items ++ element.value
denoter_step (Record packed place names denoters semicolon) =
    flat_map (λ field. field.1) (fields_of names.items denoters.items)
denoter_step (Set packed place base) = base.value

abbrev pub denoter_names : TypeDenoter → List Name
denoter_names = fold-TypeDenoter (List Name) denoter_step

-- those of a type definition, the ones of its denoter first
abbrev pub type_names : TypeDefinition → List Name
type_names d = denoter_names d.denoter ++ d.name ∷ []

-- those of variables that are declared together
abbrev pub group_names : VariableGroup → List Name
group_names group = denoter_names group.denoter ++ group.names.items

-- that of a routine where it is declared first
abbrev pub heading_names : Heading → List Name
heading_names (Procedure name formals) = name ∷ []
heading_names (Function name formals result) = name ∷ []
heading_names (Resumed name) = []

-- those of formal parameters that are declared together
abbrev pub formal_names : FormalGroup → List Name
formal_names group = group.names.items

-- the names of a block's constants, types, variables and routines, in the order in which they are defined
abbrev pub names_defined : List ConstantDefinition → List TypeDefinition → List VariableGroup → List Name → List Name
names_defined constants types variables routines =
    map (λ d. d.name) constants
    ++ (flat_map type_names types ++ (flat_map group_names variables ++ routines))
