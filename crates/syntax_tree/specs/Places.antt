-- The places that a syntax tree keeps, in the order of the text: of names, numbers, strings, operators, signs, `:=` and
-- `..` in a type, of the opening parenthesis of an expression and the opening bracket of a set, of the bracket or comma
-- before an index, of the words `if`, `while`, `repeat`, `for`, `case`, `with`, `array`, `record` and `set`, and of the
-- last `end`.
-- It says nothing of what stands there.
use Rattle.std.specs.Prelude.{List, [], ◌∷◌, ◌++◌, Option, Some, None, map, flat_map}
use Rattle.std.specs.declared.alloc.Global.{Global}
use Rattle.std.specs.declared.boxed.Box.{Box}
use Rattle.std.specs.declared.vec.Vec.{Vec}
use Rattle.place.specs.declared.Place.{Place}
use Rattle.syntax_tree.specs.declared.Name.{Name}
use Rattle.syntax_tree.specs.declared.TypeDefinition.{TypeDefinition}
use Rattle.syntax_tree.specs.declared.TypeDenoter.{TypeDenoter}
use Rattle.syntax_tree.specs.declared.TypeDenoter.TheOpen.{TypeDenoter-F}
use Rattle.syntax_tree.specs.declared.TypeDenoter.TheOpen.TypeDenoter-F.{Name as NamedType, Enumerated, Subrange}
use Rattle.syntax_tree.specs.declared.TypeDenoter.TheOpen.TypeDenoter-F.{Array, Record, Set as SetType}
use Rattle.syntax_tree.specs.declared.TypeDenoter.TheFolds.{fold-TypeDenoter}
use Rattle.syntax_tree.specs.declared.Selector.{Selector}
use Rattle.syntax_tree.specs.declared.Selector.TheVariants.{Index, Field}
use Rattle.syntax_tree.specs.declared.VariableGroup.{VariableGroup}
use Rattle.syntax_tree.specs.declared.ConstantDefinition.{ConstantDefinition}
use Rattle.syntax_tree.specs.declared.Constant.{Constant}
use Rattle.syntax_tree.specs.declared.ConstantValue.{ConstantValue}
use Rattle.syntax_tree.specs.declared.ConstantValue.TheVariants as constant
use Rattle.syntax_tree.specs.declared.SignAt.{SignAt}
use Rattle.syntax_tree.specs.declared.Program.{Program}
use Rattle.syntax_tree.specs.declared.Block.{Block}
use Rattle.syntax_tree.specs.declared.Block.TheOpen.{Block-F, Routine-F}
use Rattle.syntax_tree.specs.declared.Block.TheFolds.{fold-Block, fold-Routine}
use Rattle.syntax_tree.specs.declared.Routine.{Routine}
use Rattle.syntax_tree.specs.declared.Heading.{Heading}
use Rattle.syntax_tree.specs.declared.Heading.TheVariants.{Procedure, Function, Resumed}
use Rattle.syntax_tree.specs.declared.FormalGroup.{FormalGroup}
use Rattle.syntax_tree.specs.declared.Expr.{Expr}
use Rattle.syntax_tree.specs.declared.Actual.{Actual}
use Rattle.syntax_tree.specs.declared.Link.{Link}
use Rattle.syntax_tree.specs.declared.Expr.TheOpen.{Expr-F, Actual-F, Link-F}
use Rattle.syntax_tree.specs.declared.Expr.TheOpen.Expr-F.{Number, Name as NameOf, Call as CallOf, Parenthesized, Not}
use Rattle.syntax_tree.specs.declared.Expr.TheOpen.Expr-F.{Signed, Chain, Relation, String as StringOf, Component, Set}
use Rattle.syntax_tree.specs.declared.Designator.{Designator}
use Rattle.syntax_tree.specs.declared.Designator.TheVariants.{Single, Range}
use Rattle.syntax_tree.specs.declared.Expr.TheFolds.{fold-Expr, fold-Actual, fold-Link}
use Rattle.syntax_tree.specs.declared.Stmt.{Stmt}
use Rattle.syntax_tree.specs.declared.Stmt.TheOpen.{Stmt-F}
use Rattle.syntax_tree.specs.declared.Stmt.TheOpen.Stmt-F.{Empty, Assign, Call, Compound, If, While, Repeat, For, Case}
use Rattle.syntax_tree.specs.declared.Stmt.TheOpen.Stmt-F.{With}
use Rattle.syntax_tree.specs.declared.Stmt.TheFolds.{fold-Stmt}
use Rattle.syntax_tree.specs.declared.RecordVariable.{RecordVariable}

abbrev pub Places : Type 0
Places = List Place

-- several rows as one
abbrev pub joined_places : List Places → Places
joined_places rows = flat_map (λ row. row) rows

-- the places of selectors, with those of the index expressions
abbrev pub selector_places : List Selector → List Places → Places
selector_places [] rows = joined_places rows
selector_places (Field name ∷ selectors) rows = name.place ∷ selector_places selectors rows
selector_places (Index place joined ∷ selectors) [] = place ∷ selector_places selectors []
selector_places (Index place joined ∷ selectors) (row ∷ rows) = place ∷ (row ++ selector_places selectors rows)

-- the members of a set by their designators: of each its value, or the first and the last of its values
abbrev pub members_of : {A : Type 0} → List Designator → List A → List (A × Option A)
members_of [] values = []
members_of (Single ∷ designators) [] = []
members_of (Single ∷ designators) (value ∷ values) = (value, None) ∷ members_of designators values
members_of (Range ∷ designators) [] = []
members_of (Range ∷ designators) (first ∷ []) = []
members_of (Range ∷ designators) (first ∷ last ∷ values) = (first, Some last) ∷ members_of designators values

abbrev pub last_places : Option Places → Places
last_places None = []
last_places (Some places) = places

abbrev pub member_places : Places × Option Places → Places
member_places member = member.0 ++ last_places member.1

abbrev pub link_step : Link-F Places Places Places → Places
link_step link = link.place ∷ link.operand

abbrev pub width_places : Option Places → Places
width_places None = []
width_places (Some places) = places

abbrev pub actual_step : Actual-F Places Places Places → Places
actual_step actual = actual.value ++ width_places actual.width

abbrev pub expression_step : Expr-F Places Places Places → Places
expression_step (Number value place) = place ∷ []
expression_step (NameOf name) = name.place ∷ []
expression_step (Component name selectors indexes) = name.place ∷ selector_places selectors.items indexes.items
expression_step (StringOf text place) = place ∷ []
expression_step (CallOf name actuals) = name.place ∷ joined_places actuals.items
expression_step (Parenthesized bracket inner) = bracket ∷ inner.value
expression_step (Set bracket designators members) =
    bracket ∷ flat_map member_places (members_of designators.items members.items)
expression_step (Not place operand) = place ∷ operand.value
expression_step (Signed sign place term) = place ∷ term.value
expression_step (Chain first rest) = first.value ++ joined_places rest.items
expression_step (Relation left operator place right) = left.value ++ place ∷ right.value

-- the places of an expression
abbrev pub expr_places : Expr → Places
expr_places = fold-Expr Places Places Places expression_step actual_step link_step

-- the places of an actual
abbrev pub actual_places : Actual → Places
actual_places = fold-Actual Places Places Places expression_step actual_step link_step

-- the places of an operator and its right operand
abbrev pub link_places : Link → Places
link_places = fold-Link Places Places Places expression_step actual_step link_step

abbrev pub alternative_places : Option (Box Places Global) → Places
alternative_places None = []
alternative_places (Some places) = places.value

abbrev pub sign_places : Option SignAt → Places
sign_places None = []
sign_places (Some sign) = sign.place ∷ []

abbrev pub value_place : ConstantValue → Place
value_place (constant.Number value place) = place
value_place (constant.Name name) = name.place
value_place (constant.String text place) = place

-- the places of a constant
abbrev pub constant_places : Constant → Places
constant_places c = sign_places c.sign ++ (value_place c.value ∷ [])

-- the rows of constants of a case, each with the arm behind it
abbrev pub arms_of : {A : Type 0} → List (Vec Constant Global) → List A → List (List Constant × A)
arms_of [] arms = []
arms_of (row ∷ rows) [] = []
arms_of (row ∷ rows) (arm ∷ arms) = (row.items, arm) ∷ arms_of rows arms

abbrev pub arm_places : List Constant × Places → Places
arm_places arm = flat_map constant_places arm.0 ++ arm.1

-- the places of a variable of a record
abbrev pub record_places : RecordVariable → Places
record_places record_variable =
    record_variable.name.place
    ∷ selector_places record_variable.selectors.items (map expr_places record_variable.indexes.items)

abbrev pub statement_step : Stmt-F Places → Places
statement_step Empty = []
statement_step (Assign name selectors indexes becomes value) =
    name.place ∷ (selector_places selectors.items (map expr_places indexes.items) ++ (becomes ∷ expr_places value))
statement_step (Call name actuals) = name.place ∷ flat_map actual_places actuals.items
statement_step (Compound statements) = joined_places statements.items
statement_step (If place condition consequence alternative) =
    place ∷ (expr_places condition ++ (consequence.value ++ alternative_places alternative))
statement_step (While place condition body) = place ∷ (expr_places condition ++ body.value)
statement_step (Repeat place statements condition) = place ∷ (joined_places statements.items ++ expr_places condition)
statement_step (For place variable first direction last body) =
    place ∷ variable.place ∷ (expr_places first ++ (expr_places last ++ body.value))
statement_step (Case place index constants arms semicolon) =
    place ∷ (expr_places index ++ flat_map arm_places (arms_of constants.items arms.items))
statement_step (With place records body) = place ∷ (flat_map record_places records.items ++ body.value)

-- the places of a statement
abbrev pub stmt_places : Stmt → Places
stmt_places = fold-Stmt Places statement_step

abbrev pub name_places : List Name → Places
name_places names = map (λ name. name.place) names

-- groups of fields: the n-th row of names stands before the n-th denoter
abbrev pub fields_of : {A : Type 0} → List (Vec Name Global) → List A → List (List Name × A)
fields_of [] denoters = []
fields_of (row ∷ rows) [] = []
fields_of (row ∷ rows) (denoter ∷ denoters) = (row.items, denoter) ∷ fields_of rows denoters

abbrev pub field_places : List Name × Places → Places
field_places field = name_places field.0 ++ field.1

abbrev pub denoter_step : TypeDenoter-F Places → Places
denoter_step (NamedType name) = name.place ∷ []
denoter_step (Enumerated constants) = name_places constants.items
denoter_step (Subrange first between last) = constant_places first ++ between ∷ constant_places last
denoter_step (Array packed place indexes element) = place ∷ (joined_places indexes.items ++ element.value)
denoter_step (Record packed place names denoters semicolon) =
    place ∷ flat_map field_places (fields_of names.items denoters.items)
denoter_step (SetType packed place base) = place ∷ base.value

-- the places of what denotes a type
abbrev pub denoter_places : TypeDenoter → Places
denoter_places = fold-TypeDenoter Places denoter_step

-- the places of a constant definition
abbrev pub definition_places : ConstantDefinition → Places
definition_places d = d.name.place ∷ constant_places d.value

-- the places of a type definition
abbrev pub type_definition_places : TypeDefinition → Places
type_definition_places d = d.name.place ∷ denoter_places d.denoter

-- the places of variables that are declared together
abbrev pub group_places : VariableGroup → Places
group_places group = name_places group.names.items ++ denoter_places group.denoter

-- the places of formal parameters that are declared together
abbrev pub formal_places : FormalGroup → Places
formal_places group = name_places group.names.items ++ (group.type_name.place ∷ [])

-- the places of the heading of a procedure or function
abbrev pub heading_places : Heading → Places
heading_places (Procedure name formals) = name.place ∷ flat_map formal_places formals.items
heading_places (Function name formals result) =
    name.place ∷ (flat_map formal_places formals.items ++ (result.place ∷ []))
heading_places (Resumed name) = name.place ∷ []

-- the places of the block of a procedure or function, or of `forward`, which keeps none
abbrev pub body_places : Option Places → Places
body_places None = []
body_places (Some places) = places

abbrev pub routine_step : Routine-F Places Places → Places
routine_step routine = heading_places routine.heading ++ body_places routine.block

abbrev pub block_step : Block-F Places Places → Places
block_step block =
    flat_map definition_places block.constants.items
    ++ (flat_map type_definition_places block.types.items
    ++ (flat_map group_places block.variables.items
    ++ (joined_places block.routines.items
    ++ (flat_map stmt_places block.statements.items ++ (block.end ∷ [])))))

-- the places of a block
abbrev pub block_places : Block → Places
block_places = fold-Block Places Places block_step routine_step

-- the places of the declaration of a procedure or function
abbrev pub routine_places : Routine → Places
routine_places = fold-Routine Places Places block_step routine_step

-- the places of a program
abbrev pub program_places : Program → Places
program_places program = program.name.place ∷ (name_places program.parameters.items ++ block_places program.block)
