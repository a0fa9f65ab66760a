-- The folds of typing over syntax trees, form by form.
use denote.Ref.{Bor}
use Rattle.std.proofs.Common.{◌≡◌, ℕ, Bool, List, [], ◌∷◌, ◌++◌, map, flat_map, Option, None, Some, option_map, refl, Box, Vec, sym, ap, ap₂, ◌∙◌}
use Rattle.std.specs.declared.alloc.Global.{Global}
use Rattle.place.specs.declared.Place.{Place}
use Rattle.syntax_tree.specs.declared.Name.{Name}
use Rattle.syntax_tree.specs.declared.Constant.{Constant}
use Rattle.syntax_tree.specs.declared.RelationalOperator.{RelationalOperator}
use Rattle.syntax_tree.specs.declared.Sign.{Sign}
use Rattle.syntax_tree.specs.declared.Direction.{Direction}
use Rattle.syntax_tree.specs.declared.Expr.{Expr}
use Rattle.syntax_tree.specs.declared.Link.{Link}
use Rattle.syntax_tree.specs.declared.Actual.{Actual}
use Rattle.syntax_tree.specs.declared.Expr.TheVariants as syntax
use Rattle.syntax_tree.specs.declared.Expr.TheOpen as layer
use Rattle.syntax_tree.specs.declared.Expr.TheViews.{roll-Expr, out-Link, out-Actual}
use Rattle.syntax_tree.specs.declared.Expr.TheFolds.{map-Expr, map-Actual, fold-roll-Expr, fold_out-Link, fold_out-Actual}
use Rattle.syntax_tree.specs.Places.{arms_of, fields_of, members_of}
use Rattle.syntax_tree.specs.declared.Designator.{Designator}
use Rattle.syntax_tree.specs.declared.RecordVariable.{RecordVariable}
use Rattle.syntax_tree.specs.declared.Selector.{Selector}
use Rattle.syntax_tree.specs.declared.TypeDenoter.{TypeDenoter}
use Rattle.syntax_tree.specs.declared.TypeDenoter.TheVariants as denoter
use Rattle.syntax_tree.specs.declared.TypeDenoter.TheOpen as denoter_layer
use Rattle.syntax_tree.specs.declared.TypeDenoter.TheFolds.{map-TypeDenoter, fold-roll-TypeDenoter}
use Rattle.syntax_tree.specs.declared.TypeDenoter.TheViews.{roll-TypeDenoter}
use Rattle.syntax_tree.specs.declared.Stmt.{Stmt}
use Rattle.syntax_tree.specs.declared.Stmt.TheVariants as stmt
use Rattle.syntax_tree.specs.declared.Stmt.TheOpen as stmt_layer
use Rattle.syntax_tree.specs.declared.Stmt.TheFolds.{map-Stmt, fold-roll-Stmt}
use Rattle.syntax_tree.specs.declared.Block.{Block}
use Rattle.syntax_tree.specs.declared.Routine.{Routine}
use Rattle.syntax_tree.specs.declared.Block.TheViews.{out-Block, out-Routine}
use Rattle.syntax_tree.specs.declared.Block.TheFolds.{map-Block, map-Routine, fold_out-Block, fold_out-Routine}
use Rattle.typing.specs.Names.{heading_names, names_defined}
use Rattle.typing.specs.Routines.{TypedBlock, TypedRoutine, typed_block, typed_routine, block_step, routine_step}
use Rattle.typing.specs.Passing.{Passing}
use Rattle.typing.specs.Expressions.{Written, WrittenActual, WrittenLink, written, written_variable, expression_step, actual_step, link_step, expression}
use Rattle.typing.specs.Expressions.{written_link}
use Rattle.typing.specs.Expressions.{written_actual, number, string, named, component, call, parenthesized, negation, signed, chain, relation, link}
use Rattle.typing.specs.Expressions.{constructed}
use Rattle.typing.specs.Statements.{statement, statement_step, assignment, procedure_call, compound, choice, while_loop, repeat_loop, for_loop, case_statement}
use Rattle.typing.specs.Statements.{with_statement, written_record}
use Rattle.typing.specs.Denoters.{WrittenDenoter, denoted_type, denoter_step, type_of_name, enumeration, subrange, array, record_type, set_type}
use Rattle.typing.specs.Names.{denoter_names, denoter_step as defined_step}
use Rattle.typing.specs.Steps.{enter_as}
use Rattle.typed_tree.specs.Look as Look

-- ---- expressions

rolled : (w : Expr) (d : layer.Expr-F Expr Actual Link) → roll-Expr d ≡ w
    → expression w ≡ expression_step (map-Expr Expr Actual Link Written WrittenActual WrittenLink expression written_actual written_link d)
rolled w d is = ap expression (sym is) ∙ fold-roll-Expr Written WrittenActual WrittenLink expression_step actual_step link_step d

pub typing_number : (value : ℕ) (place : Place) → expression (syntax.Number value place) ≡ written place (number value place)
typing_number value place = rolled (syntax.Number value place) (layer.Number value place) (syntax.rolls-Number value place)

pub typing_name : (name : Name) → expression (syntax.Name name) ≡ written_variable name [] [] (named name)
typing_name name = rolled (syntax.Name name) (layer.Name name) (syntax.rolls-Name name)

pub typing_component : (name : Name) (selectors : Vec Selector Global) (indexes : Vec Expr Global)
    → expression (syntax.Component name selectors indexes)
    ≡ written_variable name selectors.items (map expression indexes.items) (component name selectors.items (map expression indexes.items))
typing_component name selectors indexes =
    rolled (syntax.Component name selectors indexes) (layer.Component name selectors indexes) (syntax.rolls-Component name selectors indexes)

pub typing_string : (text : Bor (List ℕ)) (place : Place) → expression (syntax.String text place) ≡ written place (string text.now place)
typing_string text place = rolled (syntax.String text place) (layer.String text place) (syntax.rolls-String text place)

pub typing_call : (name : Name) (actuals : Vec Actual Global)
    → expression (syntax.Call name actuals) ≡ written name.place (call name (map written_actual actuals.items))
typing_call name actuals = rolled (syntax.Call name actuals) (layer.Call name actuals) (syntax.rolls-Call name actuals)

pub typing_parenthesized : (place : Place) (inner : Box Expr Global)
    → expression (syntax.Parenthesized place inner) ≡ written place (parenthesized place (expression inner.value))
typing_parenthesized place inner = rolled (syntax.Parenthesized place inner) (layer.Parenthesized place inner) (syntax.rolls-Parenthesized place inner)

pub typing_not : (place : Place) (operand : Box Expr Global) → expression (syntax.Not place operand) ≡ written place (negation place (expression operand.value))
typing_not place operand = rolled (syntax.Not place operand) (layer.Not place operand) (syntax.rolls-Not place operand)

pub typing_signed : (sign : Sign) (place : Place) (term : Box Expr Global)
    → expression (syntax.Signed sign place term) ≡ written place (signed sign place (expression term.value))
typing_signed sign place term = rolled (syntax.Signed sign place term) (layer.Signed sign place term) (syntax.rolls-Signed sign place term)

pub typing_chain : (first : Box Expr Global) (rest : Vec Link Global)
    → expression (syntax.Chain first rest) ≡ written (expression first.value).first (chain (expression first.value) (map written_link rest.items))
typing_chain first rest = rolled (syntax.Chain first rest) (layer.Chain first rest) (syntax.rolls-Chain first rest)

pub typing_relation : (left : Box Expr Global) (operator : RelationalOperator) (place : Place) (right : Box Expr Global)
    → expression (syntax.Relation left operator place right)
    ≡ written (expression left.value).first (relation (expression left.value) operator place (expression right.value))
typing_relation left operator place right =
    rolled (syntax.Relation left operator place right) (layer.Relation left operator place right) (syntax.rolls-Relation left operator place right)

pub typing_set : (place : Place) (designators : Vec Designator Global) (values : Vec Expr Global)
    → expression (syntax.Set place designators values)
    ≡ written place (constructed place (members_of designators.items (map expression values.items)))
typing_set place designators values =
    rolled (syntax.Set place designators values) (layer.Set place designators values) (syntax.rolls-Set place designators values)

-- an operator and its right operand, as they are read
pub typing_link : (l : Link) → written_link l ≡ link (out-Link l).operator (out-Link l).place (expression (out-Link l).operand)
typing_link l = fold_out-Link Written WrittenActual WrittenLink expression_step actual_step link_step l

-- an actual, as it is read
pub typing_actual : (a : Actual) → written_actual a ≡ record { value = expression (out-Actual a).value; width = option_map expression (out-Actual a).width }
typing_actual a =
    fold_out-Actual Written WrittenActual WrittenLink expression_step actual_step link_step a
    ∙ mapped (out-Actual a).value (out-Actual a).width
  where
    mapped : (value : Expr) (width : Option Expr)
        → actual_step (map-Actual Expr Actual Link Written WrittenActual WrittenLink expression written_actual written_link
        (record { value = value; width = width }))
        ≡ record { value = expression value; width = option_map expression width }
    mapped value None = refl
    mapped value (Some width) = refl

-- those of all expressions
pub ruleset written_expressions = (
  typing_number,
  typing_name,
  typing_component,
  typing_string,
  typing_call,
  typing_parenthesized,
  typing_not,
  typing_signed,
  typing_chain,
  typing_relation,
  typing_set,
)

-- ---- statements

pub typing_empty : statement stmt.Empty ≡ enter_as Look.Empty
typing_empty = ap statement (sym stmt.rolls-Empty) ∙ fold-roll-Stmt (Passing (Unit {0})) statement_step stmt_layer.Empty

pub typing_assign : (name : Name) (selectors : Vec Selector Global) (indexes : Vec Expr Global) (becomes : Place) (value : Expr)
    → statement (stmt.Assign name selectors indexes becomes value)
    ≡ assignment name selectors.items (map expression indexes.items) becomes (expression value)
typing_assign name selectors indexes becomes value =
    ap statement (sym (stmt.rolls-Assign name selectors indexes becomes value))
    ∙ fold-roll-Stmt (Passing (Unit {0})) statement_step (stmt_layer.Assign name selectors indexes becomes value)

pub typing_procedure_call : (name : Name) (actuals : Vec Actual Global)
    → statement (stmt.Call name actuals) ≡ procedure_call name (map written_actual actuals.items)
typing_procedure_call name actuals =
    ap statement (sym (stmt.rolls-Call name actuals)) ∙ fold-roll-Stmt (Passing (Unit {0})) statement_step (stmt_layer.Call name actuals)

pub typing_compound : (statements : Vec Stmt Global) → statement (stmt.Compound statements) ≡ compound (map statement statements.items)
typing_compound statements =
    ap statement (sym (stmt.rolls-Compound statements)) ∙ fold-roll-Stmt (Passing (Unit {0})) statement_step (stmt_layer.Compound statements)

pub typing_if : (place : Place) (condition : Expr) (consequence : Box Stmt Global) (alternative : Option (Box Stmt Global))
    → statement (stmt.If place condition consequence alternative)
    ≡ choice place (expression condition) (statement consequence.value) (option_map (λ (s : Box Stmt Global). statement s.value) alternative)
typing_if place condition consequence alternative =
    ap statement (sym (stmt.rolls-If place condition consequence alternative))
    ∙ fold-roll-Stmt (Passing (Unit {0})) statement_step (stmt_layer.If place condition consequence alternative)
    ∙ mapped alternative
  where
    mapped : (other : Option (Box Stmt Global))
        → statement_step (map-Stmt Stmt (Passing (Unit {0})) statement (stmt_layer.If place condition consequence other))
        ≡ choice place (expression condition) (statement consequence.value) (option_map (λ (s : Box Stmt Global). statement s.value) other)
    mapped None = refl
    mapped (Some other) = refl

pub typing_while : (place : Place) (condition : Expr) (body : Box Stmt Global)
    → statement (stmt.While place condition body) ≡ while_loop place (expression condition) (statement body.value)
typing_while place condition body =
    ap statement (sym (stmt.rolls-While place condition body))
    ∙ fold-roll-Stmt (Passing (Unit {0})) statement_step (stmt_layer.While place condition body)

pub typing_repeat : (place : Place) (statements : Vec Stmt Global) (condition : Expr)
    → statement (stmt.Repeat place statements condition) ≡ repeat_loop place (map statement statements.items) (expression condition)
typing_repeat place statements condition =
    ap statement (sym (stmt.rolls-Repeat place statements condition))
    ∙ fold-roll-Stmt (Passing (Unit {0})) statement_step (stmt_layer.Repeat place statements condition)

pub typing_for : (place : Place) (variable : Name) (first : Expr) (direction : Direction) (last : Expr) (body : Box Stmt Global)
    → statement (stmt.For place variable first direction last body)
    ≡ for_loop place variable (expression first) direction (expression last) (statement body.value)
typing_for place variable first direction last body =
    ap statement (sym (stmt.rolls-For place variable first direction last body))
    ∙ fold-roll-Stmt (Passing (Unit {0})) statement_step (stmt_layer.For place variable first direction last body)

pub typing_case : (place : Place) (index : Expr) (constants : Vec (Vec Constant Global) Global) (arms : Vec Stmt Global) (semicolon : Bool)
    → statement (stmt.Case place index constants arms semicolon)
    ≡ case_statement place (expression index) (arms_of constants.items (map statement arms.items))
typing_case place index constants arms semicolon =
    ap statement (sym (stmt.rolls-Case place index constants arms semicolon))
    ∙ fold-roll-Stmt (Passing (Unit {0})) statement_step (stmt_layer.Case place index constants arms semicolon)

pub typing_with : (place : Place) (records : Vec RecordVariable Global) (body : Box Stmt Global)
    → statement (stmt.With place records body) ≡ with_statement place (map written_record records.items) (statement body.value)
typing_with place records body =
    ap statement (sym (stmt.rolls-With place records body)) ∙ fold-roll-Stmt (Passing (Unit {0})) statement_step (stmt_layer.With place records body)

-- those of all statements
pub ruleset written_statements =
    (typing_empty, typing_assign, typing_procedure_call, typing_compound, typing_if, typing_while, typing_repeat, typing_for, typing_case, typing_with)

-- ---- denoters

denoted : (d : TypeDenoter) (l : denoter_layer.TypeDenoter-F TypeDenoter) → roll-TypeDenoter l ≡ d
    → denoted_type d ≡ denoter_step (map-TypeDenoter TypeDenoter WrittenDenoter denoted_type l)
denoted d l is = ap denoted_type (sym is) ∙ fold-roll-TypeDenoter WrittenDenoter denoter_step l

pub typing_named_type : (name : Name) → denoted_type (denoter.Name name) ≡ type_of_name name
typing_named_type name = denoted (denoter.Name name) (denoter_layer.Name name) (denoter.rolls-Name name)

pub typing_enumerated : (constants : Vec Name Global) → denoted_type (denoter.Enumerated constants) ≡ enumeration constants.items
typing_enumerated constants = denoted (denoter.Enumerated constants) (denoter_layer.Enumerated constants) (denoter.rolls-Enumerated constants)

pub typing_subrange : (first : Constant) (place : Place) (last : Constant)
    → denoted_type (denoter.Subrange first place last) ≡ subrange first place last
typing_subrange first place last =
    denoted (denoter.Subrange first place last) (denoter_layer.Subrange first place last) (denoter.rolls-Subrange first place last)

pub typing_array : (packed : Bool) (place : Place) (indexes : Vec TypeDenoter Global) (element : Box TypeDenoter Global)
    → denoted_type (denoter.Array packed place indexes element)
    ≡ array packed place (map denoted_type indexes.items) (denoted_type element.value)
typing_array packed place indexes element =
    denoted (denoter.Array packed place indexes element) (denoter_layer.Array packed place indexes element)
    (denoter.rolls-Array packed place indexes element)

pub typing_record : (packed : Bool) (place : Place) (rows : Vec (Vec Name Global) Global) (denoters : Vec TypeDenoter Global) (semicolon : Bool)
    → denoted_type (denoter.Record packed place rows denoters semicolon)
    ≡ record_type packed place (fields_of rows.items (map denoted_type denoters.items))
typing_record packed place rows denoters semicolon =
    denoted (denoter.Record packed place rows denoters semicolon) (denoter_layer.Record packed place rows denoters semicolon)
    (denoter.rolls-Record packed place rows denoters semicolon)

pub typing_set_type : (packed : Bool) (place : Place) (base : Box TypeDenoter Global)
    → denoted_type (denoter.Set packed place base) ≡ set_type packed place (denoted_type base.value)
typing_set_type packed place base = denoted (denoter.Set packed place base) (denoter_layer.Set packed place base) (denoter.rolls-Set packed place base)

-- those of all denoters
pub ruleset written_denoters = (typing_named_type, typing_enumerated, typing_subrange, typing_array, typing_record, typing_set_type)

-- the names that a denoter defines
defined : (d : TypeDenoter) (l : denoter_layer.TypeDenoter-F TypeDenoter) → roll-TypeDenoter l ≡ d
    → denoter_names d ≡ defined_step (map-TypeDenoter TypeDenoter (List Name) denoter_names l)
defined d l is = ap denoter_names (sym is) ∙ fold-roll-TypeDenoter (List Name) defined_step l

pub names_of_name : (name : Name) → denoter_names (denoter.Name name) ≡ []
names_of_name name = defined (denoter.Name name) (denoter_layer.Name name) (denoter.rolls-Name name)

pub names_of_enumerated : (constants : Vec Name Global) → denoter_names (denoter.Enumerated constants) ≡ constants.items
names_of_enumerated constants = defined (denoter.Enumerated constants) (denoter_layer.Enumerated constants) (denoter.rolls-Enumerated constants)

pub names_of_subrange : (first : Constant) (place : Place) (last : Constant) → denoter_names (denoter.Subrange first place last) ≡ []
names_of_subrange first place last =
    defined (denoter.Subrange first place last) (denoter_layer.Subrange first place last) (denoter.rolls-Subrange first place last)

pub names_of_array : (packed : Bool) (place : Place) (indexes : Vec TypeDenoter Global) (element : Box TypeDenoter Global)
    → denoter_names (denoter.Array packed place indexes element)
    ≡ flat_map (λ names. names) (map denoter_names indexes.items) ++ denoter_names element.value
names_of_array packed place indexes element =
    defined (denoter.Array packed place indexes element) (denoter_layer.Array packed place indexes element)
    (denoter.rolls-Array packed place indexes element)

pub names_of_record : (packed : Bool) (place : Place) (rows : Vec (Vec Name Global) Global) (denoters : Vec TypeDenoter Global) (semicolon : Bool)
    → denoter_names (denoter.Record packed place rows denoters semicolon)
    ≡ flat_map (λ field. field.1) (fields_of rows.items (map denoter_names denoters.items))
names_of_record packed place rows denoters semicolon =
    defined (denoter.Record packed place rows denoters semicolon) (denoter_layer.Record packed place rows denoters semicolon)
    (denoter.rolls-Record packed place rows denoters semicolon)

pub names_of_set : (packed : Bool) (place : Place) (base : Box TypeDenoter Global)
    → denoter_names (denoter.Set packed place base) ≡ denoter_names base.value
names_of_set packed place base = defined (denoter.Set packed place base) (denoter_layer.Set packed place base) (denoter.rolls-Set packed place base)

-- those of all denoters
pub ruleset names_of_denoters = (names_of_name, names_of_enumerated, names_of_subrange, names_of_array, names_of_record, names_of_set)

-- ---- blocks

-- a block, as it is read
pub typing_block : (b : Block) → typed_block b ≡ block_step (map-Block Block Routine TypedBlock TypedRoutine typed_block typed_routine (out-Block b))
typing_block b = fold_out-Block TypedBlock TypedRoutine block_step routine_step b

-- a routine, as it is read
pub typing_routine : (r : Routine) → typed_routine r ≡ routine_step
    (map-Routine Block Routine TypedBlock TypedRoutine typed_block typed_routine (out-Routine r))
typing_routine r = fold_out-Routine TypedBlock TypedRoutine block_step routine_step r

-- the name of a routine, if its heading is the first
pub routine_names_are : (r : Routine) → (typed_routine r).names ≡ heading_names (out-Routine r).heading
routine_names_are r = ap (λ (t : TypedRoutine). t.names) (typing_routine r)

-- the names that a block defines
pub block_names_are : (b : Block)
    → (typed_block b).names
    ≡ names_defined (out-Block b).constants.items (out-Block b).types.items (out-Block b).variables.items
    (flat_map (λ r. heading_names (out-Routine r).heading) (out-Block b).routines.items)
block_names_are b =
    ap (λ (t : TypedBlock). t.names) (typing_block b)
    ∙ ap (names_defined (out-Block b).constants.items (out-Block b).types.items (out-Block b).variables.items) (by (out-Block b).routines.items)
  where
    by : (rs : List Routine) → flat_map (λ (t : TypedRoutine). t.names) (map typed_routine rs) ≡ flat_map (λ r. heading_names (out-Routine r).heading) rs
    by [] = refl
    by (r ∷ rs) = ap₂ (λ l m. l ++ m) (routine_names_are r) (by rs)
