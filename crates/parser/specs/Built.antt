-- How the lists and the pairs look that the rules of statements make, by the outlines of their parts.
-- This doesn't say how a form is outlined: see Outline and Trees in reading.
use Rattle.std.specs.Prelude.{List, Bool, Option, map}
use Rattle.std.specs.declared.alloc.Global.{Global}
use Rattle.std.specs.declared.boxed.Box.{Box}
use Rattle.std.specs.declared.vec.Vec.{Vec}
use Rattle.std.specs.Option.{option_map}
use Rattle.place.specs.declared.Place.{Place}
use Rattle.syntax_tree.specs.Places.{arms_of}
use Rattle.syntax_tree.specs.declared.Constant.{Constant}
use Rattle.syntax_tree.specs.declared.Direction.{Direction}
use Rattle.syntax_tree.specs.declared.Expr.{Expr}
use Rattle.syntax_tree.specs.declared.Name.{Name}
use Rattle.syntax_tree.specs.declared.RecordVariable.{RecordVariable}
use Rattle.syntax_tree.specs.declared.Stmt.{Stmt}
use Rattle.reading.specs.Lexemes.{Lexeme, identifier}
use Rattle.reading.specs.Outline.{Outline}
use Rattle.reading.specs.Trees.{arm_outline, constant_outline, expr_outline, record_outline, stmt_outline}

-- the constants before an arm of a case
abbrev pub constants_outlines : Vec Constant Global → List Outline
constants_outlines constants = map constant_outline constants.items

-- a statement that is part of another one, and the one behind `else`
abbrev pub body_outline : Box Stmt Global → Outline
body_outline body = stmt_outline body.value

abbrev pub alternative_outline : Option (Box Stmt Global) → Option Outline
alternative_outline = option_map body_outline

-- statements one behind another, and those of a compound statement with the place of its `end`
abbrev pub statements_outlines : Vec Stmt Global → List Outline
statements_outlines statements = map stmt_outline statements.items

abbrev pub compound_outlines : Vec Stmt Global × Place → List Outline × Place
compound_outlines found = (statements_outlines found.0, found.1)

-- the variables of records behind `with`
abbrev pub records_outlines : Vec RecordVariable Global → List Outline
records_outlines records = map record_outline records.items

-- the head of a for statement, and its first bound with its direction
abbrev pub control_lexeme : Place × Name → Place × Lexeme
control_lexeme found = (found.0, identifier found.1)

abbrev pub initial_outline : Expr × Direction → Outline × Direction
initial_outline found = (expr_outline found.0, found.1)

-- the arms of a case, each behind its constants, and whether a semicolon stands behind the last
abbrev pub arms_outlines : List (Vec Constant Global) → List Stmt → List Outline
arms_outlines constants arms = map arm_outline (arms_of constants (map stmt_outline arms))

abbrev pub case_outlines : List (Vec Constant Global) → List Stmt → Bool → List Outline × Bool
case_outlines constants arms semicolon = (arms_outlines constants arms, semicolon)
