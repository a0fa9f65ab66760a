-- Blocks, by how many levels are left below them, and how they look that are built.
use Rattle.std.proofs.Common.{◌≡◌, ℕ, zero, suc, ◌+◌, List, Ok, map, Vec, refl, subst, arith}
use Rattle.std.specs.declared.alloc.Global.{Global}
use Rattle.std.specs.Option.{option_map}
use Rattle.place.specs.declared.Place.{Place}
use Rattle.lexer.specs.declared.token.Token.{Token}
use Rattle.syntax_tree.specs.declared.Routine.{Routine}
use Rattle.syntax_tree.specs.declared.Block.TheViews.{roll-Block, out-Routine}
use Rattle.syntax_tree.specs.declared.Block.TheFolds.{fold-roll-Block}
use Rattle.syntax_tree.specs.declared.ConstantDefinition.{ConstantDefinition}
use Rattle.syntax_tree.specs.declared.TypeDefinition.{TypeDefinition}
use Rattle.syntax_tree.specs.declared.VariableGroup.{VariableGroup}
use Rattle.syntax_tree.specs.declared.Stmt.{Stmt}
use Rattle.reading.specs.Outline as form
use Rattle.reading.specs.Outline.{Outline}
use Rattle.reading.specs.Trees as tree
use Rattle.reading.specs.Declarations as read
use Rattle.reading.specs.Expressions.{Below}
use Rattle.reading.specs.Statements.{compound, statement}
use Rattle.reading.specs.Trees.{definition_outline, type_outline, group_outline, stmt_outline, block_outline, routine_outline, heading_outline}
use Rattle.reading.specs.Trees.{body_outline, takes_directive}
use Rattle.reading.proofs.Outlines.{routine_is}
use Rattle.reading.proofs.Uses.{TakesOne, routine_takes, block_nests}
use Rattle.reading.proofs.MadePrograms.{BlockIn}
use Rattle.reading.proofs.Makes.{deep_makes}
use Rattle.parser.specs.Blocks.{block_below}
use Rattle.parser.proofs.Parts.{definition_leaves, type_leaves, group_leaves}

pub block_at : (levels : ℕ) (tokens : List Token) → read.block levels tokens ≡ read.block_of levels (block_below levels) tokens
block_at zero tokens = refl
block_at (suc levels) tokens = refl

pub below_at : (levels left : ℕ) → left + 1 ≡ levels → block_below levels ≡ (λ at. read.block left)
below_at levels left e = let is : suc left ≡ levels = omega arith in subst (λ n. block_below n ≡ (λ at. read.block left)) is refl

pub statement_part_at : (levels left : ℕ) → left + 1 ≡ levels → read.statement_part levels ≡ compound (statement left)
statement_part_at levels left e =
    let is : suc left ≡ levels = omega arith in subst (λ n. read.statement_part n ≡ compound (statement left)) is refl

nests_below : (levels : ℕ) → BlockIn levels (block_below levels)
nests_below zero at tokens = deep_makes
nests_below (suc levels) at tokens = block_nests levels at tokens

pub routine_takes_one : (levels : ℕ) → TakesOne (read.routine (block_below levels))
routine_takes_one levels = routine_takes levels (block_below levels) (nests_below levels)

-- a block of its parts, read one behind another
pub block_made : (levels : ℕ) (inner : Below) (tokens a b c d rest : List Token) (constants types variables routines : List Outline)
    (statements : List Outline × Place)
    → read.constants tokens ≡ Ok (constants, a) → read.types levels a ≡ Ok (types, b) → read.variables levels b ≡ Ok (variables, c)
    → read.routines inner c ≡ Ok (routines, d) → read.statement_part levels d ≡ Ok (statements, rest)
    → read.block_of levels inner tokens
    ≡ Ok (form.block constants types variables routines (form.statement_part statements.0 statements.1), rest)
unfolding read.block_of
block_made levels inner tokens a b c d rest constants types variables routines statements e f g h i = rw (e, f, g, h, i) refl

pub built_block : (constants : Vec ConstantDefinition Global) (types : Vec TypeDefinition Global) (variables : Vec VariableGroup Global)
    (routines : Vec Routine Global) (statements : Vec Stmt Global) (end : Place)
    → block_outline (roll-Block (record {
      constants = constants;
      types = types;
      variables = variables;
      routines = routines;
      statements = statements;
      end = end;
    }))
    ≡ form.block (map definition_outline constants.items) (map type_outline types.items) (map group_outline variables.items)
    (map routine_outline routines.items) (form.statement_part (map stmt_outline statements.items) end)
built_block constants types variables routines statements end =
    fold-roll-Block Outline Outline tree.block_step tree.routine_step (record {
      constants = constants;
      types = types;
      variables = variables;
      routines = routines;
      statements = statements;
      end = end;
    })

pub built_routine : (r : Routine) → routine_outline r
    ≡ form.routine (heading_outline (out-Routine r).heading)
    (body_outline (takes_directive (out-Routine r).heading) (option_map block_outline (out-Routine r).block))
built_routine r = routine_is r

pub ruleset parts_of_blocks = (block_at, definition_leaves, type_leaves, group_leaves)
