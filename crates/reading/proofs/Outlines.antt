-- The outlines of trees, one equation a form: the folds computed.
use Rattle.std.proofs.Common.{◌≡◌, map, Option, Some, None, refl, ◌∙◌}
use Rattle.std.specs.Option.{option_map}
use Rattle.syntax_tree.specs.declared.Expr.{Expr}
use Rattle.syntax_tree.specs.declared.Link.{Link}
use Rattle.syntax_tree.specs.declared.Actual.{Actual}
use Rattle.syntax_tree.specs.declared.Expr.TheOpen as expr
use Rattle.syntax_tree.specs.declared.Expr.TheViews.{roll-Expr, out-Link, out-Actual}
use Rattle.syntax_tree.specs.declared.Expr.TheFolds.{map-Expr, map-Actual, fold-roll-Expr, fold_out-Link, fold_out-Actual}
use Rattle.syntax_tree.specs.declared.Stmt.{Stmt}
use Rattle.syntax_tree.specs.declared.Stmt.TheOpen as stmt
use Rattle.syntax_tree.specs.declared.Stmt.TheViews.{roll-Stmt}
use Rattle.syntax_tree.specs.declared.Stmt.TheFolds.{map-Stmt, fold-roll-Stmt}
use Rattle.syntax_tree.specs.declared.TypeDenoter.{TypeDenoter}
use Rattle.syntax_tree.specs.declared.TypeDenoter.TheOpen as denoter
use Rattle.syntax_tree.specs.declared.TypeDenoter.TheViews.{roll-TypeDenoter}
use Rattle.syntax_tree.specs.declared.TypeDenoter.TheFolds.{map-TypeDenoter, fold-roll-TypeDenoter}
use Rattle.syntax_tree.specs.declared.Block.{Block}
use Rattle.syntax_tree.specs.declared.Routine.{Routine}
use Rattle.syntax_tree.specs.declared.Heading.{Heading}
use Rattle.syntax_tree.specs.declared.Block.TheViews.{out-Block, out-Routine}
use Rattle.syntax_tree.specs.declared.Block.TheFolds.{map-Routine, fold_out-Block, fold_out-Routine}
use Rattle.reading.specs.Outline.{Outline}
use Rattle.reading.specs.Outline as form
use Rattle.reading.specs.Trees as tree
use Rattle.reading.specs.Trees.{expr_outline, link_outline, actual_outline, actual_of, stmt_outline, denoter_outline, block_outline, routine_outline}
use Rattle.reading.specs.Trees.{heading_outline, body_outline, takes_directive, definition_outline, type_outline, group_outline}

-- one layer of an expression, its parts outlined
abbrev pub expr_layer : expr.Expr-F Expr Actual Link → Outline
expr_layer d = tree.expr_step (map-Expr Expr Actual Link Outline Outline Outline expr_outline actual_outline link_outline d)

pub expr_is : (d : expr.Expr-F Expr Actual Link) → expr_outline (roll-Expr d) ≡ expr_layer d
expr_is d = fold-roll-Expr Outline Outline Outline tree.expr_step tree.actual_step tree.link_step d

pub link_is : (l : Link) → link_outline l ≡ form.link (out-Link l).operator (out-Link l).place (expr_outline (out-Link l).operand)
link_is l = fold_out-Link Outline Outline Outline tree.expr_step tree.actual_step tree.link_step l

pub actual_is : (a : Actual) → actual_outline a ≡ actual_of (expr_outline (out-Actual a).value) (option_map expr_outline (out-Actual a).width)
actual_is a =
    fold_out-Actual Outline Outline Outline tree.expr_step tree.actual_step tree.link_step a ∙ mapped (out-Actual a).value (out-Actual a).width
  where
    mapped : (value : Expr) (width : Option Expr)
        → tree.actual_step (map-Actual Expr Actual Link Outline Outline Outline expr_outline actual_outline link_outline (record {
          value = value;
          width =
              width;
        }))
        ≡ actual_of (expr_outline value) (option_map expr_outline width)
    mapped value None = refl
    mapped value (Some width) = refl

abbrev pub stmt_layer : stmt.Stmt-F Stmt → Outline
stmt_layer d = tree.stmt_step (map-Stmt Stmt Outline stmt_outline d)

pub stmt_is : (d : stmt.Stmt-F Stmt) → stmt_outline (roll-Stmt d) ≡ stmt_layer d
stmt_is d = fold-roll-Stmt Outline tree.stmt_step d

abbrev pub denoter_layer : denoter.TypeDenoter-F TypeDenoter → Outline
denoter_layer d = tree.denoter_step (map-TypeDenoter TypeDenoter Outline denoter_outline d)

pub denoter_is : (d : denoter.TypeDenoter-F TypeDenoter) → denoter_outline (roll-TypeDenoter d) ≡ denoter_layer d
denoter_is d = fold-roll-TypeDenoter Outline tree.denoter_step d

pub block_is : (b : Block) → block_outline b
    ≡ form.block (map definition_outline (out-Block b).constants.items) (map type_outline (out-Block b).types.items)
    (map group_outline (out-Block b).variables.items) (map routine_outline (out-Block b).routines.items)
    (form.statement_part (map stmt_outline (out-Block b).statements.items) (out-Block b).end)
block_is b = fold_out-Block Outline Outline tree.block_step tree.routine_step b

pub routine_is : (r : Routine) → routine_outline r
    ≡ form.routine (heading_outline (out-Routine r).heading)
    (body_outline (takes_directive (out-Routine r).heading) (option_map block_outline (out-Routine r).block))
routine_is r =
    fold_out-Routine Outline Outline tree.block_step tree.routine_step r ∙ mapped (out-Routine r).heading (out-Routine r).block
  where
    mapped : (h : Heading) (b : Option Block)
        → tree.routine_step (map-Routine Block Routine Outline Outline block_outline routine_outline (record { heading = h; block = b }))
        ≡ form.routine (heading_outline h) (body_outline (takes_directive h) (option_map block_outline b))
    mapped h None = refl
    mapped h (Some b) = refl
