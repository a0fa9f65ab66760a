-- How forms look that are built of parts which were read.
-- This doesn't say how a form is outlined: see Outline and Trees in reading.
use Rattle.std.specs.Prelude.{◌≡◌, false, List, map, Result, MatchResult}
use Rattle.std.specs.declared.alloc.Global.{Global}
use Rattle.std.specs.declared.vec.Vec.{Vec}
use Rattle.memory.specs.Refused.{the_refusal}
use Rattle.syntax_tree.specs.declared.Expr.{Expr}
use Rattle.syntax_tree.specs.declared.Link.{Link}
use Rattle.syntax_tree.specs.declared.Actual.{Actual}
use Rattle.syntax_tree.specs.declared.Selector.{Selector}
use Rattle.reading.specs.declared.refusal.Refusal.{Refusal}
use Rattle.reading.specs.declared.refusal.Refusal.TheVariants.{Memory}
use Rattle.reading.specs.Outline.{Outline}
use Rattle.reading.specs.Reading.{Outcome, and_then, pure}
use Rattle.reading.specs.Trees.{expr_outline, link_outline, actual_outline, selector_rows}
use Rattle.token_cursor.specs.Cursor.{Makes}
use Rattle.token_cursor.specs.declared.cursor.Cursor.{Cursor}

-- an expression of this outline, unless memory runs out
abbrev pub IsBuilt : Outline → Result Expr Refusal → Type 0
IsBuilt outline result = MatchResult result (λ e. expr_outline e ≡ outline) (λ why. why ≡ Memory the_refusal)

-- a form round an expression, whatever made that: it is made as the expression was, and then so built of it
abbrev pub Builds : (Outline → Outline) → Result Expr Refusal → Result Expr Refusal → Type 0
Builds build found result =
    (outcome : Outcome Outline) (at : Cursor) → Makes expr_outline outcome found at
    → Makes expr_outline (and_then outcome (λ o. pure (build o))) result at

-- the operators of a chain, each with the operand behind it, and the actual parameters of a call
abbrev pub links_outlines : Vec Link Global → List Outline
links_outlines links = map link_outline links.items

abbrev pub links_turns : Vec Link Global → List Outline × Unit {0}
links_turns links = (links_outlines links, tt)

abbrev pub actuals_outlines : Vec Actual Global → List Outline
actuals_outlines actuals = map actual_outline actuals.items

-- selectors with the index expressions of those that are an index, and what ends them
abbrev pub selectors_outlines : Vec Selector Global × Vec Expr Global → List Outline × Outline
selectors_outlines found = selector_rows false found.0.items (map expr_outline found.1.items)
