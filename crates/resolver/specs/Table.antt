-- How the table of loops is gathered from a statement: what was met so far, and what is met inside a statement.
-- It says nothing of what a loop does.
use Rattle.std.specs.Prelude.{◌≡◌, ℕ, Option, None, List, [], ◌∷◌, ◌++◌, map, drop, flat_map, set}
use Rattle.typed_tree.specs.declared.tree.Loop.{Loop}
use Rattle.typed_tree.specs.Loops.{Inside, LoopControls, controls_told, loops_of_statement}
use Rattle.resolver.specs.declared.table.Met.{Met}
use Rattle.resolver.specs.declared.typed.MadeBlock.{MadeBlock}

-- the number of the block, the rows, each a block with the control variables of the loop, and all control variables
pub record Seen : Type 0 where
  pub block : ℕ
  pub rows : List (ℕ × LoopControls)
  pub controls : List ℕ

abbrev pub row_of : Loop → ℕ × LoopControls
row_of row = (row.block, controls_told row)

abbrev pub seen : Met → Seen
seen met = record { block = met.block; rows = map row_of met.loops.items; controls = met.controls.items }

-- the rows of these loops, which stand in a block of a number
abbrev pub rows_of : ℕ → List (ℕ × LoopControls) → List (ℕ × LoopControls)
rows_of block loops = map (λ one. (block, one.1)) loops

-- what was met behind a statement
abbrev pub meets : Inside → Seen → Seen
meets inside s =
    record { block = s.block; rows = s.rows ++ rows_of s.block inside.loops; controls = s.controls ++ inside.controls }

-- a control variable was met
abbrev pub controlled : ℕ → Seen → Seen
controlled root s = record { block = s.block; rows = s.rows; controls = s.controls ++ root ∷ [] }

-- a loop has a row, which is not told yet
abbrev pub untold : LoopControls
untold = record { own = None; inside = [] }

abbrev pub opened : Seen → Seen
opened s = record { block = s.block; rows = s.rows ++ (s.block, untold) ∷ []; controls = s.controls }

-- a row is told: the loop's own control variable, if it has one, and those behind so many
abbrev pub closed : Option ℕ → ℕ → ℕ → Seen → Seen
closed own row start s = record {
  block = s.block;
  rows = set s.rows row (s.block, record { own = own; inside = drop start s.controls });
  controls = s.controls;
}

-- what was met behind a step, unless memory ran out
abbrev pub Meets : (Seen → Seen) → Met → Met → Type 0
Meets step old new = new.refused ≡ None → (old.refused ≡ None) × (seen new ≡ step (seen old))

-- the rows of the loops of a block that was made
abbrev pub rows_of_made : MadeBlock → List (ℕ × LoopControls)
rows_of_made made = rows_of made.number (loops_of_statement made.block.body)

-- the table of the loops of blocks, one after another
abbrev pub IsTableOf : List MadeBlock → List Loop → Type 0
IsTableOf blocks rows = map row_of rows ≡ flat_map rows_of_made blocks
