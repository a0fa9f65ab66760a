-- The loops of a typed tree, its repetitive statements (ISO 7185:1990, 6.8.3.6), in the order of their first words: the
-- number of each, its control variable, if it is a for statement (6.8.3.9), and the control variables of the for
-- statements inside it. It says nothing of what a loop does.
use Rattle.std.specs.Prelude.{◌≡◌, ℕ, suc, ◌++◌, List, [], ◌∷◌, Option, Some, None, flat_map, map, slice_get}
use Rattle.std.specs.declared.alloc.Global.{Global}
use Rattle.std.specs.declared.boxed.Box.{Box}
use Rattle.typed_tree.specs.declared.tree.Block.{Block}
use Rattle.typed_tree.specs.declared.tree.Tree.{Tree}
use Rattle.typed_tree.specs.declared.tree.Loop.{Loop}
use Rattle.typed_tree.specs.declared.tree.Stmt.{Stmt}
use Rattle.typed_tree.specs.declared.tree.Stmt.TheOpen.{Stmt-F}
use Rattle.typed_tree.specs.declared.tree.Stmt.TheOpen.Stmt-F.{Empty, Assign, Write, Compound, If, While, Repeat, For}
use Rattle.typed_tree.specs.declared.tree.Stmt.TheOpen.Stmt-F.{Case, Copy, Call, With, Read}
use Rattle.typed_tree.specs.declared.tree.Stmt.TheFolds.{fold-Stmt}
use Rattle.typed_tree.specs.Entries.{in_text}

-- the control variables of a loop: its own, if it is a for statement, and those of the for statements inside it
pub record LoopControls : Type 0 where
  pub own : Option ℕ
  pub inside : List ℕ

-- what stands inside a statement
pub record Inside : Type 0 where
  -- its loops: the number of each, and its control variables
  pub loops : List (ℕ × LoopControls)
  -- the control variables of its for statements
  pub controls : List ℕ

abbrev pub no_loop : Inside
no_loop = record { loops = []; controls = [] }

abbrev pub both_inside : Inside → Inside → Inside
both_inside a b = record { loops = a.loops ++ b.loops; controls = a.controls ++ b.controls }

abbrev pub all_inside : List Inside → Inside
all_inside parts = record {
  loops = flat_map (λ part. part.loops) parts;
  controls = flat_map (λ part. part.controls) parts;
}

abbrev pub alternative_inside : Option (Box Inside Global) → Inside
alternative_inside None = no_loop
alternative_inside (Some inside) = inside.value

-- a loop of a number, perhaps with a control variable, round others
abbrev pub looped : Option ℕ → ℕ → Inside → Inside
looped own loop_number body = record {
  loops = (loop_number, record { own = own; inside = body.controls }) ∷ body.loops;
  controls = body.controls;
}

-- the control variable of a for statement isn't inside its own loop
abbrev pub controlled : ℕ → Inside → Inside
controlled control inside = record { loops = inside.loops; controls = control ∷ inside.controls }

abbrev pub statement_inside : Stmt-F Inside → Inside
statement_inside (Empty number) = no_loop
statement_inside (Assign assignment) = no_loop
statement_inside (Copy copying) = no_loop
statement_inside (Write writing) = no_loop
statement_inside (Read reading) = no_loop
statement_inside (Call calling) = no_loop
statement_inside (Compound number statements) = all_inside statements.items
statement_inside (If number condition consequence alternative) =
    both_inside consequence.value (alternative_inside alternative)
statement_inside (While head body) = looped None head.loop_number body.value
statement_inside (Repeat head statements) = looped None head.loop_number (all_inside statements.items)
statement_inside (For head body) = controlled head.control (looped (Some head.control) head.loop_number body.value)
statement_inside (Case head arms) = all_inside arms.items
statement_inside (With head body) = body.value

abbrev pub inside_of : Stmt → Inside
inside_of = fold-Stmt Inside statement_inside

-- the loops of a statement
abbrev pub loops_of_statement : Stmt → List (ℕ × LoopControls)
loops_of_statement statement = (inside_of statement).loops

-- the control variables of the for statements of a statement
abbrev pub controls_of : Stmt → List ℕ
controls_of statement = (inside_of statement).controls

-- the loops of a block
abbrev pub loops_of_block : Block → List (ℕ × LoopControls)
loops_of_block block = loops_of_statement block.body

-- the loops of a program, in the order of the text
abbrev pub loops_of : Tree → List (ℕ × LoopControls)
loops_of = in_text (λ number. loops_of_block)

-- what a row of the table tells: the block of a loop, and its control variables
abbrev pub controls_told : Loop → LoopControls
controls_told row = record { own = row.control; inside = row.controls.items }

abbrev pub loop_row : Loop → ℕ × LoopControls
loop_row row = (row.block, controls_told row)

-- the rows of the loops of a block of a number
abbrev pub loop_rows_of_block : ℕ → Block → List (ℕ × LoopControls)
loop_rows_of_block number block = map (λ one. (number, one.1)) (loops_of_block block)

-- the rows of the loops of a program, in the order of the text
abbrev pub loop_rows : Tree → List (ℕ × LoopControls)
loop_rows = in_text loop_rows_of_block

-- a loop has a row in the table, with its block and its control variables
abbrev pub IsLoop : List Loop → ℕ → ℕ × LoopControls → Type 0
IsLoop rows block one =
    (row : Loop) × (slice_get rows one.0 ≡ Some row) × (row.block ≡ block) × (controls_told row ≡ one.1)

-- each of these has
abbrev pub AreLoops : List Loop → ℕ → List (ℕ × LoopControls) → Type 0
AreLoops rows block [] = Unit {0}
AreLoops rows block (one ∷ others) = IsLoop rows block one × AreLoops rows block others

-- each loop of these blocks, which are numbered from one on
abbrev pub AreLoopsOf : List Loop → ℕ → List Block → Type 0
AreLoopsOf rows number [] = Unit {0}
AreLoopsOf rows number (block ∷ blocks) =
    AreLoops rows number (loops_of_block block) × AreLoopsOf rows (suc number) blocks
