-- What a typed tree has of what is known behind its program, and whether it is the program's typed tree.
-- It says nothing of what typing answers.
use Rattle.std.specs.Prelude.{◌≡◌, ℕ, List, Ok, map}
use Rattle.syntax_tree.specs.declared.Program.{Program}
use Rattle.typed_tree.specs.declared.site.Site.{Site}
use Rattle.typed_tree.specs.declared.tree.Tree.{Tree}
use Rattle.typed_tree.specs.Ids.{Stands, AreInOrder, ArePointsInOrder}
use Rattle.typed_tree.specs.Look.{tree_look}
use Rattle.typed_tree.specs.declared.tree.Block.{Block}
use Rattle.typed_tree.specs.Entries.{in_text}
use Rattle.typed_tree.specs.Loops.{LoopControls, loop_row, loops_of_block}
use Rattle.typing.specs.Passing.{Passed, after}
use Rattle.typing.specs.Typing.{typing}

-- where a site's error stands
abbrev pub stands : Site → Stands
stands site = (site.kind, site.place)

-- a tree has the variables, the sites, the points and the types that are known
pub record IsLeft (passed : Passed) (tree : Tree) : Type 0 where
  pub variables : tree.variables.items ≡ passed.variables
  pub sites : map stands tree.sites.items ≡ passed.sites
  pub ids : AreInOrder tree.sites.items
  pub types : tree.types ≡ passed.types
  pub points : map (λ point. point.place) tree.points.items ≡ passed.points
  pub point_ids : ArePointsInOrder tree.points.items

-- the loops of a block of a number: of each the block, and its control variables
abbrev pub rows_of_block : ℕ → Block → List (ℕ × LoopControls)
rows_of_block number block = map (λ one. (number, one.1)) (loops_of_block block)

-- the table of loops says where each stands, its own control variable, if it has one, and those inside it
abbrev pub HasLoops : Tree → Type 0
HasLoops tree = map loop_row tree.loops.items ≡ in_text rows_of_block tree

-- a program breaks no rule of names and types, and this is its typed tree
pub record IsTyped (program : Program) (tree : Tree) : Type 0 where
  pub left : Passed
  pub typed : typing program ≡ Ok (after tt (tree_look tree) left)
  pub is_left : IsLeft left tree
  pub has_loops : HasLoops tree
