-- What stays while blocks and routines are passed: the regions round the innermost one, and the names that this one knows.
use Rattle.std.proofs.Common.{◌≡◌, List, Ok, slice_index_or}
use Rattle.syntax_tree.specs.declared.Block.{Block}
use Rattle.syntax_tree.specs.declared.Block.TheViews.{out-Block, out-Routine}
use Rattle.syntax_tree.specs.declared.Routine.{Routine}
use Rattle.typed_tree.specs.Look.{Look}
use Rattle.typing.specs.Names.{heading_names}
use Rattle.typing.specs.Passing.{Passed, Passing, after}
use Rattle.typing.specs.Routines.{definition, group, type_definition, typed_routine}
use Rattle.typing.proofs.WalkedBlocks.{routine_walks}
use Rattle.typing.proofs.Ways.{then_walks}
use Rattle.declarations.specs.Known.{AreKnownRoutines}
use Rattle.declarations.specs.Parts.{block_declarations}
use Rattle.declarations.proofs.Kept.{Keeps, definition_keeps, each_keeps, group_keeps, names_stay, type_definition_keeps}

-- the declarations of a block
pub declarations_keep : (b : Block) → Keeps (block_declarations b)
declarations_keep b =
    then_walks (each_keeps definition (out-Block b).constants.items definition_keeps) λ _.
    then_walks (each_keeps type_definition (out-Block b).types.items type_definition_keeps) λ _.
    each_keeps group (out-Block b).variables.items group_keeps

pub routine_keeps : (r : Routine) → Keeps (typed_routine r).typing
routine_keeps r = (routine_walks r).at 0

-- behind a step that passes, the names of routines stay known
module _ {A : Type 0} (step : Passing A) (keeps : Keeps step) (answer : A) (look : Look) (old new : Passed)
    (passes : step old ≡ Ok (after answer look new)) where
  pub routines_stay : (rs : List Routine) → AreKnownRoutines rs old.regions → AreKnownRoutines rs new.regions
  routines_stay rs known k d within = names_stay step keeps answer look old new passes (heading_names (out-Routine (slice_index_or rs k d)).heading)
      (known k d within)
