-- The parts of a block's declarations, and of a heading, as steps, and the texts of names.
-- It says nothing of what they pass.
use Rattle.std.specs.Prelude.{ℕ, List, Option, Vec, map, flat_map, option_map}
use Rattle.std.specs.Borrow.{Bor}
use Rattle.std.specs.declared.alloc.Global.{Global}
use Rattle.syntax_tree.specs.declared.Block.{Block}
use Rattle.syntax_tree.specs.declared.Block.TheViews.{out-Block, out-Routine}
use Rattle.syntax_tree.specs.declared.FormalGroup.{FormalGroup}
use Rattle.syntax_tree.specs.declared.Name.{Name}
use Rattle.syntax_tree.specs.declared.Program.{Program}
use Rattle.syntax_tree.specs.declared.Routine.{Routine}
use Rattle.place.specs.declared.Place.{Place}
use Rattle.types.specs.declared.form.TypeId.{TypeId}
use Rattle.typing.specs.Blocks.{heading_ends}
use Rattle.typing.specs.Names.{all_folded, formal_names, heading_names}
use Rattle.typing.specs.Passing.{After, Passing, each, ◌>>=◌, ◌>>◌}
use Rattle.typing_rules.specs.Checked.{Checked}
use Rattle.typing.specs.Routines.{Begun, definition, group, group_types, parameters, result, type_definition}
use Rattle.typing.specs.Routines.{type_of_result, typed_block}
use Rattle.typing.specs.Steps.{begins, enclosing_now, open_block, with_enclosing}
use Rattle.typing.specs.Typing.{parameters_of_program}
use Rattle.declarations.specs.declared.headings.BegunRoutine.{BegunRoutine}

-- what is known behind the parameters of a program, or the first rule that they break
abbrev pub declared : Program → Checked (After (Unit {0}))
declared program = parameters_of_program program (typed_block program.block) (begins program.name.place)

-- the constants, the types and the variables of a block
abbrev pub block_declarations : Block → Passing (Unit {0})
block_declarations block =
    each definition (out-Block block).constants.items
    >> (each type_definition (out-Block block).types.items >> each group (out-Block block).variables.items)

-- a heading behind its types
unfoldable pub heading_inside : ℕ → Place → List FormalGroup → List TypeId → Option TypeId → Passing (Unit {0})
heading_inside number place groups types result_id = do
  round ← enclosing_now
  with_enclosing (record round { cells = 0 })
  root ← result number place result_id
  open_block (all_folded (flat_map formal_names groups))
  roots ← parameters number groups types
  heading_ends round roots root

-- a heading, whose cells and parameters come behind its types
abbrev pub heading_of : ℕ → Place → List FormalGroup → Option Name → Passing (Unit {0})
heading_of number place groups of_result = do
  types ← group_types groups
  result_id ← type_of_result of_result
  heading_inside number place groups types result_id

-- the names that routines define round their blocks
abbrev pub routine_names : List Routine → List Name
routine_names routines = flat_map (λ r. heading_names (out-Routine r).heading) routines

-- the name of the type of a result, if there is one
abbrev pub name_of_result : Option (Bor Name) → Option Name
name_of_result = option_map (λ name. name.now)

abbrev pub begun_of : BegunRoutine → Begun
begun_of made = record { number = made.number; is_first = made.is_first }

-- the texts of names
abbrev pub texts : List (Vec ℕ Global) → List (List ℕ)
texts names = map (λ name. name.items) names
