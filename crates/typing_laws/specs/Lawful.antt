-- What a typed program has: by how its typed tree looks, and by what is known behind it. It says nothing of what the
-- program does.
use Rattle.std.specs.Prelude.{◌≡◌, ℕ, ◌<◌, ◌≤◌, List, [], ◌∷◌, Option, Some, true, IsPermutation, nat_lt, length}
use Rattle.std.specs.Prelude.{slice_get, Contains, Ok}
use Rattle.std.specs.List.{range_with_len, list_all}
use Rattle.place.specs.declared.Place.{Place}
use Rattle.place.specs.Place.{ArePlacesInOrder}
use Rattle.syntax_tree.specs.declared.Program.{Program}
use Rattle.syntax_tree.specs.Places.{program_places}
use Rattle.types.specs.Types.{BeginWithRequired}
use Rattle.typed_tree.specs.declared.tree.FunctionResult.{FunctionResult}
use Rattle.typed_tree.specs.declared.tree.Heading.{Heading}
use Rattle.typed_tree.specs.Ids.{AreByPlace, Stands}
use Rattle.typed_tree.specs.Look.{Look, Mark, BlockEnds, entries_of_look, loops_of_look, blocks_of_look, are_formed}
use Rattle.typed_tree.specs.WellFormed.{Outline, most_entries, most_numbered, are_few_cells, is_heading}
use Rattle.typing.specs.Passing.{After}
use Rattle.typing.specs.Steps.{most_sites}
use Rattle.typing.specs.Typing.{typing}
use Rattle.typing_laws.specs.Controls.{AreUnthreatened, spared_behind}
use Rattle.typing_laws.specs.Opened.{opened_behind}
use Rattle.typing_laws.specs.Results.{are_assigned}

-- the block of a number has this heading: the blocks round it, its parameters and its result
abbrev pub HasHeading : List Heading → ℕ → List ℕ → List ℕ → Option FunctionResult → Type 0
HasHeading headings number around parameters result =
    (heading : Heading) × (slice_get headings number ≡ Some heading) × (heading.around.items ≡ around)
    × (heading.parameters.items ≡ parameters) × (heading.result ≡ result)

-- a block that ends has its heading
abbrev pub TellsHeading : List Heading → Mark → Type 0
TellsHeading headings (BlockEnds number around parameters result end) =
    HasHeading headings number around parameters result
TellsHeading headings other = Unit {0}

-- each block that ends has its heading
abbrev pub TellsHeadings : List Heading → Look → Type 0
TellsHeadings headings [] = Unit {0}
TellsHeadings headings (mark ∷ marks) = TellsHeading headings mark × TellsHeadings headings marks

-- what a program declares: what is known behind it, and the headings of its blocks
pub record IsOutlineOf (a : After (Unit {0})) (outline : Outline) : Type 0 where
  pub variables : outline.variables ≡ a.passed.variables
  pub types : outline.types ≡ a.passed.types
  pub sites : outline.sites ≡ length a.passed.sites
  pub points : outline.points ≡ length a.passed.points
  pub count : length outline.headings ≡ length a.passed.headings
  pub headings : TellsHeadings outline.headings a.look

-- what a typed program has, by how its tree looks and what is known behind it
pub record Lawful (program : Program) (a : After (Unit {0})) : Type 0 where
  -- its entries are numbered from 0, in the order of the text
  pub numbered : entries_of_look a.look ≡ range_with_len 0 (length (entries_of_look a.look))
  pub few_entries : length (entries_of_look a.look) ≤ most_entries
  -- its loops are numbered from 0, in the order of their first words
  pub loops : loops_of_look a.look ≡ range_with_len 0 (length (loops_of_look a.look))
  pub few_loops : length (loops_of_look a.look) ≤ most_numbered
  -- its blocks are numbered from 0 by their headings, and each ends once
  pub blocks : IsPermutation (range_with_len 0 (length a.passed.headings)) (blocks_of_look a.look)
  pub a_block : 0 < length a.passed.headings
  -- each form is well formed in its block, with what the program declares
  pub formed : (outline : Outline) → IsOutlineOf a outline → are_formed outline a.look ≡ true
  -- each block has a heading that stands where it does, with the parameters and the result that it declares
  pub headings :
      (outline : Outline) → IsOutlineOf a outline → (number : ℕ) (heading : Heading)
      → slice_get outline.headings number ≡ Some heading → is_heading outline number heading ≡ true
  -- the variables of a block take no more cells than a block has
  pub few_cells : (outline : Outline) → IsOutlineOf a outline → (number : ℕ) → are_few_cells outline number ≡ true
  -- the variable of each for statement is changed in its block alone
  pub unthreatened : AreUnthreatened a.look
  -- and the statement of that for changes it nowhere
  pub spared : spared_behind [] a.look ≡ Some []
  -- each access begins at a variable, or at a record of a with that is open there
  pub opened : opened_behind [] a.look ≡ Some []
  -- the result of each function is assigned somewhere
  pub assigned : are_assigned a.look ≡ true
  pub few_variables : length a.passed.variables ≤ most_numbered
  pub few_blocks : length a.passed.headings ≤ most_numbered
  -- each variable is one that a block declares
  pub declared : list_all (λ variable. nat_lt variable.block (length a.passed.headings)) a.passed.variables ≡ true
  pub few_sites : length a.passed.sites ≤ most_sites
  pub few_points : length a.passed.points ≤ most_sites
  -- each stands at a place that the program's tree keeps
  pub sites_there : (site : Stands) → Contains a.passed.sites site → Contains (program_places program) site.1
  pub points_there : (point : Place) → Contains a.passed.points point → Contains (program_places program) point
  pub types : BeginWithRequired a.passed.types
  -- its sites stand by place and then by kind, if its places stand in order
  pub by_place : ArePlacesInOrder (program_places program) → AreByPlace a.passed.sites

-- each program that is typed has all this
abbrev pub TypedProgramsAreLawful : Type 0
TypedProgramsAreLawful = (program : Program) (a : After (Unit {0})) → typing program ≡ Ok a → Lawful program a
