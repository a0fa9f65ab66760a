-- Where blocks and headings begin and end, as steps: what the calls do that pass them. It says nothing of what stands
-- in between.
use Rattle.std.specs.Prelude.{◌≡◌, ◌⊎◌, ℕ, ◌++◌, List, [], ◌∷◌, Option, None, Some, Result, Ok, Err, length}
use Rattle.memory.specs.Refused.{the_refusal}
use Rattle.place.specs.declared.Place.{Place}
use Rattle.typed_tree.specs.declared.fault.TypeFault.{TypeFault}
use Rattle.typed_tree.specs.declared.fault.TypeFault.TheVariants.{Memory}
use Rattle.typing.specs.Expressions.{are_as_many}
use Rattle.typing.specs.Outcomes.{IsFault}
use Rattle.typing.specs.Passing.{Headed, Enclosing, Passed, Passing, After, after, pure, ◌>>=◌, ◌>>◌}
use Rattle.typing_rules.specs.Checked.{Checked}
use Rattle.typing.specs.Steps.{add_heading, close_block, enclosing_now, heading_at, open_beside, with_enclosing}
use Rattle.typing.specs.View.{enclosing_of}
use Rattle.typing.specs.declared.blocks.BegunBlock.{BegunBlock}
use Rattle.typing.specs.declared.blocks.Callee.{Callee}

-- the heading of a block ends, with these parameters and this result, and the block round it goes on
unfoldable pub heading_ends : Enclosing → List ℕ → Option ℕ → Passing (Unit {0})
heading_ends round roots root = do
  region ← close_block
  own ← enclosing_now
  with_enclosing round
  add_heading (record {
    around = round.around ++ round.block ∷ [];
    parameters = roots;
    result = root;
    region = region;
    cells = own.cells;
  })

-- a block begins that defines these names, by the block round it and its heading
unfoldable pub block_begins : ℕ → List (List ℕ) → Passing (Enclosing × Headed)
block_begins number names = do
  round ← enclosing_now
  heading ← heading_at number
  with_enclosing (record { block = number; around = heading.around; cells = heading.cells; waiting = [] })
  open_beside heading.region names
  pure (round, heading)

-- it ends, and the block round it goes on
unfoldable pub block_ends : Enclosing → Passing (Unit {0})
block_ends round = close_block >> with_enclosing round

-- a block that began is this one
pub record IsBegun (made : BegunBlock) (heading : Headed) : Type 0 where
  pub around : heading.around ≡ made.around.items
  pub parameters : heading.parameters ≡ made.parameters.items
  pub result : heading.result ≡ made.root

abbrev pub BeginsBlock : Checked (After (Enclosing × Headed)) → Result BegunBlock TypeFault → Passed → Type 0
BeginsBlock outcome (Ok made) new =
    (heading : Headed) × (outcome ≡ Ok (after (enclosing_of made.round, heading) [] new)) × IsBegun made heading
BeginsBlock outcome (Err why) new = IsFault outcome why

-- the heading of a callee, which has so many parameters
pub record IsCallee (heading : Headed) (place : Place) (count : ℕ) (made : Callee) : Type 0 where
  pub fits : are_as_many place count (length heading.parameters) ≡ Ok tt
  pub parameters : heading.parameters ≡ made.parameters.items
  pub result : heading.result ≡ made.root

abbrev pub FindsCallee : Headed → Place → ℕ → Result Callee TypeFault → Type 0
FindsCallee heading place count (Ok made) = IsCallee heading place count made
FindsCallee heading place count (Err why) =
    (why ≡ Memory the_refusal) ⊎ (are_as_many place count (length heading.parameters) ≡ Err why)

-- the place of a routine that waits
abbrev pub place_of : Option (ℕ × Option Place) → Option Place
place_of None = None
place_of (Some one) = one.1
