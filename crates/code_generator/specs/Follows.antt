-- Code follows a program: on the machine it writes what the program writes and stops as the program ends, for every
-- input and every number of cells that a machine may have. A store is full only where the activations that last then
-- need more cells than it has. Where a reader fails behind what it gave, this holds by every input that begins so. It
-- does not say that a run ends, nor what happens where a writer fails.
use Rattle.std.specs.Prelude.{◌≡◌, ℕ, ◌<◌, ◌≤◌, ◌⊎◌, Bool, true, false, List, [], ◌++◌, Some, slice_get}
use Rattle.pcode_assembler.specs.declared.code.Code.{Code}
use Rattle.typed_tree.specs.declared.tree.Tree.{Tree}
use Rattle.typed_tree.specs.declared.site.Site.{Site}
use Rattle.typed_tree.specs.declared.site.Point.{Point}
use Rattle.meaning.specs.declared.outcome.Ending.{Ending}
use Rattle.meaning.specs.declared.outcome.Ending.TheVariants as ending
use Rattle.meaning.specs.Laws.{state_after}
use Rattle.meaning.specs.Meaning.{Meaning, meaning, run as run_of}
use Rattle.run_ports.specs.Feeding.{failing}
use Rattle.stack_machine.specs.declared.stop.Stop.{Stop}
use Rattle.stack_machine.specs.declared.stop.Stop.TheVariants as stop
use Rattle.stack_machine.specs.Failures.{is_read_failed}
use Rattle.stack_machine.specs.Run.{Outcome, machine, machine_on}
use Rattle.code_scheme.specs.Need.{block_need, living_need}
use Rattle.code_generator.specs.Tables.{in_plain_numbers, point_in_plain_numbers}

-- a text begins with another
abbrev pub BeginsWith : List ℕ → List ℕ → Type 0
BeginsWith whole part = (rest : List ℕ) × (whole ≡ part ++ rest)

-- the run stops as the program ends: finished, at the same site, or at the same point for the same fault
abbrev pub StopsAs : Tree → Ending → Stop → Type 0
StopsAs tree ending.Finished s = s ≡ stop.Finished
StopsAs tree (ending.Error id) s =
    (site : Site) × (slice_get tree.sites.items id ≡ Some site) × (s ≡ stop.Error (in_plain_numbers site))
StopsAs tree (ending.Input id fault) s =
    (point : Point) × (slice_get tree.points.items id ≡ Some point)
    × (s ≡ stop.Input (point_in_plain_numbers point) fault)
StopsAs tree ending.More s = ⊥

-- the run did all that the program does
abbrev pub DoesAll : Tree → Meaning → Outcome → Type 0
DoesAll tree m run = (run.output ≡ m.output) × StopsAs tree m.ending run.stop

-- the run did what the program does up to its last turn, or all of it
abbrev pub DoesAsMuch : Tree → Meaning → Outcome → Type 0
DoesAsMuch tree m run = elim m.ending [
  | ending.More ↦ BeginsWith run.output m.output
  | ending.Finished ↦ DoesAll tree m run
  | ending.Error id ↦ DoesAll tree m run
  | ending.Input id fault ↦ DoesAll tree m run
]

-- a run with this output had too few cells for the program's own activation, before any output
abbrev pub IsFullAtStart : Tree → ℕ → Outcome → Type 0
IsFullAtStart tree cells run = (run.output ≡ []) × (cells < block_need tree 0)

-- a run had too few cells for an activation: with so many turns the program writes the same, and then there is no turn
-- left for the activation of a routine; it and those that last then need together more than the given cells
pub record IsFullAtCall (tree : Tree) (input : List ℕ) (cells turns : ℕ) (run : Outcome) : Type 0 where
  pub writes : run.output ≡ (meaning tree input turns).output
  pub starves : (meaning tree input turns).ending ≡ ending.More
  pub needs : cells < living_need tree (state_after (run_of tree input turns)).starved

-- what a run wrote begins the program's output, for some number of turns
abbrev pub BeginsMeaning : Tree → List ℕ → Outcome → Type 0
BeginsMeaning tree input run = (turns : ℕ) × BeginsWith (meaning tree input turns).output run.output

-- What a run's stop says of the program, seen for each number of turns: no fault; a used up budget, with a beginning of
-- some meaning's output; a full store, for want of cells; or an end of some meaning. No reader or writer fails here.
abbrev pub IsExplained : Tree → List ℕ → ℕ → Outcome → Stop → Type 0
IsExplained tree input cells run (stop.Fault fault) = ⊥
IsExplained tree input cells run stop.More = BeginsMeaning tree input run
IsExplained tree input cells run stop.StoreFull =
    IsFullAtStart tree cells run ⊎ ((turns : ℕ) × IsFullAtCall tree input cells turns run)
IsExplained tree input cells run stop.ReadFailed = ⊥
IsExplained tree input cells run stop.WriteFailed = ⊥
IsExplained tree input cells run stop.Finished = (turns : ℕ) × DoesAll tree (meaning tree input turns) run
IsExplained tree input cells run (stop.Error site) = (turns : ℕ) × DoesAll tree (meaning tree input turns) run
IsExplained tree input cells run (stop.Input point fault) = (turns : ℕ) × DoesAll tree (meaning tree input turns) run

-- the same where a reader may fail, by whether it did
abbrev pub IsExplainedAs : Bool → Tree → List ℕ → ℕ → Outcome → Type 0
IsExplainedAs true tree input cells run = BeginsMeaning tree input run
IsExplainedAs false tree input cells run = IsExplained tree input cells run run.stop

-- how many cells a machine has at most: the address of each is a number
abbrev pub most_cells : ℕ
most_cells = 16777216

-- the code follows the program
pub record Follows (code : Code) (tree : Tree) : Type 0 where
  -- no run is at fault, and each run has its reason in the program
  pub sound : (input : List ℕ) (cells budget : ℕ) → cells ≤ most_cells
      → IsExplained tree input cells (machine code input cells budget) (machine code input cells budget).stop
  -- the same on a reader that fails behind what it gave, by each input that begins so: where it failed, what the run
  -- wrote begins what the program writes
  pub failing : (given rest : List ℕ) (cells budget : ℕ) → cells ≤ most_cells
      → IsExplainedAs (is_read_failed (machine_on code (failing given) cells budget).stop) tree (given ++ rest) cells
      (machine_on code (failing given) cells budget)
  -- what the program does is done by some run, unless the store was full
  pub complete : (input : List ℕ) (cells turns : ℕ) → cells ≤ most_cells
      → ((budget : ℕ) × DoesAsMuch tree (meaning tree input turns) (machine code input cells budget))
      ⊎ ((budget : ℕ) × ((machine code input cells budget).stop ≡ stop.StoreFull))
