-- What holds of the code of every program (ISO 7185:1990, 3.1): the checks of sites at which it never errs can be left
-- out; and of all code that follows a program: its first frame is no larger than the need of the program's block, and
-- each error of the program stops it. It does not say which sites never err.
use Rattle.std.specs.Prelude.{◌≡◌, ℕ, ◌+◌, ◌≤◌, List, [], ◌∷◌, false, true, Some, slice_get}
use Rattle.pcode_assembler.specs.declared.code.Code.{Code}
use Rattle.pcode_assembler.specs.declared.code.Site.{Site}
use Rattle.pcode_assembler.specs.declared.instr.Instr.{Instr}
use Rattle.pcode_assembler.specs.declared.instr.Instr.TheVariants.{Enter}
use Rattle.typed_tree.specs.declared.site.Site.{Site as TreeSite}
use Rattle.typed_tree.specs.declared.tree.Tree.{Tree}
use Rattle.typed_tree.specs.WellFormed.{IsWellFormed}
use Rattle.meaning.specs.declared.outcome.Ending.TheVariants.{Error}
use Rattle.meaning.specs.Laws.{state_after}
use Rattle.meaning.specs.Meaning.{meaning, run}
use Rattle.check_remover.specs.Strip.{is_among, KeepsInstructions}
use Rattle.code_scheme.specs.Code.{program_code}
use Rattle.code_generator.specs.Follows.{Follows, most_cells}
use Rattle.code_scheme.specs.Large.{is_too_large}
use Rattle.code_scheme.specs.Need.{block_need, living_need}
use Rattle.code_generator.specs.Tables.{in_plain_numbers, point_table, site_table}
use Rattle.stack_machine.specs.declared.stop.Stop.TheVariants as stop
use Rattle.stack_machine.specs.Run.{machine}

-- code that keeps the program's instructions, but for the checks of sites that aren't open, follows the program, if it
-- errs at open sites alone
abbrev pub StrippedFollows : Type 0
StrippedFollows =
    (tree : Tree) (open_sites : List Site) (code : Code) → IsWellFormed tree → is_too_large tree ≡ false
    → code.sites.items ≡ site_table tree.sites.items → code.points.items ≡ point_table tree.points.items
    → KeepsInstructions open_sites (program_code tree) code.instructions.items
    → ((input : List ℕ) (turns site : ℕ) → (meaning tree input turns).ending ≡ Error site
    → is_among open_sites site ≡ true)
    → Follows code tree

-- the blocks of the activations that last where a run has no turn left for another, with that of this one
abbrev pub starved_in : Tree → List ℕ → ℕ → List ℕ
starved_in tree input turns = (state_after (run tree input turns)).starved

-- where no routine is called without a turn, the first frame of code that follows a program takes no more cells than
-- the program's block may need, if a machine has that many
abbrev pub FramesFit : Type 0
FramesFit =
    (tree : Tree) (code : Code) (variables evaluation : ℕ) (rest : List Instr) → Follows code tree
    → block_need tree 0 ≤ most_cells → ((turns : ℕ) → starved_in tree [] turns ≡ [])
    → code.instructions.items ≡ Enter variables evaluation ∷ rest → 4 + variables + evaluation ≤ block_need tree 0

-- so many cells are enough for the program's block, and for all activations that ever last together
pub record IsEnough (tree : Tree) (input : List ℕ) (cells : ℕ) : Type 0 where
  pub at_start : block_need tree 0 ≤ cells
  pub at_calls : (turns : ℕ) → living_need tree (starved_in tree input turns) ≤ cells

-- where a program errs, some run of code that follows it writes the same and stops with the error of that site, on each
-- machine with enough cells
abbrev pub ErrorsCome : Type 0
ErrorsCome =
    (tree : Tree) (code : Code) (input : List ℕ) (turns id cells : ℕ) → Follows code tree
    → (meaning tree input turns).ending ≡ Error id → cells ≤ most_cells → IsEnough tree input cells
    → (budget : ℕ) × (site : TreeSite) × (slice_get tree.sites.items id ≡ Some site)
    × (machine code input cells budget
    ≡ record { output = (meaning tree input turns).output; stop = stop.Error (in_plain_numbers site) })
