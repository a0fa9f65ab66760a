-- What a verdict promises: the list of open sites, and of the runs of a program that they err at its open sites alone
-- (ISO 7185:1990, 3.1), and that at each entry the states of the walk hold; and why a certificate gets no verdict. It
-- does not say that an open site can err.
use Rattle.std.specs.Prelude.{◌≡◌, ◌≢◌, ℕ, ◌≤◌, ◌^◌, ◌⊎◌, true, false, List, [], ◌==◌, Contains, Some, filter, length}
use Rattle.std.specs.Prelude.{slice_get}
use Rattle.std.specs.List.{list_any}
use Rattle.certificate.specs.declared.Certificate.{Certificate}
use Rattle.typed_tree.specs.declared.tree.Tree.{Tree}
use Rattle.typed_tree.specs.declared.tree.Block.{Block}
use Rattle.typed_tree.specs.declared.site.Site.{Site}
use Rattle.typed_tree.specs.Entries.{entries_of, entries_of_statement}
use Rattle.meaning.specs.declared.outcome.Ending.TheVariants.{Error}
use Rattle.meaning.specs.Effect.{Visit, State as Before}
use Rattle.meaning.specs.Laws.{state_after}
use Rattle.meaning.specs.Meaning.{Argument, calls_of, environment_of, run, meaning}
use Rattle.meaning.specs.Store.{Environment, Place, stored}
use Rattle.checker_state.specs.State.{State}
use Rattle.checker_expressions.specs.declared.fault.CheckFault.{CheckFault}
use Rattle.checker_expressions.specs.declared.fault.CheckFault.TheVariants.{Memory, TooLarge, Foreign, Broken}
use Rattle.checker_calls.specs.Names.{is_known}
use Rattle.checker_expressions.specs.Visits.{moment_of, visits_of}
use Rattle.checker_expressions.specs.Walk.{Context, Linked, first_breach, numbers_of}
use Rattle.cert_checker.specs.Visits.{most_counted}
use Rattle.cert_checker.specs.Walk.{block_walk, program_walk}
use Rattle.checker_state.specs.Holds.{Separate, StateHolds}
use Rattle.checker_rows.specs.Rows.{Parts, all_parts}
use Rattle.certificate.specs.Contents.{contents}
use Rattle.checker_loops.specs.Sections.{all_pairs, block_claims_in}
use Rattle.checker_calls.specs.Environments.{IsListed}

-- the sites of the table that the walk leaves open, in the order of the table
abbrev pub open_in : List ℕ → List Site → List Site
open_in ids sites = filter (λ site. list_any (λ id. id == site.id) ids) sites

-- a certificate is accepted: it names what the program has, and the walk by it breaks no rule; which sites that leaves
-- open is another matter
abbrev pub IsAccepted : Tree → Certificate → Type 0
IsAccepted tree certificate = (is_known tree certificate ≡ true) × ((program_walk tree certificate).broken ≡ [])

-- a certificate is valid for a program, and these sites are open: it names what the program has, and the walk by it
-- breaks no rule
pub record Valid (tree : Tree) (certificate : Certificate) (open_sites : List Site) : Type 0 where
  pub known : is_known tree certificate ≡ true
  pub unbroken : (program_walk tree certificate).broken ≡ []
  pub open_are : open_sites ≡ open_in (program_walk tree certificate).open_ids tree.sites.items

-- a program has more variables or blocks than 32 bits number, or more entries than the checker counts; no well formed
-- tree has so many variables or blocks, and no typed program so many entries
abbrev pub IsHuge : Tree → Type 0
IsHuge tree =
    (2 ^ 32 ≤ length tree.variables.items)
    ⊎ ((2 ^ 32 ≤ length tree.blocks.items) ⊎ (most_counted ≤ length (entries_of tree)))

-- why the walk by a certificate is given up: for the first rule that it breaks, or the program is too large, or for
-- want of memory
abbrev pub IsGivenUpFor : Tree → Certificate → CheckFault → Type 0
IsGivenUpFor tree certificate (Memory _) = Unit {0}
IsGivenUpFor tree certificate TooLarge = IsHuge tree
IsGivenUpFor tree certificate Foreign = ⊥
IsGivenUpFor tree certificate (Broken rule place) =
    first_breach (program_walk tree certificate).broken ≡ Some (record { rule = rule; place = place })

-- why a certificate is refused: it names what the program doesn't have, or what may not be named; or the walk by it is
-- given up
abbrev pub IsRefusedFor : Tree → Certificate → CheckFault → Type 0
IsRefusedFor tree certificate (Memory _) = Unit {0}
IsRefusedFor tree certificate TooLarge = IsHuge tree
IsRefusedFor tree certificate Foreign = is_known tree certificate ≡ false
IsRefusedFor tree certificate (Broken rule place) =
    (is_known tree certificate ≡ true) × IsGivenUpFor tree certificate (Broken rule place)

-- each error of a run is at a site of the table that is open
abbrev pub ClosedNeverErr : Tree → List Site → Type 0
ClosedNeverErr tree open_sites =
    (input : List ℕ) (turns id : ℕ) → (meaning tree input turns).ending ≡ Error id
    → (site : Site) × Contains tree.sites.items site × Contains open_sites site × (site.id ≡ id)

-- the walk over a block links a state to each of its entries, once and in their order, and so does that over the blocks
pub record LinksEntries (tree : Tree) (certificate : Certificate) : Type 0 where
  pub of_block : (number : ℕ) (block : Block) (context : Context) (state : State)
      → numbers_of (block_walk number block context state).linked ≡ entries_of_statement block.body
  pub of_program : numbers_of (program_walk tree certificate).linked ≡ entries_of tree

-- a state is linked to the number of an entry, and each that is linked to it holds there, of rows with these components
pub record HoldsAt (rows : List Parts) (linked : List Linked) (visit : Visit) : Type 0 where
  pub is_linked : (one : Linked) × Contains linked one × (one.number ≡ visit.number)
  pub holds :
      (one : Linked) → Contains linked one → one.number ≡ visit.number → StateHolds rows one.state (moment_of visit)

-- whenever a run enters a statement or expression, the states that are linked to it hold, and two variables share a
-- place only if they are a listed pair; a pair names a parameter, so it speaks of that one's block and those inside it
abbrev pub StatesHold : Tree → Certificate → Type 0
StatesHold tree certificate =
    (input : List ℕ) (turns : ℕ) (visit : Visit) → Contains (visits_of (run tree input turns)) visit
    → HoldsAt (all_parts tree) (program_walk tree certificate).linked visit
    × Separate visit.environment (all_pairs certificate)

-- A call changes what its block lists alone, and what lies in activations that begin in it, its own among them: of each
-- other place it leaves the value as it was. What is visible in the block is told by what is passed and by what is
-- visible where it is called.
abbrev pub CallsChangeWhatTheyList : Tree → Certificate → Type 0
CallsChangeWhatTheyList tree certificate =
    (depth number : ℕ) (block : Block) (arguments : List Argument) (caller : Environment) (s : Before) (place : Place)
    → slice_get tree.blocks.items number ≡ Some block
    → stored (state_after (calls_of tree depth number arguments caller s)).store place ≢ stored s.store place
    → (s.activations ≤ place.activation)
    ⊎ IsListed (block_claims_in number (contents certificate)).changes
    (environment_of tree (record {
      number = s.activations;
      block = number;
      heading = block.heading;
      arguments = arguments;
      caller = caller;
    })) place
