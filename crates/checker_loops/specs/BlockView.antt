-- What is claimed of blocks, and how a block begins, as the definitions see them. Not what is known of them.
use Rattle.std.specs.Prelude.{ℕ, suc, ◌≡◌, ◌<◌, ◌++◌, List, [], ◌∷◌, Option, Some, None, get_or, if◌then◌else◌, length}
use Rattle.std.specs.Prelude.{map, min, nat_eq, slice_get, slice_set}
use denote.Ref.{Bor}
use Rattle.domain.specs.Facts.{Fact}
use Rattle.domain.specs.Interval.{vacant}
use Rattle.typed_tree.specs.declared.tree.Tree.{Tree}
use Rattle.typed_tree.specs.declared.tree.Variable.{Variable}
use Rattle.certificate.specs.declared.Section.{Section as KeptSection}
use Rattle.certificate.specs.Contents.{said_fact}
use Rattle.checker_rows.specs.Rows.{rows_under}
use Rattle.checker_state.specs.State.{State, with_defined, with_range}
use Rattle.checker_loops.specs.declared.sections.BlockClaims.{BlockClaims as KeptClaims}
use Rattle.checker_loops.specs.declared.sections.BlockSection.{BlockSection}
use Rattle.checker_loops.specs.declared.sections.Facts.{Facts}
use Rattle.checker_loops.specs.declared.sections.Facts.TheVariants.{Listed, Kept}
use Rattle.checker_loops.specs.Sections.{BlockClaims, no_block_claims}
use Rattle.checker_loops.specs.Starts.{is_own, is_passed_value}

-- ---- what is claimed of a block

abbrev pub claims_of_section : KeptSection → BlockClaims
claims_of_section section = record {
  changes = section.changes.items;
  entry = map said_fact section.entry.items;
  exit = map said_fact section.exit.items;
}

abbrev pub claims_of : Option KeptSection → BlockClaims
claims_of None = no_block_claims
claims_of (Some section) = claims_of_section section

-- a section that the checker has found, and what it claims
abbrev pub found_as : Option (Bor KeptSection) → Option KeptSection
found_as None = None
found_as (Some section) = Some section.now

abbrev pub found_claims : Option (Bor KeptSection) → BlockClaims
found_claims section = claims_of (found_as section)

-- what is claimed of a block, and the same as it is kept
abbrev pub said_claims : KeptClaims → BlockClaims
said_claims claims = record {
  changes = claims.changes.listed.now;
  entry = map said_fact claims.start.now;
  exit = map said_fact claims.end.now;
}

abbrev pub said_facts : Facts → List Fact
said_facts (Listed facts) = map said_fact facts.now
said_facts (Kept facts) = map said_fact facts.items

abbrev pub said_section : BlockSection → BlockClaims
said_section section =
    record { changes = section.changes; entry = said_facts section.start; exit = said_facts section.end }

-- the first section on the block of a number
abbrev pub first_on : ℕ → List KeptSection → Option KeptSection
first_on number [] = None
first_on number (section ∷ sections) =
    if nat_eq section.block number then Some section else first_on number sections

-- what is found first
abbrev pub or_else : Option KeptSection → Option KeptSection → Option KeptSection
or_else None other = other
or_else (Some one) other = Some one

-- sections were found for blocks by their numbers: where some were known before, those stay
pub record AreFound (old new : List (Option (Bor KeptSection))) (found : ℕ → Option KeptSection) : Type 0 where
  pub same_length : length new ≡ length old
  pub each : (number : ℕ) → number < length old
      → found_as (get_or new number None) ≡ or_else (found_as (get_or old number None)) (found number)

-- ---- where a block begins

-- the variables of a block by those of each block
abbrev pub own_roots : Tree → List (List ℕ) → ℕ → List ℕ
own_roots tree declared block = get_or declared (min block (length tree.blocks.items)) []

-- no component of some rows has a value
abbrev pub rows_vacant : List ℕ → State → State
rows_vacant [] state = state
rows_vacant (row ∷ rows) state = rows_vacant rows (with_range row vacant state)

-- each component of some rows is defined
abbrev pub rows_defined : List ℕ → State → State
rows_defined [] state = state
rows_defined (row ∷ rows) state = rows_defined rows (with_defined row state)

-- a variable is undefined as a whole, and so are its rows
abbrev pub begun_undefined : Tree → ℕ → State → State
begun_undefined tree root state = rows_vacant (rows_under tree root []) (with_range root vacant state)

-- a variable begins, if it is there
abbrev pub begun : Tree → ℕ → ℕ → Option Variable → State → State
begun tree block root None state = state
begun tree block root (Some variable) state =
    if is_own block variable then begun_undefined tree root state
    else if is_passed_value block variable then rows_defined (rows_under tree root []) state else state

-- variables begin, one after another
abbrev pub all_begun : Tree → ℕ → List ℕ → State → State
all_begun tree block [] state = state
all_begun tree block (root ∷ roots) state =
    all_begun tree block roots (begun tree block root (slice_get tree.variables.items root) state)

-- a variable is put behind those of a block
abbrev pub with_root : (block root : ℕ) → List (List ℕ) → List (List ℕ)
with_root block root rows = slice_set rows block (get_or rows block [] ++ root ∷ [])

-- variables, of which the first has this root, are put behind those of their blocks
abbrev pub with_roots : (blocks root : ℕ) → List Variable → List (List ℕ) → List (List ℕ)
with_roots blocks root [] rows = rows
with_roots blocks root (variable ∷ declared) rows =
    with_roots blocks (suc root) declared (with_root (min variable.block blocks) root rows)
