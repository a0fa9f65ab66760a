-- What a certificate claims of a block: the variables that a call of it may change, the facts that hold where it begins
-- and where it ends; and which pairs of variables may share a place (ISO 7185:1990, 6.6.3.3). It does not say that a
-- program keeps to that.
use Rattle.std.specs.Prelude.{ℕ, List, [], ◌∷◌, if◌then◌else◌, flat_map, map, nat_eq, length, slice_index_or}
use Rattle.std.specs.List.{range_with_len}
use Rattle.certificate.specs.declared.Certificate.{Certificate}
use Rattle.certificate.specs.declared.AliasPair.{AliasPair}
use Rattle.certificate.specs.Contents.{Section, contents}
use Rattle.domain.specs.Facts.{Fact}
use Rattle.typed_tree.specs.declared.tree.Tree.{Tree}

-- what is claimed of a block
pub record BlockClaims : Type 0 where
  pub changes : List ℕ
  pub entry : List Fact
  pub exit : List Fact

abbrev pub no_block_claims : BlockClaims
no_block_claims = record { changes = []; entry = []; exit = [] }

-- the claims on the block of a number; nothing where no section is on it
abbrev pub block_claims_in : ℕ → List Section → BlockClaims
block_claims_in number [] = no_block_claims
block_claims_in number (section ∷ sections) =
    if nat_eq section.block number
    then record { changes = section.changes; entry = section.entry; exit = section.exit }
    else block_claims_in number sections

-- the claims of a certificate on each block of the program, by its number
abbrev pub all_block_claims : Tree → Certificate → List BlockClaims
all_block_claims tree certificate =
    map (λ number. block_claims_in number (contents certificate)) (range_with_len 0 (length tree.blocks.items))

-- those on the block of a number by those on all
abbrev pub block_claims_at : List BlockClaims → ℕ → BlockClaims
block_claims_at claims number = slice_index_or claims number no_block_claims

-- ---- pairs

abbrev pub pair_of : AliasPair → ℕ × ℕ
pair_of pair = (pair.first, pair.second)

-- the pairs of all sections. A pair names a parameter of its section's block, so it says something where that and the
-- other variable are visible: in this block and those inside it
abbrev pub all_pairs : Certificate → List (ℕ × ℕ)
all_pairs certificate = flat_map (λ section. map pair_of section.aliases) (contents certificate)
