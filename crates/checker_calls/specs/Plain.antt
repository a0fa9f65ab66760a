-- Plain certificates: they have no facts, and list each pair of variables that may be listed, and each variable that a
-- block or a loop may list as changed (ISO 7185:1990, 6.6.3.3, 6.8.3.6). It does not say that one breaks no rule.
use Rattle.std.specs.Prelude.{◌≡◌, ℕ, ◌<◌, ◌&&◌, Bool, true, Contains, Some, length, slice_get}
use Rattle.std.specs.List.{list_all}
use Rattle.certificate.specs.declared.AliasPair.{AliasPair}
use Rattle.certificate.specs.declared.Certificate.{Certificate}
use Rattle.certificate.specs.declared.LoopClaims.{LoopClaims}
use Rattle.certificate.specs.declared.Section.{Section}
use Rattle.certificate.specs.Contents.{contents, is_empty}
use Rattle.typed_tree.specs.declared.tree.Loop.{Loop}
use Rattle.typed_tree.specs.declared.tree.Tree.{Tree}
use Rattle.typed_tree.specs.WellFormed.{is_visible, outline_of}
use Rattle.checker_loops.specs.Loops.{claims_on}
use Rattle.checker_loops.specs.Sections.{all_pairs, block_claims_in, pair_of}
use Rattle.checker_calls.specs.Names.{is_outward, pair_is_known}

-- a loop has no facts
abbrev pub is_plain_loop : LoopClaims → Bool
is_plain_loop claims = is_empty claims.facts.items

-- nor has a block, where it begins, where it ends, or in its loops
abbrev pub is_plain : Section → Bool
is_plain section =
    is_empty section.entry.items
    && (is_empty section.exit.items && list_all is_plain_loop section.loops.items)

-- a certificate has no facts
abbrev pub HasNoFacts : Certificate → Type 0
HasNoFacts certificate = list_all is_plain certificate.sections.items ≡ true

-- the block of a routine is another than the program's
abbrev pub IsOfRoutine : Tree → ℕ → Type 0
IsOfRoutine tree block = (0 < block) × (block < length tree.blocks.items)

-- a certificate lists all that it may
pub record ListsAll (tree : Tree) (certificate : Certificate) : Type 0 where
  -- as changed by a routine, what its callers may know
  pub changes :
      (block root : ℕ) → IsOfRoutine tree block → is_outward tree block root ≡ true
      → Contains (block_claims_in block (contents certificate)).changes root
  -- as changed by a loop, what is visible in its block
  pub loops :
      (number root : ℕ) (loop : Loop) → slice_get tree.loops.items number ≡ Some loop
      → is_visible (outline_of tree) loop.block root ≡ true → Contains (claims_on certificate number).changes root
  -- each pair of a routine
  pub pairs :
      (block : ℕ) (pair : AliasPair) → IsOfRoutine tree block → pair.first < pair.second
      → pair_is_known tree block pair ≡ true → Contains (all_pairs certificate) (pair_of pair)
