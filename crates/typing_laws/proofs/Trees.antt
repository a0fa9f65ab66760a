-- What the typed tree of a program has: by the laws of typing it is well formed, and its entries and its loops are numbered
-- in the order of the text.
use Rattle.std.proofs.Common.{◌≡◌, ℕ, ◌+◌, ◌<◌, ◌≤◌, true, nat_lt, List, [], ◌∷◌, ◌++◌, length, map, Option, Some, None, slice_get, refl, sym, ap, subst, ◌∙◌}
use Rattle.std.proofs.Common.{arith}
use Rattle.std.specs.Prelude.{IsPermutation, flat_map}
use Rattle.std.specs.List.{list_all, range_with_len}
use Rattle.std.proofs.lemmas.List.{length-map}
use Rattle.place.specs.Place.{ArePlacesInOrder}
use Rattle.syntax_tree.specs.declared.Program.{Program}
use Rattle.syntax_tree.specs.Places.{program_places}
use Rattle.typed_tree.specs.declared.site.Point.{Point}
use Rattle.typed_tree.specs.declared.tree.Block.{Block}
use Rattle.typed_tree.specs.declared.tree.Heading.{Heading}
use Rattle.typed_tree.specs.declared.tree.Tree.{Tree}
use Rattle.typed_tree.specs.declared.tree.Variable.{Variable}
use Rattle.typed_tree.specs.Entries.{AreNumbered, of_block}
use Rattle.typed_tree.specs.Ids.{AreByPlace}
use Rattle.typed_tree.specs.Look.{Look, Mark, BlockEnds, are_formed, blocks_of_look, entries_of_look, loops_of_look, heading_look, look_block, look_stmt}
use Rattle.typed_tree.specs.Look.{mark_blocks, tree_look}
use Rattle.typed_tree.specs.Kinds.{are_held}
use Rattle.typed_tree.specs.Loops.{loop_row, loops_of}
use Rattle.types.specs.Types.{BeginWithRequired}
use Rattle.typed_tree.specs.WellFormed.{IsWellFormed, heading_of, is_well_formed_block, most_numbered, outline_of}
use Rattle.typed_tree.proofs.Blocks.{are_well_formed, bodies_are_formed}
use Rattle.typed_tree.proofs.LoopNumbers.{loop_numbers_are}
use Rattle.typed_tree.proofs.Measured.{entries_are}
use Rattle.typed_tree.proofs.Quiet.{inner_stmt}
use Rattle.typed_tree.proofs.Rows.{as_many_rows, loops_have_rows}
use Rattle.typing.specs.Passing.{After, after}
use Rattle.typing.specs.Sound.{HasLoops, IsLeft, IsTyped, stands}
use Rattle.typing_laws.specs.Lawful.{IsOutlineOf, Lawful, TellsHeading, TellsHeadings}
use Rattle.typing_laws.proofs.Grown.{both_true}
use Rattle.typing_laws.proofs.Programs.{typing_is_lawful}
use Rattle.typing_laws.proofs.Reached.{mapped_get}
use Rattle.typing_laws.proofs.There.{all_there}
use Rattle.typing_laws.proofs.Unthreatened.{are_unthreatened}
use Rattle.typing_laws.specs.Opened.{opened_behind}
use Rattle.typing_laws.specs.Controls.{AreUnthreatened, spared_behind}

-- ---- the headings that a tree's look tells

tells_append : (headings : List Heading) (look more : Look) → TellsHeadings headings look → TellsHeadings headings more → TellsHeadings headings (look ++ more)
tells_append headings [] more one two = two
tells_append headings (mark ∷ look) more one two = (one.0, tells_append headings look more one.1 two)

first_none : (a b : List ℕ) → a ++ b ≡ [] → (a ≡ []) × (b ≡ [])
first_none [] b is = (refl, is)
first_none (x ∷ a) b is = absurd cc

tells_none : (headings : List Heading) (mark : Mark) → mark_blocks mark ≡ [] → TellsHeading headings mark
tells_none headings (BlockEnds number around parameters result end) none = absurd cc
tells_none headings other none = tt

inner_tells : (headings : List Heading) (look : Look) → blocks_of_look look ≡ [] → TellsHeadings headings look
inner_tells headings [] none = tt
inner_tells headings (mark ∷ look) none =
    let parts = first_none (mark_blocks mark) (blocks_of_look look) none in
    (tells_none headings mark parts.0, inner_tells headings look parts.1)

module _ (tree : Tree) where
  abbrev headings_there : List Heading
  headings_there = map heading_of tree.blocks.items

  block_tells : (number : ℕ) (found : Option Block) → slice_get tree.blocks.items number ≡ found
      → TellsHeadings headings_there (of_block look_block number found)
  block_tells number None is = tt
  block_tells number (Some block) is =
      tells_append headings_there (look_stmt block.body) (heading_look number block.heading block.end ∷ [])
      (inner_tells headings_there (look_stmt block.body) (inner_stmt block.body))
      ((block.heading, mapped_get heading_of tree.blocks.items number block is, refl, refl, refl), tt)

  -- each block's own
  pub tree_tells : TellsHeadings headings_there (tree_look tree)
  tree_tells = by tree.bodies.items
    where
      by : (bodies : List ℕ)
          → TellsHeadings headings_there (flat_map (λ number. of_block look_block number (slice_get tree.blocks.items number)) bodies)
      by [] = tt
      by (number ∷ bodies) =
          tells_append headings_there (of_block look_block number (slice_get tree.blocks.items number))
          (flat_map (λ n. of_block look_block n (slice_get tree.blocks.items n)) bodies)
          (block_tells number (slice_get tree.blocks.items number) refl) (by bodies)

-- ---- a tree that looks so

-- the bodies of a tree are the blocks that end in its look, one for each heading
module _ (program : Program) (a : After (Unit {0})) (tree : Tree) (lawful : Lawful program a) (looks : tree_look tree ≡ a.look)
    (left : IsLeft a.passed tree) (count : length tree.blocks.items ≡ length a.passed.headings) (bodies : tree.bodies.items ≡ blocks_of_look a.look) where
  pub as_many_sites : length tree.sites.items ≡ length a.passed.sites
  as_many_sites = sym (length-map tree.sites.items stands) ∙ ap length left.sites

  pub as_many_points : length tree.points.items ≡ length a.passed.points
  as_many_points = sym (length-map tree.points.items (λ (p : Point). p.place)) ∙ ap length left.points

  is_outline : IsOutlineOf a (outline_of tree)
  is_outline = record {
    variables = left.variables;
    types = left.types;
    sites = as_many_sites;
    points = as_many_points;
    count = length-map tree.blocks.items heading_of ∙ count;
    headings = subst (TellsHeadings (map heading_of tree.blocks.items)) looks (tree_tells tree);
  }

  pub has_bodies : IsPermutation (range_with_len 0 (length tree.blocks.items)) tree.bodies.items
  has_bodies =
      subst (IsPermutation (range_with_len 0 (length tree.blocks.items))) (sym bodies)
      (subst (λ n. IsPermutation (range_with_len 0 n) (blocks_of_look a.look)) (sym count) lawful.blocks)

  all_formed : are_formed (outline_of tree) (tree_look tree) ≡ true
  all_formed = ap (are_formed (outline_of tree)) looks ∙ lawful.formed (outline_of tree) is_outline

  block_formed : (number : ℕ) (block : Block) → slice_get tree.blocks.items number ≡ Some block
      → is_well_formed_block (outline_of tree) number block ≡ true
  block_formed number block is =
      both_true _ _ (lawful.headings (outline_of tree) is_outline number block.heading (mapped_get heading_of tree.blocks.items number block is))
      (both_true _ _ (lawful.few_cells (outline_of tree) is_outline number) (bodies_are_formed (outline_of tree) tree has_bodies all_formed number block is))

  -- the numbers of its entries and of its loops
  pub is_numbered : AreNumbered tree
  is_numbered =
      subst (λ entries. entries ≡ range_with_len 0 (length entries)) (entries_are tree)
      (subst (λ look. entries_of_look look ≡ range_with_len 0 (length (entries_of_look look))) (sym looks) lawful.numbered)

  pub loops_are_numbered : map (λ one. one.0) (loops_of tree) ≡ range_with_len 0 (length (loops_of tree))
  loops_are_numbered =
      let told = sym (loop_numbers_are tree) ∙ ap loops_of_look looks in
      told ∙ lawful.loops ∙ ap (λ numbers. range_with_len 0 (length numbers)) (sym told)
      ∙ ap (range_with_len 0) (length-map (loops_of tree) (λ one. one.0))

  -- each row of its table is that of a loop
  few_rows : HasLoops tree → length tree.loops.items ≤ most_numbered
  few_rows loops =
      let as_many : length tree.loops.items ≡ length (loops_of tree) =
      sym (length-map tree.loops.items loop_row) ∙ ap length loops ∙ as_many_rows tree in
      let told = sym (length-map (loops_of tree) (λ one. one.0)) ∙ ap length (sym (loop_numbers_are tree) ∙ ap loops_of_look looks) in
      subst (λ n. n ≤ most_numbered) (sym (as_many ∙ told)) lawful.few_loops

  pub has_types : BeginWithRequired tree.types
  has_types = subst BeginWithRequired (sym left.types) lawful.types

  -- it is well formed, if its table of loops is, and if operands are sets or numbers as they are taken
  pub is_well_formed : HasLoops tree → are_held tree.blocks.items ≡ true → IsWellFormed tree
  is_well_formed loops held = record {
    few_variables = subst (λ variables. length variables ≤ most_numbered) (sym left.variables) lawful.few_variables;
    few_blocks = subst (λ n. n ≤ most_numbered) (sym count) lawful.few_blocks;
    few_loops = few_rows loops;
    required = has_types;
    declared =
        subst (λ n. list_all (λ (v : Variable). nat_lt v.block n) tree.variables.items ≡ true) (sym count)
        (subst (λ variables. list_all (λ (v : Variable). nat_lt v.block (length a.passed.headings)) variables ≡ true) (sym left.variables)
        lawful.declared);
    a_block = subst (λ n. 0 < n) (sym count) lawful.a_block;
    blocks =
        are_well_formed (outline_of tree) 0 tree.blocks.items
        (λ number block is.
        let plain : number ≡ 0 + number = omega arith in
        subst (λ n. is_well_formed_block (outline_of tree) n block ≡ true) plain (block_formed number block is));
    loops = loops_have_rows tree tree.loops.items has_bodies loops loops_are_numbered;
    held = held;
    there = all_there tree has_bodies (ap (opened_behind []) looks ∙ lawful.opened);
    bodies = has_bodies;
    unthreatened =
        are_unthreatened tree has_bodies (subst AreUnthreatened (sym looks) lawful.unthreatened) (ap (spared_behind []) looks ∙ lawful.spared);
  }

  pub sites_by_place : ArePlacesInOrder (program_places program) → AreByPlace (map stands tree.sites.items)
  sites_by_place order = subst AreByPlace (sym left.sites) (lawful.by_place order)

-- ---- the typed tree of a program

pub typed_tree_is_well_formed : (program : Program) (tree : Tree) (typed : IsTyped program tree)
    → length tree.blocks.items ≡ length typed.left.headings → tree.bodies.items ≡ blocks_of_look (tree_look tree) → are_held tree.blocks.items ≡ true
    → IsWellFormed tree
typed_tree_is_well_formed program tree typed count bodies held =
    let a : After (Unit {0}) = after tt (tree_look tree) typed.left in
    is_well_formed program a tree (typing_is_lawful program a typed.typed) refl typed.is_left count bodies typed.has_loops held
