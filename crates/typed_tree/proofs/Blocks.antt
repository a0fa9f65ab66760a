-- The blocks of a tree: what its look tells of their statements, which stand in the order of the text, and what holds of
-- each block by its number.
use Rattle.std.proofs.Common.{◌≡◌, ℕ, ◌+◌, ◌<◌, zero, suc, Bool, true, false, ◌&&◌, List, [], ◌∷◌, ◌++◌, length, slice_get, Option, Some, None}
use Rattle.std.proofs.Common.{arith, refl, sym, ap, ap₂, subst, ◌∙◌, append_assoc}
use Rattle.std.proofs.lemmas.Bool.{and_parts}
use Rattle.std.specs.Prelude.{IsPermutation, flat_map}
use Rattle.std.specs.List.{Contains, list_all, range_with_len}
use Rattle.std.proofs.lemmas.List.Concat.{flat_map-append}
use Rattle.std.proofs.lemmas.List.FromFn.{get_or-range_with_len, length-range_with_len}
use Rattle.std.proofs.lemmas.List.Sorted.{Contains-permutation}
use Rattle.std.proofs.lemmas.List.Sums.{AllPass-from_list_all}
use Rattle.std.proofs.lemmas.Option.{slice_get_within}
use Rattle.typed_tree.specs.declared.tree.Tree.{Tree}
use Rattle.typed_tree.specs.declared.tree.Block.{Block}
use Rattle.place.specs.declared.Place.{Place}
use Rattle.typed_tree.specs.declared.tree.FunctionResult.{FunctionResult}
use Rattle.typed_tree.specs.declared.tree.Loop.{Loop}
use Rattle.typed_tree.specs.Entries.{of_block}
use Rattle.typed_tree.specs.Loops.{AreLoops, AreLoopsOf, loops_of_block}
use Rattle.typed_tree.specs.WellFormed.{Outline, is_well_formed_stmt, is_well_formed_block, are_well_formed_blocks}
use Rattle.typed_tree.specs.Look.{Look, look_stmt, look_block, tree_look, heading_look, is_formed_mark, mark_blocks, blocks_of_look, next_of, are_formed}
use Rattle.typed_tree.specs.Look.{BlockEnds}
use Rattle.typed_tree.proofs.Quiet.{inner_stmt}
use Rattle.typed_tree.proofs.Measured.{formed_stmt}

-- ---- forms, block by block

-- of two rows together that hold nothing
second_nil : (a b : List ℕ) → a ++ b ≡ [] → b ≡ []
second_nil [] b is = is
second_nil (x ∷ a) b is = absurd cc

and_grouped : (a b c : Bool) → (a && (b && c)) ≡ ((a && b) && c)
and_grouped true b c = refl
and_grouped false b c = refl

-- forms in which no block ends stand in the block that ends next behind them
pub formed_before : (outline : Outline) (number : ℕ) (look rest : Look) → blocks_of_look look ≡ [] → next_of (blocks_of_look rest) ≡ number
    → are_formed outline (look ++ rest) ≡ (list_all (is_formed_mark outline number) look && are_formed outline rest)
formed_before outline number [] rest inner next = refl
formed_before outline number (mark ∷ look) rest inner next =
    let behind : blocks_of_look ((mark ∷ look) ++ rest) ≡ blocks_of_look rest =
    flat_map-append mark_blocks (mark ∷ look) rest ∙ ap (λ numbers. numbers ++ blocks_of_look rest) inner in
    ap₂ (λ a b. a && b) (ap (λ numbers. is_formed_mark outline (next_of numbers) mark) behind ∙ ap (λ n. is_formed_mark outline n mark) next)
    (formed_before outline number look rest (second_nil (mark_blocks mark) (blocks_of_look look) inner) next)
    ∙ and_grouped (is_formed_mark outline number mark) (list_all (is_formed_mark outline number) look) (are_formed outline rest)

-- the first of some numbers stands first whatever comes behind them
next_kept : (numbers more : List ℕ) (number : ℕ) → next_of ((numbers ++ number ∷ []) ++ more) ≡ next_of (numbers ++ number ∷ [])
next_kept [] more number = refl
next_kept (other ∷ numbers) more number = refl

-- forms as far as where a block ends, and then others
pub formed_as_far : (outline : Outline) (look rest : Look) (number : ℕ) (around parameters : List ℕ) (result : Option FunctionResult) (end : Place)
    → are_formed outline ((look ++ (BlockEnds number around parameters result end ∷ [])) ++ rest)
    ≡ (are_formed outline (look ++ (BlockEnds number around parameters result end ∷ [])) && are_formed outline rest)
formed_as_far outline [] rest number around parameters result end = refl
formed_as_far outline (mark ∷ look) rest number around parameters result end =
    let last : Look = BlockEnds number around parameters result end ∷ [] in
    let inside : blocks_of_look ((mark ∷ look) ++ last) ≡ blocks_of_look (mark ∷ look) ++ number ∷ [] = flat_map-append mark_blocks (mark ∷ look) last in
    let with_rest : blocks_of_look (((mark ∷ look) ++ last) ++ rest) ≡ (blocks_of_look (mark ∷ look) ++ number ∷ []) ++ blocks_of_look rest =
    flat_map-append mark_blocks ((mark ∷ look) ++ last) rest ∙ ap (λ numbers. numbers ++ blocks_of_look rest) inside in
    let next : next_of (blocks_of_look (((mark ∷ look) ++ last) ++ rest)) ≡ next_of (blocks_of_look ((mark ∷ look) ++ last)) =
    ap next_of with_rest ∙ next_kept (blocks_of_look (mark ∷ look)) (blocks_of_look rest) number ∙ ap next_of (sym inside) in
    ap₂ (λ n b. is_formed_mark outline n mark && b) next (formed_as_far outline look rest number around parameters result end)
    ∙ and_grouped (is_formed_mark outline (next_of (blocks_of_look ((mark ∷ look) ++ last))) mark) (are_formed outline (look ++ last)) (are_formed outline rest)

-- a block, and then others
formed_block : (outline : Outline) (number : ℕ) (block : Block) (rest : Look)
    → are_formed outline (look_block number block ++ rest) ≡ (is_well_formed_stmt outline number block.body && are_formed outline rest)
formed_block outline number block rest =
    let end = heading_look number block.heading block.end in
    ap (are_formed outline) (append_assoc (look_stmt block.body) (end ∷ []) rest)
    ∙ formed_before outline number (look_stmt block.body) (end ∷ rest) (inner_stmt block.body) refl
    ∙ ap (λ b. b && are_formed outline rest) (formed_stmt outline number block.body)

-- the statement of a block is well formed, if the block is there
abbrev pub is_formed_block : Outline → ℕ → Option Block → Bool
is_formed_block outline number None = true
is_formed_block outline number (Some block) = is_well_formed_stmt outline number block.body

formed_one : (outline : Outline) (number : ℕ) (block : Option Block) (rest : Look)
    → are_formed outline (of_block look_block number block ++ rest) ≡ (is_formed_block outline number block && are_formed outline rest)
formed_one outline number None rest = refl
formed_one outline number (Some block) rest = formed_block outline number block rest

-- a block is one of those whose statements the text has
pub among_bodies : (tree : Tree) → IsPermutation (range_with_len 0 (length tree.blocks.items)) tree.bodies.items
    → (number : ℕ) → number < length tree.blocks.items → Contains tree.bodies.items number
among_bodies tree bodies number there =
    let count = length tree.blocks.items in
    let plain : 0 + number ≡ number = omega arith in
    Contains-permutation (range_with_len 0 count) tree.bodies.items number bodies
    (number, omega (arith, there, length-range_with_len 0 count), get_or-range_with_len 0 count number number there ∙ plain)

module _ (outline : Outline) (tree : Tree) where
  abbrev block_at : ℕ → Option Block
  block_at number = slice_get tree.blocks.items number

  -- the look of a tree tells whether the statements of its blocks are well formed
  pub formed_are : are_formed outline (tree_look tree) ≡ list_all (λ number. is_formed_block outline number (block_at number)) tree.bodies.items
  formed_are = by tree.bodies.items
    where
      by : (bodies : List ℕ)
          → are_formed outline (flat_map (λ number. of_block look_block number (block_at number)) bodies)
          ≡ list_all (λ number. is_formed_block outline number (block_at number)) bodies
      by [] = refl
      by (number ∷ bodies) =
          formed_one outline number (block_at number) (flat_map (λ n. of_block look_block n (block_at n)) bodies)
          ∙ ap (λ b. is_formed_block outline number (block_at number) && b) (by bodies)

  -- where each form of a tree's look is well formed, so is each block's statement
  pub bodies_are_formed : IsPermutation (range_with_len 0 (length tree.blocks.items)) tree.bodies.items → are_formed outline (tree_look tree) ≡ true
      → (number : ℕ) (block : Block) → block_at number ≡ Some block → is_well_formed_stmt outline number block.body ≡ true
  bodies_are_formed bodies formed number block is =
      let test : ℕ → Bool = λ n. is_formed_block outline n (block_at n) in
      let at = among_bodies tree bodies number (slice_get_within tree.blocks.items number block is) in
      let passes = AllPass-from_list_all test tree.bodies.items (sym formed_are ∙ formed) at.0 number at.1 in
      subst (λ one. is_formed_block outline number one ≡ true) is (subst (λ n. test n ≡ true) at.2 passes)

-- ---- blocks by their numbers

-- blocks are well formed from one on where each of them is
pub are_well_formed : (outline : Outline) (start : ℕ) (blocks : List Block)
    → ((number : ℕ) (block : Block) → slice_get blocks number ≡ Some block → is_well_formed_block outline (start + number) block ≡ true)
    → are_well_formed_blocks outline start blocks ≡ true
are_well_formed outline start [] each = refl
are_well_formed outline start (block ∷ blocks) each =
    let here : start + 0 ≡ start = omega arith in
    ap₂ (λ a b. a && b) (subst (λ n. is_well_formed_block outline n block ≡ true) here (each 0 block refl))
    (are_well_formed outline (suc start) blocks
    (λ number other is.
    let next : start + suc number ≡ suc start + number = omega arith in
    subst (λ n. is_well_formed_block outline n other ≡ true) next (each (suc number) other is)))

-- each of them is where they all are
pub is_well_formed_at : (outline : Outline) (start : ℕ) (blocks : List Block) → are_well_formed_blocks outline start blocks ≡ true
    → (number : ℕ) (block : Block) → slice_get blocks number ≡ Some block → is_well_formed_block outline (start + number) block ≡ true
is_well_formed_at outline start [] all number block is = absurd cc
is_well_formed_at outline start (one ∷ blocks) all zero block is =
    let here : start ≡ start + 0 = omega arith in
    let same : one ≡ block = cc in
    subst (λ n. is_well_formed_block outline n block ≡ true) here
    (subst (λ b. is_well_formed_block outline start b ≡ true) same (and_parts (is_well_formed_block outline start one) _ all).0)
is_well_formed_at outline start (one ∷ blocks) all (suc number) block is =
    let next : suc start + number ≡ start + suc number = omega arith in
    subst (λ n. is_well_formed_block outline n block ≡ true) next
    (is_well_formed_at outline (suc start) blocks (and_parts (is_well_formed_block outline start one) _ all).1 number block is)

-- the same of their loops
pub are_loops_of : (rows : List Loop) (start : ℕ) (blocks : List Block)
    → ((number : ℕ) (block : Block) → slice_get blocks number ≡ Some block → AreLoops rows (start + number) (loops_of_block block))
    → AreLoopsOf rows start blocks
are_loops_of rows start [] each = tt
are_loops_of rows start (block ∷ blocks) each =
    let here : start + 0 ≡ start = omega arith in (
      subst (λ n. AreLoops rows n (loops_of_block block)) here (each 0 block refl),
      are_loops_of rows (suc start) blocks
          (λ number other is.
          let next : start + suc number ≡ suc start + number = omega arith in
          subst (λ n. AreLoops rows n (loops_of_block other)) next (each (suc number) other is)),
    )

pub are_loops_at : (rows : List Loop) (start : ℕ) (blocks : List Block) → AreLoopsOf rows start blocks
    → (number : ℕ) (block : Block) → slice_get blocks number ≡ Some block → AreLoops rows (start + number) (loops_of_block block)
are_loops_at rows start [] all number block is = absurd cc
are_loops_at rows start (one ∷ blocks) all zero block is =
    let here : start ≡ start + 0 = omega arith in
    let same : one ≡ block = cc in
    subst (λ n. AreLoops rows n (loops_of_block block)) here (subst (λ b. AreLoops rows start (loops_of_block b)) same all.0)
are_loops_at rows start (one ∷ blocks) all (suc number) block is =
    let next : suc start + number ≡ start + suc number = omega arith in
    subst (λ n. AreLoops rows n (loops_of_block block)) next (are_loops_at rows (suc start) blocks all.1 number block is)
