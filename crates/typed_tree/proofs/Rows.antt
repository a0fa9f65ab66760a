-- The table of loops: where its rows are those of the loops in the order of the text, and the loops are numbered so, each
-- loop of each block has its row.
use Rattle.std.proofs.Common.{◌≡◌, ℕ, ◌+◌, ◌<◌, zero, suc, List, [], ◌∷◌, ◌++◌, length, map, slice_get, Option, Some, None}
use Rattle.std.proofs.Common.{arith, refl, sym, ap, ap₂, subst, ◌∙◌, append_assoc, length-append, get_or}
use Rattle.std.specs.Prelude.{IsPermutation, flat_map}
use Rattle.std.specs.List.{range_with_len}
use Rattle.std.proofs.lemmas.List.{length-map, map-append}
use Rattle.std.proofs.lemmas.Option.{slice_get_within}
use Rattle.typed_tree.specs.declared.tree.Tree.{Tree}
use Rattle.typed_tree.specs.declared.tree.Block.{Block}
use Rattle.typed_tree.specs.declared.tree.Loop.{Loop}
use Rattle.typed_tree.specs.Entries.{of_block}
use Rattle.typed_tree.specs.Loops.{IsLoop, AreLoops, AreLoopsOf, LoopControls, controls_told, loops_of, loops_of_block, loop_row, loop_rows, loop_rows_of_block}
use Rattle.typed_tree.proofs.Blocks.{among_bodies, are_loops_of}

-- a loop with its block
abbrev Placed : Type 0
Placed = ℕ × (ℕ × LoopControls)

-- each of these has its row
abbrev HaveRows : List Loop → List Placed → Type 0
HaveRows rows [] = Unit {0}
HaveRows rows (one ∷ others) = IsLoop rows one.0 one.1 × HaveRows rows others

-- the row of the next number
next_row : (done : List Loop) (row : Loop) (rows : List Loop) → slice_get (done ++ row ∷ rows) (length done) ≡ Some row
next_row [] row rows = refl
next_row (other ∷ done) row rows = next_row done row rows

-- the rows behind some others
have_rows : (done rows : List Loop) (ones : List Placed) → map loop_row rows ≡ map (λ one. (one.0, one.1.1)) ones
    → map (λ one. one.1.0) ones ≡ range_with_len (length done) (length ones) → HaveRows (done ++ rows) ones
have_rows done rows [] same numbers = tt
have_rows done [] (one ∷ ones) same numbers = absurd cc
have_rows done (row ∷ rows) (one ∷ ones) same numbers =
    let number : one.1.0 ≡ length done = cc in
    let told : loop_row row ≡ (one.0, one.1.1) = cc in
    let here : row.block ≡ one.0 = ap (λ (r : ℕ × LoopControls). r.0) told in
    let controls : controls_told row ≡ one.1.1 = ap (λ (r : ℕ × LoopControls). r.1) told in
    let others : map loop_row rows ≡ map (λ (o : Placed). (o.0, o.1.1)) ones = cc in
    let more : map (λ (o : Placed). o.1.0) ones ≡ range_with_len (length done + 1) (length ones) = cc in
    let counted : length done + 1 ≡ length (done ++ row ∷ []) = sym (length-append done (row ∷ [])) in
    let rest = have_rows (done ++ row ∷ []) rows ones others (more ∙ ap (λ n. range_with_len n (length ones)) counted) in (
      (row, ap (slice_get (done ++ row ∷ rows)) number ∙ next_row done row rows, here, controls),
      subst (λ l. HaveRows l ones) (append_assoc done (row ∷ []) rows) rest,
    )

rows_split : (rows : List Loop) (first second : List Placed) → HaveRows rows (first ++ second) → HaveRows rows first × HaveRows rows second
rows_split rows [] second all = (tt, all)
rows_split rows (one ∷ first) second all = let rest = rows_split rows first second all.1 in ((all.0, rest.0), rest.1)

-- those of one block
rows_of_one : (rows : List Loop) (number : ℕ) (loops : List (ℕ × LoopControls)) → HaveRows rows (map (λ one. (number, one)) loops) → AreLoops rows number loops
rows_of_one rows number [] all = tt
rows_of_one rows number (one ∷ loops) all = (all.0, rows_of_one rows number loops all.1)

-- those of one of the parts
rows_of_part : (rows : List Loop) (part : ℕ → List Placed) (bodies : List ℕ) (k d : ℕ) → k < length bodies → HaveRows rows (flat_map part bodies)
    → HaveRows rows (part (get_or bodies k d))
rows_of_part rows part [] k d there all = absurd (omega arith)
rows_of_part rows part (number ∷ bodies) zero d there all = (rows_split rows (part number) (flat_map part bodies) all).0
rows_of_part rows part (number ∷ bodies) (suc k) d there all =
    rows_of_part rows part bodies k d (omega arith) (rows_split rows (part number) (flat_map part bodies) all).1

module _ (tree : Tree) where
  abbrev block_at : ℕ → Option Block
  block_at number = slice_get tree.blocks.items number

  -- the loops of a block with its number
  abbrev placed_loops : ℕ → Block → List Placed
  placed_loops number block = map (λ one. (number, one)) (loops_of_block block)

  abbrev part_at : ℕ → List Placed
  part_at number = of_block placed_loops number (block_at number)

  mapped_twice : {A B C : Type 0} (f : A → B) (g : B → C) (xs : List A) → map g (map f xs) ≡ map (λ x. g (f x)) xs
  mapped_twice f g [] = refl
  mapped_twice f g (x ∷ xs) = ap (λ l. g (f x) ∷ l) (mapped_twice f g xs)

  rows_at : (number : ℕ) (block : Option Block)
      → of_block loop_rows_of_block number block ≡ map (λ (one : Placed). (one.0, one.1.1)) (of_block placed_loops number block)
  rows_at number None = refl
  rows_at number (Some block) = sym (mapped_twice (λ (one : ℕ × LoopControls). (number, one)) (λ (one : Placed). (one.0, one.1.1)) (loops_of_block block))

  numbers_at : (number : ℕ) (block : Option Block)
      → map (λ one. one.0) (of_block (λ n. loops_of_block) number block) ≡ map (λ (one : Placed). one.1.0) (of_block placed_loops number block)
  numbers_at number None = refl
  numbers_at number (Some block) = sym (mapped_twice (λ (one : ℕ × LoopControls). (number, one)) (λ (one : Placed). one.1.0) (loops_of_block block))

  all_rows : (bodies : List ℕ)
      → flat_map (λ n. of_block loop_rows_of_block n (block_at n)) bodies ≡ map (λ (one : Placed). (one.0, one.1.1)) (flat_map part_at bodies)
  all_rows [] = refl
  all_rows (number ∷ bodies) =
      ap₂ (λ a b. a ++ b) (rows_at number (block_at number)) (all_rows bodies)
      ∙ sym (map-append (λ (one : Placed). (one.0, one.1.1)) (part_at number) (flat_map part_at bodies))

  all_numbers : (bodies : List ℕ)
      → map (λ one. one.0) (flat_map (λ n. of_block (λ n. loops_of_block) n (block_at n)) bodies)
      ≡ map (λ (one : Placed). one.1.0) (flat_map part_at bodies)
  all_numbers [] = refl
  all_numbers (number ∷ bodies) =
      map-append (λ one. one.0) (of_block (λ n. loops_of_block) number (block_at number)) (flat_map (λ n. of_block (λ n. loops_of_block) n (block_at n)) bodies)
      ∙ ap₂ (λ a b. a ++ b) (numbers_at number (block_at number)) (all_numbers bodies)
      ∙ sym (map-append (λ (one : Placed). one.1.0) (part_at number) (flat_map part_at bodies))

  as_many_loops : length (loops_of tree) ≡ length (flat_map part_at tree.bodies.items)
  as_many_loops =
      sym (length-map (loops_of tree) (λ one. one.0)) ∙ ap length (all_numbers tree.bodies.items)
      ∙ length-map (flat_map part_at tree.bodies.items) (λ one. one.1.0)

  -- the rows are as many as the loops
  pub as_many_rows : length (loop_rows tree) ≡ length (loops_of tree)
  as_many_rows =
      let all = flat_map part_at tree.bodies.items in
      ap length (all_rows tree.bodies.items) ∙ length-map all (λ (one : Placed). (one.0, one.1.1)) ∙ sym as_many_loops

  -- each loop of each block has its row
  pub loops_have_rows : (rows : List Loop) → IsPermutation (range_with_len 0 (length tree.blocks.items)) tree.bodies.items
      → map loop_row rows ≡ loop_rows tree → map (λ one. one.0) (loops_of tree) ≡ range_with_len 0 (length (loops_of tree))
      → AreLoopsOf rows 0 tree.blocks.items
  loops_have_rows rows bodies same numbers =
      let all = flat_map part_at tree.bodies.items in
      let have = have_rows [] rows all (same ∙ all_rows tree.bodies.items)
      (sym (all_numbers tree.bodies.items) ∙ numbers ∙ ap (range_with_len 0) as_many_loops) in
      are_loops_of rows 0 tree.blocks.items
      (λ number block is.
      let at = among_bodies tree bodies number (slice_get_within tree.blocks.items number block is) in
      let plain : 0 + number ≡ number = omega arith in
      let part = subst (λ n. HaveRows rows (part_at n)) at.2 (rows_of_part rows part_at tree.bodies.items at.0 number at.1 have) in
      subst (λ n. AreLoops rows n (loops_of_block block)) (sym plain)
      (rows_of_one rows number (loops_of_block block) (subst (λ b. HaveRows rows (of_block placed_loops number b)) is part)))
