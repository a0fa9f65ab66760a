-- The routines of a program, by number and by place, and where their code stands.
use Rattle.std.proofs.Common.{◌≡◌, ℕ, ◌+◌, ◌-◌, ◌<◌, ◌≤◌, ◌⊎◌, inl, inr, List, [], ◌∷◌, ◌++◌, Some, None, length, length-append, map, refl, ap, sym, subst, ◌∙◌}
use Rattle.std.proofs.Common.{append_assoc, arith}
use Rattle.std.specs.Prelude.{slice_get, suc, zero}
use Rattle.std.proofs.lemmas.List.{length-map}
use Rattle.pcode_assembler.specs.declared.instr.Instr.{Instr}
use Rattle.typed_tree.specs.declared.tree.Block.{Block}
use Rattle.typed_tree.specs.declared.tree.Tree.{Tree}
use Rattle.code_scheme.specs.declared.frame.Frame.{Frame}
use Rattle.code_scheme.specs.declared.routine.Routine.{Routine}
use Rattle.code_scheme.specs.Calls.{with_call}
use Rattle.code_scheme.specs.Code.{block_code, blocks_code, numbered, numbered_code, numbered_from, program_code, routine_at, routines_from, routines_of}
use Rattle.code_scheme.specs.Frames.{AreCounted, frame_at, routines_by}
use Rattle.code_scheme.specs.Scopes.{block_level, block_scope, count, level_of, parameter_cells, routine_or_none}
use Rattle.code_scheme.proofs.Moved.{AreMoved, block_moved, blocks_moved}

-- routines that are known by their blocks and frames
abbrev its_routine : List Block → List Frame → ℕ → Routine
its_routine all frames n = record { level = level_of (slice_get all n) - 1; cells = count (frame_at frames n).parameters; place = n }

pub known_routine : (all blocks : List Block) (frames : List Frame) (n k m : ℕ) → n + k ≡ m → k < length blocks
    → slice_get (routines_by all frames n blocks) k ≡ Some (its_routine all frames m)
known_routine all [] frames n k m is inside = absurd (omega (arith, inside))
known_routine all (first ∷ blocks) frames n zero m is inside = ap (λ i. Some (its_routine all frames i)) (omega (arith, is))
known_routine all (first ∷ blocks) frames n (suc k) m is inside =
    known_routine all blocks frames (suc n) k m (omega (arith, is)) (omega (arith, inside))

pub no_routine_known : (all blocks : List Block) (frames : List Frame) (n k : ℕ) → length blocks ≤ k → slice_get (routines_by all frames n blocks) k ≡ None
no_routine_known all [] frames n k few = refl
no_routine_known all (first ∷ blocks) frames n zero few = absurd (omega (arith, few))
no_routine_known all (first ∷ blocks) frames n (suc k) few = no_routine_known all blocks frames (suc n) k (omega (arith, few))

pub known_are_numbered : (tree : Tree) (frames : List Frame) → AreCounted tree.types tree.variables.items frames → (n : ℕ) (blocks : List Block)
    → routines_by tree.blocks.items frames n blocks ≡ numbered_from tree n blocks
known_are_numbered tree frames counts n [] = refl
known_are_numbered tree frames counts n (block ∷ blocks) =
    let cells : count (frame_at frames n).parameters ≡ count (parameter_cells tree n) = ap (λ (f : Frame). count f.parameters) (counts n) ∙ omega arith in
    ap (λ c. record { level = block_level tree n - 1; cells = c; place = n } ∷ routines_by tree.blocks.items frames (suc n) blocks) cells
    ∙ ap (λ rs. routine_at tree n n ∷ rs) (known_are_numbered tree frames counts (suc n) blocks)

-- the routines of a program are the numbered ones at their places
abbrev pub place_of_block : Tree → ℕ → ℕ
place_of_block tree number = (routine_or_none (slice_get (routines_of tree) number)).place

its_place : (tree : Tree) (n : ℕ) (blocks : List Block) (place k : ℕ)
    → routine_or_none (slice_get (routines_from tree n blocks place) k) ≡ record (routine_or_none (slice_get (numbered_from tree n blocks) k)) {
      place = (routine_or_none (slice_get (routines_from tree n blocks place) k)).place;
    }
its_place tree n [] place k = refl
its_place tree n (block ∷ blocks) place zero = refl
its_place tree n (block ∷ blocks) place (suc k) = its_place tree (suc n) blocks (place + length (numbered_code tree n block place)) k

its_number : (tree : Tree) (n : ℕ) (blocks : List Block) (place k m : ℕ) → n + k ≡ m
    → ((routine_or_none (slice_get (numbered_from tree n blocks) k)).place ≡ m)
    ⊎ (((routine_or_none (slice_get (numbered_from tree n blocks) k)).place ≡ 0)
    × ((routine_or_none (slice_get (routines_from tree n blocks place) k)).place ≡ 0))
its_number tree n [] place k m is = inr (refl, refl)
its_number tree n (block ∷ blocks) place zero m is = inl (omega (arith, is))
its_number tree n (block ∷ blocks) place (suc k) m is =
    its_number tree (suc n) blocks (place + length (numbered_code tree n block place)) k m (omega (arith, is))

first_place : (tree : Tree) (blocks : List Block) → (routine_or_none (slice_get (routines_from tree 0 blocks 0) 0)).place ≡ 0
first_place tree [] = refl
first_place tree (block ∷ blocks) = refl

pub routines_are_moved : (tree : Tree) → AreMoved (place_of_block tree) (numbered tree) (routines_of tree)
routines_are_moved tree block =
    let here = routine_or_none (slice_get (numbered tree) block) in
    let same : place_of_block tree block ≡ place_of_block tree here.place =
    elim (its_number tree 0 tree.blocks.items 0 block block (omega arith)) [
      | inl is ↦ ap (place_of_block tree) (sym is)
      | inr none ↦ none.1 ∙ sym (first_place tree tree.blocks.items) ∙ ap (place_of_block tree) (sym none.0)
    ] in
    its_place tree 0 tree.blocks.items 0 block ∙ ap (λ p. record here { place = p }) same

-- the code of a program is that with numbers in its calls, with the places of the blocks in their stead
pub program_is_moved : (tree : Tree)
    → program_code tree ≡ map (with_call (place_of_block tree)) (blocks_code tree (numbered tree) 0 tree.blocks.items 0)
program_is_moved tree = blocks_moved (place_of_block tree) (numbered tree) (routines_of tree) (routines_are_moved tree) tree 0 tree.blocks.items 0

-- so it is as long, block by block
same_block : (tree : Tree) (n : ℕ) (block : Block) (place : ℕ)
    → length (numbered_code tree n block place) ≡ length (block_code tree n block (block_scope tree (routines_of tree) n) place)
same_block tree n block place =
    sym (ap length (block_moved (place_of_block tree) (numbered tree) (routines_of tree) (routines_are_moved tree) tree n block place)
    ∙ length-map (numbered_code tree n block place) (with_call (place_of_block tree)))

abbrev pub its_code : Tree → ℕ → Block → ℕ → List Instr
its_code tree n block place = block_code tree n block (block_scope tree (routines_of tree) n) place

-- where the code of a block stands among that of some blocks, of which the first has number n, and what the routines
-- tell of it
pub record Standing (tree : Tree) (n : ℕ) (blocks : List Block) (place k m : ℕ) (block : Block) : Type 0 where
  pub before : List Instr
  pub behind : List Instr
  pub splits : blocks_code tree (routines_of tree) n blocks place ≡ before ++
      (its_code tree m block (place + length before) ++ behind)
  pub known : slice_get (routines_from tree n blocks place) k ≡ Some (routine_at tree m (place + length before))

stands_first : (tree : Tree) (n : ℕ) (block : Block) (blocks : List Block) (place m : ℕ) → n ≡ m
    → Standing tree n (block ∷ blocks) place 0 m block
stands_first tree n block blocks place m is =
    let here = its_code tree n block place in
    let at : place ≡ place + 0 = omega arith in
    record {
      before = [];
      behind = blocks_code tree (routines_of tree) (suc n) blocks (place + length here);
      splits = ap (λ k. its_code tree k block place ++ blocks_code tree (routines_of tree) (suc n) blocks (place + length here)) is
          ∙ ap (λ p. its_code tree m block p ++ blocks_code tree (routines_of tree) (suc n) blocks (place + length here)) at;
      known = ap (λ k. Some (routine_at tree k place)) is ∙ ap (λ p. Some (routine_at tree m p)) at;
    }

stands_behind : (tree : Tree) (n : ℕ) (first : Block) (blocks : List Block) (place k m : ℕ) (block : Block)
    → Standing tree (suc n) blocks (place + length (its_code tree n first place)) k m block
    → Standing tree n (first ∷ blocks) place (suc k) m block
stands_behind tree n first blocks place k m block rest =
    let code = its_code tree n first place in
    let at : place + length code + length rest.before ≡ place + length (code ++ rest.before) = omega (arith, length-append code rest.before) in
    record {
      before = code ++ rest.before;
      behind = rest.behind;
      splits = ap (λ c. code ++ c) rest.splits
          ∙ ap (λ p. code ++ (rest.before ++ (its_code tree m block p ++ rest.behind))) at
          ∙ sym (append_assoc code rest.before (its_code tree m block (place + length (code ++ rest.before)) ++ rest.behind));
      known = ap (λ l. slice_get (routines_from tree (suc n) blocks (place + l)) k) (same_block tree n first place)
          ∙ rest.known
          ∙ ap (λ p. Some (routine_at tree m p)) at;
    }

pub stands : (tree : Tree) (n : ℕ) (blocks : List Block) (place k m : ℕ) (block : Block) → n + k ≡ m
    → slice_get blocks k ≡ Some block → Standing tree n blocks place k m block
stands tree n [] place k m block is got = absurd (cc)
stands tree n (first ∷ blocks) place zero m block is got =
    let same : first ≡ block = cc in
    let number : n ≡ m = omega (arith, is) in
    subst (λ b. Standing tree n (first ∷ blocks) place 0 m b) same (stands_first tree n first blocks place m number)
stands tree n (first ∷ blocks) place (suc k) m block is got =
    let code = its_code tree n first place in
    stands_behind tree n first blocks place k m block
    (stands tree (suc n) blocks (place + length code) k m block (omega (arith, is)) got)

-- where a call leads: the code of a block stands in that of the program at the place that the routines tell
pub block_stands : (tree : Tree) (number : ℕ) (block : Block) → slice_get tree.blocks.items number ≡ Some block
    → Standing tree 0 tree.blocks.items 0 number number block
block_stands tree number block = stands tree 0 tree.blocks.items 0 number number block (omega arith)
