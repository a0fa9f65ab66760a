-- Blocks whose code is emitted one after another, and what the code of a program is then.
use Rattle.std.proofs.Common.{◌≡◌, ℕ, ◌+◌, ◌≤◌, Bool, true, false, ◌||◌, List, [], ◌∷◌, ◌++◌, length, map, Ok, Err, refl, ap, sym, subst, ◌∙◌}
use Rattle.std.proofs.Common.{append-nil, append_assoc, arith, nat_lt}
use Rattle.std.specs.Prelude.{slice_get, suc, zero}
use Rattle.std.proofs.lemmas.Bool.{le-ltb}
use Rattle.std.proofs.lemmas.List.{length-map}
use Rattle.pcode_assembler.specs.declared.instr.Instr.{Instr}
use Rattle.pcode_assembler.specs.declared.instr.Instr.TheVariants as instr
use Rattle.typed_tree.specs.declared.tree.Block.{Block}
use Rattle.typed_tree.specs.declared.tree.Tree.{Tree}
use Rattle.code_scheme.specs.declared.routine.Routine.{Routine}
use Rattle.code_scheme.specs.Calls.{place_in, with_call}
use Rattle.code_scheme.specs.Code.{block_code, blocks_code, end_code, numbered, numbered_code, program_code, routines_from, routines_of, stmt_code}
use Rattle.code_scheme.specs.Depth.{block_depth}
use Rattle.code_scheme.specs.Large.{is_too_large, one_passes_too_much, passes_too_much}
use Rattle.code_scheme.specs.Scopes.{Scope, count, other_cells, routine_or_none}
use Rattle.code_scheme.proofs.Routines.{place_of_block, program_is_moved}
use Rattle.code_emitter.specs.declared.emitter.Loss.TheVariants.{TooLarge}
use Rattle.code_emitter.specs.Emitted.{Gets, Grows, HasMore, IsKept, Seen, place_of, with_instr}
use Rattle.code_emitter.proofs.Emitted.{gets_filled, gets_none, gets_placed, gets_same, gets_then, grows_then, kept_before, place_behind}

-- a block: its frame, its statement and its end
pub block_gets : {a b c d e : Seen} (tree : Tree) (number : ℕ) (block : Block) (scope : Scope) (variables evaluation : ℕ) → Gets a b (instr.Jump 0 ∷ [])
    → Gets b c (stmt_code block.body scope (place_of b)) → Gets c d (end_code scope number block.heading.result)
    → e ≡ with_instr (place_of a) (instr.Enter variables evaluation) d → variables ≡ count (other_cells tree number)
    → evaluation ≡ count (block_depth block) → Gets a e (block_code tree number block scope (place_of a))
block_gets tree number block scope variables evaluation hole body end is others deep =
    gets_filled hole (gets_then (gets_same body (λ kept. ap (stmt_code block.body scope) (place_behind hole kept))) end) is (λ kept.
    ap (λ n. instr.Enter n evaluation) others ∙ ap (instr.Enter (count (other_cells tree number))) deep)

-- it may be too large
pub large_block : {a b c : Seen} {p : List Instr} (large : Bool) → true ≡ large → Gets a b p → Grows true b c [] → Grows large a c p
large_block {a = a} {c = c} {p = p} large is g h =
    subst (λ l. Grows l a c p) is (subst (Grows true a c) (append-nil p) (grows_then g h))

pub small_block : {a b : Seen} {p : List Instr} (large : Bool) → false ≡ large → Gets a b p → Grows large a b p
small_block {a = a} {b = b} {p = p} large is g = subst (λ l. Grows l a b p) is g

-- what is still to come until all blocks have their code, and the places of those that have it
pub record BlocksLeft (tree : Tree) (now : Seen) (places : List ℕ) (n : ℕ) (blocks : List Block) : Type 0 where
  pub ends : (end : Seen) → Grows (one_passes_too_much tree n blocks) now end (blocks_code tree (numbered tree) n blocks (place_of now))
      → Grows (one_passes_too_much tree 0 tree.blocks.items) (Ok []) end (blocks_code tree (numbered tree) 0 tree.blocks.items 0)
  pub stand : IsKept now → places ++ map (λ (r : Routine). r.place) (routines_from tree n blocks (place_of now)) ≡ map (λ (r : Routine). r.place)
      (routines_of tree)

pub blocks_first : (tree : Tree) (blocks : List Block) → blocks ≡ tree.blocks.items → BlocksLeft tree (Ok []) [] 0 blocks
blocks_first tree blocks is = subst (BlocksLeft tree (Ok []) [] 0) (sym is) (record { ends = λ end g. g; stand = λ kept. refl })

pub blocks_more : (tree : Tree) (now after : Seen) (places places' : List ℕ) (n : ℕ) (block : Block) (left blocks : List Block) (place : ℕ)
    → BlocksLeft tree now places n left → left ≡ block ∷ blocks → place ≡ place_of now → places' ≡ places ++ (place ∷ [])
    → Grows (passes_too_much tree n) now after (numbered_code tree n block (place_of now)) → BlocksLeft tree after places' (n + 1) blocks
blocks_more tree now after places places' n block left blocks place w next at grown g =
    let here = subst (BlocksLeft tree now places n) next w in
    let suc_is : suc n ≡ n + 1 = omega arith in
    let standing = λ (p : ℕ). map (λ (r : Routine). r.place) (routines_from tree (suc n) blocks p) in
    subst (λ m. BlocksLeft tree after places' m blocks) suc_is (record {
      ends = λ end h. here.ends end (gets_placed (blocks_code tree (numbered tree) (suc n) blocks) g h);
      stand = λ kept. ap (λ ps. ps ++ standing (place_of after)) (grown ∙ ap (λ p. places ++ (p ∷ [])) at)
          ∙ append_assoc places (place_of now ∷ []) (standing (place_of after))
          ∙ ap (λ p. places ++ (place_of now ∷ standing p)) (place_behind g kept)
          ∙ here.stand (kept_before g kept);
    })

-- all of them
pub blocks_all : (tree : Tree) (now : Seen) (places : List ℕ) (n : ℕ) (left : List Block) → BlocksLeft tree now places n left → left ≡ []
    → Grows (one_passes_too_much tree 0 tree.blocks.items) (Ok []) now (blocks_code tree (numbered tree) 0 tree.blocks.items 0)
blocks_all tree now places n left w none = (subst (BlocksLeft tree now places n) none w).ends now (gets_none now)

pub places_all : (tree : Tree) (now : Seen) (places : List ℕ) (n : ℕ) (left : List Block) → BlocksLeft tree now places n left → left ≡ [] → IsKept now
    → places ≡ map (λ (r : Routine). r.place) (routines_of tree)
places_all tree now places n left w none kept = sym (append-nil places) ∙ (subst (BlocksLeft tree now places n) none w).stand kept

-- as long as the code of the program, which has other places in its calls
numbered_long : (tree : Tree) → length (blocks_code tree (numbered tree) 0 tree.blocks.items 0) ≡ length (program_code tree)
numbered_long tree =
    sym (ap length (program_is_moved tree)
    ∙ length-map (blocks_code tree (numbered tree) 0 tree.blocks.items 0) (with_call (place_of_block tree)))

pub is_large_program : (tree : Tree) (now : Seen) → now ≡ Err TooLarge
    → Grows (one_passes_too_much tree 0 tree.blocks.items) (Ok []) now (blocks_code tree (numbered tree) 0 tree.blocks.items 0) → is_too_large tree ≡ true
is_large_program tree now is g =
    let large =
    subst (λ s. HasMore (one_passes_too_much tree 0 tree.blocks.items) (Ok []) s (blocks_code tree (numbered tree) 0 tree.blocks.items 0)) is g.more in
    sym (ap (λ n. nat_lt 1000000 n || one_passes_too_much tree 0 tree.blocks.items) (numbered_long tree)) ∙ large

-- calls that lead to the same places
same_call : (f g : ℕ → ℕ) → ((n : ℕ) → f n ≡ g n) → (i : Instr) → with_call f i ≡ with_call g i
same_call f g same (instr.CallProcedure length target) = ap (instr.CallProcedure length) (same target)
same_call f g same other = refl

same_calls : (f g : ℕ → ℕ) → ((n : ℕ) → f n ≡ g n) → (code : List Instr) → map (with_call f) code ≡ map (with_call g) code
same_calls f g same [] = refl
same_calls f g same (i ∷ code) =
    ap (λ j. j ∷ map (with_call f) code) (same_call f g same i) ∙ ap (λ c. with_call g i ∷ c) (same_calls f g same code)

module _ (tree : Tree) (now : Seen) (code : List Instr) (is : now ≡ Ok code)
    (g : Grows (one_passes_too_much tree 0 tree.blocks.items) (Ok []) now (blocks_code tree (numbered tree) 0 tree.blocks.items 0)) where
  has_code : HasMore (one_passes_too_much tree 0 tree.blocks.items) (Ok []) (Ok code) (blocks_code tree (numbered tree) 0 tree.blocks.items 0)
  has_code = subst (λ s. HasMore (one_passes_too_much tree 0 tree.blocks.items) (Ok []) s (blocks_code tree (numbered tree) 0 tree.blocks.items 0)) is g.more

  pub is_small_program : length code ≤ 1000000 → is_too_large tree ≡ false
  is_small_program few =
      ap (λ l. nat_lt 1000000 (length (program_code tree)) || l) has_code.1
      ∙ ap (λ n. nat_lt 1000000 n || false) (sym (numbered_long tree) ∙ ap length (sym has_code.0))
      ∙ ap (λ b. b || false) (le-ltb 1000000 (length code) few)

  place_at : (rs : List Routine) (n : ℕ) → place_in (map (λ (r : Routine). r.place) rs) n ≡ (routine_or_none (slice_get rs n)).place
  place_at [] n = refl
  place_at (r ∷ rs) zero = refl
  place_at (r ∷ rs) (suc n) = place_at rs n

  pub is_program : (places : List ℕ) (placed : List Instr) → places ≡ map (λ (r : Routine). r.place) (routines_of tree)
      → placed ≡ map (with_call (place_in places)) code → placed ≡ program_code tree
  is_program places placed stand leads =
      leads
      ∙ ap (λ ps. map (with_call (place_in ps)) code) stand
      ∙ same_calls (place_in (map (λ (r : Routine). r.place) (routines_of tree))) (place_of_block tree) (place_at (routines_of tree)) code
      ∙ ap (map (with_call (place_of_block tree))) has_code.0
      ∙ sym (program_is_moved tree)
