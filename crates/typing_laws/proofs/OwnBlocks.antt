-- What is told of a whole program, where each block leaves what it began with, is told of each block.
use Rattle.std.proofs.Common.{◌≡◌, ℕ, zero, suc, Bool, ◌||◌, true, false, nat_eq, List, [], ◌∷◌, ◌++◌, length, Option, Some, None, slice_get, refl, sym, ap}
use Rattle.std.proofs.Common.{subst}
use Rattle.std.proofs.Common.{◌∙◌, arith, ⊎_elim}
use Rattle.std.specs.Prelude.{IsPermutation, flat_map}
use Rattle.std.specs.List.{Contains, list_any, range_with_len}
use Rattle.std.proofs.lemmas.Bool.{cases_Bool, eqb-true, eq-eqb, or_left, or_right}
use Rattle.std.proofs.lemmas.Option.{slice_get_within}
use Rattle.typed_tree.specs.declared.tree.Block.{Block}
use Rattle.typed_tree.specs.declared.tree.Tree.{Tree}
use Rattle.typed_tree.specs.Entries.{of_block}
use Rattle.typed_tree.specs.Look.{Look, look_block, look_stmt}
use Rattle.typed_tree.proofs.Blocks.{among_bodies}

abbrev pub has : List ℕ → ℕ → Bool
has roots root = list_any (λ one. nat_eq one root) roots

pub none_some : {A : Type 0} {x : A} → ◌≡◌ {A = Option A} None (Some x) → ⊥
none_some is = absurd cc

module _ (tree : Tree) where
  abbrev pub look_at : ℕ → Look
  look_at number = of_block look_block number (slice_get tree.blocks.items number)

  -- the body of each block stands in the text
  pub among : IsPermutation (range_with_len 0 (length tree.blocks.items)) tree.bodies.items → (number : ℕ) (block : Block)
      → slice_get tree.blocks.items number ≡ Some block → has tree.bodies.items number ≡ true
  among bodies number block is = by tree.bodies.items (among_bodies tree bodies number (slice_get_within tree.blocks.items number block is))
    where
      by : (xs : List ℕ) → Contains xs number → has xs number ≡ true
      by [] inside = absurd (omega (arith, inside.1))
      by (x ∷ xs) (zero, less, same) = or_left (nat_eq x number) (has xs number) (eq-eqb x number same)
      by (x ∷ xs) (suc k, less, same) = or_right (nat_eq x number) (has xs number) (by xs (k, omega (arith, less), same))

  -- forms leave something, by what was before
  module _ {A : Type 0} (behind : A → Look → Option A) (start : A) (empty : (last : A) → behind start [] ≡ Some last → last ≡ start)
      (cuts : (one last : A) (look more : Look) → behind one (look ++ more) ≡ Some last
      → (mid : A) × (behind one look ≡ Some mid) × (behind mid more ≡ Some last))
      (ends : (number : ℕ) (block : Block) (last : A) → behind start (look_block number block) ≡ Some last
      → (behind start (look_stmt block.body) ≡ Some start) × (last ≡ start)) where
    pub own_block : (bodies : List ℕ) (last : A) → behind start (flat_map look_at bodies) ≡ Some last → (number : ℕ) (block : Block)
        → slice_get tree.blocks.items number ≡ Some block → has bodies number ≡ true → behind start (look_stmt block.body) ≡ Some start
    own_block [] last all number block is inside = absurd cc
    own_block (first ∷ bodies) last all number block is inside =
        let parts = cuts start last (look_at first) (flat_map look_at bodies) all in
        by (slice_get tree.blocks.items first) refl parts.0 parts.1 parts.2
        (λ rest differs. own_block bodies last rest number block is (sym (ap (λ (b : Bool). b || has bodies number) differs) ∙ inside))
      where
        gone : slice_get tree.blocks.items first ≡ None → first ≡ number → ⊥
        gone there same = none_some (sym there ∙ ap (slice_get tree.blocks.items) same ∙ is)

        some_block : (a b : Block) → Some a ≡ Some b → a ≡ b
        some_block a b h = cc

        by : (found : Option Block) → slice_get tree.blocks.items first ≡ found → (mid : A) → behind start (of_block look_block first found) ≡ Some mid
            → behind mid (flat_map look_at bodies) ≡ Some last
            → (behind start (flat_map look_at bodies) ≡ Some last → nat_eq first number ≡ false → behind start (look_stmt block.body) ≡ Some start)
            → behind start (look_stmt block.body) ≡ Some start
        by None there mid one rest later =
            ⊎_elim (λ same. absurd (gone there (eqb-true first number same)))
            (λ differs. later (subst (λ (z : A). behind z (flat_map look_at bodies) ≡ Some last) (empty mid one) rest) differs)
            (cases_Bool (nat_eq first number))
        by (Some other) there mid one rest later =
            let k = ends first other mid one in
            ⊎_elim
            (λ same.
            let here : Some other ≡ Some block = sym there ∙ ap (slice_get tree.blocks.items) (eqb-true first number same) ∙ is in
            subst (λ (b : Block). behind start (look_stmt b.body) ≡ Some start) (some_block other block here) k.0)
            (λ differs. later (subst (λ (z : A). behind z (flat_map look_at bodies) ≡ Some last) k.1 rest) differs)
            (cases_Bool (nat_eq first number))
