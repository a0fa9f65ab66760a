-- Blocks in one another: what a well formed tree says of each of its blocks, of those round it, and of a routine that may be
-- called in it.
use Rattle.code_generator.proofs.Words.{◌≡◌, ℕ, zero, suc, ◌+◌, ◌<◌, ◌≤◌, ◌⊎◌, inl, inr, ⊎_elim, List, [], ◌∷◌, ◌++◌, length, map, Option, Some, None, refl}
use Rattle.code_generator.proofs.Words.{sym, ap, ◌∙◌, subst, arith, Bool, true, false, length-append, slice_get, nat_eq, ◌&&◌, ◌||◌, and_parts, eqb-true}
use Rattle.code_generator.proofs.Words.{false≢true, ltb-true, none-some, same_Some, cells_of, Block, Tree, Variable, IsWellFormed, heading_of}
use Rattle.code_generator.proofs.Words.{is_parameter_kind, roots_where}
use Rattle.std.specs.Prelude.{sum_by}
use Rattle.std.specs.Cmp.Lexicographic.{pointwise}
use Rattle.std.proofs.lemmas.Bool.{leb-true}
use Rattle.std.proofs.lemmas.Bool.Decides.{Decides-eqb}
use Rattle.std.proofs.lemmas.List.Folds.{list_any-append}
use Rattle.std.proofs.lemmas.Slice.Eq.{slice_eq-Decides}
use Rattle.typed_tree.specs.declared.tree.Heading.{Heading}
use Rattle.typed_tree.specs.WellFormed.{Outline, are_all, are_few_cells, are_well_formed_blocks, declarer, encloses, is_callable, is_declared_by, is_heading}
use Rattle.typed_tree.specs.WellFormed.{is_one_of, is_placed, is_result_kind, is_result_or_none, is_round, is_well_formed_block, is_well_formed_stmt, of_one}
use Rattle.typed_tree.specs.WellFormed.{outline_of, result_roots, variables_of}

-- the same numbers
pub same_numbers : (xs ys : List ℕ) → pointwise nat_eq xs ys ≡ true → xs ≡ ys
same_numbers xs ys e = (slice_eq-Decides Decides-eqb xs ys (pointwise nat_eq xs ys) refl).0 e

-- there is one of which the test holds
pub one_there : {A : Type 0} (test : A → Bool) (o : Option A) → of_one test o ≡ true → (x : A) × (o ≡ Some x) × (test x ≡ true)
one_there test None e = absurd (false≢true e)
one_there test (Some x) e = (x, refl, e)

-- a heading of a table is that of a block
pub heading_there : (blocks : List Block) (number : ℕ) (heading : Heading) → slice_get (map heading_of blocks) number ≡ Some heading
    → (block : Block) × (slice_get blocks number ≡ Some block) × (heading_of block ≡ heading)
heading_there [] number heading e = absurd (none-some heading e)
heading_there (block ∷ blocks) zero heading e = (block, refl, same_Some (heading_of block) heading e)
heading_there (block ∷ blocks) (suc number) heading e = heading_there blocks number heading e

pub heading_at : (blocks : List Block) (number : ℕ) (block : Block) → slice_get blocks number ≡ Some block
    → slice_get (map heading_of blocks) number ≡ Some (heading_of block)
heading_at [] number block e = absurd (none-some block e)
heading_at (first ∷ blocks) zero block e = ap (λ (b : Block). Some (heading_of b)) (same_Some first block e)
heading_at (first ∷ blocks) (suc number) block e = heading_at blocks number block e

each_block : (outline : Outline) (number : ℕ) (blocks : List Block) (k m : ℕ) (block : Block) → number + k ≡ m
    → are_well_formed_blocks outline number blocks ≡ true → slice_get blocks k ≡ Some block → is_well_formed_block outline m block ≡ true
each_block outline number [] k m block is well at = absurd (none-some block at)
each_block outline number (first ∷ blocks) zero m block is well at =
    let n : number ≡ m = omega (arith, is) in
    subst (λ b. is_well_formed_block outline m b ≡ true) (same_Some first block at)
    (subst (λ i. is_well_formed_block outline i first ≡ true) n
    (and_parts (is_well_formed_block outline number first) (are_well_formed_blocks outline (suc number) blocks) well).0)
each_block outline number (first ∷ blocks) (suc k) m block is well at =
    each_block outline (suc number) blocks k m block (omega (arith, is))
    (and_parts (is_well_formed_block outline number first) (are_well_formed_blocks outline (suc number) blocks) well).1 at

-- one that is the last of some is their declarer
last_is_declarer : (around : List ℕ) (last : ℕ) → declarer (around ++ last ∷ []) ≡ Some last
last_is_declarer [] last = refl
last_is_declarer (block ∷ []) last = refl
last_is_declarer (block ∷ inner ∷ around) last = last_is_declarer (inner ∷ around) last

-- one of two lists
in_first : (xs ys : List ℕ) (n : ℕ) → is_one_of xs n ≡ true → is_one_of (xs ++ ys) n ≡ true
in_first xs ys n e = list_any-append (λ one. nat_eq one n) xs ys ∙ ap (λ b. b || is_one_of ys n) e

in_either : (xs : List ℕ) (last n : ℕ) → is_one_of (xs ++ last ∷ []) n ≡ true → (is_one_of xs n ≡ true) ⊎ (last ≡ n)
in_either xs last n e = by (is_one_of xs n) refl (sym (list_any-append (λ one. nat_eq one n) xs (last ∷ [])) ∙ e)
  where
    one : (b : Bool) → (b || false) ≡ true → b ≡ true
    one true e = refl
    one false e = absurd (false≢true e)

    by : (b : Bool) → is_one_of xs n ≡ b → (b || (nat_eq last n || false)) ≡ true → (is_one_of xs n ≡ true) ⊎ (last ≡ n)
    by true is e = inl is
    by false is e = inr (eqb-true last n (one (nat_eq last n) e))

module _ (tree : Tree) (well : IsWellFormed tree) where
  abbrev outline : Outline
  outline = outline_of tree

  -- what is known of a block
  pub record WellBlock (number : ℕ) (block : Block) : Type 0 where
    pub placed : is_placed outline number block.heading ≡ true
    pub parameters_are : block.heading.parameters.items
        ≡ roots_where (λ variable. nat_eq variable.block number && is_parameter_kind variable.kind) 0 tree.variables.items
    pub result_is : result_roots block.heading.result
        ≡ roots_where (λ variable. nat_eq variable.block number && is_result_kind variable.kind) 0 tree.variables.items
    pub result_good : is_result_or_none outline block.heading.result ≡ true
    pub few : sum_by (λ (v : Variable). cells_of tree.types v.type_id) (variables_of number tree.variables.items) ≤ 65536
    pub body : is_well_formed_stmt outline number block.body ≡ true

  pub well_block : (number : ℕ) (block : Block) → slice_get tree.blocks.items number ≡ Some block → WellBlock number block
  well_block number block at =
      let whole = each_block outline 0 tree.blocks.items number number block (omega arith) well.blocks at in
      let one = and_parts (is_heading outline number block.heading) _ whole in
      let two = and_parts (are_few_cells outline number) (is_well_formed_stmt outline number block.body) one.1 in
      let h1 = and_parts (is_placed outline number block.heading) _ one.0 in
      let h2 = and_parts (are_all outline number is_parameter_kind block.heading.parameters.items) _ h1.1 in
      let h3 = and_parts (are_all outline number is_result_kind (result_roots block.heading.result)) (is_result_or_none outline block.heading.result) h2.1 in
      record {
        placed = h1.0;
        parameters_are = same_numbers block.heading.parameters.items _ h2.0;
        result_is = same_numbers (result_roots block.heading.result) _ h3.0;
        result_good = h3.1;
        few = leb-true _ 65536 two.0;
        body = two.1;
      }

  abbrev around_of : Block → List ℕ
  around_of block = block.heading.around.items

  -- a block that another declares
  pub record Declared (number : ℕ) (block : Block) : Type 0 where
    pub its : ℕ
    pub its_block : Block
    pub its_is : slice_get tree.blocks.items its ≡ Some its_block
    pub lower : its < number
    pub around_is : around_of block ≡ around_of its_block ++ its ∷ []
    pub few : length (around_of block) < 16

  pub declared : (number : ℕ) (block : Block) → slice_get tree.blocks.items (suc number) ≡ Some block → Declared (suc number) block
  declared number block at =
      let w = well_block (suc number) block at in
      let parts = and_parts _ _ w.placed in
      let last = one_there (is_declared_by outline (suc number) (around_of block)) (declarer (around_of block)) parts.1 in
      let inside = and_parts _ _ last.2 in
      let heading = one_there (λ (h : Heading). pointwise nat_eq (around_of block) (h.around.items ++ last.0 ∷ [])) (slice_get outline.headings last.0)
      inside.1 in
      let its = heading_there tree.blocks.items last.0 heading.0 heading.1 in
      record {
        its = last.0;
        its_block = its.0;
        its_is = its.1;
        lower = ltb-true last.0 (suc number) inside.0;
        around_is = same_numbers (around_of block) (heading.0.around.items ++ last.0 ∷ []) heading.2
            ∙ ap (λ (h : Heading). h.around.items ++ last.0 ∷ []) (sym its.2);
        few = ltb-true (length (around_of block)) 16 parts.0;
      }

  pub nothing_round_program : (block : Block) → slice_get tree.blocks.items 0 ≡ Some block → around_of block ≡ []
  nothing_round_program block at =
      let w = well_block 0 block at in
      same_numbers (around_of block) [] (and_parts _ _ w.placed).0

  -- a block that stands round another: it is there, further out, and those round it stand round the other too
  pub record IsRound (block : Block) (other : ℕ) : Type 0 where
    pub its_block : Block
    pub its_is : slice_get tree.blocks.items other ≡ Some its_block
    pub further : length (around_of its_block) < length (around_of block)
    pub above : (n : ℕ) → is_one_of (around_of its_block) n ≡ true → is_one_of (around_of block) n ≡ true

  round_within : (bound number : ℕ) (block : Block) (other : ℕ) → number < bound → slice_get tree.blocks.items number ≡ Some block
      → is_one_of (around_of block) other ≡ true → IsRound block other
  round_within zero number block other few at e = absurd (omega arith)
  round_within (suc bound) zero block other few at e =
      absurd (false≢true (ap (λ around. is_one_of around other) (sym (nothing_round_program block at)) ∙ e))
  round_within (suc bound) (suc number) block other few at e =
      let d = declared number block at in
      let low = d.lower in
      let longer : length (around_of block) ≡ length (around_of d.its_block) + 1 =
      ap length d.around_is ∙ length-append (around_of d.its_block) (d.its ∷ []) in
      ⊎_elim
      (λ (up : is_one_of (around_of d.its_block) other ≡ true).
      let r = round_within bound d.its d.its_block other (omega arith) d.its_is up in
      let less = r.further in
      record {
        its_block = r.its_block;
        its_is = r.its_is;
        further = omega arith;
        above = λ n there. ap (λ around. is_one_of around n) d.around_is ∙ in_first (around_of d.its_block) (d.its ∷ []) n (r.above n there);
      })
      (λ (same : d.its ≡ other). record {
        its_block = d.its_block;
        its_is = ap (slice_get tree.blocks.items) (sym same) ∙ d.its_is;
        further = omega arith;
        above = λ n there. ap (λ around. is_one_of around n) d.around_is ∙ in_first (around_of d.its_block) (d.its ∷ []) n there;
      })
      (in_either (around_of d.its_block) d.its other (ap (λ around. is_one_of around other) (sym d.around_is) ∙ e))

  pub round_it : (number : ℕ) (block : Block) (other : ℕ) → slice_get tree.blocks.items number ≡ Some block → is_one_of (around_of block) other ≡ true
      → IsRound block other
  round_it number block other at e = round_within (suc number) number block other (omega arith) at e

  pub shallow : (number : ℕ) (block : Block) → slice_get tree.blocks.items number ≡ Some block → length (around_of block) < 16
  shallow zero block at = let none = ap length (nothing_round_program block at) in omega (arith, none)
  shallow (suc number) block at = (declared number block at).few

  -- ---- a routine that may be called

  -- what is known of a block where a routine is called, and of the routine's
  pub record Callable (caller : ℕ) (caller_block : Block) (number : ℕ) (block : Block) : Type 0 where
    pub less : ℕ
    pub number_is : number ≡ suc less
    pub its : Declared number block
    -- the declarer's level is no greater than the caller's, and what stands round the routine is round its caller
    pub up : length (around_of its.its_block) ≤ length (around_of caller_block)
    pub above : (n : ℕ) → is_one_of (around_of block) n ≡ true → encloses n caller (heading_of caller_block) ≡ true
    pub no_deeper : (n : ℕ) (other : Block) → is_one_of (around_of block) n ≡ true → slice_get tree.blocks.items n ≡ Some other
        → length (around_of other) ≤ length (around_of its.its_block)

  or_right : (a b : Bool) → b ≡ true → (a || b) ≡ true
  or_right true b e = refl
  or_right false b e = e

  or_either : (a b : Bool) → (a || b) ≡ true → (a ≡ true) ⊎ (b ≡ true)
  or_either true b e = inl refl
  or_either false b e = inr e

  module _ (caller : ℕ) (caller_block : Block) (caller_is : slice_get tree.blocks.items caller ≡ Some caller_block) where
    pub callable : (is_function : Bool) (count number : ℕ) (block : Block) → slice_get tree.blocks.items number ≡ Some block
        → is_callable outline caller is_function count (heading_of block) ≡ true → Callable caller caller_block number block
    callable is_function count zero block at e =
        let parts = and_parts _ _ e in
        absurd (false≢true (ap (λ around. of_one (is_round outline caller) (declarer around)) (sym (nothing_round_program block at)) ∙ parts.0))
    callable is_function count (suc number) block at e =
        let parts = and_parts (of_one (is_round outline caller) (declarer (around_of block))) _ e in
        let d = declared number block at in
        let declarer_is : declarer (around_of block) ≡ Some d.its = ap declarer d.around_is ∙ last_is_declarer (around_of d.its_block) d.its in
        let round : is_round outline caller d.its ≡ true = ap (of_one (is_round outline caller)) (sym declarer_is) ∙ parts.0 in
        let there : encloses d.its caller (heading_of caller_block) ≡ true =
        ap (of_one (encloses d.its caller)) (sym (heading_at tree.blocks.items caller caller_block caller_is)) ∙ round in
        let upward : (length (around_of d.its_block) ≤ length (around_of caller_block))
        × ((n : ℕ) → is_one_of (around_of d.its_block) n ≡ true → is_one_of (around_of caller_block) n ≡ true) =
        ⊎_elim
        (λ (same : nat_eq d.its caller ≡ true).
        let is = eqb-true d.its caller same in
        let block_is : d.its_block ≡ caller_block =
        same_Some d.its_block caller_block (sym d.its_is ∙ ap (slice_get tree.blocks.items) is ∙ caller_is) in
        let levels = ap (λ (b : Block). length (around_of b)) block_is in
        (omega (arith, levels), λ n inside. ap (λ (b : Block). is_one_of (around_of b) n) (sym block_is) ∙ inside))
        (λ (inner : is_one_of (around_of caller_block) d.its ≡ true).
        let r = round_it caller caller_block d.its caller_is inner in
        let block_is : r.its_block ≡ d.its_block = same_Some r.its_block d.its_block (sym r.its_is ∙ d.its_is) in
        let levels = ap (λ (b : Block). length (around_of b)) block_is in
        let further = r.further in
        (omega (arith, levels), λ n inside. r.above n (ap (λ (b : Block). is_one_of (around_of b) n) block_is ∙ inside)))
        (or_either (nat_eq d.its caller) (is_one_of (around_of caller_block) d.its) there) in
        let split : (n : ℕ) → is_one_of (around_of block) n ≡ true → (is_one_of (around_of d.its_block) n ≡ true) ⊎ (d.its ≡ n) =
        λ n inside. in_either (around_of d.its_block) d.its n (ap (λ around. is_one_of around n) (sym d.around_is) ∙ inside) in
        record {
          less = number;
          number_is = refl;
          its = d;
          up = upward.0;
          above = λ n inside.
              ⊎_elim
              (λ (outer : is_one_of (around_of d.its_block) n ≡ true). or_right (nat_eq n caller) (is_one_of (around_of caller_block) n) (upward.1 n outer))
              (λ (same : d.its ≡ n). subst (λ m. encloses m caller (heading_of caller_block) ≡ true) same there)
              (split n inside);
          no_deeper = λ n other inside at'.
              ⊎_elim
              (λ (outer : is_one_of (around_of d.its_block) n ≡ true).
              let r = round_it d.its d.its_block n d.its_is outer in
              let levels = ap (λ (b : Block). length (around_of b)) (same_Some r.its_block other (sym r.its_is ∙ at')) in
              let further = r.further in
              omega (arith, levels))
              (λ (same : d.its ≡ n).
              let levels = ap (λ (b : Block). length (around_of b)) (same_Some d.its_block other
              (sym d.its_is ∙ ap (slice_get tree.blocks.items) same ∙ at')) in
              omega (arith, levels))
              (split n inside);
        }
