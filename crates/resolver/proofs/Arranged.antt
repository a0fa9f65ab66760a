-- Blocks in the order of their numbers, which are all numbers from 0 on: each stands at its number.
use Rattle.std.proofs.Common.{◌≡◌, ℕ, zero, suc, ◌+◌, ◌-◌, ◌<◌, ◌≤◌, List, [], ◌∷◌, ◌++◌, length, get_or, map, nat_eq, All, IfOk, Result, Ok, Err}
use Rattle.std.proofs.Common.{Vec, Some, true, slice_get, refl, sym, ap, subst, ◌∙◌, arith}
use Rattle.std.specs.Prelude.{IsPermutation, flat_map}
use Rattle.std.specs.List.{Contains, IsDistinct, range_with_len}
use Rattle.std.specs.List.Sorted.{IsNonDecreasing, IsNonDecreasingBy, IsStrictlyIncreasing}
use Rattle.std.proofs.lemmas.Bool.Decides.{nat_tests}
use Rattle.std.proofs.lemmas.List.{get_or-map, length-map}
use Rattle.std.proofs.lemmas.List.Elements.{All-from_get_or, All-get_or}
use Rattle.std.proofs.lemmas.List.Folds.{list_all-map}
use Rattle.std.proofs.lemmas.List.Sums.{AllPass-from_list_all, list_all-from_AllPass}
use Rattle.std.proofs.lemmas.List.FromFn.{get_or-range_with_len, length-range_with_len}
use Rattle.std.proofs.lemmas.List.Sorted.{All-permutation, Contains-permutation, IsPermutation-map, IsPermutation-trans, length_permutation}
use Rattle.std.proofs.lemmas.Map.Keys.{IsDistinct-IsPermutation, IsDistinct-from_apart, IsStrictlyIncreasing-from_distinct}
use Rattle.std.proofs.lemmas.Option.{slice_get-get_or}
use Rattle.std.specs.declared.alloc.Global.{Global}
use Rattle.std.specs.declared.alloc.AllocError.{AllocError}
use Rattle.typed_tree.specs.declared.tree.Block.{Block}
use Rattle.typed_tree.specs.Entries.{of_block}
use Rattle.typed_tree.specs.Kinds.{are_held, is_held_stmt}
use Rattle.resolver.specs.Made.{AreArranged, are_held_made}
use Rattle.resolver.specs.declared.typed.MadeBlock.{MadeBlock}

abbrev pub number_of : MadeBlock → ℕ
number_of made = made.number

-- blocks stand at the numbers of these
abbrev pub AreThere : List Block → List MadeBlock → Type 0
AreThere blocks [] = Unit {0}
AreThere blocks (made ∷ others) = (slice_get blocks made.number ≡ Some made.block) × AreThere blocks others

each_there : (blocks : List Block) (all : List MadeBlock) → ((made : MadeBlock) → Contains all made → slice_get blocks made.number ≡ Some made.block)
    → AreThere blocks all
each_there blocks [] there = tt
each_there blocks (made ∷ others) there = (
  there made (0, omega arith, refl),
  each_there blocks others (λ one among. there one (suc among.0, omega (arith, among.1), among.2)),
)

-- what they have, in the order of the text
pub in_text_is : {A : Type 0} (part : ℕ → Block → List A) (blocks : List Block) (all : List MadeBlock) → AreThere blocks all
    → flat_map (λ number. of_block part number (slice_get blocks number)) (map number_of all) ≡ flat_map (λ made. part made.number made.block) all
in_text_is part blocks [] there = refl
in_text_is part blocks (made ∷ others) there =
    ap (λ found. of_block part made.number found ++ flat_map (λ number. of_block part number (slice_get blocks number)) (map number_of others)) there.0
    ∙ ap (λ l. part made.number made.block ++ l) (in_text_is part blocks others there.1)

-- numbers that rise are at least their places
module _ (numbers : List ℕ) (rise : IsStrictlyIncreasing numbers) where
  at_least : (k : ℕ) → k < length numbers → k ≤ get_or numbers k 0
  at_least zero within = omega arith
  at_least (suc k) within =
      let before : k ≤ get_or numbers k 0 = at_least k (omega arith) in
      let next : k + 1 ≡ suc k = omega arith in
      let up : get_or numbers k 0 < get_or numbers (suc k) 0 = subst (λ n. get_or numbers k 0 < get_or numbers n 0) next (rise k (omega arith)) in
      omega arith

  -- and as far below the last as their places are
  as_far : (more k : ℕ) → more + k < length numbers → get_or numbers k 0 + more ≤ get_or numbers (more + k) 0
  as_far zero k within =
      let here : zero + k ≡ k = omega arith in
      subst (λ n. get_or numbers k 0 + zero ≤ get_or numbers n 0) (sym here) (omega arith)
  as_far (suc more) k within =
      let rest : get_or numbers k 0 + more ≤ get_or numbers (more + k) 0 = as_far more k (omega arith) in
      let next : more + k + 1 ≡ suc more + k = omega arith in
      let up : get_or numbers (more + k) 0 < get_or numbers (suc more + k) 0 =
      subst (λ n. get_or numbers (more + k) 0 < get_or numbers n 0) next (rise (more + k) (omega arith)) in
      omega arith

-- sorted blocks without their numbers
pub arranged_of : (made sorted : List MadeBlock) → IsPermutation made sorted → IsNonDecreasingBy (λ one. one.number) sorted
    → (answer : Result (Vec Block Global) AllocError) → IfOk answer (λ blocks. blocks.items ≡ map (λ one. one.block) sorted)
    → IfOk answer (λ blocks. AreArranged made blocks.items)
arranged_of made sorted shuffled rise (Ok blocks) are = record { sorted = sorted; shuffled = shuffled; rise = rise; are = are }
arranged_of made sorted shuffled rise (Err why) are = tt

mapped_rise : (xs : List MadeBlock) → IsNonDecreasingBy (λ one. one.number) xs → IsNonDecreasing (map number_of xs)
mapped_rise [] rise i j d less within = absurd (omega arith)
mapped_rise (x ∷ xs) rise i j d less within =
    let long : length (map number_of (x ∷ xs)) ≡ length (x ∷ xs) = length-map (x ∷ xs) number_of in
    let one : get_or (map number_of (x ∷ xs)) i d ≡ (get_or (x ∷ xs) i x).number = get_or-map number_of (x ∷ xs) i x d (omega arith) in
    let two : get_or (map number_of (x ∷ xs)) j d ≡ (get_or (x ∷ xs) j x).number = get_or-map number_of (x ∷ xs) j x d (omega arith) in
    let up : (get_or (x ∷ xs) i x).number ≤ (get_or (x ∷ xs) j x).number = rise i j x less (omega arith) in
    omega arith

range_distinct : (count : ℕ) → IsDistinct nat_eq (range_with_len 0 count)
range_distinct count =
    IsDistinct-from_apart nat_eq (range_with_len 0 count)
    (λ i j d less within.
    let long : length (range_with_len 0 count) ≡ count = length-range_with_len 0 count in
    let one : get_or (range_with_len 0 count) i d ≡ 0 + i = get_or-range_with_len 0 count i d (omega arith) in
    let two : get_or (range_with_len 0 count) j d ≡ 0 + j = get_or-range_with_len 0 count j d (omega arith) in
    grind (arith, nat_tests, one, two))

range_below : (count : ℕ) → All (λ n. n < count) (range_with_len 0 count)
range_below count =
    All-from_get_or (λ n. n < count) (range_with_len 0 count) 0
    (λ i within.
    let long : length (range_with_len 0 count) ≡ count = length-range_with_len 0 count in
    let one : get_or (range_with_len 0 count) i 0 ≡ 0 + i = get_or-range_with_len 0 count i 0 (omega arith) in
    omega arith)

module _ (made : List MadeBlock) (blocks : List Block) (arranged : AreArranged made blocks) (count : ℕ)
    (all : IsPermutation (range_with_len 0 count) (map number_of made)) where
  numbers : List ℕ
  numbers = map number_of arranged.sorted

  shuffled : IsPermutation (range_with_len 0 count) numbers
  unfolding numbers
  shuffled =
      IsPermutation-trans (range_with_len 0 count) (map number_of made) (map number_of arranged.sorted) all
      (IsPermutation-map number_of made arranged.sorted arranged.shuffled)

  as_many : length numbers ≡ count
  as_many = length_permutation (range_with_len 0 count) numbers shuffled ∙ length-range_with_len 0 count

  no_fall : IsNonDecreasing numbers
  unfolding numbers
  no_fall = mapped_rise arranged.sorted arranged.rise

  rise : IsStrictlyIncreasing numbers
  rise =
      IsStrictlyIncreasing-from_distinct numbers no_fall
      (IsDistinct-IsPermutation nat_eq (λ x y. grind (arith, nat_tests)) (range_with_len 0 count) numbers shuffled (range_distinct count))

  -- each number is its place
  is_place : (k : ℕ) → k < count → get_or numbers k 0 ≡ k
  is_place k within =
      let lower : k ≤ get_or numbers k 0 = at_least numbers rise k (omega (arith, as_many)) in
      let last : count - 1 - k + k ≡ count - 1 = omega arith in
      let far : get_or numbers k 0 + (count - 1 - k) ≤ get_or numbers (count - 1 - k + k) 0 = as_far numbers rise (count - 1 - k) k (omega (arith, as_many)) in
      let below : get_or numbers (count - 1 - k + k) 0 < count =
      All-get_or (λ n. n < count) numbers (count - 1 - k + k) 0 (omega (arith, as_many))
      (All-permutation (λ n. n < count) (range_with_len 0 count) numbers shuffled (range_below count)) in
      omega arith

  as_many_sorted : length arranged.sorted ≡ count
  unfolding numbers
  as_many_sorted = sym (length-map arranged.sorted number_of) ∙ as_many

  -- there are as many blocks
  pub as_many_blocks : length blocks ≡ count
  as_many_blocks = ap length arranged.are ∙ length-map arranged.sorted (λ (one : MadeBlock). one.block) ∙ as_many_sorted

  one_there : (one : MadeBlock) → Contains made one → slice_get blocks one.number ≡ Some one.block
  unfolding numbers
  one_there one among =
      let at = Contains-permutation made arranged.sorted one arranged.shuffled among in
      let within : at.0 < count = omega (arith, at.1, as_many_sorted) in
      let place : one.number ≡ at.0 =
      sym (ap number_of at.2) ∙ sym (get_or-map number_of arranged.sorted at.0 one 0 at.1) ∙ is_place at.0 within in
      ap (slice_get blocks) place ∙ ap (λ l. slice_get l at.0) arranged.are
      ∙ found at.0 one at.1 at.2
    where
      found : (k : ℕ) (one : MadeBlock) → k < length arranged.sorted → get_or arranged.sorted k one ≡ one
          → slice_get (map (λ (m : MadeBlock). m.block) arranged.sorted) k ≡ Some one.block
      found k one within is =
          slice_get-get_or (map (λ (m : MadeBlock). m.block) arranged.sorted) k one.block
          (omega (arith, within, length-map arranged.sorted (λ (m : MadeBlock). m.block)))
          ∙ ap Some (get_or-map (λ (m : MadeBlock). m.block) arranged.sorted k one one.block within ∙ ap (λ (m : MadeBlock). m.block) is)

  -- each stands at its number
  pub are_there : AreThere blocks made
  are_there = each_there blocks made one_there

-- in their statements each operand is as it is taken, if it is in those of the blocks that were made
pub arranged_held : (made : List MadeBlock) (blocks : List Block) → AreArranged made blocks → are_held_made made ≡ true → are_held blocks ≡ true
arranged_held made blocks arranged held =
    let test = λ (one : MadeBlock). is_held_stmt one.block.body in
    ap are_held arranged.are
    ∙ list_all-map (λ (block : Block). is_held_stmt block.body) (λ (one : MadeBlock). one.block) arranged.sorted
    ∙ list_all-from_AllPass test arranged.sorted
    (All-permutation (λ one. test one ≡ true) made arranged.sorted arranged.shuffled (AllPass-from_list_all test made held))
