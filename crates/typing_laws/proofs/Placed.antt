-- The forms of a look with the blocks in which they stand: those of a look that is whole stand there whatever comes behind
-- it.
use Rattle.std.proofs.Common.{◌≡◌, ℕ, List, [], ◌∷◌, ◌++◌, map, Option, refl, sym, ap, ap₂, ◌∙◌, append_assoc, append-nil}
use Rattle.std.specs.List.{flat_map}
use Rattle.std.proofs.lemmas.Grind.{flat_map-append}
use Rattle.std.proofs.lemmas.List.{map-append}
use Rattle.place.specs.declared.Place.{Place}
use Rattle.typed_tree.specs.declared.tree.FunctionResult.{FunctionResult}
use Rattle.typed_tree.specs.Look.{Look, Mark, BlockEnds, blocks_of_look, mark_blocks, next_of}
use Rattle.typing_laws.specs.Controls.{Each, in_blocks}

-- ---- what holds of pairs

pub each_map : {A B : Type 0} (Holds : A → Type 0) (More : B → Type 0) (f : A → B) (xs : List A) → ((x : A) → Holds x → More (f x)) → Each Holds xs
    → Each More (map f xs)
each_map Holds More f [] more all = tt
each_map Holds More f (x ∷ xs) more all = (more x all.0, each_map Holds More f xs more all.1)

each_one : {A : Type 0} (Holds More : A → Type 0) (xs : List A) → ((x : A) → Holds x → More x) → Each Holds xs → Each More xs
each_one Holds More [] more all = tt
each_one Holds More (x ∷ xs) more all = (more x all.0, each_one Holds More xs more all.1)

-- of each of the first with each of the second
pub each_pair : {A B : Type 0} (First : A → Type 0) (Second : B → Type 0) (Both : A → B → Type 0) (xs : List A) (ys : List B)
    → ((x : A) (y : B) → First x → Second y → Both x y) → Each First xs → Each Second ys → Each (λ x. Each (Both x) ys) xs
each_pair First Second Both [] ys both one two = tt
each_pair First Second Both (x ∷ xs) ys both one two =
    (each_one Second (Both x) ys (λ y. both x y one.0) two, each_pair First Second Both xs ys both one.1 two)

each_add : {A : Type 0} (Holds : A → Type 0) (xs ys : List A) → Each Holds xs → Each Holds ys → Each Holds (xs ++ ys)
each_add Holds [] ys one two = two
each_add Holds (x ∷ xs) ys one two = (one.0, each_add Holds xs ys one.1 two)

-- of each of several with each of several
pub each_square : {A B : Type 0} (Both : A → B → Type 0) (xs others : List A) (ys more : List B)
    → Each (λ x. Each (Both x) ys) xs → Each (λ x. Each (Both x) more) xs → Each (λ x. Each (Both x) ys) others → Each (λ x. Each (Both x) more) others
    → Each (λ x. Each (Both x) (ys ++ more)) (xs ++ others)
each_square Both xs others ys more a b c d =
    each_add (λ x. Each (Both x) (ys ++ more)) xs others (wide xs a b) (wide others c d)
  where
    wide : (all : List _) → Each (λ x. Each (Both x) ys) all → Each (λ x. Each (Both x) more) all → Each (λ x. Each (Both x) (ys ++ more)) all
    wide [] one two = tt
    wide (x ∷ all) one two = (each_add (Both x) ys more one.0 two.0, wide all one.1 two.1)

-- ---- forms and blocks

second_nil : (a b : List ℕ) → a ++ b ≡ [] → b ≡ []
second_nil [] b is = is
second_nil (x ∷ a) b is = absurd cc

next_kept : (numbers more : List ℕ) (number : ℕ) → next_of ((numbers ++ number ∷ []) ++ more) ≡ next_of (numbers ++ number ∷ [])
next_kept [] more number = refl
next_kept (other ∷ numbers) more number = refl

module _ (roots : Mark → List ℕ) (number : ℕ) (around parameters : List ℕ) (result : Option FunctionResult) (end : Place) where
  abbrev last : Mark
  last = BlockEnds number around parameters result end

  -- forms as far as where a block ends, and then others
  pub placed_as_far : (look rest : Look)
      → in_blocks roots ((look ++ (last ∷ [])) ++ rest) ≡ in_blocks roots (look ++ (last ∷ [])) ++ in_blocks roots rest
  placed_as_far [] rest = ap (λ l. l ++ in_blocks roots rest) (sym (append-nil (map (λ root. (number, root)) (roots last))))
  placed_as_far (mark ∷ look) rest =
      let inside : blocks_of_look ((mark ∷ look) ++ (last ∷ [])) ≡ blocks_of_look (mark ∷ look) ++ number ∷ [] =
      flat_map-append mark_blocks (mark ∷ look) (last ∷ []) in
      let with_rest : blocks_of_look (((mark ∷ look) ++ (last ∷ [])) ++ rest) ≡ (blocks_of_look (mark ∷ look) ++ number ∷ []) ++ blocks_of_look rest =
      flat_map-append mark_blocks ((mark ∷ look) ++ (last ∷ [])) rest ∙ ap (λ numbers. numbers ++ blocks_of_look rest) inside in
      let next : next_of (blocks_of_look (((mark ∷ look) ++ (last ∷ [])) ++ rest)) ≡ next_of (blocks_of_look ((mark ∷ look) ++ (last ∷ []))) =
      ap next_of with_rest ∙ next_kept (blocks_of_look (mark ∷ look)) (blocks_of_look rest) number ∙ ap next_of (sym inside) in
      ap₂ (λ n l. map (λ root. (n, root)) (roots mark) ++ l) next (placed_as_far look rest)
      ∙ sym (append_assoc (map (λ root. (next_of (blocks_of_look ((mark ∷ look) ++ (last ∷ []))), root)) (roots mark))
      (in_blocks roots (look ++ (last ∷ []))) (in_blocks roots rest))

  -- forms in which no block ends stand in that
  pub placed_inner : (look : Look) → blocks_of_look look ≡ [] → roots last ≡ []
      → in_blocks roots (look ++ (last ∷ [])) ≡ map (λ root. (number, root)) (flat_map roots look)
  placed_inner [] inner none = ap (λ l. map (λ root. (number, root)) l ++ []) none
  placed_inner (mark ∷ look) inner none =
      let behind : blocks_of_look ((mark ∷ look) ++ (last ∷ [])) ≡ number ∷ [] =
      flat_map-append mark_blocks (mark ∷ look) (last ∷ []) ∙ ap (λ numbers. numbers ++ number ∷ []) inner in
      ap₂ (λ n l. map (λ root. (n, root)) (roots mark) ++ l) (ap next_of behind)
      (placed_inner look (second_nil (mark_blocks mark) (blocks_of_look look) inner) none)
      ∙ sym (map-append (λ root. (number, root)) (roots mark) (flat_map roots look))
