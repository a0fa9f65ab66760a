-- Lists that grow at their end, each item made from those before it.
use Rattle.std.proofs.Common.{◌≡◌, ℕ, zero, suc, ◌+◌, ◌<◌, ◌≤◌, List, [], ◌∷◌, ◌++◌, length, take, fold, refl, sym, ap, ◌∙◌, append_assoc, append-nil, arith}
use Rattle.std.proofs.lemmas.List.{length-append, take-append-le}
use Rattle.std.proofs.lemmas.Option.{slice_get_past}
use Rattle.std.proofs.Math.Seq.{take-length}
use Rattle.std.specs.Option.{option_map}
use Rattle.std.specs.Prelude.{slice_get}

-- an item among the first ones, and one behind them
pub slice_get-take : {A : Type 0} (items : List A) (used place : ℕ) → place < used → slice_get (take used items) place ≡ slice_get items place
slice_get-take [] zero place h = absurd (omega (arith, h))
slice_get-take [] (suc used) place h = refl
slice_get-take (item ∷ items) zero place h = absurd (omega (arith, h))
slice_get-take (item ∷ items) (suc used) zero h = refl
slice_get-take (item ∷ items) (suc used) (suc place) h = slice_get-take items used place (omega (arith, h))

pub slice_get-left : {A : Type 0} (items more : List A) (place : ℕ) → place < length items → slice_get (items ++ more) place ≡ slice_get items place
slice_get-left [] more place h = absurd (omega (arith, h))
slice_get-left (item ∷ items) more zero h = refl
slice_get-left (item ∷ items) more (suc place) h = slice_get-left items more place (omega (arith, h))

pub slice_get-right : {A : Type 0} (items more : List A) (place : ℕ) → slice_get (items ++ more) (length items + place) ≡ slice_get more place
slice_get-right [] more place = let e : 0 + place ≡ place = omega arith in ap (slice_get more) e
slice_get-right (item ∷ items) more place =
    let e : suc (length items) + place ≡ suc (length items + place) = omega arith in
    ap (slice_get (item ∷ (items ++ more))) e ∙ slice_get-right items more place

module _ {A B : Type 0} (make : List B → A → B) where
  abbrev pub grow : List B → A → List B
  grow made item = made ++ make made item ∷ []

  -- what comes behind those that are made
  pub rest : List B → List A → List B
  rest made [] = []
  rest made (item ∷ items) = make made item ∷ rest (grow made item) items

  pub grown : (made : List B) (items : List A) → fold grow made items ≡ made ++ rest made items
  unfolding rest
  grown made [] = sym (append-nil made)
  grown made (item ∷ items) = grown (grow made item) items ∙ append_assoc made (make made item ∷ []) (rest (grow made item) items)

  length-grow : (made : List B) (item : A) (n : ℕ) → length (grow made item) + n ≡ length made + suc n
  length-grow made item n = let e = length-append made (make made item ∷ []) in omega (arith, e)

  -- those made of the first items are the first made of all
  grown_of_first : (made : List B) (items : List A) (n : ℕ) → fold grow made (take n items) ≡ take (length made + n) (fold grow made items)
  grown_of_first made items zero =
      let e : length made ≡ length made + 0 = omega arith in
      sym (take-append-le (length made) made (rest made items) (omega arith) ∙ take-length made)
      ∙ ap (take (length made)) (sym (grown made items)) ∙ ap (λ n. take n (fold grow made items)) e
  grown_of_first made [] (suc n) = sym (take-past made (length made + suc n) (omega arith))
    where
      take-past : {A : Type 0} (items : List A) (n : ℕ) → length items ≤ n → take n items ≡ items
      take-past [] zero h = refl
      take-past [] (suc n) h = refl
      take-past (item ∷ items) zero h = absurd (omega (arith, h))
      take-past (item ∷ items) (suc n) h = ap (λ l. item ∷ l) (take-past items n (omega (arith, h)))
  grown_of_first made (item ∷ items) (suc n) =
      grown_of_first (grow made item) items n ∙ ap (λ m. take m (fold grow (grow made item) items)) (length-grow made item n)

  pub grown_before : (items : List A) (n : ℕ) → fold grow [] (take n items) ≡ take n (fold grow [] items)
  grown_before items n = let e : 0 + n ≡ n = omega arith in grown_of_first [] items n ∙ ap (λ m. take m (fold grow [] items)) e

  -- each is made from those before it
  made_from : (made : List B) (items : List A) (n : ℕ)
      → slice_get (fold grow made items) (length made + n) ≡ option_map (λ item. make (fold grow made (take n items)) item) (slice_get items n)
  unfolding rest
  made_from made [] n = slice_get_past made (length made + n) (omega arith)
  made_from made (item ∷ items) zero =
      ap (λ l. slice_get l (length made + 0)) (grown made (item ∷ items)) ∙ slice_get-right made (make made item ∷ rest (grow made item) items) 0
  made_from made (item ∷ items) (suc n) =
      ap (slice_get (fold grow (grow made item) items)) (sym (length-grow made item n)) ∙ made_from (grow made item) items n

  pub made_at : (items : List A) (n : ℕ)
      → slice_get (fold grow [] items) n ≡ option_map (λ item. make (fold grow [] (take n items)) item) (slice_get items n)
  made_at items n = let e : n ≡ 0 + n = omega arith in ap (slice_get (fold grow [] items)) e ∙ made_from [] items n
