-- Calls of a reader, counted.
use Rattle.std.proofs.Common.{◌≡◌, ℕ, suc, List, [], ◌∷◌, ◌++◌, length, refl, ap, ◌∙◌, replicate}
use Rattle.std.specs.Prelude.{map}
use Rattle.run_ports.specs.Feeding.{Each, before_calls}

-- what is the same for each
pub each_same : (f : List ℕ → ℕ) (n : ℕ) (xs : List (List ℕ)) → Each (λ x. f x ≡ n) xs → map f xs ≡ replicate (length xs) n
each_same f n [] h = refl
each_same f n (x ∷ xs) h = ap (λ m. m ∷ map f xs) h.0 ∙ ap (λ l. n ∷ l) (each_same f n xs h.1)

pub map_append : {A B : Type 0} (f : A → B) (xs ys : List A) → map f (xs ++ ys) ≡ map f xs ++ map f ys
map_append f [] ys = refl
map_append f (x ∷ xs) ys = ap (λ l. f x ∷ l) (map_append f xs ys)

-- as many as there are calls
pub long_calls : (given : List ℕ) (xs : List (List ℕ)) → length (before_calls given xs) ≡ length xs
long_calls given [] = refl
long_calls given (x ∷ xs) = ap suc (long_calls (given ++ x) xs)
