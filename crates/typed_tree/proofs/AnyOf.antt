-- Whether one of several does: from one to the next.
use Rattle.std.proofs.Common.{◌≡◌, ◌∙◌, ℕ, ◌+◌, ◌<◌, ◌≤◌, Bool, true, false, ◌||◌, List, length, map, drop, get_or, ap, sym}
use Rattle.std.proofs.lemmas.List.{drop_all, drop_more}
use Rattle.typed_tree.specs.Calls.{any_holds}

-- the next one, and those behind it
pub any-next : {X : Type 0} (f : X → Bool) (xs : List X) (i : ℕ) (x : X) → i < length xs → x ≡ get_or xs i x
    → any_holds (map f (drop i xs)) ≡ (f x || any_holds (map f (drop (i + 1) xs)))
any-next f xs i x inside is =
    ap (λ ys. any_holds (map f ys)) (drop_more xs i x inside)
    ∙ ap (λ y. f y || any_holds (map f (drop (i + 1) xs))) (sym is)

-- it does
pub any-found : {X : Type 0} (f : X → Bool) (xs : List X) (i : ℕ) (x : X) → i < length xs → x ≡ get_or xs i x → f x ≡ true
    → true ≡ any_holds (map f (drop i xs))
any-found f xs i x inside is found =
    sym (any-next f xs i x inside is ∙ ap (λ b. b || any_holds (map f (drop (i + 1) xs))) found)

-- it doesn't
pub any-on : {X : Type 0} (f : X → Bool) (xs : List X) (i : ℕ) (x : X) → i < length xs → x ≡ get_or xs i x → f x ≡ false
    → any_holds (map f (drop (i + 1) xs)) ≡ any_holds (map f (drop i xs))
any-on f xs i x inside is not_found =
    sym (any-next f xs i x inside is ∙ ap (λ b. b || any_holds (map f (drop (i + 1) xs))) not_found)

-- none is left
pub any-none : {X : Type 0} (f : X → Bool) (xs : List X) (i : ℕ) → length xs ≤ i → false ≡ any_holds (map f (drop i xs))
any-none f xs i behind = sym (ap (λ ys. any_holds (map f ys)) (drop_all i xs behind))
