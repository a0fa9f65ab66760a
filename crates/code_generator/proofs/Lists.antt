-- Elements of lists: one that is found before, behind or among others, and one that is set.
use Rattle.code_generator.proofs.Words.{◌≡◌, ℕ, zero, suc, ◌+◌, ◌<◌, List, [], ◌∷◌, ◌++◌, length, map, take, drop, Some, refl, sym, ap, ◌∙◌, arith}
use Rattle.code_generator.proofs.Words.{length-append, Bool, true, slice_get, slice_set, list_all, and_parts, none-some, same_Some, slice_get_within}
use Rattle.std.specs.Prelude.{replicate}
use Rattle.std.proofs.lemmas.Option.{slice_get-get_or}
use Rattle.std.proofs.Math.Seq.{get_or-append_seam}

-- the element behind the first ones
pub slice_get_seam : {A : Type 0} (below : List A) (a : A) (above : List A) → slice_get (below ++ a ∷ above) (length below) ≡ Some a
slice_get_seam below a above =
    let within : length below < length (below ++ a ∷ above) = omega (arith, length-append below (a ∷ above)) in
    slice_get-get_or (below ++ a ∷ above) (length below) a within ∙ ap Some (get_or-append_seam below a above a)

-- an element before others, and one behind them
pub slice_before : {A : Type 0} (xs ys : List A) (i : ℕ) → i < length xs → slice_get (xs ++ ys) i ≡ slice_get xs i
slice_before [] ys i h = absurd (omega arith)
slice_before (x ∷ xs) ys zero h = refl
slice_before (x ∷ xs) ys (suc i) h = slice_before xs ys i (omega arith)

pub slice_behind : {A : Type 0} (xs ys : List A) (i n : ℕ) → n ≡ length xs + i → slice_get (xs ++ ys) n ≡ slice_get ys i
slice_behind [] ys i n e = let z : n ≡ i = omega (arith, e) in ap (slice_get ys) z
slice_behind (x ∷ xs) ys i n e =
    let z : n ≡ suc (length xs + i) = omega (arith, e) in
    ap (slice_get (x ∷ (xs ++ ys))) z ∙ slice_behind xs ys i (length xs + i) refl

pub slice_get-front : {A : Type 0} (xs ys : List A) (i : ℕ) (x : A) → slice_get xs i ≡ Some x → slice_get (xs ++ ys) i ≡ Some x
slice_get-front xs ys i x e = slice_before xs ys i (slice_get_within xs i x e) ∙ e

-- an element of a list that was made from another, and one that is there
pub slice_map : {A B : Type 0} (f : A → B) (xs : List A) (i : ℕ) (x : A) → slice_get xs i ≡ Some x → slice_get (map f xs) i ≡ Some (f x)
slice_map f [] i x e = absurd (none-some x e)
slice_map f (y ∷ xs) zero x e = ap (λ z. Some (f z)) (same_Some y x e)
slice_map f (y ∷ xs) (suc i) x e = slice_map f xs i x e

pub slice_there : {A : Type 0} (xs : List A) (i : ℕ) → i < length xs → (x : A) × (slice_get xs i ≡ Some x)
slice_there [] i h = absurd (omega arith)
slice_there (x ∷ xs) zero h = (x, refl)
slice_there (x ∷ xs) (suc i) h = slice_there xs i (omega arith)

pub slice_replicate : {A : Type 0} (n i : ℕ) (x : A) → i < n → slice_get (replicate n x) i ≡ Some x
slice_replicate zero i x h = absurd (omega arith)
slice_replicate (suc n) zero x h = refl
slice_replicate (suc n) (suc i) x h = slice_replicate n i x (omega arith)

-- one of the first elements
pub get_take : {A : Type 0} (xs : List A) (n i : ℕ) → i < n → slice_get (take n xs) i ≡ slice_get xs i
get_take xs zero i less = absurd (omega arith)
get_take [] (suc n) i less = refl
get_take (x ∷ xs) (suc n) zero less = refl
get_take (x ∷ xs) (suc n) (suc i) less = get_take xs n i (omega arith)

-- what holds of all
pub all_at : {A : Type 0} (test : A → Bool) (xs : List A) (i : ℕ) (x : A) → list_all test xs ≡ true → slice_get xs i ≡ Some x → test x ≡ true
all_at test [] i x all at = absurd (none-some x at)
all_at test (y ∷ xs) zero x all at = ap test (sym (same_Some y x at)) ∙ (and_parts (test y) (list_all test xs) all).0
all_at test (y ∷ xs) (suc i) x all at = all_at test xs i x (and_parts (test y) (list_all test xs) all).1 at

-- the element that was written, and another one
pub set_same : {A : Type 0} (xs : List A) (i : ℕ) (a : A) → i < length xs → slice_get (slice_set xs i a) i ≡ Some a
set_same [] i a h = absurd (omega arith)
set_same (x ∷ xs) zero a h = refl
set_same (x ∷ xs) (suc i) a h = set_same xs i a (omega arith)

pub set_other : {A : Type 0} (xs : List A) (i j : ℕ) (a : A) → (i ≡ j → ⊥) → slice_get (slice_set xs i a) j ≡ slice_get xs j
set_other [] i j a h = refl
set_other (x ∷ xs) zero zero a h = absurd (h refl)
set_other (x ∷ xs) zero (suc j) a h = refl
set_other (x ∷ xs) (suc i) zero a h = refl
set_other (x ∷ xs) (suc i) (suc j) a h = set_other xs i j a (λ e. h (ap suc e))

pub set_twice : {A : Type 0} (xs : List A) (i : ℕ) (a b : A) → slice_set (slice_set xs i a) i b ≡ slice_set xs i b
set_twice [] i a b = refl
set_twice (x ∷ xs) zero a b = refl
set_twice (x ∷ xs) (suc i) a b = ap (λ l. x ∷ l) (set_twice xs i a b)

-- an element that is set below others, above them, and between them
pub set_front : {A : Type 0} (xs ys : List A) (i : ℕ) (a : A) → i < length xs → slice_set (xs ++ ys) i a ≡ slice_set xs i a ++ ys
set_front [] ys i a h = absurd (omega arith)
set_front (x ∷ xs) ys zero a h = refl
set_front (x ∷ xs) ys (suc i) a h = ap (λ l. x ∷ l) (set_front xs ys i a (omega arith))

pub set_above : {A : Type 0} (xs ys : List A) (i : ℕ) (a : A) → slice_set (xs ++ ys) (length xs + i) a ≡ xs ++ slice_set ys i a
set_above [] ys i a = let z : 0 + i ≡ i = omega arith in ap (λ n. slice_set ys n a) z
set_above (x ∷ xs) ys i a =
    let z : length (x ∷ xs) + i ≡ suc (length xs + i) = omega arith in
    ap (λ n. slice_set (x ∷ (xs ++ ys)) n a) z ∙ ap (λ l. x ∷ l) (set_above xs ys i a)

pub set_middle : {A : Type 0} (front : List A) (x y : A) (behind : List A) → slice_set (front ++ x ∷ behind) (length front) y ≡ front ++ y ∷ behind
set_middle [] x y behind = refl
set_middle (z ∷ front) x y behind = ap (λ l. z ∷ l) (set_middle front x y behind)

-- the third of some elements behind others
pub set_third : {A : Type 0} (front : List A) (a b c d : A) (behind : List A)
    → slice_set (front ++ (a ∷ b ∷ c ∷ behind)) (length front + 2) d ≡ front ++ (a ∷ b ∷ d ∷ behind)
set_third [] a b c d behind = refl
set_third (x ∷ front) a b c d behind =
    let e : length (x ∷ front) + 2 ≡ suc (length front + 2) = omega arith in
    ap (λ n. slice_set (x ∷ (front ++ (a ∷ b ∷ c ∷ behind))) n d) e ∙ ap (λ l. x ∷ l) (set_third front a b c d behind)

-- the elements from one on
pub drop_at : {A : Type 0} (xs : List A) (d : ℕ) (x : A) → slice_get xs d ≡ Some x → drop d xs ≡ x ∷ drop (suc d) xs
drop_at [] d x e = absurd (none-some x e)
drop_at (y ∷ xs) zero x e = ap (λ z. z ∷ xs) (same_Some y x e)
drop_at (y ∷ xs) (suc d) x e = drop_at xs d x e

pub take_drop : {A : Type 0} (xs : List A) (d : ℕ) → xs ≡ take d xs ++ drop d xs
take_drop xs zero = refl
take_drop [] (suc d) = refl
take_drop (x ∷ xs) (suc d) = ap (λ l. x ∷ l) (take_drop xs d)

-- and where one is set
pub take_set : {A : Type 0} (xs : List A) (d : ℕ) (a : A) → d < length xs → take (suc d) (slice_set xs d a) ≡ take d xs ++ a ∷ []
take_set [] d a h = absurd (omega arith)
take_set (x ∷ xs) zero a h = refl
take_set (x ∷ xs) (suc d) a h = ap (λ l. x ∷ l) (take_set xs d a (omega arith))

pub drop_set : {A : Type 0} (xs : List A) (d more : ℕ) (a : A) → drop (suc (d + more)) (slice_set xs d a) ≡ drop (suc (d + more)) xs
drop_set [] d more a = refl
drop_set (x ∷ xs) zero more a = refl
drop_set (x ∷ xs) (suc d) more a =
    let e : suc d + more ≡ suc (d + more) = omega arith in
    ap (λ n. drop n (slice_set xs d a)) e ∙ drop_set xs d more a ∙ ap (λ n. drop n xs) (sym e)

-- the elements from a place on, each of which is known
pub row_at : {A B : Type 0} (f : A → B) (xs : List A) (cells : List B) (d : ℕ)
    → ((k : ℕ) (x : A) → slice_get xs k ≡ Some x → slice_get cells (d + k) ≡ Some (f x)) → take (length xs) (drop d cells) ≡ map f xs
row_at f [] cells d each = refl
row_at f (x ∷ xs) cells d each =
    let here : d + 0 ≡ d = omega arith in
    let rest = row_at f xs cells (suc d)
    (λ k y at. let e : d + suc k ≡ suc d + k = omega arith in ap (slice_get cells) (sym e) ∙ each (suc k) y at) in
    ap (take (suc (length xs))) (drop_at cells d (f x) (ap (slice_get cells) (sym here) ∙ each 0 x refl)) ∙ ap (λ l. f x ∷ l) rest

-- two more elements
pub length_two : {A : Type 0} (below : List A) (a b : A) → length ((below ++ a ∷ []) ++ b ∷ []) ≡ length below + 2
length_two below a b = omega (arith, length-append below (a ∷ []), length-append (below ++ a ∷ []) (b ∷ []))

pub length_one : {A : Type 0} (below : List A) (a : A) → length (below ++ a ∷ []) ≡ length below + 1
length_one below a = omega (arith, length-append below (a ∷ []))
