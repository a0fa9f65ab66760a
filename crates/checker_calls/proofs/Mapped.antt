-- Elements of a list that are replaced one after another, and tests that join.
use Rattle.std.proofs.Common.{◌≡◌, ◌∙◌, ap, ap₂, refl, sym, ℕ, ◌+◌, ◌<◌, suc, zero, add-one, Bool, true, false, not, ◌||◌, List, [], ◌∷◌, ◌++◌, drop}
use Rattle.std.proofs.Common.{get_or, length, map, set, take, arith}
use Rattle.std.proofs.lemmas.List.{get_or-map, length-map, map-set}

-- ---- two tests

pub unless-so : (b d other : Bool) → b ≡ d → b ≡ false → not b ≡ (not d || other)
unless-so b false other same none = ap not same
unless-so b true other same none = absurd (cc)

pub where-so : (b d one other : Bool) → b ≡ d → b ≡ true → one ≡ other → one ≡ (not d || other)
where-so b true one other same so is = is
where-so b false one other same so is = absurd (cc)

-- ---- elements that are replaced one after another

replaced-next : {X : Type 0} (f : X → X) (old : List X) (i : ℕ) (x : X) → i < length old
    → x ≡ get_or (map f (take i old) ++ drop i old) i x
    → set (map f (take i old) ++ drop i old) i (f x) ≡ map f (take (i + 1) old) ++ drop (i + 1) old
replaced-next f [] i x inside is = absurd (omega (arith, inside))
replaced-next f (y ∷ old) zero x inside is = ap (λ z. f z ∷ old) is
replaced-next f (y ∷ old) (suc i) x inside is =
    rw add-one (ap (λ rest. f y ∷ rest) (replaced-next f old i x (omega (arith, inside)) is
    ∙ ap (λ k. map f (take k old) ++ drop k old) (let e : i + 1 ≡ suc i = omega arith in e)))

whole-length : {X : Type 0} (f : X → X) (xs : List X) (i : ℕ) → length (map f (take i xs) ++ drop i xs) ≡ length xs
whole-length f [] zero = refl
whole-length f [] (suc i) = refl
whole-length f (x ∷ xs) zero = refl
whole-length f (x ∷ xs) (suc i) = ap suc (whole-length f xs i)

-- the next element says what follows from what it said
pub said-next : {K X : Type 0} (said : K → X) (f : X → X) (old : List X) (now : List K) (i : ℕ) (new one : K) → i < length old
    → map said now ≡ map f (take i old) ++ drop i old → one ≡ get_or now i one → said new ≡ f (said one)
    → map said (set now i new) ≡ map f (take (i + 1) old) ++ drop (i + 1) old
said-next said f old now i new one inside so_far is new_is =
    let long = ap length so_far ∙ whole-length f old i in
    map-set said now i new
    ∙ ap₂ (λ all x. set all i x) so_far new_is
    ∙ replaced-next f old i (said one) inside
    (ap said is ∙ sym (get_or-map said now i one (said one) (omega (arith, inside, long, length-map now said)))
    ∙ ap (λ all. get_or all i (said one)) so_far)
