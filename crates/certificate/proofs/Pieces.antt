-- Words cut before each byte that begins a step.
use Rattle.std.proofs.Common.{◌≡◌, ℕ, suc, ◌+◌, ◌<◌, ◌≤◌, Bool, true, false, nat_lt, cond, not, List, [], ◌∷◌, length, take, drop, Option, Some, None}
use Rattle.std.proofs.Common.{Result, Ok, Err, refl, sym, ap, ◌∙◌, arith}
use Rattle.std.proofs.lemmas.Bool.Decides.{nat_tests}
use Rattle.std.specs.Bool.{if◌then◌else◌}
use Rattle.std.specs.List.{list_all, position, position_or_len}
use Rattle.domain.specs.Facts.{Path, Step}
use Rattle.certificate.specs.declared.words.LineFault.{LineFault}
use Rattle.certificate.specs.declared.words.LineFault.TheVariants.{NotInGrammar, OutOfRange}
use Rattle.certificate.specs.Building.{pieces, steps_in}
use Rattle.certificate.specs.Paths.{begins_step, cut, is_piece, path_of, steps_of}
use Rattle.certificate.specs.Words.{◌>>=◌, both, variable_of}

-- ---- the first place of a list

place-at : (k n place : ℕ) (within : Bool) → nat_lt k n ≡ within → cond within (Some k) None ≡ Some place → (place ≡ k) × (place ≤ n)
place-at k n place true is found = (cc, grind (arith, nat_tests))
place-at k n place false is found = cc

pub place_found : {A : Type 0} (test : A → Bool) (xs : List A) (place : ℕ) → position test xs ≡ Some place
    → (place ≡ position_or_len test xs) × (place ≤ length xs)
place_found test xs place found = place-at (position_or_len test xs) (length xs) place _ refl found

place-end : (k n : ℕ) (within : Bool) → nat_lt k n ≡ within → (let r : Option ℕ = cond within (Some k) None in r ≡ None) → n ≤ k
place-end k n true is none = cc
place-end k n false is none = grind (arith, nat_tests)

upper : {A : Type 0} (test : A → Bool) (xs : List A) → position_or_len test xs ≤ length xs
upper test [] = omega arith
upper test (x ∷ xs) = step (test x) _ _ (upper test xs)
  where
    step : (ends : Bool) (k n : ℕ) → k ≤ n → cond (not ends) (1 + k) 0 ≤ suc n
    step true k n small = omega arith
    step false k n small = omega arith

pub place_missed : {A : Type 0} (test : A → Bool) (xs : List A) → position test xs ≡ None → length xs ≡ position_or_len test xs
place_missed test xs missed =
    let low = place-end (position_or_len test xs) (length xs) _ refl missed in omega (arith, low, upper test xs)

-- ---- pieces

one_more : (n : ℕ) → 1 + n ≡ suc n
one_more n = omega arith

cut_step : (begins : Bool) (byte n : ℕ) (more : List ℕ) → ◌≡◌ {A = List ℕ × List (List ℕ)} (cut more) (take n more, pieces (drop n more))
    → ◌≡◌ {A = List ℕ × List (List ℕ)}
    (if begins then ([], (byte ∷ (cut more).0) ∷ (cut more).1) else (byte ∷ (cut more).0, (cut more).1))
    (take (cond (not begins) (1 + n) 0) (byte ∷ more), pieces (drop (cond (not begins) (1 + n) 0) (byte ∷ more)))
cut_step true byte n more is = refl
cut_step false byte n more is = rw one_more (ap (λ (p : List ℕ × List (List ℕ)). let q : List ℕ × List (List ℕ) = (byte ∷ p.0, p.1) in q) is)

-- what stands before the first step of a word, and the pieces from there on
pub cut_is : (text : List ℕ)
    → ◌≡◌ {A = List ℕ × List (List ℕ)} (cut text) (take (position_or_len begins_step text) text, pieces (drop (position_or_len begins_step text) text))
cut_is [] = refl
cut_is (byte ∷ more) = cut_step (begins_step byte) byte (position_or_len begins_step more) more (cut_is more)

-- the first piece of a text ends before the next step
pub pieces_next : (text rest : List ℕ) (end : ℕ) → 0 < length text → end ≡ position_or_len begins_step (drop 1 text) + 1 → rest ≡ drop end text
    → pieces text ≡ take end text ∷ pieces rest
pieces_next [] rest end some is rest_is = absurd (omega arith)
pieces_next (byte ∷ more) rest end some is rest_is =
    let one : end ≡ suc (position_or_len begins_step more) = omega (arith, is) in
    rw (rest_is, one) (ap (λ (p : List ℕ × List (List ℕ)). (byte ∷ p.0) ∷ p.1) (cut_is more))

-- ---- the path of a word

abbrev made : Result ℕ LineFault → Result (List Step) LineFault → Result Path LineFault
made variable steps = both variable steps >>= λ parts. Ok (record { root = parts.0; steps = parts.1 })

path_cut : (elements : Bool) (word : List ℕ) (end : ℕ) → end ≡ position_or_len begins_step word
    → path_of elements word ≡ made (variable_of (take end word)) (steps_of elements (pieces (drop end word)))
path_cut elements word end is =
    ap (λ p. made (variable_of p.0) (steps_of elements p.1)) (cut_is word)
    ∙ ap (λ k. made (variable_of (take k word)) (steps_of elements (pieces (drop k word)))) (sym is)

made_wrong : (variable : Result ℕ LineFault) → made variable (Err NotInGrammar) ≡ Err NotInGrammar
made_wrong (Ok root) = refl
made_wrong (Err NotInGrammar) = refl
made_wrong (Err OutOfRange) = refl

made_fault : (fault : LineFault) (steps : List Step) → made (Err fault) (Ok steps) ≡ Err fault
made_fault NotInGrammar steps = refl
made_fault OutOfRange steps = refl

pub path_wrong : (elements : Bool) (word steps : List ℕ) (end : ℕ) → end ≡ position_or_len begins_step word → steps ≡ drop end word
    → list_all (is_piece elements) (pieces steps) ≡ false → Err NotInGrammar ≡ path_of elements word
path_wrong elements word steps end is steps_are wrong =
    sym (path_cut elements word end is ∙ ap (λ s. made (variable_of (take end word)) (steps_of elements (pieces s))) (sym steps_are)
    ∙ rw wrong (made_wrong (variable_of (take end word))))

pub path_fault : (elements : Bool) (word steps : List ℕ) (end : ℕ) (fault : LineFault) → end ≡ position_or_len begins_step word → steps ≡ drop end word
    → list_all (is_piece elements) (pieces steps) ≡ true → variable_of (take end word) ≡ Err fault → Err fault ≡ path_of elements word
path_fault elements word steps end fault is steps_are right fails =
    sym (path_cut elements word end is ∙ ap (λ s. made (variable_of (take end word)) (steps_of elements (pieces s))) (sym steps_are)
    ∙ rw (right, fails) (made_fault fault (steps_in steps)))

pub path_found : (elements : Bool) (word steps : List ℕ) (end root : ℕ) → end ≡ position_or_len begins_step word → steps ≡ drop end word
    → list_all (is_piece elements) (pieces steps) ≡ true → variable_of (take end word) ≡ Ok root
    → Ok (record { root = root; steps = steps_in steps }) ≡ path_of elements word
path_found elements word steps end root is steps_are right found =
    sym (path_cut elements word end is ∙ ap (λ s. made (variable_of (take end word)) (steps_of elements (pieces s))) (sym steps_are)
    ∙ rw (right, found) refl)
