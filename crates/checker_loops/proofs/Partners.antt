-- The variables that are listed in a pair with each: what one pair more adds.
use Rattle.std.proofs.Common.{arith, ◌≡◌, ◌≢◌, ◌∙◌, sym, ap, ap₂, refl, ◌||◌, subst, ℕ, ◌+◌, ◌<◌, Bool, true, false, cond, nat_eq, List, [], ◌∷◌, ◌++◌, map}
use Rattle.std.proofs.Common.{append-nil, append_assoc, get_or, length, take}
use Rattle.std.specs.Prelude.{slice_set}
use Rattle.std.specs.Global.{Vec}
use Rattle.std.proofs.lemmas.Bool.{eq-eqb, eqb-true}
use Rattle.std.proofs.lemmas.List.{flat_map_more, map-append, get_or_past, get_or-set_other, get_or-set_same, length-set, take_more}
use Rattle.std.proofs.lemmas.List.Folds.{list_any-append}
use Rattle.certificate.specs.declared.AliasPair.{AliasPair}
use Rattle.checker_state.specs.Loops.{is_among}
use Rattle.checker_loops.specs.Pairs.{aliases_of, partner}
use Rattle.checker_loops.specs.View.{ArePartners, HaveEntered, partners_at, said_pair, said_pairs}

abbrev pub rows_in : List (Vec ℕ) → List (List ℕ)
rows_in rows = map (λ (row : Vec ℕ). row.items) rows

-- another one in a row
abbrev pub put : List (List ℕ) → ℕ → ℕ → List (List ℕ)
put rows row other = slice_set rows row (get_or rows row [] ++ other ∷ [])

abbrev if_same : ℕ → ℕ → ℕ → List ℕ
if_same row root other = cond (nat_eq row root) (other ∷ []) []

put-cases : (rows : List (List ℕ)) (row other root : ℕ) (same : Bool) → nat_eq row root ≡ same → row < length rows
    → get_or (put rows row other) root [] ≡ get_or rows root [] ++ cond same (other ∷ []) []
put-cases rows row other root true same inside =
    subst (λ r. get_or (put rows row other) r [] ≡ get_or rows r [] ++ other ∷ []) (eqb-true row root same)
    (get_or-set_same rows row (get_or rows row [] ++ other ∷ []) [] inside)
put-cases rows row other root false same inside =
    let apart : root ≢ row = λ is. let e : nat_eq row root ≡ true = eq-eqb row root (sym is) in cc in
    get_or-set_other rows row root (get_or rows row [] ++ other ∷ []) [] apart ∙ sym (append-nil (get_or rows root []))

put-at : (rows : List (List ℕ)) (row other root : ℕ) → row < length rows
    → get_or (put rows row other) root [] ≡ get_or rows root [] ++ if_same row root other
put-at rows row other root inside = put-cases rows row other root (nat_eq row root) refl inside

pub length-put : (rows : List (List ℕ)) (row other : ℕ) → length (put rows row other) ≡ length rows
length-put rows row other = length-set rows row (get_or rows row [] ++ other ∷ [])

pub both-cases : (first second root : ℕ) (f s : Bool) → nat_eq first root ≡ f → nat_eq second root ≡ s → first ≢ second
    → cond f (second ∷ []) [] ++ cond s (first ∷ []) [] ≡ cond f (second ∷ []) (cond s (first ∷ []) [])
both-cases first second root true true f_is s_is apart =
    absurd (apart (eqb-true first root f_is ∙ sym (eqb-true second root s_is)))
both-cases first second root true false f_is s_is apart = refl
both-cases first second root false s f_is s_is apart = refl

pub one-case : (row root : ℕ) (same : Bool) → cond same (row ∷ []) [] ≡ cond same (row ∷ []) (cond same (row ∷ []) [])
one-case row root true = refl
one-case row root false = refl

-- a pair of two variables is entered at both
pub entered-both : (old wide once new : List (Vec ℕ)) (pair : AliasPair) → ((root : ℕ) → partners_at wide root ≡ partners_at old root)
    → pair.first < length (rows_in wide) → pair.second < length (rows_in wide) → pair.first ≢ pair.second
    → rows_in once ≡ put (rows_in wide) pair.first pair.second → rows_in new ≡ put (rows_in once) pair.second pair.first
    → HaveEntered pair old new
entered-both old wide once new pair same first_inside second_inside apart once_is new_is = λ root.
    let inside : pair.second < length (rows_in once) =
    subst (λ n. pair.second < n) (sym (ap length once_is ∙ length-put (rows_in wide) pair.first pair.second)) second_inside in
    ap (λ rows. get_or rows root []) new_is
    ∙ put-at (rows_in once) pair.second pair.first root inside
    ∙ ap (λ rows. get_or rows root [] ++ if_same pair.second root pair.first) once_is
    ∙ ap (λ row. row ++ if_same pair.second root pair.first) (put-at (rows_in wide) pair.first pair.second root first_inside)
    ∙ append_assoc (partners_at wide root) (if_same pair.first root pair.second) (if_same pair.second root pair.first)
    ∙ ap (λ row. row ++ (if_same pair.first root pair.second ++ if_same pair.second root pair.first)) (same root)
    ∙ ap (λ more. partners_at old root ++ more)
    (both-cases pair.first pair.second root (nat_eq pair.first root) (nat_eq pair.second root) refl refl apart)

-- a pair of one variable is entered once
pub entered-one : (old wide new : List (Vec ℕ)) (pair : AliasPair) → ((root : ℕ) → partners_at wide root ≡ partners_at old root)
    → pair.first < length (rows_in wide) → pair.first ≡ pair.second
    → rows_in new ≡ put (rows_in wide) pair.first pair.second → HaveEntered pair old new
entered-one old wide new pair same inside alone new_is = λ root.
    ap (λ rows. get_or rows root []) new_is
    ∙ put-at (rows_in wide) pair.first pair.second root inside
    ∙ ap (λ row. row ++ if_same pair.first root pair.second) (same root)
    ∙ ap (λ more. partners_at old root ++ more)
    (ap (λ second. if_same pair.first root second) (sym alone)
    ∙ one-case pair.first root (nat_eq pair.first root)
    ∙ ap (λ second. cond (nat_eq pair.first root) (second ∷ []) (cond (nat_eq second root) (pair.first ∷ []) [])) alone)

flat-more : (root : ℕ) (pair : ℕ × ℕ) (pairs : List (ℕ × ℕ)) → aliases_of pairs root ++ partner root pair ≡ aliases_of (pairs ++ pair ∷ []) root
flat-more root pair pairs = flat_map_more (partner root) [] pairs pair

said-more : (pairs : List AliasPair) (pair : AliasPair) → said_pairs pairs ++ said_pair pair ∷ [] ≡ said_pairs (pairs ++ pair ∷ [])
said-more pairs pair = sym (map-append said_pair pairs (pair ∷ []))

-- none is listed with no pairs
pub partners-none : ArePartners [] []
partners-none = λ root. get_or_past [] root [] (omega arith)

-- one pair more
pub aliases-more : (pairs : List AliasPair) (i : ℕ) (pair : AliasPair) (root : ℕ) → i < length pairs → pair ≡ get_or pairs i pair
    → aliases_of (said_pairs (take i pairs)) root ++ partner root (said_pair pair) ≡ aliases_of (said_pairs (take (i + 1) pairs)) root
aliases-more pairs i pair root inside is =
    flat-more root (said_pair pair) (said_pairs (take i pairs))
    ∙ ap (λ all. aliases_of all root) (said-more (take i pairs) pair ∙ ap said_pairs (sym (take_more pairs i pair inside
    ∙ ap (λ one. take i pairs ++ one ∷ []) (sym is))))

pub partners-more : (pairs : List AliasPair) (i : ℕ) (pair : AliasPair) (old new : List (Vec ℕ)) → i < length pairs → pair ≡ get_or pairs i pair
    → HaveEntered pair old new → ArePartners (said_pairs (take i pairs)) old → ArePartners (said_pairs (take (i + 1) pairs)) new
partners-more pairs i pair old new inside is entered so_far = λ root.
    entered root ∙ ap (λ row. row ++ partner root (said_pair pair)) (so_far root) ∙ aliases-more pairs i pair root inside is

-- ---- a pair is one of both

back-cases : (a b one other : ℕ) (a1 a2 b1 b2 : Bool) → nat_eq a one ≡ a1 → nat_eq a other ≡ a2 → nat_eq b one ≡ b1 → nat_eq b other ≡ b2
    → is_among other (cond a1 (b ∷ []) (cond b1 (a ∷ []) [])) ≡ is_among one (cond a2 (b ∷ []) (cond b2 (a ∷ []) []))
back-cases a b one other true true b1 b2 a1_is a2_is b1_is b2_is =
    ap (λ root. is_among root (b ∷ [])) (sym (eqb-true a other a2_is) ∙ eqb-true a one a1_is)
back-cases a b one other true false b1 true a1_is a2_is b1_is b2_is = ap (λ is. is || false) (b2_is ∙ sym a1_is)
back-cases a b one other true false b1 false a1_is a2_is b1_is b2_is = ap (λ is. is || false) b2_is
back-cases a b one other false true true b2 a1_is a2_is b1_is b2_is = ap (λ is. is || false) (a2_is ∙ sym b1_is)
back-cases a b one other false true false b2 a1_is a2_is b1_is b2_is = sym (ap (λ is. is || false) b1_is)
back-cases a b one other false false true true a1_is a2_is b1_is b2_is = ap (λ is. is || false) (a2_is ∙ sym a1_is)
back-cases a b one other false false true false a1_is a2_is b1_is b2_is = ap (λ is. is || false) a2_is
back-cases a b one other false false false true a1_is a2_is b1_is b2_is = sym (ap (λ is. is || false) a1_is)
back-cases a b one other false false false false a1_is a2_is b1_is b2_is = refl

partner-back : (pair : ℕ × ℕ) (one other : ℕ) → is_among other (partner one pair) ≡ is_among one (partner other pair)
partner-back pair one other =
    back-cases pair.0 pair.1 one other (nat_eq pair.0 one) (nat_eq pair.0 other) (nat_eq pair.1 one) (nat_eq pair.1 other) refl refl refl refl

-- two variables are a listed pair both ways
pub listed_back : (pairs : List (ℕ × ℕ)) (one other : ℕ) → is_among other (aliases_of pairs one) ≡ is_among one (aliases_of pairs other)
listed_back [] one other = refl
listed_back (pair ∷ pairs) one other =
    list_any-append (λ (x : ℕ). nat_eq x other) (partner one pair) (aliases_of pairs one)
    ∙ ap₂ (λ here there. here || there) (partner-back pair one other) (listed_back pairs one other)
    ∙ sym (list_any-append (λ (x : ℕ). nat_eq x one) (partner other pair) (aliases_of pairs other))
