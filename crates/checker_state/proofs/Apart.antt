-- Places that don't overlap: what is put at one, or at a part of it, leaves each part of the other alone.
use Rattle.std.proofs.Common.{arith, ◌≡◌, ◌∙◌, ap, refl, subst, sym, ℕ, Bool, true, false, cond, ◌&&◌, nat_eq, List, [], ◌∷◌, ◌++◌, append-nil, Option}
use Rattle.std.proofs.Common.{Some}
use Rattle.std.proofs.lemmas.Int.{ints}
use Rattle.std.proofs.lemmas.Bool.{and_parts, and_from, eq-eqb, eqb-true, false_from_ne_true}
use Rattle.std.proofs.lemmas.List.{append_cancel_left}
use Rattle.std.specs.Cmp.{int_eq_equiv}
use Rattle.std.specs.Cmp.Lexicographic.{pointwise}
use Rattle.meaning.specs.declared.value.Value.{Value}
use Rattle.types.specs.declared.form.Step.{Step}
use Rattle.types.specs.declared.form.Step.TheVariants.{Element, Field}
use Rattle.meaning.specs.Store.{Place, Store, step_eq, place_eq, is_beginning, overlap, stored, written}
use Rattle.checker_state.specs.Holds.{part_of}

-- ---- places that are the same

step-itself : (s : Step) → step_eq s s ≡ true
step-itself (Element index) = int_eq_equiv.refl index
step-itself (Field position) = eq-eqb position position refl

steps-themselves : (steps : List Step) → pointwise step_eq steps steps ≡ true
steps-themselves [] = refl
steps-themselves (s ∷ steps) = and_from (step_eq s s) (pointwise step_eq steps steps) (step-itself s) (steps-themselves steps)

step-same : (s t : Step) → step_eq s t ≡ true → s ≡ t
step-same (Element i) (Element j) is = let same : i ≡ j = grind (arith, ints) in ap Element same
step-same (Field a) (Field b) is = ap Field (eqb-true a b is)
step-same (Element i) (Field b) is = absurd (cc)
step-same (Field a) (Element j) is = absurd (cc)

steps-same : (first second : List Step) → pointwise step_eq first second ≡ true → first ≡ second
steps-same [] [] is = refl
steps-same [] (t ∷ second) is = absurd (cc)
steps-same (s ∷ first) [] is = absurd (cc)
steps-same (s ∷ first) (t ∷ second) is =
    let parts = and_parts (step_eq s t) (pointwise step_eq first second) is in
    ap (λ (x : Step). x ∷ first) (step-same s t parts.0) ∙ ap (λ (xs : List Step). t ∷ xs) (steps-same first second parts.1)

pub place-same : (p q : Place) → place_eq p q ≡ true → p ≡ q
place-same p q is =
    let one = and_parts (nat_eq p.activation q.activation) (nat_eq p.variable q.variable && pointwise step_eq p.steps q.steps) is in
    let two = and_parts (nat_eq p.variable q.variable) (pointwise step_eq p.steps q.steps) one.1 in
    ap (λ (n : ℕ). record p { activation = n }) (eqb-true p.activation q.activation one.0)
    ∙ ap (λ (n : ℕ). record p { activation = q.activation; variable = n }) (eqb-true p.variable q.variable two.0)
    ∙ ap (λ (s : List Step). record q { steps = s }) (steps-same p.steps q.steps two.1)

same-both : (p : Place) (test : Bool) → test ≡ true → (nat_eq p.activation p.activation && (nat_eq p.variable p.variable && test)) ≡ true
same-both p test is =
    and_from (nat_eq p.activation p.activation) (nat_eq p.variable p.variable && test) (eq-eqb p.activation p.activation refl)
    (and_from (nat_eq p.variable p.variable) test (eq-eqb p.variable p.variable refl) is)

pub place-itself : (p : Place) → place_eq p p ≡ true
place-itself p = same-both p (pointwise step_eq p.steps p.steps) (steps-themselves p.steps)

-- a part of a place
abbrev pub part : Place → List Step → Place
part p steps = record p { steps = p.steps ++ steps }

-- parts of a place that are the same
pub parts-same : (p : Place) (first second : List Step) → place_eq (part p first) (part p second) ≡ true → first ≡ second
parts-same p first second is = append_cancel_left p.steps first second (ap (λ (q : Place). q.steps) (place-same (part p first) (part p second) is))

-- ---- places that overlap

either-so : (a b c d : Bool) → a ≡ true → b ≡ true → cond c true d ≡ true → cond (a && c) true (b && d) ≡ true
either-so true true c d a_is b_is is = is
either-so false b c d a_is b_is is = absurd (cc)
either-so true false c d a_is b_is is = absurd (cc)

-- steps that go on alike begin alike
begin-alike : (ps qs first second : List Step) → pointwise step_eq (ps ++ first) (qs ++ second) ≡ true
    → cond (is_beginning ps qs) true (is_beginning qs ps) ≡ true
begin-alike [] qs first second is = refl
begin-alike (s ∷ ps) [] first second is = refl
begin-alike (s ∷ ps) (t ∷ qs) first second is =
    let parts = and_parts (step_eq s t) (pointwise step_eq (ps ++ first) (qs ++ second)) is in
    let back : step_eq t s ≡ true = subst (λ x. step_eq x s ≡ true) (step-same s t parts.0) (step-itself s) in
    either-so (step_eq s t) (step_eq t s) (is_beginning ps qs) (is_beginning qs ps) parts.0 back (begin-alike ps qs first second parts.1)

-- places of which parts are the same overlap
parts-overlap : (p q : Place) (first second : List Step) → place_eq (part p first) (part q second) ≡ true → overlap p q ≡ true
parts-overlap p q first second is =
    let rest = nat_eq p.variable q.variable && pointwise step_eq (p.steps ++ first) (q.steps ++ second) in
    let one = and_parts (nat_eq p.activation q.activation) rest is in
    let two = and_parts (nat_eq p.variable q.variable) (pointwise step_eq (p.steps ++ first) (q.steps ++ second)) one.1 in
    let either = cond (is_beginning p.steps q.steps) true (is_beginning q.steps p.steps) in
    and_from (nat_eq p.activation q.activation) (nat_eq p.variable q.variable && either) one.0
    (and_from (nat_eq p.variable q.variable) either two.0 (begin-alike p.steps q.steps first second two.1))

-- a place that is a part of another overlaps it
pub part-overlaps : (p q : Place) (steps : List Step) → place_eq p (part q steps) ≡ true → overlap p q ≡ true
part-overlaps p q steps is =
    parts-overlap p q [] steps (subst (λ ps. place_eq (record p { steps = ps }) (part q steps) ≡ true) (sym (append-nil p.steps)) is)

-- ---- what is stored

pub entire-stored : (store : Store) (p : Place) → part_of store (Some p) [] ≡ stored store p
entire-stored store p = ap (λ (steps : List Step). stored store (record p { steps = steps })) (append-nil p.steps)

-- what was written at a place is there
pub written-stored : (store : Store) (p : Place) (v : Value) → stored (written store p v) p ≡ Some v
written-stored store p v = ap (λ (same : Bool). cond same (Some v) (stored store p)) (place-itself p)

-- what was put at a part of a place leaves each part of one that the place doesn't overlap
pub part-kept : (store : Store) (entry : Option Value) (first : List Step) (p q : Place) (steps : List Step) → (overlap p q ≡ true → ⊥)
    → part_of ((part p first, entry) ∷ store) (Some q) steps ≡ part_of store (Some q) steps
part-kept store entry first p q steps apart =
    ap (λ (same : Bool). cond same entry (stored store (part q steps)))
    (false_from_ne_true (place_eq (part p first) (part q steps)) (λ same. apart (parts-overlap p q first steps same)))

-- the same where it was put at the place
pub entry-kept : (store : Store) (entry : Option Value) (p q : Place) (steps : List Step) → (overlap p q ≡ true → ⊥)
    → part_of ((p, entry) ∷ store) (Some q) steps ≡ part_of store (Some q) steps
entry-kept store entry p q steps apart =
    ap (λ (same : Bool). cond same entry (stored store (part q steps)))
    (false_from_ne_true (place_eq p (part q steps)) (λ same. apart (part-overlaps p q steps same)))
