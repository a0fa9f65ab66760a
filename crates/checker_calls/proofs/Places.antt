-- Places that overlap, and pairs of variables that are listed.
use Rattle.std.proofs.Common.{arith, ◌≡◌, ⊎_elim, ◌⊎◌, inl, inr, ◌∙◌, sym, ap, ap₂, refl, ℕ, zero, suc, Bool, true, false, not, cond, ◌&&◌, ◌||◌}
use Rattle.std.proofs.Common.{nat_eq, List, [], ◌∷◌, ◌++◌, Option, Some, None}
use Rattle.std.specs.List.{Contains}
use Rattle.std.specs.Ordering.{int_eq}
use Rattle.std.proofs.lemmas.Bool.{and_from, and_parts, cases_eq, eq-eqb, eqb-true, false≢true, or_cases, or_left, or_right}
use Rattle.std.specs.Cmp.{int_eq_equiv}
use Rattle.std.proofs.lemmas.List.Folds.{list_any-append}
use Rattle.std.proofs.lemmas.Option.{none-some, same_Some}
use Rattle.types.specs.declared.form.Step.{Step}
use Rattle.types.specs.declared.form.Step.TheVariants as step
use Rattle.typed_tree.specs.Accesses.{Origin, root_of}
use Rattle.typed_tree.specs.declared.tree.PathStep.{PathStep}
use Rattle.typed_tree.specs.declared.tree.PathStep.TheVariants as path
use Rattle.typed_tree.specs.declared.tree.Selector.{Selector}
use Rattle.meaning.specs.Kinds.{way_of}
use Rattle.meaning.specs.Store.{Environment, Place, is_beginning, overlap, part, step_eq}
use Rattle.checker_state.specs.Holds.{Separate}
use Rattle.checker_state.specs.Loops.{is_among}
use Rattle.checker_loops.specs.Pairs.{aliases_of, partner}
use Rattle.checker_calls.specs.Actuals.{way_accessed}
use Rattle.checker_calls.specs.Overlaps.{are_parted, is_listed, may_overlap}

-- ---- places

step-back : (s t : Step) → step_eq s t ≡ true → step_eq t s ≡ true
step-back (step.Element i) (step.Element j) is = int_eq_equiv.symm j i ∙ is
step-back (step.Field a) (step.Field b) is = eq-eqb b a (sym (eqb-true a b is))
step-back (step.Element i) (step.Field b) is = is
step-back (step.Field a) (step.Element j) is = is

pub step-itself : (s : Step) → step_eq s s ≡ true
step-itself (step.Element index) = int_eq_equiv.refl index
step-itself (step.Field position) = eq-eqb position position refl

abbrev pub share : List Step → List Step → Bool
share ps qs = cond (is_beginning ps qs) true (is_beginning qs ps)

-- two places overlap where they are of one variable and one begins the other
pub record Overlaps (p q : Place) : Type 0 where
  pub activation : p.activation ≡ q.activation
  pub variable : p.variable ≡ q.variable
  pub steps : share p.steps q.steps ≡ true

pub overlaps-from : (p q : Place) → overlap p q ≡ true → Overlaps p q
overlaps-from p q is =
    let one = and_parts (nat_eq p.activation q.activation) (nat_eq p.variable q.variable && share p.steps q.steps) is in
    let two = and_parts (nat_eq p.variable q.variable) (share p.steps q.steps) one.1 in
    record {
      activation = eqb-true p.activation q.activation one.0;
      variable = eqb-true p.variable q.variable two.0;
      steps = two.1;
    }

pub overlaps-so : (p q : Place) → Overlaps p q → overlap p q ≡ true
overlaps-so p q so =
    and_from (nat_eq p.activation q.activation) (nat_eq p.variable q.variable && share p.steps q.steps) (eq-eqb p.activation q.activation so.activation)
    (and_from (nat_eq p.variable q.variable) (share p.steps q.steps) (eq-eqb p.variable q.variable so.variable) so.steps)

either-way : (a b : Bool) → cond a true b ≡ true → cond b true a ≡ true
either-way true true is = refl
either-way true false is = refl
either-way false true is = refl
either-way false false is = is

pub overlap-back : (p q : Place) → overlap p q ≡ true → overlap q p ≡ true
overlap-back p q is =
    let so = overlaps-from p q is in
    overlaps-so q p (record {
      activation = sym so.activation;
      variable = sym so.variable;
      steps = either-way (is_beginning p.steps q.steps) (is_beginning q.steps p.steps) so.steps;
    })

both-share : (a b c d : Bool) → a ≡ true → b ≡ true → cond c true d ≡ true → cond (a && c) true (b && d) ≡ true
both-share true true c d a_is b_is is = is
both-share false b c d a_is b_is is = absurd (false≢true a_is)
both-share true false c d a_is b_is is = absurd (false≢true b_is)

-- what goes on alike begins alike
pub begin-share : (ps qs more others : List Step) → is_beginning (ps ++ more) (qs ++ others) ≡ true → share ps qs ≡ true
begin-share [] qs more others is = refl
begin-share (s ∷ ps) [] more others is = refl
begin-share (s ∷ ps) (t ∷ qs) more others is =
    let parts = and_parts (step_eq s t) (is_beginning (ps ++ more) (qs ++ others)) is in
    both-share (step_eq s t) (step_eq t s) (is_beginning ps qs) (is_beginning qs ps) parts.0 (step-back s t parts.0)
    (begin-share ps qs more others parts.1)

cond-cases : (a b : Bool) → cond a true b ≡ true → (a ≡ true) ⊎ (b ≡ true)
cond-cases true b is = inl refl
cond-cases false b is = inr is

share-parts : (ps qs more others : List Step) → share (ps ++ more) (qs ++ others) ≡ true → share ps qs ≡ true
share-parts ps qs more others is =
    ⊎_elim (λ one. begin-share ps qs more others one)
    (λ other. either-way (is_beginning qs ps) (is_beginning ps qs) (begin-share qs ps others more other))
    (cond-cases (is_beginning (ps ++ more) (qs ++ others)) (is_beginning (qs ++ others) (ps ++ more)) is)

-- parts of places overlap only where these do
pub parts-overlap : (p q : Place) (more others : List Step) → overlap (record p { steps = p.steps ++ more }) (record q { steps = q.steps ++ others }) ≡ true
    → overlap p q ≡ true
parts-overlap p q more others is =
    let so = overlaps-from (record p { steps = p.steps ++ more }) (record q { steps = q.steps ++ others }) is in
    overlaps-so p q (record { activation = so.activation; variable = so.variable; steps = share-parts p.steps q.steps more others so.steps })

behind-beginning : (ps more others : List Step) → is_beginning (ps ++ more) (ps ++ others) ≡ true → is_beginning more others ≡ true
behind-beginning [] more others is = is
behind-beginning (s ∷ ps) more others is = behind-beginning ps more others (and_parts (step_eq s s) (is_beginning (ps ++ more) (ps ++ others)) is).1

-- ---- ways that part

parted-back : (one other : List PathStep) → are_parted one other ≡ true → are_parted other one ≡ true
parted-back [] other is = absurd (false≢true is)
parted-back (path.Element ∷ one) [] is = absurd (false≢true is)
parted-back (path.Field a ∷ one) [] is = absurd (false≢true is)
parted-back (path.Element ∷ one) (path.Element ∷ other) is = parted-back one other is
parted-back (path.Element ∷ one) (path.Field b ∷ other) is = absurd (false≢true is)
parted-back (path.Field a ∷ one) (path.Element ∷ other) is = absurd (false≢true is)
parted-back (path.Field a ∷ one) (path.Field b ∷ other) is =
    ⊎_elim (λ differ. or_left (not (nat_eq b a)) (are_parted other one) (ap not (swapped a b) ∙ differ))
    (λ later. or_right (not (nat_eq b a)) (are_parted other one) (parted-back one other later))
    (or_cases (not (nat_eq a b)) (are_parted one other) is)
  where
    swapped : (a b : ℕ) → nat_eq b a ≡ nat_eq a b
    swapped a b = nat_eq_back a b (nat_eq b a) (nat_eq a b) refl refl
      where
        nat_eq_back : (a b : ℕ) (x y : Bool) → nat_eq b a ≡ x → nat_eq a b ≡ y → nat_eq b a ≡ nat_eq a b
        nat_eq_back a b true y x_is y_is = x_is ∙ sym (eq-eqb a b (sym (eqb-true b a x_is)))
        nat_eq_back a b false true x_is y_is = eq-eqb b a (sym (eqb-true a b y_is)) ∙ sym y_is
        nat_eq_back a b false false x_is y_is = x_is ∙ sym y_is

-- neither begins the other
parted-ways : (way second : List Step) → are_parted (way_of way) (way_of second) ≡ true → is_beginning way second ≡ true → ⊥
parted-ways [] second parted is = false≢true parted
parted-ways (s ∷ way) [] parted is = false≢true is
parted-ways (step.Element i ∷ way) (step.Field q ∷ second) parted is = false≢true parted
parted-ways (step.Field p ∷ way) (step.Element j ∷ second) parted is = false≢true parted
parted-ways (step.Element i ∷ way) (step.Element j ∷ second) parted is =
    parted-ways way second parted (and_parts (int_eq i j) (is_beginning way second) is).1
parted-ways (step.Field p ∷ way) (step.Field q ∷ second) parted is =
    let parts = and_parts (nat_eq p q) (is_beginning way second) is in
    ⊎_elim (λ differ. false≢true (sym (ap not parts.0) ∙ differ))
    (λ later. parted-ways way second later parts.1)
    (or_cases (not (nat_eq p q)) (are_parted (way_of way) (way_of second)) parted)

-- parts of one variable on ways that part overlap nowhere
pub parted-apart : (p : Place) (way second : List Step) → are_parted (way_of way) (way_of second) ≡ true
    → overlap (record p { steps = p.steps ++ way }) (record p { steps = p.steps ++ second }) ≡ true → ⊥
parted-apart p way second parted is =
    let so = overlaps-from (record p { steps = p.steps ++ way }) (record p { steps = p.steps ++ second }) is in
    ⊎_elim (λ begun. parted-ways way second parted (behind-beginning p.steps way second begun))
    (λ begun. parted-ways second way (parted-back (way_of way) (way_of second) parted) (behind-beginning p.steps second way begun))
    (cond-cases (is_beginning (p.steps ++ way) (p.steps ++ second)) (is_beginning (p.steps ++ second) (p.steps ++ way)) so.steps)

-- ---- pairs

abbrev pub IsPair : List (ℕ × ℕ) → ℕ → ℕ → Type 0
IsPair pairs a b = Contains pairs (a, b) ⊎ Contains pairs (b, a)

pub pair-back : (pairs : List (ℕ × ℕ)) (a b : ℕ) → IsPair pairs a b → IsPair pairs b a
pair-back pairs a b is = ⊎_elim (λ one. inr one) (λ other. inl other) is

pair-more : (first : ℕ × ℕ) (pairs : List (ℕ × ℕ)) (a b : ℕ) → IsPair pairs a b → IsPair (first ∷ pairs) a b
pair-more first pairs a b is = ⊎_elim (λ one. inl (later (a, b) one)) (λ other. inr (later (b, a) other)) is
  where
    later : (pair : ℕ × ℕ) → Contains pairs pair → Contains (first ∷ pairs) pair
    later pair (k, within, at) = (suc k, omega (arith, within), at)

partner-is : (first : ℕ × ℕ) (a b : ℕ) → is_among b (partner a first) ≡ true → (first ≡ (a, b)) ⊎ (first ≡ (b, a))
partner-is first a b is = by (nat_eq first.0 a) (nat_eq first.1 a) refl refl is
  where
    alone : (x : ℕ) → (nat_eq x b || false) ≡ true → x ≡ b
    alone x is = ⊎_elim (λ same. eqb-true x b same) (λ none. absurd (false≢true none)) (or_cases (nat_eq x b) false is)

    by : (x y : Bool) → nat_eq first.0 a ≡ x → nat_eq first.1 a ≡ y → is_among b (cond x (first.1 ∷ []) (cond y (first.0 ∷ []) [])) ≡ true
        → (first ≡ (a, b)) ⊎ (first ≡ (b, a))
    by true y x_is y_is is = inl (λ i. (eqb-true first.0 a x_is i, alone first.1 is i))
    by false true x_is y_is is = inr (λ i. (alone first.0 is i, eqb-true first.1 a y_is i))
    by false false x_is y_is is = absurd (false≢true is)

-- what is listed is a pair
pub listed-pair : (pairs : List (ℕ × ℕ)) (a b : ℕ) → is_listed pairs a b ≡ true → IsPair pairs a b
listed-pair [] a b is = absurd (false≢true is)
listed-pair (first ∷ pairs) a b is =
    ⊎_elim
    (λ here.
    ⊎_elim (λ one. inl (0, omega arith, one)) (λ other. inr (0, omega arith, other)) (partner-is first a b here))
    (λ there. pair-more first pairs a b (listed-pair pairs a b there))
    (or_cases (is_among b (partner a first)) (is_among b (aliases_of pairs a))
    (sym (list_any-append (λ (other : ℕ). nat_eq other b) (partner a first) (aliases_of pairs a)) ∙ is))

among-partner : (a b : ℕ) → is_among b (partner a (a, b)) ≡ true
among-partner a b =
    ap (λ (x : Bool). is_among b (cond x (b ∷ []) (cond (nat_eq b a) (a ∷ []) []))) (eq-eqb a a refl)
    ∙ ap (λ (x : Bool). x || false) (eq-eqb b b refl)

among-partner_back : (a b : ℕ) → is_among b (partner a (b, a)) ≡ true
among-partner_back a b = by (nat_eq b a) refl
  where
    by : (x : Bool) → nat_eq b a ≡ x → is_among b (cond (nat_eq b a) (a ∷ []) (cond (nat_eq a a) (b ∷ []) [])) ≡ true
    by true is =
        ap (λ (x : Bool). is_among b (cond x (a ∷ []) (cond (nat_eq a a) (b ∷ []) []))) is
        ∙ ap (λ (x : Bool). x || false) (eq-eqb a b (sym (eqb-true b a is)))
    by false is =
        ap (λ (x : Bool). is_among b (cond x (a ∷ []) (cond (nat_eq a a) (b ∷ []) []))) is
        ∙ ap (λ (x : Bool). is_among b (cond x (b ∷ []) [])) (eq-eqb a a refl)
        ∙ ap (λ (x : Bool). x || false) (eq-eqb b b refl)

-- and a pair is listed
pub pair-listed : (pairs : List (ℕ × ℕ)) (a b : ℕ) → IsPair pairs a b → is_listed pairs a b ≡ true
pair-listed pairs a b is =
    ⊎_elim (λ one. found pairs (a, b) one (among-partner a b)) (λ other. found pairs (b, a) other (among-partner_back a b)) is
  where
    found : (pairs : List (ℕ × ℕ)) (pair : ℕ × ℕ) → Contains pairs pair → is_among b (partner a pair) ≡ true → is_listed pairs a b ≡ true
    found [] pair (k, within, at) among = absurd (omega (arith, within))
    found (first ∷ pairs) pair (zero, within, at) among =
        list_any-append (λ (other : ℕ). nat_eq other b) (partner a first) (aliases_of pairs a)
        ∙ or_left (is_among b (partner a first)) (is_among b (aliases_of pairs a)) (ap (λ (p : ℕ × ℕ). is_among b (partner a p)) at ∙ among)
    found (first ∷ pairs) pair (suc k, within, at) among =
        list_any-append (λ (other : ℕ). nat_eq other b) (partner a first) (aliases_of pairs a)
        ∙ or_right (is_among b (partner a first)) (is_among b (aliases_of pairs a)) (found pairs pair (k, omega (arith, within), at) among)

-- ---- what is accessed

pub part-there : (found : Option Place) (way : List Step) (p : Place) → part found way ≡ Some p
    → (home : Place) × (found ≡ Some home) × (record home { steps = home.steps ++ way } ≡ p)
part-there None way p is = absurd (none-some p is)
part-there (Some home) way p is = (home, refl, same_Some (record home { steps = home.steps ++ way }) p is)

-- parts of two variables overlap only where the checker knows that they may
pub may-overlap : (pairs : List (ℕ × ℕ)) (env : Environment) → Separate env pairs → (origin : Origin) (selectors : List Selector) (way : List Step)
    (other : Origin) (other_selectors : List Selector) (second : List Step) (p q : Place) → way_of way ≡ way_accessed origin selectors
    → way_of second ≡ way_accessed other other_selectors → part (env.variables (root_of origin)) way ≡ Some p
    → part (env.variables (root_of other)) second ≡ Some q → overlap p q ≡ true → may_overlap pairs origin selectors other other_selectors ≡ true
may-overlap pairs env separate origin selectors way other other_selectors second p q one two p_is q_is over =
    let a = root_of origin in
    let b = root_of other in
    let apart = not (are_parted (way_accessed origin selectors) (way_accessed other other_selectors)) in
    let first = part-there (env.variables a) way p p_is in
    let last = part-there (env.variables b) second q q_is in
    let parts : overlap (record (first.0) { steps = first.0.steps ++ way }) (record (last.0) { steps = last.0.steps ++ second }) ≡ true =
    ap (λ (x : Place). overlap x (record (last.0) { steps = last.0.steps ++ second })) first.2 ∙ ap (overlap p) last.2 ∙ over in
    ⊎_elim
    (λ (same : a ≡ b).
    or_left (nat_eq a b && apart) (is_listed pairs a b)
    (and_from (nat_eq a b) apart (eq-eqb a b same)
    (ap not (ap₂ are_parted (sym one) (sym two))
    ∙ unparted first.0 last.0 (same_Some first.0 last.0 (sym first.1 ∙ ap env.variables same ∙ last.1)) parts (are_parted (way_of way) (way_of second)) refl)))
    (λ differ.
    or_right (nat_eq a b && apart) (is_listed pairs a b)
    (pair-listed pairs a b (separate a b first.0 last.0 first.1 last.1 differ (parts-overlap first.0 last.0 way second parts))))
    (cases_eq a b)
  where
    unparted : (a b : Place) → a ≡ b → overlap (record a { steps = a.steps ++ way }) (record b { steps = b.steps ++ second }) ≡ true
        → (parted : Bool) → are_parted (way_of way) (way_of second) ≡ parted → not parted ≡ true
    unparted a b same parts true is =
        absurd (parted-apart a way second is
        (ap (λ (x : Place). overlap (record a { steps = a.steps ++ way }) (record x { steps = x.steps ++ second })) same ∙ parts))
    unparted a b same parts false is = refl
