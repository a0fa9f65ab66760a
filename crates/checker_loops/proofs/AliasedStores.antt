-- What stores of values to a variable, or to components of it, leave: they have them, aliases may have them too, and all else is as it was.
use Rattle.std.proofs.Common.{arith, ◌≡◌, ◌≢◌, ⊎_elim, ◌⊎◌, inl, inr, ◌∙◌, sym, ap, refl, subst, ℕ, zero, suc, Bool, true, false, cond, ◌||◌}
use Rattle.std.proofs.Common.{nat_eq, List, [], ◌∷◌, Option, Some, None}
use Rattle.std.specs.List.{Contains, list_all}
use Rattle.std.proofs.lemmas.Bool.{both_ways, cases_Bool, cases_eq, eq-eqb, eqb-true, false_from_ne_true, or_parts}
use Rattle.std.proofs.lemmas.List.Folds.{list_all_at, list_any-append}
use Rattle.types.specs.declared.form.Step.{Step}
use Rattle.meaning.specs.declared.value.Value.{Value}
use Rattle.meaning.specs.Store.{Environment, Place, Store, overlap, place_eq, stored, written}
use Rattle.meaning.specs.Store as store
use Rattle.checker_state.specs.Holds.{HasValue, Separate, moment, part_of, value_at}
use Rattle.checker_state.specs.Knows.{IsKept, OneChanges}
use Rattle.checker_state.specs.Loops.{is_among}
use Rattle.checker_loops.specs.Pairs.{aliases_of, partner}
use Rattle.checker_state.proofs.Apart.{part, part-kept, parts-same, place-itself, place-same}

-- ---- lists

pub at-head : {X : Type 0} (x : X) (xs : List X) → Contains (x ∷ xs) x
at-head x xs = (0, omega arith, refl)

pub in-tail : {X : Type 0} (x y : X) (xs : List X) → Contains xs y → Contains (x ∷ xs) y
in-tail x y xs (k, within, is) = (suc k, omega (arith, within), is)

pub head-or_tail : {X : Type 0} (x y : X) (xs : List X) → Contains (x ∷ xs) y → (x ≡ y) ⊎ Contains xs y
head-or_tail x y xs (zero, within, is) = inl is
head-or_tail x y xs (suc k, within, is) = inr (k, omega (arith, within), is)

-- a test that all pass, each passes
pub all-pass : {X : Type 0} (test : X → Bool) (xs : List X) (x : X) → Contains xs x → list_all test xs ≡ true → test x ≡ true
all-pass test xs x inside all =
    ⊎_elim (λ (passes : test x ≡ true). passes)
    (λ (fails : test x ≡ false). absurd (both_ways (list_all test xs) (list_all_at test xs inside.0 x inside.1 (ap test inside.2 ∙ fails)) all))
    (cases_Bool (test x))

pub or-true : (b : Bool) → (b || true) ≡ true
or-true true = refl
or-true false = refl

-- ---- pairs

-- what is among those of one pair is among the aliases
partner-among : (root other : ℕ) (pairs : List (ℕ × ℕ)) (pair : ℕ × ℕ) → Contains pairs pair → is_among other (partner root pair) ≡ true
    → is_among other (aliases_of pairs root) ≡ true
partner-among root other [] pair (k, within, is) among = absurd (omega (arith, within))
partner-among root other (first ∷ pairs) pair inside among =
    list_any-append (λ (o : ℕ). nat_eq o other) (partner root first) (aliases_of pairs root)
    ∙ ⊎_elim
    (λ (same : first ≡ pair).
    ap (λ (b : Bool). b || is_among other (aliases_of pairs root)) (ap (λ (p : ℕ × ℕ). is_among other (partner root p)) same ∙ among))
    (λ (later : Contains pairs pair).
    ap (λ (b : Bool). is_among other (partner root first) || b) (partner-among root other pairs pair later among)
    ∙ or-true (is_among other (partner root first)))
    (head-or_tail first pair pairs inside)

alone-among : (other : ℕ) → is_among other (other ∷ []) ≡ true
alone-among other = ap (λ (same : Bool). same || false) (eq-eqb other other refl)

pub second-alias : (root other : ℕ) (pairs : List (ℕ × ℕ)) → Contains pairs (root, other) → is_among other (aliases_of pairs root) ≡ true
second-alias root other pairs inside =
    partner-among root other pairs (root, other) inside
    (ap (λ (same : Bool). is_among other (cond same (other ∷ []) (cond (nat_eq other root) (root ∷ []) []))) (eq-eqb root root refl) ∙ alone-among other)

pub first-alias : (root other : ℕ) (pairs : List (ℕ × ℕ)) → root ≢ other → Contains pairs (other, root) → is_among other (aliases_of pairs root) ≡ true
first-alias root other pairs differ inside =
    let apart : nat_eq other root ≡ false = false_from_ne_true (nat_eq other root) (λ same. differ (sym (eqb-true other root same))) in
    partner-among root other pairs (other, root) inside
    (ap (λ (same : Bool). is_among other (cond same (root ∷ []) (cond (nat_eq root root) (other ∷ []) []))) apart
    ∙ ap (λ (same : Bool). is_among other (cond same (other ∷ []) [])) (eq-eqb root root refl) ∙ alone-among other)

-- a place is one that no variable shares but these
abbrev pub IsApart : Environment → (root : ℕ) → (home : Place) → (aliases : List ℕ) → Type 0
IsApart env root home aliases =
    (other : ℕ) (q : Place) → root ≢ other → is_among other aliases ≡ false → env.variables other ≡ Some q → overlap home q ≡ true → ⊥

-- what may share a place with a variable is listed in a pair with it
pub aliases-apart : (env : Environment) (pairs : List (ℕ × ℕ)) → Separate env pairs → (root : ℕ) (home : Place) → env.variables root ≡ Some home
    → IsApart env root home (aliases_of pairs root)
aliases-apart env pairs separate root home at other q differ free at_other shared =
    ⊎_elim (λ listed. both_ways (is_among other (aliases_of pairs root)) free (second-alias root other pairs listed))
    (λ listed. both_ways (is_among other (aliases_of pairs root)) free (first-alias root other pairs differ listed))
    (separate root other home q at at_other differ shared)

nowhere : (found : Option Place) (q : Place) → found ≡ None → found ≡ Some q → ⊥
nowhere None q none is = cc
nowhere (Some p) q none is = cc

-- where none of these is visible, no other variable shares the place
pub hidden-apart : (env : Environment) (pairs : List (ℕ × ℕ)) → Separate env pairs → (root : ℕ) (home : Place) → env.variables root ≡ Some home
    → ((alias : ℕ) → is_among alias (aliases_of pairs root) ≡ true → env.variables alias ≡ None) → IsApart env root home []
hidden-apart env pairs separate root home at hidden other q differ none at_other shared =
    ⊎_elim (λ (alias : is_among other (aliases_of pairs root) ≡ true). nowhere (env.variables other) q (hidden other alias) at_other)
    (λ (free : is_among other (aliases_of pairs root) ≡ false). aliases-apart env pairs separate root home at other q differ free at_other shared)
    (cases_Bool (is_among other (aliases_of pairs root)))

-- ---- what is stored

-- components of a variable, or the whole of it, each by the steps to it, with a value
abbrev pub Pairs : Type 0
Pairs = List (List Step × Value)

-- from a store to a later one
pub record AreWritten (env : Environment) (aliases : List ℕ) (root : ℕ) (pairs : Pairs) (before after : Store) : Type 0 where
  -- what is none of them, and no part of an alias, is as it was
  pub others : (other : ℕ) (steps : List Step) → is_among other aliases ≡ false
      → ((pair : List Step × Value) → Contains pairs pair → other ≡ root → pair.0 ≡ steps → ⊥)
      → value_at (moment env after) other steps ≡ value_at (moment env before) other steps
  -- what there is was there, or is one of the values
  pub came : (place : Place) (v : Value) → stored after place ≡ Some v
      → (stored before place ≡ Some v)
      ⊎ ((pair : List Step × Value) × Contains pairs pair × (store.part (env.variables root) pair.0 ≡ Some place) × (v ≡ pair.1))
  -- what is defined stays so
  pub defined : (place : Place) (v : Value) → stored before place ≡ Some v → (w : Value) × (stored after place ≡ Some w)
  -- each of them has one of their values
  pub has : (pair : List Step × Value) → Contains pairs pair → HasValue (moment env after) root pair.0
  pub sure : (pair : List Step × Value) (v : Value) → Contains pairs pair → value_at (moment env after) root pair.0 ≡ Some v
      → (own : List Step × Value) × Contains pairs own × (own.0 ≡ pair.0) × (v ≡ own.1)

pub none-written : (env : Environment) (aliases : List ℕ) (root : ℕ) (store : Store) → AreWritten env aliases root [] store store
none-written env aliases root store = record {
  others = λ other steps free apart. refl;
  came = λ place v is. inl is;
  defined = λ place v is. (v, is);
  has = λ pair inside. absurd (omega (arith, inside.1));
  sure = λ pair v inside is. absurd (omega (arith, inside.1));
}

some-same : (v w : Value) → Some v ≡ Some w → v ≡ w
some-same v w is = cc

none-some : (v : Value) → None ≡ Some v → ⊥
none-some v is = cc

-- ---- parts of variables

-- what a part of a variable has is stored at its place
pub stored-of : (s : Store) (found : Option Place) (steps : List Step) (v : Value) → part_of s found steps ≡ Some v
    → (home : Place) × (found ≡ Some home) × (stored s (part home steps) ≡ Some v)
stored-of s None steps v is = absurd (none-some v is)
stored-of s (Some home) steps v is = (home, refl, is)

-- what is defined of a variable stays so
defined-at : (before after : Store) → ((place : Place) (v : Value) → stored before place ≡ Some v → (w : Value) × (stored after place ≡ Some w))
    → (found : Option Place) (steps : List Step) → (v : Value) × (part_of before found steps ≡ Some v) → (w : Value) × (part_of after found steps ≡ Some w)
defined-at before after stays None steps has = has
defined-at before after stays (Some home) steps (v, is) = stays (part home steps) v is

part-steps : (home : Place) (found : Option Place) (first steps : List Step) → found ≡ Some home → store.part found first ≡ Some (part home steps)
    → first ≡ steps
part-steps home found first steps at is =
    let same : Some (part home first) ≡ Some (part home steps) = ap (λ (f : Option Place). store.part f first) (sym at) ∙ is in
    let one : part home first ≡ part home steps = cc in
    parts-same home first steps (ap (λ (p : Place). place_eq (part home first) p) (sym one) ∙ place-itself (part home first))

module _ (env : Environment) (aliases : List ℕ) (root : ℕ) (pairs : Pairs) (before after : Store)
    (written : AreWritten env aliases root pairs before after) where
  pub value-defined : (other : ℕ) (steps : List Step) → HasValue (moment env before) other steps → HasValue (moment env after) other steps
  value-defined other steps has = defined-at before after written.defined (env.variables other) steps has

  -- what there is of any variable was there, or is one of the values, and lies where it was stored
  pub value-came : (other : ℕ) (steps : List Step) (v : Value) → value_at (moment env after) other steps ≡ Some v
      → (value_at (moment env before) other steps ≡ Some v)
      ⊎ ((pair : List Step × Value) × Contains pairs pair × (store.part (env.variables root) pair.0 ≡ store.part (env.variables other) steps)
      × (v ≡ pair.1))
  value-came other steps v is =
      let at = stored-of after (env.variables other) steps v is in
      ⊎_elim (λ was. inl (ap (λ (found : Option Place). part_of before found steps) at.1 ∙ was))
      (λ (own : (pair : List Step × Value) × Contains pairs pair × (store.part (env.variables root) pair.0 ≡ Some (part at.0 steps)) × (v ≡ pair.1)).
      inr (own.0, own.1, own.2 ∙ sym (ap (λ (found : Option Place). store.part found steps) at.1), own.3))
      (written.came (part at.0 steps) v at.2)

  -- of the variable itself: one of its values
  pub own-came : (home : Place) → env.variables root ≡ Some home → (steps : List Step) (v : Value) → value_at (moment env after) root steps ≡ Some v
      → (value_at (moment env before) root steps ≡ Some v)
      ⊎ ((pair : List Step × Value) × Contains pairs pair × (pair.0 ≡ steps) × (v ≡ pair.1))
  own-came home at steps v is =
      ⊎_elim (λ was. inl was)
      (λ (own : (pair : List Step × Value) × Contains pairs pair × (store.part (env.variables root) pair.0 ≡ store.part (env.variables root) steps)
      × (v ≡ pair.1)).
      inr (
        own.0,
        own.1,
        part-steps home (env.variables root) own.0.0 steps at (own.2 ∙ ap (λ (found : Option Place). store.part found steps) at),
        own.3,
      ))
      (value-came root steps v is)

  -- the variable and its aliases alone are touched
  pub one-kept : IsKept env (root ∷ aliases) [] before after
  one-kept = record {
    values = λ other apart steps.
        let parts = or_parts (nat_eq root other) (is_among other aliases) apart in
        written.others other steps parts.1 (λ pair inside same at. both_ways (nat_eq root other) parts.0 (eq-eqb root other (sym same)));
    defined = λ other among steps has. value-defined other steps has;
  }

  -- where the whole of it was stored, no component of it changed
  pub whole-changes : ((pair : List Step × Value) → Contains pairs pair → pair.0 ≡ []) → OneChanges env root aliases before after
  whole-changes whole = record {
    others = λ other steps apart free. written.others other steps free (λ pair inside same at. apart same (sym at ∙ whole pair inside));
    defined = λ other steps apart has. value-defined other steps has;
  }

-- ---- one and then others

module _ (env : Environment) (aliases : List ℕ) (root : ℕ) (first : List Step × Value) (pairs : Pairs) (before mid after : Store)
    (one : AreWritten env aliases root (first ∷ []) before mid) (rest : AreWritten env aliases root pairs mid after) where
  only : (pair : List Step × Value) → Contains (first ∷ []) pair → first ≡ pair
  only pair inside = ⊎_elim (λ same. same) (λ none. absurd (omega (arith, none.1))) (head-or_tail first pair [] inside)

  abbrev Own : List Step → Value → Type 0
  Own steps v = (pair : List Step × Value) × Contains (first ∷ pairs) pair × (pair.0 ≡ steps) × (v ≡ pair.1)

  abbrev Came : Place → Value → Type 0
  Came place v =
      (pair : List Step × Value) × Contains (first ∷ pairs) pair × (store.part (env.variables root) pair.0 ≡ Some place) × (v ≡ pair.1)

  from-rest : (steps : List Step) (v : Value) → (pair : List Step × Value) × Contains pairs pair × (pair.0 ≡ steps) × (v ≡ pair.1) → Own steps v
  from-rest steps v (pair, inside, at, is) = (pair, in-tail first pair pairs inside, at, is)

  widened : (pair : List Step × Value) → Contains (first ∷ []) pair → Contains (first ∷ pairs) pair
  widened pair inside = subst (Contains (first ∷ pairs)) (only pair inside) (at-head first pairs)

  first-own : (steps : List Step) (v : Value) → (pair : List Step × Value) × Contains (first ∷ []) pair × (pair.0 ≡ steps) × (v ≡ pair.1)
      → Own steps v
  first-own steps v (pair, inside, at, is) = (pair, widened pair inside, at, is)

  pub written-then : (home : Place) → env.variables root ≡ Some home → AreWritten env aliases root (first ∷ pairs) before after
  written-then home at_home = record {
    others = λ other steps free apart.
        rest.others other steps free (λ pair inside same at. apart pair (in-tail first pair pairs inside) same at)
        ∙ one.others other steps free (λ pair inside same at. apart pair (widened pair inside) same at);
    came = λ place v is. ⊎_elim
        (λ was. ⊎_elim (λ old. inl old)
        (λ (own : (pair : List Step × Value) × Contains (first ∷ []) pair × (store.part (env.variables root) pair.0 ≡ Some place) × (v ≡ pair.1)).
        inr (own.0, widened own.0 own.1, own.2, own.3)) (one.came place v was))
        (λ (own : (pair : List Step × Value) × Contains pairs pair × (store.part (env.variables root) pair.0 ≡ Some place) × (v ≡ pair.1)).
        inr (own.0, in-tail first own.0 pairs own.1, own.2, own.3)) (rest.came place v is);
    defined = λ place v is. let next = one.defined place v is in rest.defined place next.0 next.1;
    has = λ pair inside. ⊎_elim
        (λ same. subst (λ (p : List Step × Value). HasValue (moment env after) root p.0) same
        (value-defined env aliases root pairs mid after rest root first.0 (one.has first (at-head first []))))
        (λ later. rest.has pair later) (head-or_tail first pair pairs inside);
    sure = λ pair v inside is. ⊎_elim
        (λ same. subst (λ (p : List Step × Value). Own p.0 v) same
        (⊎_elim (λ was. first-own first.0 v (one.sure first v (at-head first []) was)) (λ own. from-rest first.0 v own)
        (own-came env aliases root pairs mid after rest home at_home first.0 v
        (subst (λ (p : List Step × Value). value_at (moment env after) root p.0 ≡ Some v) (sym same) is))))
        (λ later. from-rest pair.0 v (rest.sure pair v later is)) (head-or_tail first pair pairs inside);
  }

-- ---- a value is stored

still-some : (same : Bool) (v : Value) (before : Option Value) → (w : Value) × (before ≡ Some w) → (w : Value) × (cond same (Some v) before ≡ Some w)
still-some true v before has = (v, refl)
still-some false v before has = has

some-came : (same : Bool) (v w : Value) (before : Option Value) → cond same (Some v) before ≡ Some w → (before ≡ Some w) ⊎ ((same ≡ true) × (w ≡ v))
some-came true v w before is = inr (refl, some-same w v (sym is))
some-came false v w before is = inl is

module _ (env : Environment) (aliases : List ℕ) (root : ℕ) (home : Place) (at : env.variables root ≡ Some home) (apart : IsApart env root home aliases)
    (before : Store) (first : List Step) (w : Value) where
  abbrev after : Store
  after = written before (part home first) w

  abbrev pair : List Step × Value
  pair = (first, w)

  own-part : (s : Store) (steps : List Step) → value_at (moment env s) root steps ≡ part_of s (Some home) steps
  own-part s steps = ap (λ (found : Option Place). part_of s found steps) at

  written-here : value_at (moment env after) root first ≡ Some w
  written-here = own-part after first ∙ ap (λ (same : Bool). cond same (Some w) (stored before (part home first))) (place-itself (part home first))

  beside : (steps : List Step) → first ≢ steps → value_at (moment env after) root steps ≡ value_at (moment env before) root steps
  beside steps differ =
      own-part after steps
      ∙ ap (λ (same : Bool). cond same (Some w) (stored before (part home steps)))
      (false_from_ne_true (place_eq (part home first) (part home steps)) (λ same. differ (parts-same home first steps same)))
      ∙ sym (own-part before steps)

  elsewhere : (other : ℕ) → root ≢ other → is_among other aliases ≡ false → (found : Option Place) → env.variables other ≡ found → (steps : List Step)
      → part_of after found steps ≡ part_of before found steps
  elsewhere other differ free None there steps = refl
  elsewhere other differ free (Some q) there steps = part-kept before (Some w) first home q steps (apart other q differ free there)

  step-or : (steps : List Step) → (first ≡ steps) ⊎ (first ≢ steps)
  step-or steps = by (place_eq (part home first) (part home steps)) refl
    where
      by : (same : Bool) → place_eq (part home first) (part home steps) ≡ same → (first ≡ steps) ⊎ (first ≢ steps)
      by true is = inl (parts-same home first steps is)
      by false is = inr (λ same.
          both_ways (place_eq (part home first) (part home steps)) is
          (ap (λ (s : List Step). place_eq (part home first) (part home s)) (sym same) ∙ place-itself (part home first)))

  pub one-written : AreWritten env aliases root (pair ∷ []) before after
  one-written = record {
    others = λ other steps free elsewhere_than. ⊎_elim
        (λ same. ⊎_elim (λ here. absurd (elsewhere_than pair (at-head pair []) (sym same) here))
        (λ differ. subst (λ (r : ℕ). value_at (moment env after) r steps ≡ value_at (moment env before) r steps) same (beside steps differ)) (step-or steps))
        (λ differ. elsewhere other differ free (env.variables other) refl steps) (cases_eq root other);
    came = λ place v is. ⊎_elim (λ was. inl was)
        (λ (own : (place_eq (part home first) place ≡ true) × (v ≡ w)).
        inr (
          pair,
          at-head pair [],
          ap (λ (found : Option Place). store.part found first) at ∙ ap Some (place-same (part home first) place own.0),
          own.1,
        ))
        (some-came (place_eq (part home first) place) w v (stored before place) is);
    defined = λ place v is. still-some (place_eq (part home first) place) w (stored before place) (v, is);
    has = λ own inside. ⊎_elim
        (λ same. subst (λ (p : List Step × Value). HasValue (moment env after) root p.0) same (w, written-here))
        (λ none. absurd (omega (arith, none.1))) (head-or_tail pair own [] inside);
    sure = λ own v inside is. ⊎_elim
        (λ (same : pair ≡ own). (
          pair,
          at-head pair [],
          ap (λ (p : List Step × Value). p.0) same,
          some-same v w (sym is ∙ ap (λ (p : List Step × Value). value_at (moment env after) root p.0) (sym same) ∙ written-here),
        ))
        (λ none. absurd (omega (arith, none.1))) (head-or_tail pair own [] inside);
  }
