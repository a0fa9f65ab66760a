-- What value parameters hold behind the assignments with which an activation begins, and that all else is as it was.
use Rattle.std.proofs.Common.{arith, ◌≡◌, ◌⊎◌, inl, inr, ◌∙◌, sym, ap, refl, subst, ℕ, zero, suc, ℤ, Bool, true, false, cond}
use Rattle.std.proofs.Common.{◌&&◌, nat_eq, List, [], ◌∷◌, ◌++◌, length, Option, Some, None}
use Rattle.std.specs.Cmp.Lexicographic.{pointwise}
use Rattle.std.specs.List.{Contains}
use Rattle.std.specs.Ordering.{int_eq}
use Rattle.std.specs.Prelude.{slice_get}
use Rattle.std.proofs.lemmas.Bool.{and_parts, eqb-true, false≢true, false_from_ne_true}
use Rattle.std.proofs.lemmas.Option.{get_or_from_slice_get, none-some, same_Some, slice_get-get_or, slice_get_within}
use Rattle.types.specs.Components.{components_of}
use Rattle.types.specs.Forms.{Form}
use Rattle.types.specs.declared.form.Step.{Step}
use Rattle.types.specs.declared.form.Step.TheVariants as step
use Rattle.types.proofs.Scalars.{scalar_component}
use Rattle.types.specs.Types.{is_scalar, scalar_range_of}
use Rattle.types.specs.declared.form.OrdinalRange.{OrdinalRange}
use Rattle.types.specs.declared.form.TypeId.{TypeId}
use Rattle.typed_tree.specs.WellFormed.{is_value_kind}
use Rattle.typed_tree.specs.declared.tree.Tree.{Tree}
use Rattle.typed_tree.specs.declared.tree.Variable.{Variable}
use Rattle.meaning.specs.declared.value.Value.{Value}
use Rattle.meaning.specs.Effect as effect
use Rattle.meaning.specs.Effect.{store_all}
use Rattle.meaning.specs.Meaning as meaning
use Rattle.meaning.specs.Meaning.{Argument, assign, assign_all, own_place}
use Rattle.meaning.specs.Store.{Environment, Place, Store, kept, part, place_eq, step_eq, stored}
use Rattle.checker_calls.specs.Environments.{LiesIn, type_led}
use Rattle.checker_calls.proofs.Callee.{not-both_kinds}
use Rattle.checker_calls.proofs.Passed.{AllFit, Fits}
use Rattle.checker_state.proofs.Apart.{written-stored}

-- ---- places that are the same

pub same-step : (s t : Step) → step_eq s t ≡ true → s ≡ t
same-step (step.Element i) (step.Element j) is = ap step.Element (numbers-same i j is)
  where
    numbers-same : (i j : ℤ) → int_eq i j ≡ true → i ≡ j
    numbers-same i j is = grind arith
same-step (step.Field a) (step.Field b) is = ap step.Field (eqb-true a b is)
same-step (step.Element i) (step.Field b) is = absurd (false≢true is)
same-step (step.Field a) (step.Element j) is = absurd (false≢true is)

pub same-steps : (ps qs : List Step) → pointwise step_eq ps qs ≡ true → ps ≡ qs
same-steps [] [] is = refl
same-steps [] (t ∷ qs) is = absurd (false≢true is)
same-steps (s ∷ ps) [] is = absurd (false≢true is)
same-steps (s ∷ ps) (t ∷ qs) is =
    let parts = and_parts (step_eq s t) (pointwise step_eq ps qs) is in
    ap (λ (x : Step). x ∷ ps) (same-step s t parts.0) ∙ ap (λ (all : List Step). t ∷ all) (same-steps ps qs parts.1)

pub same-place : (p q : Place) → place_eq p q ≡ true → p ≡ q
same-place p q is =
    let one = and_parts (nat_eq p.activation q.activation) (nat_eq p.variable q.variable && pointwise step_eq p.steps q.steps) is in
    let two = and_parts (nat_eq p.variable q.variable) (pointwise step_eq p.steps q.steps) one.1 in
    let a = eqb-true p.activation q.activation one.0 in
    let v = eqb-true p.variable q.variable two.0 in
    let s = same-steps p.steps q.steps two.1 in
    λ i. record { activation = a i; variable = v i; steps = s i }

-- ---- one store after another

-- what is written to components of a place, one after another
abbrev pub all_kept : Option Place → List (List Step) → List Value → Store → Store
all_kept place [] values store = store
all_kept place (steps ∷ components) [] store = store
all_kept place (steps ∷ components) (v ∷ values) store = all_kept place components values (kept store (part place steps) v)

-- what is passed to one value parameter, and to all
abbrev pub one_assigned : List Form → Option Place → Option Variable → Argument → Store → Store
one_assigned types place formal (meaning.OfValue v) store = kept store place v
one_assigned types place None (meaning.OfRow values) store = store
one_assigned types place (Some formal) (meaning.OfRow values) store = all_kept place (components_of types formal.type_id) values store
one_assigned types place formal (meaning.OfPlace other) store = store

abbrev pub all_assigned : Tree → Environment → List ℕ → List Argument → Store → Store
all_assigned tree visible [] arguments store = store
all_assigned tree visible (root ∷ roots) [] store = store
all_assigned tree visible (root ∷ roots) (argument ∷ arguments) store =
    all_assigned tree visible roots arguments
    (one_assigned tree.types (visible.variables root) (slice_get tree.variables.items root) argument store)

stores-all : (place : Option Place) (components : List (List Step)) (values : List Value) (s : effect.State)
    → store_all place components values s ≡ effect.Gives tt (record s { store = all_kept place components values s.store })
stores-all place [] values s = refl
stores-all place (steps ∷ components) [] s = refl
stores-all place (steps ∷ components) (v ∷ values) s =
    stores-all place components values (record s { store = kept s.store (part place steps) v })

assigns-one : (types : List Form) (place : Option Place) (formal : Option Variable) (argument : Argument) (s : effect.State)
    → assign types place formal argument s ≡ effect.Gives tt (record s { store = one_assigned types place formal argument s.store })
assigns-one types place formal (meaning.OfValue v) s = refl
assigns-one types place None (meaning.OfRow values) s = refl
assigns-one types place (Some formal) (meaning.OfRow values) s = stores-all place (components_of types formal.type_id) values s
assigns-one types place formal (meaning.OfPlace other) s = refl

-- the assignments always come to their end, and change the store alone
pub assigns-all : (tree : Tree) (visible : Environment) (roots : List ℕ) (arguments : List Argument) (s : effect.State)
    → assign_all tree visible roots arguments s ≡ effect.Gives tt (record s { store = all_assigned tree visible roots arguments s.store })
assigns-all tree visible [] arguments s = refl
assigns-all tree visible (root ∷ roots) [] s = refl
assigns-all tree visible (root ∷ roots) (argument ∷ arguments) s =
    let place = visible.variables root in
    let formal = slice_get tree.variables.items root in
    ap (λ (reply : effect.Reply (Unit {0})). effect.and_then reply (λ done. assign_all tree visible roots arguments))
    (assigns-one tree.types place formal argument s)
    ∙ assigns-all tree visible roots arguments (record s { store = one_assigned tree.types place formal argument s.store })

-- ---- what is so of each value of a store

-- each value of a store, at its place, is so
abbrev pub Each : (Place → Value → Type 0) → Store → Type 0
Each P store = (place : Place) (v : Value) → stored store place ≡ Some v → P place v

pub kept-each : (P : Place → Value → Type 0) (store : Store) (found : Option Place) (v : Value) → ((place : Place) → found ≡ Some place → P place v)
    → Each P store → Each P (kept store found v)
kept-each P store None v own each place w is = each place w is
kept-each P store (Some q) v own each place w is = by (place_eq q place) refl is
  where
    by : (same : Bool) → place_eq q place ≡ same → cond same (Some v) (stored store place) ≡ Some w → P place w
    by true same is = subst (P place) (same_Some v w is) (subst (λ (p : Place). P p v) (same-place q place same) (own q refl))
    by false same is = each place w is

all_kept-each : (P : Place → Value → Type 0) (found : Option Place) (components : List (List Step)) (values : List Value)
    → ((k : ℕ) (steps : List Step) (v : Value) (place : Place) → slice_get components k ≡ Some steps → slice_get values k ≡ Some v
    → part found steps ≡ Some place → P place v)
    → (store : Store) → Each P store → Each P (all_kept found components values store)
all_kept-each P found [] values own store each = each
all_kept-each P found (steps ∷ components) [] own store each = each
all_kept-each P found (steps ∷ components) (v ∷ values) own store each =
    all_kept-each P found components values (λ k. own (suc k)) (kept store (part found steps) v)
    (kept-each P store (part found steps) v (λ place is. own 0 steps v place refl refl is) each)

-- ---- what is as it was

kept-other : (store : Store) (found : Option Place) (v : Value) (place : Place) → ((q : Place) → found ≡ Some q → q ≡ place → ⊥)
    → stored (kept store found v) place ≡ stored store place
kept-other store None v place away = refl
kept-other store (Some q) v place away =
    ap (λ (b : Bool). cond b (Some v) (stored store place)) (false_from_ne_true (place_eq q place) (λ same. away q refl (same-place q place same)))

all_kept-other : (found : Option Place) (components : List (List Step)) (values : List Value) (place : Place)
    → ((steps : List Step) (q : Place) → part found steps ≡ Some q → q ≡ place → ⊥) → (store : Store)
    → stored (all_kept found components values store) place ≡ stored store place
all_kept-other found [] values place away store = refl
all_kept-other found (steps ∷ components) [] place away store = refl
all_kept-other found (steps ∷ components) (v ∷ values) place away store =
    all_kept-other found components values place away (kept store (part found steps) v)
    ∙ kept-other store (part found steps) v place (away steps)

-- what is defined stays so
kept-defined : (store : Store) (found : Option Place) (v : Value) (place : Place) (w : Value) → stored store place ≡ Some w
    → (x : Value) × (stored (kept store found v) place ≡ Some x)
kept-defined store None v place w is = (w, is)
kept-defined store (Some q) v place w is = by (place_eq q place)
  where
    by : (same : Bool) → (x : Value) × (cond same (Some v) (stored store place) ≡ Some x)
    by true = (v, refl)
    by false = (w, is)

all_kept-defined : (found : Option Place) (components : List (List Step)) (values : List Value) (place : Place) (store : Store) (w : Value)
    → stored store place ≡ Some w → (x : Value) × (stored (all_kept found components values store) place ≡ Some x)
all_kept-defined found [] values place store w is = (w, is)
all_kept-defined found (steps ∷ components) [] place store w is = (w, is)
all_kept-defined found (steps ∷ components) (v ∷ values) place store w is =
    let once = kept-defined store (part found steps) v place w is in
    all_kept-defined found components values place (kept store (part found steps) v) once.0 once.1

-- each component to which a value is written is defined
all_kept-has : (p : Place) (components : List (List Step)) (values : List Value) (k : ℕ) (steps : List Step) → length values ≡ length components
    → slice_get components k ≡ Some steps → (store : Store)
    → (x : Value) × (stored (all_kept (Some p) components values store) (record p { steps = p.steps ++ steps }) ≡ Some x)
all_kept-has p [] values k steps count is store = absurd (none-some steps is)
all_kept-has p (first ∷ components) [] k steps count is store = absurd (omega (arith, count))
all_kept-has p (first ∷ components) (v ∷ values) zero steps count is store =
    let q : Place = record p { steps = p.steps ++ first } in
    let same = same_Some first steps is in
    subst (λ (s : List Step). (x : Value)
    × (stored (all_kept (Some p) components values (kept store (Some q) v)) (record p { steps = p.steps ++ s }) ≡ Some x)) same
    (all_kept-defined (Some p) components values q (kept store (Some q) v) v (written-stored store q v))
all_kept-has p (first ∷ components) (v ∷ values) (suc k) steps count is store =
    all_kept-has p components values k steps (omega (arith, count)) is (kept store (Some (record p { steps = p.steps ++ first })) v)

-- ---- what a parameter gets

-- what is passed to a parameter of a type is the value of a component
abbrev pub Gets : List Form → Variable → Argument → List Step → Value → Type 0
Gets types formal (meaning.OfValue w) rest v = (rest ≡ []) × (v ≡ w)
Gets types formal (meaning.OfRow values) rest v =
    (k : ℕ) × (slice_get (components_of types formal.type_id) k ≡ Some rest) × (slice_get values k ≡ Some v)
Gets types formal (meaning.OfPlace place) rest v = ⊥

abbrev pub Distinct : List ℕ → Type 0
Distinct [] = Unit {0}
Distinct (root ∷ roots) = (Contains roots root → ⊥) × Distinct roots

module _ (tree : Tree) (number activations : ℕ) (visible : Environment) where
  -- value parameters lie in the activation of a number
  abbrev pub Homes : List ℕ → Type 0
  Homes roots =
      (root : ℕ) (formal : Variable) → Contains roots root → slice_get tree.variables.items root ≡ Some formal → is_value_kind formal.kind ≡ true
      → visible.variables root ≡ Some (own_place number root)

  abbrev assigned_to : ℕ → Argument → Store → Store
  assigned_to root argument store = one_assigned tree.types (visible.variables root) (slice_get tree.variables.items root) argument store

  homes-later : (root : ℕ) (roots : List ℕ) → Homes (root ∷ roots) → Homes roots
  homes-later root roots homes other formal inside is value = homes other formal (later inside) is value
    where
      later : Contains roots other → Contains (root ∷ roots) other
      later (k, within, at) = (suc k, omega (arith, within), at)

  -- a place that is none of one parameter's own
  abbrev IsAway : ℕ → Variable → Place → Type 0
  IsAway root formal place = is_value_kind formal.kind ≡ true → place.activation ≡ number → place.variable ≡ root → ⊥

  away-part : (root : ℕ) (formal : Variable) (place : Place) → IsAway root formal place → is_value_kind formal.kind ≡ true → (steps : List Step) (q : Place)
      → part (Some (own_place number root)) steps ≡ Some q → q ≡ place → ⊥
  away-part root formal place away value steps q part_is same =
      let own : record { activation = number; variable = root; steps = steps } ≡ place = same_Some _ q part_is ∙ same in
      away value (sym (ap (λ (p : Place). p.activation) own)) (sym (ap (λ (p : Place). p.variable) own))

  one-other : (root : ℕ) (formal : Variable) (argument : Argument) (place : Place) (store : Store)
      → visible.variables root ≡ Some (own_place number root) ⊎ (is_value_kind formal.kind ≡ false)
      → slice_get tree.variables.items root ≡ Some formal → Fits tree activations argument formal → IsAway root formal place
      → stored (assigned_to root argument store) place ≡ stored store place
  one-other root formal (meaning.OfValue v) place store (inr other) is fits away = absurd (false≢true (sym other ∙ fits.0))
  one-other root formal (meaning.OfRow values) place store (inr other) is fits away = absurd (false≢true (sym other ∙ fits.0))
  one-other root formal (meaning.OfPlace found) place store home is fits away = refl
  one-other root formal (meaning.OfValue v) place store (inl home) is fits away =
      kept-other store (visible.variables root) v place
      (λ q at same. away-part root formal place away fits.0 [] q (sym home ∙ at) same)
  one-other root formal (meaning.OfRow values) place store (inl home) is fits away =
      ap (λ (found : Option Variable). stored (one_assigned tree.types (visible.variables root) found (meaning.OfRow values) store) place) is
      ∙ all_kept-other (visible.variables root) (components_of tree.types formal.type_id) values place
      (λ steps q at same. away-part root formal place away fits.0 steps q (sym (ap (λ (found : Option Place). part found steps) home) ∙ at) same) store

  either-kind : (root : ℕ) (roots : List ℕ) (formal : Variable) → Homes (root ∷ roots) → slice_get tree.variables.items root ≡ Some formal
      → (visible.variables root ≡ Some (own_place number root)) ⊎ (is_value_kind formal.kind ≡ false)
  either-kind root roots formal homes is = by (is_value_kind formal.kind) refl
    where
      by : (value : Bool) → is_value_kind formal.kind ≡ value
          → (visible.variables root ≡ Some (own_place number root)) ⊎ (is_value_kind formal.kind ≡ false)
      by true value = inl (homes root formal (0, omega arith, refl) is value)
      by false value = inr value

  contains-later : (root other : ℕ) (roots : List ℕ) → Contains roots other → Contains (root ∷ roots) other
  contains-later root other roots (k, within, at) = (suc k, omega (arith, within), at)

  -- what lies at none of the value parameters is as it was
  pub all-other : (roots : List ℕ) (arguments : List Argument) (place : Place) → AllFit tree activations roots arguments → Homes roots
      → ((root : ℕ) (formal : Variable) → Contains roots root → slice_get tree.variables.items root ≡ Some formal → IsAway root formal place)
      → (store : Store) → stored (all_assigned tree visible roots arguments store) place ≡ stored store place
  all-other [] arguments place fit homes away store = refl
  all-other (root ∷ roots) [] place fit homes away store = refl
  all-other (root ∷ roots) (argument ∷ arguments) place (formal, is, fits, others) homes away store =
      all-other roots arguments place others (homes-later root roots homes)
      (λ other variable inside. away other variable (contains-later root other roots inside)) (assigned_to root argument store)
      ∙ one-other root formal argument place store (either-kind root roots formal homes is) is fits (away root formal (0, omega arith, refl) is)

  -- what lies in other activations
  pub all-older : (roots : List ℕ) (arguments : List Argument) (place : Place) → AllFit tree activations roots arguments → Homes roots
      → (place.activation ≡ number → ⊥) → (store : Store) → stored (all_assigned tree visible roots arguments store) place ≡ stored store place
  all-older roots arguments place fit homes older store =
      all-other roots arguments place fit homes (λ root formal inside is value same own. older same) store

  -- ---- what is passed

  abbrev pub own_part : ℕ → List Step → Place
  own_part root rest = record { activation = number; variable = root; steps = rest }

  -- a value parameter has what is passed to it, and nothing else
  pub record Received (root : ℕ) (formal : Variable) (argument : Argument) (after : Store) : Type 0 where
    pub gets : (rest : List Step) (v : Value) → stored after (own_part root rest) ≡ Some v → Gets tree.types formal argument rest v
    pub has : (rest : List Step) → Contains (components_of tree.types formal.type_id) rest → (v : Value) × (stored after (own_part root rest) ≡ Some v)

  abbrev pub IsEmpty : ℕ → Store → Type 0
  IsEmpty root store = (rest : List Step) → stored store (own_part root rest) ≡ None

  steps-of : (root : ℕ) (one other : List Step) → own_part root one ≡ own_part root other → one ≡ other
  steps-of root one other same = ap (λ (p : Place). p.steps) same

  one-gets : (root : ℕ) (formal : Variable) (argument : Argument) (store : Store) → visible.variables root ≡ Some (own_place number root)
      → slice_get tree.variables.items root ≡ Some formal → Fits tree activations argument formal → is_value_kind formal.kind ≡ true → IsEmpty root store
      → Each (λ place v. (rest : List Step) → place ≡ own_part root rest → Gets tree.types formal argument rest v) (assigned_to root argument store)
  one-gets root formal (meaning.OfPlace None) store home is fits value empty = absurd fits
  one-gets root formal (meaning.OfPlace (Some found)) store home is fits value empty = λ place v at rest same.
      absurd (none-some v (sym (empty rest) ∙ ap (stored store) (sym same) ∙ at))
  one-gets root formal (meaning.OfValue w) store home is fits value empty =
      kept-each (λ place v. (rest : List Step) → place ≡ own_part root rest → Gets tree.types formal (meaning.OfValue w) rest v) store
      (visible.variables root) w
      (λ place at rest same.
      (sym (steps-of root [] rest (same_Some (own_place number root) place (sym home ∙ at) ∙ same)), refl))
      (λ place v at rest same. absurd (none-some v (sym (empty rest) ∙ ap (stored store) (sym same) ∙ at)))
  one-gets root formal (meaning.OfRow values) store home is fits value empty =
      let P = λ (place : Place) (v : Value). (rest : List Step) → place ≡ own_part root rest → Gets tree.types formal (meaning.OfRow values) rest v in
      subst (λ (found : Option Variable). Each P (one_assigned tree.types (visible.variables root) found (meaning.OfRow values) store)) (sym is)
      (all_kept-each P (visible.variables root) (components_of tree.types formal.type_id) values
      (λ k steps v place steps_at v_at part_is rest same.
      let own : own_part root steps ≡ place = same_Some (own_part root steps) place (sym (ap (λ (found : Option Place). part found steps) home) ∙ part_is) in
      (k, steps_at ∙ ap Some (steps-of root steps rest (own ∙ same)), v_at))
      store (λ place v at rest same. absurd (none-some v (sym (empty rest) ∙ ap (stored store) (sym same) ∙ at))))

  only-whole : (types : List Form) (formal : Variable) (range : OrdinalRange) (rest : List Step) → scalar_range_of types formal.type_id ≡ Some range
      → Contains (components_of types formal.type_id) rest → rest ≡ []
  only-whole types formal range rest is inside =
      let one_value : is_scalar types formal.type_id ≡ true = ap Rattle.std.specs.Prelude.is_some is in
      alone (subst (λ (all : List (List Step)). Contains all rest) (scalar_component types formal.type_id one_value) inside)
    where
      alone : Contains ([] ∷ []) rest → rest ≡ []
      alone (zero, within, at) = sym at
      alone (suc k, within, at) = absurd (omega (arith, within))

  one-has : (root : ℕ) (formal : Variable) (argument : Argument) (store : Store) → visible.variables root ≡ Some (own_place number root)
      → slice_get tree.variables.items root ≡ Some formal → Fits tree activations argument formal → is_value_kind formal.kind ≡ true
      → (not_place : (place : Option Place) → argument ≡ meaning.OfPlace place → ⊥) → (rest : List Step)
      → Contains (components_of tree.types formal.type_id) rest
      → (v : Value) × (stored (assigned_to root argument store) (own_part root rest) ≡ Some v)
  one-has root formal (meaning.OfPlace place) store home is fits value not_place rest inside = absurd (not_place place refl)
  one-has root formal (meaning.OfValue w) store home is fits value not_place rest inside =
      let whole = only-whole tree.types formal fits.1.0 rest fits.1.1 inside in (
        w,
        ap (λ (steps : List Step). stored (kept store (visible.variables root) w) (own_part root steps)) whole
            ∙ ap (λ (found : Option Place). stored (kept store found w) (own_part root [])) home ∙ written-stored store (own_place number root) w,
      )
  one-has root formal (meaning.OfRow values) store home is fits value not_place rest (k, within, at) =
      let there : slice_get (components_of tree.types formal.type_id) k ≡ Some rest =
      slice_get-get_or (components_of tree.types formal.type_id) k rest within ∙ ap Some at in
      let has = all_kept-has (own_place number root) (components_of tree.types formal.type_id) values k rest fits.1.count there store in (
        has.0,
        ap (λ (found : Option Variable). stored (one_assigned tree.types (visible.variables root) found (meaning.OfRow values) store) (own_part root rest)) is
            ∙ ap (λ (found : Option Place). stored (all_kept found (components_of tree.types formal.type_id) values store) (own_part root rest)) home ∙ has.1,
      )

  -- an argument for a value parameter is no place
  no-place : (formal : Variable) (argument : Argument) → Fits tree activations argument formal → is_value_kind formal.kind ≡ true → (place : Option Place)
      → argument ≡ meaning.OfPlace place → ⊥
  no-place formal argument fits value None is = subst (λ (a : Argument). Fits tree activations a formal) is fits
  no-place formal argument fits value (Some place) is =
      not-both_kinds formal.kind value (subst (λ (a : Argument). Fits tree activations a formal) is fits).0

  pub received : (roots : List ℕ) (arguments : List Argument) → AllFit tree activations roots arguments → Homes roots → Distinct roots
      → (i root : ℕ) (argument : Argument) (formal : Variable) → slice_get roots i ≡ Some root → slice_get arguments i ≡ Some argument
      → slice_get tree.variables.items root ≡ Some formal → is_value_kind formal.kind ≡ true → (store : Store) → IsEmpty root store
      → Received root formal argument (all_assigned tree visible roots arguments store)
  received [] arguments fit homes distinct i root argument formal root_at argument_at is value store empty = absurd (none-some root root_at)
  received (first ∷ roots) [] fit homes distinct i root argument formal root_at argument_at is value store empty = absurd fit
  received (first ∷ roots) (one ∷ arguments) (variable, variable_is, fits, others) homes distinct zero root argument formal root_at argument_at is value store
      empty =
      let same_root = same_Some first root root_at in
      let same_argument = same_Some one argument argument_at in
      let same : variable ≡ formal = same_Some variable formal (sym variable_is ∙ ap (slice_get tree.variables.items) same_root ∙ is) in
      let kind = subst (λ (v : Variable). is_value_kind v.kind ≡ true) (sym same) value in
      let home = homes first variable (0, omega arith, refl) variable_is kind in
      let bare : IsEmpty first store = subst (λ (r : ℕ). IsEmpty r store) (sym same_root) empty in
      let after = all_assigned tree visible roots arguments (assigned_to first one store) in
      let kept = λ (rest : List Step). all-other roots arguments (own_part first rest) others (homes-later first roots homes)
      (λ other own inside own_is own_value here at. distinct.0 (subst (Contains roots) (sym at) inside)) (assigned_to first one store) in
      let got : Received first variable one after = record {
        gets = λ rest v at. one-gets first variable one store home variable_is fits kind bare (own_part first rest) v (sym (kept rest) ∙ at) rest refl;
        has = λ rest inside.
            let has = one-has first variable one store home variable_is fits kind (no-place variable one fits kind) rest inside in
            (has.0, kept rest ∙ has.1);
      } in
      subst (λ (a : Argument). Received root formal a after) same_argument
      (subst (λ (v : Variable). Received root v one after) same (subst (λ (r : ℕ). Received r variable one after) same_root got))
  received (first ∷ roots) (one ∷ arguments) (variable, variable_is, fits, others) homes distinct
      (suc i) root argument formal root_at argument_at is value store
      empty =
      let inside : Contains roots root = (i, slice_get_within roots i root root_at, get_or_from_slice_get roots i root root root_at) in
      received roots arguments others (homes-later first roots homes) distinct.1 i root argument formal root_at argument_at is value
      (assigned_to first one store)
      (λ rest.
      one-other first variable one (own_part root rest) store (either-kind first roots variable homes variable_is) variable_is fits
      (λ own_value here at. distinct.0 (subst (Contains roots) at inside))
      ∙ empty rest)

  -- ---- what stays so of all values

  pub all-each : (P : Place → Value → Type 0) (roots : List ℕ) (arguments : List Argument) → AllFit tree activations roots arguments → Homes roots
      → ((root : ℕ) (formal : Variable) (v : Value) → Contains roots root → slice_get tree.variables.items root ≡ Some formal
      → LiesIn tree.types formal.type_id v → P (own_part root []) v)
      → ((root : ℕ) (formal : Variable) (rest : List Step) (own : TypeId) (v : Value) → Contains roots root → slice_get tree.variables.items root ≡ Some formal
      → type_led tree.types rest formal.type_id ≡ Some own → LiesIn tree.types own v → P (own_part root rest) v)
      → (store : Store) → Each P store → Each P (all_assigned tree visible roots arguments store)
  all-each P [] arguments fit homes whole component store each = each
  all-each P (root ∷ roots) [] fit homes whole component store each = each
  all-each P (root ∷ roots) (argument ∷ arguments) (formal, is, fits, others) homes whole component store each =
      all-each P roots arguments others (homes-later root roots homes)
      (λ other variable v inside. whole other variable v (contains-later root other roots inside))
      (λ other variable rest own v inside. component other variable rest own v (contains-later root other roots inside))
      (assigned_to root argument store) (one argument fits)
    where
      here : Contains (root ∷ roots) root
      here = (0, omega arith, refl)

      one : (argument : Argument) → Fits tree activations argument formal → Each P (assigned_to root argument store)
      one (meaning.OfPlace place) fits = each
      one (meaning.OfValue v) fits =
          kept-each P store (visible.variables root) v
          (λ place at. subst (λ (p : Place). P p v) (same_Some (own_place number root) place (sym (homes root formal here is fits.0) ∙ at))
          (whole root formal v here is fits.1)) each
      one (meaning.OfRow values) fits =
          subst (λ (found : Option Variable). Each P (one_assigned tree.types (visible.variables root) found (meaning.OfRow values) store)) (sym is)
          (all_kept-each P (visible.variables root) (components_of tree.types formal.type_id) values
          (λ k steps v place steps_at v_at part_is.
          let own = same_Some (own_part root steps) place
          (sym (ap (λ (found : Option Place). part found steps) (homes root formal here is fits.0)) ∙ part_is) in
          let typed = fits.1.each k steps v steps_at v_at in
          subst (λ (p : Place). P p v) own (component root formal steps typed.0 v here is typed.1 typed.2)) store each)
