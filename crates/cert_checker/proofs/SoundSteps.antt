-- A step of an assignment adds to its variable a number of the range that was noted of the other operand.
use Rattle.std.proofs.Common.{arith, ◌≡◌, ◌∙◌, ap, refl, sym, subst, ℕ, ℤ, ◌+ℤ◌, ◌-ℤ◌, neg_ℤ, Bool, true, false, cond, not, List, [], ◌∷◌, ◌++◌}
use Rattle.std.proofs.Common.{Option, Some, None}
use Rattle.std.specs.declared.alloc.Global.{Global}
use Rattle.std.specs.declared.boxed.Box.{Box}
use Rattle.std.specs.declared.vec.Vec.{Vec}
use Rattle.std.proofs.lemmas.Bool.{and_parts, eqb-true}
use Rattle.std.proofs.lemmas.Int.{ints}
use Rattle.std.proofs.lemmas.Option.{none-some, same_Some}
use Rattle.typed_tree.specs.declared.tree.Dyadic.{Dyadic}
use Rattle.typed_tree.specs.declared.tree.Dyadic.TheVariants as dyadic
use Rattle.typed_tree.specs.declared.tree.Expr.{Expr}
use Rattle.typed_tree.specs.declared.tree.Expr.TheVariants as expr
use Rattle.typed_tree.specs.declared.tree.Link.{Link}
use Rattle.typed_tree.specs.declared.tree.Passed.{Passed}
use Rattle.typed_tree.specs.declared.tree.Expr.TheOpen.{Expr-F}
use Rattle.typed_tree.specs.declared.tree.Expr.TheOpen.Expr-F.{Constant, Variable, Monadic as MonadicOf, Chain, Compare, Call as CallOf, Set as SetOf, Input}
use Rattle.typed_tree.specs.declared.tree.Expr.TheViews.{out-Expr, roll-Expr, roll-out-Expr}
use Rattle.typed_tree.specs.Calls.{holds_call}
use Rattle.typed_tree.specs.Kinds.{held_by, is_held}
use Rattle.typed_tree.specs.Records.{OpenRecord, begins}
use Rattle.typed_tree.specs.WellFormed.{is_well_formed_expr, outline_of}
use Rattle.typed_tree.specs.declared.tree.Scalar.{Scalar}
use Rattle.typed_tree.specs.declared.tree.Tree.{Tree}
use Rattle.domain.specs.Versions.{has}
use Rattle.domain.specs.declared.versions.Extension.TheVariants.{Growths}
use Rattle.domain.specs.Interval.{Interval, HasMember, negated}
use Rattle.domain.specs.Ranges.{negated-has}
use Rattle.meaning.specs.Integers.{is_integer_number}
use Rattle.meaning.specs.declared.value.Value.{Value}
use Rattle.meaning.specs.declared.value.Value.TheVariants.{Number, Members}
use Rattle.meaning.specs.Store.{Environment, Store}
use Rattle.meaning.specs.Effect as effect
use Rattle.meaning.specs.Effect.{number_of}
use Rattle.meaning.specs.Meaning as meaning
use Rattle.meaning.specs.Meaning.{Surroundings, value_of}
use Rattle.checker_state.specs.Bounds.{is_variable}
use Rattle.checker_state.specs.Conditions.{condition_of}
use Rattle.domain.specs.declared.versions.Version.TheVariants.{One}
use Rattle.checker_state.specs.declared.forms.Form.{Form}
use Rattle.checker_state.specs.declared.forms.Form.TheVariants.{Fixed, Entire, Moved, Other}
use Rattle.checker_state.specs.Forms.{bound_of, root_of}
use Rattle.checker_state.specs.Holds.{HasNumber, HoldNumbers, moment}
use Rattle.checker_state.specs.Knows.{IsOfForm, IsStep}
use Rattle.checker_state.specs.declared.value.Known.{Known}
use Rattle.checker_state.specs.declared.value.Known.TheVariants.{Ordinal, Set}
use Rattle.checker_state.specs.Values.{IsKnown}
use Rattle.checker_state.proofs.Refined.{expression-kept, forms-tell}
use Rattle.checker_expressions.specs.declared.noting.Noted.{Noted}
use Rattle.checker_expressions.specs.Walk.{Valued, joins, noting_walk, value_walk}
use Rattle.checker_expressions.proofs.Opened.{AreOpen}
use Rattle.checker_expressions.proofs.Sound.{Good, Here, IsForetold, IsHeld, IsPartOf, Sound, SoundCalls, World, good-weaker, ordinal_in}
use Rattle.checker_expressions.proofs.SoundAccesses.{required-leaves, required-true}
use Rattle.checker_expressions.proofs.SoundCalls.{CallLaws, then-gives}
use Rattle.checker_expressions.proofs.SoundNotes.{AreNoted, IsNotedValue, IsOperated, noting-sound, one-noted}
use Rattle.checker_expressions.proofs.SoundExpressions.{value-sound}
use Rattle.checker_expressions.proofs.Traced.{traced_of}
use Rattle.cert_checker.specs.Steps.{added, chain_step, noted_where, unnoted_walk, difference_step, entire_variable, is_beside_quiet, layer_step}
use Rattle.cert_checker.specs.Steps.{operated_step, value_step, sum_step, taken_off}

-- ---- sums and differences

-- what gives an integer, if that doesn't overflow
pub record Calculates (n : ℤ) (v : Value) (x t : effect.State) : Type 0 where
  pub value_is : v ≡ Number n
  pub fits : is_integer_number n ≡ true
  pub same_store : t.store ≡ x.store

number-given : (n : ℤ) (v : Value) (s t : effect.State) → effect.give (Number n) s ≡ effect.Gives v t → (v ≡ Number n) × (t ≡ s)
number-given n v s t is = (cc, cc)

calculates : (site : ℕ) (n : ℤ) (v : Value) (x t : effect.State)
    → effect.and_then (meaning.unless_overflow (Some site) n x) (λ n. effect.give (Number n)) ≡ effect.Gives v t → Calculates n v x t
calculates site n v x t is =
    let one = then-gives (meaning.unless_overflow (Some site) n x) (λ n. effect.give (Number n)) v t is in
    let two = then-gives (effect.require (is_integer_number n) site x) (λ done. effect.give n) one.1 one.0 one.2 in
    let same : (one.1 ≡ n) × (one.0 ≡ two.0) = (let own = two.3 in (cc, cc)) in
    let told : (v ≡ Number one.1) × (t ≡ one.0) = (let own = one.3 in (cc, cc)) in
    record {
      value_is = told.0 ∙ ap Number same.0;
      fits = required-true (is_integer_number n) site x two.0 two.1 two.2;
      same_store = ap (λ (s : effect.State). s.store) (told.1 ∙ same.1) ∙ required-leaves (is_integer_number n) site x two.0 two.1 two.2;
    }

sum-calculates : (site : ℕ) (a b v : Value) (x t : effect.State) → meaning.operated_both (dyadic.Plus site) a b x ≡ effect.Gives v t
    → Calculates (number_of a +ℤ number_of b) v x t
sum-calculates site a b v x t is = calculates site (number_of a +ℤ number_of b) v x t is

difference-calculates : (site : ℕ) (a b v : Value) (x t : effect.State) → meaning.operated_both (dyadic.Minus site) a b x ≡ effect.Gives v t
    → Calculates (number_of a -ℤ number_of b) v x t
difference-calculates site a b v x t is = calculates site (number_of a -ℤ number_of b) v x t is

-- ---- operands

added-has : (known : Known) (v : Value) (step : Interval) → added known ≡ Some step → IsKnown known v → HasMember step (number_of v)
added-has (Ordinal range) (Number n) step is inside = subst (λ (r : Interval). HasMember r n) (same_Some range step is) inside
added-has (Ordinal range) (Members set) step is inside = absurd inside
added-has (Set hull) v step is inside = absurd (none-some step is)

taken-has : (known : Known) (v : Value) (step : Interval) → taken_off known ≡ Some step → IsKnown known v → HasMember step (neg_ℤ (number_of v))
taken-has (Ordinal range) (Number n) step is inside =
    subst (λ (r : Interval). HasMember r (neg_ℤ n)) (same_Some (negated range) step is) (negated-has range n inside)
taken-has (Ordinal range) (Members set) step is inside = absurd inside
taken-has (Set hull) v step is inside = absurd (none-some step is)

-- the form of an entire variable
entire-form : (form : Form) (root : ℕ) → is_variable root (root_of form) ≡ true → form ≡ Entire root
entire-form (Fixed spelling n) root is = absurd (cc)
entire-form (Entire other) root is = ap Entire (sym (eqb-true root other is))
entire-form (Moved other spelling n) root is = absurd (cc)
entire-form Other root is = absurd (cc)

quiet-of : (b : Bool) → not b ≡ true → b ≡ false
quiet-of true is = absurd (cc)
quiet-of false is = refl

module _ (world : World) (block : ℕ) (env : Surroundings) (records : List OpenRecord) (opened : AreOpen world block env.visible records env.records)
    (laws : CallLaws world) (calls : SoundCalls world env.calls) (root : ℕ) where
  abbrev visible : Environment
  visible = env.visible

  abbrev entered : ℕ → effect.State → effect.State
  entered number s = record s { visited = s.visited ++ record { number = number; environment = visible; store = s.store } ∷ [] }

  -- the value of an entire variable is the one that the variable has
  variable-has : (e : Expr) (s t : effect.State) (v : Value) → is_variable root (entire_variable world.tree e) ≡ true → value_of e env s ≡ effect.Gives v t
      → HoldNumbers (ordinal_in world) (moment visible t.store) → HasNumber (moment visible t.store) root (number_of v) × (v ≡ Number (number_of v))
  variable-has e s t v is gives numbers =
      let form_is = entire-form (condition_of (ordinal_in world) e).form root is in
      let told : IsOfForm (moment visible t.store) (bound_of One (Entire root)) v =
      subst (λ (form : Form). IsOfForm (moment visible t.store) (bound_of One form) v) form_is (forms-tell (ordinal_in world) One e env s t v gives numbers) in
      let same : told.2.0 ≡ told.0 = omega (arith, ints, told.2.2) in
      let value_is : v ≡ Number told.0 = told.1 in (
        subst (λ (n : ℤ). HasNumber (moment visible t.store) root n) (same ∙ sym (ap number_of value_is)) told.2.1,
        value_is ∙ ap Number (sym (ap number_of value_is)),
      )

  module _ (first : Expr) (link : Link) (notes : List Noted) (s t : effect.State) (v : Value) (step : Interval)
      (numbers : HoldNumbers (ordinal_in world) (moment visible t.store))
      (done : IsOperated world block env records opened laws calls first link notes s t v) where
    abbrev At : ℤ → ℤ → Type 0
    At old number = HasNumber (moment visible t.store) root old × HasMember step number × (v ≡ Number (old +ℤ number))
        × (is_integer_number (old +ℤ number) ≡ true)

    -- the variable stands to the left
    left-has : is_beside_quiet world.tree root first link.operand ≡ true → t.store ≡ done.behind_right.store
        → HasNumber (moment visible t.store) root (number_of done.left)
    left-has is same =
        let parts = and_parts (is_variable root (entire_variable world.tree first)) (not (holds_call link.operand)) is in
        let kept = expression-kept link.operand (quiet-of (holds_call link.operand) parts.1) env (entered link.number done.behind_left) done.behind_right
        done.right done.gives_right in
        let all : t.store ≡ done.behind_left.store = same ∙ kept in
        subst (λ (store : Store). HasNumber (moment visible store) root (number_of done.left)) (sym all)
        (variable-has first s done.behind_left done.left parts.0 done.gives_left
        (subst (λ (store : Store). HoldNumbers (ordinal_in world) (moment visible store)) all numbers)).0

    right-has : is_beside_quiet world.tree root link.operand first ≡ true → t.store ≡ done.behind_right.store
        → HasNumber (moment visible t.store) root (number_of done.right)
    right-has is same =
        let parts = and_parts (is_variable root (entire_variable world.tree link.operand)) (not (holds_call first)) is in
        subst (λ (store : Store). HasNumber (moment visible store) root (number_of done.right)) (sym same)
        (variable-has link.operand (entered link.number done.behind_left) done.behind_right done.right parts.0 done.gives_right
        (subst (λ (store : Store). HoldNumbers (ordinal_in world) (moment visible store)) same numbers)).0

    sum-step : (site : ℕ) → link.operation ≡ dyadic.Plus site → (left right : Bool) → is_beside_quiet world.tree root first link.operand ≡ left
        → is_beside_quiet world.tree root link.operand first ≡ right → sum_step left right done.note ≡ Some step
        → IsStep (moment visible t.store) root (Some step) v
    sum-step site is left right at_left at_right found =
        let told = sum-calculates site done.left done.right v done.behind_right t
        (subst (λ (o : Dyadic). meaning.operated_both o done.left done.right done.behind_right ≡ effect.Gives v t) is done.operated) in
        by told left right at_left at_right found
      where
        by : Calculates (number_of done.left +ℤ number_of done.right) v done.behind_right t → (left right : Bool)
            → is_beside_quiet world.tree root first link.operand ≡ left → is_beside_quiet world.tree root link.operand first ≡ right
            → sum_step left right done.note ≡ Some step → IsStep (moment visible t.store) root (Some step) v
        by told true right at_left at_right found = (
          number_of done.left,
          number_of done.right,
          left-has at_left told.same_store,
          added-has done.note.right done.right step found done.right_lies,
          told.value_is,
          told.fits,
        )
        by told false true at_left at_right found =
            let turned : (number_of done.left +ℤ number_of done.right) ≡ (number_of done.right +ℤ number_of done.left) = omega (arith, ints) in (
              number_of done.right,
              number_of done.left,
              right-has at_right told.same_store,
              added-has done.note.left done.left step found done.left_lies,
              told.value_is ∙ ap Number turned,
              subst (λ (n : ℤ). is_integer_number n ≡ true) turned told.fits,
            )
        by told false false at_left at_right found = absurd (none-some step found)

    difference-step : (site : ℕ) → link.operation ≡ dyadic.Minus site → (left : Bool) → is_beside_quiet world.tree root first link.operand ≡ left
        → difference_step left done.note ≡ Some step → IsStep (moment visible t.store) root (Some step) v
    difference-step site is true at_left found =
        let told = difference-calculates site done.left done.right v done.behind_right t
        (subst (λ (o : Dyadic). meaning.operated_both o done.left done.right done.behind_right ≡ effect.Gives v t) is done.operated) in
        let turned : (number_of done.left -ℤ number_of done.right) ≡ (number_of done.left +ℤ neg_ℤ (number_of done.right)) = omega (arith, ints) in (
          number_of done.left,
          neg_ℤ (number_of done.right),
          left-has at_left told.same_store,
          taken-has done.note.right done.right step found done.right_lies,
          told.value_is ∙ ap Number turned,
          subst (λ (n : ℤ). is_integer_number n ≡ true) turned told.fits,
        )
    difference-step site is false at_left found = absurd (none-some step found)

    -- one operator
    operated-step : (operation : Dyadic) → link.operation ≡ operation
        → operated_step operation (is_beside_quiet world.tree root first link.operand) (is_beside_quiet world.tree root link.operand first) done.note
        ≡ Some step → IsStep (moment visible t.store) root (Some step) v
    operated-step (dyadic.Plus site) is found =
        sum-step site is (is_beside_quiet world.tree root first link.operand) (is_beside_quiet world.tree root link.operand first) refl refl found
    operated-step (dyadic.Minus site) is found = difference-step site is (is_beside_quiet world.tree root first link.operand) refl found
    operated-step (dyadic.Times site) is found = absurd (none-some step found)
    operated-step (dyadic.Div site) is found = absurd (none-some step found)
    operated-step (dyadic.Mod site) is found = absurd (none-some step found)
    operated-step dyadic.And is found = absurd (none-some step found)
    operated-step dyadic.Or is found = absurd (none-some step found)
    operated-step (dyadic.Relation r) is found = absurd (none-some step found)
    operated-step dyadic.Union is found = absurd (none-some step found)
    operated-step dyadic.Difference is found = absurd (none-some step found)
    operated-step dyadic.Intersection is found = absurd (none-some step found)
    operated-step (dyadic.SetRelation r) is found = absurd (none-some step found)
    operated-step dyadic.In is found = absurd (none-some step found)

  apart-joins : (operation : Dyadic) (left right : Bool) (note : Noted) (step : Interval) → operated_step operation left right note ≡ Some step
      → joins operation ≡ false
  apart-joins dyadic.And left right note step found = absurd (none-some step found)
  apart-joins dyadic.Or left right note step found = absurd (none-some step found)
  apart-joins (dyadic.Plus site) left right note step found = refl
  apart-joins (dyadic.Minus site) left right note step found = refl
  apart-joins (dyadic.Times site) left right note step found = refl
  apart-joins (dyadic.Div site) left right note step found = refl
  apart-joins (dyadic.Mod site) left right note step found = refl
  apart-joins (dyadic.Relation r) left right note step found = refl
  apart-joins dyadic.Union left right note step found = refl
  apart-joins dyadic.Difference left right note step found = refl
  apart-joins dyadic.Intersection left right note step found = refl
  apart-joins (dyadic.SetRelation r) left right note step found = refl
  apart-joins dyadic.In left right note step found = refl

  abbrev Steps : Expr → List Noted → effect.State → effect.State → Value → Interval → Type 0
  Steps e notes s t v step =
      value_of e env s ≡ effect.Gives v t → AreNoted notes ((traced_of e).values env s) → HoldNumbers (ordinal_in world) (moment visible t.store)
      → IsStep (moment visible t.store) root (Some step) v

  chain-steps : (first : Box Expr Global) (rest : Vec Link Global) (links : List Link) (notes : List Noted) (s t : effect.State) (v : Value) (step : Interval)
      → rest.items ≡ links → chain_step world.tree root first.value links notes ≡ Some step → Steps (expr.Chain first rest) notes s t v step
  chain-steps first rest [] notes s t v step are found gives noted numbers = absurd (none-some step found)
  chain-steps first rest (link ∷ []) [] s t v step are found gives noted numbers = absurd (none-some step found)
  chain-steps first rest (link ∷ []) (note ∷ []) s t v step are found gives noted numbers =
      let left = is_beside_quiet world.tree root first.value link.operand in
      let right = is_beside_quiet world.tree root link.operand first.value in
      let done = one-noted world block env records opened laws calls first rest link (note ∷ []) s t v are
      (apart-joins link.operation left right note step found) gives noted in
      operated-step first.value link (note ∷ []) s t v step numbers done link.operation refl
      (subst (λ (one : Noted). operated_step link.operation left right one ≡ Some step) (same-one note done.note done.notes_are) found)
    where
      same-one : (a b : Noted) → (a ∷ []) ≡ (b ∷ []) → a ≡ b
      same-one a b is = cc
  chain-steps first rest (link ∷ []) (note ∷ next ∷ notes) s t v step are found gives noted numbers = absurd (none-some step found)
  chain-steps first rest (link ∷ other ∷ links) notes s t v step are found gives noted numbers = absurd (none-some step found)

  layer-steps : (layer : Expr-F Expr Passed Link) (notes : List Noted) (s t : effect.State) (v : Value) (step : Interval)
      → layer_step world.tree root layer notes ≡ Some step → Steps (roll-Expr layer) notes s t v step
  layer-steps (Chain first rest) notes s t v step found =
      subst (λ (e : Expr). Steps e notes s t v step) (sym (expr.rolls-Chain first rest)) (chain-steps first rest rest.items notes s t v step refl found)
  layer-steps (Constant number value) notes s t v step found = absurd (none-some step found)
  layer-steps (Variable access indexes holds defined) notes s t v step found = absurd (none-some step found)
  layer-steps (SetOf number designators members) notes s t v step found = absurd (none-some step found)
  layer-steps (MonadicOf number operation operand) notes s t v step found = absurd (none-some step found)
  layer-steps (Compare number relation left left_indexes right right_indexes) notes s t v step found = absurd (none-some step found)
  layer-steps (CallOf call actuals) notes s t v step found = absurd (none-some step found)
  layer-steps (Input number asks) notes s t v step found = absurd (none-some step found)

  -- a step of an assignment adds to a variable what it is told to add
  pub step-is : (e : Expr) (notes : List Noted) (s t : effect.State) (v : Value) (step : Option Interval) → value_step world.tree root e notes ≡ step
      → value_of e env s ≡ effect.Gives v t → AreNoted notes ((traced_of e).values env s) → HoldNumbers (ordinal_in world) (moment visible t.store)
      → IsStep (moment visible t.store) root step v
  step-is e notes s t v None found gives noted numbers = tt
  step-is e notes s t v (Some step) found gives noted numbers =
      subst (λ (one : Expr). Steps one notes s t v step) (roll-out-Expr e) (layer-steps (out-Expr e) notes s t v step found) gives noted numbers

-- without notes there is no step
no-step : (tree : Tree) (root : ℕ) (layer : Expr-F Expr Passed Link) → layer_step tree root layer [] ≡ None
no-step tree root (Chain first rest) = by rest.items
  where
    by : (links : List Link) → chain_step tree root first.value links [] ≡ None
    by [] = refl
    by (link ∷ []) = refl
    by (link ∷ other ∷ links) = refl
no-step tree root (Constant number value) = refl
no-step tree root (Variable access indexes holds defined) = refl
no-step tree root (SetOf number designators members) = refl
no-step tree root (MonadicOf number operation operand) = refl
no-step tree root (Compare number relation left left_indexes right right_indexes) = refl
no-step tree root (CallOf call actuals) = refl
no-step tree root (Input number asks) = refl

module _ (world : World) (block : ℕ) (env : Surroundings) (records : List OpenRecord) (opened : AreOpen world block env.visible records env.records)
    (laws : CallLaws world) (calls : SoundCalls world env.calls) where
  -- a value that is assigned, and perhaps a step of a variable
  pub record IsAssigned (one : Scalar) (e : Expr) (told : Valued) (v : Value) (store : Store) : Type 0 where
    pub held : IsHeld one told.known v store
    pub steps : (root : ℕ) → HoldNumbers (ordinal_in world) (moment env.visible store)
        → IsStep (moment env.visible store) root (value_step world.tree root e told.noted) v

  pub assigned-sound : (e : Expr) (one : Scalar) → is_well_formed_expr (outline_of world.tree) block e ≡ true → is_held one (held_by e) ≡ true
      → begins e records ≡ true → Sound world block env.visible (IsAssigned one e) (value_of e env) (noted_where Growths e)
  assigned-sound e one well held begin context state s = by (has context.version Growths)
    where
      by : (b : Bool) → (cond b (noting_walk [] e context) (unnoted_walk e context) state).broken ≡ []
          → IsPartOf world (cond b (noting_walk [] e context) (unnoted_walk e context) state) → Here world block env.visible context state s
          → Good world
          (IsForetold world env.visible (IsAssigned one e) context (cond b (noting_walk [] e context) (unnoted_walk e context) state) s.store) s
          (value_of e env s)
      by true unbroken part here =
          good-weaker world
          (IsForetold world env.visible (IsNotedValue world block env records opened laws calls one e []) context (noting_walk [] e context state) s.store)
          (IsForetold world env.visible (IsAssigned one e) context (noting_walk [] e context state) s.store) s (value_of e env s)
          (λ v t is told. record {
            tie = record {
              held = told.so.tie.held;
              steps = λ root numbers.
                  let tie = told.so.tie in
                  let notes = (noting_walk [] e context state).value.noted in
                  subst (λ (store : Store). IsStep (moment env.visible store) root (value_step world.tree root e notes) v) tie.store_is
                  (step-is world block env records opened laws calls root e notes tie.start tie.behind v (value_step world.tree root e notes) refl tie.gives
                  (subst (λ (some : List Noted). AreNoted some ((traced_of e).values env tie.start)) (sym tie.noted_is) tie.are_noted)
                  (subst (λ (store : Store). HoldNumbers (ordinal_in world) (moment env.visible store)) (sym tie.store_is) numbers));
            };
            stands = told.so.stands;
            kept = told.so.kept;
          })
          (noting-sound world block env records opened laws calls e one [] well held begin context state s unbroken part here)
      by false unbroken part here =
          good-weaker world (IsForetold world env.visible (IsHeld one) context (value_walk e context state) s.store)
          (IsForetold world env.visible (IsAssigned one e) context (unnoted_walk e context state) s.store) s (value_of e env s)
          (λ v t is told. record {
            tie = record {
              held = told.so.tie;
              steps = λ root numbers.
                  subst (λ (step : Option Interval). IsStep (moment env.visible t.store) root step v) (sym (no-step world.tree root (out-Expr e))) tt;
            };
            stands = told.so.stands;
            kept = told.so.kept;
          })
          (value-sound world block env records opened laws calls e one well held begin context state s unbroken
          (record { ids = part.ids; linked = part.linked }) here)
