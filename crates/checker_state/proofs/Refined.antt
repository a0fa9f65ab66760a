-- Where a condition had a truth value, what is known of its branch holds: an induction over expressions, which change
-- no variable unless they hold a call. Of these none has a bound form.
use Rattle.std.proofs.Common.{arith, ◌≡◌, ◌∙◌, sym, ap, ap₂, refl, subst, ℕ, ℤ, pos, ◌+ℤ◌, ◌-ℤ◌, ◌*ℤ◌, neg_ℤ, int_div, int_le, Bool, true, false, not}
use Rattle.std.specs.Int.{int_rem_euclid}
use Rattle.std.proofs.Common.{◌&&◌, ◌||◌, if◌then◌else◌, cond, List, [], ◌∷◌, map, Option, Some, None}
use Rattle.std.specs.List.{All, list_all}
use Rattle.std.specs.Ordering.{int_eq}
use Rattle.std.proofs.lemmas.Int.{ints}
use Rattle.std.proofs.lemmas.Bool.{and_parts, or_parts, cond_both, false≢true}
use Rattle.std.proofs.lemmas.List.Elements.{All-cons, All-nil}
use Rattle.std.proofs.lemmas.Option.{cond_some, none-some}
use Rattle.typed_tree.specs.declared.tree.Monadic.{Monadic}
use Rattle.typed_tree.specs.declared.tree.Monadic.TheVariants as monadic
use Rattle.typed_tree.specs.declared.tree.Calculation.TheVariants as calculation
use Rattle.typed_tree.specs.declared.tree.Dyadic.{Dyadic}
use Rattle.typed_tree.specs.declared.tree.Dyadic.TheVariants as dyadic
use Rattle.typed_tree.specs.declared.tree.Relation.{Relation}
use Rattle.typed_tree.specs.declared.tree.Whole.{Whole}
use Rattle.typed_tree.specs.declared.tree.Whole.TheVariants.{Text, Variable as VariableOf}
use Rattle.typed_tree.specs.declared.tree.Access.{Access}
use Rattle.typed_tree.specs.declared.tree.Selector.{Selector}
use Rattle.typed_tree.specs.declared.tree.Expr.{Expr}
use Rattle.typed_tree.specs.declared.tree.Link.{Link}
use Rattle.typed_tree.specs.declared.tree.Passed.{Passed}
use Rattle.typed_tree.specs.declared.tree.Expr.TheOpen.{Expr-F, Link-F}
use Rattle.typed_tree.specs.declared.tree.Expr.TheViews.{roll-Expr, roll-Link}
use Rattle.typed_tree.specs.WellFormed.{whole_indexes}
use Rattle.typed_tree.specs.Calls.{any_holds, expression_holds_call, hold_call, holds_call, link_holds_call, link_holds_call_of, passed_holds_call}
use Rattle.typed_tree.specs.Calls.{passed_step_holds_call, whole_holds_call}
use Rattle.typed_tree.specs.declared.tree.Expr.TheOpen.Expr-F.{Constant, Variable, Monadic as MonadicOf, Chain, Compare, Call, Set, Input}
use Rattle.typed_tree.specs.Accesses.{Origin, AtVariable, AtRecord, origin_of}
use Rattle.typed_tree.specs.declared.tree.Expr.TheFolds.{map-Expr, map-Link, fold-roll-Expr, fold-roll-Link, ind-Expr}
use Rattle.domain.specs.Interval.{Interval, HasMember, always_true, never_true, has_number}
use Rattle.domain.specs.declared.versions.Version.{Version}
use Rattle.meaning.specs.declared.value.Value.{Value}
use Rattle.meaning.specs.declared.value.Value.TheVariants.{Number}
use Rattle.meaning.specs.Integers.{integer_or_none, is_integer_number, is_true, truth}
use Rattle.meaning.specs.Store.{Environment, Place, Store, held}
use Rattle.meaning.specs.Effect as effect
use Rattle.meaning.specs.Effect.{Gives, and_then, fetch, number_of}
use Rattle.meaning.specs.Meaning as meaning
use Rattle.meaning.specs.Meaning.{Evaluation, Passing, Surroundings, accessed, is_so, link_of, passing_of, relates, selected, value_of, values_of, whole_of}
use Rattle.checker_state.specs.Bounds.{Bound, constant, plus}
use Rattle.checker_state.specs.State.{Dead, Live, State}
use Rattle.checker_state.specs.declared.forms.Form.{Form}
use Rattle.checker_state.specs.declared.forms.Form.TheVariants.{Fixed, Entire, Moved, Other}
use Rattle.checker_state.specs.declared.forms.Spelling.{Spelling}
use Rattle.checker_state.specs.declared.forms.Spelling.TheVariants.{Computed}
use Rattle.checker_state.specs.Forms.{Operand, access_form, bound_of, chain_form, computed, fixed_form, moved_form, offset_form, operated_form}
use Rattle.checker_state.specs.Forms.{operated_spelling, result_of, sign_form, stands}
use Rattle.checker_state.specs.Conditions.{Condition, Conjunct, all_refined, bound_form, chain_refined, condition_of, condition_step, conjunct_of}
use Rattle.checker_state.specs.Conditions.{chain_tellings, link_condition, under}
use Rattle.checker_state.specs.Conditions.{monadic_refined, operand_of, operation_refined, passed_condition, related_forms, single_refined, takes_both, told}
use Rattle.checker_state.specs.Conditions.{unless_excluded}
use Rattle.checker_state.specs.Holds.{Moment, HasNumber, HoldNumbers, moment, part_of, value_at}
use Rattle.checker_state.specs.Knows.{IsOfForm, Knows}
use Rattle.checker_state.specs.Laws.{ConditionsTell, FormsTell}
use Rattle.checker_state.proofs.Apart.{entire-stored}
use Rattle.checker_state.proofs.FormsOf.{other-chain}
use Rattle.checker_state.proofs.Bounded.{Preserves, opposite-relates, related-preserves}
use Rattle.checker_state.proofs.Evaluated.{Keeps, KeepsStore, accessed-keeps, asked-keeps, compare-keeps, entered, fetch-gives, fetch-keeps, given-same}
use Rattle.checker_state.proofs.Evaluated.{number-gives}
use Rattle.checker_state.proofs.Evaluated.{both-gives, is_of_numbers, operated-gives, set-keeps, then-gives, then-keeps, truth-is, whole-keeps}

-- ---- forms and values

-- what the form of an expression says of its value
abbrev pub IsForm : Form → Moment → Value → Type 0
IsForm (Fixed spelling n) moment v = v ≡ Number n
IsForm (Entire root) moment v = (n : ℤ) × (v ≡ Number n) × HasNumber moment root n
IsForm (Moved root spelling k) moment v = (old : ℤ) × HasNumber moment root old × (v ≡ Number (old +ℤ k))
IsForm Other moment v = Unit {0}

bound-if : (moment : Moment) (v : Value) (stands : Bool) (bound : Bound) → IsOfForm moment (Some bound) v → IsOfForm moment (cond stands (Some bound) None) v
bound-if moment v true bound is = is
bound-if moment v false bound is = tt

form-bound : (version : Version) (form : Form) (moment : Moment) (v : Value) → IsForm form moment v → IsOfForm moment (bound_of version form) v
form-bound version (Fixed spelling n) moment v is = bound-if moment v (stands version spelling) (constant n) (n, is, refl)
form-bound version (Entire root) moment v (n, is, has) = (n, is, (n, has, omega (arith, ints)))
form-bound version (Moved root spelling k) moment v (old, has, is) =
    bound-if moment v (stands version spelling) (plus root k) (old +ℤ k, is, (old, has, refl))
form-bound version Other moment v is = tt

integer-is : (n m : ℤ) → integer_or_none n ≡ Some m → n ≡ m
integer-is n m is = (cond_some (is_integer_number n) n m is).1

fixed-form : (spelling : Spelling) (found : Option ℤ) (moment : Moment) (v : Value) → ((m : ℤ) → found ≡ Some m → v ≡ Number m)
    → IsForm (fixed_form spelling found) moment v
fixed-form spelling None moment v is = tt
fixed-form spelling (Some m) moment v is = is m refl

sign-form : (form : Form) (operation : Monadic) (moment : Moment) (v : Value) → IsForm form moment v
    → IsForm (sign_form form operation) moment (Number (result_of operation (number_of v)))
sign-form (Fixed spelling k) operation moment v is =
    let result = result_of operation k in
    fixed-form (operated_spelling operation spelling) (integer_or_none result) moment (Number (result_of operation (number_of v)))
    (λ m found. ap (λ (w : Value). Number (result_of operation (number_of w))) is ∙ ap Number (integer-is result m found))
sign-form form operation moment v is = tt

-- what is calculated from two constants is what the operation gives
quotient-is : (a b n : ℤ) (zero : Bool) → (if zero then None else integer_or_none (int_div a b)) ≡ Some n → int_div a b ≡ n
quotient-is a b n true is = absurd (none-some n is)
quotient-is a b n false is = integer-is (int_div a b) n is

remainder-is : (a b n : ℤ) (positive : Bool) → (if positive then integer_or_none (int_rem_euclid a b) else None) ≡ Some n → int_rem_euclid a b ≡ n
remainder-is a b n true is = integer-is (int_rem_euclid a b) n is
remainder-is a b n false is = absurd (none-some n is)

computed-is : (operation : Dyadic) (a b n : ℤ) → computed operation a b ≡ Some n → (is_of_numbers operation ≡ true) × (meaning.of_both operation a b ≡ n)
computed-is (dyadic.Plus overflow) a b n is = (refl, integer-is (a +ℤ b) n is)
computed-is (dyadic.Minus overflow) a b n is = (refl, integer-is (a -ℤ b) n is)
computed-is (dyadic.Times overflow) a b n is = (refl, integer-is (a *ℤ b) n is)
computed-is (dyadic.Div by_zero) a b n is = (refl, quotient-is a b n (int_eq b (pos 0)) is)
computed-is (dyadic.Mod by_zero_or_less) a b n is = (refl, remainder-is a b n (int_le (pos 1) b) is)
computed-is operation a b n is = absurd (none-some n is)

-- what an operation on two operands gave
abbrev GaveBoth : Dyadic → Value → Value → Value → Type 0
GaveBoth operation v w result = is_of_numbers operation ≡ true → result ≡ Number (meaning.of_both operation (number_of v) (number_of w))

moved-form : (root : ℕ) (spelling : Spelling) (found : Option ℤ) (moment : Moment) (a : ℤ) (v : Value) → HasNumber moment root a
    → ((k : ℤ) → found ≡ Some k → v ≡ Number (a +ℤ k)) → IsForm (moved_form root spelling found) moment v
moved-form root spelling None moment a v has is = tt
moved-form root spelling (Some k) moment a v has is = (a, has, is k refl)

offset-form : (root : ℕ) (operation : Dyadic) (spelling : Spelling) (b : ℤ) (moment : Moment) (a : ℤ) (result : Value)
    → (is_of_numbers operation ≡ true → result ≡ Number (meaning.of_both operation a b)) → HasNumber moment root a
    → IsForm (offset_form root operation spelling b) moment result
offset-form root (dyadic.Plus overflow) spelling b moment a result gave has = (a, has, gave refl)
offset-form root (dyadic.Minus overflow) spelling b moment a result gave has =
    moved-form root spelling (integer_or_none (neg_ℤ b)) moment a result has
    (λ k found.
    let negated : neg_ℤ b ≡ k = integer-is (neg_ℤ b) k found in
    let same : (a -ℤ b) ≡ (a +ℤ k) = omega (arith, ints, negated) in
    gave refl ∙ ap Number same)
offset-form root operation spelling b moment a result gave has = tt

-- an operator between two operands, of which these are the forms
operated-form : (operation : Dyadic) (left right : Form) (moment : Moment) (v w result : Value) → GaveBoth operation v w result → IsForm left moment v
    → IsForm right moment w → IsForm (operated_form operation left right) moment result
operated-form operation (Fixed spelling a) (Fixed other b) moment v w result gave v_is w_is =
    fixed-form Computed (computed operation a b) moment result
    (λ n found.
    let is = computed-is operation a b n found in
    gave is.0 ∙ ap Number (ap₂ (meaning.of_both operation) (ap number_of v_is) (ap number_of w_is) ∙ is.1))
operated-form operation (Entire root) (Fixed spelling b) moment v w result gave (a, v_is, has) w_is =
    offset-form root operation spelling b moment a result
    (λ numbers. gave numbers ∙ ap Number (ap₂ (meaning.of_both operation) (ap number_of v_is) (ap number_of w_is))) has
operated-form operation left right moment v w result gave v_is w_is = tt

-- ---- what an expression tells

-- a form that is part of a bound form
abbrev pub is_part : Form → Bool
is_part Other = false
is_part form = true

-- an expression of such a form changes no variable
abbrev pub Still : Form → Store → Store → Type 0
Still form before after = is_part form ≡ true → after ≡ before

other-still : (before after : Store) → Still Other before after
other-still before after part = absurd (false≢true part)

-- a bound form is one
bound-part : (version : Version) (form : Form) (bound : Bound) → bound_of version form ≡ Some bound → is_part form ≡ true
bound-part version (Fixed spelling n) bound is = refl
bound-part version (Entire root) bound is = refl
bound-part version (Moved root spelling n) bound is = refl
bound-part version Other bound is = absurd (none-some bound is)

-- only a constant stands behind an operator
abbrev is_fixed : Form → Bool
is_fixed (Fixed spelling n) = true
is_fixed form = false

no-right : (operation : Dyadic) (left right : Form) → is_fixed right ≡ false → operated_form operation left right ≡ Other
no-right operation (Fixed spelling a) (Fixed other b) isnt = absurd (false≢true (sym isnt))
no-right operation (Entire root) (Fixed spelling b) isnt = absurd (false≢true (sym isnt))
no-right operation left right isnt = refl

-- what begins with no part of a bound form is none
first-part : (form : Form) (links : List Operand) → is_part (chain_form form links) ≡ true → is_part form ≡ true
first-part Other links part = sym (ap is_part (other-chain links)) ∙ part
first-part (Fixed spelling n) links part = refl
first-part (Entire root) links part = refl
first-part (Moved root spelling n) links part = refl

-- by what is told of variables, which of them are ordinals
module _ (ordinal : ℕ → Bool) where
  -- an expression was evaluated over a store, with a value: the form tells of the value; and if it holds no call, the
  -- store stays, and what is known where the value was true, or false, holds
  pub record Evaluates (env : Environment) (condition : Condition) (holds : Bool) (before after : Store) (v : Value) : Type 0 where
    pub form_is : HoldNumbers ordinal (moment env after) → IsForm condition.form (moment env after) v
    pub still : Still condition.form before after
    pub store_is : holds ≡ false → after ≡ before
    pub refines : holds ≡ false → HoldNumbers ordinal (moment env before) → Preserves env before (condition.refined (is_so v))

  -- an operator and its right operand were evaluated
  pub record Combines (env : Environment) (conjunct : Conjunct) (holds : Bool) (before after : Store) (left result : Value) : Type 0 where
    pub right : Value
    pub right_is : Evaluates env conjunct.right holds before after right
    pub result_is : is_of_numbers conjunct.operation ≡ true
        → result ≡ Number (meaning.of_both conjunct.operation (number_of left) (number_of right))

  abbrev pub EvaluatesAs : Evaluation → Condition → Bool → Type 0
  EvaluatesAs evaluation condition holds = (env : Surroundings) (s t : effect.State) (v : Value) → evaluation env s ≡ Gives v t
      → Evaluates env.visible condition holds s.store t.store v

  abbrev pub CombinesAs : meaning.Combination → Conjunct → Bool → Type 0
  CombinesAs combination conjunct holds = (env : Surroundings) (s t : effect.State) (left result : Value) → combination env left s ≡ Gives result t
      → Combines env.visible conjunct holds s.store t.store left result

  -- ---- operators from left to right

  -- a relation of two operands
  forms-preserve : (env : Environment) (store : Store) (r : Relation) (left right : Option Bound) (v w : Value) → IsOfForm (moment env store) left v
      → IsOfForm (moment env store) right w → relates r (number_of v) (number_of w) ≡ true → Preserves env store (related_forms r left right)
  forms-preserve env store r (Some left) (Some right) v w (m, m_is, left_is) (n, n_is, right_is) is =
      related-preserves env store r left right m n left_is right_is (ap₂ (relates r) (sym (ap number_of m_is)) (sym (ap number_of n_is)) ∙ is)
  forms-preserve env store r None right v w left_is right_is is = λ rows table are state known. known
  forms-preserve env store r (Some left) None v w left_is right_is is = λ rows table are state known. known

  told-relates : (r : Relation) (a b : ℤ) (truth : Bool) → relates r a b ≡ truth → relates (told r truth) a b ≡ true
  told-relates r a b true is = is
  told-relates r a b false is = opposite-relates r a b is

  operation-preserves : (version : Version) (env : Environment) (store : Store) (operation : Dyadic) (left right : Form) (v w : Value) (so : Bool)
      → IsForm left (moment env store) v → IsForm right (moment env store) w
      → (is_of_numbers operation ≡ true → is_true (meaning.of_both operation (number_of v) (number_of w)) ≡ so)
      → Preserves env store (operation_refined operation so (bound_of version left) (bound_of version right))
  operation-preserves version env store (dyadic.Relation r) left right v w so left_is right_is is =
      forms-preserve env store (told r so) (bound_of version left) (bound_of version right) v w (form-bound version left (moment env store) v left_is)
      (form-bound version right (moment env store) w right_is)
      (told-relates r (number_of v) (number_of w) so (sym (truth-is (relates r (number_of v) (number_of w))) ∙ is refl))
  operation-preserves version env store operation left right v w so left_is right_is is = λ rows table are state known. known

  -- both operands have the truth value that the whole takes from both
  both-so : (operation : Dyadic) (a b : ℤ) (so : Bool) → takes_both so operation ≡ true → is_true (meaning.of_both operation a b) ≡ so
      → (is_true a ≡ so) × (is_true b ≡ so)
  both-so dyadic.And a b true takes is = and_parts (is_true a) (is_true b) (sym (truth-is (is_true a && is_true b)) ∙ is)
  both-so dyadic.Or a b false takes is = or_parts (is_true a) (is_true b) (sym (truth-is (is_true a || is_true b)) ∙ is)
  both-so operation a b true takes is = absurd (cc)
  both-so operation a b false takes is = absurd (cc)

  -- these are operations of numbers
  takes-numbers : (so : Bool) (operation : Dyadic) → takes_both so operation ≡ true → is_of_numbers operation ≡ true
  takes-numbers true dyadic.And takes = refl
  takes-numbers false dyadic.Or takes = refl
  takes-numbers true operation takes = absurd (cc)
  takes-numbers false operation takes = absurd (cc)

  abbrev ProvedExpr : Type 0
  ProvedExpr = (e : Expr) × EvaluatesAs (value_of e) (condition_of ordinal e) (holds_call e)

  abbrev ProvedPassed : Type 0
  ProvedPassed = (p : Passed) × Unit {0}

  abbrev ProvedLink : Type 0
  ProvedLink = (l : Link) × CombinesAs (link_of l) (conjunct_of ordinal l) (link_holds_call_of l)

  abbrev links_of : List ProvedLink → List Link
  links_of = map (λ (l : ProvedLink). l.0)

  abbrev conjuncts_of : List ProvedLink → List Conjunct
  conjuncts_of links = map (conjunct_of ordinal) (links_of links)

  abbrev turns : List ProvedLink → meaning.Combination
  turns links = meaning.in_turn (map link_of (links_of links))

  -- one of the operators holds a call
  abbrev calls_in : List ProvedLink → Bool
  calls_in links = any_holds (map link_holds_call_of (links_of links))

  -- the operators of a chain change no variable, if they hold no call
  turns-kept : (links : List ProvedLink) → calls_in links ≡ false → (env : Surroundings) (s t : effect.State) (left result : Value)
      → turns links env left s ≡ Gives result t → t.store ≡ s.store
  turns-kept [] quiet env s t left result is = ap (λ (u : effect.State). u.store) (sym (given-same left result s t is).1)
  turns-kept (link ∷ links) quiet env s t left result is =
      let none = or_parts (link_holds_call_of link.0) (calls_in links) quiet in
      let step = then-gives (link_of link.0 env left s) (turns links env) result t is in
      turns-kept links none.1 env step.1 t step.0 result step.3 ∙ (link.1 env s step.1 left step.0 step.2).right_is.store_is none.0

  -- where the whole takes its truth value from both operands at each operator, each operand has it
  turns-refine : (links : List ProvedLink) → calls_in links ≡ false → (env : Surroundings) (s t : effect.State) (left result : Value) (truth : Bool)
      → list_all (λ conjunct. takes_both truth conjunct.operation) (conjuncts_of links) ≡ true → turns links env left s ≡ Gives result t → is_so result ≡ truth
      → HoldNumbers ordinal (moment env.visible s.store) → (is_so left ≡ truth) × Preserves env.visible s.store (all_refined truth (conjuncts_of links))
  turns-refine [] quiet env s t left result truth takes is so numbers =
      (ap is_so (given-same left result s t is).0 ∙ so, λ rows table are state known. known)
  turns-refine (link ∷ links) quiet env s t left result truth takes is so numbers =
      let none = or_parts (link_holds_call_of link.0) (calls_in links) quiet in
      let conjunct = conjunct_of ordinal link.0 in
      let parts = and_parts (takes_both truth conjunct.operation) (list_all (λ c. takes_both truth c.operation) (conjuncts_of links)) takes in
      let step = then-gives (link_of link.0 env left s) (turns links env) result t is in
      let combines = link.1 env s step.1 left step.0 step.2 in
      let kept = combines.right_is.store_is none.0 in
      let rest = turns-refine links none.1 env step.1 t step.0 result truth parts.1 step.3 so
      (subst (λ (store : Store). HoldNumbers ordinal (moment env.visible store)) (sym kept) numbers) in
      let both = both-so conjunct.operation (number_of left) (number_of combines.right) truth parts.0
      (sym (ap is_so (combines.result_is (takes-numbers truth conjunct.operation parts.0))) ∙ rest.0) in
      let one = subst (λ (b : Bool). Preserves env.visible s.store (conjunct.right.refined b)) both.1 (combines.right_is.refines none.0 numbers) in
      let more = subst (λ (store : Store). Preserves env.visible store (all_refined truth (conjuncts_of links))) (combines.right_is.store_is none.0) rest.1 in
      (both.0, λ rows table are state known. more rows table are (conjunct.right.refined truth state) (one rows table are state known))

  -- by the rules of whichever version a state is known
  rules-preserve : (env : Environment) (store : Store) (conjunct : Conjunct) (so : Bool) (left : Form)
      → ((version : Version) → Preserves env store (operation_refined conjunct.operation so (bound_of version left) (bound_of version conjunct.right.form)))
      → Preserves env store (single_refined so left (conjunct ∷ []))
  rules-preserve env store conjunct so left by_rules rows table are Dead known = known
  rules-preserve env store conjunct so left by_rules rows table are (Live facts) known = by_rules facts.rules rows table are (Live facts) known

  -- a single operator
  single-preserves : (links : List ProvedLink) → calls_in links ≡ false → (env : Surroundings) (s t : effect.State) (left result : Value) (form : Form)
      → turns links env left s ≡ Gives result t → IsForm form (moment env.visible s.store) left → HoldNumbers ordinal (moment env.visible s.store)
      → Preserves env.visible s.store (single_refined (is_so result) form (conjuncts_of links))
  single-preserves [] quiet env s t left result form is form_is numbers = λ rows table are state known. known
  single-preserves (link ∷ next ∷ links) quiet env s t left result form is form_is numbers = λ rows table are state known. known
  single-preserves (link ∷ []) quiet env s t left result form is form_is numbers =
      let none = or_parts (link_holds_call_of link.0) (calls_in []) quiet in
      let step = then-gives (link_of link.0 env left s) (turns [] env) result t is in
      let combines = link.1 env s step.1 left step.0 step.2 in
      let conjunct = conjunct_of ordinal link.0 in
      let same : step.0 ≡ result = (given-same step.0 result step.1 t step.3).0 in
      let right_is : IsForm conjunct.right.form (moment env.visible s.store) combines.right =
      subst (λ (store : Store). IsForm conjunct.right.form (moment env.visible store) combines.right) (combines.right_is.store_is none.0)
      (combines.right_is.form_is
      (subst (λ (store : Store). HoldNumbers ordinal (moment env.visible store)) (sym (combines.right_is.store_is none.0)) numbers)) in
      rules-preserve env.visible s.store conjunct (is_so result) form
      (λ version.
      operation-preserves version env.visible s.store conjunct.operation form conjunct.right.form left combines.right (is_so result) form_is right_is
      (λ of_numbers. sym (ap is_so (combines.result_is of_numbers)) ∙ ap is_so same))

  -- ---- forms of chains

  -- a form tells of the value behind it, and what comes between changes no variable, if it is part of a bound form
  abbrev Tells : Form → Environment → Store → Store → Value → Type 0
  Tells form env before after v = (HoldNumbers ordinal (moment env after) → IsForm form (moment env after) v) × Still form before after

  abbrev operands_of : List ProvedLink → List Operand
  operands_of links = map operand_of (conjuncts_of links)

  abbrev chain_of : Form → List ProvedLink → Form
  chain_of form links = chain_form form (operands_of links)

  -- an operator and its right operand
  module _ (env : Environment) (conjunct : Conjunct) (form : Form) (holds : Bool) (before after : Store) (left result : Value)
      (combines : Combines env conjunct holds before after left result)
      (form_is : HoldNumbers ordinal (moment env before) → IsForm form (moment env before) left) where
    abbrev behind : Form
    behind = operated_form conjunct.operation form conjunct.right.form

    kept-tells : after ≡ before → Tells behind env before after result
    kept-tells kept = (
      λ numbers.
          operated-form conjunct.operation form conjunct.right.form (moment env after) left combines.right result combines.result_is
          (subst (λ (store : Store). IsForm form (moment env store) left) (sym kept)
          (form_is (subst (λ (store : Store). HoldNumbers ordinal (moment env store)) kept numbers)))
          (combines.right_is.form_is numbers),
      λ part. kept,
    )

    operated-tells : (right : Form) → conjunct.right.form ≡ right → Tells behind env before after result
    operated-tells (Fixed spelling n) is = kept-tells (combines.right_is.still (ap is_part is))
    operated-tells right is =
        subst (λ (whole : Form). Tells whole env before after result) (sym (no-right conjunct.operation form conjunct.right.form (ap is_fixed is)))
        (λ numbers. tt, other-still before after)

  chain-tells : (links : List ProvedLink) (form : Form) (env : Surroundings) (s t : effect.State) (left result : Value)
      → turns links env left s ≡ Gives result t
      → (HoldNumbers ordinal (moment env.visible s.store) → IsForm form (moment env.visible s.store) left)
      → Tells (chain_of form links) env.visible s.store t.store result
  chain-tells [] form env s t left result is form_is =
      let same = given-same left result s t is in
      let there : Tells form env.visible s.store s.store left = (form_is, λ part. refl) in
      subst (λ (v : Value). Tells form env.visible s.store t.store v) same.0
      (subst (λ (u : effect.State). Tells form env.visible s.store u.store left) same.1 there)
  chain-tells (link ∷ links) form env s t left result is form_is =
      let step = then-gives (link_of link.0 env left s) (turns links env) result t is in
      let combines = link.1 env s step.1 left step.0 step.2 in
      let conjunct = conjunct_of ordinal link.0 in
      let one = operated-tells env.visible conjunct form _ s.store step.1.store left step.0 combines form_is conjunct.right.form refl in
      let whole = operated_form conjunct.operation form conjunct.right.form in
      let rest = chain-tells links whole env step.1 t step.0 result step.3 one.0 in
      (rest.0, λ part. rest.1 part ∙ one.1 (first-part whole (operands_of links) part))

  sign-still : (form : Form) (operation : Monadic) (before after : Store) → Still form before after → Still (sign_form form operation) before after
  sign-still (Fixed spelling n) operation before after still part = still refl
  sign-still form operation before after still part = absurd (false≢true part)

  -- ---- the forms of expressions

  held-part : (store : Store) (found : Option Place) → part_of store found [] ≡ held store found
  held-part store None = refl
  held-part store (Some p) = entire-stored store p

  not-not : (b : Bool) → not (not b) ≡ b
  not-not true = refl
  not-not false = refl

  monadic-preserves : (operation : Monadic) (condition : Condition) (env : Environment) (store : Store) (n : ℤ)
      → Preserves env store (condition.refined (is_true n)) → Preserves env store (monadic_refined operation condition (is_true (result_of operation n)))
  monadic-preserves (monadic.Plain calculation.Complement) condition env store n refines =
      let swapped : is_true n ≡ not (is_true (truth (not (is_true n)))) = sym (not-not (is_true n)) ∙ ap not (sym (truth-is (not (is_true n)))) in
      subst (λ (b : Bool). Preserves env store (condition.refined b)) swapped refines
  monadic-preserves operation condition env store n refines = λ rows table are state known. known

  abbrev monadic_condition : Monadic → Condition → Condition
  monadic_condition operation condition = record {
    form = sign_form condition.form operation;
    accessed = None;
    refined = monadic_refined operation condition;
    tellings = λ truth. condition.tellings (under operation truth);
  }

  abbrev chain_condition : Condition → List Conjunct → Condition
  chain_condition first conjuncts = record {
    form = chain_form first.form (map operand_of conjuncts);
    accessed = None;
    refined = chain_refined first conjuncts;
    tellings = chain_tellings first conjuncts;
  }

  monadic-evaluates : (operation : Monadic) (condition : Condition) (holds : Bool) (env : Environment) (s u t : effect.State) (a w : Value)
      → Evaluates env condition holds s.store u.store a
      → and_then (meaning.operated operation (number_of a) u) (λ n. effect.give (Number n)) ≡ Gives w t
      → Evaluates env (monadic_condition operation condition) holds s.store t.store w
  monadic-evaluates operation condition holds env s u t a w one is =
      let (m, operated, w_is) = number-gives (meaning.operated operation (number_of a) u) w t is in
      let gives = operated-gives operation (number_of a) m u t operated in
      let result : w ≡ Number (result_of operation (number_of a)) = w_is ∙ ap Number gives.0 in
      let kept : t.store ≡ u.store = ap (λ (x : effect.State). x.store) gives.1 in
      record {
        form_is = λ numbers.
            subst (λ (store : Store). IsForm (sign_form condition.form operation) (moment env store) w) (sym kept)
            (subst (IsForm (sign_form condition.form operation) (moment env u.store)) (sym result)
            (sign-form condition.form operation (moment env u.store) a
            (one.form_is (subst (λ (store : Store). HoldNumbers ordinal (moment env store)) kept numbers))));
        still = λ part. kept ∙ sign-still condition.form operation s.store u.store one.still part;
        store_is = λ quiet. kept ∙ one.store_is quiet;
        refines = λ quiet numbers.
            subst (λ (v : Value). Preserves env s.store (monadic_refined operation condition (is_so v))) (sym result)
            (monadic-preserves operation condition env s.store (number_of a) (one.refines quiet numbers));
      }

  chain-evaluates : (first : Condition) (holds : Bool) (links : List ProvedLink) (env : Surroundings) (s u t : effect.State) (left result : Value)
      → Evaluates env.visible first holds s.store u.store left → turns links env left u ≡ Gives result t
      → Evaluates env.visible (chain_condition first (conjuncts_of links)) (holds || calls_in links)
      s.store t.store result
  chain-evaluates first holds links env s u t left result one is =
      let conjuncts = conjuncts_of links in
      let truth = is_so result in
      let tells = chain-tells links first.form env u t left result is one.form_is in
      record {
        form_is = tells.0;
        still = λ part. tells.1 part ∙ one.still (first-part first.form (operands_of links) part);
        store_is = λ quiet.
            let none = or_parts holds (calls_in links) quiet in
            turns-kept links none.1 env u t left result is ∙ one.store_is none.0;
        refines = λ quiet numbers rows table are state known.
            let none = or_parts holds (calls_in links) quiet in
            let Here = λ (state : State). Knows rows table.variables env.visible state s.store in
            let later = subst (λ (store : Store). HoldNumbers ordinal (moment env.visible store)) (sym (one.store_is none.0)) numbers in
            cond_both (list_all (λ conjunct. takes_both truth conjunct.operation) conjuncts) (all_refined truth conjuncts (first.refined truth state))
            (single_refined truth first.form conjuncts state) Here
            (λ takes.
            let rest = turns-refine links none.1 env u t left result truth takes is refl later in
            let after_first : Here (first.refined truth state) =
            subst (λ (b : Bool). Here (first.refined b state)) rest.0 (one.refines none.0 numbers rows table are state known) in
            subst (λ (store : Store). Preserves env.visible store (all_refined truth conjuncts)) (one.store_is none.0) rest.1 rows table are
            (first.refined truth state) after_first)
            (λ single.
            subst (λ (store : Store). Preserves env.visible store (single_refined truth first.form conjuncts)) (one.store_is none.0)
            (single-preserves links none.1 env u t left result first.form is (one.form_is later) later) rows table are state known);
      }

  link-combines : (operation : Dyadic) (condition : Condition) (holds : Bool) (env : Environment) (s u t : effect.State) (left right result : Value)
      → Evaluates env condition holds s.store u.store right → meaning.operated_both operation left right u ≡ Gives result t
      → Combines env (record { operation = operation; right = condition }) holds s.store t.store left result
  link-combines operation condition holds env s u t left right result one is =
      let gives = both-gives operation left right result u t is in
      record {
        right = right;
        right_is = subst (λ (x : effect.State). Evaluates env condition holds s.store x.store right) (sym gives.1) one;
        result_is = gives.0;
      }

  -- an entire variable has the value that is read
  access-tells : (origin : Origin) (selectors : List Selector) (indexes : List Evaluation) (env : Surroundings) (s u t : effect.State) (found : Option Place)
      (site : ℕ) (v : Value)
      → selected selectors indexes env (meaning.begun origin env) s ≡ Gives found u → fetch found site u ≡ Gives v t
      → Tells (access_form ordinal origin selectors) env.visible s.store t.store v
  access-tells (AtVariable root) [] indexes env s u t found site v reached is = by (ordinal root) refl
    where
      by : (b : Bool) → ordinal root ≡ b → Tells (cond b (Entire root) Other) env.visible s.store t.store v
      by false isnt = (λ numbers. tt, λ part. absurd (false≢true part))
      by true told =
          let same = given-same (env.visible.variables root) found s u reached in
          let fetched = fetch-gives (held u.store found) site u t v is in
          let kept : s.store ≡ t.store = ap (λ (x : effect.State). x.store) (same.1 ∙ fetched.1) in
          let own : value_at (moment env.visible t.store) root [] ≡ Some v =
          held-part t.store (env.visible.variables root)
          ∙ ap₂ (λ (store : Store) (place : Option Place). held store place) (sym (ap (λ (x : effect.State). x.store) fetched.1)) same.0
          ∙ fetched.0 in (
            λ numbers. let number = numbers root v told own in (number.0, number.1, own ∙ ap Some number.1),
            λ part. sym kept,
          )
  access-tells (AtVariable root) (selector ∷ selectors) indexes env s u t found site v reached is =
      (λ numbers. tt, λ part. absurd (false≢true part))
  access-tells (AtRecord root slot steps) selectors indexes env s u t found site v reached is =
      (λ numbers. tt, λ part. absurd (false≢true part))

  -- a layer of an expression, of which the parts are proved
  abbrev ExprLayer : Expr-F Expr Passed Link → Type 0
  ExprLayer x =
      EvaluatesAs (meaning.value_step (map-Expr Expr Passed Link Evaluation Passing meaning.Combination value_of passing_of link_of x))
      (condition_step ordinal (map-Expr Expr Passed Link Condition (Unit {0}) Conjunct (condition_of ordinal) (λ p. tt) (conjunct_of ordinal) x))
      (expression_holds_call (map-Expr Expr Passed Link Bool Bool Bool holds_call passed_holds_call link_holds_call_of x))

  abbrev LinkLayer : Link-F Expr Passed Link → Type 0
  LinkLayer x =
      CombinesAs (meaning.link_step (map-Link Expr Passed Link Evaluation Passing meaning.Combination value_of passing_of link_of x))
      (link_condition (map-Link Expr Passed Link Condition (Unit {0}) Conjunct (condition_of ordinal) (λ p. tt) (conjunct_of ordinal) x))
      (link_holds_call (map-Link Expr Passed Link Bool Bool Bool holds_call passed_holds_call link_holds_call_of x))

  -- index expressions that hold no call keep the store
  all-kept : (parts : List ProvedExpr) → any_holds (map holds_call (map (λ e. e.0) parts)) ≡ false
      → All KeepsStore (map value_of (map (λ e. e.0) parts))
  all-kept [] quiet = All-nil KeepsStore
  all-kept (one ∷ parts) quiet =
      let none = or_parts (holds_call one.0) (any_holds (map holds_call (map (λ (e : ProvedExpr). e.0) parts))) quiet in
      All-cons KeepsStore (value_of one.0) (map value_of (map (λ (e : ProvedExpr). e.0) parts))
      (λ env s t v is. (one.1 env s t v is).store_is none.0) (all-kept parts none.1)

  whole-parts-kept : (value : Whole) (parts : List ProvedExpr) → any_holds (whole_indexes value (map holds_call (map (λ e. e.0) parts))) ≡ false
      → All KeepsStore (whole_indexes value (map value_of (map (λ e. e.0) parts)))
  whole-parts-kept (Text number characters) parts quiet = All-nil KeepsStore
  whole-parts-kept (VariableOf access type_id cells defined) parts quiet = all-kept parts quiet

  holds-none : true ≡ false → ⊥
  holds-none is = cc

  value-layer : (y : Expr-F ProvedExpr ProvedPassed ProvedLink)
      → ExprLayer (map-Expr ProvedExpr ProvedPassed ProvedLink Expr Passed Link (λ e. e.0) (λ p. p.0) (λ l. l.0) y)
  value-layer (Constant number value) env s t v is =
      let same = given-same (Number value) v (entered number env.visible s) t is in
      let kept : t.store ≡ s.store = ap (λ (x : effect.State). x.store) (sym same.1) in
      record {
        form_is = λ numbers. sym same.0;
        still = λ part. kept;
        store_is = λ quiet. kept;
        refines = λ quiet numbers rows table are state known. known;
      }
  value-layer (Variable access indexes holds defined) env s t v is =
      let evaluations = map value_of (map (λ (e : ProvedExpr). e.0) indexes.items) in
      let start = entered access.number env.visible s in
      let reached = then-gives (accessed access evaluations env s) (λ place. fetch place defined) v t is in
      let tells = access-tells (origin_of access) access.selectors.items evaluations env start reached.1 t reached.0 defined v reached.2 reached.3 in
      record {
        form_is = tells.0;
        still = tells.1;
        store_is = λ quiet.
            then-keeps (accessed access evaluations env) (λ place. fetch place defined)
            (accessed-keeps access evaluations (all-kept indexes.items quiet) env) (λ place. fetch-keeps place defined) s t v is;
        refines = λ quiet numbers rows table are state known. known;
      }
  value-layer (MonadicOf number operation operand) env s t v is =
      let start = entered number env.visible s in
      let behind : Value → effect.Action Value =
      λ a. effect.◌>>=◌ (meaning.operated operation (number_of a)) (λ n. effect.give (Number n)) in
      let step = then-gives (value_of operand.value.0 env start) behind v t is in
      monadic-evaluates operation (condition_of ordinal operand.value.0) (holds_call operand.value.0) env.visible start step.1 t step.0 v
      (operand.value.1 env start step.1 step.0 step.2) step.3
  value-layer (Chain first rest) env s t v is =
      let step = then-gives (value_of first.value.0 env s) (turns rest.items env) v t is in
      chain-evaluates (condition_of ordinal first.value.0) (holds_call first.value.0) rest.items env s step.1 t step.0 v
      (first.value.1 env s step.1 step.0 step.2) step.3
  value-layer (Compare number relation left left_indexes right right_indexes) env s t v is = record {
    form_is = λ numbers. tt;
    still = λ part. absurd (false≢true part);
    store_is = λ quiet.
        let none = or_parts (any_holds (whole_indexes left (map holds_call (map (λ (e : ProvedExpr). e.0) left_indexes.items))))
        (any_holds (whole_indexes right (map holds_call (map (λ (e : ProvedExpr). e.0) right_indexes.items)))) quiet in
        compare-keeps number relation left right (map value_of (map (λ (e : ProvedExpr). e.0) left_indexes.items))
        (map value_of (map (λ (e : ProvedExpr). e.0) right_indexes.items)) (whole-parts-kept left left_indexes.items none.0)
        (whole-parts-kept right right_indexes.items none.1) env s t v is;
    refines = λ quiet numbers rows table are state known. known;
  }
  value-layer (Set number designators members) env s t v is = record {
    form_is = λ numbers. tt;
    still = λ part. absurd (false≢true part);
    store_is = λ quiet.
        set-keeps designators.items (map value_of (map (λ (e : ProvedExpr). e.0) members.items)) (all-kept members.items quiet) env
        (entered number env.visible s) t v is;
    refines = λ quiet numbers rows table are state known. known;
  }
  value-layer (Call call actuals) env s t v is = record {
    form_is = λ numbers. tt;
    still = λ part. absurd (false≢true part);
    store_is = λ quiet. absurd (holds-none quiet);
    refines = λ quiet numbers rows table are state known. known;
  }
  value-layer (Input number asks) env s t v is = record {
    form_is = λ numbers. tt;
    still = λ part. absurd (false≢true part);
    store_is = λ quiet. asked-keeps asks (entered number env.visible s) t v is;
    refines = λ quiet numbers rows table are state known. known;
  }

  link-layer : (y : Link-F ProvedExpr ProvedPassed ProvedLink)
      → LinkLayer (map-Link ProvedExpr ProvedPassed ProvedLink Expr Passed Link (λ e. e.0) (λ p. p.0) (λ l. l.0) y)
  link-layer y env s t left result is =
      let start = entered y.number env.visible s in
      let step = then-gives (value_of y.operand.0 env start) (λ right. meaning.operated_both y.operation left right) result t is in
      link-combines y.operation (condition_of ordinal y.operand.0) (holds_call y.operand.0) env.visible start step.1 t left step.0 result
      (y.operand.1 env start step.1 step.0 step.2) step.3

  abbrev valued : Expr-F Expr Passed Link → Evaluation
  valued x = meaning.value_step (map-Expr Expr Passed Link Evaluation Passing meaning.Combination value_of passing_of link_of x)

  abbrev conditioned : Expr-F Expr Passed Link → Condition
  conditioned x = condition_step ordinal (map-Expr Expr Passed Link Condition (Unit {0}) Conjunct (condition_of ordinal) (λ p. tt) (conjunct_of ordinal) x)

  abbrev linked : Link-F Expr Passed Link → meaning.Combination
  linked x = meaning.link_step (map-Link Expr Passed Link Evaluation Passing meaning.Combination value_of passing_of link_of x)

  abbrev conjoined : Link-F Expr Passed Link → Conjunct
  conjoined x = link_condition (map-Link Expr Passed Link Condition (Unit {0}) Conjunct (condition_of ordinal) (λ p. tt) (conjunct_of ordinal) x)

  rolled-expr : (x : Expr-F Expr Passed Link) → ExprLayer x
      → EvaluatesAs (value_of (roll-Expr x)) (condition_of ordinal (roll-Expr x)) (holds_call (roll-Expr x))
  rolled-expr x layer =
      subst (λ (e : Evaluation). EvaluatesAs e (condition_of ordinal (roll-Expr x)) (holds_call (roll-Expr x)))
      (sym (fold-roll-Expr Evaluation Passing meaning.Combination meaning.value_step meaning.passed_step meaning.link_step x))
      (subst (λ (c : Condition). EvaluatesAs (valued x) c (holds_call (roll-Expr x)))
      (sym (fold-roll-Expr Condition (Unit {0}) Conjunct (condition_step ordinal) passed_condition link_condition x))
      (subst (λ (b : Bool). EvaluatesAs (valued x) (conditioned x) b)
      (sym (fold-roll-Expr Bool Bool Bool expression_holds_call passed_step_holds_call link_holds_call x)) layer))

  rolled-link : (x : Link-F Expr Passed Link) → LinkLayer x
      → CombinesAs (link_of (roll-Link x)) (conjunct_of ordinal (roll-Link x)) (link_holds_call_of (roll-Link x))
  rolled-link x layer =
      subst (λ (e : meaning.Combination). CombinesAs e (conjunct_of ordinal (roll-Link x)) (link_holds_call_of (roll-Link x)))
      (sym (fold-roll-Link Evaluation Passing meaning.Combination meaning.value_step meaning.passed_step meaning.link_step x))
      (subst (λ (c : Conjunct). CombinesAs (linked x) c (link_holds_call_of (roll-Link x)))
      (sym (fold-roll-Link Condition (Unit {0}) Conjunct (condition_step ordinal) passed_condition link_condition x))
      (subst (λ (b : Bool). CombinesAs (linked x) (conjoined x) b)
      (sym (fold-roll-Link Bool Bool Bool expression_holds_call passed_step_holds_call link_holds_call x)) layer))

  pub evaluates : (e : Expr) → EvaluatesAs (value_of e) (condition_of ordinal e) (holds_call e)
  evaluates =
      ind-Expr (λ e. EvaluatesAs (value_of e) (condition_of ordinal e) (holds_call e)) (λ p. Unit {0})
      (λ l. CombinesAs (link_of l) (conjunct_of ordinal l) (link_holds_call_of l))
      (λ x y is.
      subst (λ (z : Expr-F Expr Passed Link). EvaluatesAs (value_of (roll-Expr z)) (condition_of ordinal (roll-Expr z)) (holds_call (roll-Expr z))) is
      (rolled-expr (map-Expr ProvedExpr ProvedPassed ProvedLink Expr Passed Link (λ e. e.0) (λ p. p.0) (λ l. l.0) y) (value-layer y)))
      (λ x y is. tt)
      (λ x y is.
      subst (λ (z : Link-F Expr Passed Link). CombinesAs (link_of (roll-Link z)) (conjunct_of ordinal (roll-Link z)) (link_holds_call_of (roll-Link z))) is
      (rolled-link (map-Link ProvedExpr ProvedPassed ProvedLink Expr Passed Link (λ e. e.0) (λ p. p.0) (λ l. l.0) y) (link-layer y)))

-- ---- what the walk uses

all-kept_of : (expressions : List Expr) → hold_call expressions ≡ false → All KeepsStore (values_of expressions)
all-kept_of [] quiet = All-nil KeepsStore
all-kept_of (e ∷ expressions) quiet =
    let none = or_parts (holds_call e) (hold_call expressions) quiet in
    All-cons KeepsStore (value_of e) (values_of expressions) (λ env s t v is. (evaluates (λ root. false) e env s t v is).store_is none.0)
    (all-kept_of expressions none.1)

whole-kept_of : (value : Whole) (indexes : List Expr) → whole_holds_call value indexes ≡ false → All KeepsStore (whole_indexes value (values_of indexes))
whole-kept_of (Text number characters) indexes quiet = All-nil KeepsStore
whole-kept_of (VariableOf access type_id cells defined) indexes quiet = all-kept_of indexes quiet

-- an access that holds no call changes no variable, nor does such a whole value
pub access-kept : (access : Access) (indexes : List Expr) → hold_call indexes ≡ false → (env : Surroundings) → Keeps (accessed access (values_of indexes) env)
access-kept access indexes quiet env = accessed-keeps access (values_of indexes) (all-kept_of indexes quiet) env

pub whole-kept : (value : Whole) (indexes : List Expr) → whole_holds_call value indexes ≡ false → (env : Surroundings)
    → Keeps (whole_of value (values_of indexes) env)
whole-kept value indexes quiet env = whole-keeps value (values_of indexes) (whole-kept_of value indexes quiet) env

-- an expression that holds no call changes no variable
pub expression-kept : (e : Expr) → holds_call e ≡ false → KeepsStore (value_of e)
expression-kept e quiet env s t v is = (evaluates (λ root. false) e env s t v is).store_is quiet

-- the value of an expression of a bound form is its bound
pub forms-tell : FormsTell
forms-tell ordinal version e env s t v is numbers =
    form-bound version (condition_of ordinal e).form (moment env.visible t.store) v ((evaluates ordinal e env s t v is).form_is numbers)

-- an expression of a bound form changes no variable
pub form-kept : (ordinal : ℕ → Bool) (version : Version) (e : Expr) (bound : Bound) (env : Surroundings) (s t : effect.State) (v : Value)
    → value_of e env s ≡ Gives v t → bound_form ordinal version e ≡ Some bound → t.store ≡ s.store
form-kept ordinal version e bound env s t v is found =
    (evaluates ordinal e env s t v is).still (bound-part version (condition_of ordinal e).form bound found)

never-so : (range : Interval) (n : ℤ) → HasMember range n → is_true n ≡ true → never_true range ≡ true → ⊥
never-so range n inside is never =
    let parts = and_parts (int_eq range.first (pos 0)) (int_eq range.last (pos 0)) never in
    let first : range.first ≡ pos 0 = grind (arith, ints, parts.0) in
    let last : range.last ≡ pos 0 = grind (arith, ints, parts.1) in
    let low = inside.0 in
    let high = inside.1 in
    let zero : n ≡ pos 0 = omega (arith, ints) in
    let so : not (int_eq (pos 0) (pos 0)) ≡ true = ap is_true (sym zero) ∙ is in
    cc

always-so : (range : Interval) (n : ℤ) → HasMember range n → is_true n ≡ false → always_true range ≡ true → ⊥
always-so range n inside is always =
    let zero : n ≡ pos 0 = grind (arith, ints) in
    let low = inside.0 in
    let high = inside.1 in
    let has : has_number range (pos 0) ≡ true = grind (arith, ints) in
    let none : not (has_number range (pos 0)) ≡ false = ap not has in
    cc

-- a truth value isn't excluded by the range of the condition
-- a truth value isn't excluded by the range of the condition
excluded-preserves : (env : Environment) (store : Store) (n : ℤ) (truth : Bool) (range : Interval) → HasMember range n → is_true n ≡ truth
    → Preserves env store (unless_excluded truth range)
excluded-preserves env store n true range inside is rows table are state known =
    cond_both (never_true range) Dead state (λ state. Knows rows table.variables env state store) (λ never. absurd (never-so range n inside is never))
    (λ may. known)
excluded-preserves env store n false range inside is rows table are state known =
    cond_both (always_true range) Dead state (λ state. Knows rows table.variables env state store) (λ always. absurd (always-so range n inside is always))
    (λ may. known)

-- what is known of the branch that is taken
pub conditions-tell : ConditionsTell
conditions-tell rows table are ordinal env condition s t n range state is inside numbers known =
    let one = evaluates ordinal condition env s t (Number n) is in
    let taken = unless_excluded (is_true n) range state in
    let Here = λ (state : State). Knows rows table.variables env.visible state t.store in
    let here = excluded-preserves env.visible t.store n (is_true n) range inside refl rows table are state known in
    let Numbers = λ (store : Store). HoldNumbers ordinal (moment env.visible store) in
    cond_both (holds_call condition) taken ((condition_of ordinal condition).refined (is_true n) taken) Here (λ holds. here)
    (λ quiet.
    let kept = one.store_is quiet in
    subst (λ (store : Store). Preserves env.visible store ((condition_of ordinal condition).refined (is_true n))) (sym kept)
    (one.refines quiet (subst Numbers kept numbers)) rows table are taken here)
