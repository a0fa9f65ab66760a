-- The walk over accesses and over whole values is sound, where that over their index expressions is.
use Rattle.std.proofs.Common.{arith, ◌≡◌, ⊎_elim, ◌∙◌, sym, ap, refl, subst, ℕ, zero, suc, ◌+◌, ◌<◌, ◌≤◌, ℤ, pos, ◌≤ℤ◌, Bool, true, false, cond}
use Rattle.std.proofs.Common.{◌&&◌, ◌||◌, nat_eq, nat_lt, List, [], ◌∷◌, ◌++◌, append-nil, append_assoc, length, Option, Some, None}
use Rattle.std.specs.Option.{option_and_then}
use Rattle.std.specs.Prelude.{is_some, map, slice_get, slice_index_or}
use Rattle.std.specs.List.{All, Contains, list_all}
use Rattle.std.proofs.lemmas.Bool.{and_from, and_parts, eqb-true, false≢true, ltb-true, or_cases, or_left, or_right}
use Rattle.std.proofs.lemmas.List.{length-append, length-map, map-append}
use Rattle.std.proofs.lemmas.List.Folds.{list_all-append}
use Rattle.std.proofs.lemmas.List.Elements.{All-cons, All-nil}
use Rattle.std.proofs.lemmas.Option.{none-some, same_Some, slice_get-get_or}
use Rattle.types.specs.Forms.{Form}
use Rattle.types.specs.declared.form.TypeId.{TypeId}
use Rattle.types.specs.declared.form.Step.{Step}
use Rattle.types.specs.declared.form.Step.TheVariants as step
use Rattle.types.specs.Components.{components_of}
use Rattle.types.specs.Types.{is_same, is_structured, kind_of, scalar_range}
use Rattle.types.specs.declared.form.TypeKind.{TypeKind}
use Rattle.types.specs.declared.form.TypeKind.TheVariants as kind
use Rattle.types.proofs.Scalars.{scalar_component}
use Rattle.std.specs.declared.alloc.Global.{Global}
use Rattle.std.specs.declared.vec.Vec.{Vec}
use Rattle.typed_tree.specs.declared.tree.Access.{Access}
use Rattle.typed_tree.specs.declared.tree.PathStep.{PathStep}
use Rattle.typed_tree.specs.declared.tree.RangeTest.{RangeTest}
use Rattle.typed_tree.specs.declared.tree.Scalar.{Scalar}
use Rattle.typed_tree.specs.declared.tree.Scalar.TheVariants as scalar
use Rattle.typed_tree.specs.declared.tree.Selector.{Selector}
use Rattle.typed_tree.specs.declared.tree.Selector.TheVariants.{Element, Field}
use Rattle.typed_tree.specs.declared.tree.Whole.{Whole}
use Rattle.typed_tree.specs.declared.tree.Whole.TheVariants.{Text, Variable as VariableOf}
use Rattle.typed_tree.specs.Accesses as accesses
use Rattle.typed_tree.specs.Accesses.{Origin, AtVariable, index_count, is_type, origin_of, root_of, step_of, steps_of}
use Rattle.typed_tree.specs.Records.{OpenRecord, is_there}
use Rattle.typed_tree.specs.WellFormed.{Outline, holds, is_held_by, is_value_of, is_visible, is_well_formed_selector, is_well_formed_whole, is_whole}
use Rattle.typed_tree.specs.WellFormed.{leads_to, leads_to_whole, outline_of}
use Rattle.meaning.specs.declared.value.Value.{Value}
use Rattle.meaning.specs.declared.value.Value.TheVariants.{Members, Number}
use Rattle.meaning.specs.Store.{Environment, Place, Store, held, part}
use Rattle.meaning.specs.Effect as effect
use Rattle.meaning.specs.Effect.{fetch, fetch_all, is_in, number_of}
use Rattle.meaning.specs.Kinds.{IsOf, IsOfKind}
use Rattle.meaning.specs.Meaning.{Evaluation, Surroundings, accessed, begun, selected, whole_of}
use Rattle.checker_state.specs.declared.value.Known.{Known}
use Rattle.checker_state.specs.Bounds.{Bound}
use Rattle.domain.specs.Interval.{HasMember, Interval}
use Rattle.domain.specs.declared.versions.Version.{Version}
use Rattle.types.specs.declared.form.OrdinalRange.{OrdinalRange}
use Rattle.meaning.specs.Integers.{is_integer_number, is_within}
use Rattle.checker_state.specs.Holds.{HasValue, HoldNumbers, IsBound, IsIn, IsOfRow, Moment, moment, part_of, value_at}
use Rattle.checker_state.specs.Values.{IsKnown, known_range}
use Rattle.checker_state.specs.Knows.{IsOfForm, Knows}
use Rattle.checker_state.proofs.Looped.{range-lies}
use Rattle.checker_state.proofs.Ranged.{constant-in, in-left, in-right, is_within-has}
use Rattle.checker_state.specs.State.{State, is_dead, range_of}
use Rattle.checker_rows.specs.Limits.{integer}
use Rattle.checker_state.specs.Stores.{Index, Reach, entire}
use Rattle.typed_tree.specs.declared.tree.Tree.{Tree}
use Rattle.checker_rows.specs.Leaves.{leaves_of}
use Rattle.checker_rows.specs.Rows.{indexes_of, is_ordinal_variable, rows_accessed}
use Rattle.checker_rows.proofs.Accessed.{rows-count}
use Rattle.checker_loops.proofs.Tabled.{are-rows}
use Rattle.checker_state.specs.State.{table_of}
use Rattle.checker_rows.proofs.Components.{mapped-at}
use Rattle.checker_rows.proofs.Numbered.{has-contains, some-at}
use Rattle.checker_expressions.specs.Walk as walk
use Rattle.checker_loops.proofs.Lists.{in-one}
use Rattle.checker_calls.specs.Actuals.{unknown_index}
use Rattle.checker_calls.specs.Environments.{Fine, LiesIn, Proper, Typed}
use Rattle.checker_calls.proofs.Fitting.{part-lies}
use Rattle.checker_calls.proofs.Numbers.{hold-numbers}
use Rattle.checker_calls.proofs.Origins.{rows-same}
use Rattle.checker_calls.proofs.Passed.{AreIntegers, Leads, indexes-integer}
use Rattle.checker_calls.proofs.Reached.{alive}
use Rattle.checker_expressions.specs.Walk.{Context, Piece, Walking, access_walk, all_joined, behind_steps, deeper, deeper_by, form_before_by, form_by}
use Rattle.checker_expressions.specs.Walk.{behind_next, hold_call, index_test, indexes_walk, is_kept, next_test, reach_at, rows_value, scalar_of}
use Rattle.checker_expressions.specs.Walk.{is_covered}
use Rattle.checker_expressions.specs.Walk.{ranges_of, text_range, value_use, whole_walk, with_used}
use Rattle.checker_expressions.proofs.Fitting.{same-type}
use Rattle.checker_expressions.proofs.Keeping.{Keeps, keeps-itself}
use Rattle.checker_expressions.proofs.Opened.{AreOpen, Begins, begins-at}
use Rattle.checker_expressions.proofs.Scalars.{held-known, known-of, number-known, scalar-held}
use Rattle.checker_expressions.proofs.Sound.{World, Any_value, Good, Here, IsForetold, IsHeld, IsPartOf, SoundLeaves, Sound, SoundFrom, Stands}
use Rattle.checker_expressions.proofs.Sound.{declared_in, ordinal_in}
use Rattle.checker_expressions.proofs.Sound.{errs-here, from-held, from-then, from-weaker, gives-state, good-give, good-then, good-weaker}
use Rattle.checker_expressions.proofs.Sound.{known-stands, nothing-new}
use Rattle.checker_expressions.proofs.Sound.{sound-anywhere, sound-by_tree, sound-enter, sound-give, sound-here, sound-named, sound-then, stands-as}
use Rattle.checker_expressions.proofs.Sound.{sites_in, parts_in, open-here, types_in, variables_in}
use Rattle.checker_expressions.proofs.SoundOperations.{IsFitting, fitting-sound}
use Rattle.checker_expressions.proofs.SoundRows.{AreComponentsOf, AreIndexesOn, IsIndexOn, IsReachedBy, IsWhole, LieIn, Matches, RowsAre}
use Rattle.checker_expressions.proofs.SoundRows.{characters_of, covered-row}
use Rattle.checker_expressions.proofs.SoundRows.{indexes-many, indexes-then, joined-in, matches-then, reached-has, rows-are, used-known}

-- ---- parts of a place

pub part-none : (place : Option Place) → part place [] ≡ place
part-none None = refl
part-none (Some p) = ap (λ (steps : List Step). Some (record p { steps = steps })) (append-nil p.steps)

pub part-then : (place : Option Place) (first second : List Step) → part (part place first) second ≡ part place (first ++ second)
part-then None first second = refl
part-then (Some p) first second = ap (λ (steps : List Step). Some (record p { steps = steps })) (append_assoc p.steps first second)

pub part-held : (store : Store) (place : Option Place) (steps : List Step) → held store (part place steps) ≡ part_of store place steps
part-held store None steps = refl
part-held store (Some p) steps = refl

-- ---- what is well formed

module _ (outline : Outline) (block : ℕ) (wanted : TypeId → Bool) (origin : Origin) (selectors : List Selector) (indexes : ℕ)
    (well : leads_to outline block wanted origin selectors indexes ≡ true) where
  abbrev seen : Bool
  seen = is_visible outline block (root_of origin)

  abbrev counts : Bool
  counts = nat_eq indexes (index_count selectors)

  abbrev all_tests : Bool
  all_tests = list_all (is_well_formed_selector outline block) selectors

  abbrev of_type : Bool
  of_type = is_type wanted (accesses.accessed outline.variables outline.types origin selectors)

  outer : (seen ≡ true) × ((counts && (all_tests && of_type)) ≡ true)
  outer = and_parts seen (counts && (all_tests && of_type)) well

  middle : (counts ≡ true) × ((all_tests && of_type) ≡ true)
  middle = and_parts counts (all_tests && of_type) outer.1

  inner : (all_tests ≡ true) × (of_type ≡ true)
  inner = and_parts all_tests of_type middle.1

  -- the variable is visible
  pub leads-seen : seen ≡ true
  leads-seen = outer.0

  pub leads-count : indexes ≡ index_count selectors
  leads-count = eqb-true indexes (index_count selectors) middle.0

  pub leads-tests : all_tests ≡ true
  leads-tests = inner.0

  pub leads-type : of_type ≡ true
  leads-type = inner.1

-- ---- replies

entered-leaves : (number : ℕ) (env : Environment) → SoundLeaves (effect.enter number env)
entered-leaves number env s t done is = ap (λ (u : effect.State). u.store)
    (gives-state tt done (record s { visited = s.visited ++ record { number = number; environment = env; store = s.store } ∷ [] }) t is)

pub required-leaves : (test : Bool) (site : ℕ) → SoundLeaves (effect.require test site)
required-leaves true site s t done is = ap (λ (u : effect.State). u.store) (gives-state tt done s t is)
required-leaves false site s t done is = absurd (cc)

pub required-true : (test : Bool) (site : ℕ) (s t : effect.State) (done : Unit {0}) → effect.require test site s ≡ effect.Gives done t → test ≡ true
required-true true site s t done is = refl
required-true false site s t done is = absurd (cc)

-- ---- index expressions

-- the walk over one is sound, unless it holds a call it leaves the store as it is, and its value is of its form, where ordinal variables have numbers
pub record IndexIsSound (world : World) (block : ℕ) (env : Surroundings) (evaluation : Evaluation) (piece : Piece) : Type 0 where
  pub sound : Sound world block env.visible (IsHeld scalar.Ordinal) (evaluation env) piece.walk
  pub leaves : piece.holds_call ≡ false → SoundLeaves (evaluation env)
  pub form : (version : Version) (s t : effect.State) (v : Value) → evaluation env s ≡ effect.Gives v t
      → HoldNumbers (ordinal_in world) (moment env.visible t.store) → IsOfForm (moment env.visible t.store) (form_by (ordinal_in world) version piece) v

abbrev pub AllSound : World → ℕ → Surroundings → List Evaluation → List Piece → Type 0
AllSound world block env [] [] = Unit {0}
AllSound world block env (evaluation ∷ evaluations) (piece ∷ pieces) =
    IndexIsSound world block env evaluation piece × AllSound world block env evaluations pieces
AllSound world block env evaluations pieces = ⊥

-- what is reached tells of no variable's value
abbrev AreFormless : List Index → Type 0
AreFormless [] = Unit {0}
AreFormless (index ∷ indexes) = (index.form ≡ None) × AreFormless indexes

abbrev IsFormless : Reach → Type 0
IsFormless reach = AreFormless reach.indexes

-- what isn't all of the first indexes has two of them
abbrev IsBegun : Reach → Type 0
IsBegun reach = reach.is_all ≡ false → 1 ≤ length reach.indexes

-- an index that passed its test, and what is known of it
in-test : (range : OrdinalRange) (v : Value) → IsOf scalar.Ordinal v → is_in range v ≡ true
    → (range.first ≤ℤ number_of v) × (number_of v ≤ℤ range.last)
in-test range (Number n) is passes =
    is_within-has range.first range.last n (and_parts (is_integer_number n) (is_within range.first range.last n) passes).1
in-test range (Members set) is passes = absurd is

of-form : (m : Moment) (form : Option Bound) (v : Value) → IsOfForm m form v → (b : Bound) → form ≡ Some b → IsBound m b (number_of v)
of-form m None v is b same = absurd (cc)
of-form m (Some own) (Number n) (k, number, bound) b same =
    let one : n ≡ k = cc in
    let two : own ≡ b = cc in
    subst (λ (c : Bound). IsBound m c n) two (subst (λ (x : ℤ). IsBound m own x) (sym one) bound)
of-form m (Some own) (Members set) (k, number, bound) b same = absurd (cc)

counted-then : (first second : List Selector) → index_count (first ++ second) ≡ index_count first + index_count second
counted-then [] second = let e : index_count second ≡ 0 + index_count second = omega arith in e
counted-then (Element fits cells ∷ first) second =
    let e : suc (index_count first + index_count second) ≡ suc (index_count first) + index_count second = omega arith in
    ap suc (counted-then first second) ∙ e
counted-then (Field position offset ∷ first) second = counted-then first second

module _ (env : Environment) (store : Store) where
  on-longer : (indexes : List Index) (numbers more : List ℤ) → AreIndexesOn env store indexes numbers → AreIndexesOn env store indexes (numbers ++ more)
  on-longer [] numbers more on = tt
  on-longer (index ∷ indexes) [] more on = absurd on
  on-longer (index ∷ indexes) (number ∷ numbers) more on = (on.0, on-longer indexes numbers more on.1)

  on-next : (indexes : List Index) (index : Index) (numbers : List ℤ) (number : ℤ) → length indexes ≡ length numbers
      → AreIndexesOn env store indexes numbers → IsIndexOn env store index number
      → AreIndexesOn env store (indexes ++ index ∷ []) (numbers ++ number ∷ [])
  on-next [] index [] number many on one = (one, tt)
  on-next [] index (first ∷ numbers) number many on one = absurd (omega (arith, many))
  on-next (first ∷ indexes) index [] number many on one = absurd on
  on-next (first ∷ indexes) index (other ∷ numbers) number many on one =
      (on.0, on-next indexes index numbers number (omega (arith, many)) on.1 one)

  -- behind a field
  behind-field : (before : List Selector) (way : List Step) (position offset : ℕ) (reach : Reach) → IsReachedBy env store before way reach
      → IsReachedBy env store (before ++ Field position offset ∷ []) (way ++ step.Field position ∷ []) reach
  behind-field before way position offset reach reached = record {
    indexes = subst (λ (numbers : List ℤ). AreIndexesOn env store reach.indexes numbers) (sym (indexes-then way (step.Field position ∷ [])))
        (on-longer reach.indexes (indexes_of way) [] reached.indexes);
    all = λ is.
        let e = counted-then before (Field position offset ∷ []) in
        let count = reached.all is in
        omega (arith, e, count);
    none = λ is.
        let e = counted-then before (Field position offset ∷ []) in
        let count = reached.none is in
        omega (arith, e, count);
  }

  -- behind an element
  module _ (before : List Selector) (way : List Step) (fits : RangeTest) (cells : ℕ) (number : ℤ) (index : Index) (on : IsIndexOn env store index number)
      (matches : Matches before way) where
    abbrev longer : List Step
    longer = way ++ step.Element number ∷ []

    abbrev own : List Selector
    own = Element fits cells ∷ []

    further : (one : Index) (more : List Index) → AreIndexesOn env store (one ∷ more) (indexes_of way)
        → IsReachedBy env store (before ++ own) longer (record { indexes = one ∷ more; is_all = false })
    further one more are = record {
      indexes = subst (λ (numbers : List ℤ). AreIndexesOn env store (one ∷ more) numbers) (sym (indexes-then way (step.Element number ∷ [])))
          (on-longer (one ∷ more) (indexes_of way) (number ∷ []) are);
      all = λ is. absurd (false≢true is);
      none = λ is. absurd (cc);
    }

    next : (indexes : List Index) → AreIndexesOn env store indexes (indexes_of way) → length indexes ≡ index_count before
        → IsReachedBy env store (before ++ own) longer (record { indexes = indexes ++ index ∷ []; is_all = true })
    next indexes are count = record {
      indexes = subst (λ (numbers : List ℤ). AreIndexesOn env store (indexes ++ index ∷ []) numbers) (sym (indexes-then way (step.Element number ∷ [])))
          (on-next indexes index (indexes_of way) number (count ∙ sym (indexes-many before way matches)) are on);
      all = λ is.
          let e = counted-then before own in
          let many = length-append indexes (index ∷ []) in
          omega (arith, e, many, count);
      none = λ is.
          let many = length-append indexes (index ∷ []) in
          let empty : length (indexes ++ index ∷ []) ≡ 0 = ap length is in
          absurd (omega (arith, many, empty));
    }

    deeper-reached : (keeps is_all : Bool) (indexes : List Index) → (is_all ≡ false → 1 ≤ length indexes)
        → AreIndexesOn env store indexes (indexes_of way) → (is_all ≡ true → length indexes ≡ index_count before)
        → IsReachedBy env store (before ++ own) longer (deeper_by (keeps && is_all) index indexes (record { indexes = indexes; is_all = is_all }))
    deeper-reached true true [] begun are all = next [] are (all refl)
    deeper-reached false true [] begun are all = next [] are (all refl)
    deeper-reached true true (one ∷ []) begun are all = next (one ∷ []) are (all refl)
    deeper-reached false true (one ∷ []) begun are all = further one [] are
    deeper-reached true true (one ∷ two ∷ more) begun are all = further one (two ∷ more) are
    deeper-reached false true (one ∷ two ∷ more) begun are all = further one (two ∷ more) are
    deeper-reached true false [] begun are all = absurd (let few = begun refl in omega (arith, few))
    deeper-reached false false [] begun are all = absurd (let few = begun refl in omega (arith, few))
    deeper-reached true false (one ∷ []) begun are all = further one [] are
    deeper-reached false false (one ∷ []) begun are all = further one [] are
    deeper-reached true false (one ∷ two ∷ more) begun are all = further one (two ∷ more) are
    deeper-reached false false (one ∷ two ∷ more) begun are all = further one (two ∷ more) are

    behind-element : (keeps : Bool) (reach : Reach) → IsBegun reach → IsReachedBy env store before way reach
        → IsReachedBy env store (before ++ own) longer (deeper keeps index reach)
    behind-element keeps reach begun reached = deeper-reached keeps reach.is_all reach.indexes begun reached.indexes reached.all

-- what tells of no variable's value is so of any store
any-store : (env : Environment) (before after : Store) (selectors : List Selector) (way : List Step) (reach : Reach) → IsFormless reach
    → IsReachedBy env before selectors way reach → IsReachedBy env after selectors way reach
any-store env before after selectors way reach formless reached = record {
  indexes = by reach.indexes (indexes_of way) formless reached.indexes;
  all = reached.all;
  none = reached.none;
}
  where
    by : (indexes : List Index) (numbers : List ℤ) → AreFormless indexes → AreIndexesOn env before indexes numbers → AreIndexesOn env after indexes numbers
    by [] numbers formless on = tt
    by (index ∷ indexes) [] formless on = absurd on
    by (index ∷ indexes) (number ∷ numbers) formless on = (
      record { in_range = on.0.in_range; of_form = λ b is. absurd (none-some b (sym formless.0 ∙ is)) },
      by indexes numbers formless.1 on.1,
    )

-- what was reached is reached behind an evaluation: it holds no call and leaves the store, or nothing is told of variables
later-reached : (env : Environment) (before after : Store) (selectors : List Selector) (way : List Step) (reach : Reach) (holds_call : Bool)
    → (holds_call ≡ false → after ≡ before) → (holds_call ≡ true → IsFormless reach) → IsReachedBy env before selectors way reach
    → IsReachedBy env after selectors way reach
later-reached env before after selectors way reach true same formless reached = any-store env before after selectors way reach (formless refl) reached
later-reached env before after selectors way reach false same formless reached =
    subst (λ (store : Store). IsReachedBy env store selectors way reach) (sym (same refl)) reached

-- a form is known where no index behind it holds a call
form-unless : (m : Moment) (form : Option Bound) (holds_call : Bool) (number : ℤ) → ((b : Bound) → form ≡ Some b → IsBound m b number) → (b : Bound)
    → (cond holds_call None form) ≡ Some b → IsBound m b number
form-unless m form true number known b is = absurd (none-some b is)
form-unless m form false number known b is = known b is

formless-deeper : (keeps : Bool) (form : Option Bound) (range : Interval) (holds_call : Bool) (reach : Reach) → (holds_call ≡ true → IsFormless reach)
    → holds_call ≡ true → IsFormless (deeper keeps (record { form = cond holds_call None form; range = range }) reach)
formless-deeper keeps form range true reach formless is = by (keeps && reach.is_all) reach.indexes (formless refl)
  where
    by : (both : Bool) (indexes : List Index) → AreFormless indexes
        → AreFormless (deeper_by both (record { form = None; range = range }) indexes reach).indexes
    by true [] are = (refl, tt)
    by false [] are = (refl, tt)
    by true (one ∷ []) are = (are.0, (refl, tt))
    by false (one ∷ []) are = formless refl
    by true (one ∷ two ∷ more) are = formless refl
    by false (one ∷ two ∷ more) are = formless refl
formless-deeper keeps form range false reach formless is = absurd (false≢true is)

begun-deeper : (keeps : Bool) (index : Index) (reach : Reach) → IsBegun reach → IsBegun (deeper keeps index reach)
begun-deeper keeps index reach begun = by (keeps && reach.is_all) reach.is_all reach.indexes begun
  where
    by : (both is_all : Bool) (indexes : List Index) → IsBegun (record { indexes = indexes; is_all = is_all })
        → IsBegun (deeper_by both index indexes (record { indexes = indexes; is_all = is_all }))
    by true is_all [] begun is = omega arith
    by false is_all [] begun is = omega arith
    by true is_all (one ∷ []) begun is = omega arith
    by false is_all (one ∷ []) begun is = omega arith
    by true is_all (one ∷ two ∷ more) begun is = omega arith
    by false is_all (one ∷ two ∷ more) begun is = omega arith

-- ---- where an access begins

-- behind the steps to a record it is reached by indexes that aren't known
module _ (env : Environment) (store : Store) where
  unknown-on : (number : ℤ) → HasMember integer number → IsIndexOn env store unknown_index number
  unknown-on number whole = record { in_range = whole; of_form = λ b is. absurd (none-some b is) }

  deeper-formless : (reach : Reach) → IsFormless reach → IsFormless (deeper false unknown_index reach)
  deeper-formless reach formless = by reach.indexes formless
    where
      by : (indexes : List Index) → AreFormless indexes → AreFormless (deeper_by false unknown_index indexes reach).indexes
      by [] are = (refl, tt)
      by (one ∷ []) are = formless
      by (one ∷ two ∷ more) are = formless

  -- what is reached, of which nothing is told of variables
  record IsReachedSo (selectors : List Selector) (way : List Step) (reach : Reach) : Type 0 where
    matches : Matches selectors way
    reached : IsReachedBy env store selectors way reach
    begun : IsBegun reach
    formless : IsFormless reach

  along : (before one rest : List Selector) (way here more : List Step) (reach : Reach)
      → IsReachedSo ((before ++ one) ++ rest) ((way ++ here) ++ more) reach → IsReachedSo (before ++ (one ++ rest)) (way ++ (here ++ more)) reach
  along before one rest way here more reach is =
      subst (λ (list : List Selector). IsReachedSo list (way ++ (here ++ more)) reach) (append_assoc before one rest)
      (subst (λ (steps : List Step). IsReachedSo ((before ++ one) ++ rest) steps reach) (append_assoc way here more) is)

  behind-reached : (before rest : List Selector) (way more : List Step) (reach : Reach) → IsReachedSo before way reach → Matches rest more
      → AreIntegers (indexes_of more) → IsReachedSo (before ++ rest) (way ++ more) (behind_steps (map step_of rest) reach)
  behind-reached before [] way [] reach is matches whole =
      subst (λ (list : List Selector). IsReachedSo list (way ++ []) reach) (sym (append-nil before))
      (subst (λ (steps : List Step). IsReachedSo before steps reach) (sym (append-nil way)) is)
  behind-reached before [] way (s ∷ more) reach is matches whole = absurd matches
  behind-reached before (Element fits cells ∷ rest) way [] reach is matches whole = absurd matches
  behind-reached before (Field position offset ∷ rest) way [] reach is matches whole = absurd matches
  behind-reached before (Element fits cells ∷ rest) way (step.Field place ∷ more) reach is matches whole = absurd matches
  behind-reached before (Field position offset ∷ rest) way (step.Element index ∷ more) reach is matches whole = absurd matches
  behind-reached before (Element fits cells ∷ rest) way (step.Element index ∷ more) reach is (low, high, matches) (own, whole) =
      let one : List Selector = Element fits cells ∷ [] in
      let here : List Step = step.Element index ∷ [] in
      let on = unknown-on index own in
      along before one rest way here more (behind_steps (map step_of rest) (deeper false unknown_index reach))
      (behind-reached (before ++ one) rest (way ++ here) more (deeper false unknown_index reach) (record {
        matches = matches-then before one way here is.matches (low, high, tt);
        reached = behind-element env store before way fits cells index unknown_index on is.matches false reach is.begun is.reached;
        begun = begun-deeper false unknown_index reach is.begun;
        formless = deeper-formless reach is.formless;
      }) matches whole)
  behind-reached before (Field position offset ∷ rest) way (step.Field place ∷ more) reach is (same, matches) whole =
      let one : List Selector = Field position offset ∷ [] in
      let here : List Step = step.Field place ∷ [] in
      along before one rest way here more (behind_steps (map step_of rest) reach)
      (behind-reached (before ++ one) rest (way ++ here) more reach (record {
        matches = matches-then before one way here is.matches (same, tt);
        reached = subst (λ (p : ℕ). IsReachedBy env store (before ++ one) (way ++ step.Field p ∷ []) reach) same
            (behind-field env store before way position offset reach is.reached);
        begun = is.begun;
        formless = is.formless;
      }) matches whole)

  -- what is reached where an access begins
  reached-at : (all : List Selector) (way : List Step) → Matches all way → AreIntegers (indexes_of way)
      → IsReachedSo all way (behind_steps (map step_of all) entire)
  reached-at all way matches whole =
      behind-reached [] all [] way entire (record {
        matches = tt;
        reached = record { indexes = tt; all = λ is. refl; none = λ is. refl };
        begun = λ is. absurd (false≢true (sym is));
        formless = tt;
      }) matches whole

-- ---- what is found

in-program : (world : World) (context : Context) (P : Context → Type 0) → context.tree ≡ world.tree → P (record context { tree = world.tree }) → P context
in-program world context P is so = subst (λ (tree : Tree). P (record context { tree = tree })) (sym is) so

pub type-of : (wanted : TypeId → Bool) (found : Option TypeId) → is_type wanted found ≡ true → (id : TypeId) × (found ≡ Some id) × (wanted id ≡ true)
type-of wanted None is = absurd (false≢true is)
type-of wanted (Some id) is = (id, refl, is)

-- a type that holds such values has one component, itself, and its values are such
pub held-scalar : (one : Scalar) (found : Option TypeKind) → is_held_by one found ≡ true → is_some (option_and_then scalar_range found) ≡ true
held-scalar scalar.Ordinal (Some (kind.Ordinal range)) held = refl
held-scalar scalar.Set (Some (kind.Set base members)) held = refl
held-scalar scalar.Ordinal None held = absurd (false≢true held)
held-scalar scalar.Ordinal (Some (kind.Set base members)) held = absurd (false≢true held)
held-scalar scalar.Ordinal (Some kind.Structured) held = absurd (false≢true held)
held-scalar scalar.Set None held = absurd (false≢true held)
held-scalar scalar.Set (Some (kind.Ordinal range)) held = absurd (false≢true held)
held-scalar scalar.Set (Some kind.Structured) held = absurd (false≢true held)

of-kind : (one : Scalar) (found : Option TypeKind) (v : Value) → is_held_by one found ≡ true → IsOfKind found v → IsOf one v
of-kind scalar.Ordinal (Some (kind.Ordinal range)) v held is = is
of-kind scalar.Set (Some (kind.Set base members)) v held is = is
of-kind scalar.Ordinal None v held is = absurd (false≢true held)
of-kind scalar.Ordinal (Some (kind.Set base members)) v held is = absurd (false≢true held)
of-kind scalar.Ordinal (Some kind.Structured) v held is = absurd (false≢true held)
of-kind scalar.Set None v held is = absurd (false≢true held)
of-kind scalar.Set (Some (kind.Ordinal range)) v held is = absurd (false≢true held)
of-kind scalar.Set (Some kind.Structured) v held is = absurd (false≢true held)

contains-get : {A : Type 0} (xs : List A) (x : A) → (inside : Contains xs x) → slice_get xs inside.0 ≡ Some x
contains-get xs x inside = slice_get-get_or xs inside.0 x inside.1 ∙ ap Some inside.2

-- what is so of each pair of steps and their value
pairs-then : (P : List Step → Value → Type 0) (first : List Step) (components : List (List Step)) (w : Value) (values : List Value) → P first w
    → ((k : ℕ) (rest : List Step) (v : Value) → slice_get components k ≡ Some rest → slice_get values k ≡ Some v → P rest v)
    → (k : ℕ) (rest : List Step) (v : Value) → slice_get (first ∷ components) k ≡ Some rest → slice_get (w ∷ values) k ≡ Some v → P rest v
pairs-then P first components w values one more zero rest v is at =
    subst (λ (steps : List Step). P steps v) (same_Some first rest is) (subst (P first) (same_Some w v at) one)
pairs-then P first components w values one more (suc k) rest v is at = more k rest v is at

-- the characters of a string lie in its range
text-in : (text : List ℕ) → All (IsIn (text_range text)) (characters_of text)
text-in [] = All-nil (IsIn (text_range []))
text-in (c ∷ text) =
    let own : Interval = record { first = pos c; last = pos c } in
    All-cons (IsIn (text_range (c ∷ text))) (Number (pos c)) (characters_of text) (in-left own (text_range text) (Number (pos c)) (constant-in (pos c)))
    (λ k d within. in-right own (text_range text) (slice_index_or (characters_of text) k d) (text-in text k d within))

module _ (world : World) (block : ℕ) (env : Surroundings) where
  abbrev visible : Environment
  visible = env.visible

  abbrev tests_are_well : List Selector → Bool
  tests_are_well selectors = list_all (is_well_formed_selector (outline_of world.tree) block) selectors

  -- an index is tested: it lies in the range that passes
  abbrev LiesWithin : Value → Interval → Unit {0} → Store → Type 0
  LiesWithin v range done store = HasMember range (number_of v)

  tested-sound : (fits : RangeTest) (known : Known) (v : Value) → fits.site < sites_in world → IsKnown known v → scalar_of known ≡ scalar.Ordinal
      → Sound world block visible (LiesWithin v) (effect.require (is_in fits.range v) fits.site) (index_test (Some fits) known)
  tested-sound fits known v below inside is =
      sound-named world block visible (IsFitting known v) (LiesWithin v) known_range
      (λ passed done store tie. number-known passed v tie.0 (tie.1 ∙ is))
      (effect.require (is_in fits.range v) fits.site) (walk.fitting fits known) (fitting-sound world block visible fits known v below inside)

  -- selectors from a variable lead to a place, which is reached in the store behind them
  record LeadsBy (root : ℕ) (selectors : List Selector) (reach : Reach) (place : Option Place) (store : Store) : Type 0 where
    way : List Step
    place_is : place ≡ part (visible.variables root) way
    matches : Matches selectors way
    reached : IsReachedBy visible store selectors way reach

  -- an access leads to a place, which is reached in the store behind it, by well formed selectors, which lead to what is accessed
  pub record LeadsTo (origin : Origin) (selectors : List Selector) (reach : Reach) (place : Option Place) (store : Store) : Type 0 where
    pub leads : Leads visible origin selectors store reach place
    pub tests : tests_are_well leads.all ≡ true
    pub typed : (id : TypeId) → accesses.accessed (declared_in world) (types_in world) origin selectors ≡ Some id
        → accesses.accessed (declared_in world) (types_in world) (AtVariable (root_of origin)) leads.all ≡ Some id

  -- the place of a step behind a way
  behind : (root : ℕ) (way : List Step) (next : Step) (place : Option Place) → place ≡ part (visible.variables root) way
      → part place (next ∷ []) ≡ part (visible.variables root) (way ++ next ∷ [])
  behind root way next place place_is = ap (λ (p : Option Place). part p (next ∷ [])) place_is ∙ part-then (visible.variables root) way (next ∷ [])

  -- the selectors behind some
  selected-sound : (root : ℕ) (selectors : List Selector) (evaluations : List Evaluation) (pieces : List Piece) → AllSound world block env evaluations pieces
      → length evaluations ≡ index_count selectors → tests_are_well selectors ≡ true
      → (store : Store) (before : List Selector) (reach : Reach) (place : Option Place) → LeadsBy root before reach place store → IsBegun reach
      → (hold_call pieces ≡ true → IsFormless reach) → (walked : List Selector) → next_test walked ≡ next_test selectors
      → behind_next walked ≡ behind_next selectors
      → SoundFrom world block visible store (LeadsBy root (before ++ selectors)) (selected selectors evaluations env place)
      (indexes_walk walked pieces reach)
  selected-sound root [] [] [] all count tests store before reach place leads begun formless walked test_is behind_is =
      λ context state s same unbroken part here.
      let R = LeadsBy root (before ++ []) in
      let leads_on : R reach place s.store =
      subst (λ (list : List Selector). LeadsBy root list reach place s.store) (sym (append-nil before))
      (subst (λ (x : Store). LeadsBy root before reach place x) (sym same) leads) in
      good-give world (IsForetold world visible R context (walk.give reach context state) s.store) place s here.fine
      (record { tie = leads_on; stands = here.stands; kept = keeps-itself visible context.rounds s.store })
  selected-sound root [] (evaluation ∷ evaluations) pieces all count tests store before reach place leads begun formless walked test_is behind_is =
      absurd (omega (arith, count))
  selected-sound root [] [] (piece ∷ pieces) all count tests store before reach place leads begun formless walked test_is behind_is = absurd all
  selected-sound root (Field position offset ∷ selectors) evaluations pieces all count tests store before reach place leads begun formless walked
      test_is behind_is =
      let own : List Selector = Field position offset ∷ [] in
      let inner = part place (step.Field position ∷ []) in
      let leads_on : LeadsBy root (before ++ own) reach inner store = record {
        way = leads.way ++ step.Field position ∷ [];
        place_is = behind root leads.way (step.Field position) place leads.place_is;
        matches = matches-then before own leads.way (step.Field position ∷ []) leads.matches (refl, tt);
        reached = behind-field visible store before leads.way position offset reach leads.reached;
      } in
      subst (λ (list : List Selector). SoundFrom world block visible store (LeadsBy root list) (selected selectors evaluations env inner)
      (indexes_walk walked pieces reach)) (append_assoc before own selectors)
      (selected-sound root selectors evaluations pieces all count tests store (before ++ own) reach inner leads_on begun formless walked test_is behind_is)
  selected-sound root (Element fits cells ∷ selectors) [] pieces all count tests store before reach place leads begun formless walked test_is behind_is =
      absurd (omega (arith, count))
  selected-sound root (Element fits cells ∷ selectors) (evaluation ∷ evaluations) [] all count tests store before reach place leads begun formless walked
      test_is behind_is = absurd all
  selected-sound root (Element fits cells ∷ selectors) (evaluation ∷ evaluations) (index ∷ pieces) all count tests store before reach place leads begun
      formless walked test_is behind_is =
      let R = LeadsBy root (before ++ Element fits cells ∷ selectors) in
      let first = and_parts (is_well_formed_selector (outline_of world.tree) block (Element fits cells)) (tests_are_well selectors) tests in
      let site = and_parts (nat_lt fits.site (sites_in world)) (is_whole fits.range.first && is_whole fits.range.last) first.0 in
      let test = λ (v : Value). effect.require (is_in fits.range v) fits.site in
      let inner_of = λ (v : Value). part place (step.Element (number_of v) ∷ []) in
      let index_by = λ (ordinal : ℕ → Bool) (version : Version) (range : Interval). (let one : Index = record {
        form = form_before_by ordinal version index pieces;
        range = range;
      } in one) in
      let index_of = index_by (ordinal_in world) in
      let kept = λ (version : Version). is_kept version walked in
      let reached_by = λ (version : Version) (range : Interval). deeper (kept version) (index_of version range) reach in
      let walk_by = λ (version : Version) (range : Interval) (tree : Tree).
      indexes_walk selectors pieces (deeper (kept version) (index_by (is_ordinal_variable tree) version range) reach) in
      let from = λ (test : Option RangeTest) (behind : List Selector). SoundFrom world block visible store R
      (selected (Element fits cells ∷ selectors) (evaluation ∷ evaluations) env place) (walk.◌>>=◌ index.walk (λ known. walk.◌>>=◌ (index_test test known)
      (λ range context.
      indexes_walk behind pieces (deeper (kept context.version) (index_by (is_ordinal_variable context.tree) context.version range) reach) context))) in
      let one_more : List Selector = Element fits cells ∷ [] in
      subst (λ (test : Option RangeTest). from test (behind_next walked)) (sym test_is)
      (subst (λ (behind : List Selector). from (Some fits) behind) (sym behind_is)
      (from-held world block visible store (IsHeld scalar.Ordinal) R (evaluation env)
      (λ v. effect.◌>>=◌ (test v) (λ tested. selected selectors evaluations env (inner_of v))) index.walk
      (λ known. walk.◌>>=◌ (index_test (Some fits) known) (λ range context. walk_by context.version range context.tree context))
      (sound-here world block visible store (IsHeld scalar.Ordinal) (evaluation env) index.walk all.0.sound)
      (λ known v s t is from inside numbers.
      let own = λ (version : Version). form_by (ordinal_in world) version index in
      let form : (version : Version) → IsOfForm (moment visible t.store) (own version) v = λ version. all.0.form version s t v is numbers in
      let reached_now : IsReachedBy visible t.store before leads.way reach =
      later-reached visible store t.store before leads.way reach index.holds_call (λ without. all.0.leaves without s t v is ∙ from)
      (λ holds. formless (or_left index.holds_call (hold_call pieces) holds)) leads.reached in
      from-then world block visible t.store (LiesWithin v) R (test v) (λ tested. selected selectors evaluations env (inner_of v)) (index_test (Some fits) known)
      (λ range context. walk_by context.version range context.tree context)
      (sound-here world block visible t.store (LiesWithin v) (test v) (index_test (Some fits) known)
      (tested-sound fits known v (ltb-true fits.site (sites_in world) site.0) inside.0 inside.1))
      (λ range tested s2 u passes same lies.
      let bounds = in-test fits.range v (subst (λ (one : Scalar). IsOf one v) inside.1 (known-of known v inside.0))
      (required-true (is_in fits.range v) fits.site s2 u tested passes) in
      let stays : u.store ≡ t.store = required-leaves (is_in fits.range v) fits.site s2 u tested passes ∙ same in
      let leads_on : (version : Version) → LeadsBy root (before ++ one_more) (reached_by version range) (inner_of v) t.store = λ version. record {
        way = leads.way ++ step.Element (number_of v) ∷ [];
        place_is = behind root leads.way (step.Element (number_of v)) place leads.place_is;
        matches = matches-then before one_more leads.way (step.Element (number_of v) ∷ []) leads.matches (bounds.0, bounds.1, tt);
        reached = behind-element visible t.store before leads.way fits cells (number_of v) (index_of version range)
            (record {
              in_range = lies;
              of_form = form-unless (moment visible t.store) (own version) (hold_call pieces) (number_of v)
                  (of-form (moment visible t.store) (own version) v (form version));
            }) leads.matches (kept version) reach begun reached_now;
      } in
      let by_tree = λ (version : Version).
      sound-by_tree world block visible u.store R (selected selectors evaluations env (inner_of v)) (walk_by version range)
      (subst (λ (list : List Selector). SoundFrom world block visible u.store (LeadsBy root list) (selected selectors evaluations env (inner_of v))
      (indexes_walk selectors pieces (reached_by version range))) (append_assoc before one_more selectors)
      (selected-sound root selectors evaluations pieces all.1 (omega (arith, count)) first.1 u.store (before ++ one_more)
      (reached_by version range) (inner_of v)
      (subst (λ (x : Store). LeadsBy root (before ++ one_more) (reached_by version range) (inner_of v) x) (sym stays) (leads_on version))
      (begun-deeper (kept version) (index_of version range) reach begun)
      (formless-deeper (kept version) (own version) range (hold_call pieces) reach
      (λ holds. formless (or_right index.holds_call (hold_call pieces) holds))) selectors refl refl)) in
      λ context. by_tree context.version context))))

  -- what is reached where an access begins
  reached-begun : (store : Store) (origin : Origin) {place : Option Place} (begins : Begins world block visible origin place)
      → IsReachedSo visible store begins.all begins.way (reach_at origin)
  reached-begun store origin begins =
      subst (λ (steps : List PathStep). IsReachedSo visible store begins.all begins.way (behind_steps steps entire)) begins.steps_are
      (reached-at visible store begins.all begins.way begins.matches
      (indexes-integer (outline_of world.tree) block begins.all begins.way begins.tests begins.matches))

  -- an access
  module _ (records : List OpenRecord) (opened : AreOpen world block visible records env.records) where
    pub reached-sound : (access : Access) (evaluations : List Evaluation) (pieces : List Piece) → AllSound world block env evaluations pieces
        → length evaluations ≡ index_count access.selectors.items → tests_are_well access.selectors.items ≡ true
        → is_there records (origin_of access) ≡ true
        → Sound world block visible (LeadsTo (origin_of access) access.selectors.items) (accessed access evaluations env) (access_walk access pieces)
    reached-sound access evaluations pieces all count tests there =
        let selectors = access.selectors.items in
        let origin = origin_of access in
        let root = root_of origin in
        let R = LeadsTo origin selectors in
        let place = begun origin env in
        let begins = begins-at world block env records opened origin there in
        let every = begins.all ++ selectors in
        sound-anywhere world block visible R (accessed access evaluations env) (access_walk access pieces)
        (λ store.
        from-then world block visible store Any_value R (effect.enter access.number visible)
        (λ done. selected selectors evaluations env place) (walk.enter access.number)
        (λ done. indexes_walk selectors pieces (reach_at origin))
        (sound-here world block visible store Any_value (effect.enter access.number visible) (walk.enter access.number)
        (sound-enter world block visible access.number))
        (λ b a s t is from tie.
        let begun_at = reached-begun t.store origin begins in
        from-weaker world block visible t.store (LeadsBy root every) R
        (λ reach found after leads. record {
          leads = record {
            all = every;
            steps_are = map-append step_of begins.all selectors ∙ ap (λ (steps : List PathStep). steps ++ map step_of selectors) begins.steps_are;
            way = leads.way;
            place_is = leads.place_is;
            matches = leads.matches;
            reached = leads.reached;
          };
          tests = list_all-append (is_well_formed_selector (outline_of world.tree) block) begins.all selectors
              ∙ and_from (tests_are_well begins.all) (tests_are_well selectors) begins.tests tests;
          typed = λ id typed. begins.typed selectors id typed;
        })
        (selected selectors evaluations env place) (indexes_walk selectors pieces (reach_at origin))
        (selected-sound root selectors evaluations pieces all count tests t.store begins.all (reach_at origin) place
        (record { way = begins.way; place_is = begins.place_is; matches = begins.matches; reached = begun_at.reached }) begun_at.begun
        (λ holds. begun_at.formless) selectors refl refl)))

  -- ---- uses

  abbrev inside : Context → Context
  inside context = record context { tree = world.tree }

  -- where a walk stands ordinal variables have numbers
  numbers-here : (context : Context) (state : State) (s : effect.State) → Here world block visible context state s
      → HoldNumbers (ordinal_in world) (moment visible s.store)
  numbers-here context state s here = hold-numbers world.tree world.pairs block s.activations visible s.store here.proper here.fine.typed

  held-at : (store : Store) (root : ℕ) (way rest : List Step) (place : Option Place) → place ≡ part (visible.variables root) way
      → held store (part place rest) ≡ value_at (moment visible store) root (way ++ rest)
  held-at store root way rest place place_is =
      ap (λ (p : Option Place). held store (part p rest)) place_is ∙ ap (held store) (part-then (visible.variables root) way rest)
      ∙ part-held store (visible.variables root) (way ++ rest)

  -- the values of a whole value are in the ranges that are known, whatever the store
  abbrev pub IsWholeIn : Whole → List Interval → List Value → Store → Type 0
  IsWholeIn value ranges values store = IsWhole (types_in world) value ranges values

  -- what an access of a type reaches
  module _ (root : ℕ) (under : List ℕ) (selectors : List Selector) (id : TypeId) (laws : RowsAre world.tree root under selectors id)
      (of_type : accesses.accessed (declared_in world) (types_in world) (AtVariable root) selectors ≡ Some id)
      (many : length under ≡ length (leaves_of (types_in world) id))
      (site : ℕ) (below : site < (sites_in world)) (reach : Reach) (way : List Step) (matches : Matches selectors way) where
    -- each component that is given has a value
    given-has : (state : State) (store : Store) → HoldNumbers (ordinal_in world) (moment visible store)
        → Knows (parts_in world) (variables_in world) visible state store
        → IsReachedBy visible store selectors way reach → is_covered world.tree state reach under ≡ true
        → (rest : List Step) → Contains (components_of (types_in world) id) rest → HasValue (moment visible store) root (way ++ rest)
    given-has state store numbers known reached covered rest of_type =
        let row = laws.covers way rest matches of_type in
        subst (λ (r : ℕ). HasValue (moment visible store) r (way ++ rest)) (laws.root_is row.0 row.1)
        (reached-has (parts_in world) (table_of world.tree) (are-rows world.tree) visible state store numbers known selectors row.0 way rest reach reached row.2
        (covered-row world.tree state reach under row.0 covered row.1))

    -- the value of a component of a row lies in the row's range
    row-in : (state : State) (store : Store) → Knows (parts_in world) (variables_in world) visible state store → (row : ℕ) (rest : List Step) (v : Value)
        → Contains under row → IsOfRow (parts_in world) row (way ++ rest) → value_at (moment visible store) root (way ++ rest) ≡ Some v
        → IsIn (range_of state row) v
    row-in state store known row rest v among of_row at =
        range-lies (parts_in world) (moment visible store) state row known.holds (way ++ rest) v of_row
        (subst (λ (r : ℕ). value_at (moment visible store) r (way ++ rest) ≡ Some v) (sym (laws.root_is row among)) at)

    -- ---- an ordinal or a set

    module _ (one : Scalar) (held : is_held_by one (kind_of (types_in world) id) ≡ true) where
      abbrev used : Walking Known
      used = walk.rows_use one under reach site

      alone : components_of (types_in world) id ≡ [] ∷ []
      alone = scalar_component (types_in world) id (held-scalar one (kind_of (types_in world) id) held)

      itself : Contains (components_of (types_in world) id) []
      itself = subst (λ (components : List (List Step)). Contains components []) (sym alone) (0, omega arith, refl)

      no-rest : (rest : List Step) → Contains (components_of (types_in world) id) rest → [] ≡ rest
      no-rest rest of_type = in-one [] rest (subst (λ (components : List (List Step)). Contains components rest) alone of_type)

      rows-good : (context : Context) (state : State) (s : effect.State) → IsReachedBy visible s.store selectors way reach
          → IsPartOf world (used (inside context) state) → Here world block visible context state s → (found : Option Value)
          → value_at (moment visible s.store) root (way ++ []) ≡ found
          → Good world (IsForetold world visible (IsHeld one) context (used (inside context) state) s.store) s (effect.fetched found site s)
      rows-good context state s reached part here None is =
          let unclosed : is_covered world.tree state reach under ≡ true → ⊥ = λ covered.
          let has = given-has state s.store (numbers-here context state s here) here.stands.known reached covered [] itself in
          none-some has.0 (sym is ∙ has.1) in
          record {
            errs = errs-here world site (part.ids site (open-here site (is_covered world.tree state reach under) unclosed)) below;
            new = nothing-new world s.visited;
            gives = tt;
          }
      rows-good context state s reached part here (Some v) is =
          let row = laws.covers way [] matches itself in
          let lies = joined-in state under row.0 v row.1 (row-in state s.store here.stands.known row.0 [] v row.1 row.2 is) in
          let has : (rest : List Step) → Contains (components_of (types_in world) id) rest → HasValue (moment visible s.store) root (way ++ rest) =
          λ rest of_type. (v, subst (λ (steps : List Step). value_at (moment visible s.store) root (way ++ steps) ≡ Some v) (no-rest rest of_type) is) in
          let known = used-known world.tree (variables_in world) visible s.store root under selectors id laws way matches reach reached has state
          here.stands.known in
          let behind = with_used reach under state in
          let range = all_joined (ranges_of state under) in
          let own = part-lies world.tree world.pairs block s.activations visible here.proper root selectors id of_type s.store here.fine.typed way [] matches v
          is in
          let lies_in : LiesIn (types_in world) id v =
          subst (λ (own_type : TypeId). LiesIn (types_in world) own_type v) (sym (same_Some id own.0 own.1)) own.2 in
          let value_known : IsKnown (rows_value one state under) v = held-known one range v lies (of-kind one (kind_of (types_in world) id) v held lies_in.3) in
          good-give world (IsForetold world visible (IsHeld one) context (used (inside context) state) s.store) v s here.fine (record {
            tie = (value_known, scalar-held one range);
            stands = known-stands world visible context (rows_value one state under) behind s.store v value_known
                (stands-as world visible context state behind s.store here.stands known);
            kept = keeps-itself visible context.rounds s.store;
          })

    -- ---- a whole value

    -- the components that were read
    abbrev AreRead : Store → List (List Step) → List Value → Store → Type 0
    AreRead before components values after =
        (after ≡ before) × (length values ≡ length components)
        × ((k : ℕ) (rest : List Step) (v : Value) → slice_get components k ≡ Some rest → slice_get values k ≡ Some v
        → value_at (moment visible before) root (way ++ rest) ≡ Some v)

    module _ (place : Option Place) (place_is : place ≡ part (visible.variables root) way) (before : Store) where
      abbrev IsRead : List Step → Value → Store → Type 0
      IsRead rest v after = (value_at (moment visible before) root (way ++ rest) ≡ Some v) × (after ≡ before)

      found-good : (rest : List Step) (s : effect.State) → Fine world.tree s → s.store ≡ before → (found : Option Value)
          → value_at (moment visible before) root (way ++ rest) ≡ found
          → (found ≡ None → Contains world.ids site) → Good world (IsRead rest) s (effect.fetched found site s)
      found-good rest s fine same None is opens = record {
        errs = errs-here world site (opens refl) below;
        new = nothing-new world s.visited;
        gives = tt;
      }
      found-good rest s fine same (Some v) is opens = good-give world (IsRead rest) v s fine (is, same)

      one-good : (rest : List Step) (s : effect.State) → Fine world.tree s → s.store ≡ before
          → (value_at (moment visible before) root (way ++ rest) ≡ None → Contains world.ids site)
          → Good world (IsRead rest) s (fetch (part place rest) site s)
      one-good rest s fine same opens =
          subst (λ (found : Option Value). Good world (IsRead rest) s (effect.fetched found site s))
          (sym (held-at s.store root way rest place place_is ∙ ap (λ (x : Store). value_at (moment visible x) root (way ++ rest)) same))
          (found-good rest s fine same (value_at (moment visible before) root (way ++ rest)) refl opens)

      all-good : (components : List (List Step)) (s : effect.State) → Fine world.tree s → s.store ≡ before
          → ((rest : List Step) → Contains components rest → value_at (moment visible before) root (way ++ rest) ≡ None → Contains world.ids site)
          → Good world (AreRead before components) s (fetch_all place components site s)
      all-good [] s fine same opens =
          good-give world (AreRead before []) [] s fine (same, refl, λ k rest v is at. absurd (none-some rest is))
      all-good (first ∷ components) s fine same opens =
          good-then world (IsRead first) (AreRead before (first ∷ components)) s (fetch (part place first) site s)
          (λ v. effect.◌>>=◌ (fetch_all place components site) (λ values. effect.give (v ∷ values)))
          (one-good first s fine same (opens first (0, omega arith, refl)))
          (λ v t is read.
          good-then world (AreRead before components) (AreRead before (first ∷ components)) t (fetch_all place components site t)
          (λ values. effect.give (v ∷ values))
          (all-good components t read.fine read.so.1 (λ rest among. opens rest (suc among.0, omega (arith, among.1), among.2)))
          (λ values u gives more.
          good-give world (AreRead before (first ∷ components)) (v ∷ values) u more.fine (
            more.so.0,
            ap suc more.so.1,
            pairs-then (λ rest w. value_at (moment visible before) root (way ++ rest) ≡ Some w) first components v values read.so.0 more.so.2,
          )))

    abbrev used_whole : Walking (List Interval)
    used_whole = walk.whole_rows_use id under reach site

    -- what was read lies in the ranges, row by row
    read-in : (state : State) (store after : Store) (values : List Value) → Knows (parts_in world) (variables_in world) visible state store
        → AreRead store (components_of (types_in world) id) values after → LieIn (types_in world) id (ranges_of state under) values
    read-in state store after values known read k j rest leaf v range of_type of_leaf named at ranged =
        let row = mapped-at (range_of state) under j range ranged in
        let of_row = laws.placed way rest j row.0 leaf matches (has-contains (components_of (types_in world) id) rest (k, of_type)) of_leaf named row.1 in
        let lies = row-in state store known row.0 rest v (has-contains under row.0 (j, row.1)) of_row (read.2 k rest v of_type at) in
        subst (λ (r : Interval). IsIn r v) row.2 lies

    read-has : (store after : Store) (values : List Value) → AreRead store (components_of (types_in world) id) values after
        → (rest : List Step) → Contains (components_of (types_in world) id) rest → HasValue (moment visible store) root (way ++ rest)
    read-has store after values read rest among =
        let components = components_of (types_in world) id in
        let within : among.0 < length values = omega (arith, among.1, read.1) in
        let v = some-at values among.0 within in
        (v.0, read.2 among.0 rest v.0 (contains-get components rest among) v.1)

    -- each value is one of the type of its component
    read-typed : (s : effect.State) (after : Store) (values : List Value)
        → Proper world.tree world.pairs block s.activations visible → Typed world.tree s.store
        → AreRead s.store (components_of (types_in world) id) values after → AreComponentsOf (types_in world) id values
    read-typed s after values proper typed read = record {
      count = read.1;
      each = λ k rest v rest_at v_at.
          part-lies world.tree world.pairs block s.activations visible proper root selectors id of_type s.store typed way rest matches v
          (read.2 k rest v rest_at v_at);
    }

    abbrev closed : State → Bool
    closed state = is_dead state || (is_structured (types_in world) id && is_covered world.tree state reach under)

    -- there is a range for each leaf
    ranges-many : (state : State) → length (ranges_of state under) ≡ length (leaves_of (types_in world) id)
    ranges-many state =
        length-map under (range_of state) ∙ many

    whole-open : (context : Context) (state : State) (store : Store) → IsReachedBy visible store selectors way reach
        → IsPartOf world (used_whole (inside context) state) → HoldNumbers (ordinal_in world) (moment visible store)
        → Stands world visible context state store
        → (rest : List Step) → Contains (components_of (types_in world) id) rest → value_at (moment visible store) root (way ++ rest) ≡ None
        → Contains world.ids site
    whole-open context state store reached part numbers stands rest among none =
        let structured = is_structured (types_in world) id in
        let covered = is_covered world.tree state reach under in
        let unclosed : closed state ≡ true → ⊥ = λ is.
        ⊎_elim (λ dead. false≢true (sym (alive (parts_in world) (variables_in world) visible state store stands.known) ∙ dead))
        (λ both.
        let each = and_parts structured covered both in
        let has = given-has state store numbers stands.known reached each.1 rest among in none-some has.0 (sym none ∙ has.1))
        (or_cases (is_dead state) (structured && covered) is) in
        part.ids site (open-here site (closed state) unclosed)

    whole-good : (value : Whole)
        → ((ranges : List Interval) (values : List Value) → AreComponentsOf (types_in world) id values
        → (is_structured (types_in world) id ≡ true → length ranges ≡ length (leaves_of (types_in world) id))
        → LieIn (types_in world) id ranges values
        → IsWhole (types_in world) value ranges values)
        → (place : Option Place) → place ≡ part (visible.variables root) way → (context : Context) (state : State) (s : effect.State)
        → IsReachedBy visible s.store selectors way reach → IsPartOf world (used_whole (inside context) state) → Here world block visible context state s
        → Good world (IsForetold world visible (IsWholeIn value) context (used_whole (inside context) state) s.store) s
        (fetch_all place (components_of (types_in world) id) site s)
    whole-good value so place place_is context state s reached part here =
        let components = components_of (types_in world) id in
        let behind = with_used reach under state in
        good-weaker world (AreRead s.store components)
        (IsForetold world visible (IsWholeIn value) context (used_whole (inside context) state) s.store) s
        (fetch_all place components site s)
        (λ values t gives read.
        let known = used-known world.tree (variables_in world) visible s.store root under selectors id laws way matches reach reached
        (read-has s.store t.store values read.so) state here.stands.known in
        record {
          tie = so (ranges_of state under) values
              (read-typed s t.store values here.proper here.fine.typed read.so) (λ structured. ranges-many state)
              (read-in state s.store t.store values here.stands.known read.so);
          stands = subst (λ (store : Store). Stands world visible context behind store) (sym read.so.0)
              (stands-as world visible context state behind s.store here.stands known);
          kept = subst (λ (store : Store). Keeps visible context.rounds s.store store) (sym read.so.0) (keeps-itself visible context.rounds s.store);
        })
        (all-good place place_is s.store components s here.fine refl (whole-open context state s.store reached part (numbers-here context state s here)
        here.stands))

  -- ---- what is accessed

  abbrev access_type : Origin → List Selector → Option TypeId
  access_type origin selectors = accesses.accessed (declared_in world) (types_in world) origin selectors

  -- the rows under what is accessed, by all selectors from its variable
  rows-by : (origin : Origin) (selectors : List Selector) (reach : Reach) (place : Option Place) (store : Store) (id : TypeId)
      → access_type origin selectors ≡ Some id → (leads : LeadsTo origin selectors reach place store)
      → RowsAre world.tree (root_of origin) (rows_accessed world.tree origin selectors) leads.leads.all id
  rows-by origin selectors reach place store id of_type leads =
      let all = leads.leads.all in
      subst (λ (under : List ℕ). RowsAre world.tree (root_of origin) under all id) (rows-same world.tree origin selectors all leads.leads.steps_are)
      (rows-are world.tree (AtVariable (root_of origin)) all id (leads.typed id of_type))

  -- the value of what is accessed
  pub used-sound : (one : Scalar) (origin : Origin) (selectors : List Selector) (site : ℕ)
      → is_type (holds (types_in world) one) (access_type origin selectors) ≡ true
      → site < sites_in world → (store : Store) (reach : Reach) (place : Option Place) → LeadsTo origin selectors reach place store
      → SoundFrom world block visible store (IsHeld one) (fetch place site) (value_use one origin selectors reach site)
  used-sound one origin selectors site typed below store reach place leads_there context state s same unbroken walked here =
      let walking = value_use one origin selectors reach site in
      let (id, of_type, of_one) = type-of (holds (types_in world) one) (access_type origin selectors) typed in
      let leads = leads_there.leads in
      let root = root_of origin in
      let under = rows_accessed world.tree origin selectors in
      let reached : IsReachedBy visible s.store leads.all leads.way reach =
      subst (λ (x : Store). IsReachedBy visible x leads.all leads.way reach) (sym same) leads.reached in
      let place_is : part place [] ≡ place = part-none place in
      in-program world context (λ (c : Context). IsPartOf world (walking c state)
      → Good world (IsForetold world visible (IsHeld one) context (walking c state) s.store) s (fetch place site s)) here.stands.goes.tree_is
      (λ inside_walked.
      subst (λ (found : Option Value). Good world (IsForetold world visible (IsHeld one) context (walking (inside context) state) s.store) s
      (effect.fetched found site s)) (sym (held-at s.store root leads.way [] place leads.place_is) ∙ ap (held s.store) place_is)
      (rows-good root under leads.all id (rows-by origin selectors reach place store id of_type leads_there) (leads_there.typed id of_type)
      (rows-count world.tree origin selectors id of_type) site below reach leads.way leads.matches one of_one context state s reached inside_walked here
      (value_at (moment visible s.store) root (leads.way ++ [])) refl)) walked

  -- the components of a whole value
  components-sound : (origin : Origin) (selectors : List Selector) (id : TypeId) → access_type origin selectors ≡ Some id → (site : ℕ) → site < sites_in world
      → (value : Whole) → ((ranges : List Interval) (values : List Value) → AreComponentsOf (types_in world) id values
      → (is_structured (types_in world) id ≡ true → length ranges ≡ length (leaves_of (types_in world) id))
      → LieIn (types_in world) id ranges values → IsWhole (types_in world) value ranges values)
      → (store : Store) (reach : Reach) (place : Option Place) → LeadsTo origin selectors reach place store
      → SoundFrom world block visible store (IsWholeIn value) (fetch_all place (components_of visible.types id) site)
      (walk.whole_use id origin selectors reach site)
  components-sound origin selectors id of_type site below value so store reach place leads_there context state s same unbroken part here =
      let R = IsWholeIn value in
      let walking = walk.whole_use id origin selectors reach site in
      let leads = leads_there.leads in
      let root = root_of origin in
      let under = rows_accessed world.tree origin selectors in
      let reached : IsReachedBy visible s.store leads.all leads.way reach =
      subst (λ (x : Store). IsReachedBy visible x leads.all leads.way reach) (sym same) leads.reached in
      subst (λ (types : List Form). Good world (IsForetold world visible R context (walking context state) s.store) s
      (fetch_all place (components_of types id) site s)) (sym here.proper.types_are)
      (in-program world context (λ (c : Context). IsPartOf world (walking c state)
      → Good world (IsForetold world visible R context (walking c state) s.store) s (fetch_all place (components_of (types_in world) id) site s))
      here.stands.goes.tree_is
      (λ part. whole-good root under leads.all id (rows-by origin selectors reach place store id of_type leads_there) (leads_there.typed id of_type)
      (rows-count world.tree origin selectors id of_type) site below reach leads.way leads.matches value so place leads.place_is context state s reached part
      here) part)

  -- a whole value: a string, or what is accessed
  pub string-sound : (number : ℕ) (text : Vec ℕ Global)
      → Sound world block visible (IsWholeIn (Text number text)) (whole_of (Text number text) [] env) (whole_walk (Text number text) [])
  string-sound number text =
      let R = IsWholeIn (Text number text) in
      let values = characters_of text.items in
      let ranges = text_range text.items ∷ [] in
      sound-then world block visible Any_value R (effect.enter number visible) (λ done. effect.give values) (walk.enter number) (λ done. walk.give ranges)
      (sound-enter world block visible number)
      (λ b a store tie. sound-give world block visible R values ranges (λ later. record { told = (refl, refl, text-in text.items) }))

  module _ (records : List OpenRecord) (opened : AreOpen world block visible records env.records) where
    pub stored-sound : (access : Access) (type_id : TypeId) (cells defined : ℕ) (evaluations : List Evaluation) (pieces : List Piece)
        → AllSound world block env evaluations pieces
        → is_well_formed_whole (outline_of world.tree) block (VariableOf access type_id cells defined) (length evaluations) ≡ true
        → is_there records (origin_of access) ≡ true
        → Sound world block visible (IsWholeIn (VariableOf access type_id cells defined))
        (whole_of (VariableOf access type_id cells defined) evaluations env) (whole_walk (VariableOf access type_id cells defined) pieces)
    stored-sound access type_id cells defined evaluations pieces all well there =
        let value : Whole = VariableOf access type_id cells defined in
        let selectors = access.selectors.items in
        let origin = origin_of access in
        let n = length evaluations in
        let leads_there = leads_to_whole (outline_of world.tree) block type_id origin selectors n in
        let sized = is_value_of (outline_of world.tree) block type_id cells in
        let parts = and_parts leads_there (sized && nat_lt defined (sites_in world)) well in
        let site = and_parts sized (nat_lt defined (sites_in world)) parts.1 in
        let wanted = λ (id : TypeId). is_same id type_id && is_structured (types_in world) id in
        let found = type-of wanted (access_type origin selectors)
        (leads-type (outline_of world.tree) block wanted origin selectors n parts.0) in
        let same = same-type found.0 type_id (and_parts (is_same found.0 type_id) (is_structured (types_in world) found.0) found.2).0 in
        let R = IsWholeIn value in
        let action = accessed access evaluations env in
        let next = λ (place : Option Place). fetch_all place (components_of visible.types type_id) defined in
        let walking = access_walk access pieces in
        let walk_next = λ (reach : Reach). walk.whole_use type_id origin selectors reach defined in
        sound-anywhere world block visible R (effect.◌>>=◌ action next) (walk.◌>>=◌ walking walk_next)
        (λ store.
        from-then world block visible store (LeadsTo origin selectors) R action next walking walk_next
        (sound-here world block visible store (LeadsTo origin selectors) action walking
        (reached-sound records opened access evaluations pieces all
        (leads-count (outline_of world.tree) block wanted origin selectors n parts.0)
        (leads-tests (outline_of world.tree) block wanted origin selectors n parts.0) there))
        (λ reach place s t is from leads.
        components-sound origin selectors type_id (found.1 ∙ ap (λ (id : TypeId). Some id) same) defined (ltb-true defined (sites_in world) site.1) value
        (λ ranges values many count lie. record { told = (many, count, lie) }) t.store reach place leads))
