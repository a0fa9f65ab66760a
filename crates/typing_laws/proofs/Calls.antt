-- What calls of routines do: each actual parameter fits the formal one at its place, and there are as many.
use Rattle.std.proofs.Common.{◌≡◌, ℕ, ◌+◌, ◌<◌, Bool, true, false, ◌||◌, not, nat_eq, if◌then◌else◌, List, [], ◌∷◌, ◌++◌, length, Option, Some, None}
use Rattle.std.proofs.Common.{Ok, Err, is_none, slice_get, refl, sym, ap, subst, ◌∙◌, arith, append_assoc, length-append, option_map}
use Rattle.std.specs.Option.{option_and_then}
use Rattle.std.proofs.lemmas.Bool.{eq-eqb}
use Rattle.place.specs.declared.Place.{Place}
use Rattle.syntax_tree.specs.Places.{joined_places}
use Rattle.types.specs.Forms.{Form}
use Rattle.types.specs.declared.form.TypeId.{TypeId}
use Rattle.types.specs.declared.form.OrdinalRange.{OrdinalRange}
use Rattle.types.specs.declared.form.TypeKind.{TypeKind}
use Rattle.types.specs.declared.form.TypeKind.TheVariants as kind_of_type
use Rattle.types.specs.Types.{are_compatible_sets, is_assignable, is_structured, is_structured_kind, kind_of, range_of, scalar_range, scalar_range_of}
use Rattle.scopes.specs.declared.denotation.Denotation.{Denotation}
use Rattle.scopes.specs.declared.denotation.Denotation.TheVariants as denotes
use Rattle.typed_tree.specs.declared.fault.TypeFault.TheVariants as fault
use Rattle.typed_tree.specs.declared.site.SiteKind.{SiteKind}
use Rattle.typed_tree.specs.declared.site.SiteKind.TheVariants as kind
use Rattle.typed_tree.specs.declared.tree.FunctionResult.{FunctionResult}
use Rattle.typed_tree.specs.declared.tree.RangeTest.{RangeTest}
use Rattle.typed_tree.specs.declared.tree.Scalar.TheVariants as scalar
use Rattle.typed_tree.specs.declared.tree.Variable.{Variable}
use Rattle.typed_tree.specs.Look.{Calls, Called, ForValue, ForWhole}
use Rattle.typed_tree.specs.WellFormed.{Outline, declarer, holds, is_callable, is_held_by, is_kind_of, is_parameter_kind, is_round, is_value_kind}
use Rattle.typed_tree.specs.WellFormed.{is_variable_kind}
use Rattle.typed_tree.specs.WellFormed.{may_call, of_one, passes_value, passes_whole, takes_value, takes_whole}
use Rattle.typing_rules.specs.Checked.{or_mismatch}
use Rattle.typing_rules.specs.Checked.{and_then}
use Rattle.typing_rules.specs.declared.typed.Typed.{Typed}
use Rattle.typing_rules.specs.declared.typed.TypedValue.{TypedValue}
use Rattle.typing_rules.specs.declared.typed.TypedValue.TheVariants as value
use Rattle.typing.specs.Expressions.{Written, WrittenActual, actual, actuals_for, are_as_many}
use Rattle.typing_rules.specs.Denotations.{as_routine}
use Rattle.typing_rules.specs.Targets.{Copy, fitting, fitting_members, fitting_value}
use Rattle.typing.specs.Expressions.{function_value, or_no_result, passed_by_kind, passed_ordinal, passed_set, passed_to, passed_value}
use Rattle.typing_rules.specs.Targets.{members_test}
use Rattle.typing.specs.Expressions.{passed_whole, result_variable, routine_call, unless_width}
use Rattle.typing_rules.specs.Typed.{typed}
use Rattle.typing_laws.proofs.WholeRanges.{HaveWholeRanges, IsWholeRange, ordinal_values}
use Rattle.typing_laws.proofs.Copies.{IsCopyFor, copy_formed, copying_there}
use Rattle.typing_laws.proofs.Covers.{Covers, covers_any, covers_both, covers_more, covers_none, leads_first}
use Rattle.typing_laws.proofs.Reached.{Signature, signature_of, head_of, Reached, whole_of, IsFurther, further_still, Here, StandsIn, is_round_here, get_longer}
use Rattle.typing_laws.proofs.Reached.{get_mapped, mapped_longer, stands_later}
use Rattle.typing_laws.proofs.Grown.{heads_of, FitsHeading, both_true}
use Rattle.typing_laws.proofs.Sound.{IsRoutine, routine_longer}
use Rattle.typing_laws.proofs.Strings.{there}
use Rattle.typing_laws.proofs.Steps.{PassingDoes, Anything, Nothing, IsSoundThen, joins, quietly, last, checks_types, sited, answered, pure_does, given_does}
use Rattle.typing_laws.proofs.Steps.{fail_does, mark_does, pass_does, enter_does, site_does, host_type_does, heading_at_does, variable_at_does, led}
use Rattle.typing_laws.proofs.Steps.{IsKnown, behind_does, split}
use Rattle.typing_laws.proofs.Tables.{has_kind, is_structured_longer, kind_longer}
use Rattle.typing_laws.proofs.Leading.{IsLed, Types, led_alone, ordinal_types, lt_true, IsFormalAt, formal_later, formal_is, LawfulWritten, covers_test}
use Rattle.typing_laws.proofs.Leading.{led_covers}
use Rattle.typing_laws.proofs.Accesses.{kind_now_does, round_formed, test_formed}

-- ---- tests

-- the range of a test is that of the target's type
fitting_range : (types : List Form) (target : TypeId) (v : TypedValue) (range : OrdinalRange) → fitting_value types target v ≡ Some range
    → scalar_range_of types target ≡ Some range
fitting_range types target (value.Ordinal type_id) range is = by (is_assignable types target type_id) is
  where
    by : (test : Bool) → (if test then range_of types target else None) ≡ Some range → scalar_range_of types target ≡ Some range
    by true h = ordinal_values types target range h
    by false h = absurd cc
fitting_range types target (value.Set base) range is = by (kind_of types target) is
  where
    by : (found : Option TypeKind) → fitting_members base found ≡ Some range → option_and_then scalar_range found ≡ Some range
    by (Some (kind_of_type.Set other members)) h = one (are_compatible_sets other base) h
      where
        one : (test : Bool) → (if test then Some members else None) ≡ Some range → Some members ≡ Some range
        one true g = g
        one false g = absurd cc
    by (Some (kind_of_type.Ordinal values)) h = absurd cc
    by (Some kind_of_type.Structured) h = absurd cc
    by None h = absurd cc
fitting_range types target (value.Text type_id length) range is = absurd cc
fitting_range types target (value.Whole type_id cells) range is = absurd cc

pub fitting_is : (place : Place) (types : List Form) (target : TypeId) (t : Typed) (range : OrdinalRange)
    → or_mismatch place (fitting types target t) ≡ Ok range → scalar_range_of types target ≡ Some range
fitting_is place types target t range is = fitting_range types target t.value range (there place (fitting types target t) range is)

-- the range of a type, of numbers of integer
abbrev pub IsRangeOf : List Form → TypeId → OrdinalRange → Type 0
IsRangeOf types id range = (scalar_range_of types id ≡ Some range) × IsWholeRange range

pub fitting_whole : (place : Place) (types now : List Form) (target : TypeId) (t : Typed) (range : OrdinalRange) → now ≡ types → HaveWholeRanges types
    → or_mismatch place (fitting types target t) ≡ Ok range → IsRangeOf now target range
fitting_whole place types now target t range same whole is =
    let found = fitting_is place types target t range is in
    (ap (λ l. scalar_range_of l target) same ∙ found, whole target range found)

-- a parameter that is none by reference is one by value
by_value : (value variable : Bool) → (value || variable) ≡ true → variable ≡ false → value ≡ true
by_value true variable is none = refl
by_value false variable is none = let same : false ≡ true = sym none ∙ is in absurd cc

-- ---- formal parameters

-- a parameter of a callee, at a place, by its root
pub record IsParameterAt (now : Reached) (callee position root : ℕ) : Type 0 where
  pub formal : Variable
  pub is_there : slice_get now.variables root ≡ Some formal
  pub at : IsFormalAt now callee position formal
  pub is_parameter : is_parameter_kind formal.kind ≡ true

parameter_later : (now next : Reached) (callee position root : ℕ) → IsFurther now next → IsParameterAt now callee position root
    → IsParameterAt next callee position root
parameter_later now next callee position root more p = record {
  formal = p.formal;
  is_there = get_longer more.variables root p.formal p.is_there;
  at = formal_later now next callee position p.formal more p.at;
  is_parameter = p.is_parameter;
}

abbrev pub AreParametersAt : Reached → ℕ → ℕ → List ℕ → Type 0
AreParametersAt now callee position [] = Unit {0}
AreParametersAt now callee position (root ∷ roots) = IsParameterAt now callee position root × AreParametersAt now callee (position + 1) roots

parameters_later : (now next : Reached) (callee position : ℕ) (roots : List ℕ) → IsFurther now next → AreParametersAt now callee position roots
    → AreParametersAt next callee position roots
parameters_later now next callee position [] more all = tt
parameters_later now next callee position (root ∷ roots) more all =
    (parameter_later now next callee position root more all.0, parameters_later now next callee (position + 1) roots more all.1)

at_end : (before rest : List ℕ) (root : ℕ) → slice_get (before ++ root ∷ rest) (length before) ≡ Some root
at_end [] rest root = refl
at_end (one ∷ before) rest root = at_end before rest root

-- those that a heading tells
parameters_from : (now : Reached) (callee : ℕ) (signature : Signature) (before roots : List ℕ) → slice_get now.headings callee ≡ Some signature
    → FitsHeading now callee signature → signature.parameters ≡ before ++ roots → AreParametersAt now callee (length before) roots
parameters_from now callee signature before [] heading fits are = tt
parameters_from now callee signature before (root ∷ roots) heading fits are =
    let here = ap (λ l. slice_get l (length before)) are ∙ at_end before roots root in
    let formal = fits.formals (length before) root here in
    let counted : length (before ++ root ∷ []) ≡ length before + 1 = length-append before (root ∷ []) in
    let rest = parameters_from now callee signature (before ++ root ∷ []) roots heading fits (are ∙ sym (append_assoc before (root ∷ []) roots)) in (
      record {
        formal = formal.variable;
        is_there = formal.is_there;
        at = record { signature = signature; heading = heading; root = root; is_there = here; variable = formal.is_there; stands = formal.stands };
        is_parameter = formal.is_parameter;
      },
      subst (λ n. AreParametersAt now callee n roots) counted rest,
    )

module _ (here : Here) where
  abbrev pub IsLawfulWidth : List Place → Option Written → Type 0
  IsLawfulWidth places None = Unit {0}
  IsLawfulWidth places (Some width) = LawfulWritten here places width

  -- an actual: its value, and then its width
  pub record LawfulActual (places : List Place) (a : WrittenActual) : Type 0 where
    pub of_value : List Place
    pub of_width : List Place
    pub places_are : places ≡ of_value ++ of_width
    pub value : LawfulWritten here of_value a.value
    pub width : IsLawfulWidth of_width a.width

  -- actuals with their places
  abbrev pub AreLawfulActuals : List (List Place) → List WrittenActual → Type 0
  AreLawfulActuals [] [] = Unit {0}
  AreLawfulActuals [] (a ∷ actuals) = ⊥
  AreLawfulActuals (row ∷ rows) [] = ⊥
  AreLawfulActuals (row ∷ rows) (a ∷ actuals) = LawfulActual row a × AreLawfulActuals rows actuals

  -- ---- values that are passed

  value_formed : (now : Reached) (callee position : ℕ) (formal : Variable) (fits : RangeTest) (o : Outline) → IsFurther now (whole_of o)
      → IsFormalAt now callee position formal → is_value_kind formal.kind ≡ true → holds now.types fits.tests formal.type_id ≡ true
      → fits.site < now.sites → IsRangeOf now.types formal.type_id fits.range
      → passes_value o here.block fits callee position ≡ true
  value_formed now callee position formal fits o more at by_value held known range =
      both_true _ _ (both_true _ _ (lt_true fits.site o.sites (omega (arith, known, more.sites))) range.1)
      (ap (of_one (takes_value o fits)) (formal_is now callee position formal o more at)
      ∙ both_true _ _ by_value (test_formed here formal.type_id fits now (whole_of o) at.stands more held range.0))

  ordinal_does : {least : Reached} (w : Written) (places : List Place) (callee position : ℕ) (formal : Variable) → LawfulWritten here places w
      → IsFormalAt least callee position formal → is_value_kind formal.kind ≡ true → holds least.types scalar.Ordinal formal.type_id ≡ true
      → PassingDoes here least (Covers 0 places) (passed_ordinal formal.type_id w callee position) Anything
  unfolding passed_ordinal
  ordinal_does {least} w places callee position formal law at by_value held =
      joins (covers_test here kind.Subrange (omega arith) (omega arith) places w law) (site_does kind.Subrange w.first) λ site now one known.
      last (checks_types {L = λ range n. IsRangeOf n.types formal.type_id range} (law.types now None tt) λ types t range next more same lawful fits _.
      fitting_whole w.first types next.types formal.type_id t range same lawful.whole fits) λ range next two is.
      let seen = further_still one two in
      let there = formal_later least next callee position formal seen at in
      let test : RangeTest = record { site = site; tests = scalar.Ordinal; range = range } in
      mark_does (ForValue test callee position) refl refl refl refl
      (λ o h. value_formed next callee position formal test o h there by_value
      (ap (is_held_by scalar.Ordinal) (kind_longer seen.types formal.type_id at.stands) ∙ held) (omega (arith, known, two.sites)) is)

  -- the test of a set names its leading site
  abbrev IsMembersTest : TypeId → RangeTest → Reached → Type 0
  IsMembersTest id test now = (test.tests ≡ scalar.Set) × (test.site < now.sites) × IsRangeOf now.types id test.range

  members_test_is : (place : Place) (types : List Form) (id : TypeId) (t : Typed) (test : RangeTest) (now : Reached) → now.types ≡ types
      → HaveWholeRanges types → IsKnown t.site now → members_test types id place t ≡ Ok test → IsMembersTest id test now
  members_test_is place types id t test now same whole known is =
      let x = split (or_mismatch place (fitting types id t)) (λ range. and_then (or_mismatch place t.site) (λ site. Ok (made range site))) test is in
      let y = split (or_mismatch place t.site) (λ site. Ok (made x.0 site)) test x.2 in
      let made_is : made x.0 y.0 ≡ test = cc in
      subst (λ (z : RangeTest). IsMembersTest id z now) made_is (
        refl,
        subst (λ z. IsKnown z now) (there place t.site y.0 y.1) known,
        fitting_whole place types now.types id t x.0 same whole x.1,
      )
    where
      made : OrdinalRange → ℕ → RangeTest
      made range site = record { site = site; tests = scalar.Set; range = range }

  set_does : {least : Reached} (w : Written) (places : List Place) (callee position : ℕ) (formal : Variable) → LawfulWritten here places w
      → IsFormalAt least callee position formal → is_value_kind formal.kind ≡ true → holds least.types scalar.Set formal.type_id ≡ true
      → PassingDoes here least (Covers 0 places) (passed_set formal.type_id w callee position) Anything
  unfolding passed_set
  set_does {least} w places callee position formal law at by_value held =
      last (sited (covers_any 2 places) (checks_types {L = IsMembersTest formal.type_id} (law.types least (Some kind.SetMember) (omega arith))
      λ types t test next more same lawful tests own. members_test_is w.first types formal.type_id t test next same lawful.whole own.0 tests))
      λ test next more is.
      let there = formal_later least next callee position formal more at in
      mark_does (ForValue test callee position) refl refl refl refl
      (λ o h. value_formed next callee position formal test o h there by_value
      (ap (λ tested. holds next.types tested formal.type_id) is.0 ∙ ap (is_held_by scalar.Set) (kind_longer more.types formal.type_id at.stands) ∙ held)
      is.1 is.2)

  whole_formed : (now : Reached) (callee position : ℕ) (formal : Variable) (copy : Copy) (o : Outline) → IsFurther now (whole_of o)
      → IsFormalAt now callee position formal → is_value_kind formal.kind ≡ true → is_structured now.types formal.type_id ≡ true
      → IsCopyFor now.types formal.type_id copy
      → passes_whole o here.block formal.type_id copy.source copy.cells callee position ≡ true
  whole_formed now callee position formal copy o more at by_value structured fits =
      both_true _ _ (copy_formed here.block now formal.type_id copy o more structured fits)
      (ap (of_one (takes_whole formal.type_id)) (formal_is now callee position formal o more at)
      ∙ both_true _ _ by_value (eq-eqb formal.type_id.index formal.type_id.index refl))

  whole_does : {least : Reached} (w : Written) (places : List Place) (callee position : ℕ) (formal : Variable) → LawfulWritten here places w
      → IsFormalAt least callee position formal → is_value_kind formal.kind ≡ true → is_structured least.types formal.type_id ≡ true
      → PassingDoes here least (Covers 0 places) (passed_whole formal.type_id w callee position) Anything
  unfolding passed_whole
  whole_does {least} w places callee position formal law at by_value structured =
      last (sited (covers_any 2 places) (checks_types {L = λ copy n. IsCopyFor n.types formal.type_id copy} (law.types least None tt)
      λ types t copy next more same lawful copies own.
      copying_there w.first next types formal.type_id t copy same lawful (is_structured_longer more.types formal.type_id structured) own.1 copies))
      λ copy next more fits.
      let there = formal_later least next callee position formal more at in
      mark_does (ForWhole formal.type_id copy.source copy.cells callee position) refl refl refl refl
      (λ o h. whole_formed next callee position formal copy o h there by_value
      (is_structured_longer more.types formal.type_id structured) fits)

  value_does : {least : Reached} (w : Written) (places : List Place) (callee position : ℕ) (formal : Variable) → LawfulWritten here places w
      → IsFormalAt least callee position formal → is_value_kind formal.kind ≡ true
      → PassingDoes here least (Covers 0 places) (passed_value formal.type_id w callee position) Anything
  unfolding passed_value
  value_does {least} w places callee position formal law at is =
      quietly (kind_now_does here formal.type_id) λ found now more of_kind.
      by now found (formal_later least now callee position formal more at) of_kind.1
    where
      by : (now : Reached) (found : Option TypeKind) → IsFormalAt now callee position formal → kind_of now.types formal.type_id ≡ found
          → PassingDoes here now (Covers 0 places) (passed_by_kind found formal.type_id w callee position) Anything
      by now (Some kind_of_type.Structured) at h = whole_does w places callee position formal law at is (ap is_structured_kind h)
      by now (Some (kind_of_type.Set base members)) at h = set_does w places callee position formal law at is (ap (is_held_by scalar.Set) h)
      by now (Some (kind_of_type.Ordinal range)) at h = ordinal_does w places callee position formal law at is (ap (is_held_by scalar.Ordinal) h)
      by now None at h = absurd (has_kind now.types formal.type_id at.stands h)

  -- ---- actual parameters

  passed_does : {least : Reached} (w : Written) (places : List Place) (callee position : ℕ) (formal : Variable) → LawfulWritten here places w
      → IsFormalAt least callee position formal → is_parameter_kind formal.kind ≡ true
      → PassingDoes here least (Covers 0 places) (passed_to (Some formal) w callee position) Anything
  passed_does {least} w places callee position formal law at is = by (is_variable_kind formal.kind) refl
    where
      by : (test : Bool) → is_variable_kind formal.kind ≡ test
          → PassingDoes here least (Covers 0 places)
          ((if test then w.passing formal.type_id else passed_value formal.type_id w) callee position) Anything
      by true h = sited (covers_any 2 places) (law.passes least callee position formal at h)
      by false h = value_does w places callee position formal law at (by_value (is_value_kind formal.kind) (is_variable_kind formal.kind) is h)

  actual_does : {least : Reached} (a : WrittenActual) (places : List Place) (root callee position : ℕ) → LawfulActual places a
      → IsParameterAt least callee position root → PassingDoes here least (Covers 0 places) (actual a root callee position) Anything
  unfolding actual
  actual_does {least} a places root callee position law p =
      sited (λ sites has. subst (λ l. Covers 0 l sites) (sym law.places_are) (covers_more 0 law.of_value law.of_width sites has))
      (quietly (given_does (unless_width a.value.first a.width)) λ _ _ one _.
      quietly (variable_at_does root) λ found now two is.
      let parameter = parameter_later least now callee position root (further_still one two) p in
      let formal_found : Some parameter.formal ≡ found = sym parameter.is_there ∙ is in
      subst (λ f. PassingDoes here now (Covers 0 law.of_value) (passed_to f a.value callee position) Anything) formal_found
      (passed_does a.value law.of_value callee position parameter.formal law.value parameter.at parameter.is_parameter))

  actuals_do : {least : Reached} (roots : List ℕ) (actuals : List WrittenActual) (rows : List (List Place)) (callee position : ℕ)
      → AreLawfulActuals rows actuals → AreParametersAt least callee position roots
      → PassingDoes here least (Covers 0 (joined_places rows)) (actuals_for roots actuals callee position) Anything
  actuals_do [] actuals rows callee position laws all =
      sited (λ sites none. subst (Covers 0 (joined_places rows)) (sym none) (covers_none 0 (joined_places rows))) (pure_does {K = Anything} tt (λ n h. tt))
  actuals_do (root ∷ roots) [] rows callee position laws all =
      sited (λ sites none. subst (Covers 0 (joined_places rows)) (sym none) (covers_none 0 (joined_places rows))) (pure_does {K = Anything} tt (λ n h. tt))
  actuals_do (root ∷ roots) (a ∷ actuals) [] callee position laws all = absurd laws
  actuals_do {least} (root ∷ roots) (a ∷ actuals) (row ∷ rows) callee position laws all =
      joins (covers_both 0 row (joined_places rows)) (actual_does a row root callee position laws.0 all.0) λ _ now more _.
      actuals_do roots actuals rows callee (position + 1) laws.1 (parameters_later least now callee (position + 1) roots more all.1)

  -- ---- calls

  -- the kind of a routine is that of its result
  kind_is : (is_function : Bool) (result : Option FunctionResult)
      → not (is_none (option_map (λ (r : FunctionResult). r.root) result)) ≡ is_function → is_kind_of is_function result ≡ true
  kind_is true None is = absurd cc
  kind_is true (Some result) is = refl
  kind_is false None is = refl
  kind_is false (Some result) is = absurd cc

  visible_is : (o : Outline) (found : Option ℕ) → ((block : ℕ) → is_round_here here block ≡ true → is_round o here.block block ≡ true)
      → of_one (is_round_here here) found ≡ true → of_one (is_round o here.block) found ≡ true
  visible_is o None round is = absurd cc
  visible_is o (Some block) round is = round block is

  -- a routine that a name denotes is one that the block or one round it declares
  pub routine_is : (now : Reached) (d : Denotation) (routine : ℕ × Bool) → as_routine d ≡ Some routine → IsSoundThen here d now
      → IsRoutine here (heads_of now) routine.0 routine.1
  routine_is now (denotes.Routine block is_function) routine is sound =
      let same : (block, is_function) ≡ routine = cc in subst (λ (r : ℕ × Bool). IsRoutine here (heads_of now) r.0 r.1) same sound
  routine_is now other routine is sound = absurd cc

  -- a routine that may be called here, with what its heading tells
  pub record MayCall (now : Reached) (is_function : Bool) (callee : ℕ) : Type 0 where
    pub signature : Signature
    pub heading : slice_get now.headings callee ≡ Some signature
    pub is_visible : of_one (is_round_here here) (declarer signature.around) ≡ true
    pub of_kind : not (is_none signature.result) ≡ is_function

  pub may_call_it : (now : Reached) (is_function : Bool) (callee : ℕ) → IsRoutine here (heads_of now) callee is_function → MayCall now is_function callee
  may_call_it now is_function callee routine =
      let at = get_mapped head_of now.headings callee routine.head routine.is_there in
      record {
        signature = at.0;
        heading = at.1;
        is_visible = ap (λ h. of_one (is_round_here here) (declarer h.around)) at.2 ∙ routine.is_visible;
        of_kind = ap (λ h. h.is_function) at.2 ∙ routine.of_kind;
      }

  called_formed : (now : Reached) (is_function : Bool) (callee count : ℕ) (m : MayCall now is_function callee) → StandsIn here now
      → nat_eq count (length m.signature.parameters) ≡ true → (o : Outline) → IsFurther now (whole_of o)
      → may_call o here.block is_function callee count ≡ true
  called_formed now is_function callee count m stands as_many o more =
      let at = get_mapped signature_of o.headings callee m.signature (get_longer more.headings callee m.signature m.heading) in
      let around = ap (λ (s : Signature). s.around) (sym at.2) in
      let parameters = ap (λ (s : Signature). s.parameters) (sym at.2) in
      let result = ap (λ (s : Signature). s.result) at.2 in
      ap (of_one (is_callable o here.block is_function count)) at.1
      ∙ both_true _ _
      (subst (λ blocks. of_one (is_round o here.block) (declarer blocks) ≡ true) around
      (visible_is o (declarer m.signature.around) (round_formed here now o stands more) m.is_visible))
      (both_true _ _ (kind_is is_function at.0.result (ap (λ r. not (is_none r)) result ∙ m.of_kind))
      (subst (λ roots. nat_eq count (length roots) ≡ true) parameters as_many))

  count_is : (place : Place) (a b : ℕ) → are_as_many place a b ≡ Ok (tt {0}) → nat_eq a b ≡ true
  count_is place a b is = by (nat_eq a b) is
    where
      by : (test : Bool) → (if test then Ok (tt {0}) else Err (fault.WrongParameters place)) ≡ Ok (tt {0}) → test ≡ true
      by true h = refl
      by false h = absurd cc

  may_call_later : (now next : Reached) (is_function : Bool) (callee : ℕ) → IsFurther now next → MayCall now is_function callee
      → MayCall next is_function callee
  may_call_later now next is_function callee more m = record {
    signature = m.signature;
    heading = get_longer more.headings callee m.signature m.heading;
    is_visible = m.is_visible;
    of_kind = m.of_kind;
  }

  pub routine_call_does : {least : Reached} (is_function : Bool) (callee : ℕ) (place : Place) (actuals : List WrittenActual) (rows : List (List Place))
      → IsRoutine here (heads_of least) callee is_function → StandsIn here least → AreLawfulActuals rows actuals
      → PassingDoes here least (Covers 0 (joined_places rows)) (routine_call is_function callee place actuals) Anything
  unfolding routine_call
  routine_call_does {least} is_function callee place actuals rows routine stands laws =
      let may = may_call_it least is_function callee routine in
      quietly (enter_does (λ n. Calls n place callee) (λ n. refl) (λ n. refl) (λ n. refl) (λ n. refl) (λ n o h. refl)) λ _ entered one _.
      quietly (heading_at_does callee may.signature (get_longer one.headings callee may.signature may.heading)) λ heading now two is.
      let known = get_longer (further_still one two).headings callee may.signature may.heading in
      let same : heading.parameters ≡ may.signature.parameters = ap (λ (s : Signature). s.parameters) is.0 in
      let all = parameters_from now callee may.signature [] heading.parameters known is.1 (sym same) in
      quietly (given_does (are_as_many place (length actuals) (length heading.parameters))) λ _ next three counts.
      let as_many = subst (λ l. nat_eq (length actuals) (length l) ≡ true) same (count_is place (length actuals) (length heading.parameters) counts) in
      last (actuals_do heading.parameters actuals rows callee 0 laws (parameters_later now next callee 0 heading.parameters three all)) λ _ _ four _.
      let seen = further_still one (further_still two (further_still three four)) in
      quietly (mark_does (Called is_function callee (length actuals)) refl refl refl refl
      (λ o h. called_formed least is_function callee (length actuals) may stands as_many o (further_still seen h))) λ _ _ _ _.
      pure_does heading.result (λ n h. tt)

  result_variable_does : {least : Reached} (root : Option ℕ) → PassingDoes here least Nothing (result_variable root) Anything
  result_variable_does None = pure_does None (λ n h. tt)
  result_variable_does (Some root) = answered (λ found now is. tt) (variable_at_does root)

  -- the value of a function
  pub function_does : {least : Reached} (callee : ℕ) (is_function : Bool) (place : Place) (actuals : List WrittenActual) (rows : List (List Place))
      (lead : Option SiteKind) → IsLed lead → IsRoutine here (heads_of least) callee is_function → StandsIn here least → AreLawfulActuals rows actuals
      → PassingDoes here least (Covers 2 (place ∷ joined_places rows)) (function_value callee is_function place actuals lead) Types
  unfolding function_value
  function_does callee false place actuals rows lead is routine stands laws = fail_does (fault.WrongParameters place)
  function_does {least} callee true place actuals rows lead is routine stands laws =
      led_covers here 2 place (joined_places rows) (led lead) (led_alone lead is)
      (quietly (pass_does place) λ _ _ one _.
      joins (leads_first 0 place (led lead) (joined_places rows)) (behind_does lead place) λ id now two known.
      let seen = further_still one two in
      last (routine_call_does true callee place actuals rows
      (routine_longer here (heads_of least) (heads_of now) callee true (mapped_longer head_of seen.headings) routine)
      (stands_later here least now seen stands) laws) λ root _ three _.
      quietly (result_variable_does root) λ found _ four _.
      quietly (given_does (or_no_result place found)) λ result _ five _.
      quietly (host_type_does result.type_id) λ host _ six _.
      pure_does (typed host id)
      (λ n h. ordinal_types host id now n (further_still three (further_still four (further_still five (further_still six h)))) known))
