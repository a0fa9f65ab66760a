-- What operators, chains and calls do, each with the site of its operation.
use Rattle.std.proofs.Common.{◌≡◌, ℕ, ◌<◌, Bool, true, false, ◌&&◌, if◌then◌else◌, List, [], ◌∷◌, ◌++◌, Option, None, Some}
use Rattle.std.specs.List.{list_all}
use Rattle.std.proofs.lemmas.Bool.{eq-eqb}
use Rattle.std.proofs.Common.{nat_eq, nat_lt, Ok, ℤ, ◌+ℤ◌, ◌-ℤ◌, ◌≤ℤ◌, int_lt, int_le, pos, neg_ℤ, refl, ap, subst, ◌∙◌, arith}
use Rattle.std.proofs.lemmas.Int.{ints}
use Rattle.place.specs.declared.Place.{Place}
use Rattle.syntax_tree.specs.declared.Name.{Name}
use Rattle.syntax_tree.specs.declared.Operator.{Operator}
use Rattle.syntax_tree.specs.declared.Operator.TheVariants as op
use Rattle.syntax_tree.specs.declared.RelationalOperator.{RelationalOperator}
use Rattle.syntax_tree.specs.declared.RelationalOperator.TheVariants as relational
use Rattle.syntax_tree.specs.Places.{Places, joined_places, member_places}
use Rattle.std.specs.Prelude.{flat_map}
use Rattle.types.specs.declared.form.TypeId.{TypeId}
use Rattle.types.specs.Forms.{Form}
use Rattle.types.specs.declared.form.OrdinalRange.{OrdinalRange}
use Rattle.types.specs.Types.{are_compatible_sets, boolean, is_compatible, is_same, is_string, joined_base, range_of}
use Rattle.std.specs.Prelude.{is_some}
use Rattle.scopes.specs.declared.denotation.Denotation.{Denotation}
use Rattle.scopes.specs.declared.denotation.Denotation.TheVariants as denotes
use Rattle.scopes.specs.declared.denotation.InputFunction.{InputFunction}
use Rattle.scopes.specs.declared.denotation.RequiredFunction.{RequiredFunction}
use Rattle.scopes.specs.declared.denotation.FunctionOperation.{FunctionOperation}
use Rattle.scopes.specs.declared.denotation.FunctionOperation.TheVariants.{Calculates, Tests}
use Rattle.scopes.specs.declared.denotation.FunctionTest.{FunctionTest}
use Rattle.scopes.specs.declared.denotation.FunctionTest.TheVariants as test
use Rattle.scopes.specs.declared.denotation.FunctionValue.{FunctionValue}
use Rattle.scopes.specs.declared.denotation.FunctionValue.TheVariants as function
use Rattle.typed_tree.specs.declared.site.SiteKind.{SiteKind}
use Rattle.typed_tree.specs.declared.site.SiteKind.TheVariants as kind
use Rattle.typed_tree.specs.declared.tree.Calculation.TheVariants as calculation
use Rattle.typed_tree.specs.declared.tree.Monadic.{Monadic}
use Rattle.typed_tree.specs.declared.tree.Dyadic.{Dyadic}
use Rattle.typed_tree.specs.declared.tree.Dyadic.TheVariants as dyadic
use Rattle.typed_tree.specs.declared.tree.Designator.{Designator}
use Rattle.typed_tree.specs.declared.tree.Designator.TheVariants as designator
use Rattle.typed_tree.specs.WellFormed.{Outline, is_whole, calculation_is_well_formed, shift_is_well_formed, monadic_is_well_formed, dyadic_is_well_formed}
use Rattle.typed_tree.specs.WellFormed.{is_text, member_site, members_wanted}
use Rattle.typed_tree.specs.Look.{Operation, Applied, Begins, Operator as OperatorMark, Compared, Constructed, Constructs, Ends}
use Rattle.typing_rules.specs.Checked.{Checked, and_then}
use Rattle.typing_rules.specs.Checked.{fits, or_mismatch}
use Rattle.typing_rules.specs.declared.typed.Typed.{Typed}
use Rattle.typing_rules.specs.declared.typed.TypedValue.{TypedValue}
use Rattle.typing_rules.specs.declared.typed.TypedValue.TheVariants as value
use Rattle.typing.specs.Expressions.{Written, WrittenActual, WrittenLink, written, tested, operation, operation_or}
use Rattle.typing_rules.specs.Typed.{typed, typed_set}
use Rattle.typing_rules.specs.Operators.{operand_type, may_compare}
use Rattle.typing.specs.Expressions.{chain, compares, constructed, first_member, last_member, link, links}
use Rattle.typing_rules.specs.Operators.{are_alike, may_contain, may_relate}
use Rattle.typing_rules.specs.Typed.{is_scalar_value}
use Rattle.typing.specs.Expressions.{member, members, relation}
use Rattle.typing_rules.specs.Operators.{member_of, member_with_site, relation_behind_value, relation_of, result_of, set_operation}
use Rattle.typing.specs.Expressions.{call}
use Rattle.typing_rules.specs.Operators.{set_operation_behind, set_relation_of}
use Rattle.typing_rules.specs.Targets.{Copy, whole_copy}
use Rattle.typing_rules.specs.Typed.{whole_type}
use Rattle.typing_rules.specs.Denotations.{as_function}
use Rattle.typing.specs.declared.functions.BegunFunction.{BegunFunction}
use Rattle.typing.specs.declared.functions.BegunFunction.TheVariants as begun
use Rattle.typing.specs.Functions.{is_taken, given_type, test_kind, shift_of, no_values, all_but_last, all_but_first, passing_values, calculation_of, begins_as}
use Rattle.typing.specs.Functions.{operation_on, applied, applied_to}
use Rattle.typing.specs.Expressions.{call_by, input_call, is_input, required_call, only}
use Rattle.typing_laws.proofs.WholeRanges.{HaveWholeRanges, IsWholeRange, IfWhole, if_whole}
use Rattle.typing_laws.proofs.Covers.{AreAbove, at_place, Covers, Leads, covers_any, covers_both, covers_more, covers_skip, leads_first}
use Rattle.typing_laws.proofs.Covers.{leads_more}
use Rattle.typing_laws.proofs.Grown.{both_true}
use Rattle.typing_laws.proofs.Reached.{IsLonger, Reached, whole_of, IsFurther, further_still, Here}
use Rattle.typing_laws.proofs.Steps.{PassingDoes, Anything, Nothing, IsFound, joins, quietly, last, checks, checks_types, sited, pass_does, pure_does}
use Rattle.typing_laws.proofs.Steps.{given_does}
use Rattle.typing_laws.proofs.Steps.{find_does}
use Rattle.typing_laws.proofs.Steps.{IsKnown, mark_does, enter_does, site_does, led, behind_does, split}
use Rattle.typing_laws.proofs.Strings.{fit_is, both_and, there}
use Rattle.typing_laws.proofs.Copies.{HasSource, source_longer, string_compared}
use Rattle.typing_laws.proofs.Tables.{is_string_longer}
use Rattle.typing_laws.proofs.Leading.{IsLed, Types, known_later, led_alone, led_behind, ordinal_types, set_types, types_later, lt_true, LawfulWritten}
use Rattle.typing_laws.proofs.Leading.{LawfulLink}
use Rattle.typing_laws.proofs.Leading.{no_variable_lawful, led_covers}
use Rattle.typing_laws.proofs.Calls.{AreLawfulActuals, function_does as function_does_call}
use Rattle.typing_laws.proofs.Expressions.{input_does}

-- ---- the values that pass the test of a function, and what comes of them, are numbers of integer

le_further : (a b c : ℤ) → int_le a b ≡ true → b ≤ℤ c → int_le a c ≡ true
le_further a b c is more = grind (arith, ints)

le_within : (a b c : ℤ) → a ≤ℤ b → int_le b c ≡ true → int_le a c ≡ true
le_within a b c less is = grind (arith, ints)

whole_between : (low middle high : ℤ) → is_whole low ≡ true → is_whole high ≡ true → low ≤ℤ middle → middle ≤ℤ high → is_whole middle ≡ true
whole_between low middle high one two above below =
    both_true (int_le (neg_ℤ (pos 2147483647)) middle) (int_le middle (pos 2147483647))
    (le_further (neg_ℤ (pos 2147483647)) low middle (both_and _ _ one).0 above) (le_within middle high (pos 2147483647) below (both_and _ _ two).1)

one_less : (m n : ℤ) → int_lt m n ≡ true → (m ≤ℤ (n -ℤ pos 1)) × ((n -ℤ pos 1) ≤ℤ n)
one_less m n is = (grind (arith, ints), omega (arith, ints))

one_more : (m n : ℤ) → int_lt m n ≡ true → (m ≤ℤ (m +ℤ pos 1)) × ((m +ℤ pos 1) ≤ℤ n)
one_more m n is = (omega (arith, ints), grind (arith, ints))

less_and_more : (n : ℤ) → (n -ℤ pos 1) +ℤ pos 1 ≡ n
less_and_more n = omega (arith, ints)

more_and_less : (n : ℤ) → (n +ℤ pos 1) -ℤ pos 1 ≡ n
more_and_less n = omega (arith, ints)

abbrev IsWholeShift : FunctionTest → OrdinalRange → Type 0
IsWholeShift tested values =
    IsWholeRange values × ((w : Outline) (block : ℕ) → shift_is_well_formed w block values (shift_of tested) ≡ true)

but_last_whole : (values : OrdinalRange) → IsWholeRange values → IsWholeShift test.Next (all_but_last values)
but_last_whole values whole = by (int_lt values.first values.last) refl
  where
    by : (several : Bool) → int_lt values.first values.last ≡ several
        → IsWholeShift test.Next (if several then record values { last = values.last -ℤ pos 1 } else no_values)
    by false is = (refl, λ w block. refl)
    by true is =
        let ends = both_and (is_whole values.first) (is_whole values.last) whole in
        let less = one_less values.first values.last is in (
          both_true _ _ ends.0 (whole_between values.first (values.last -ℤ pos 1) values.last ends.0 ends.1 less.0 less.1),
          λ w block. ap is_whole (less_and_more values.last) ∙ ends.1,
        )

but_first_whole : (values : OrdinalRange) → IsWholeRange values → IsWholeShift test.Previous (all_but_first values)
but_first_whole values whole = by (int_lt values.first values.last) refl
  where
    by : (several : Bool) → int_lt values.first values.last ≡ several
        → IsWholeShift test.Previous (if several then record values { first = values.first +ℤ pos 1 } else no_values)
    by false is = (refl, λ w block. refl)
    by true is =
        let ends = both_and (is_whole values.first) (is_whole values.last) whole in
        let more = one_more values.first values.last is in (
          both_true _ _ (whole_between values.first (values.first +ℤ pos 1) values.last ends.0 ends.1 more.0 more.1) ends.1,
          λ w block. ap is_whole (more_and_less values.first) ∙ ends.0,
        )

passing_whole : (tested : FunctionTest) (values : Option OrdinalRange) → IfWhole values → IsWholeShift tested (passing_values tested values)
passing_whole test.Character values whole = (refl, λ w block. refl)
passing_whole test.Next None whole = (refl, λ w block. refl)
passing_whole test.Next (Some values) whole = but_last_whole values whole
passing_whole test.Previous None whole = (refl, λ w block. refl)
passing_whole test.Previous (Some values) whole = but_first_whole values whole

-- ---- results

-- the result of an operator is no structured value
result_scalar : (types : List Form) (o : Operator) (left right v : TypedValue) → result_of o left right ≡ Some v → HasSource types v
result_scalar types o (value.Ordinal left) (value.Ordinal right) v is =
    by (is_same left (operand_type o) && is_same right (operand_type o)) is
  where
    by : (test : Bool) → (if test then Some (value.Ordinal (operand_type o)) else None) ≡ Some v → HasSource types v
    by true h = let same : value.Ordinal (operand_type o) ≡ v = cc in subst (HasSource types) same tt
    by false h = absurd cc
result_scalar types o (value.Set left) (value.Set right) v is = by (is_some (set_operation o) && are_compatible_sets left right) is
  where
    by : (test : Bool) → (if test then Some (value.Set (joined_base left right)) else None) ≡ Some v → HasSource types v
    by true h = let same : value.Set (joined_base left right) ≡ v = cc in subst (HasSource types) same tt
    by false h = absurd cc
result_scalar types o left right v is = absurd cc

-- operations of sets have no site
set_operation_formed : (w : Outline) (block : ℕ) (o : Operator) (does : Dyadic) → set_operation o ≡ Some does → dyadic_is_well_formed w block does ≡ true
set_operation_formed w block op.Plus does is = let same : dyadic.Union ≡ does = cc in subst (λ d. dyadic_is_well_formed w block d ≡ true) same refl
set_operation_formed w block op.Minus does is = let same : dyadic.Difference ≡ does = cc in subst (λ d. dyadic_is_well_formed w block d ≡ true) same refl
set_operation_formed w block op.Times does is = let same : dyadic.Intersection ≡ does = cc in subst (λ d. dyadic_is_well_formed w block d ≡ true) same refl
set_operation_formed w block other does is = absurd cc

set_formed : (w : Outline) (block : ℕ) (o : Operator) (left : TypedValue) (does : Dyadic) → set_operation_behind o left ≡ Some does
    → dyadic_is_well_formed w block does ≡ true
set_formed w block o (value.Set base) does is = set_operation_formed w block o does is
set_formed w block o other does is = absurd cc

-- nor have relations
relation_formed : (w : Outline) (block : ℕ) (o : RelationalOperator) → dyadic_is_well_formed w block (relation_of o) ≡ true
relation_formed w block relational.Equal = refl
relation_formed w block other = refl

set_relation_formed : (w : Outline) (block : ℕ) (o : RelationalOperator) (does : Dyadic) → set_relation_of o ≡ Some does
    → dyadic_is_well_formed w block does ≡ true
set_relation_formed w block o does is = by (set_relation_of o) (each o) is
  where
    IfFormed : Option Dyadic → Type 0
    IfFormed None = Unit {0}
    IfFormed (Some d) = dyadic_is_well_formed w block d ≡ true

    each : (one : RelationalOperator) → IfFormed (set_relation_of one)
    each relational.Equal = refl
    each relational.NotEqual = refl
    each relational.Less = tt
    each relational.Greater = tt
    each relational.LessOrEqual = refl
    each relational.GreaterOrEqual = refl
    each relational.In = tt

    by : (found : Option Dyadic) → IfFormed found → found ≡ Some does → dyadic_is_well_formed w block does ≡ true
    by None formed h = absurd cc
    by (Some d) formed h = let same : d ≡ does = cc in subst (λ z. dyadic_is_well_formed w block z ≡ true) same formed

related_formed : (w : Outline) (block : ℕ) (o : RelationalOperator) (left : TypedValue) (does : Dyadic) → relation_behind_value o left ≡ Some does
    → dyadic_is_well_formed w block does ≡ true
related_formed w block o (value.Set base) does is = set_relation_formed w block o does is
related_formed w block o (value.Ordinal type_id) does is =
    let same : relation_of o ≡ does = cc in subst (λ d. dyadic_is_well_formed w block d ≡ true) same (relation_formed w block o)
related_formed w block o (value.Text type_id length) does is =
    let same : relation_of o ≡ does = cc in subst (λ d. dyadic_is_well_formed w block d ≡ true) same (relation_formed w block o)
related_formed w block o (value.Whole type_id cells) does is =
    let same : relation_of o ≡ does = cc in subst (λ d. dyadic_is_well_formed w block d ≡ true) same (relation_formed w block o)

-- two strings that are compared are strings, and as long
abbrev AreAlike : List Form → Option Copy → Option Copy → Type 0
AreAlike types None right = Unit {0}
AreAlike types (Some left) None = Unit {0}
AreAlike types (Some left) (Some right) =
    (is_text types left.source ≡ true) × (is_text types right.source ≡ true) × (nat_eq left.cells right.cells ≡ true)

alike_where : (types : List Form) (id : TypeId) (left : Copy) (right : TypedValue) → (is_string types id ≡ true → is_text types left.source ≡ true)
    → HasSource types right → are_alike types (Some (id, left.cells)) (whole_type right) ≡ true → AreAlike types (Some left) (whole_copy right)
alike_where types id left (value.Ordinal type_id) text has is = tt
alike_where types id left (value.Set base) text has is = tt
alike_where types id left (value.Text type_id length) text has is =
    let parts = both_and (nat_eq left.cells length) (is_compatible types id type_id && is_string types id) is in
    (text (both_and (is_compatible types id type_id) (is_string types id) parts.1).1, refl, parts.0)
alike_where types id left (value.Whole type_id cells) text has is =
    let parts = both_and (nat_eq left.cells cells) (is_compatible types id type_id && is_string types id) is in
    let strings = both_and (is_compatible types id type_id) (is_string types id) parts.1 in
    (text strings.1, string_compared types id type_id strings.1 has strings.0, parts.0)

compared_alike : (types : List Form) (left right : TypedValue) → HasSource types right → may_compare types left right ≡ true
    → AreAlike types (whole_copy left) (whole_copy right)
compared_alike types (value.Ordinal type_id) right has is = tt
compared_alike types (value.Set base) right has is = tt
compared_alike types (value.Text type_id length) right has is =
    alike_where types type_id (record { source = None; cells = length }) right (λ string. refl) has is
compared_alike types (value.Whole type_id cells) right has is =
    alike_where types type_id (record { source = Some type_id; cells = cells }) right (λ string. string) has is

contained_alike : (types : List Form) (left right : TypedValue) → may_contain left right ≡ true → AreAlike types (whole_copy left) (whole_copy right)
contained_alike types (value.Ordinal type_id) right is = tt
contained_alike types other right is = absurd cc

related_alike : (types : List Form) (o : RelationalOperator) (left right : Typed) → HasSource types right.value → may_relate types o left right ≡ true
    → AreAlike types (whole_copy left.value) (whole_copy right.value)
related_alike types relational.In left right has is = contained_alike types left.value right.value is
related_alike types other left right has is = compared_alike types left.value right.value has is

text_longer : {old new : List Form} → IsLonger old new → (source : Option TypeId) → is_text old source ≡ true → is_text new source ≡ true
text_longer longer None is = refl
text_longer longer (Some id) is = is_string_longer longer id is

module _ (here : Here) where
  -- ---- operators

  -- the kinds of the sites that an operator has
  abbrev operator_kinds : Operator → List SiteKind
  operator_kinds op.Plus = kind.Overflow ∷ []
  operator_kinds op.Minus = kind.Overflow ∷ []
  operator_kinds op.Or = []
  operator_kinds op.Times = kind.Overflow ∷ []
  operator_kinds op.Div = kind.DivisionByZero ∷ []
  operator_kinds op.Mod = kind.ModByZeroOrLess ∷ []
  operator_kinds op.And = []

  operator_ascending : (o : Operator) → AreAbove 2 (operator_kinds o)
  operator_ascending op.Or = tt
  operator_ascending op.And = tt
  operator_ascending other = (omega arith, tt)

  -- its sites are among those that there are
  abbrev IsFormedBy : {A : Type 0} → (Outline → ℕ → A → Bool) → A → Reached → Type 0
  IsFormedBy is_formed x now = (w : Outline) → IsFurther now (whole_of w) → is_formed w here.block x ≡ true

  abbrev IsFormed : Dyadic → Reached → Type 0
  IsFormed = IsFormedBy dyadic_is_well_formed

  tested_does : {least : Reached} (made : ℕ → Dyadic) (kind : SiteKind) (place : Place)
      → ((w : Outline) (id : ℕ) → id < w.sites → dyadic_is_well_formed w here.block (made id) ≡ true)
      → PassingDoes here least (λ added. added ≡ (Some kind, place) ∷ []) (tested made kind place) IsFormed
  unfolding tested
  tested_does made kind place formed =
      last (site_does kind place) λ id now _ known.
      pure_does (made id) (λ m h w more. formed w id (omega (arith, known, h.sites, more.sites)))

  operation_does : {least : Reached} (o : Operator) (place : Place)
      → PassingDoes here least (λ added. added ≡ at_place place (operator_kinds o)) (operation o place) IsFormed
  unfolding operation
  operation_does op.Plus place = tested_does dyadic.Plus kind.Overflow place (λ w id. lt_true id w.sites)
  operation_does op.Minus place = tested_does dyadic.Minus kind.Overflow place (λ w id. lt_true id w.sites)
  operation_does op.Or place = pure_does dyadic.Or (λ m h w more. refl)
  operation_does op.Times place = tested_does dyadic.Times kind.Overflow place (λ w id. lt_true id w.sites)
  operation_does op.Div place = tested_does dyadic.Div kind.DivisionByZero place (λ w id. lt_true id w.sites)
  operation_does op.Mod place = tested_does dyadic.Mod kind.ModByZeroOrLess place (λ w id. lt_true id w.sites)
  operation_does op.And place = pure_does dyadic.And (λ m h w more. refl)

  -- behind a set there is none
  abbrev kinds_or : Option Dyadic → Operator → List SiteKind
  kinds_or None o = operator_kinds o
  kinds_or (Some does) o = []

  kinds_ascending : (found : Option Dyadic) (o : Operator) → AreAbove 2 (kinds_or found o)
  kinds_ascending None o = operator_ascending o
  kinds_ascending (Some does) o = tt

  operation_or_does : {least : Reached} (found : Option Dyadic) (o : Operator) (place : Place)
      → ((does : Dyadic) → found ≡ Some does → (w : Outline) → dyadic_is_well_formed w here.block does ≡ true)
      → PassingDoes here least (λ added. added ≡ at_place place (kinds_or found o)) (operation_or found o place) IsFormed
  unfolding operation_or
  operation_or_does None o place formed = operation_does o place
  operation_or_does (Some does) o place formed = pure_does does (λ m h w more. formed does refl w)

  pub link_does : (o : Operator) (place : Place) (places : List Place) (operand : Written) → LawfulWritten here places operand
      → LawfulLink here (place ∷ places) (link o place operand)
  unfolding link
  link_does o place places operand law = record {
    types = λ least left known.
        let found = set_operation_behind o left.value in
        led_covers here 2 place places (kinds_or found o) (kinds_ascending found o) (by least left known);
  }
    where
      by : (least : Reached) (left : Typed) → Types left least
          → PassingDoes here least (Leads place (kinds_or (set_operation_behind o left.value) o) places) (link o place operand left) Types
      by least left known =
          let found = set_operation_behind o left.value in
          joins (leads_first 2 place (kinds_or found o) places)
          (operation_or_does found o place (λ does is w. set_formed w here.block o left.value does is)) λ tests now one formed.
          quietly (enter_does (λ n. OperatorMark n tests) (λ n. refl) (λ n. refl) (λ n. refl) (λ n. refl) (λ n w h. formed w h)) λ _ next two _.
          last (checks {L = λ result n. HasSource n.types result} (law.types next None tt) λ types right result n more is _.
          result_scalar n.types o left.value right.value result (there place (result_of o left.value right.value) result is)) λ result m three source.
          let seen = further_still one (further_still two three) in
          pure_does (record { value = result; site = left.site }) (λ n h.
          (known_later left.site least n (further_still seen h) known.0, source_longer h.types result source))

  -- ---- chains

  pub links_none : {least : Reached} (left : Typed) → Types left least → PassingDoes here least (Covers 2 []) (links left []) Types
  links_none {least} left known = pure_does left (λ n h. types_later left least n h known)

  pub links_more : {least : Reached} (left : Typed) (l : WrittenLink) (ls : List WrittenLink) (first rest : List Place) → Types left least
      → LawfulLink here first l
      → ((now : Reached) (t : Typed) → Types t now → PassingDoes here now (Covers 2 rest) (links t ls) Types)
      → PassingDoes here least (Covers 2 (first ++ rest)) (links left (l ∷ ls)) Types
  links_more {least} left l ls first rest known law more =
      joins (covers_both 2 first rest) (law.types least left known) λ t now _ known. more now t known

  pub chain_does : (first : Written) (ls : List WrittenLink) (places others : List Place) → LawfulWritten here places first
      → ((now : Reached) (t : Typed) → Types t now → PassingDoes here now (Covers 2 others) (links t ls) Types)
      → LawfulWritten here (places ++ others) (written first.first (chain first ls))
  unfolding chain
  chain_does first ls places others law more =
      no_variable_lawful here (places ++ others) (law.begins.0 ++ others) first.first _ (ap (λ l. l ++ others) law.begins.1)
      (λ least lead is.
      quietly (mark_does Begins refl refl refl refl (λ o h. refl)) λ _ now _ _.
      joins (covers_both 2 places others) (law.types now lead is) λ f met _ led.
      last (more met f led) λ t _ behind own.
      quietly (given_does (fits (is_scalar_value f.value) first.first t)) λ _ _ one _.
      quietly (mark_does Ends refl refl refl refl (λ o h. refl)) λ _ _ two _.
      pure_does (record t { site = f.site })
      (λ n h.
      let seen = further_still one (further_still two h) in
      (known_later f.site met n (further_still behind seen) led.0, source_longer seen.types t.value own.1)))

  -- ---- relations

  compares_does : {least : Reached} (left right : Option Copy) → AreAlike least.types left right
      → PassingDoes here least Nothing (compares left right) Anything
  unfolding compares
  compares_does (Some a) (Some b) alike =
      mark_does (Compared a.source a.cells b.source b.cells) refl refl refl refl
      (λ o h. both_true _ _ (text_longer h.types a.source alike.0) (both_true _ _ (text_longer h.types b.source alike.1) alike.2))
  compares_does left right alike = pure_does tt (λ n h. tt)

  related_where : (types : List Form) (o : RelationalOperator) (left t right : Typed) (place : Place) (now : Reached) → now.types ≡ types
      → HasSource now.types t.value → fits (may_relate types o left t) place t ≡ Ok right
      → AreAlike now.types (whole_copy left.value) (whole_copy right.value)
  related_where types o left t right place now same has is =
      let fit = fit_is (may_relate types o left t) place t right is in
      subst (λ (r : Typed). AreAlike now.types (whole_copy left.value) (whole_copy r.value)) fit.1
      (related_alike now.types o left t has (ap (λ l. may_relate l o left t) same ∙ fit.0))

  pub relation_does : (left : Written) (o : RelationalOperator) (place : Place) (right : Written) (places others : List Place)
      → LawfulWritten here places left → LawfulWritten here others right
      → LawfulWritten here (places ++ place ∷ others) (written left.first (relation left o place right))
  unfolding relation
  relation_does left o place right places others law behind =
      no_variable_lawful here (places ++ place ∷ others) (law.begins.0 ++ place ∷ others) left.first _ (ap (λ l. l ++ place ∷ others) law.begins.1)
      (λ least lead is.
      quietly (mark_does Begins refl refl refl refl (λ o h. refl)) λ _ now _ _.
      joins (covers_both 2 places (place ∷ others)) (law.types now lead is) λ l met _ known.
      sited (covers_skip 2 place others)
      (quietly (given_does (or_mismatch place (relation_behind_value o l.value))) λ does asked zero is_related.
      quietly (enter_does (λ n. OperatorMark n does) (λ n. refl) (λ n. refl) (λ n. refl) (λ n. refl)
      (λ n w h. related_formed w here.block o l.value does (there place (relation_behind_value o l.value) does is_related))) λ _ next one _.
      last (checks_types {L = λ r n. AreAlike n.types (whole_copy l.value) (whole_copy r.value)} (behind.types next None tt)
      λ types t b n more same lawful is own. related_where types o l t b place n same own.1 is) λ r _ two alike.
      quietly (compares_does (whole_copy l.value) (whole_copy r.value) alike) λ _ _ three _.
      quietly (mark_does Ends refl refl refl refl (λ o h. refl)) λ _ _ four _.
      let later = further_still zero (further_still one (further_still two (further_still three four))) in
      pure_does (typed boolean l.site) (λ n h. ordinal_types boolean l.site met n (further_still later h) known.0)))

  -- ---- set constructors

  -- the site of a designator is known
  abbrev AreSites : List Designator → Reached → Type 0
  AreSites [] now = Unit {0}
  AreSites (one ∷ others) now = (member_site one < now.sites) × AreSites others now

  sites_later : (made : List Designator) (now next : Reached) → IsFurther now next → AreSites made now → AreSites made next
  sites_later [] now next more all = tt
  sites_later (one ∷ others) now next more all = (omega (arith, all.0, more.sites), sites_later others now next more all.1)

  sites_more : (made : List Designator) (one : Designator) (now : Reached) → AreSites made now → member_site one < now.sites → AreSites (made ++ one ∷ []) now
  sites_more [] one now all known = (known, tt)
  sites_more (first ∷ made) one now all known = (all.0, sites_more made one now all.1 known)

  sites_formed : (made : List Designator) (now : Reached) (o : Outline) → IsFurther now (whole_of o) → AreSites made now
      → list_all (λ (one : Designator). nat_lt (member_site one) o.sites) made ≡ true
  sites_formed [] now o more all = refl
  sites_formed (one ∷ made) now o more all =
      both_true _ _ (lt_true (member_site one) o.sites (omega (arith, all.0, more.sites))) (sites_formed made now o more all.1)

  -- the last member of a range
  abbrev pub IsLawfulLast : Option Places → Option Written → Type 0
  IsLawfulLast None None = Unit {0}
  IsLawfulLast None (Some w) = ⊥
  IsLawfulLast (Some places) None = ⊥
  IsLawfulLast (Some places) (Some w) = LawfulWritten here places w

  abbrev pub AreLawfulMembers : List (Places × Option Places) → List (Written × Option Written) → Type 0
  AreLawfulMembers [] [] = Unit {0}
  AreLawfulMembers [] (m ∷ ms) = ⊥
  AreLawfulMembers (row ∷ rows) [] = ⊥
  AreLawfulMembers (row ∷ rows) (m ∷ ms) = LawfulWritten here row.0 m.0 × IsLawfulLast row.1 m.1 × AreLawfulMembers rows ms

  abbrev HasMemberSite : ℕ × TypeId → Reached → Type 0
  HasMemberSite m now = m.0 < now.sites

  with_site_is : (host : Option TypeId) (place : Place) (t : Typed) (m : ℕ × TypeId) (now : Reached) → member_with_site host place t ≡ Ok m
      → IsKnown t.site now → HasMemberSite m now
  with_site_is host place t m now is known =
      let x = split (member_of host place t) (λ type_id. and_then (or_mismatch place t.site) (λ id. both id type_id)) m is in
      let y = split (or_mismatch place t.site) (λ id. both id x.0) m x.2 in
      let same : ◌≡◌ {A = ℕ × TypeId} (y.0, x.0) m = cc in
      subst (λ (z : ℕ × TypeId). HasMemberSite z now) same (subst (λ z. IsKnown z now) (there place t.site y.0 y.1) known)
    where
      both : ℕ → TypeId → Checked (ℕ × TypeId)
      both id type_id = Ok (id, type_id)

  first_member_does : {least : Reached} (host : Option TypeId) (w : Written) (places : List Place) → LawfulWritten here places w
      → PassingDoes here least (Covers 0 places) (first_member host w) HasMemberSite
  unfolding first_member
  first_member_does {least} host w places law =
      sited (covers_any 2 places)
      (checks {L = HasMemberSite} (law.types least (Some kind.SetMember) (omega arith)) λ types t m n more is own.
      with_site_is host w.first t m n is own.0)

  last_member_does : {least : Reached} (host : Option TypeId) (w : Written) (places : List Place) → LawfulWritten here places w
      → PassingDoes here least (Covers 0 places) (last_member host w) Anything
  unfolding last_member
  last_member_does {least} host w places law =
      sited (covers_any 2 places) (checks {L = Anything} (law.types least None tt) λ types t m n more is own. tt)

  abbrev HasDesignatorSite : Designator × TypeId → Reached → Type 0
  HasDesignatorSite one now = member_site one.0 < now.sites

  member_does : {least : Reached} (host : Option TypeId) (first : Written) (end : Option Written) (places : List Place) (others : Option Places)
      → LawfulWritten here places first → IsLawfulLast others end
      → PassingDoes here least (Covers 0 (member_places (places, others))) (member host first end) HasDesignatorSite
  unfolding member
  member_does host first None places None law own =
      sited (λ sites. covers_more 0 places [] sites)
      (last (first_member_does host first places law) λ m now _ known.
      pure_does {K = HasDesignatorSite} (designator.Single m.0, m.1) (λ n h. omega (arith, known, h.sites)))
  member_does host first (Some end) places (Some others) law own =
      joins (covers_both 0 places others) (first_member_does host first places law) λ m now _ known.
      last (last_member_does (Some m.1) end others own) λ type_id next more _.
      pure_does {K = HasDesignatorSite} (designator.Range m.0, type_id) (λ n h. omega (arith, known, more.sites, h.sites))
  member_does host first None places (Some others) law own = absurd own
  member_does host first (Some end) places None law own = absurd own

  members_do : {least : Reached} (made : List Designator) (host : Option TypeId) (rows : List (Places × Option Places))
      (ms : List (Written × Option Written)) → AreLawfulMembers rows ms → AreSites made least
      → PassingDoes here least (Covers 0 (flat_map member_places rows)) (members made host ms) (λ all now. AreSites all.0 now)
  members_do {least} made host [] [] laws known = pure_does (made, host) (λ n h. sites_later made least n h known)
  members_do made host [] (m ∷ ms) laws known = absurd laws
  members_do made host (row ∷ rows) [] laws known = absurd laws
  members_do {least} made host (row ∷ rows) (m ∷ ms) laws known =
      joins (covers_both 0 (member_places row) (flat_map member_places rows)) (member_does host m.0 m.1 row.0 row.1 laws.0 laws.1) λ one now more own.
      members_do (made ++ one.0 ∷ []) (Some one.1) rows ms laws.2 (sites_more made one.0 now (sites_later made least now more known) own)

  pub constructed_does : (place : Place) (rows : List (Places × Option Places)) (ms : List (Written × Option Written)) → AreLawfulMembers rows ms
      → LawfulWritten here (place ∷ flat_map member_places rows) (written place (constructed place ms))
  unfolding constructed
  constructed_does place rows ms laws =
      no_variable_lawful here (place ∷ flat_map member_places rows) (flat_map member_places rows) place _ refl
      (λ least lead is. led_covers here 2 place (flat_map member_places rows) (led lead) (led_alone lead is) (by least lead))
    where
      by : (least : Reached) (lead : Option SiteKind)
          → PassingDoes here least (Leads place (led lead) (flat_map member_places rows)) (constructed place ms lead) Types
      by least lead =
          quietly (pass_does place) λ _ _ _ _.
          joins (leads_first 0 place (led lead) (flat_map member_places rows)) (behind_does lead place) λ id now _ known.
          quietly (enter_does Constructs (λ n. refl) (λ n. refl) (λ n. refl) (λ n. refl) (λ n o h. refl)) λ _ _ one _.
          last (members_do [] None rows ms laws tt) λ made next two sites.
          quietly (mark_does (Constructed made.0 (members_wanted made.0)) refl refl refl refl
          (λ o h. both_true _ _ (eq-eqb (members_wanted made.0) (members_wanted made.0) refl) (sites_formed made.0 next o h sites))) λ _ _ three _.
          pure_does (typed_set (record { host = made.1; packed = None }) id)
          (λ n h. set_types (record { host = made.1; packed = None }) id now n (further_still one (further_still two (further_still three h))) known)

  -- ---- calls

  abbrev calculation_kinds : FunctionValue → List SiteKind
  calculation_kinds function.Square = kind.Overflow ∷ []
  calculation_kinds other = []

  abbrev function_kinds : FunctionOperation → List SiteKind
  function_kinds (Calculates calculated) = calculation_kinds calculated
  function_kinds (Tests tested) = test_kind tested ∷ []

  function_ascending : (operation : FunctionOperation) (lead : Option SiteKind) → IsLed lead → AreAbove 2 (function_kinds operation ++ led lead)
  function_ascending (Calculates function.Same) lead is = led_alone lead is
  function_ascending (Calculates function.Absolute) lead is = led_alone lead is
  function_ascending (Calculates function.Square) lead is = led_behind kind.Overflow lead (omega arith) (omega arith) is
  function_ascending (Calculates function.Parity) lead is = led_alone lead is
  function_ascending (Tests test.Character) lead is = led_behind kind.Chr lead (omega arith) (omega arith) is
  function_ascending (Tests test.Next) lead is = led_behind kind.Succ lead (omega arith) (omega arith) is
  function_ascending (Tests test.Previous) lead is = led_behind kind.Pred lead (omega arith) (omega arith) is

  calculation_does : {least : Reached} (calculated : FunctionValue) (place : Place)
      → PassingDoes here least (λ added. added ≡ at_place place (calculation_kinds calculated)) (calculation_of calculated place)
      (IsFormedBy calculation_is_well_formed)
  unfolding calculation_of
  calculation_does function.Same place = pure_does calculation.Ordinal (λ m h w more. refl)
  calculation_does function.Absolute place = pure_does calculation.Absolute (λ m h w more. refl)
  calculation_does function.Square place =
      last (site_does kind.Overflow place) λ id now _ known.
      pure_does (calculation.Square id) (λ m h w more. lt_true id w.sites (omega (arith, known, h.sites, more.sites)))
  calculation_does function.Parity place = pure_does calculation.Parity (λ m h w more. refl)

  -- the operation on an argument of any type is formed
  abbrev IsFormedFunction : BegunFunction → Reached → Type 0
  IsFormedFunction operation now = (types : List Form) → HaveWholeRanges types → (id : TypeId)
      → IsFormedBy monadic_is_well_formed (operation_on types id operation) now

  function_does : {least : Reached} (operation : FunctionOperation) (place : Place)
      → PassingDoes here least (λ added. added ≡ at_place place (function_kinds operation)) (begins_as operation place) IsFormedFunction
  unfolding begins_as
  function_does (Calculates calculated) place =
      last (calculation_does calculated place) λ does now _ formed.
      pure_does (begun.Calculates does) (λ m h types whole id w more. formed w (further_still h more))
  function_does (Tests tested) place =
      last (site_does (test_kind tested) place) λ site now _ known.
      pure_does (begun.Tests site tested) (λ m h types whole id w more.
      let shifted = passing_whole tested (range_of types id) (if_whole types whole id) in
      both_true _ _ (both_true _ _ (lt_true site w.sites (omega (arith, known, h.sites, more.sites))) shifted.0) (shifted.1 w here.block))

  applied_formed : (types : List Form) → HaveWholeRanges types → (f : RequiredFunction) (operation : BegunFunction) (place : Place) (t : Typed)
      (does : Monadic × TypeId) → applied types f operation place t ≡ Ok does → (now n : Reached) → IsFurther now n → IsFormedFunction operation now
      → IsFormedBy monadic_is_well_formed does.0 n
  applied_formed types whole f operation place t does is now n more formed m h = by t.value is
    where
      by : (v : TypedValue) → applied_to types f operation place v ≡ Ok does → monadic_is_well_formed m here.block does.0 ≡ true
      by (value.Ordinal type_id) g =
          let answer : Monadic × TypeId = (operation_on types type_id operation, given_type f.gives type_id) in
          let fit = fit_is (is_taken types f.takes type_id) place answer does g in
          subst (λ (z : Monadic × TypeId). monadic_is_well_formed m here.block z.0 ≡ true) fit.1 (formed types whole type_id m (further_still more h))
      by (value.Set base) g = absurd cc
      by (value.Text type_id length) g = absurd cc
      by (value.Whole type_id cells) g = absurd cc

  required_does : {least : Reached} (d : Denotation) (name : Name) (actuals : List WrittenActual) (places : List Place) (lead : Option SiteKind) → IsLed lead
      → ((w : Written) → only name.place actuals ≡ Ok w → LawfulWritten here places w)
      → PassingDoes here least (Covers 2 (name.place ∷ places)) (required_call d name actuals lead) Types
  unfolding required_call
  required_does d name actuals places lead is laws =
      quietly (given_does (as_function name.place d)) λ f there _ _.
      let kinds = function_kinds f.does in
      led_covers here 2 name.place places (kinds ++ led lead) (function_ascending f.does lead is)
      (joins (leads_more name.place kinds (led lead) places) (function_does f.does name.place) λ operation met _ formed.
      joins (leads_first 2 name.place (led lead) places) (behind_does lead name.place) λ id now seen known.
      quietly (enter_does Operation (λ n. refl) (λ n. refl) (λ n. refl) (λ n. refl) (λ n o h. refl)) λ _ _ one _.
      quietly (given_does (only name.place actuals)) λ actual m two right.
      last (checks_types {L = λ does n. IsFormedBy monadic_is_well_formed does.0 n} ((laws actual right).types m None tt)
      λ types t does n later same lawful is _. applied_formed types lawful.whole f operation actual.first t does is met n
      (further_still seen (further_still one (further_still two later))) formed) λ does _ three formed.
      quietly (mark_does (Applied does.0) refl refl refl refl (λ o h. formed o h)) λ _ _ four _.
      let later = further_still one (further_still two (further_still three four)) in
      pure_does (typed does.1 id) (λ n h. ordinal_types does.1 id now n (further_still later h) known))

  -- eof and eoln may name the input
  input_call_does : {least : Reached} (function : InputFunction) (place : Place) (actuals : List WrittenActual) (places : List Place)
      (lead : Option SiteKind) → IsLed lead → ((w : Written) → only place actuals ≡ Ok w → LawfulWritten here places w)
      → PassingDoes here least (Covers 2 (place ∷ places)) (input_call function place actuals lead) Types
  unfolding input_call
  input_call_does function place actuals places lead is laws =
      quietly (given_does (only place actuals)) λ actual met _ right.
      quietly ((laws actual right).names met) λ named _ _ _.
      quietly (given_does (is_input place named)) λ _ _ _ _.
      sited (covers_more 2 (place ∷ []) places) (input_does here function place lead is)

  called_does : {least : Reached} (d : Denotation) (name : Name) (actuals : List WrittenActual) (rows : List (List Place)) (lead : Option SiteKind)
      → IsLed lead → IsFound here d least
      → ((w : Written) → only name.place actuals ≡ Ok w → LawfulWritten here (joined_places rows) w) → AreLawfulActuals here rows actuals
      → PassingDoes here least (Covers 2 (name.place ∷ joined_places rows)) (call_by d name actuals lead) Types
  called_does (denotes.Routine block is_function) name actuals rows lead is sound laws all =
      function_does_call here block is_function name.place actuals rows lead is sound.0 sound.1 all
  called_does (denotes.InputFunction function) name actuals rows lead is sound laws all =
      input_call_does function name.place actuals (joined_places rows) lead is laws
  called_does d name actuals rows lead is sound laws all = required_does d name actuals (joined_places rows) lead is laws

  pub call_does : (name : Name) (actuals : List WrittenActual) (rows : List (List Place))
      → ((w : Written) → only name.place actuals ≡ Ok w → LawfulWritten here (joined_places rows) w) → AreLawfulActuals here rows actuals
      → LawfulWritten here (name.place ∷ joined_places rows) (written name.place (call name actuals))
  unfolding call
  call_does name actuals rows laws all =
      no_variable_lawful here (name.place ∷ joined_places rows) (joined_places rows) name.place _ refl
      (λ least lead is. quietly (find_does name) λ d _ _ sound. called_does d name actuals rows lead is sound laws all)
