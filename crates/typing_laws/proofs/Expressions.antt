-- What expressions do, form by form.
use Rattle.std.proofs.Common.{◌≡◌, ℕ, Bool, true, false, not, nat_le, if◌then◌else◌, List, [], ◌∷◌, length, Option, Some, None, Ok, Err, pos, refl, sym, ap}
use Rattle.std.proofs.Common.{subst, ◌∙◌, ◌<◌, arith}
use Rattle.std.proofs.lemmas.Bool.{eq-eqb, eqb-true}
use Rattle.std.specs.List.{list_all}
use Rattle.place.specs.declared.Place.{Place}
use Rattle.syntax_tree.specs.declared.Name.{Name}
use Rattle.syntax_tree.specs.declared.Selector.{Selector}
use Rattle.syntax_tree.specs.declared.Sign.{Sign}
use Rattle.syntax_tree.specs.declared.Sign.TheVariants as sign
use Rattle.syntax_tree.specs.Places.{selector_places}
use Rattle.types.specs.Forms.{Form}
use Rattle.types.specs.declared.form.OrdinalRange.{OrdinalRange}
use Rattle.types.specs.declared.form.TypeId.{TypeId}
use Rattle.types.specs.Types.{integer, boolean, char, host_of, is_same, range_of}
use Rattle.scopes.specs.declared.denotation.Denotation.{Denotation}
use Rattle.scopes.specs.declared.denotation.Denotation.TheVariants as denotes
use Rattle.scopes.specs.declared.denotation.File.TheVariants as file
use Rattle.scopes.specs.declared.denotation.InputFunction.{InputFunction}
use Rattle.scopes.specs.declared.denotation.InputFunction.TheVariants as asks
use Rattle.typed_tree.specs.declared.fault.TypeFault.TheVariants as fault
use Rattle.typed_tree.specs.declared.site.SiteKind.{SiteKind}
use Rattle.typed_tree.specs.declared.tree.Calculation.TheVariants as calculation
use Rattle.typed_tree.specs.declared.tree.InputTest.{InputTest}
use Rattle.typed_tree.specs.declared.tree.InputTest.TheVariants as test
use Rattle.typed_tree.specs.declared.tree.Monadic.{Monadic}
use Rattle.typed_tree.specs.declared.tree.Monadic.TheVariants as monadic
use Rattle.typed_tree.specs.declared.tree.Readable.{Readable}
use Rattle.typed_tree.specs.declared.tree.Selector.{Selector as TreeSelector}
use Rattle.typed_tree.specs.declared.tree.Variable.{Variable}
use Rattle.typed_tree.specs.Accesses.{index_count, root_of}
use Rattle.typed_tree.specs.WellFormed.{Outline, monadic_is_well_formed, is_character, is_variable_kind, is_well_formed_input, of_one, takes_variable}
use Rattle.typed_tree.specs.Look.{Access, Constant, Text, Operation, Applied, ForVariable, Input, Reads}
use Rattle.typing.specs.Passing.{pure, ◌>>=◌, ◌>>◌}
use Rattle.typing_rules.specs.Checked.{Checked, and_then, or_mismatch}
use Rattle.typing.specs.Steps.{enter_as, value_of}
use Rattle.typing.specs.Strings.{string_characters, string_type}
use Rattle.typing_rules.specs.declared.typed.Typed.{Typed}
use Rattle.typing.specs.Expressions.{Written, written, written_variable, number, spelled, string, component, denoted, entire, named}
use Rattle.typing_rules.specs.Typed.{typed, typed_text}
use Rattle.typing.specs.Expressions.{parenthesized, prefixed, negation, signed, is_of_packed, passable, passed_variable}
use Rattle.typing.specs.Expressions.{file_named, input_test, input_value, read_variable}
use Rattle.typing_rules.specs.Denotations.{as_file}
use Rattle.typing_rules.specs.Targets.{read_as, readable_host}
use Rattle.typing_rules.specs.Operators.{sign_operation}
use Rattle.typing_laws.proofs.Reached.{Reached, IsFurther, further_still, whole_of, Here}
use Rattle.typing_laws.proofs.Kept.{change_later}
use Rattle.typing_laws.proofs.Covers.{ArePointsAt, Covers, Leads, leads_first, no_point, one_point, points_first, points_last}
use Rattle.typing_laws.proofs.Grown.{both_true}
use Rattle.typing_laws.proofs.Strings.{AreOfChar, fit_is, all_of_char, no_characters, char_whole, string_type_does, there as is_there}
use Rattle.typing_laws.proofs.Tables.{is_string_longer}
use Rattle.typing_laws.proofs.Steps.{PassingDoes, Anything, Nothing, IsFound, joins, quietly, last, checks, sited, mark_does, change_does, text_at_does}
use Rattle.typing_laws.proofs.Steps.{pass_does, pure_does, given_does, by_types_does, fail_does, find_does, enter_does, may_change_does, led, IsKnown}
use Rattle.typing_laws.proofs.Steps.{behind_does, point_does, split, wants_file_does}
use Rattle.typing_laws.proofs.Leading.{IsLed, Types, led_alone, known_later, ordinal_types, IsFormalAt, formal_later, formal_is, lt_true, LawfulWritten}
use Rattle.typing_laws.proofs.Leading.{no_variable_lawful, led_covers}
use Rattle.typing_laws.proofs.Opened.{open_in, stands_there}
use Rattle.typing_laws.proofs.Accesses.{AreLawfulRows, accessed_does, entire_denoted, leads_later, leads_formed, read_formed, selected_does}
use Rattle.typing_laws.proofs.Accesses.{variable_does}
use Rattle.typing_laws.proofs.Calls.{function_does}

module _ (here : Here) where
  -- ---- constants and variables

  pub number_does : (value : ℕ) (place : Place) → LawfulWritten here (place ∷ []) (written place (number value place))
  unfolding number
  number_does value place =
      no_variable_lawful here (place ∷ []) [] place _ refl
      (λ least lead is. led_covers here 2 place [] (led lead) (led_alone lead is) (by least lead))
    where
      by : (least : Reached) (lead : Option SiteKind) → PassingDoes here least (Leads place (led lead) []) (number value place lead) Types
      by least lead =
          quietly (pass_does place) λ _ _ _ _.
          quietly (given_does (value_of value place)) λ v _ _ is.
          let fit = fit_is (nat_le value 2147483647) place (pos value) v is in
          joins (leads_first 2 place (led lead) []) (behind_does lead place) λ id now _ known.
          quietly (enter_does (λ n. Constant n (pos value)) (λ n. refl) (λ n. refl) (λ n. refl) (λ n. refl) (λ n o h. fit.0)) λ _ _ one _.
          pure_does (typed integer id) (λ n h. ordinal_types integer id now n (further_still one h) known)

  -- two or more characters
  text_does : (place : Place) (id : Option ℕ) {least : Reached} (cs : List ℕ) → IsKnown id least → 1 < length cs → list_all is_character cs ≡ true
      → PassingDoes here least Nothing
      (string_type place (length cs) >>= (λ type_id. enter_as (λ n. Text n cs) >> pure (typed_text type_id (length cs) id))) Types
  text_does place id {least} cs known more all =
      quietly (string_type_does place (length cs) more) λ type_id _ one made.
      quietly (enter_does (λ n. Text n cs) (λ n. refl) (λ n. refl) (λ n. refl) (λ n. refl) (λ n o h. both_true _ _ made.0 all)) λ _ _ two _.
      pure_does (typed_text type_id (length cs) id) (λ n h. (
        known_later id least n (further_still one (further_still two h)) known,
        is_string_longer (further_still two h).types type_id made.1,
      ))

  spelled_does : (place : Place) (id : Option ℕ) {least : Reached} (cs : List ℕ) → IsKnown id least → AreOfChar cs
      → PassingDoes here least Nothing (spelled place id cs) Types
  unfolding spelled
  spelled_does place id [] known all = absurd (no_characters all)
  spelled_does place id {least} (c ∷ []) known all =
      quietly (enter_does (λ n. Constant n (pos c)) (λ n. refl) (λ n. refl) (λ n. refl) (λ n. refl) (λ n o h. char_whole c all.1)) λ _ _ more _.
      pure_does (typed char id) (λ n h. ordinal_types char id least n (further_still more h) known)
  spelled_does place id (c ∷ d ∷ cs) known all = text_does place id (c ∷ d ∷ cs) known (omega arith) all.1

  pub string_does : (text : List ℕ) (place : Place) → LawfulWritten here (place ∷ []) (written place (string text place))
  unfolding string
  string_does text place =
      no_variable_lawful here (place ∷ []) [] place _ refl
      (λ least lead is. led_covers here 2 place [] (led lead) (led_alone lead is) (by least lead))
    where
      by : (least : Reached) (lead : Option SiteKind) → PassingDoes here least (Leads place (led lead) []) (string text place lead) Types
      by least lead =
          quietly (pass_does place) λ _ _ _ _.
          joins (leads_first 2 place (led lead) []) (behind_does lead place) λ id now _ known.
          quietly (given_does (string_characters place text)) λ cs next more is.
          spelled_does place id cs (known_later id now next more known) (all_of_char place text cs is)

  -- what is asked of the input has its point
  abbrev IsFormedTest : InputTest → Reached → Type 0
  IsFormedTest asked now = (o : Outline) → IsFurther now (whole_of o) → is_well_formed_input o here.block asked ≡ true

  input_test_does : {least : Reached} (function : InputFunction) (place : Place)
      → PassingDoes here least (ArePointsAt place) (input_test function place) IsFormedTest
  unfolding input_test
  input_test_does asks.Eof place = sited (no_point place) (pure_does test.End (λ n h o more. refl))
  input_test_does asks.Eoln place =
      sited (one_point place)
      (last (point_does place) λ id now _ known.
      pure_does (test.LineEnd id) (λ n h o more. lt_true id o.points (omega (arith, known, h.points, more.points))))

  pub input_does : {least : Reached} (function : InputFunction) (place : Place) (lead : Option SiteKind) → IsLed lead
      → PassingDoes here least (Covers 2 (place ∷ [])) (input_value function place lead) Types
  unfolding input_value
  input_does function place lead is =
      (quietly (pass_does place) λ _ _ _ _.
      quietly (wants_file_does file.Input place) λ _ _ _ _.
      joins (points_last 2 place (led lead) (led_alone lead is)) (behind_does lead place) λ id now _ known.
      last (input_test_does function place) λ asked _ one formed.
      quietly (enter_does (λ n. Input n asked) (λ n. refl) (λ n. refl) (λ n. refl) (λ n. refl) (λ n o h. formed o h)) λ _ _ two _.
      pure_does (typed boolean id) (λ n h. ordinal_types boolean id now n (further_still one (further_still two h)) known))

  denoted_does : (denotation : Denotation) (place : Place) {least : Reached} (lead : Option SiteKind) → IsLed lead → IsFound here denotation least
      → PassingDoes here least (Covers 2 (place ∷ [])) (denoted denotation place lead) Types
  unfolding denoted
  denoted_does (denotes.Constant value type_id) place lead is sound = led_covers here 2 place [] (led lead) (led_alone lead is) by
    where
      by : {least : Reached} → PassingDoes here least (Leads place (led lead) []) (denoted (denotes.Constant value type_id) place lead) Types
      by =
          joins (leads_first 2 place (led lead) []) (behind_does lead place) λ id now _ known.
          quietly (enter_does (λ n. Constant n value) (λ n. refl) (λ n. refl) (λ n. refl) (λ n. refl) (λ n o h. sound.0)) λ _ _ more _.
          pure_does (typed type_id id) (λ n h. ordinal_types type_id id now n (further_still more h) known)
  denoted_does (denotes.Text number type_id) place {least} lead is sound = led_covers here 2 place [] (led lead) (led_alone lead is) by
    where
      by : PassingDoes here least (Leads place (led lead) []) (denoted (denotes.Text number type_id) place lead) Types
      by =
          joins (leads_first 2 place (led lead) []) (behind_does lead place) λ id now seen known.
          quietly (text_at_does number) λ cs _ one are.
          quietly (enter_does (λ n. Text n cs) (λ n. refl) (λ n. refl) (λ n. refl) (λ n. refl) (λ n o h. are)) λ _ _ two _.
          pure_does (typed_text type_id (length cs) id) (λ n h.
          let later = further_still one (further_still two h) in (
            known_later id now n later known,
            is_string_longer (further_still seen later).types type_id sound.0,
          ))
  denoted_does (denotes.Variable root type_id) place {least} lead is sound =
      accessed_does here (entire root type_id) [] [] [] place lead is tt (entire_denoted here root type_id least sound.0 sound.1)
  denoted_does (denotes.Field slot position offset type_id) place lead is sound =
      quietly (variable_does here place (denotes.Field slot position offset type_id) sound) λ variable _ _ found.
      accessed_does here variable [] [] [] place lead is tt found
  denoted_does (denotes.Procedure procedure) place lead is sound = fail_does (fault.WrongParameters place)
  denoted_does (denotes.Function function) place lead is sound = fail_does (fault.WrongParameters place)
  denoted_does (denotes.Routine block is_function) place lead is sound = function_does here block is_function place [] [] lead is sound.0 sound.1 tt
  denoted_does (denotes.TypeName type_id) place lead is sound = fail_does (fault.Mismatch place)
  denoted_does (denotes.InputFunction function) place lead is sound = input_does function place lead is
  denoted_does (denotes.File file) place lead is sound = fail_does (fault.Mismatch place)

  -- what is no variable isn't passed to a variable parameter, and what is one is of its type
  passable_is : (types : List Form) (wanted type_id : TypeId) (selectors : List TreeSelector) (part : TypeId) (place : Place)
      → passable types wanted type_id selectors part place ≡ Ok (tt {0}) → is_same part wanted ≡ true
  passable_is types wanted type_id selectors part place is = by (is_same wanted part) refl is
    where
      by : (test : Bool) → is_same wanted part ≡ test
          → (if not test then Err (fault.Mismatch place)
          else if is_of_packed types (Some type_id) false selectors then Err (fault.PackedComponent place) else Ok (tt {0})) ≡ Ok (tt {0})
          → is_same part wanted ≡ true
      by true same h = eq-eqb part.index wanted.index (sym (eqb-true wanted.index part.index same))
      by false same h = absurd cc

  passed_does : {least : Reached} (name : Name) (selectors : List Selector) (rows : List (List Place)) (ws : List Written) (callee position : ℕ)
      (formal : Variable) → AreLawfulRows here rows ws → IsFormalAt least callee position formal → is_variable_kind formal.kind ≡ true
      → PassingDoes here least (Covers 2 (name.place ∷ selector_places selectors rows)) (passed_variable name selectors ws formal.type_id callee position)
      Anything
  unfolding passed_variable
  passed_does {least} name selectors rows ws callee position formal laws at is =
      sited (λ sites has. ([], sites, refl, tt, has))
      (quietly (find_does name) λ d now one sound.
      quietly (variable_does here name.place d sound) λ variable there two found.
      let origin = variable.origin in
      quietly (may_change_does name.place (root_of origin) found.type_id found.of_root) λ _ changed three may.
      quietly (enter_does Access (λ n. refl) (λ n. refl) (λ n. refl) (λ n. refl) (λ n o h. refl)) λ _ entered four _.
      let start = leads_later here origin variable.selectors variable.type_id there entered (further_still three four) found.leads_to in
      last (selected_does here origin variable.selectors variable.type_id selectors rows ws laws start) λ component met five l.
      quietly (by_types_does (λ types. passable types formal.type_id variable.from component.0 component.1 name.place)) λ _ next six fits.
      let same = passable_is next.types formal.type_id variable.from component.0 component.1 name.place fits.1 in
      let led = leads_later here origin component.0 component.1 met next six l in
      let seen = further_still two (further_still three (further_still four (further_still five six))) in
      let formal_there = formal_later least next callee position formal (further_still one seen) at in
      let may_there = change_later here changed next (root_of origin) (further_still four (further_still five six)) may in
      change_does (ForVariable formal.type_id origin component.0 (index_count component.0) callee position) (root_of origin)
      refl refl refl refl (stands_there (open_in here) (open_in here) origin led.opens) may_there
      (λ o h. both_true _ _ (leads_formed here origin component.0 component.1 next led (λ id. is_same id formal.type_id) o h same)
      (ap (of_one (takes_variable formal.type_id)) (formal_is next callee position formal o h formal_there)
      ∙ both_true _ _ is (eq-eqb formal.type_id.index formal.type_id.index refl))))

  -- what is read is of an ordinal type with these values
  read_values : (types : List Form) (place : Place) (id : TypeId) (read : Readable × OrdinalRange) → read_as types place id ≡ Ok read
      → range_of types id ≡ Some read.1
  read_values types place id read is =
      let x = split (or_mismatch place (readable_host (host_of types id))) (λ reads. and_then (or_mismatch place (range_of types id)) (both reads)) read is in
      let y = split (or_mismatch place (range_of types id)) (both x.0) read x.2 in
      let same : ◌≡◌ {A = Readable × OrdinalRange} (x.0, y.0) read = cc in
      subst (λ (r : Readable × OrdinalRange). range_of types id ≡ Some r.1) same (is_there place (range_of types id) y.0 y.1)
    where
      both : Readable → OrdinalRange → Checked (Readable × OrdinalRange)
      both reads range = Ok (reads, range)

  read_does : {least : Reached} (name : Name) (selectors : List Selector) (rows : List (List Place)) (ws : List Written) → AreLawfulRows here rows ws
      → PassingDoes here least (Covers 2 (name.place ∷ selector_places selectors rows)) (read_variable name selectors ws) Anything
  unfolding read_variable
  read_does {least} name selectors rows ws laws =
      (quietly (find_does name) λ d _ _ sound.
      quietly (variable_does here name.place d sound) λ variable there _ found.
      let origin = variable.origin in
      quietly (may_change_does name.place (root_of origin) found.type_id found.of_root) λ _ changed two may.
      joins (points_first 2 name.place (selector_places selectors rows)) (sited (one_point name.place) (point_does name.place)) λ id _ three known.
      quietly (enter_does Access (λ n. refl) (λ n. refl) (λ n. refl) (λ n. refl) (λ n o h. refl)) λ _ entered four _.
      let before = further_still two (further_still three four) in
      let start = leads_later here origin variable.selectors variable.type_id there entered before found.leads_to in
      last (selected_does here origin variable.selectors variable.type_id selectors rows ws laws start) λ component met five l.
      quietly (by_types_does (λ types. read_as types name.place component.1)) λ read next six reads.
      let led = leads_later here origin component.0 component.1 met next six l in
      let may_there = change_later here changed next (root_of origin) (further_still three (further_still four (further_still five six))) may in
      let values = read_values next.types name.place component.1 read reads.1 in
      change_does (Reads origin component.0 (index_count component.0) read.0 id read.1) (root_of origin)
      refl refl refl refl (stands_there (open_in here) (open_in here) origin led.opens) may_there
      (λ o h. read_formed here origin component.0 component.1 read.1 id next o led h
      (omega (arith, known, four.points, five.points, six.points)) reads.0 values))

  file_does : {least : Reached} (name : Name) (selectors : List Selector) → PassingDoes here least Nothing (file_named name selectors) Anything
  unfolding file_named
  file_does name [] = quietly (find_does name) λ d _ _ _. pure_does (as_file d) (λ n h. tt)
  file_does name (selector ∷ selectors) = pure_does None (λ n h. tt)

  pub named_does : (name : Name) → LawfulWritten here (name.place ∷ []) (written_variable name [] [] (named name))
  unfolding named
  named_does name = record {
    begins = ([], refl);
    types = λ least lead is. quietly (find_does name) λ denotation _ _ found. denoted_does denotation name.place lead is found;
    passes = λ least callee position formal at is. passed_does name [] [] [] callee position formal tt at is;
    reads = λ least. read_does name [] [] [] tt;
    names = λ least. file_does name [];
  }

  pub component_does : (name : Name) (selectors : List Selector) (rows : List (List Place)) (ws : List Written) → AreLawfulRows here rows ws
      → LawfulWritten here (name.place ∷ selector_places selectors rows) (written_variable name selectors ws (component name selectors ws))
  unfolding component
  component_does name selectors rows ws laws = record {
    begins = (selector_places selectors rows, refl);
    types = λ least lead is.
        quietly (find_does name) λ d now _ sound.
        quietly (variable_does here name.place d sound) λ variable _ _ found.
        accessed_does here variable selectors rows ws name.place lead is laws found;
    passes = λ least callee position formal at is. passed_does name selectors rows ws callee position formal laws at is;
    reads = λ least. read_does name selectors rows ws laws;
    names = λ least. file_does name selectors;
  }

  -- ---- one operand

  pub parenthesized_does : (place : Place) (places : List Place) (inner : Written) → LawfulWritten here places inner
      → LawfulWritten here (place ∷ places) (written place (parenthesized place inner))
  unfolding parenthesized
  parenthesized_does place places inner law =
      no_variable_lawful here (place ∷ places) places place _ refl
      (λ least lead is. led_covers here 2 place places (led lead) (led_alone lead is) (by least lead))
    where
      by : (least : Reached) (lead : Option SiteKind) → PassingDoes here least (Leads place (led lead) places) (parenthesized place inner lead) Types
      by least lead =
          quietly (pass_does place) λ _ _ _ _.
          joins (leads_first 2 place (led lead) places) (behind_does lead place) λ id now _ known.
          checks (law.types now None tt) λ types t b n more is own. answer id now n b t known own more is
        where
          answer : (id : Option ℕ) (now n : Reached) (b t : Typed) → IsKnown id now → Types t n → IsFurther now n
              → ◌≡◌ {A = Checked Typed} (Ok (record t { site = id })) (Ok b) → Types b n
          answer id now n b t known own more is =
              let same : record t { site = id } ≡ b = cc in subst (λ (z : Typed). Types z n) same (known_later id now n more known, own.1)

  prefixed_does : (type_id : TypeId) (does : Monadic) → ((o : Outline) → monadic_is_well_formed o here.block does ≡ true) → (place : Place)
      (places : List Place) (operand : Written) → LawfulWritten here places operand
      → LawfulWritten here (place ∷ places) (written place (prefixed type_id does place operand))
  unfolding prefixed
  prefixed_does type_id does formed place places operand law =
      no_variable_lawful here (place ∷ places) places place _ refl
      (λ least lead is. led_covers here 2 place places (led lead) (led_alone lead is) (by least lead))
    where
      by : (least : Reached) (lead : Option SiteKind)
          → PassingDoes here least (Leads place (led lead) places) (prefixed type_id does place operand lead) Types
      by least lead =
          quietly (pass_does place) λ _ _ _ _.
          joins (leads_first 2 place (led lead) places) (behind_does lead place) λ id now _ known.
          quietly (enter_does Operation (λ n. refl) (λ n. refl) (λ n. refl) (λ n. refl) (λ n o h. refl)) λ _ next one _.
          last (checks {L = Anything} (law.types next None tt) λ types t b n more is _. tt) λ _ _ two _.
          quietly (mark_does (Applied does) refl refl refl refl (λ o h. formed o)) λ _ _ three _.
          pure_does (typed type_id id) (λ n h. ordinal_types type_id id now n (further_still one (further_still two (further_still three h))) known)

  pub negation_does : (place : Place) (places : List Place) (operand : Written) → LawfulWritten here places operand
      → LawfulWritten here (place ∷ places) (written place (negation place operand))
  negation_does = prefixed_does boolean (monadic.Plain calculation.Complement) (λ o. refl)

  signs_formed : (s : Sign) (o : Outline) → monadic_is_well_formed o here.block (sign_operation s) ≡ true
  signs_formed sign.Plus o = refl
  signs_formed sign.Minus o = refl

  pub signed_does : (s : Sign) (place : Place) (places : List Place) (operand : Written) → LawfulWritten here places operand
      → LawfulWritten here (place ∷ places) (written place (signed s place operand))
  signed_does s = prefixed_does integer (sign_operation s) (signs_formed s)
