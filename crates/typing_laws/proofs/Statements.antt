-- What statements do, form by form, and the law of every statement, by induction over its form.
use Rattle.std.proofs.Common.{◌≡◌, ℕ, ℤ, Vec, ap, ◌∙◌, nat_eq, Bool, true, false, if◌then◌else◌, List, [], ◌∷◌, ◌++◌, map, Option, Some, None, Ok}
use Rattle.std.proofs.Common.{refl, sym, slice_get, subst, append_assoc, arith, option_map, ◌&&◌, ◌<◌}
use Rattle.std.specs.List.{flat_map}
use Rattle.std.specs.declared.alloc.Global.{Global}
use Rattle.place.specs.declared.Place.{Place}
use Rattle.syntax_tree.specs.declared.Name.{Name}
use Rattle.syntax_tree.specs.declared.Actual.{Actual}
use Rattle.syntax_tree.specs.declared.Constant.{Constant}
use Rattle.syntax_tree.specs.declared.Direction.{Direction as SyntaxDirection}
use Rattle.syntax_tree.specs.declared.Stmt.{Stmt}
use Rattle.syntax_tree.specs.declared.Stmt.TheOpen as layer
use Rattle.syntax_tree.specs.declared.Stmt.TheViews.{roll-Stmt}
use Rattle.syntax_tree.specs.declared.Stmt.TheFolds.{map-Stmt, fold-roll-Stmt, ind-Stmt}
use Rattle.syntax_tree.specs.declared.Selector.{Selector}
use Rattle.syntax_tree.specs.Places.{Places, selector_places, joined_places, expr_places, actual_places, stmt_places, arms_of, arm_places, constant_places}
use Rattle.syntax_tree.specs.Places.{statement_step as statement_row}
use Rattle.types.specs.Forms.{Form}
use Rattle.types.specs.declared.form.TypeId.{TypeId}
use Rattle.types.specs.declared.form.TypeKind.{TypeKind}
use Rattle.types.specs.declared.form.TypeKind.TheVariants as kind_of_type
use Rattle.types.specs.Types.{integer, is_ordinal, is_string, is_structured, is_structured_kind, kind_of}
use Rattle.scopes.specs.declared.denotation.Denotation.TheVariants as denotes
use Rattle.scopes.specs.declared.denotation.Denotation.{Denotation}
use Rattle.scopes.specs.declared.denotation.File.{File}
use Rattle.scopes.specs.declared.denotation.File.TheVariants as file
use Rattle.scopes.specs.declared.denotation.RequiredProcedure.{RequiredProcedure}
use Rattle.typed_tree.specs.declared.fault.TypeFault.TheVariants as fault
use Rattle.typed_tree.specs.declared.site.SiteKind.{SiteKind}
use Rattle.typed_tree.specs.declared.site.SiteKind.TheVariants as kind
use Rattle.typed_tree.specs.declared.tree.Representation.{Representation}
use Rattle.typed_tree.specs.Sites.{code_of}
use Rattle.typed_tree.specs.declared.tree.Variable.{Variable}
use Rattle.typed_tree.specs.Look.{Assign, Copied, Fits, Write, Written as WrittenMark, Width, Empty, Compound, If, Then, Else, While, Do, Repeat, Until, For}
use Rattle.typed_tree.specs.Look.{Case, Arm, Ends, Mark, Read, WrittenString, is_formed_mark}
use Rattle.typed_tree.specs.declared.tree.RangeTest.{RangeTest}
use Rattle.typed_tree.specs.declared.tree.Scalar.{Scalar}
use Rattle.typed_tree.specs.declared.tree.Scalar.TheVariants as scalar
use Rattle.typed_tree.specs.Accesses.{AtVariable}
use Rattle.typed_tree.specs.WellFormed.{Outline, holds, is_declared, is_held_by, is_local_kind, is_text, is_well_formed_line, of_one}
use Rattle.typing.specs.Passing.{Passing, each, ◌>>?◌}
use Rattle.typing_rules.specs.Checked.{and_then}
use Rattle.typing.proofs.Ways.{numbers_of}
use Rattle.typing.specs.Steps.{is_local}
use Rattle.typing_rules.specs.Checked.{fits, or_mismatch}
use Rattle.typing_rules.specs.declared.typed.Typed.{Typed}
use Rattle.typing_rules.specs.declared.typed.TypedValue.{TypedValue}
use Rattle.typing_rules.specs.declared.typed.TypedValue.TheVariants as value
use Rattle.typing.specs.Expressions.{Written, WrittenActual, expression, unless_width, written_actual}
use Rattle.typing_rules.specs.Targets.{fitting, test_kind}
use Rattle.typing_rules.specs.Typed.{is_of}
use Rattle.typing_rules.specs.Denotations.{as_routine}
use Rattle.typing.specs.Statements.{Accessed, assigned_by_kind, written_value}
use Rattle.typing_rules.specs.Denotations.{as_control}
use Rattle.typing.specs.Statements.{assigned, copied, assignment, unless_wide, behind_file, without_file, has_parameters, parameters_of}
use Rattle.typing_rules.specs.Denotations.{as_procedure}
use Rattle.typing.specs.Statements.{written_as, measured, width, parameter, write, read_parameter, line_point, read, by_file, file_call}
use Rattle.typing.specs.Statements.{required_call, declared_call}
use Rattle.typing_rules.specs.Targets.{representation_of}
use Rattle.typing.specs.Statements.{call_by, procedure_call, compound, condition, alternative, tested, choice, while_loop, repeat_loop, bound, for_head}
use Rattle.typing_rules.specs.Targets.{way}
use Rattle.typing.specs.Statements.{for_loop, case_arms, case_head, case_body, case_statement, statement_step, statement}
use Rattle.typing_laws.proofs.Opened.{open_in, stands_there}
use Rattle.typing_laws.proofs.Tables.{has_kind, is_string_longer, is_structured_longer, kind_longer, ordinal_held}
use Rattle.typing_laws.proofs.Copies.{IsCopyFor, copy_formed, copying_there}
use Rattle.typing_laws.proofs.Covers.{ArePointsAt, Stood, Covers, no_point, one_point, points_first, covers_any, covers_both, covers_none}
use Rattle.typing_laws.proofs.Covers.{covers_behind, covers_more, covers_skip, covers_lower, leads_first}
use Rattle.typing_laws.proofs.Grown.{heads_of, both_true}
use Rattle.typing_laws.proofs.Reached.{Reached, whole_of, IsFurther, further_still, Here, StandsIn, get_longer}
use Rattle.typing_laws.proofs.Sound.{IsRoutine, IsVariable, variable_later}
use Rattle.typing_laws.proofs.Steps.{PassingDoes, Anything, Nothing, IsFound, IsSoundThen, joins, quietly, last, checks, checks_types, sited, pure_does}
use Rattle.typing_laws.proofs.Steps.{given_does}
use Rattle.typing_laws.proofs.Steps.{by_types_does}
use Rattle.typing_laws.proofs.Steps.{answered, fail_does, find_does, pass_does, point_does, wants_file_does, mark_does, enter_does, enter_loop_does}
use Rattle.typing_laws.proofs.Steps.{may_change_does}
use Rattle.typing_laws.specs.Controls.{is_bracket}
use Rattle.typing_laws.proofs.Steps.{for_body_does, site_does, IsKnown, controlled_does}
use Rattle.typing_laws.proofs.Leading.{IsLed, Types, lt_true, LawfulWritten, covers_test, led_covers}
use Rattle.typing_laws.proofs.Accesses.{AreLawfulRows, LeadsTo, fits_formed, kind_now_does, leads_nowhere, leads_later, ordinal_formed}
use Rattle.typing_laws.proofs.Calls.{AreLawfulActuals, IsLawfulWidth, IsRangeOf, LawfulActual, fitting_whole, routine_is, routine_call_does}
use Rattle.typing_laws.proofs.Constants.{row_does}
use Rattle.typing_laws.proofs.Strings.{there, fit_is}
use Rattle.typing_laws.proofs.EveryExpression.{expression_lawful, indexes_lawful, every_actual_lawful}
use Rattle.typed_tree.specs.Records.{OpenRecord}
use Rattle.typing_laws.specs.Controls.{mark_changes}
use Rattle.typing_laws.specs.Opened.{mark_opened}
use Rattle.typing_laws.proofs.Opening.{with_does}
use Rattle.typing_laws.proofs.Targets.{IsAccessed, target_does}

-- ---- tests

measured_is : (place : Place) (t : Typed) (id : ℕ) → measured place t ≡ Ok id → t.site ≡ Some id
measured_is place t id is = by (is_of integer t) t.site is
  where
    by : (test : Bool) (s : Option ℕ) → and_then (fits test place s) (or_mismatch place) ≡ Ok id → s ≡ Some id
    by true (Some n) h = cc
    by true None h = absurd cc
    by false s h = absurd cc

-- a mark that says how a value is written is no entry
abbrev IsForm : Mark → Reached → Type 0
IsForm one now =
    (numbers_of one ≡ ([], [], [])) × (mark_changes one ≡ []) × (is_bracket one ≡ false)
    × ((records : List OpenRecord) → mark_opened one records ≡ Some records)
    × ((o : Outline) (block : ℕ) → IsFurther now (whole_of o) → is_formed_mark o block one ≡ true)

form_is : (place : Place) (types : List Form) (t : Typed) (form : Mark) (now : Reached) → now.types ≡ types
    → or_mismatch place (written_as types t) ≡ Ok form → IsForm form now
form_is place types t form now same is = by t.value (ap (λ l. written_as l t) same ∙ there place (written_as types t) form is)
  where
    ordinal : (representation : Option Representation) → option_map WrittenMark representation ≡ Some form → IsForm form now
    ordinal (Some r) h =
        let one : WrittenMark r ≡ form = cc in subst (λ (m : Mark). IsForm m now) one (refl, refl, refl, (λ records. refl), λ o block more. refl)
    ordinal None h = absurd cc

    of_string : (id : TypeId) (source : Option TypeId)
        → ((o : Outline) → IsFurther now (whole_of o) → is_string now.types id ≡ true → is_text o.types source ≡ true)
        → (string : Bool) → is_string now.types id ≡ string → (if string then Some (WrittenString source) else None) ≡ Some form → IsForm form now
    of_string id source text true string h =
        let one : WrittenString source ≡ form = cc in
        subst (λ (m : Mark). IsForm m now) one (refl, refl, refl, (λ records. refl), λ o block more. text o more string)
    of_string id source text false string h = absurd cc

    by : (v : TypedValue) → written_value now.types v ≡ Some form → IsForm form now
    by (value.Ordinal type_id) h = ordinal (representation_of now.types type_id) h
    by (value.Set base) h = absurd cc
    by (value.Text type_id length) h = of_string type_id None (λ o more string. refl) (is_string now.types type_id) refl h
    by (value.Whole type_id cells) h =
        of_string type_id (Some type_id) (λ o more string. is_string_longer more.types type_id string) (is_string now.types type_id) refl h

module _ (here : Here) where
  pub record LawfulStatement (places : List Place) (p : Passing (Unit {0})) : Type 0 where
    pub passes : (least : Reached) → PassingDoes here least (Covers 0 places) p Anything

  typed_does : (least : Reached) (places : List Place) (w : Written) (lead : Option SiteKind) → LawfulWritten here places w → IsLed lead
      → PassingDoes here least (Covers 0 places) (w.typing lead) Types
  typed_does least places w lead law is = sited (covers_lower 2 0 (omega arith) places) (law.types least lead is)

  -- ---- assignments

  -- the range of a test is that of the type
  ranges_do : {least : Reached} {Has : List Stood → Type 0} {p : Passing Typed} (id : TypeId) (place : Place) → PassingDoes here least Has p Types
      → PassingDoes here least Has (p >>? (λ types t. or_mismatch place (fitting types id t))) (λ range n. IsRangeOf n.types id range)
  ranges_do id place typed = checks_types typed λ types t range n more same lawful fits _. fitting_whole place types n.types id t range same lawful.whole fits

  -- the kind of the site of a test
  test_above : (tested : Scalar) → 0 < code_of (test_kind tested)
  test_above scalar.Ordinal = omega arith
  test_above scalar.Set = omega arith

  assigned_does : {least : Reached} (tested : Scalar) (to : Accessed) (becomes : Place) (places : List Place) (value : Written) → IsAccessed here to least
      → holds least.types tested to.type_id ≡ true → LawfulWritten here places value
      → PassingDoes here least (Covers 0 (becomes ∷ places)) (assigned tested to becomes value) Anything
  unfolding assigned
  assigned_does {least} tested to becomes places value led held law =
      led_covers here 0 becomes places (test_kind tested ∷ []) (test_above tested, tt)
      (joins (leads_first 0 becomes (test_kind tested ∷ []) places) (site_does (test_kind tested) becomes) λ site there one known.
      last (ranges_do to.type_id becomes (typed_does there places value None law tt)) λ range n more is.
      let test : RangeTest = record { site = site; tests = tested; range = range } in
      let seen = further_still one more in
      let led_there = leads_later here to.origin to.selectors to.type_id least n seen led in
      let held_there = ap (is_held_by tested) (kind_longer seen.types to.type_id led.stands) ∙ held in
      mark_does (Fits to.origin to.selectors test) refl refl refl (stands_there (open_in here) (open_in here) to.origin led.opens)
      (λ o h. fits_formed here to.origin to.selectors to.type_id test n o led_there h (omega (arith, known, more.sites)) held_there is.0 is.1))

  copied_does : {least : Reached} (id : TypeId) (becomes : Place) (places : List Place) (value : Written) → is_structured least.types id ≡ true
      → LawfulWritten here places value → PassingDoes here least (Covers 0 (becomes ∷ places)) (copied id becomes value) Anything
  unfolding copied
  copied_does id becomes places value structured law =
      sited (λ sites. covers_skip 0 becomes places sites)
      (quietly (pass_does becomes) λ _ now one _.
      last (checks_types {L = λ copy n. IsCopyFor n.types id copy} (typed_does now places value None law tt)
      λ types t copy n more same lawful copies own.
      let again = is_structured_longer (further_still one more).types id structured in
      copying_there becomes n types id t copy same lawful again own.1 copies) λ copy n two fits.
      mark_does (Copied id copy.source copy.cells) refl refl refl refl
      (λ o h. copy_formed here.block n id copy o h (is_structured_longer (further_still one two).types id structured) fits))

  value_does : {least : Reached} (found : Option TypeKind) (to : Accessed) (becomes : Place) (places : List Place) (value : Written) → IsAccessed here to least
      → kind_of least.types to.type_id ≡ found → LawfulWritten here places value
      → PassingDoes here least (Covers 0 (becomes ∷ places)) (assigned_by_kind found to becomes value) Anything
  value_does (Some kind_of_type.Structured) to becomes places value led is law =
      copied_does to.type_id becomes places value (ap is_structured_kind is) law
  value_does (Some (kind_of_type.Set base members)) to becomes places value led is law =
      assigned_does scalar.Set to becomes places value led (ap (is_held_by scalar.Set) is) law
  value_does (Some (kind_of_type.Ordinal range)) to becomes places value led is law =
      assigned_does scalar.Ordinal to becomes places value led (ap (is_held_by scalar.Ordinal) is) law
  value_does {least} None to becomes places value led is law = absurd (has_kind least.types to.type_id led.stands is)

  assignment_does : (name : Name) (selectors : List Selector) (rows : List (List Place)) (ws : List Written) (becomes : Place) (places : List Place)
      (value : Written) → AreLawfulRows here rows ws → LawfulWritten here places value
      → LawfulStatement (name.place ∷ (selector_places selectors rows ++ (becomes ∷ places))) (assignment name selectors ws becomes value)
  unfolding assignment
  assignment_does name selectors rows ws becomes places value laws law = record {
    passes = λ least.
        sited (λ sites. covers_skip 0 name.place (selector_places selectors rows ++ (becomes ∷ places)) sites)
        (quietly (enter_does (λ n. Assign n becomes) (λ n. refl) (λ n. refl) (λ n. refl) (λ n. refl) (λ n m h. refl)) λ _ _ _ _.
        joins (covers_both 0 (selector_places selectors rows) (becomes ∷ places)) (target_does here name selectors rows ws laws) λ to now _ led.
        quietly (kind_now_does here to.type_id) λ found next one of_kind.
        value_does found to becomes places value (leads_later here to.origin to.selectors to.type_id now next one led) of_kind.1 law);
  }

  -- ---- what is written and read

  unless_wide_does : {least : Reached} (places : List Place) (value : Written) (w : Option Written) → LawfulWritten here places value
      → PassingDoes here least Nothing (unless_wide value w) Anything
  unless_wide_does {least} places value None law = law.names least
  unless_wide_does places value (Some w) law = pure_does None (λ n h. tt)

  -- parameters of which sites stand at places of these
  abbrev AreAmong : List (List Place) → List WrittenActual → Type 0
  AreAmong all parameters =
      (rows : List (List Place)) × AreLawfulActuals here rows parameters
      × ((sites : List Stood) → Covers 0 (joined_places rows) sites → Covers 0 (joined_places all) sites)

  behind_file_among : (wanted : File) (place : Place) (row : List Place) (rows : List (List Place)) (first : WrittenActual) (rest : List WrittenActual)
      (named : Option File) (found : List WrittenActual) → LawfulActual here row first → AreLawfulActuals here rows rest
      → behind_file wanted place first rest named ≡ Ok found → AreAmong (row ∷ rows) found
  behind_file_among wanted place row rows first rest None found law laws is =
      let same : first ∷ rest ≡ found = cc in
      subst (AreAmong (row ∷ rows)) same (row ∷ rows, (law, laws), λ sites has. has)
  behind_file_among file.Input place row rows first rest (Some file.Input) found law laws is =
      let same : rest ≡ found = cc in
      subst (AreAmong (row ∷ rows)) same (rows, laws, covers_behind 0 row (joined_places rows))
  behind_file_among file.Output place row rows first rest (Some file.Output) found law laws is =
      let same : rest ≡ found = cc in
      subst (AreAmong (row ∷ rows)) same (rows, laws, covers_behind 0 row (joined_places rows))
  behind_file_among file.Input place row rows first rest (Some file.Output) found law laws is = absurd cc
  behind_file_among file.Output place row rows first rest (Some file.Input) found law laws is = absurd cc

  without_file_does : {least : Reached} (wanted : File) (place : Place) (rows : List (List Place)) (actuals : List WrittenActual)
      → AreLawfulActuals here rows actuals → PassingDoes here least Nothing (without_file wanted place actuals) (λ found now. AreAmong rows found)
  unfolding without_file
  without_file_does wanted place [] [] laws = pure_does [] (λ n h. ([], tt, λ sites has. has))
  without_file_does wanted place [] (first ∷ rest) laws = absurd laws
  without_file_does wanted place (row ∷ rows) [] laws = absurd laws
  without_file_does wanted place (row ∷ rows) (first ∷ rest) laws =
      quietly (unless_wide_does laws.0.of_value first.value first.width laws.0.value) λ named _ _ _.
      answered (λ found now is. behind_file_among wanted place row rows first rest named found laws.0 laws.1 is)
      (given_does (behind_file wanted place first rest named))

  parameters_are : {least : Reached} (place : Place) (procedure : RequiredProcedure) (rows : List (List Place)) (actuals : List WrittenActual)
      → AreLawfulActuals here rows actuals → PassingDoes here least Nothing (parameters_of place procedure actuals) (λ found now. AreAmong rows found)
  unfolding parameters_of
  parameters_are place procedure rows actuals laws =
      quietly (without_file_does procedure.file place rows actuals laws) λ found _ _ among.
      quietly (given_does (has_parameters place procedure found)) λ _ _ _ _.
      pure_does found (λ n h. among)

  width_does : (least : Reached) (places : List Place) (w : Option Written) → IsLawfulWidth here places w
      → PassingDoes here least (Covers 0 places) (width w) Anything
  unfolding width
  width_does least places None law =
      sited (λ sites none. subst (Covers 0 places) (sym none) (covers_none 0 places))
      (pure_does {K = Anything} tt (λ n h. tt))
  width_does least places (Some w) law =
      last (checks {L = λ id n. IsKnown (Some id) n} (typed_does least places w (Some kind.Width) law (omega arith)) λ types t id n more is known.
      subst (λ z. IsKnown z n) (measured_is w.first t id is) known.0) λ id n more known.
      mark_does (Width id) refl refl refl refl (λ m h. lt_true id m.sites (omega (arith, known, h.sites)))

  parameter_does : (least : Reached) (places : List Place) (a : WrittenActual) → LawfulActual here places a
      → PassingDoes here least (Covers 0 places) (parameter a) Anything
  unfolding parameter
  parameter_does least places a law =
      sited (λ sites. subst (λ p. Covers 0 p sites) (sym law.places_are))
      (joins (covers_both 0 law.of_value law.of_width)
      (checks_types {L = IsForm} (typed_does least law.of_value a.value None law.value tt) λ types t form n more same lawful is _.
      form_is a.value.first types t form n same is) λ form now _ is.
      quietly (mark_does form is.0 is.1 is.2 (is.3 (open_in here)) (λ o h. is.4 o here.block h)) λ _ next _ _.
      width_does next law.of_width a.width law.width)

  parameters_do : (least : Reached) (rows : List (List Place)) (values : List WrittenActual) → AreLawfulActuals here rows values
      → PassingDoes here least (Covers 0 (joined_places rows)) (each parameter values) Anything
  parameters_do least [] [] laws = pure_does tt (λ n h. tt)
  parameters_do least [] (value ∷ values) laws = absurd laws
  parameters_do least (row ∷ rows) [] laws = absurd laws
  parameters_do least (row ∷ rows) (value ∷ values) laws =
      joins (covers_both 0 row (joined_places rows)) (parameter_does least row value laws.0) λ _ now _ _.
      parameters_do now rows values laws.1

  write_does : (least : Reached) (name : Name) (rows : List (List Place)) (actuals : List WrittenActual) (procedure : RequiredProcedure)
      → AreLawfulActuals here rows actuals → PassingDoes here least (Covers 0 (joined_places rows)) (write name actuals procedure) Anything
  unfolding write
  write_does least name rows actuals procedure laws =
      quietly (enter_does (λ n. Write n name.place procedure.ends_line) (λ n. refl) (λ n. refl) (λ n. refl) (λ n. refl)
      (λ n m h. refl)) λ _ _ _ _.
      quietly (parameters_are name.place procedure rows actuals laws) λ values now _ among.
      sited among.2
      (last (parameters_do now among.0 values among.1) λ _ m _ _.
      mark_does Ends refl refl refl refl (λ n h. refl))

  read_parameter_does : (least : Reached) (places : List Place) (a : WrittenActual) → LawfulActual here places a
      → PassingDoes here least (Covers 0 places) (read_parameter a) Anything
  unfolding read_parameter
  read_parameter_does least places a law =
      sited (λ sites has.
      subst (λ p. Covers 0 p sites) (sym law.places_are) (covers_more 0 law.of_value law.of_width sites (covers_any 2 law.of_value sites has)))
      (quietly (given_does (unless_width a.value.first a.width)) λ _ now _ _.
      law.value.reads now)

  reads_do : (least : Reached) (rows : List (List Place)) (variables : List WrittenActual) → AreLawfulActuals here rows variables
      → PassingDoes here least (Covers 0 (joined_places rows)) (each read_parameter variables) Anything
  reads_do least [] [] laws = pure_does tt (λ n h. tt)
  reads_do least [] (one ∷ others) laws = absurd laws
  reads_do least (row ∷ rows) [] laws = absurd laws
  reads_do least (row ∷ rows) (one ∷ others) laws =
      joins (covers_both 0 row (joined_places rows)) (read_parameter_does least row one laws.0) λ _ now _ _.
      reads_do now rows others laws.1

  -- a readln has its point
  abbrev IsFormedLine : Option ℕ → Reached → Type 0
  IsFormedLine line now = (o : Outline) → IsFurther now (whole_of o) → is_well_formed_line o here.block line ≡ true

  line_point_does : {least : Reached} (place : Place) (ends_line : Bool)
      → PassingDoes here least (ArePointsAt place) (line_point place ends_line) IsFormedLine
  unfolding line_point
  line_point_does place false = sited (no_point place) (pure_does None (λ n h o more. refl))
  line_point_does place true =
      sited (one_point place)
      (last (point_does place) λ id now _ known.
      pure_does (Some id) (λ n h o more. lt_true id o.points (omega (arith, known, h.points, more.points))))

  read_does : (least : Reached) (name : Name) (rows : List (List Place)) (actuals : List WrittenActual) (procedure : RequiredProcedure)
      → AreLawfulActuals here rows actuals → PassingDoes here least (Covers 0 (name.place ∷ joined_places rows)) (read name actuals procedure) Anything
  unfolding read
  read_does least name rows actuals procedure laws =
      joins (points_first 0 name.place (joined_places rows)) (line_point_does name.place procedure.ends_line) λ line _ _ formed.
      quietly (enter_does (λ n. Read n name.place line) (λ n. refl) (λ n. refl) (λ n. refl) (λ n. refl) (λ n o h. formed o h)) λ _ _ _ _.
      quietly (parameters_are name.place procedure rows actuals laws) λ variables now _ among.
      sited among.2
      (last (reads_do now among.0 variables among.1) λ _ m _ _.
      mark_does Ends refl refl refl refl (λ n h. refl))

  by_file_does : (least : Reached) (one : File) (name : Name) (rows : List (List Place)) (actuals : List WrittenActual) (procedure : RequiredProcedure)
      → AreLawfulActuals here rows actuals → PassingDoes here least (Covers 0 (name.place ∷ joined_places rows)) (by_file one name actuals procedure) Anything
  by_file_does least file.Input name rows actuals procedure laws = read_does least name rows actuals procedure laws
  by_file_does least file.Output name rows actuals procedure laws =
      sited (λ added. covers_skip 0 name.place (joined_places rows) added) (write_does least name rows actuals procedure laws)

  file_call_does : {least : Reached} (name : Name) (rows : List (List Place)) (actuals : List WrittenActual) (procedure : RequiredProcedure)
      → AreLawfulActuals here rows actuals → PassingDoes here least (Covers 0 (name.place ∷ joined_places rows)) (file_call name actuals procedure) Anything
  unfolding file_call
  file_call_does name rows actuals procedure laws =
      quietly (wants_file_does procedure.file name.place) λ _ now _ _.
      by_file_does now procedure.file name rows actuals procedure laws

  joined_mapped : (actuals : List Actual) → joined_places (map actual_places actuals) ≡ flat_map actual_places actuals
  joined_mapped [] = refl
  joined_mapped (one ∷ actuals) = ap (λ l. actual_places one ++ l) (joined_mapped actuals)

  declared_does : {least : Reached} (callee : ℕ) (is_function : Bool) (name : Name) (rows : List (List Place)) (actuals : List WrittenActual)
      → IsRoutine here (heads_of least) callee is_function → StandsIn here least → AreLawfulActuals here rows actuals
      → PassingDoes here least (Covers 0 (joined_places rows)) (declared_call callee is_function name actuals) Anything
  unfolding declared_call
  declared_does callee true name rows actuals routine stands laws = fail_does (fault.WrongParameters name.place)
  declared_does callee false name rows actuals routine stands laws =
      last (routine_call_does here false callee name.place actuals rows routine stands laws) λ _ _ _ _.
      pure_does tt (λ n h. tt)

  called_does : {least : Reached} (found : Option (ℕ × Bool)) (d : Denotation) → as_routine d ≡ found → IsFound here d least → (name : Name)
      (rows : List (List Place)) (actuals : List WrittenActual) → AreLawfulActuals here rows actuals
      → PassingDoes here least (Covers 0 (name.place ∷ joined_places rows)) (call_by found d name actuals) Anything
  unfolding required_call
  called_does None d same sound name rows actuals laws =
      quietly (given_does (as_procedure name.place d)) λ procedure _ _ _. file_call_does name rows actuals procedure laws
  called_does {least} (Some routine) d same sound name rows actuals laws =
      sited (λ added. covers_skip 0 name.place (joined_places rows) added)
      (declared_does routine.0 routine.1 name rows actuals (routine_is here least d routine same sound.0) sound.1 laws)

  call_does : (name : Name) (actuals : List Actual)
      → LawfulStatement (name.place ∷ flat_map actual_places actuals) (procedure_call name (map written_actual actuals))
  unfolding procedure_call
  call_does name actuals = record {
    passes = λ least.
        sited (λ added has. subst (λ p. Covers 0 (name.place ∷ p) added) (joined_mapped actuals) has)
        (quietly (find_does name) λ d _ _ sound.
        called_does (as_routine d) d refl sound name (map actual_places actuals) (map written_actual actuals) (every_actual_lawful here actuals));
  }

  -- ---- compound statements

  pub compound_does : (places : List Place) (statements : List (Passing (Unit {0})))
      → ((least : Reached) → PassingDoes here least (Covers 0 places) (each (λ s. s) statements) Anything) → LawfulStatement places (compound statements)
  unfolding compound
  compound_does places statements row = record {
    passes = λ least.
        quietly (enter_does Compound (λ n. refl) (λ n. refl) (λ n. refl) (λ n. refl) (λ n m h. refl)) λ _ now _ _.
        last (row now) λ _ m _ _.
        mark_does Ends refl refl refl refl (λ n h. refl);
  }

  -- ---- branches

  condition_does : (least : Reached) (places : List Place) (w : Written) → LawfulWritten here places w
      → PassingDoes here least (Covers 0 places) (condition w) Anything
  unfolding condition
  condition_does least places w law = checks {L = Anything} (typed_does least places w None law tt) λ types t b n more is _. tt

  abbrev IsLawfulAlternative : List Place → Option (Passing (Unit {0})) → Type 0
  IsLawfulAlternative places None = Unit {0}
  IsLawfulAlternative places (Some other) = LawfulStatement places other

  alternative_does : (least : Reached) (places : List Place) (other : Option (Passing (Unit {0}))) → IsLawfulAlternative places other
      → PassingDoes here least (Covers 0 places) (alternative other) Anything
  unfolding alternative
  alternative_does least places None law =
      sited (λ sites none. subst (Covers 0 places) (sym none) (covers_none 0 places)) (pure_does {K = Anything} tt (λ n h. tt))
  alternative_does least places (Some other) law = quietly (mark_does Else refl refl refl refl (λ n h. refl)) λ _ now _ _. law.passes now

  tested_does : (least : Reached) (place : Place) (places : List Place) (w : Written) → LawfulWritten here places w
      → PassingDoes here least (Covers 0 (place ∷ places)) (tested place w) Anything
  unfolding tested
  tested_does least place places w law =
      sited (λ sites. covers_skip 0 place places sites)
      (quietly (pass_does place) λ _ _ _ _.
      quietly (enter_does If (λ n. refl) (λ n. refl) (λ n. refl) (λ n. refl) (λ n m h. refl)) λ _ now _ _.
      last (condition_does now places w law) λ _ _ _ _.
      mark_does Then refl refl refl refl (λ n h. refl))

  choice_does : (place : Place) (tests first second : List Place) (w : Written) (consequence : Passing (Unit {0})) (other : Option (Passing (Unit {0})))
      → LawfulWritten here tests w → LawfulStatement first consequence → IsLawfulAlternative second other
      → LawfulStatement (place ∷ (tests ++ (first ++ second))) (choice place w consequence other)
  unfolding choice
  choice_does place tests first second w consequence other law one two = record {
    passes = λ least.
        joins (covers_both 0 (place ∷ tests) (first ++ second)) (tested_does least place tests w law) λ _ there _ _.
        joins (covers_both 0 first second) (one.passes there) λ _ next _ _.
        last (alternative_does next second other two) λ _ _ _ _.
        mark_does Ends refl refl refl refl (λ n h. refl);
  }

  -- ---- loops

  while_does : (place : Place) (tests inside : List Place) (w : Written) (body : Passing (Unit {0})) → LawfulWritten here tests w
      → LawfulStatement inside body → LawfulStatement (place ∷ (tests ++ inside)) (while_loop place w body)
  unfolding while_loop
  while_does place tests inside w body law one = record {
    passes = λ least.
        sited (λ sites. covers_skip 0 place (tests ++ inside) sites)
        (quietly (pass_does place) λ _ _ _ _.
        quietly (enter_loop_does (λ n l. While n l place) (λ n l. refl) (λ n l. refl) (λ n l. refl) (λ n l. refl) (λ n l m h. refl)) λ _ now _ _.
        joins (covers_both 0 tests inside) (condition_does now tests w law) λ _ _ _ _.
        quietly (mark_does Do refl refl refl refl (λ n h. refl)) λ _ there _ _.
        last (one.passes there) λ _ _ _ _.
        mark_does Ends refl refl refl refl (λ n h. refl));
  }

  repeat_does : (place : Place) (inside tests : List Place) (statements : List (Passing (Unit {0}))) (w : Written)
      → ((least : Reached) → PassingDoes here least (Covers 0 inside) (each (λ s. s) statements) Anything) → LawfulWritten here tests w
      → LawfulStatement (place ∷ (inside ++ tests)) (repeat_loop place statements w)
  unfolding repeat_loop
  repeat_does place inside tests statements w row law = record {
    passes = λ least.
        sited (λ sites. covers_skip 0 place (inside ++ tests) sites)
        (quietly (pass_does place) λ _ _ _ _.
        quietly (enter_loop_does (λ n l. Repeat n l place) (λ n l. refl) (λ n l. refl) (λ n l. refl) (λ n l. refl) (λ n l m h. refl)) λ _ now _ _.
        joins (covers_both 0 inside tests) (row now) λ _ _ _ _.
        quietly (mark_does Until refl refl refl refl (λ n h. refl)) λ _ there _ _.
        last (condition_does there tests w law) λ _ _ _ _.
        mark_does Ends refl refl refl refl (λ n h. refl));
  }

  -- the test of a bound stands before its first token's own sites
  bound_does : (least : Reached) (control : ℕ) (type_id : TypeId) (places : List Place) (w : Written)
      → LeadsTo here (AtVariable control) [] type_id least → holds least.types scalar.Ordinal type_id ≡ true → LawfulWritten here places w
      → PassingDoes here least (Covers 0 places) (bound control type_id w) Anything
  unfolding bound
  bound_does least control type_id places w led held law =
      joins (covers_test here kind.Subrange (omega arith) (omega arith) places w law) (site_does kind.Subrange w.first) λ id there one known.
      last (ranges_do type_id w.first (law.types there None tt)) λ range n more is.
      let test : RangeTest = record { site = id; tests = scalar.Ordinal; range = range } in
      let seen = further_still one more in
      let led_there = leads_later here (AtVariable control) [] type_id least n seen led in
      let held_there = ap (is_held_by scalar.Ordinal) (kind_longer seen.types type_id led.stands) ∙ held in
      mark_does (Fits (AtVariable control) [] test) refl refl refl refl
      (λ o h. fits_formed here (AtVariable control) [] type_id test n o led_there h (omega (arith, known, more.sites)) held_there is.0 is.1)

  -- a variable of the variable declaration part of the block
  local_formed : (root : ℕ) (now : Reached) (o : Outline) → IsFurther now (whole_of o) → is_local here.block (slice_get now.variables root) ≡ true
      → is_declared o here.block is_local_kind root ≡ true
  local_formed root now o more is = by (slice_get now.variables root) refl is
    where
      by : (found : Option Variable) → slice_get now.variables root ≡ found → is_local here.block found ≡ true
          → is_declared o here.block is_local_kind root ≡ true
      by None there h = absurd cc
      by (Some v) there h =
          ap (of_one (λ (one : Variable). nat_eq one.block here.block && is_local_kind one.kind)) (get_longer more.variables root v there) ∙ h

  for_head_does : (least : Reached) (place : Place) (name : Name) (firsts lasts : List Place) (first : Written) (d : SyntaxDirection) (end : Written)
      → LawfulWritten here firsts first → LawfulWritten here lasts end
      → PassingDoes here least (Covers 0 (place ∷ name.place ∷ (firsts ++ lasts))) (for_head place name first d end) Anything
  unfolding for_head
  for_head_does least place name firsts lasts first d end one two =
      sited (λ sites has. covers_skip 0 place (name.place ∷ (firsts ++ lasts)) sites (covers_skip 0 name.place (firsts ++ lasts) sites has))
      (quietly (pass_does place) λ _ _ _ _.
      quietly (find_does name) λ denotation now _ sound.
      quietly (given_does (as_control name.place denotation)) λ control there more is.
      let found = control_is now name.place denotation control is sound.0 in
      let led = leads_nowhere here control.0 control.1 now found sound.1 in
      quietly (by_types_does (λ types. fits (is_ordinal types control.1) name.place (tt {0}))) λ _ tests still fit.
      let ordinal = (fit_is (is_ordinal tests.types control.1) name.place (tt {0}) (tt {0}) fit.1).0 in
      let seen = leads_later here (AtVariable control.0) [] control.1 now tests (further_still more still) led in
      let found_there = variable_later here now tests control.0 control.1 (further_still more still) found in
      let held = ordinal_held tests.types control.1 ordinal in
      quietly (may_change_does name.place control.0 control.1 found_there) λ _ changed further may.
      controlled_does name.place control.0 (λ n l. For n l place control.0 (way d)) _ (λ n l. refl) (λ n l. refl) (λ n l. refl) (λ n l. refl)
      (λ n l. refl) may
      (λ known later local n l o h.
      both_true _ _ (local_formed control.0 known o h local)
      (ordinal_formed here (AtVariable control.0) [] control.1 tests o seen ordinal (further_still further (further_still later h))))
      (λ now later.
      let ahead = further_still further later in
      let led_now = leads_later here (AtVariable control.0) [] control.1 tests now ahead seen in
      let held_now = ap (is_held_by scalar.Ordinal) (kind_longer ahead.types control.1 seen.stands) ∙ held in
      joins (covers_both 0 firsts lasts) (bound_does now control.0 control.1 firsts first led_now held_now one) λ _ next more _.
      let held_next = ap (is_held_by scalar.Ordinal) (kind_longer more.types control.1 led_now.stands) ∙ held_now in
      last (bound_does next control.0 control.1 lasts end (leads_later here (AtVariable control.0) [] control.1 now next more led_now) held_next two)
      λ _ _ _ _.
      pure_does control.0 (λ n h. tt)))
    where
      control_is : (now : Reached) (place : Place) (denotation : Denotation) (control : ℕ × TypeId) → as_control place denotation ≡ Ok control
          → IsSoundThen here denotation now → IsVariable here now.variables now.types control.0 control.1
      control_is now place (denotes.Variable root type_id) control h sound =
          let same : (root, type_id) ≡ control = cc in
          subst (λ (v : ℕ × TypeId). IsVariable here now.variables now.types v.0 v.1) same sound
      control_is now place other control h sound = absurd cc

  for_does : (place : Place) (name : Name) (firsts lasts inside : List Place) (first : Written) (d : SyntaxDirection) (end : Written)
      (body : Passing (Unit {0}))
      → LawfulWritten here firsts first → LawfulWritten here lasts end → LawfulStatement inside body
      → LawfulStatement (place ∷ name.place ∷ (firsts ++ (lasts ++ inside))) (for_loop place name first d end body)
  for_does place name firsts lasts inside first d end body one two three = record {
    passes = λ least.
        sited (λ sites. subst (λ p. Covers 0 (place ∷ name.place ∷ p) sites) (append_assoc firsts lasts inside))
        (joins (covers_both 0 (place ∷ name.place ∷ (firsts ++ lasts)) inside)
        (for_head_does least place name firsts lasts first d end one two) λ control _ _ _.
        for_body_does control body (λ next. three.passes next));
  }

  -- ---- cases

  case_head_does : (least : Reached) (place : Place) (places : List Place) (w : Written) → LawfulWritten here places w
      → PassingDoes here least (Covers 0 (place ∷ places)) (case_head place w) Anything
  unfolding case_head
  case_head_does least place places w law =
      led_covers here 0 place places (kind.Case ∷ []) (omega arith, tt)
      (joins (leads_first 0 place (kind.Case ∷ []) places) (site_does kind.Case place) λ id there _ known.
      quietly (enter_does (λ n. Case n id) (λ n. refl) (λ n. refl) (λ n. refl) (λ n. refl)
      (λ n m h. lt_true id m.sites (omega (arith, known, h.sites)))) λ _ now _ _.
      checks {L = Anything} (typed_does now places w None law tt) λ types t b n more is _. tt)

  case_does : (place : Place) (tests inside : List Place) (w : Written) (arms : List (List Constant × Passing (Unit {0})))
      → LawfulWritten here tests w
      → ((least : Reached) (type_id : TypeId) → PassingDoes here least (Covers 0 inside) (case_arms type_id [] arms) Anything)
      → LawfulStatement (place ∷ (tests ++ inside)) (case_statement place w arms)
  unfolding case_body
  case_does place tests inside w arms law row = record {
    passes = λ least.
        joins (covers_both 0 (place ∷ tests) inside) (case_head_does least place tests w law) λ type_id there _ _.
        last (row there type_id) λ _ _ _ _.
        mark_does Ends refl refl refl refl (λ n h. refl);
  }

-- ---- every statement, whatever records are open

abbrev LawfulStmt : Stmt → Type 0
LawfulStmt w = (here : Here) → LawfulStatement here (stmt_places w) (statement w)

abbrev WithStmt : Type 0
WithStmt = (w : Stmt) × LawfulStmt w

abbrev bare : layer.Stmt-F WithStmt → layer.Stmt-F Stmt
bare y = map-Stmt WithStmt Stmt (λ w. w.0) y

from_layer : (d : layer.Stmt-F Stmt)
    → ((here : Here)
    → LawfulStatement here (statement_row (map-Stmt Stmt Places stmt_places d)) (statement_step (map-Stmt Stmt (Passing (Unit {0})) statement d)))
    → LawfulStmt (roll-Stmt d)
from_layer d law here =
    subst (λ p. LawfulStatement here p (statement (roll-Stmt d))) (sym (fold-roll-Stmt Places statement_row d))
    (subst (LawfulStatement here _) (sym (fold-roll-Stmt (Passing (Unit {0})) statement_step d)) (law here))

abbrev bare_row : List WithStmt → List Stmt
bare_row ys = map (λ (y : WithStmt). y.0) ys

row_lawful : (here : Here) (ys : List WithStmt) (least : Reached)
    → PassingDoes here least (Covers 0 (joined_places (map stmt_places (bare_row ys)))) (each (λ s. s) (map statement (bare_row ys))) Anything
row_lawful here [] least = pure_does tt (λ n h. tt)
row_lawful here (y ∷ ys) least =
    joins (covers_both 0 (stmt_places y.0) (joined_places (map stmt_places (bare_row ys)))) ((y.1 here).passes least) λ _ now _ _.
    row_lawful here ys now

abbrev arms_row : List (Vec Constant Global) → List WithStmt → List Place
arms_row rows ys = flat_map arm_places (arms_of rows (map stmt_places (bare_row ys)))

arms_lawful : (here : Here) (rows : List (Vec Constant Global)) (ys : List WithStmt) (type_id : TypeId) (before : List ℤ) (least : Reached)
    → PassingDoes here least (Covers 0 (arms_row rows ys)) (case_arms type_id before (arms_of rows (map statement (bare_row ys)))) Anything
arms_lawful here [] ys type_id before least = pure_does tt (λ n h. tt)
arms_lawful here (row ∷ rows) [] type_id before least = pure_does tt (λ n h. tt)
arms_lawful here (row ∷ rows) (y ∷ ys) type_id before least =
    sited behind_constants
    (quietly (row_does here type_id before [] row.items refl) λ values _ _ whole.
    quietly (mark_does (Arm values) refl refl refl refl (λ n h. whole)) λ _ now _ _.
    joins (covers_both 0 (stmt_places y.0) (arms_row rows ys)) ((y.1 here).passes now) λ _ there _ _.
    arms_lawful here rows ys type_id (before ++ values) there)
  where
    behind_constants : (sites : List Stood) → Covers 0 (stmt_places y.0 ++ arms_row rows ys) sites → Covers 0 (arms_row (row ∷ rows) (y ∷ ys)) sites
    behind_constants sites has =
        subst (λ p. Covers 0 p sites) (sym (append_assoc (flat_map constant_places row.items) (stmt_places y.0) (arms_row rows ys)))
        (covers_behind 0 (flat_map constant_places row.items) (stmt_places y.0 ++ arms_row rows ys) sites has)

statement_layer : (y : layer.Stmt-F WithStmt) → LawfulStmt (roll-Stmt (bare y))
statement_layer layer.Empty =
    from_layer layer.Empty
    (λ here. record { passes = λ least. enter_does Empty (λ n. refl) (λ n. refl) (λ n. refl) (λ n. refl) (λ n m h. refl) })
statement_layer (layer.Assign name selectors indexes becomes value) =
    from_layer (layer.Assign name selectors indexes becomes value)
    (λ here. assignment_does here name selectors.items (map expr_places indexes.items) (map expression indexes.items) becomes (expr_places value)
    (expression value) (indexes_lawful here indexes.items) (expression_lawful here value))
statement_layer (layer.Call name actuals) = from_layer (layer.Call name actuals) (λ here. call_does here name actuals.items)
statement_layer (layer.Compound statements) =
    from_layer (bare (layer.Compound statements)) (λ here. compound_does here _ _ (row_lawful here statements.items))
statement_layer (layer.If place condition consequence None) =
    from_layer (bare (layer.If place condition consequence None))
    (λ here. choice_does here place (expr_places condition) _ [] (expression condition) _ None (expression_lawful here condition)
    (consequence.value.1 here) tt)
statement_layer (layer.If place condition consequence (Some other)) =
    from_layer (bare (layer.If place condition consequence (Some other)))
    (λ here. choice_does here place (expr_places condition) _ _ (expression condition) _ _ (expression_lawful here condition)
    (consequence.value.1 here) (other.value.1 here))
statement_layer (layer.While place condition body) =
    from_layer (bare (layer.While place condition body))
    (λ here. while_does here place (expr_places condition) _ (expression condition) _ (expression_lawful here condition) (body.value.1 here))
statement_layer (layer.Repeat place statements condition) =
    from_layer (bare (layer.Repeat place statements condition))
    (λ here. repeat_does here place _ (expr_places condition) _ (expression condition) (row_lawful here statements.items)
    (expression_lawful here condition))
statement_layer (layer.For place name first d end body) =
    from_layer (bare (layer.For place name first d end body))
    (λ here. for_does here place name (expr_places first) (expr_places end) _ (expression first) d (expression end) _ (expression_lawful here first)
    (expression_lawful here end) (body.value.1 here))
statement_layer (layer.Case place index constants arms semicolon) =
    from_layer (bare (layer.Case place index constants arms semicolon))
    (λ here. case_does here place (expr_places index) _ (expression index) _ (expression_lawful here index)
    (λ least type_id. arms_lawful here constants.items arms.items type_id [] least))
statement_layer (layer.With place records body) =
    from_layer (bare (layer.With place records body)) (λ here. record {
      passes = λ least. with_does here records.items (statement body.value.0) (stmt_places body.value.0) (λ inside. (body.value.1 inside).passes) least place;
    })

every_statement : (w : Stmt) → LawfulStmt w
every_statement = ind-Stmt LawfulStmt (λ x y is. subst (λ z. LawfulStmt (roll-Stmt z)) is (statement_layer y))

-- every statement
pub statement_lawful : (here : Here) (w : Stmt) → LawfulStatement here (stmt_places w) (statement w)
statement_lawful here w = every_statement w here

pub statements_lawful : (here : Here) (ws : List Stmt) (least : Reached)
    → PassingDoes here least (Covers 0 (flat_map stmt_places ws)) (each (λ s. s) (map statement ws)) Anything
statements_lawful here [] least = pure_does tt (λ n h. tt)
statements_lawful here (w ∷ ws) least =
    joins (covers_both 0 (stmt_places w) (flat_map stmt_places ws)) ((statement_lawful here w).passes least) λ _ now _ _.
    statements_lawful here ws now
