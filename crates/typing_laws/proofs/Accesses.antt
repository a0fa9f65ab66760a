-- What accesses of variables do: selectors lead from a variable to a component, and each index has its site before those
-- of its first token.
use Rattle.std.proofs.Common.{◌≡◌, ℕ, ℤ, ◌<◌, ◌≤◌, Bool, true, false, ◌&&◌, ◌||◌, nat_eq, nat_le, cond, List, [], ◌∷◌, ◌++◌, length, map, Option, option_map}
use Rattle.std.proofs.Common.{Some, None, Ok, is_some, slice_get, refl, sym, ap, subst, ◌∙◌, arith}
use Rattle.std.specs.Cmp.Lexicographic.{pointwise}
use Rattle.std.specs.List.{list_all}
use Rattle.std.specs.Ordering.{int_eq}
use Rattle.std.specs.Option.{option_and_then}
use Rattle.std.proofs.lemmas.Bool.{eq-eqb}
use Rattle.std.proofs.lemmas.Bool.Decides.{nat_tests}
use Rattle.std.proofs.lemmas.Int.{ints}
use Rattle.std.proofs.lemmas.List.Folds.{list_all-append}
use Rattle.place.specs.declared.Place.{Place}
use Rattle.syntax_tree.specs.declared.Name.{Name}
use Rattle.syntax_tree.specs.declared.Selector.{Selector}
use Rattle.syntax_tree.specs.declared.Selector.TheVariants as select
use Rattle.syntax_tree.specs.Places.{selector_places, joined_places}
use Rattle.types.specs.Forms.{Form, Record}
use Rattle.types.specs.declared.form.ArrayElement.{ArrayElement}
use Rattle.types.specs.declared.form.OrdinalRange.{OrdinalRange}
use Rattle.types.specs.declared.form.RecordField.{RecordField}
use Rattle.types.specs.declared.form.TypeId.{TypeId}
use Rattle.types.specs.declared.form.TypeKind.{TypeKind}
use Rattle.types.specs.declared.form.TypeKind.TheVariants as kind_of_type
use Rattle.types.specs.declared.sets.SetBase.{SetBase}
use Rattle.types.specs.Types.{cells_of, element_of, field_at, field_of, form_at, is_compatible, is_ordinal, is_same, is_scalar, is_structured}
use Rattle.types.specs.Types.{is_structured_kind, kind_of, most_cells, range_of, scalar_range, scalar_range_of}
use Rattle.scopes.specs.declared.denotation.Denotation.{Denotation}
use Rattle.scopes.specs.declared.denotation.Denotation.TheVariants as denotes
use Rattle.types.proofs.Elements.{is_array}
use Rattle.types.proofs.Fields.{is_field, named_at}
use Rattle.typed_tree.specs.declared.fault.TypeFault.TheVariants as fault
use Rattle.typed_tree.specs.declared.site.SiteKind.{SiteKind}
use Rattle.typed_tree.specs.declared.site.SiteKind.TheVariants as kind
use Rattle.typed_tree.specs.declared.tree.PathStep.{PathStep}
use Rattle.typed_tree.specs.declared.tree.PathStep.TheVariants as path
use Rattle.typed_tree.specs.declared.tree.RangeTest.{RangeTest}
use Rattle.typed_tree.specs.declared.tree.Scalar.{Scalar}
use Rattle.typed_tree.specs.declared.tree.Scalar.TheVariants as scalar
use Rattle.typed_tree.specs.declared.tree.Selector.{Selector as TreeSelector}
use Rattle.typed_tree.specs.declared.tree.Selector.TheVariants as tree
use Rattle.typed_tree.specs.declared.tree.Variable.{Variable}
use Rattle.typed_tree.specs.Accesses.{Origin, AtVariable, AtRecord, are_values_of, index_count, element_type, field_type, is_type, root_of, step_of, steps_of}
use Rattle.typed_tree.specs.Accesses.{selected as selects, led as led_by, accessed as leads, lying, stepped}
use Rattle.typed_tree.specs.Look.{Access, Value, WholeValue}
use Rattle.typed_tree.specs.Records.{is_open_as, is_same_step, is_there}
use Rattle.typed_tree.specs.WellFormed.{Outline, encloses, is_one_of, is_round, is_visible, is_well_formed_selector, leads_to, leads_to_held, leads_to_whole}
use Rattle.typed_tree.specs.WellFormed.{leads_to_ordinal, leads_to_record, leads_to_scalar, fits_target, holds, is_held_by, is_record, is_test_of, of_one}
use Rattle.typed_tree.specs.WellFormed.{has_values, is_record_form, leads_to_read, tests_type}
use Rattle.typing.specs.Names.{folded}
use Rattle.typing.specs.Passing.{OpenRecord, after}
use Rattle.typing_rules.specs.Checked.{Checked}
use Rattle.typing.specs.Steps.{record_at}
use Rattle.typing_rules.specs.Checked.{or_mismatch}
use Rattle.typing.specs.Expressions.{Denoted, Written, or_not_declared, field_in, field_named, field_or_none, field_variable}
use Rattle.typing_rules.specs.Typed.{typed, typed_set, typed_variable}
use Rattle.typing.specs.Expressions.{entire, index, kind_now, selected, set_value, ordinal_value, value_of_kind, variable_of, whole_value}
use Rattle.typing_rules.specs.Typed.{is_ordinal_of}
use Rattle.typing.specs.Expressions.{accessed}
use Rattle.typing.specs.Statements.{opened_record}
use Rattle.typing.proofs.Ways.{Stay}
use Rattle.typing_laws.proofs.Covers.{Covers, covers_none, covers_skip, covers_both, leads_first, leads_more}
use Rattle.typing_laws.proofs.Grown.{both_true}
use Rattle.typing_laws.proofs.Reached.{Signature, signature_of, Reached, whole_of, IsFurther, further_still, Here, is_round_here, StandsIn, get_longer}
use Rattle.typing_laws.proofs.Reached.{as_far, get_mapped, mapped_get}
use Rattle.typing_laws.proofs.Opened.{bare_record, open_in, stands_there}
use Rattle.typing_laws.proofs.Sound.{IsField, IsRecord, IsVariable, variable_later}
use Rattle.typing_laws.proofs.Strings.{fit_is, there}
use Rattle.typing_laws.proofs.Steps.{PassingDoes, Nothing, joins, quietly, last, checks, sited, mark_does, pass_does, pure_does, by_types_does, fail_does}
use Rattle.typing_laws.proofs.Steps.{enter_does}
use Rattle.typing_laws.proofs.Steps.{host_type_does, site_does, led, IsFound, IsKnown, answered, behind_does, silent_leaves}
use Rattle.typing_laws.proofs.Tables.{AreLawful, stands_longer, is_ordinal_longer, is_structured_longer, cells_of_longer, element_of_longer, field_of_longer}
use Rattle.typing_laws.proofs.Tables.{form_at_longer, has_kind, held_scalar, kind_longer, lying_longer, ordinal_held}
use Rattle.typing_laws.proofs.WholeRanges.{IsWholeRange, ordinal_values}
use Rattle.typing_laws.proofs.Leading.{IsLed, Types, known_later, ordinal_types, set_types, lt_true, LawfulWritten, covers_test, led_covers, led_behind}

-- ---- selectors

led_append : (types : List Form) (before : List TreeSelector) (s : TreeSelector) (id : TypeId)
    → led_by types (before ++ s ∷ []) id ≡ option_and_then (selects types s) (led_by types before id)
led_append types [] s id = by (selects types s id)
  where
    by : (found : Option TypeId) → option_and_then (led_by types []) found ≡ found
    by None = refl
    by (Some next) = refl
led_append types (first ∷ before) s id = by (selects types first id) (led_append types before s)
  where
    by : (found : Option TypeId) → ((next : TypeId) → led_by types (before ++ s ∷ []) next ≡ option_and_then (selects types s) (led_by types before next))
        → option_and_then (led_by types (before ++ s ∷ [])) found ≡ option_and_then (selects types s) (option_and_then (led_by types before) found)
    by None more = refl
    by (Some next) more = more next

field_is : (place : Place) (found : Option RecordField) (f : RecordField) → or_not_declared place found ≡ Ok f → found ≡ Some f
field_is place (Some field) f is = cc
field_is place None f is = absurd cc

named_is : (types : List Form) (id : TypeId) (name : Name) (f : RecordField) → field_named types id name ≡ Ok f
    → field_of types id (folded name.text.now) ≡ Some f
named_is types id name f is = by (form_at types id) is
  where
    by : (form : Option Form) → field_in types id name form ≡ Ok f → field_of types id (folded name.text.now) ≡ Some f
    by (Some (Record packed fields)) h = field_is name.place (field_of types id (folded name.text.now)) f h
    by other h = absurd cc

pub same_range : (range : OrdinalRange) → are_values_of range range ≡ true
same_range range = both_true _ _ (same_value range.first) (same_value range.last)
  where
    same_value : (z : ℤ) → int_eq z z ≡ true
    same_value z = grind (arith, ints)

-- a field is of its own type, and so are elements
pub field_selects : (found : Option RecordField) (f : RecordField) → found ≡ Some f → field_type f.offset found ≡ Some f.type_id
field_selects found f is =
    ap (field_type f.offset) is ∙ ap (λ b. cond b (Some f.type_id) None) (eq-eqb f.offset f.offset refl)

element_selects : (found : Option ArrayElement) (e : ArrayElement) → found ≡ Some e → element_type e.range e.cells found ≡ Some e.type_id
element_selects found e is =
    ap (element_type e.range e.cells) is
    ∙ ap (λ b. cond b (Some e.type_id) None)
    (both_true _ _ (same_range e.range) (eq-eqb e.cells e.cells refl))

-- the test of a scalar is that of its type
test_is : (tested : Scalar) (found : Option TypeKind) (range : OrdinalRange) → is_held_by tested found ≡ true
    → option_and_then scalar_range found ≡ Some range → is_test_of tested range found ≡ true
test_is scalar.Ordinal (Some (kind_of_type.Ordinal values)) range held is =
    let same : values ≡ range = cc in ap (are_values_of range) same ∙ same_range range
test_is scalar.Set (Some (kind_of_type.Set base members)) range held is =
    let same : members ≡ range = cc in ap (are_values_of range) same ∙ same_range range
test_is scalar.Ordinal (Some (kind_of_type.Set base members)) range held is = absurd cc
test_is scalar.Ordinal (Some kind_of_type.Structured) range held is = absurd cc
test_is scalar.Ordinal None range held is = absurd cc
test_is scalar.Set (Some (kind_of_type.Ordinal values)) range held is = absurd cc
test_is scalar.Set (Some kind_of_type.Structured) range held is = absurd cc
test_is scalar.Set None range held is = absurd cc

-- ---- ways

-- the steps of selectors lead where these do
step_leads : (types : List Form) (s : TreeSelector) (id part : TypeId) → selects types s id ≡ Some part → stepped types (step_of s) id ≡ Some part
step_leads types (tree.Element fits cells) id part is = by (element_of types id) is
  where
    by : (found : Option ArrayElement) → element_type fits.range cells found ≡ Some part
        → option_map (λ (element : ArrayElement). element.type_id) found ≡ Some part
    by None h = absurd cc
    by (Some e) h = one (are_values_of fits.range e.range && nat_eq cells e.cells) h
      where
        one : (test : Bool) → cond test (Some e.type_id) None ≡ Some part → Some e.type_id ≡ Some part
        one true g = g
        one false g = absurd cc
step_leads types (tree.Field position offset) id part is = by (field_at types id position) is
  where
    by : (found : Option RecordField) → field_type offset found ≡ Some part → option_map (λ (field : RecordField). field.type_id) found ≡ Some part
    by None h = absurd cc
    by (Some f) h = one (nat_eq offset f.offset) h
      where
        one : (test : Bool) → cond test (Some f.type_id) None ≡ Some part → Some f.type_id ≡ Some part
        one true g = g
        one false g = absurd cc

led_lies : (types : List Form) (selectors : List TreeSelector) (id part : TypeId) → led_by types selectors id ≡ Some part
    → lying types (map step_of selectors) id ≡ Some part
led_lies types [] id part is = is
led_lies types (s ∷ selectors) id part is = by (selects types s id) refl is (λ next. led_lies types selectors next part)
  where
    by : (found : Option TypeId) → selects types s id ≡ found → option_and_then (led_by types selectors) found ≡ Some part
        → ((next : TypeId) → led_by types selectors next ≡ Some part → lying types (map step_of selectors) next ≡ Some part)
        → option_and_then (lying types (map step_of selectors)) (stepped types (step_of s) id) ≡ Some part
    by None h g more = absurd cc
    by (Some next) h g more = ap (option_and_then (lying types (map step_of selectors))) (step_leads types s id next h) ∙ more next g

lying_append : (types : List Form) (steps more : List PathStep) (id : TypeId)
    → lying types (steps ++ more) id ≡ option_and_then (lying types more) (lying types steps id)
lying_append types [] more id = refl
lying_append types (step ∷ steps) more id = by (stepped types step id) (lying_append types steps more)
  where
    by : (found : Option TypeId)
        → ((next : TypeId) → lying types (steps ++ more) next ≡ option_and_then (lying types more) (lying types steps next))
        → option_and_then (lying types (steps ++ more)) found ≡ option_and_then (lying types more) (option_and_then (lying types steps) found)
    by None each = refl
    by (Some next) each = each next

-- what is accessed lies on the way to it
accessed_lies : (variables : List Variable) (types : List Form) (origin : Origin) (selectors : List TreeSelector) (v : Variable) (id : TypeId)
    → slice_get variables (root_of origin) ≡ Some v → leads variables types origin selectors ≡ Some id
    → lying types (steps_of origin ++ map step_of selectors) v.type_id ≡ Some id
accessed_lies variables types (AtVariable root) selectors v id there is =
    led_lies types selectors v.type_id id (ap (option_and_then (λ (w : Variable). led_by types selectors w.type_id)) (sym there) ∙ is)
accessed_lies variables types (AtRecord root slot steps) selectors v id there is =
    lying_append types steps (map step_of selectors) v.type_id
    ∙ by (lying types steps v.type_id)
    (ap (option_and_then (λ (w : Variable). option_and_then (led_by types selectors) (lying types steps w.type_id))) (sym there) ∙ is)
  where
    by : (found : Option TypeId) → option_and_then (led_by types selectors) found ≡ Some id
        → option_and_then (lying types (map step_of selectors)) found ≡ Some id
    by None h = absurd cc
    by (Some next) h = led_lies types selectors next id h

-- steps are the same as they themselves
pub same_steps : (steps : List PathStep) → pointwise is_same_step steps steps ≡ true
same_steps [] = refl
same_steps (step ∷ steps) = both_true _ _ (one step) (same_steps steps)
  where
    one : (s : PathStep) → is_same_step s s ≡ true
    one path.Element = refl
    one (path.Field position) = eq-eqb position position refl

module _ (here : Here) where
  -- selectors lead from a variable, or from a record that is open, to a component of a type, which stands in the table
  pub record LeadsTo (origin : Origin) (selectors : List TreeSelector) (id : TypeId) (now : Reached) : Type 0 where
    pub formed : (o : Outline) → IsFurther now (whole_of o) → list_all (is_well_formed_selector o here.block) selectors ≡ true
    pub leads_there : (n : Reached) → IsFurther now n → leads n.variables n.types origin selectors ≡ Some id
    pub visible : (o : Outline) → IsFurther now (whole_of o) → is_visible o here.block (root_of origin) ≡ true
    pub opens : is_there (open_in here) origin ≡ true
    pub stands : id.index < length now.types

  pub leads_later : (origin : Origin) (selectors : List TreeSelector) (id : TypeId) (now next : Reached) → IsFurther now next
      → LeadsTo origin selectors id now → LeadsTo origin selectors id next
  leads_later origin selectors id now next more l = record {
    formed = λ o h. l.formed o (further_still more h);
    leads_there = λ n h. l.leads_there n (further_still more h);
    visible = λ o h. l.visible o (further_still more h);
    opens = l.opens;
    stands = stands_longer more.types id l.stands;
  }

  -- a block that stands round this one does so in the program
  pub round_formed : (now : Reached) (o : Outline) → StandsIn here now → IsFurther now (whole_of o) → (block : ℕ) → is_round_here here block ≡ true
      → is_round o here.block block ≡ true
  round_formed now o stands more block is =
      let at = get_mapped signature_of o.headings here.block stands.0 (get_longer more.headings here.block stands.0 stands.1) in
      let around : at.0.around.items ≡ here.around = ap (λ (s : Signature). s.around) at.2 ∙ stands.2 in
      ap (of_one (encloses block here.block)) at.1 ∙ ap (λ blocks. nat_eq block here.block || is_one_of blocks block) around ∙ is

  visible_formed : (now : Reached) (o : Outline) → StandsIn here now → IsFurther now (whole_of o) → (root : ℕ) (v : Variable)
      → slice_get now.variables root ≡ Some v → is_round_here here v.block ≡ true → is_visible o here.block root ≡ true
  visible_formed now o stands h root v there round =
      ap (of_one (λ (w : Variable). is_round o here.block w.block)) (get_longer h.variables root v there) ∙ round_formed now o stands h v.block round

  -- to the variable itself
  pub leads_nowhere : (root : ℕ) (id : TypeId) (now : Reached) → IsVariable here now.variables now.types root id → StandsIn here now
      → LeadsTo (AtVariable root) [] id now
  leads_nowhere root id now v stands = record {
    formed = λ o h. refl;
    leads_there = λ n h.
        ap (option_and_then (λ (v : Variable). led_by n.types [] v.type_id)) (get_longer h.variables root v.variable v.is_there) ∙ ap Some v.of_type;
    visible = λ o h. visible_formed now o stands h root v.variable v.is_there v.is_visible;
    opens = refl;
    stands = v.stands;
  }

  -- to a field of a record that is open
  leads_to_field : (slot position offset : ℕ) (id : TypeId) (now : Reached) (f : IsField here now.variables now.types slot position offset id)
      → StandsIn here now → LeadsTo (AtRecord f.opened.root slot f.opened.steps) (tree.Field position offset ∷ []) id now
  leads_to_field slot position offset id now f stands =
      let r = f.is_record in
      let opened = f.opened in
      record {
        formed = λ o h. refl;
        leads_there = λ n h.
            ap (option_and_then (λ (v : Variable). option_and_then (led_by n.types (tree.Field position offset ∷ [])) (lying n.types opened.steps v.type_id)))
            (get_longer h.variables opened.root r.variable r.is_there)
            ∙ ap (option_and_then (led_by n.types (tree.Field position offset ∷ [])))
            (lying_longer h.types opened.steps r.variable.type_id r.stands ∙ r.lies)
            ∙ ap (option_and_then (led_by n.types []))
            (ap (field_type offset) (field_of_longer h.types opened.type_id r.ends position) ∙ f.leads);
        visible = λ o h. visible_formed now o stands h opened.root r.variable r.is_there r.is_visible;
        opens =
            ap (of_one (is_open_as opened.root opened.steps)) (mapped_get bare_record here.records slot opened f.is_open)
            ∙ both_true _ _ (eq-eqb opened.root opened.root refl) (same_steps opened.steps);
        stands = f.stands;
      }

  -- to a component of what they lead to
  leads_on : (origin : Origin) (before : List TreeSelector) (s : TreeSelector) (id part : TypeId) (now : Reached) → LeadsTo origin before id now
      → ((o : Outline) → IsFurther now (whole_of o) → is_well_formed_selector o here.block s ≡ true)
      → ((n : Reached) → IsFurther now n → selects n.types s id ≡ Some part) → part.index < id.index → LeadsTo origin (before ++ s ∷ []) part now
  leads_on origin before s id part now l well_formed is smaller = record {
    formed = λ o h.
        list_all-append (is_well_formed_selector o here.block) before (s ∷ [])
        ∙ both_true _ _ (l.formed o h) (both_true _ true (well_formed o h) refl);
    visible = l.visible;
    opens = l.opens;
    leads_there = λ n h. on n.variables n.types origin ∙ ap (option_and_then (selects n.types s)) (l.leads_there n h) ∙ is n h;
    stands = omega (arith, smaller, l.stands);
  }
    where
      at : (types : List Form) (found : Option TypeId)
          → option_and_then (led_by types (before ++ s ∷ [])) found ≡ option_and_then (selects types s) (option_and_then (led_by types before) found)
      at types None = refl
      at types (Some next) = led_append types before s next

      from_variable : (types : List Form) (found : Option Variable)
          → option_and_then (λ (v : Variable). led_by types (before ++ s ∷ []) v.type_id) found
          ≡ option_and_then (selects types s) (option_and_then (λ (v : Variable). led_by types before v.type_id) found)
      from_variable types None = refl
      from_variable types (Some v) = led_append types before s v.type_id

      from_record : (types : List Form) (steps : List PathStep) (found : Option Variable)
          → option_and_then (λ (v : Variable). option_and_then (led_by types (before ++ s ∷ [])) (lying types steps v.type_id)) found
          ≡ option_and_then (selects types s)
          (option_and_then (λ (v : Variable). option_and_then (led_by types before) (lying types steps v.type_id)) found)
      from_record types steps None = refl
      from_record types steps (Some v) = at types (lying types steps v.type_id)

      on : (variables : List Variable) (types : List Form) (from : Origin)
          → leads variables types from (before ++ s ∷ []) ≡ option_and_then (selects types s) (leads variables types from before)
      on variables types (AtVariable root) = from_variable types (slice_get variables root)
      on variables types (AtRecord root slot steps) = from_record types steps (slice_get variables root)

  leads_field : (origin : Origin) (before : List TreeSelector) (id : TypeId) (name : Name) (f : RecordField) (now : Reached) → LeadsTo origin before id now
      → field_named now.types id name ≡ Ok f → LeadsTo origin (before ++ tree.Field f.position f.offset ∷ []) f.type_id now
  leads_field origin before id name f now l is =
      let field = named_at now.types id (folded name.text.now) f (named_is now.types id name f is) in
      leads_on origin before (tree.Field f.position f.offset) id f.type_id now l (λ n h. refl)
      (λ n h. field_selects (field_at n.types id f.position) f (field_of_longer h.types id l.stands f.position ∙ field))
      (is_field now.types id f.position f field).type_before

  leads_element : (origin : Origin) (before : List TreeSelector) (id : TypeId) (place : Place) (e : ArrayElement) (site : ℕ) (now next : Reached)
      → LeadsTo origin before id now → AreLawful now.types → or_mismatch place (element_of now.types id) ≡ Ok e → IsFurther now next → site < next.sites
      → LeadsTo origin (before ++ tree.Element (record { site = site; tests = scalar.Ordinal; range = e.range }) e.cells ∷ []) e.type_id next
  leads_element origin before id place e site now next l lawful is more known =
      let element = there place (element_of now.types id) e is in
      let array = is_array now.types id e element in
      let values = ordinal_values now.types e.index e.range array.range in
      leads_on origin before (tree.Element (record { site = site; tests = scalar.Ordinal; range = e.range }) e.cells) id e.type_id next
      (leads_later origin before id now next more l)
      (λ o h. both_true _ _ (lt_true site o.sites (omega (arith, known, h.sites))) (lawful.whole e.index e.range values))
      (λ n h. element_selects (element_of n.types id) e (element_of_longer (further_still more h).types id l.stands ∙ element))
      array.type_before

  -- ---- indexes

  index_does : {least : Reached} (e : ArrayElement) (places : List Place) (w : Written) → LawfulWritten here places w
      → PassingDoes here least (Covers 0 places) (index e w) (λ id now. id < now.sites)
  unfolding index
  index_does e places w law =
      joins (covers_test here kind.Index (omega arith) (omega arith) places w law) (site_does kind.Index w.first) λ id now _ known.
      checks (law.types now None tt) λ types t b n more is _.
      let fit = fit_is (is_ordinal_of (is_compatible types e.index) t) w.first id b is in
      subst (λ z. z < n.sites) fit.1 (omega (arith, known, more.sites))

  -- index expressions with their places
  abbrev pub AreLawfulRows : List (List Place) → List Written → Type 0
  AreLawfulRows [] [] = Unit {0}
  AreLawfulRows [] (w ∷ ws) = ⊥
  AreLawfulRows (row ∷ rows) [] = ⊥
  AreLawfulRows (row ∷ rows) (w ∷ ws) = LawfulWritten here row w × AreLawfulRows rows ws

  -- ---- accesses

  abbrev pub Selects : Origin → List TreeSelector × TypeId → Reached → Type 0
  Selects origin component now = LeadsTo origin component.0 component.1 now

  pub selected_does : {least : Reached} (origin : Origin) (before : List TreeSelector) (id : TypeId) (selectors : List Selector) (rows : List (List Place))
      (ws : List Written) → AreLawfulRows rows ws → LeadsTo origin before id least
      → PassingDoes here least (Covers 0 (selector_places selectors rows)) (selected before id selectors ws) (Selects origin)
  selected_does {least} origin before id [] rows ws laws l =
      sited (λ sites none. subst (Covers 0 (joined_places rows)) (sym none) (covers_none 0 (joined_places rows)))
      (pure_does (before, id) (λ n h. leads_later origin before id least n h l))
  selected_does {least} origin before id (select.Field name ∷ selectors) rows ws laws l =
      sited (λ sites. covers_skip 0 name.place (selector_places selectors rows) sites)
      (quietly (pass_does name.place) λ _ _ one _.
      quietly (by_types_does (λ types. field_named types id name)) λ f now two is.
      selected_does origin (before ++ tree.Field f.position f.offset ∷ []) f.type_id selectors rows ws laws
      (leads_field origin before id name f now (leads_later origin before id least now (further_still one two) l) is.1))
  selected_does origin before id (select.Index place joined ∷ selectors) [] [] laws l = fail_does (fault.Mismatch place)
  selected_does origin before id (select.Index place joined ∷ selectors) [] (w ∷ ws) laws l = absurd laws
  selected_does origin before id (select.Index place joined ∷ selectors) (row ∷ rows) [] laws l = absurd laws
  selected_does {least} origin before id (select.Index place joined ∷ selectors) (row ∷ rows) (w ∷ ws) laws l =
      sited (λ sites. covers_skip 0 place (row ++ selector_places selectors rows) sites)
      (quietly (pass_does place) λ _ _ one _.
      quietly (by_types_does (λ types. or_mismatch place (element_of types id))) λ e now two is.
      joins (covers_both 0 row (selector_places selectors rows)) (index_does e row w laws.0) λ site next more known.
      selected_does origin (before ++ tree.Element (record { site = site; tests = scalar.Ordinal; range = e.range }) e.cells ∷ []) e.type_id selectors rows ws
      laws.1
      (leads_element origin before id place e site now next (leads_later origin before id least now (further_still one two) l) is.0 is.1 more known))

  -- ---- what names denote

  -- selectors lead to what a name denotes, from a variable of the block or of one round it
  pub record IsDenoted (variable : Denoted) (now : Reached) : Type 0 where
    pub leads_to : LeadsTo variable.origin variable.selectors variable.type_id now
    pub type_id : TypeId
    pub of_root : IsVariable here now.variables now.types (root_of variable.origin) type_id

  pub denoted_later : (variable : Denoted) (now next : Reached) → IsFurther now next → IsDenoted variable now → IsDenoted variable next
  denoted_later variable now next more d = record {
    leads_to = leads_later variable.origin variable.selectors variable.type_id now next more d.leads_to;
    type_id = d.type_id;
    of_root = variable_later here now next (root_of variable.origin) d.type_id more d.of_root;
  }

  pub entire_denoted : (root : ℕ) (id : TypeId) (now : Reached) → IsVariable here now.variables now.types root id → StandsIn here now
      → IsDenoted (entire root id) now
  entire_denoted root id now v stands = record { leads_to = leads_nowhere root id now v stands; type_id = id; of_root = v }

  field_denoted : (slot position offset : ℕ) (id : TypeId) (now : Reached) (f : IsField here now.variables now.types slot position offset id)
      → StandsIn here now → IsDenoted (field_variable slot (tree.Field position offset) id f.opened) now
  field_denoted slot position offset id now f stands = record {
    leads_to = leads_to_field slot position offset id now f stands;
    type_id = f.is_record.variable.type_id;
    of_root = record {
      variable = f.is_record.variable;
      is_there = f.is_record.is_there;
      is_visible = f.is_record.is_visible;
      of_type = refl;
      stands = f.is_record.stands;
    };
  }

  record_at_does : {least : Reached} (slot : ℕ) → PassingDoes here least Nothing (record_at slot) (λ found now. slice_get here.records slot ≡ found)
  unfolding record_at
  record_at_does slot = record {
    does = λ s a is fine h.
        let same : after (slice_get s.records slot) [] s ≡ a = cc in
        silent_leaves (λ found now. slice_get here.records slot ≡ found) same Stay refl refl refl refl fine
        (ap (λ (all : List OpenRecord). slice_get all slot) (sym fine.records));
  }

  -- a variable, or a field of a record that is open
  pub variable_does : {least : Reached} (place : Place) (d : Denotation) → IsFound here d least → PassingDoes here least Nothing (variable_of place d) IsDenoted
  variable_does {least} place (denotes.Variable root type_id) sound =
      pure_does (entire root type_id) (λ n h. denoted_later (entire root type_id) least n h (entire_denoted root type_id least sound.0 sound.1))
  variable_does {least} place (denotes.Field slot position offset type_id) sound =
      let field = tree.Field position offset in
      checks (record_at_does slot) λ types found v now more is at.
      let there : Some sound.0.opened ≡ found = sym sound.0.is_open ∙ at in
      let same = one place slot field type_id sound.0.opened v
      (subst (λ (f : Option OpenRecord). field_or_none place slot field type_id f ≡ Ok v) (sym there) is) in
      subst (λ (w : Denoted). IsDenoted w now) same
      (denoted_later (field_variable slot field type_id sound.0.opened) least now more (field_denoted slot position offset type_id least sound.0 sound.1))
    where
      one : (place : Place) (slot : ℕ) (field : TreeSelector) (id : TypeId) (opened : OpenRecord) (v : Denoted)
          → field_or_none place slot field id (Some opened) ≡ Ok v → field_variable slot field id opened ≡ v
      one place slot field id opened v h = cc
  variable_does place (denotes.Constant value type_id) sound = fail_does (fault.NotVariable place)
  variable_does place (denotes.Text number type_id) sound = fail_does (fault.NotVariable place)
  variable_does place (denotes.TypeName type_id) sound = fail_does (fault.NotVariable place)
  variable_does place (denotes.Procedure procedure) sound = fail_does (fault.NotVariable place)
  variable_does place (denotes.Function function) sound = fail_does (fault.NotVariable place)
  variable_does place (denotes.Routine block is_function) sound = fail_does (fault.NotVariable place)
  variable_does place (denotes.InputFunction function) sound = fail_does (fault.NotVariable place)
  variable_does place (denotes.File file) sound = fail_does (fault.NotVariable place)

  -- the record that is opened by an access lies there
  pub opened_lies : (origin : Origin) (selectors : List TreeSelector) (id root_type : TypeId) (now : Reached) → LeadsTo origin selectors id now
      → IsVariable here now.variables now.types (root_of origin) root_type → IsRecord here now.variables now.types (opened_record origin selectors id)
  opened_lies origin selectors id root_type now l v = record {
    variable = v.variable;
    is_there = v.is_there;
    is_visible = v.is_visible;
    stands = subst (λ (z : TypeId). z.index < length now.types) (sym v.of_type) v.stands;
    lies = accessed_lies now.variables now.types origin selectors v.variable id v.is_there (l.leads_there now as_far);
    ends = l.stands;
  }

  -- ---- kinds

  abbrev pub IsOfKind : TypeId → Option TypeKind → Reached → Type 0
  IsOfKind id found now = AreLawful now.types × (kind_of now.types id ≡ found)

  pub kind_now_does : {least : Reached} (id : TypeId) → PassingDoes here least Nothing (kind_now id) (IsOfKind id)
  unfolding kind_now
  kind_now_does id = answered (λ found now is. (is.0, out now found is.1)) (by_types_does (λ types. Ok (kind_of types id)))
    where
      out : (now : Reached) (found : Option TypeKind) → ◌≡◌ {A = Checked (Option TypeKind)} (Ok (kind_of now.types id)) (Ok found)
          → kind_of now.types id ≡ found
      out now found is = cc

  -- what is accessed is of a type that is wanted
  pub leads_formed : (origin : Origin) (selectors : List TreeSelector) (id : TypeId) (now : Reached) → LeadsTo origin selectors id now
      → (wanted : TypeId → Bool) (o : Outline) → IsFurther now (whole_of o) → wanted id ≡ true
      → leads_to o here.block wanted origin selectors (index_count selectors) ≡ true
  leads_formed origin selectors id now l wanted o h is =
      both_true _ _ (l.visible o h)
      (both_true _ _ (eq-eqb (index_count selectors) (index_count selectors) refl)
      (both_true _ _ (l.formed o h) (ap (is_type wanted) (l.leads_there (whole_of o) h) ∙ is)))

  pub ordinal_formed : (origin : Origin) (selectors : List TreeSelector) (id : TypeId) (now : Reached) (o : Outline) → LeadsTo origin selectors id now
      → is_ordinal now.types id ≡ true → IsFurther now (whole_of o)
      → leads_to_ordinal o here.block origin selectors (index_count selectors) ≡ true
  ordinal_formed origin selectors id now o l is h =
      leads_formed origin selectors id now l (is_ordinal o.types) o h (is_ordinal_longer h.types id l.stands ∙ is)

  held_formed : (held : Scalar) (origin : Origin) (selectors : List TreeSelector) (id : TypeId) (now : Reached) (o : Outline) → LeadsTo origin selectors id now
      → holds now.types held id ≡ true → IsFurther now (whole_of o)
      → leads_to_held o here.block held origin selectors (index_count selectors) ≡ true
  held_formed held origin selectors id now o l is h =
      leads_formed origin selectors id now l (holds o.types held) o h (ap (is_held_by held) (kind_longer h.types id l.stands) ∙ is)

  pub scalar_formed : (held : Scalar) (origin : Origin) (selectors : List TreeSelector) (id : TypeId) (now : Reached) (o : Outline)
      → LeadsTo origin selectors id now → holds now.types held id ≡ true → IsFurther now (whole_of o)
      → leads_to_scalar o here.block origin selectors (index_count selectors) ≡ true
  scalar_formed held origin selectors id now o l is h =
      leads_formed origin selectors id now l (is_scalar o.types) o h
      (ap (λ found. is_some (option_and_then scalar_range found)) (kind_longer h.types id l.stands) ∙ held_scalar held (kind_of now.types id) is)

  pub record_formed : (origin : Origin) (selectors : List TreeSelector) (id : TypeId) (now : Reached) (o : Outline) → LeadsTo origin selectors id now
      → is_record now.types id ≡ true → IsFurther now (whole_of o)
      → leads_to_record o here.block origin selectors (index_count selectors) ≡ true
  record_formed origin selectors id now o l is h =
      leads_formed origin selectors id now l (is_record o.types) o h (ap is_record_form (form_at_longer h.types id l.stands) ∙ is)

  pub whole_formed : (origin : Origin) (selectors : List TreeSelector) (id : TypeId) (now : Reached) (o : Outline) → LeadsTo origin selectors id now
      → is_structured now.types id ≡ true → IsFurther now (whole_of o)
      → leads_to_whole o here.block id origin selectors (index_count selectors) ≡ true
  whole_formed origin selectors id now o l is h =
      leads_formed origin selectors id now l (λ other. is_same other id && is_structured o.types other) o h
      (both_true _ _ (eq-eqb id.index id.index refl) (is_structured_longer h.types id is))

  -- a test of a type is one with more types
  pub test_formed : (id : TypeId) (fits : RangeTest) (now n : Reached) → id.index < length now.types → IsFurther now n
      → holds now.types fits.tests id ≡ true → scalar_range_of now.types id ≡ Some fits.range → tests_type n.types fits id ≡ true
  test_formed id fits now n stands h held range =
      ap (is_test_of fits.tests fits.range) (kind_longer h.types id stands) ∙ test_is fits.tests (kind_of now.types id) fits.range held range

  -- what is accessed is tested for the range of its type
  pub fits_formed : (origin : Origin) (selectors : List TreeSelector) (id : TypeId) (fits : RangeTest) (now : Reached) (o : Outline)
      → LeadsTo origin selectors id now → IsFurther now (whole_of o) → fits.site < now.sites → holds now.types fits.tests id ≡ true
      → scalar_range_of now.types id ≡ Some fits.range → IsWholeRange fits.range → fits_target o here.block fits origin selectors ≡ true
  fits_formed origin selectors id fits now o l h known held range whole =
      both_true _ _ (both_true _ _ (lt_true fits.site o.sites (omega (arith, known, h.sites))) whole)
      (ap (is_type (tests_type o.types fits)) (l.leads_there (whole_of o) h) ∙ test_formed id fits now (whole_of o) l.stands h held range)

  -- what is accessed is read: an ordinal with the values of its type
  pub read_formed : (origin : Origin) (selectors : List TreeSelector) (id : TypeId) (range : OrdinalRange) (point : ℕ) (now : Reached) (o : Outline)
      → LeadsTo origin selectors id now → IsFurther now (whole_of o) → point < now.points → AreLawful now.types → range_of now.types id ≡ Some range
      → leads_to_read o here.block point range origin selectors (index_count selectors) ≡ true
  read_formed origin selectors id range point now o l h known lawful values =
      let scalars = ordinal_values now.types id range values in
      let test : RangeTest = record { site = 0; tests = scalar.Ordinal; range = range } in
      let held = ordinal_held now.types id (ap is_some values) in
      both_true _ _ (leads_formed origin selectors id now l (has_values o.types range) o h (test_formed id test now (whole_of o) l.stands h held scalars))
      (both_true _ _ (lt_true point o.points (omega (arith, known, h.points))) (lawful.whole id range scalars))

  -- ---- values of accesses

  ordinal_value_does : {least : Reached} (origin : Origin) (selectors : List TreeSelector) (id : TypeId) (defined : ℕ) (lead : Option ℕ)
      → LeadsTo origin selectors id least → holds least.types scalar.Ordinal id ≡ true → defined < least.sites → IsKnown lead least
      → PassingDoes here least Nothing (ordinal_value origin selectors id defined lead) Types
  unfolding ordinal_value
  ordinal_value_does {least} origin selectors id defined lead l held test known =
      quietly (mark_does (Value origin selectors (index_count selectors) scalar.Ordinal defined) refl refl refl
      (stands_there (open_in here) (open_in here) origin l.opens)
      (λ o h. both_true _ _ (held_formed scalar.Ordinal origin selectors id least o l held h) (lt_true defined o.sites (omega (arith, test, h.sites)))))
      λ _ _ one _.
      quietly (host_type_does id) λ host _ two _.
      pure_does (typed host lead) (λ n h. ordinal_types host lead least n (further_still one (further_still two h)) known)

  set_value_does : {least : Reached} (base : SetBase) (origin : Origin) (selectors : List TreeSelector) (id : TypeId) (defined : ℕ) (lead : Option ℕ)
      → LeadsTo origin selectors id least → holds least.types scalar.Set id ≡ true → defined < least.sites → IsKnown lead least
      → PassingDoes here least Nothing (set_value base origin selectors id defined lead) Types
  unfolding set_value
  set_value_does {least} base origin selectors id defined lead l held test known =
      quietly (mark_does (Value origin selectors (index_count selectors) scalar.Set defined) refl refl refl
      (stands_there (open_in here) (open_in here) origin l.opens)
      (λ o h. both_true _ _ (held_formed scalar.Set origin selectors id least o l held h) (lt_true defined o.sites (omega (arith, test, h.sites)))))
      λ _ _ one _.
      pure_does (typed_set base lead) (λ n h. set_types base lead least n (further_still one h) known)

  whole_value_does : {least : Reached} (origin : Origin) (selectors : List TreeSelector) (id : TypeId) (defined : ℕ) (lead : Option ℕ)
      → LeadsTo origin selectors id least → is_structured least.types id ≡ true → defined < least.sites → IsKnown lead least
      → PassingDoes here least Nothing (whole_value origin selectors id defined lead) Types
  unfolding whole_value
  whole_value_does {least} origin selectors id defined lead l structured test known =
      quietly (by_types_does (λ types. Ok (cells_of types id))) λ cells now one is.
      quietly (mark_does (WholeValue origin selectors (index_count selectors) id cells defined) refl refl refl
      (stands_there (open_in here) (open_in here) origin l.opens)
      (λ o h.
      let as_many = counted now cells is.1 in
      both_true _ _ (whole_formed origin selectors id least o l structured (further_still one h))
      (both_true _ _ (value_formed now (whole_of o) cells (leads_later origin selectors id least now one l).stands as_many is.0 h)
      (lt_true defined o.sites (omega (arith, test, one.sites, h.sites)))))) λ _ _ two _.
      pure_does (typed_variable id cells lead) (λ n h.
      let seen = further_still one (further_still two h) in
      (known_later lead least n seen known, is_structured_longer seen.types id structured))
    where
      counted : (now : Reached) (cells : ℕ) → ◌≡◌ {A = Checked ℕ} (Ok (cells_of now.types id)) (Ok cells) → cells ≡ cells_of now.types id
      counted now cells is = cc

      value_formed : (now n : Reached) (cells : ℕ) → id.index < length now.types → cells ≡ cells_of now.types id → AreLawful now.types → IsFurther now n
          → (nat_eq cells (cells_of n.types id) && nat_le cells most_cells) ≡ true
      value_formed now n cells stands same lawful h =
          both_true _ _ (eq-eqb cells (cells_of n.types id) (same ∙ sym (cells_of_longer h.types id stands)))
          (le_true cells (omega (arith, same, lawful.few_cells id)))
        where
          le_true : (m : ℕ) → m ≤ most_cells → nat_le m most_cells ≡ true
          le_true m few = grind (arith, nat_tests)

  value_does : {least : Reached} (found : Option TypeKind) (origin : Origin) (selectors : List TreeSelector) (id : TypeId) (defined : ℕ) (lead : Option ℕ)
      → LeadsTo origin selectors id least → kind_of least.types id ≡ found → defined < least.sites → IsKnown lead least
      → PassingDoes here least Nothing (value_of_kind found origin selectors id defined lead) Types
  value_does (Some kind_of_type.Structured) origin selectors id defined lead l is test known =
      whole_value_does origin selectors id defined lead l (ap is_structured_kind is) test known
  value_does (Some (kind_of_type.Set base members)) origin selectors id defined lead l is test known =
      set_value_does base origin selectors id defined lead l (ap (is_held_by scalar.Set) is) test known
  value_does (Some (kind_of_type.Ordinal range)) origin selectors id defined lead l is test known =
      ordinal_value_does origin selectors id defined lead l (ap (is_held_by scalar.Ordinal) is) test known
  value_does {least} None origin selectors id defined lead l is test known = absurd (has_kind least.types id l.stands is)

  pub accessed_does : {least : Reached} (variable : Denoted) (selectors : List Selector) (rows : List (List Place)) (ws : List Written)
      (place : Place) (lead : Option SiteKind)
      → IsLed lead → AreLawfulRows rows ws → IsDenoted variable least
      → PassingDoes here least (Covers 2 (place ∷ selector_places selectors rows)) (accessed variable selectors ws place lead) Types
  unfolding accessed
  accessed_does {least} variable selectors rows ws place lead is laws denoted =
      let origin = variable.origin in
      let places = selector_places selectors rows in
      led_covers here 2 place places (kind.UndefinedVariable ∷ led lead) (led_behind kind.UndefinedVariable lead (omega arith) (omega arith) is)
      (joins (leads_more place (kind.UndefinedVariable ∷ []) (led lead) places) (site_does kind.UndefinedVariable place) λ defined there one test.
      joins (leads_first 0 place (led lead) places) (behind_does lead place) λ id now two known.
      quietly (enter_does Access (λ n. refl) (λ n. refl) (λ n. refl) (λ n. refl) (λ n o h. refl)) λ _ entered three _.
      let start = leads_later origin variable.selectors variable.type_id least entered (further_still one (further_still two three)) denoted.leads_to in
      last (selected_does origin variable.selectors variable.type_id selectors rows ws laws start) λ component met four l.
      quietly (kind_now_does component.1) λ found next five of_kind.
      value_does found origin component.0 component.1 defined id (leads_later origin component.0 component.1 met next five l) of_kind.1
      (omega (arith, test, two.sites, three.sites, four.sites, five.sites))
      (known_later id now next (further_still three (further_still four five)) known))
