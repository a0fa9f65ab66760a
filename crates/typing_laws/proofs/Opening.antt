-- What a with does: each of its records is opened before the next is looked up, its fields are names in its statement, and
-- behind that all of them are closed.
use Rattle.std.proofs.Common.{◌≡◌, ℕ, ◌-◌, Bool, true, false, if◌then◌else◌, nat_le, List, [], ◌∷◌, ◌++◌, length, map, take, Option, Some, None, Ok, Err}
use Rattle.std.proofs.Common.{slice_get, refl, sym, ap, ap₂, subst, ◌∙◌, arith, append-nil, append_assoc, fold}
use Rattle.std.specs.List.{flat_map}
use Rattle.std.specs.Option.{option_and_then}
use Rattle.std.proofs.lemmas.Bool.{eq-eqb}
use Rattle.std.proofs.lemmas.List.{length-map, map-append}
use Rattle.std.proofs.lemmas.List.Folds.{list_all-append}
use Rattle.place.specs.declared.Place.{Place}
use Rattle.syntax_tree.specs.declared.RecordVariable.{RecordVariable}
use Rattle.syntax_tree.specs.Places.{record_places, selector_places, expr_places}
use Rattle.types.specs.Forms.{FieldForm, Form, Record as RecordForm}
use Rattle.types.specs.declared.form.RecordField.{RecordField}
use Rattle.types.specs.declared.form.TypeId.{TypeId}
use Rattle.types.specs.Types.{field_at, field_of, form_at}
use Rattle.types.proofs.Fields.{is_field, named_at}
use Rattle.scopes.specs.Scopes.{Region, opened_with, outer, put}
use Rattle.scopes.specs.declared.denotation.Denotation.{Denotation}
use Rattle.typed_tree.specs.declared.fault.TypeFault.TheVariants as fault
use Rattle.typed_tree.specs.declared.tree.Selector.{Selector as TreeSelector}
use Rattle.typed_tree.specs.declared.tree.Variable.{Variable}
use Rattle.typed_tree.specs.Accesses.{Origin, index_count, root_of}
use Rattle.typed_tree.specs.Look.{Look, Mark, Access, Do, Opens, With, WithEnds, is_formed_mark}
use Rattle.typed_tree.specs.Records.{OpenRecord as BareRecord, is_there}
use Rattle.typed_tree.specs.WellFormed.{Outline, is_record_form, most_entries}
use Rattle.typing.specs.Passing.{OpenRecord, Passed, After, Passing, after, behind_marks, each, mark, ◌>>=◌}
use Rattle.typing_rules.specs.Checked.{Checked, and_then}
use Rattle.typing.specs.Steps.{close_record, definition_of, field_definition, field_definitions, next_slot, open_record}
use Rattle.typing.specs.Expressions.{expression}
use Rattle.typing.specs.Statements.{WrittenVariable, opened, opened_record, with_statement, written_record}
use Rattle.typing.proofs.Ways.{Nobody, Way, Stay, One, Then, Marked, Record, RecordEnds}
use Rattle.typing_laws.specs.Controls.{Each, mark_changes, mark_controls}
use Rattle.typing_laws.specs.Opened.{opened_behind, record_of}
use Rattle.typing_laws.proofs.Accesses.{LeadsTo, field_selects, leads_later, opened_lies, record_formed, selected_does, variable_does}
use Rattle.typing_laws.proofs.Covers.{Stood, Covers, covers_both, covers_skip}
use Rattle.typing_laws.proofs.EveryExpression.{indexes_lawful}
use Rattle.typing_laws.proofs.Grown.{Fine, Grown, IsFree, Nested, Sited, both_true, fine_later, further, grown_then, heads_of, sited_then}
use Rattle.typing_laws.proofs.Kept.{MayChange, changes_of, controls_of, each_append, each_more}
use Rattle.typing_laws.proofs.Opened.{bare_record, open_in, opened_then, stands_there}
use Rattle.typing_laws.proofs.Reached.{Head, Here, IsFurther, Reached, as_far, as_long, further_still, get_last, get_longer, one_longer, reached, whole_of}
use Rattle.typing_laws.proofs.Sound.{HoldsOfRegion, IsInside, IsRecord, IsSound, IsVariable, put_holds, record_more, regions_later}
use Rattle.typing_laws.proofs.Sound.{variable_later}
use Rattle.typing_laws.proofs.Spared.{spared_then}
use Rattle.typing_laws.proofs.Steps.{PassingDoes, Anything, PassingLeaves, Nothing, ended_flat, enter_does, find_does, mark_does, no_sites, pass_does, quietly}
use Rattle.typing_laws.proofs.Steps.{silent_leaves, sited, split, split_behind}
use Rattle.typing_laws.proofs.Strings.{behind_nothing}
use Rattle.typing_laws.proofs.Went.{deeper, take_front}

-- ---- records that are opened and closed

abbrev with_record : Region → OpenRecord → Passed → Passed
with_record region one s = record s { regions = region ∷ s.regions; records = s.records ++ one ∷ [] }

abbrev without_record : Passed → Passed
without_record s = record s { regions = outer s.regions; records = take (length s.records - 1) s.records }

-- as many are closed
abbrev closed_by : {A : Type 0} → List A → Passed → Passed
closed_by [] s = s
closed_by (one ∷ others) s = closed_by others (without_record s)

closes : {A : Type 0} (records : List A) (s : Passed) → each (λ _. close_record) records s ≡ Ok (after tt [] (closed_by records s))
unfolding close_record
closes [] s = refl
closes (one ∷ others) s = behind_nothing (each (λ _. close_record) others (without_record s)) ∙ closes others (without_record s)

closed_last : {A : Type 0} (records : List A) (s : Passed) → closed_by records (without_record s) ≡ without_record (closed_by records s)
closed_last [] s = refl
closed_last (one ∷ others) s = closed_last others (without_record s)

closed_sites : {A : Type 0} (records : List A) (s : Passed) → (closed_by records s).sites ≡ s.sites
closed_sites [] s = refl
closed_sites (one ∷ others) s = closed_sites others (without_record s)

closed_points : {A : Type 0} (records : List A) (s : Passed) → (closed_by records s).points ≡ s.points
closed_points [] s = refl
closed_points (one ∷ others) s = closed_points others (without_record s)

-- ---- where one more is open

abbrev here_with : Here → OpenRecord → Here
here_with here one = record here { records = here.records ++ one ∷ [] }

inside_more : (here : Here) (one : OpenRecord) → IsInside here (here_with here one)
inside_more here one = record {
  keeps = λ block is. is;
  opened = λ slot other is. get_longer (one_longer here.records one) slot other is;
}

open_more : (here : Here) (one : OpenRecord) → open_in (here_with here one) ≡ open_in here ++ bare_record one ∷ []
open_more here one = map-append bare_record here.records (one ∷ [])

-- ---- the names of the fields of a record

with_holds : (Holds : Denotation → Type 0) (definitions : List (List ℕ × Denotation)) → Each (λ d. Holds d.1) definitions
    → HoldsOfRegion Holds (opened_with definitions)
with_holds Holds definitions all = from definitions [] all tt
  where
    from : (ds : List (List ℕ × Denotation)) (region : Region) → Each (λ d. Holds d.1) ds → HoldsOfRegion Holds region
        → HoldsOfRegion Holds (fold (λ (region : Region) (d : List ℕ × Denotation). put region d.0 (Some d.1)) region ds)
    from [] region each one = one
    from (d ∷ ds) region each one = from ds (put region d.0 (Some d.1)) each.1 (put_holds Holds region d.0 (Some d.1) one each.0)

module _ (here : Here) (variables : List Variable) (types : List Form) (heads : List Head) (one : OpenRecord)
    (lies : IsRecord here variables types one) (slot : ℕ) (next : slot ≡ length here.records) where
  abbrev IsSoundInside : Denotation → Type 0
  IsSoundInside = IsSound (here_with here one) variables types heads

  field_sound : (name : List ℕ) (found : Option RecordField) → field_of types one.type_id name ≡ found
      → Each (λ d. IsSoundInside d.1) (field_definition slot name found)
  field_sound name None is = tt
  field_sound name (Some f) is =
      let field = named_at types one.type_id name f is in (
        record {
          opened = one;
          is_open = ap (slice_get (here.records ++ one ∷ [])) next ∙ get_last here.records one;
          is_record = record_more (inside_more here one) as_long as_long (as_long {all = heads}) one lies;
          leads = field_selects (field_at types one.type_id f.position) f field;
          stands = omega (arith, (is_field types one.type_id f.position f field).type_before, lies.ends);
        },
        tt,
      )

  fields_sound : (fields : List FieldForm) → Each (λ d. IsSoundInside d.1) (flat_map (definition_of types one.type_id slot) fields)
  fields_sound [] = tt
  fields_sound (field ∷ fields) =
      each_append (λ (d : List ℕ × Denotation). IsSoundInside d.1) (definition_of types one.type_id slot field)
      (flat_map (definition_of types one.type_id slot) fields)
      (field_sound field.name (field_of types one.type_id field.name) refl) (fields_sound fields)

  definitions_sound : (place : Place) (form : Option Form) (definitions : List (List ℕ × Denotation))
      → field_definitions types place one.type_id slot form ≡ Ok definitions
      → (is_record_form form ≡ true) × Each (λ d. IsSoundInside d.1) definitions
  definitions_sound place (Some (RecordForm packed fields)) definitions is =
      let same : flat_map (definition_of types one.type_id slot) fields ≡ definitions = cc in
      (refl, subst (Each (λ (d : List ℕ × Denotation). IsSoundInside d.1)) same (fields_sound fields))
  definitions_sound place other definitions is = absurd cc

-- what is known behind a record may be passed on to where it is open
fine_opened : {here : Here} (s : Passed) (one : OpenRecord) (definitions : List (List ℕ × Denotation)) → Fine here s → IsRecord here s.variables s.types one
    → Each (λ d. IsSound (here_with here one) s.variables s.types (heads_of (reached s)) d.1) definitions
    → Fine (here_with here one) (with_record (opened_with definitions) one s)
fine_opened {here} s one definitions fine lies all = record {
  sound = (
    with_holds (IsSound (here_with here one) s.variables s.types (heads_of (reached s))) definitions all,
    regions_later (inside_more here one) as_long as_long as_long s.regions fine.sound,
  );
  lawful = fine.lawful;
  texts = fine.texts;
  block = fine.block;
  around = fine.around;
  records = ap (λ (all : List OpenRecord). all ++ one ∷ []) fine.records;
  stands = fine.stands;
  fit = fine.fit;
}

-- ---- forms where it is open

module _ (origin : Origin) (selectors : List TreeSelector) (id : TypeId) (region : Region) where
  abbrev one_more : OpenRecord
  one_more = opened_record origin selectors id

  abbrev opens_it : Mark
  opens_it = Opens origin selectors (index_count selectors)

  nested_opened : {here : Here} {behind : List BareRecord} {look : Look} (s new : Passed) → is_there (open_in here) origin ≡ true
      → ((o : Outline) → IsFurther (reached s) (whole_of o) → is_formed_mark o here.block opens_it ≡ true)
      → Nested (here_with here one_more) behind look (with_record region one_more s) new
      → Nested here behind (opens_it ∷ look) s (without_record new)
  nested_opened {here} {behind} {look} s new there formed n = record {
    way =
        subst (λ l. Way true Nobody 0 0 (opens_it ∷ l) s (without_record new)) (append-nil look)
        (Then (One (Marked opens_it refl)) (Then (One (Record region one_more)) (Then (deeper n.way) (One RecordEnds))));
    lawful = n.lawful;
    texts = n.texts;
    changes =
        each_more (MayChange (here_with here one_more) (reached new)) (MayChange here (reached (without_record new))) (changes_of look) (λ root m. record {
          variable = m.variable;
          is_there = m.is_there;
          is_visible = m.is_visible;
          may = m.may;
          apart = m.apart;
        }) n.changes;
    controls =
        each_more (IsFree (here_with here one_more) (with_record region one_more s) new) (IsFree here s (without_record new)) (controls_of look)
        (λ root c. record { variable = c.variable; is_there = c.is_there; own = c.own; free = c.free }) n.controls;
    formed = λ o h. both_true _ _ (formed o (further_still (further n.way) h)) (n.formed o h);
    spared = n.spared;
    opened =
        ap (option_and_then (λ (more : List BareRecord). opened_behind more look))
        (stands_there (open_in here) (open_in here ++ record_of origin selectors ∷ []) origin there)
        ∙ ap (λ (records : List BareRecord). opened_behind records look) (sym (open_more here one_more)) ∙ n.opened;
  }

-- behind its records a with has ended
nested_closed : {here : Here} {look : Look} {s new : Passed} (behind more : List BareRecord) (slot : ℕ) → slot ≡ length (open_in here)
    → behind ≡ open_in here ++ more → Nested here behind look s new → Grown here (look ++ (WithEnds slot ∷ [])) s new
nested_closed {here} {look} {s} {new} behind more slot first goes_on n = record {
  way = Then n.way (One (Marked (WithEnds slot) refl));
  lawful = n.lawful;
  texts = n.texts;
  changes = subst (Each (MayChange here (reached new))) (sym (ended_flat mark_changes look (WithEnds slot) refl)) n.changes;
  controls = subst (Each (IsFree here s new)) (sym (ended_flat mark_controls look (WithEnds slot) refl)) n.controls;
  formed = λ o h. list_all-append (is_formed_mark o here.block) look (WithEnds slot ∷ []) ∙ both_true _ _ (n.formed o h) refl;
  spared = λ roots held. spared_then roots look (WithEnds slot ∷ []) (n.spared roots held) refl;
  opened =
      opened_then (open_in here) behind (open_in here) look (WithEnds slot ∷ []) n.opened
      (ap (λ (records : List BareRecord). Some (take slot records)) goes_on ∙ ap (λ m. Some (take m (open_in here ++ more))) first
      ∙ ap Some (take_front (open_in here) more));
}

-- ---- a record is opened

record OpensOne (here : Here) (Has : List Stood → Type 0) (s : Passed) (a : After (Unit {0})) : Type 0 where
  pub origin : Origin
  pub selectors : List TreeSelector
  pub id : TypeId
  pub region : Region
  pub look : Look
  pub last : Passed
  pub grown : Grown here look s last
  pub sites : Sited Has s last
  pub look_is : a.look ≡ look ++ (Opens origin selectors (index_count selectors) ∷ [])
  pub passed_is : a.passed ≡ with_record region (opened_record origin selectors id) last
  pub there : is_there (open_in here) origin ≡ true
  pub formed : (o : Outline) → IsFurther (reached last) (whole_of o) → is_formed_mark o here.block (Opens origin selectors (index_count selectors)) ≡ true
  pub fine : Fine (here_with here (opened_record origin selectors id)) (with_record region (opened_record origin selectors id) last)

record OpensHere (here : Here) (least : Reached) (Has : List Stood → Type 0) (p : Passing (Unit {0})) : Type 0 where
  pub opens : (s : Passed) (a : After (Unit {0})) → p s ≡ Ok a → Fine here s → IsFurther least (reached s) → OpensOne here Has s a

-- behind other forms
opens_behind : {here : Here} {least : Reached} {A : Type 0} {First Second Both : List Stood → Type 0} {p : Passing A} {f : A → Passing (Unit {0})}
    {K : A → Reached → Type 0} → ((a b : List Stood) → First a → Second b → Both (a ++ b)) → PassingDoes here least First p K
    → ((x : A) (now : Reached) → IsFurther least now → K x now → OpensHere here now Second (f x)) → OpensHere here least Both (p >>= f)
opens_behind {here} {Both = Both} {p = p} {f = f} joined first rest = record {
  opens = λ s b is fine h.
      let x = split (p s) (λ a. behind_marks a.look (f a.answer a.passed)) b is in
      let y = split_behind x.0.look (f x.0.answer x.0.passed) b x.2 in
      let one = first.does s x.0 x.1 fine h in
      let now = further_still h (further one.0.way) in
      let two = (rest x.0.answer (reached x.0.passed) now one.2).opens x.0.passed y.0 y.1 (fine_later one.0 fine) as_far in
      subst (OpensOne here Both s) y.2 (record {
        origin = two.origin;
        selectors = two.selectors;
        id = two.id;
        region = two.region;
        look = x.0.look ++ two.look;
        last = two.last;
        grown = grown_then one.0 two.grown;
        sites = sited_then joined one.1 two.sites;
        look_is = ap (λ l. x.0.look ++ l) two.look_is ∙ sym (append_assoc x.0.look two.look (Opens two.origin two.selectors (index_count two.selectors) ∷ []));
        passed_is = two.passed_is;
        there = two.there;
        formed = two.formed;
        fine = two.fine;
      });
}

opens_quietly : {here : Here} {least : Reached} {A : Type 0} {Has : List Stood → Type 0} {p : Passing A} {f : A → Passing (Unit {0})}
    {K : A → Reached → Type 0} → PassingDoes here least Nothing p K
    → ((x : A) (now : Reached) → IsFurther least now → K x now → OpensHere here now Has (f x)) → OpensHere here least Has (p >>= f)
opens_quietly {Has = Has} first rest = opens_behind (λ a b none has. subst (λ l. Has (l ++ b)) (sym none) has) first rest

-- what is passed where a record is opened
opened_is : (place : Place) (one : OpenRecord) (s : Passed) (a : After (Unit {0})) → open_record place one s ≡ Ok a
    → (definitions : List (List ℕ × Denotation))
    × (field_definitions s.types place one.type_id (length s.records) (form_at s.types one.type_id) ≡ Ok definitions)
    × (after tt [] (with_record (opened_with definitions) one s) ≡ a)
unfolding open_record
opened_is place one s a is = by (nat_le most_entries (length s.records)) is
  where
    checked : Checked (List (List ℕ × Denotation))
    checked = field_definitions s.types place one.type_id (length s.records) (form_at s.types one.type_id)

    made : List (List ℕ × Denotation) → After (Unit {0})
    made definitions = after tt [] (with_record (opened_with definitions) one s)

    by : (test : Bool) → (if test then Err (fault.TooMany place) else and_then checked (λ definitions. Ok (made definitions))) ≡ Ok a
        → (definitions : List (List ℕ × Denotation)) × (checked ≡ Ok definitions) × (made definitions ≡ a)
    by true h = absurd cc
    by false h =
        let x = split checked (λ definitions. Ok (made definitions)) a h in
        (x.0, x.1, cc)

module _ (here : Here) where
  opens_last : {least : Reached} (place : Place) (origin : Origin) (selectors : List TreeSelector) (id root_type : TypeId)
      → LeadsTo here origin selectors id least → IsVariable here least.variables least.types (root_of origin) root_type
      → OpensHere here least Nothing
      (mark (Opens origin selectors (index_count selectors)) >>= (λ _. open_record place (opened_record origin selectors id)))
  opens_last {least} place origin selectors id root_type l v = record {
    opens = λ s a is fine h.
        let one = opened_record origin selectors id in
        let opens_it = Opens origin selectors (index_count selectors) in
        let x = split_behind (opens_it ∷ []) (open_record place one s) a is in
        let y = opened_is place one s x.0 x.1 in
        let led = leads_later here origin selectors id least (reached s) h l in
        let lies = opened_lies here origin selectors id root_type (reached s) led
        (variable_later here least (reached s) (root_of origin) root_type h v) in
        let d = definitions_sound here s.variables s.types (heads_of (reached s)) one lies (length s.records) (ap length fine.records) place
        (form_at s.types id) y.0 y.1 in
        let whole : after tt (opens_it ∷ []) (with_record (opened_with y.0) one s) ≡ a =
        ap (λ (z : After (Unit {0})). after z.answer (opens_it ∷ z.look) z.passed) y.2 ∙ x.2 in
        subst (OpensOne here Nothing s) whole (record {
          origin = origin;
          selectors = selectors;
          id = id;
          region = opened_with y.0;
          look = [];
          last = s;
          grown = record {
            way = Stay;
            lawful = fine.lawful;
            texts = fine.texts;
            changes = tt;
            controls = tt;
            formed = λ o more. refl;
            spared = λ roots held. refl;
            opened = refl;
          };
          sites = no_sites refl refl;
          look_is = refl;
          passed_is = refl;
          there = led.opens;
          formed = λ o more. record_formed here origin selectors id (reached s) o led d.0 more;
          fine = fine_opened s one y.0 fine lies d.1;
        });
  }

  -- a record of a with
  opened_does : (least : Reached) (one : RecordVariable) → OpensHere here least (Covers 0 (record_places one)) (opened (written_record one))
  unfolding opened
  opened_does least one =
      let skipped = covers_skip 0 one.name.place (selector_places one.selectors.items (map expr_places one.indexes.items)) in
      opens_more skipped
      (opens_quietly (find_does one.name) λ d now first sound.
      opens_quietly (variable_does here one.name.place d sound) λ variable there second found.
      let origin = variable.origin in
      opens_quietly (enter_does Access (λ n. refl) (λ n. refl) (λ n. refl) (λ n. refl) (λ n o h. refl)) λ _ entered third _.
      let start = leads_later here origin variable.selectors variable.type_id there entered third found.leads_to in
      opens_behind (λ a b has none. subst (Covers 0 (selector_places one.selectors.items (map expr_places one.indexes.items)))
      (sym (append-nil a) ∙ ap (λ l. a ++ l) (sym none)) has)
      (selected_does here origin variable.selectors variable.type_id one.selectors.items (map expr_places one.indexes.items)
      (map expression one.indexes.items) (indexes_lawful here one.indexes.items) start) λ component met fourth l.
      opens_last one.name.place origin component.0 component.1 found.type_id l
      (variable_later here there met (root_of origin) found.type_id (further_still third fourth) found.of_root))
    where
      opens_more : {Has Had : List Stood → Type 0} {p : Passing (Unit {0})} → ((a : List Stood) → Has a → Had a) → OpensHere here least Has p
          → OpensHere here least Had p
      opens_more has law = record {
        opens = λ s a is fine h.
            let k = law.opens s a is fine h in
            record {
              origin = k.origin;
              selectors = k.selectors;
              id = k.id;
              region = k.region;
              look = k.look;
              last = k.last;
              grown = k.grown;
              sites = record { added = k.sites.added; sites = k.sites.sites; points = k.sites.points; covered = has k.sites.added k.sites.covered };
              look_is = k.look_is;
              passed_is = k.passed_is;
              there = k.there;
              formed = k.formed;
              fine = k.fine;
            };
      }

-- ---- all records of a with

record OpensAll (here : Here) (records : List RecordVariable) (s : Passed) (b : After (Unit {0})) : Type 0 where
  pub inside : Here
  pub fine : Fine inside b.passed
  pub more : List BareRecord
  pub opens : open_in inside ≡ open_in here ++ more
  pub sites : Sited (Covers 0 (flat_map record_places records)) s b.passed
  -- forms where they are open, and then these are closed
  pub wraps :
      (look : Look) (t : Passed) → Grown inside look b.passed t → Nested here (open_in inside) (b.look ++ look) s (closed_by records t)

opens_all : (here : Here) (records : List RecordVariable) (s : Passed) (b : After (Unit {0})) → each opened (map written_record records) s ≡ Ok b
    → Fine here s → OpensAll here records s b
opens_all here [] s b is fine =
    let same : after tt [] s ≡ b = cc in
    subst (OpensAll here [] s) same (record {
      inside = here;
      fine = fine;
      more = [];
      opens = sym (append-nil (open_in here));
      sites = no_sites refl refl;
      wraps = λ look t g. g;
    })
opens_all here (one ∷ others) s b is fine =
    let x = split (opened (written_record one) s) (λ a. behind_marks a.look (each opened (map written_record others) a.passed)) b is in
    let y = split_behind x.0.look (each opened (map written_record others) x.0.passed) b x.2 in
    let first = (opened_does here (reached s) one).opens s x.0 x.1 fine as_far in
    let record_here = opened_record first.origin first.selectors first.id in
    let start = with_record first.region record_here first.last in
    let goes : each opened (map written_record others) start ≡ Ok y.0 =
    subst (λ (n : Passed). each opened (map written_record others) n ≡ Ok y.0) first.passed_is y.1 in
    by x.0 y.0 first (opens_all (here_with here record_here) others start y.0 goes first.fine) y.2
  where
    by : (x y : After (Unit {0})) (first : OpensOne here (Covers 0 (record_places one)) s x)
        → OpensAll (here_with here (opened_record first.origin first.selectors first.id)) others
        (with_record first.region (opened_record first.origin first.selectors first.id) first.last) y
        → after y.answer (x.look ++ y.look) y.passed ≡ b → OpensAll here (one ∷ others) s b
    by x y first all whole =
        let record_here = opened_record first.origin first.selectors first.id in
        let opens_it = Opens first.origin first.selectors (index_count first.selectors) in
        subst (OpensAll here (one ∷ others) s) whole (record {
          inside = all.inside;
          fine = all.fine;
          more = bare_record record_here ∷ all.more;
          opens =
              all.opens ∙ ap (λ (l : List BareRecord). l ++ all.more) (open_more here record_here)
              ∙ append_assoc (open_in here) (bare_record record_here ∷ []) all.more;
          sites = sited_then (covers_both 0 (record_places one) (flat_map record_places others)) first.sites (record {
            added = all.sites.added;
            sites = all.sites.sites;
            points = all.sites.points;
            covered = all.sites.covered;
          });
          wraps = λ look t g.
              let n = all.wraps look t g in
              let wrapped = nested_opened first.origin first.selectors first.id first.region first.last (closed_by others t) first.there first.formed n in
              let joined = grown_then first.grown wrapped in
              let looks : first.look ++ (opens_it ∷ (y.look ++ look)) ≡ (x.look ++ y.look) ++ look =
              sym (append_assoc first.look (opens_it ∷ []) (y.look ++ look)) ∙ ap (λ l. l ++ (y.look ++ look)) (sym first.look_is)
              ∙ sym (append_assoc x.look y.look look) in
              subst (λ (n : Passed). Nested here (open_in all.inside) ((x.look ++ y.look) ++ look) s n) (sym (closed_last others t))
              (subst (λ (l : Look). Nested here (open_in all.inside) l s (without_record (closed_by others t))) looks joined);
        })

-- ---- the statement of a with

next_slot_does : {here : Here} {least : Reached} → PassingDoes here least Nothing next_slot (λ slot now. slot ≡ length (open_in here))
unfolding next_slot
next_slot_does {here} = record {
  does = λ s a is fine h.
      let same : after (length s.records) [] s ≡ a = cc in
      silent_leaves (λ slot now. slot ≡ length (open_in here)) same Stay refl refl refl refl fine
      (ap length fine.records ∙ sym (length-map here.records bare_record));
}

module _ (here : Here) (records : List RecordVariable) (body : Passing (Unit {0})) (places : List Place)
    (law : (inside : Here) (least : Reached) → PassingDoes inside least (Covers 0 places) body Anything) where
  abbrev variables_written : List WrittenVariable
  variables_written = map written_record records

  closed_as_many : (rs : List RecordVariable) (t : Passed) → closed_by (map written_record rs) t ≡ closed_by rs t
  closed_as_many [] t = refl
  closed_as_many (r ∷ rs) t = closed_as_many rs (without_record t)

  -- the statement where all of them are open
  body_does : (inside : Here) (least : Reached) → PassingDoes inside least (Covers 0 places) (mark Do >>= (λ _. body)) Anything
  body_does inside least = quietly (mark_does Do refl refl refl refl (λ o h. refl)) λ _ now _ _. law inside now

  nested_does : (least : Reached) (slot : ℕ) → slot ≡ length (open_in here)
      → PassingDoes here least (Covers 0 (flat_map record_places records ++ places))
      (each opened variables_written
      >>= (λ _. mark Do >>= (λ _. body >>= (λ _. each (λ _. close_record) variables_written >>= (λ _. mark (WithEnds slot))))))
      Anything
  nested_does least slot first = record {
    does = λ s a is fine h.
        let at_end : Unit {0} → Passing (Unit {0}) = λ _. each (λ _. close_record) variables_written >>= (λ _. mark (WithEnds slot)) in
        let rest : Unit {0} → Passing (Unit {0}) = λ _. mark Do >>= (λ _. body >>= at_end) in
        let x = split (each opened variables_written s) (λ b. behind_marks b.look (rest b.answer b.passed)) a is in
        let b = x.0 in
        let y = split_behind b.look (rest tt b.passed) a x.2 in
        let u = split_behind (Do ∷ []) ((body >>= at_end) b.passed) y.0 y.1 in
        let v = split (body b.passed) (λ c. behind_marks c.look (at_end c.answer c.passed)) u.0 u.1 in
        let c = v.0 in
        let w = split_behind c.look (at_end tt c.passed) u.0 v.2 in
        let ended = ended_is c.passed w.0 w.1 in
        let all = opens_all here records s b x.1 fine in
        let inner : After (Unit {0}) = after c.answer (Do ∷ c.look) c.passed in
        let core = (body_does all.inside (reached b.passed)).does b.passed inner (ap (behind_marks (Do ∷ [])) v.1) all.fine as_far in
        let grown = nested_closed (open_in all.inside) all.more slot first all.opens (all.wraps (Do ∷ c.look) c.passed core.0) in
        let both = sited_then {Both = Covers 0 (flat_map record_places records ++ places)} (covers_both 0 (flat_map record_places records) places)
        all.sites core.1 in
        let whole : after tt ((b.look ++ (Do ∷ c.look)) ++ (WithEnds slot ∷ [])) (closed_by records c.passed) ≡ a =
        ap₂ (λ l n. after tt l n) (append_assoc b.look (Do ∷ c.look) (WithEnds slot ∷ [])) (sym (closed_as_many records c.passed))
        ∙ ap (λ (z : After (Unit {0})). after z.answer (b.look ++ (Do ∷ (c.look ++ z.look))) z.passed) ended
        ∙ ap (λ (z : After (Unit {0})). after z.answer (b.look ++ (Do ∷ z.look)) z.passed) w.2
        ∙ ap (λ (z : After (Unit {0})). after z.answer (b.look ++ z.look) z.passed) u.2 ∙ y.2 in
        subst (PassingLeaves here (Covers 0 (flat_map record_places records ++ places)) s Anything) whole (
          grown,
          record {
            added = both.added;
            sites = closed_sites records c.passed ∙ both.sites;
            points = closed_points records c.passed ∙ both.points;
            covered = both.covered;
          },
          tt,
        );
  }
    where
      ended_is : (t : Passed) (e : After (Unit {0})) → (each (λ _. close_record) variables_written >>= (λ _. mark (WithEnds slot))) t ≡ Ok e
          → after tt (WithEnds slot ∷ []) (closed_by variables_written t) ≡ e
      ended_is t e is =
          let goes : Ok (after tt (WithEnds slot ∷ []) (closed_by variables_written t)) ≡ Ok e =
          sym (ap (λ r. and_then r (λ (z : After (Unit {0})). behind_marks z.look (mark (WithEnds slot) z.passed))) (closes variables_written t)) ∙ is in
          ok_same goes
        where
          ok_same : {m n : After (Unit {0})} → ◌≡◌ {A = Checked (After (Unit {0}))} (Ok m) (Ok n) → m ≡ n
          ok_same g = cc

  pub with_does : (least : Reached) (place : Place)
      → PassingDoes here least (Covers 0 (place ∷ (flat_map record_places records ++ places))) (with_statement place variables_written body) Anything
  unfolding with_statement
  with_does least place =
      sited (λ sites. covers_skip 0 place (flat_map record_places records ++ places) sites)
      (quietly (pass_does place) λ _ _ _ _.
      quietly next_slot_does λ slot _ _ first.
      quietly (enter_does (λ n. With n slot) (λ n. refl) (λ n. refl) (λ n. refl)
      (λ n. ap (λ (b : Bool). if b then Some (open_in here) else None) (eq-eqb slot (length (open_in here)) first)) (λ n o h. refl)) λ _ next _ _.
      nested_does next slot first)
