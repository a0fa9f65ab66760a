-- The components of a type and its leaves: each component is named by a leaf, by one alone, and the indexes on its way are those of the leaf.
use Rattle.std.proofs.Common.{arith, ◌≡◌, ⊎_elim, ◌∙◌, sym, ap, refl, subst, ℕ, zero, suc, ◌+◌, ◌<◌, ℤ, pos, negsuc, ◌+ℤ◌, ◌-ℤ◌, ◌≤ℤ◌, ◌<ℤ◌}
use Rattle.std.proofs.Common.{Bool, true, false, ◌&&◌, List, [], ◌∷◌, ◌++◌, length, map, nat_eq, take, Option, Some, None}
use Rattle.std.proofs.lemmas.Bool.{and_parts, cases_lt, eq-eqb, eqb-true, false≢true}
use Rattle.std.proofs.lemmas.Int.{ints}
use Rattle.std.proofs.lemmas.Option.{none-some, same_Some, slice_get_within}
use Rattle.std.specs.Option.{option_map}
use Rattle.std.specs.Prelude.{slice_get}
use Rattle.types.specs.Components.{LaidOut, Steps, behind_step, components_at, components_of, fields_components, form_components, range_values, values_at}
use Rattle.types.specs.Components.{values_from}
use Rattle.types.specs.Forms.{FieldForm, Form}
use Rattle.types.specs.Forms.{Integer, Boolean, Char, Enumeration, Subrange, Array, Record, Set}
use Rattle.types.specs.Types.{form_at, form_kind, form_range, is_structured, is_structured_kind, natural, range_of, scalar_range, values_in}
use Rattle.types.specs.declared.form.OrdinalRange.{OrdinalRange}
use Rattle.types.specs.declared.form.Step.TheVariants as step
use Rattle.types.specs.declared.form.TypeId.{TypeId}
use Rattle.types.proofs.Elements.{elements_components, value_at}
use Rattle.types.proofs.Growing.{slice_get-right}
use Rattle.types.proofs.Laid.{components_before, components_not_before, components_of_form, components_of_none, laid_before, length_values, values_laid}
use Rattle.types.proofs.Once.{behind, in_either}
use Rattle.checker_rows.specs.Leaves.{Leaf, Leafed, LeafStep, Elements, FieldAt, behind_elements, behind_field, fields_leaves, form_leaves, index_before}
use Rattle.checker_rows.specs.Leaves.{is_named, leaves_at}
use Rattle.checker_rows.specs.Leaves.{leaves_of, range_at, scalar}
use Rattle.checker_rows.specs.Rows.{LieIn, indexes_of}
use Rattle.checker_rows.proofs.Leafed.{leafed_before, leaves_before, leaves_not_before, leaves_of_form, leaves_of_none, range_leafed}

-- ---- items of lists

abbrev pub Has : {A : Type 0} → List A → A → Type 0
Has items item = (k : ℕ) × (slice_get items k ≡ Some item)

pub has-left : {A : Type 0} (items more : List A) (item : A) → Has items item → Has (items ++ more) item
has-left [] more item (k, is) = absurd (none-some item is)
has-left (x ∷ items) more item (zero, is) = (0, is)
has-left (x ∷ items) more item (suc k, is) = let later = has-left items more item (k, is) in (suc later.0, later.1)

pub has-right : {A : Type 0} (items more : List A) (item : A) → Has more item → Has (items ++ more) item
has-right items more item (k, is) = (length items + k, slice_get-right items more k ∙ is)

pub mapped-at : {A B : Type 0} (f : A → B) (items : List A) (k : ℕ) (y : B) → slice_get (map f items) k ≡ Some y
    → (x : A) × (slice_get items k ≡ Some x) × (f x ≡ y)
mapped-at f [] k y is = absurd (none-some y is)
mapped-at f (x ∷ items) zero y is = (x, refl, same_Some (f x) y is)
mapped-at f (x ∷ items) (suc k) y is = mapped-at f items k y is

pub map-at : {A B : Type 0} (f : A → B) (items : List A) (k : ℕ) (x : A) → slice_get items k ≡ Some x → slice_get (map f items) k ≡ Some (f x)
map-at f [] k x is = absurd (none-some x is)
map-at f (y ∷ items) zero x is = ap (λ z. Some (f z)) (same_Some y x is)
map-at f (y ∷ items) (suc k) x is = map-at f items k x is

-- ---- components of arrays and records

-- a component of an array lies in an element
pub in-element : (rows : List Steps) (values : List ℤ) (k : ℕ) (steps : Steps) → slice_get (elements_components rows values) k ≡ Some steps
    → (value : ℤ) × (rest : Steps) × (steps ≡ step.Element value ∷ rest) × Has values value × Has rows rest
in-element rows [] k steps is = absurd (none-some steps is)
in-element rows (value ∷ values) k steps is =
    ⊎_elim (λ here. let found = behind (step.Element value) rows k steps here in (value, found.0, sym found.2, (0, refl), (k, found.1)))
    (λ there.
    let found = in-element rows values there.0 steps there.2 in (found.0, found.1, found.2, (suc found.3.0, found.3.1), found.4))
    (in_either (behind_step (step.Element value) rows) (elements_components rows values) k steps is)

pub of-element : (rows : List Steps) (values : List ℤ) (value : ℤ) (rest : Steps) → Has values value → Has rows rest
    → Has (elements_components rows values) (step.Element value ∷ rest)
of-element rows [] value rest (k, is) of_row = absurd (none-some value is)
of-element rows (first ∷ values) value rest (zero, is) (m, at) =
    has-left (behind_step (step.Element first) rows) (elements_components rows values) (step.Element value ∷ rest)
    (m, map-at (λ steps. step.Element first ∷ steps) rows m rest at ∙ ap (λ (v : ℤ). Some (step.Element v ∷ rest)) (same_Some first value is))
of-element rows (first ∷ values) value rest (suc k, is) of_row =
    has-right (behind_step (step.Element first) rows) (elements_components rows values) (step.Element value ∷ rest)
    (of-element rows values value rest (k, is) of_row)

-- one of a record lies in a field
pub in-field : (laid : List LaidOut) (position : ℕ) (fields : List FieldForm) (k : ℕ) (steps : Steps)
    → slice_get (fields_components laid position fields) k ≡ Some steps
    → (n : ℕ) × (field : FieldForm) × (rest : Steps) × (slice_get fields n ≡ Some field) × (steps ≡ step.Field (position + n) ∷ rest)
    × Has (components_at laid field.type_id) rest
in-field laid position [] k steps is = absurd (none-some steps is)
in-field laid position (field ∷ fields) k steps is =
    ⊎_elim
    (λ here.
    let found = behind (step.Field position) (components_at laid field.type_id) k steps here in
    let e : position ≡ position + 0 = omega arith in
    (0, field, found.0, refl, sym found.2 ∙ ap (λ (p : ℕ). step.Field p ∷ found.0) e, (k, found.1)))
    (λ there.
    let found = in-field laid (position + 1) fields there.0 steps there.2 in
    let e : (position + 1) + found.0 ≡ position + suc found.0 = omega arith in
    (suc found.0, found.1, found.2, found.3, found.4 ∙ ap (λ (p : ℕ). step.Field p ∷ found.2) e, found.5))
    (in_either (behind_step (step.Field position) (components_at laid field.type_id)) (fields_components laid (position + 1) fields) k steps is)

pub of-field : (laid : List LaidOut) (position : ℕ) (fields : List FieldForm) (n : ℕ) (field : FieldForm) (rest : Steps) → slice_get fields n ≡ Some field
    → Has (components_at laid field.type_id) rest → Has (fields_components laid position fields) (step.Field (position + n) ∷ rest)
of-field laid position [] n field rest is of_row = absurd (none-some field is)
of-field laid position (first ∷ fields) zero field rest is (m, at) =
    let e : position ≡ position + 0 = omega arith in
    let own : slice_get (components_at laid first.type_id) m ≡ Some rest =
    ap (λ (f : FieldForm). slice_get (components_at laid f.type_id) m) (same_Some first field is) ∙ at in
    has-left (behind_step (step.Field position) (components_at laid first.type_id)) (fields_components laid (position + 1) fields)
    (step.Field (position + 0) ∷ rest)
    (m, map-at (λ steps. step.Field position ∷ steps) (components_at laid first.type_id) m rest own ∙ ap (λ (p : ℕ). Some (step.Field p ∷ rest)) e)
of-field laid position (first ∷ fields) (suc n) field rest is of_row =
    let e : (position + 1) + n ≡ position + suc n = omega arith in
    has-right (behind_step (step.Field position) (components_at laid first.type_id)) (fields_components laid (position + 1) fields)
    (step.Field (position + suc n) ∷ rest)
    (subst (λ (p : ℕ). Has (fields_components laid (position + 1) fields) (step.Field p ∷ rest)) e
    (of-field laid (position + 1) fields n field rest is of_row))

-- ---- leaves of records

pub in-field_leaf : (before : List Leafed) (position : ℕ) (fields : List FieldForm) (j : ℕ) (leaf : Leaf)
    → slice_get (fields_leaves before position fields) j ≡ Some leaf
    → (n : ℕ) × (field : FieldForm) × (own : Leaf) × (slice_get fields n ≡ Some field) × (behind_field (position + n) own ≡ leaf)
    × Has (leaves_at before field.type_id) own
in-field_leaf before position [] j leaf is = absurd (none-some leaf is)
in-field_leaf before position (field ∷ fields) j leaf is =
    ⊎_elim
    (λ here.
    let found = mapped-at (behind_field position) (leaves_at before field.type_id) j leaf here in
    let e : position + 0 ≡ position = omega arith in
    (0, field, found.0, refl, ap (λ (p : ℕ). behind_field p found.0) e ∙ found.2, (j, found.1)))
    (λ there.
    let found = in-field_leaf before (position + 1) fields there.0 leaf there.2 in
    let e : position + suc found.0 ≡ (position + 1) + found.0 = omega arith in
    (suc found.0, found.1, found.2, found.3, ap (λ (p : ℕ). behind_field p found.2) e ∙ found.4, found.5))
    (in_either (map (behind_field position) (leaves_at before field.type_id)) (fields_leaves before (position + 1) fields) j leaf is)

pub of-field_leaf : (before : List Leafed) (position : ℕ) (fields : List FieldForm) (n : ℕ) (field : FieldForm) (own : Leaf) → slice_get fields n ≡ Some field
    → Has (leaves_at before field.type_id) own → Has (fields_leaves before position fields) (behind_field (position + n) own)
of-field_leaf before position [] n field own is of_field = absurd (none-some field is)
of-field_leaf before position (first ∷ fields) zero field own is (m, at) =
    let e : position ≡ position + 0 = omega arith in
    let there : slice_get (leaves_at before first.type_id) m ≡ Some own =
    ap (λ (f : FieldForm). slice_get (leaves_at before f.type_id) m) (same_Some first field is) ∙ at in
    has-left (map (behind_field position) (leaves_at before first.type_id)) (fields_leaves before (position + 1) fields) (behind_field (position + 0) own)
    (m, map-at (behind_field position) (leaves_at before first.type_id) m own there ∙ ap (λ (p : ℕ). Some (behind_field p own)) e)
of-field_leaf before position (first ∷ fields) (suc n) field own is of_field =
    let e : (position + 1) + n ≡ position + suc n = omega arith in
    has-right (map (behind_field position) (leaves_at before first.type_id)) (fields_leaves before (position + 1) fields) (behind_field (position + suc n) own)
    (subst (λ (p : ℕ). Has (fields_leaves before (position + 1) fields) (behind_field p own)) e
    (of-field_leaf before (position + 1) fields n field own is of_field))

-- ---- a type that is no array and no record

module _ (types : List Form) (id : TypeId) where
  scalar-form : (form : Option Form) → form_at types id ≡ form → is_structured_kind (option_map form_kind form) ≡ false → components_of types id ≡ [] ∷ []
  scalar-form None is plain = components_of_none types id is
  scalar-form (Some Integer) is plain = components_of_form types id Integer is
  scalar-form (Some Boolean) is plain = components_of_form types id Boolean is
  scalar-form (Some Char) is plain = components_of_form types id Char is
  scalar-form (Some (Enumeration last)) is plain = components_of_form types id (Enumeration last) is
  scalar-form (Some (Subrange host first last)) is plain = components_of_form types id (Subrange host first last) is
  scalar-form (Some (Set packed host first last)) is plain = components_of_form types id (Set packed host first last) is
  scalar-form (Some (Array packed index element)) is plain = absurd (false≢true (sym plain))
  scalar-form (Some (Record packed fields)) is plain = absurd (false≢true (sym plain))

  -- is its own component
  pub components_of_scalar : is_structured types id ≡ false → components_of types id ≡ [] ∷ []
  components_of_scalar plain = scalar-form (form_at types id) refl plain

-- ---- what is so of each type, if it is so of scalars, and of arrays and records by their parts

module _ (types : List Form) (Q : List Steps → List Leaf → Type 0)
    (of_scalar : (own : Option TypeId) (values : Option OrdinalRange) → Q ([] ∷ []) (scalar own values ∷ []))
    (of_array : (id index : TypeId) (rows : List Steps) (leaves : List Leaf) → Q rows leaves
    → Q (elements_components rows (values_at (laid_before types id) index)) (map (behind_elements (range_at (leafed_before types id) index)) leaves))
    (of_record : (laid : List LaidOut) (before : List Leafed) (fields : List FieldForm)
    → ((field : FieldForm) → Q (components_at laid field.type_id) (leaves_at before field.type_id))
    → Q (fields_components laid 0 fields) (fields_leaves before 0 fields)) where
  abbrev own-type : TypeId → Option TypeId
  own-type id = Some (record { index = length (leafed_before types id) })

  of_form : (id : TypeId) → ((part : TypeId) → Q (components_at (laid_before types id) part) (leaves_at (leafed_before types id) part)) → (form : Form)
      → Q (form_components (laid_before types id) form) (form_leaves (leafed_before types id) form)
  of_form id each Integer = of_scalar (own-type id) (form_range Integer)
  of_form id each Boolean = of_scalar (own-type id) (form_range Boolean)
  of_form id each Char = of_scalar (own-type id) (form_range Char)
  of_form id each (Enumeration last) = of_scalar (own-type id) (form_range (Enumeration last))
  of_form id each (Subrange host first last) = of_scalar (own-type id) (form_range (Subrange host first last))
  of_form id each (Array packed index element) =
      of_array id index (components_at (laid_before types id) element) (leaves_at (leafed_before types id) element) (each element)
  of_form id each (Set packed host first last) = of_scalar (own-type id) (scalar_range (form_kind (Set packed host first last)))
  of_form id each (Record packed fields) = of_record (laid_before types id) (leafed_before types id) fields (λ field. each field.type_id)

  as-both : (rows same : List Steps) (leaves alike : List Leaf) → rows ≡ same → leaves ≡ alike → Q same alike → Q rows leaves
  as-both rows same leaves alike one two holds = subst (λ (r : List Steps). Q r leaves) (sym one) (subst (Q same) (sym two) holds)

  of_entry : (id : TypeId) → ((part : TypeId) → Q (components_at (laid_before types id) part) (leaves_at (leafed_before types id) part))
      → (form : Option Form) → form_at types id ≡ form → Q (components_of types id) (leaves_of types id)
  of_entry id each None is =
      as-both (components_of types id) ([] ∷ []) (leaves_of types id) (scalar None None ∷ []) (components_of_none types id is) (leaves_of_none types id is)
      (of_scalar None None)
  of_entry id each (Some form) is =
      as-both (components_of types id) (form_components (laid_before types id) form) (leaves_of types id) (form_leaves (leafed_before types id) form)
      (components_of_form types id form is) (leaves_of_form types id form is) (of_form id each form)

  of_part : (id part : TypeId) → (part.index < id.index → Q (components_of types part) (leaves_of types part))
      → Q (components_at (laid_before types id) part) (leaves_at (leafed_before types id) part)
  of_part id part each =
      ⊎_elim
      (λ less. as-both (components_at (laid_before types id) part) (components_of types part) (leaves_at (leafed_before types id) part) (leaves_of types part)
      (components_before types id part less) (leaves_before types id part less) (each less))
      (λ more. as-both (components_at (laid_before types id) part) ([] ∷ []) (leaves_at (leafed_before types id) part) (scalar None None ∷ [])
      (components_not_before types id part more) (leaves_not_before types id part more) (of_scalar None None))
      (cases_lt part.index id.index)

  below : (bound : ℕ) (id : TypeId) → id.index < bound → Q (components_of types id) (leaves_of types id)
  below zero id less = absurd (omega (arith, less))
  below (suc bound) id less =
      of_entry id (λ part. of_part id part (λ before. below bound part (omega (arith, less, before)))) (form_at types id) refl

  pub of_each : (id : TypeId) → Q (components_of types id) (leaves_of types id)
  of_each id = below (suc id.index) id (omega arith)

-- ---- each component is named by a leaf

abbrev pub AreNamed : List Steps → List Leaf → Type 0
AreNamed rows leaves = (steps : Steps) → Has rows steps → (leaf : Leaf) × Has leaves leaf × (is_named leaf.steps steps ≡ true)

pub only : {A : Type 0} (x item : A) → Has (x ∷ []) item → x ≡ item
only x item (zero, is) = same_Some x item is
only x item (suc k, is) = absurd (none-some item is)

named-field : (position : ℕ) (path : List LeafStep) (rest : Steps) → is_named path rest ≡ true
    → is_named (FieldAt position ∷ path) (step.Field position ∷ rest) ≡ true
named-field position path rest is = ap (λ (b : Bool). b && is_named path rest) (eq-eqb position position refl) ∙ is

pub each-named : (types : List Form) (id : TypeId) → AreNamed (components_of types id) (leaves_of types id)
each-named types =
    of_each types AreNamed
    (λ own values steps has.
    (scalar own values, (0, refl), ap (is_named []) (sym (only [] steps has))))
    (λ id index rows leaves each steps has.
    let found = in-element rows (values_at (laid_before types id) index) has.0 steps has.1 in
    let leaf = each found.1 found.4 in
    let range = range_at (leafed_before types id) index in (
      behind_elements range leaf.0,
      (leaf.1.0, map-at (behind_elements range) leaves leaf.1.0 leaf.0 leaf.1.1),
      ap (is_named (Elements ∷ leaf.0.steps)) found.2 ∙ leaf.2,
    ))
    (λ laid before fields each steps has.
    let found = in-field laid 0 fields has.0 steps has.1 in
    let leaf = each found.1 found.2 found.5 in (
      behind_field (0 + found.0) leaf.0,
      of-field_leaf before 0 fields found.0 found.1 leaf.0 found.3 leaf.1,
      ap (is_named (FieldAt (0 + found.0) ∷ leaf.0.steps)) found.4 ∙ named-field (0 + found.0) leaf.0.steps found.2 leaf.2,
    ))

-- ---- the indexes

abbrev pub HaveIndexes : List Steps → List Leaf → Type 0
HaveIndexes rows leaves =
    (steps : Steps) (leaf : Leaf) → Has rows steps → Has leaves leaf → is_named leaf.steps steps ≡ true → LieIn leaf.indexes (indexes_of steps)

above-natural : (z : ℤ) (n : ℕ) → n < natural z → pos n <ℤ z
above-natural (pos m) n less = omega (arith, ints, less)
above-natural (negsuc m) n less = absurd (omega (arith, less))

below-natural : (z : ℤ) (n : ℕ) → pos n <ℤ z → n < natural z
below-natural (pos m) n less = omega (arith, ints, less)
below-natural (negsuc m) n less = absurd (omega (arith, ints, less))

-- the values of a range are those from its first to its last
pub in-range : (range : OrdinalRange) (value : ℤ) → Has (values_from range.first (values_in range)) value → (range.first ≤ℤ value) × (value ≤ℤ range.last)
in-range range value (k, is) =
    let count = values_in range in
    let many = slice_get_within (values_from range.first count) k value is in
    let within : k < count = omega (arith, many, length_values range.first count) in
    let same : range.first +ℤ pos k ≡ value = same_Some (range.first +ℤ pos k) value (sym (value_at range.first count k within) ∙ is) in
    let few = above-natural (range.last -ℤ range.first +ℤ pos 1) k within in
    (omega (arith, ints, same), omega (arith, ints, same, few))

counted-from : (z : ℤ) → pos 0 ≤ℤ z → (n : ℕ) × (pos n ≡ z)
counted-from (pos n) is = (n, refl)
counted-from (negsuc n) is = absurd (omega (arith, ints, is))

pub of-range : (range : OrdinalRange) (value : ℤ) → range.first ≤ℤ value → value ≤ℤ range.last → Has (values_from range.first (values_in range)) value
of-range range value low high =
    let from = counted-from (value -ℤ range.first) (omega (arith, ints, low)) in
    let same = from.1 in
    let within = below-natural (range.last -ℤ range.first +ℤ pos 1) from.0 (omega (arith, ints, same, high)) in
    let e : range.first +ℤ pos from.0 ≡ value = omega (arith, ints, same) in
    (from.0, value_at range.first (values_in range) from.0 within ∙ ap Some e)

in-values : (range : Option OrdinalRange) (own : OrdinalRange) (value : ℤ) → range ≡ Some own → Has (range_values range) value
    → (own.first ≤ℤ value) × (value ≤ℤ own.last)
in-values None own value is has = absurd (none-some own is)
in-values (Some range) own value is has =
    subst (λ (r : OrdinalRange). (r.first ≤ℤ value) × (value ≤ℤ r.last)) (same_Some range own is) (in-range range value has)

named-own : (position place : ℕ) (path : List LeafStep) (rest : Steps) → is_named (FieldAt position ∷ path) (step.Field place ∷ rest) ≡ true
    → (position ≡ place) × (is_named path rest ≡ true)
named-own position place path rest is =
    let both = and_parts (nat_eq position place) (is_named path rest) is in (eqb-true position place both.0, both.1)

-- what a leaf of a record and one of its components have in common, where the leaf names it
pub record OwnField (laid : List LaidOut) (before : List Leafed) (fields : List FieldForm) (leaf : Leaf) (steps : Steps) : Type 0 where
  pub n : ℕ
  pub field : FieldForm
  pub own : Leaf
  pub rest : Steps
  pub field_is : slice_get fields n ≡ Some field
  pub leaf_is : behind_field n own ≡ leaf
  pub steps_are : steps ≡ step.Field n ∷ rest
  pub of_leaves : Has (leaves_at before field.type_id) own
  pub of_components : Has (components_at laid field.type_id) rest
  pub named : is_named own.steps rest ≡ true

pub own-field : (laid : List LaidOut) (before : List Leafed) (fields : List FieldForm) (leaf : Leaf) (steps : Steps)
    → Has (fields_components laid 0 fields) steps
    → Has (fields_leaves before 0 fields) leaf → is_named leaf.steps steps ≡ true → OwnField laid before fields leaf steps
own-field laid before fields leaf steps of_row of_leaf named =
    let found = in-field laid 0 fields of_row.0 steps of_row.1 in
    let other = in-field_leaf before 0 fields of_leaf.0 leaf of_leaf.1 in
    let n = found.0 in
    let m = other.0 in
    let own = other.2 in
    let rest = found.2 in
    let moved : is_named (FieldAt (0 + m) ∷ own.steps) (step.Field (0 + n) ∷ rest) ≡ true =
    subst (λ (s : Steps). is_named (FieldAt (0 + m) ∷ own.steps) s ≡ true) found.4
    (subst (λ (l : Leaf). is_named l.steps steps ≡ true) (sym other.4) named) in
    let both = named-own (0 + m) (0 + n) own.steps rest moved in
    let same : m ≡ n = omega (arith, both.0) in
    let at : 0 + n ≡ n = omega arith in
    let here : 0 + m ≡ n = omega (arith, both.0) in
    let one : other.1 ≡ found.1 = same_Some other.1 found.1 (sym other.3 ∙ ap (slice_get fields) same ∙ found.3) in
    record {
      n = n;
      field = found.1;
      own = own;
      rest = rest;
      field_is = found.3;
      leaf_is = ap (λ (p : ℕ). behind_field p own) (sym here) ∙ other.4;
      steps_are = found.4 ∙ ap (λ (p : ℕ). step.Field p ∷ rest) at;
      of_leaves = subst (λ (f : FieldForm). Has (leaves_at before f.type_id) own) one other.5;
      of_components = found.5;
      named = both.1;
    }

-- an index of these values, if there are such, and those behind it
lie-behind : (range : Option OrdinalRange) (ranges : List OrdinalRange) (index : ℤ) (indexes : List ℤ)
    → ((own : OrdinalRange) → range ≡ Some own → (own.first ≤ℤ index) × (index ≤ℤ own.last)) → LieIn ranges indexes
    → LieIn (index_before range ranges) (index ∷ indexes)
lie-behind None ranges index indexes first more = tt
lie-behind (Some range) ranges index indexes first more = let own = first range refl in (own.0, own.1, more)

pub each-indexed : (types : List Form) (id : TypeId) → HaveIndexes (components_of types id) (leaves_of types id)
each-indexed types =
    of_each types HaveIndexes
    (λ own values steps leaf of_row of_leaf named.
    subst (λ (l : Leaf). LieIn l.indexes (indexes_of steps)) (only (scalar own values) leaf of_leaf) tt)
    (λ id index rows leaves each steps leaf of_row of_leaf named.
    let found = in-element rows (values_at (laid_before types id) index) of_row.0 steps of_row.1 in
    let range = range_at (leafed_before types id) index in
    let own = mapped-at (behind_elements range) leaves of_leaf.0 leaf of_leaf.1 in
    let few = take id.index types in
    let values : Has (range_values (range_of few index)) found.0 =
    subst (λ (list : List ℤ). Has list found.0) (values_laid few index) found.3 in
    let behind : is_named own.0.steps found.1 ≡ true =
    subst (λ (l : Leaf). is_named l.steps (step.Element found.0 ∷ found.1) ≡ true) (sym own.2)
    (subst (λ (s : Steps). is_named leaf.steps s ≡ true) found.2 named) in
    let lie = lie-behind range own.0.indexes found.0 (indexes_of found.1)
    (λ one is. in-values (range_of few index) one found.0 (sym (range_leafed few index) ∙ is) values)
    (each found.1 own.0 found.4 (of_leaf.0, own.1) behind) in
    subst (λ (l : Leaf). LieIn l.indexes (indexes_of steps)) own.2
    (subst (λ (s : Steps). LieIn (behind_elements range own.0).indexes (indexes_of s)) (sym found.2) lie))
    (λ laid before fields each steps leaf of_row of_leaf named.
    let own = own-field laid before fields leaf steps of_row of_leaf named in
    let lie = each own.field own.rest own.own own.of_components own.of_leaves own.named in
    subst (λ (l : Leaf). LieIn l.indexes (indexes_of steps)) own.leaf_is
    (subst (λ (s : Steps). LieIn own.own.indexes (indexes_of s)) (sym own.steps_are) lie))

-- ---- one leaf alone names a component

abbrev pub NameAlone : List Steps → List Leaf → Type 0
NameAlone rows leaves =
    (j k : ℕ) (a b : Leaf) (steps : Steps) → slice_get leaves j ≡ Some a → slice_get leaves k ≡ Some b → is_named a.steps steps ≡ true
    → is_named b.steps steps ≡ true → j ≡ k

alone-behind : (index : Option OrdinalRange) (a b : Leaf) (steps : Steps) → is_named (Elements ∷ a.steps) steps ≡ true
    → is_named (Elements ∷ b.steps) steps ≡ true → (rest : Steps) × (is_named a.steps rest ≡ true) × (is_named b.steps rest ≡ true)
alone-behind index a b [] one two = absurd (false≢true one)
alone-behind index a b (step.Element value ∷ steps) one two = (steps, one, two)
alone-behind index a b (step.Field place ∷ steps) one two = absurd (false≢true one)

both-behind : (p q : ℕ) (a b : Leaf) (steps : Steps) → is_named (FieldAt p ∷ a.steps) steps ≡ true → is_named (FieldAt q ∷ b.steps) steps ≡ true
    → (p ≡ q) × ((rest : Steps) × (is_named a.steps rest ≡ true) × (is_named b.steps rest ≡ true))
both-behind p q a b [] one two = absurd (false≢true one)
both-behind p q a b (step.Element value ∷ steps) one two = absurd (false≢true one)
both-behind p q a b (step.Field place ∷ steps) one two =
    let first = named-own p place a.steps steps one in
    let second = named-own q place b.steps steps two in
    (first.0 ∙ sym second.0, (steps, first.1, second.1))

module _ (before : List Leafed) (each : (field : FieldForm) → NameAlone [] (leaves_at before field.type_id)) where
  -- the leaves of two fields name no component in common
  apart-fields : (position : ℕ) (field : FieldForm) (fields : List FieldForm) (j k : ℕ) (a b : Leaf) (steps : Steps)
      → slice_get (map (behind_field position) (leaves_at before field.type_id)) j ≡ Some a
      → slice_get (fields_leaves before (position + 1) fields) k ≡ Some b → is_named a.steps steps ≡ true → is_named b.steps steps ≡ true → ⊥
  apart-fields position field fields j k a b steps of_first of_more one two =
      let here = mapped-at (behind_field position) (leaves_at before field.type_id) j a of_first in
      let there = in-field_leaf before (position + 1) fields k b of_more in
      let both = both-behind position ((position + 1) + there.0) here.0 there.2 steps
      (ap (λ (l : Leaf). is_named l.steps steps) here.2 ∙ one) (ap (λ (l : Leaf). is_named l.steps steps) there.4 ∙ two) in
      omega (arith, both.0)

  alone-fields : (position : ℕ) (fields : List FieldForm) → NameAlone [] (fields_leaves before position fields)
  alone-fields position [] j k a b steps of_a of_b one two = absurd (none-some a of_a)
  alone-fields position (field ∷ fields) j k a b steps of_a of_b one two =
      let own = map (behind_field position) (leaves_at before field.type_id) in
      let more = fields_leaves before (position + 1) fields in
      ⊎_elim
      (λ a_here.
      ⊎_elim
      (λ b_here.
      let first = mapped-at (behind_field position) (leaves_at before field.type_id) j a a_here in
      let second = mapped-at (behind_field position) (leaves_at before field.type_id) k b b_here in
      let both = both-behind position position first.0 second.0 steps
      (ap (λ (l : Leaf). is_named l.steps steps) first.2 ∙ one) (ap (λ (l : Leaf). is_named l.steps steps) second.2 ∙ two) in
      each field j k first.0 second.0 both.1.0 first.1 second.1 both.1.1 both.1.2)
      (λ b_there. absurd (apart-fields position field fields j b_there.0 a b steps a_here b_there.2 one two))
      (in_either own more k b of_b))
      (λ a_there.
      ⊎_elim (λ b_here. absurd (apart-fields position field fields k a_there.0 b a steps b_here a_there.2 two one))
      (λ b_there.
      let same = alone-fields (position + 1) fields a_there.0 b_there.0 a b steps a_there.2 b_there.2 one two in
      omega (arith, a_there.1, b_there.1, same))
      (in_either own more k b of_b))
      (in_either own more j a of_a)

pub each-alone : (types : List Form) (id : TypeId) → NameAlone (components_of types id) (leaves_of types id)
each-alone types =
    of_each types NameAlone
    (λ own values j k a b steps of_a of_b one two.
    let first = slice_get_within (scalar own values ∷ []) j a of_a in
    let second = slice_get_within (scalar own values ∷ []) k b of_b in
    omega (arith, first, second))
    (λ id index rows leaves each j k a b steps of_a of_b one two.
    let range = range_at (leafed_before types id) index in
    let first = mapped-at (behind_elements range) leaves j a of_a in
    let second = mapped-at (behind_elements range) leaves k b of_b in
    let both = alone-behind range first.0 second.0 steps
    (ap (λ (l : Leaf). is_named l.steps steps) first.2 ∙ one) (ap (λ (l : Leaf). is_named l.steps steps) second.2 ∙ two) in
    each j k first.0 second.0 both.0 first.1 second.1 both.1 both.2)
    (λ laid before fields each. alone-fields before each 0 fields)
