-- A component of a type that one of its leaves names, whose values are known, has a type.
use Rattle.std.proofs.Common.{arith, ◌≡◌, ⊎_elim, ◌∙◌, sym, ap, refl, subst, ℕ, zero, suc, ◌+◌, ◌<◌, ◌≤◌, ℤ, ◌≤ℤ◌, Bool, true, false, cond, ◌&&◌}
use Rattle.std.proofs.Common.{nat_lt, List, [], ◌∷◌, length, take, Option, Some, None}
use Rattle.std.proofs.lemmas.Bool.{and_from, cases_lt}
use Rattle.std.proofs.lemmas.Bool.Decides.{nat_tests}
use Rattle.std.proofs.lemmas.Int.{ints}
use Rattle.std.proofs.lemmas.List.{length-take}
use Rattle.std.proofs.lemmas.Option.{none-some, same_Some, slice_get_past}
use Rattle.std.specs.Option.{option_and_then}
use Rattle.std.specs.Prelude.{int_le, slice_get}
use Rattle.types.specs.Components.{LaidOut, Steps, components_at, components_of, entry_values, form_components, laid_out, range_values, values_at}
use Rattle.types.specs.Forms.{Array, Boolean, Char, Enumeration, FieldForm, Form, Integer, Record, Set, Subrange}
use Rattle.types.specs.Types.{Counted, before, cells_at, element_in, elements, fields_in, form_at, own_field, placed_fields, range_of, scalar_range_of}
use Rattle.types.specs.declared.form.OrdinalRange.{OrdinalRange}
use Rattle.types.specs.declared.form.RecordField.{RecordField}
use Rattle.types.specs.declared.form.Step.TheVariants as step
use Rattle.types.specs.declared.form.TypeId.{TypeId}
use Rattle.types.proofs.Laid.{components_before, components_of_form, components_of_none, first_laid, laid_before, values_before}
use Rattle.meaning.specs.Integers.{is_within}
use Rattle.checker_rows.specs.Leaves.{Leaf, behind_elements, form_leaves, is_named, leaves_at, leaves_of, range_at, scalar}
use Rattle.checker_rows.proofs.Components.{Has, in-element, in-field, in-range, mapped-at, only, own-field}
use Rattle.checker_rows.proofs.Leafed.{leafed_before, leaves_before, leaves_not_before, leaves_of_form}
use Rattle.checker_calls.specs.Environments.{element_behind, field_behind, type_behind, type_led}
use Rattle.checker_calls.proofs.PlaceTypes.{leaf-typed}

none-of_scalar : (leaf : Leaf) (range : OrdinalRange) → Has (scalar None None ∷ []) leaf → leaf.values ≡ Some range → ⊥
none-of_scalar leaf range has is = none-some range (ap (λ (l : Leaf). l.values) (only (scalar None None) leaf has) ∙ is)

no-element : (index : ℤ) (steps : Steps) → [] ≡ step.Element index ∷ steps → ⊥
no-element index steps is = cc

no-field : (position : ℕ) (steps : Steps) → [] ≡ step.Field position ∷ steps → ⊥
no-field position steps is = cc

apart-steps : (index : ℤ) (position : ℕ) (steps rest : Steps) → step.Element index ∷ steps ≡ step.Field position ∷ rest → ⊥
apart-steps index position steps rest is = cc

same-element : (index value : ℤ) (steps rest : Steps) → step.Element index ∷ steps ≡ step.Element value ∷ rest → (index ≡ value) × (steps ≡ rest)
same-element index value steps rest is = (cc, cc)

same-field : (position place : ℕ) (steps rest : Steps) → step.Field position ∷ steps ≡ step.Field place ∷ rest → (position ≡ place) × (steps ≡ rest)
same-field position place steps rest is = (cc, cc)

lt-true : (m n : ℕ) → m < n → nat_lt m n ≡ true
lt-true m n less = grind (arith, nat_tests)

le-true : (m n : ℤ) → m ≤ℤ n → int_le m n ≡ true
le-true m n less = grind (arith, ints)

module _ (types : List Form) where
  -- what is to be shown of the steps to a component
  abbrev IsThere : Steps → Type 0
  IsThere steps =
      (id : TypeId) (leaf : Leaf) (range : OrdinalRange) → Has (components_of types id) steps → Has (leaves_of types id) leaf
      → is_named leaf.steps steps ≡ true → leaf.values ≡ Some range → (own : TypeId) × (type_led types steps id ≡ Some own)

  -- the type of a part that has values stands before the type
  part-before : (id part : TypeId) (leaf : Leaf) (range : OrdinalRange) → Has (leaves_at (leafed_before types id) part) leaf → leaf.values ≡ Some range
      → part.index < id.index
  part-before id part leaf range has values =
      ⊎_elim (λ less. less)
      (λ more. absurd (none-of_scalar leaf range (subst (λ (all : List Leaf). Has all leaf) (leaves_not_before types id part more) has) values))
      (cases_lt part.index id.index)

  few : (entries : List LaidOut) (n m : ℕ) → n ≤ m → length (take n entries) ≤ m
  few entries n m h = let e = length-take n entries in grind (arith, h, e)

  -- so does the type of indexes of which there are some
  index-before : (id index : TypeId) (value : ℤ) → Has (values_at (laid_before types id) index) value → index.index < id.index
  index-before id index value has =
      ⊎_elim (λ less. less)
      (λ more.
      let none : values_at (laid_before types id) index ≡ [] =
      ap (λ (entries : List LaidOut). values_at entries index) (first_laid types id.index)
      ∙ ap entry_values (slice_get_past (take id.index (laid_out types)) index.index (few (laid_out types) id.index index.index more)) in
      absurd (none-some value ((subst (λ (list : List ℤ). Has list value) none has).1)))
      (cases_lt index.index id.index)

  some-range : (found : Option OrdinalRange) (value : ℤ) → Has (range_values found) value
      → (range : OrdinalRange) × (found ≡ Some range) × (range.first ≤ℤ value) × (value ≤ℤ range.last)
  some-range None value has = absurd (none-some value has.1)
  some-range (Some range) value has = let bounds = in-range range value has in (range, refl, bounds.0, bounds.1)

  element-type : (id index element : TypeId) (packed : Bool) (value : ℤ) → form_at types id ≡ Some (Array packed index element) → element.index < id.index
      → Has (values_at (laid_before types id) index) value → type_behind types (step.Element value) id ≡ Some element
  element-type id index element packed value is less has =
      let earlier = index-before id index value has in
      let range = some-range (range_of types index) value (subst (λ (list : List ℤ). Has list value) (values_before types id index earlier) has) in
      let both : (nat_lt index.index id.index && nat_lt element.index id.index) ≡ true =
      and_from (nat_lt index.index id.index) (nat_lt element.index id.index) (lt-true index.index id.index earlier) (lt-true element.index id.index less) in
      let first = le-true range.0.first value range.2 in
      let last = le-true value range.0.last range.3 in
      let inside : is_within range.0.first range.0.last value ≡ true = ap (λ (b : Bool). cond b (int_le value range.0.last) false) first ∙ last in
      ap (λ (form : Option Form). element_behind value (element_in types (before types id) id form)) is
      ∙ ap (λ (found : Option OrdinalRange). element_behind value (elements (before types id) id index element found)) range.1
      ∙ ap (λ (b : Bool).
      element_behind value
      (cond b (Some (record { index = index; range = range.0; type_id = element; cells = cells_at (before types id) element })) None)) both
      ∙ ap (λ (b : Bool). cond b (Some element) None) inside

  element-there : (index : ℤ) (steps : Steps) → IsThere steps → IsThere (step.Element index ∷ steps)
  element-there index steps inner id leaf range has_component has_leaf named values = by (form_at types id) refl
    where
      whole : Steps
      whole = step.Element index ∷ steps

      of-form : (form : Form) → form_at types id ≡ Some form → Has (form_components (laid_before types id) form) whole
          → Has (form_leaves (leafed_before types id) form) leaf → (own : TypeId) × (type_led types whole id ≡ Some own)
      of-form (Array packed indexes element) is rows leaves =
          let found = in-element (components_at (laid_before types id) element) (values_at (laid_before types id) indexes) rows.0 whole rows.1 in
          let same = same-element index found.0 steps found.1 found.2 in
          let behind = behind_elements (range_at (leafed_before types id) indexes) in
          let own = mapped-at behind (leaves_at (leafed_before types id) element) leaves.0 leaf leaves.1 in
          let known : own.0.values ≡ Some range = ap (λ (l : Leaf). l.values) own.2 ∙ values in
          let less = part-before id element own.0 range (leaves.0, own.1) known in
          let component : Has (components_of types element) steps =
          subst (λ (r : Steps). Has (components_of types element) r) (sym same.1)
          (subst (λ (all : List Steps). Has all found.1) (components_before types id element less) found.4) in
          let own_leaf : Has (leaves_of types element) own.0 =
          subst (λ (all : List Leaf). Has all own.0) (leaves_before types id element less) (leaves.0, own.1) in
          let next = inner element own.0 range component own_leaf (subst (λ (l : Leaf). is_named l.steps whole ≡ true) (sym own.2) named) known in
          let leads = element-type id indexes element packed index is less
          (subst (λ (v : ℤ). Has (values_at (laid_before types id) indexes) v) (sym same.0) found.3) in
          (next.0, ap (option_and_then (type_led types steps)) leads ∙ next.1)
      of-form (Record packed fields) is rows leaves =
          let found = in-field (laid_before types id) 0 fields rows.0 whole rows.1 in
          absurd (apart-steps index (0 + found.0) steps found.2 found.4)
      of-form Integer is rows leaves = absurd (no-element index steps (only [] whole rows))
      of-form Boolean is rows leaves = absurd (no-element index steps (only [] whole rows))
      of-form Char is rows leaves = absurd (no-element index steps (only [] whole rows))
      of-form (Enumeration last) is rows leaves = absurd (no-element index steps (only [] whole rows))
      of-form (Subrange host first last) is rows leaves = absurd (no-element index steps (only [] whole rows))
      of-form (Set packed host first last) is rows leaves = absurd (no-element index steps (only [] whole rows))

      by : (form : Option Form) → form_at types id ≡ form → (own : TypeId) × (type_led types whole id ≡ Some own)
      by None is =
          absurd (no-element index steps (only [] whole (subst (λ (rows : List Steps). Has rows whole) (components_of_none types id is) has_component)))
      by (Some form) is =
          of-form form is (subst (λ (rows : List Steps). Has rows whole) (components_of_form types id form is) has_component)
          (subst (λ (all : List Leaf). Has all leaf) (leaves_of_form types id form is) has_leaf)

  placed-there : (entries : List Counted) (position offset : ℕ) (fields : List FieldForm) (n : ℕ) (field : FieldForm) → slice_get fields n ≡ Some field
      → (f : RecordField) × (slice_get (placed_fields entries position offset fields) n ≡ Some f) × (f.type_id ≡ field.type_id)
  placed-there entries position offset [] n field is = absurd (none-some field is)
  placed-there entries position offset (first ∷ fields) zero field is = (
    record { position = position; offset = offset; type_id = first.type_id },
    refl,
    ap (λ (f : FieldForm). f.type_id) (same_Some first field is),
  )
  placed-there entries position offset (first ∷ fields) (suc n) field is =
      placed-there entries (position + 1) (offset + cells_at entries first.type_id) fields n field is

  field-type : (id : TypeId) (packed : Bool) (fields : List FieldForm) (n : ℕ) (field : FieldForm) → form_at types id ≡ Some (Record packed fields)
      → slice_get fields n ≡ Some field → field.type_id.index < id.index → type_behind types (step.Field n) id ≡ Some field.type_id
  field-type id packed fields n field is at less =
      let placed = placed-there (before types id) 0 0 fields n field at in
      let earlier : nat_lt placed.0.type_id.index id.index ≡ true =
      lt-true placed.0.type_id.index id.index (subst (λ (t : TypeId). t.index < id.index) (sym placed.2) less) in
      ap (λ (form : Option Form). field_behind (own_field id (slice_get (fields_in (before types id) form) n))) is
      ∙ ap (λ (found : Option RecordField). field_behind (own_field id found)) placed.1
      ∙ ap (λ (b : Bool). field_behind (cond b (Some placed.0) None)) earlier ∙ ap Some placed.2

  field-there : (position : ℕ) (steps : Steps) → IsThere steps → IsThere (step.Field position ∷ steps)
  field-there position steps inner id leaf range has_component has_leaf named values = by (form_at types id) refl
    where
      whole : Steps
      whole = step.Field position ∷ steps

      of-form : (form : Form) → form_at types id ≡ Some form → Has (form_components (laid_before types id) form) whole
          → Has (form_leaves (leafed_before types id) form) leaf → (own : TypeId) × (type_led types whole id ≡ Some own)
      of-form (Record packed fields) is rows leaves =
          let found = own-field (laid_before types id) (leafed_before types id) fields leaf whole rows leaves named in
          let same = same-field position found.n steps found.rest found.steps_are in
          let part = found.field.type_id in
          let known : found.own.values ≡ Some range = ap (λ (l : Leaf). l.values) found.leaf_is ∙ values in
          let less = part-before id part found.own range found.of_leaves known in
          let component : Has (components_of types part) steps =
          subst (λ (r : Steps). Has (components_of types part) r) (sym same.1)
          (subst (λ (all : List Steps). Has all found.rest) (components_before types id part less) found.of_components) in
          let own_leaf : Has (leaves_of types part) found.own =
          subst (λ (all : List Leaf). Has all found.own) (leaves_before types id part less) found.of_leaves in
          let next = inner part found.own range component own_leaf (subst (λ (r : Steps). is_named found.own.steps r ≡ true) (sym same.1) found.named) known in
          let leads = subst (λ (n : ℕ). type_behind types (step.Field n) id ≡ Some part) (sym same.0)
          (field-type id packed fields found.n found.field is found.field_is less) in
          (next.0, ap (option_and_then (type_led types steps)) leads ∙ next.1)
      of-form (Array packed indexes element) is rows leaves =
          let found = in-element (components_at (laid_before types id) element) (values_at (laid_before types id) indexes) rows.0 whole rows.1 in
          absurd (apart-steps found.0 position found.1 steps (sym found.2))
      of-form Integer is rows leaves = absurd (no-field position steps (only [] whole rows))
      of-form Boolean is rows leaves = absurd (no-field position steps (only [] whole rows))
      of-form Char is rows leaves = absurd (no-field position steps (only [] whole rows))
      of-form (Enumeration last) is rows leaves = absurd (no-field position steps (only [] whole rows))
      of-form (Subrange host first last) is rows leaves = absurd (no-field position steps (only [] whole rows))
      of-form (Set packed host first last) is rows leaves = absurd (no-field position steps (only [] whole rows))

      by : (form : Option Form) → form_at types id ≡ form → (own : TypeId) × (type_led types whole id ≡ Some own)
      by None is =
          absurd (no-field position steps (only [] whole (subst (λ (rows : List Steps). Has rows whole) (components_of_none types id is) has_component)))
      by (Some form) is =
          of-form form is (subst (λ (rows : List Steps). Has rows whole) (components_of_form types id form is) has_component)
          (subst (λ (all : List Leaf). Has all leaf) (leaves_of_form types id form is) has_leaf)

  there : (steps : Steps) → IsThere steps
  there [] = λ id leaf range has_component has_leaf named values. (id, refl)
  there (step.Element index ∷ steps) = element-there index steps (there steps)
  there (step.Field position ∷ steps) = field-there position steps (there steps)

  -- such a component has a type, which has the leaf's values
  pub component-typed : (steps : Steps) (id : TypeId) (leaf : Leaf) (range : OrdinalRange) → Has (components_of types id) steps → Has (leaves_of types id) leaf
      → is_named leaf.steps steps ≡ true → leaf.values ≡ Some range
      → (own : TypeId) × (type_led types steps id ≡ Some own) × (scalar_range_of types own ≡ Some range)
  component-typed steps id leaf range has_component has_leaf named values =
      let found = there steps id leaf range has_component has_leaf named values in
      (found.0, found.1, (leaf-typed types steps id found.0 leaf has_leaf named found.1).values_are ∙ values)
