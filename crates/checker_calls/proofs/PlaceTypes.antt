-- The types of places: those of parts of a place, of what is accessed, and of the components that leaves name.
use Rattle.std.proofs.Common.{arith, ◌≡◌, ◌∙◌, sym, ap, refl, subst, ℕ, ◌+◌, ℤ, ◌≤ℤ◌, Bool, true, false, cond, nat_eq, List, [], ◌∷◌, ◌++◌, Option, Some, None}
use Rattle.std.proofs.Common.{length}
use Rattle.std.proofs.lemmas.Bool.{and_parts, eqb-true, false≢true}
use Rattle.std.proofs.lemmas.Int.{ints}
use Rattle.std.proofs.lemmas.Option.{cond_some, none-some, same_Some}
use Rattle.std.specs.Option.{option_and_then, option_map}
use Rattle.std.specs.Prelude.{int_le, is_some, slice_get}
use Rattle.types.specs.Components.{Steps}
use Rattle.types.specs.Forms.{Array, Boolean, Char, Enumeration, FieldForm, Form, Integer, Record, Set, Subrange}
use Rattle.types.specs.Types.{before, element_of, field_at, form_at, form_kind, is_scalar, scalar_range, scalar_range_of}
use Rattle.types.specs.declared.form.ArrayElement.{ArrayElement}
use Rattle.types.specs.declared.form.OrdinalRange.{OrdinalRange}
use Rattle.types.specs.declared.form.RecordField.{RecordField}
use Rattle.types.specs.declared.form.Step.{Step}
use Rattle.types.specs.declared.form.Step.TheVariants as step
use Rattle.types.specs.declared.form.TypeId.{TypeId}
use Rattle.types.proofs.Elements.{IsArray, is_array}
use Rattle.types.proofs.Fields.{IsField, is_field}
use Rattle.typed_tree.specs.Accesses.{field_type, led, selected}
use Rattle.typed_tree.specs.declared.tree.Selector.{Selector}
use Rattle.typed_tree.specs.declared.tree.Selector.TheVariants.{Element, Field}
use Rattle.typed_tree.specs.declared.tree.Tree.{Tree}
use Rattle.typed_tree.specs.declared.tree.Variable.{Variable}
use Rattle.meaning.specs.Integers.{is_within}
use Rattle.meaning.specs.Store.{Place}
use Rattle.checker_rows.specs.Leaves.{Elements, FieldAt, Leaf, LeafStep, behind_elements, form_leaves, is_named, leaves_at, leaves_of, range_at, scalar}
use Rattle.checker_rows.specs.Leaves.{scalar_leaves}
use Rattle.checker_rows.proofs.Components.{Has, in-field_leaf, mapped-at, only}
use Rattle.checker_rows.proofs.Leafed.{leafed_before, leafed_many, leaves_before, leaves_of_form, leaves_of_none}
use Rattle.checker_rows.proofs.Selected.{IsElement, Matches, is-element, led-on, placed-field}
use Rattle.checker_calls.specs.Environments.{element_behind, field_behind, place_type, type_behind, type_led}

-- ---- one behind the other

pub led-then : (types : List Form) (way rest : List Step) (id : TypeId)
    → type_led types (way ++ rest) id ≡ option_and_then (type_led types rest) (type_led types way id)
led-then types [] rest id = refl
led-then types (s ∷ way) rest id = by (type_behind types s id) (led-then types way rest)
  where
    by : (found : Option TypeId)
        → ((next : TypeId) → type_led types (way ++ rest) next ≡ option_and_then (type_led types rest) (type_led types way next))
        → option_and_then (type_led types (way ++ rest)) found ≡ option_and_then (type_led types rest) (option_and_then (type_led types way) found)
    by None each = refl
    by (Some next) each = each next

-- the type of a part of a place
pub part-typed : (tree : Tree) (place : Place) (steps : List Step)
    → place_type tree (record place { steps = place.steps ++ steps }) ≡ option_and_then (type_led tree.types steps) (place_type tree place)
part-typed tree place steps = by (slice_get tree.variables.items place.variable)
  where
    by : (found : Option Variable)
        → option_and_then (λ variable. type_led tree.types (place.steps ++ steps) variable.type_id) found
        ≡ option_and_then (type_led tree.types steps) (option_and_then (λ variable. type_led tree.types place.steps variable.type_id) found)
    by None = refl
    by (Some variable) = led-then tree.types place.steps steps variable.type_id

-- what a leaf says of the type of a component: its values, and which it is, if it is scalar
pub record IsTypeOf (types : List Form) (part : TypeId) (leaf : Leaf) : Type 0 where
  pub values_are : scalar_range_of types part ≡ leaf.values
  pub type_is : is_scalar types part ≡ true → leaf.type_id ≡ Some part

-- ---- what a step leads to

module _ (types : List Form) where
  -- the first of several steps leads somewhere
  pub first-led : (s : Step) (steps : List Step) (from id : TypeId) → type_led types (s ∷ steps) from ≡ Some id
      → (next : TypeId) × (type_behind types s from ≡ Some next) × (type_led types steps next ≡ Some id)
  first-led s steps from id leads = by (type_behind types s from) refl leads
    where
      by : (found : Option TypeId) → type_behind types s from ≡ found → option_and_then (type_led types steps) found ≡ Some id
          → (next : TypeId) × (type_behind types s from ≡ Some next) × (type_led types steps next ≡ Some id)
      by None is leads = absurd (none-some id leads)
      by (Some next) is leads = (next, is, leads)

  -- a step to an element leads to the type of the elements
  element-led : (index : ℤ) (from next : TypeId) → type_behind types (step.Element index) from ≡ Some next
      → (element : ArrayElement) × IsArray types from element × (element.type_id ≡ next)
  element-led index from next leads = by (element_of types from) refl leads
    where
      taken : (test : Bool) (id next : TypeId) → cond test (Some id) None ≡ Some next → id ≡ next
      taken true id next is = same_Some id next is
      taken false id next is = absurd (none-some next is)

      by : (found : Option ArrayElement) → element_of types from ≡ found → element_behind index found ≡ Some next
          → (element : ArrayElement) × IsArray types from element × (element.type_id ≡ next)
      by None is leads = absurd (none-some next leads)
      by (Some element) is leads =
          (element, is_array types from element is, taken (is_within element.range.first element.range.last index) element.type_id next leads)

  -- a step to a field leads to its type
  field-led : (position : ℕ) (from next : TypeId) → type_behind types (step.Field position) from ≡ Some next
      → (field : RecordField) × IsField types from position field × (field.type_id ≡ next)
  field-led position from next leads = by (field_at types from position) refl leads
    where
      by : (found : Option RecordField) → field_at types from position ≡ found → field_behind found ≡ Some next
          → (field : RecordField) × IsField types from position field × (field.type_id ≡ next)
      by None is leads = absurd (none-some next leads)
      by (Some field) is leads = (field, is_field types from position field is, same_Some field.type_id next leads)

  -- ---- the type of what a leaf names

  no-step : (steps : List LeafStep) (first : LeafStep) (rest : List LeafStep) → steps ≡ first ∷ rest → is_named steps [] ≡ true → ⊥
  no-step steps Elements rest is named = false≢true (ap (λ (s : List LeafStep). is_named s []) (sym is) ∙ named)
  no-step steps (FieldAt position) rest is named = false≢true (ap (λ (s : List LeafStep). is_named s []) (sym is) ∙ named)

  -- the values of a form
  abbrev scalar_of : Option Form → Option OrdinalRange
  scalar_of form = option_and_then scalar_range (option_map form_kind form)

  abbrev numbered : ℕ → TypeId
  numbered n = record { index = n }

  scalar-typed : (id : TypeId) (leaf : Leaf) (form : Form) → form_at types id ≡ Some form → Has (scalar_leaves (leafed_before types id) form) leaf
      → IsTypeOf types id leaf
  scalar-typed id leaf form is has =
      let one = only (scalar (Some (numbered (length (leafed_before types id)))) (scalar_range (form_kind form))) leaf has in
      record {
        values_are = ap scalar_of is ∙ ap (λ (l : Leaf). l.values) one;
        type_is = λ one_value. ap (λ (l : Leaf). l.type_id) (sym one) ∙ ap (λ (n : ℕ). Some (numbered n)) (leafed_many types id form is);
      }

  whole-typed : (id : TypeId) (leaf : Leaf) (form : Option Form) → form_at types id ≡ form → Has (leaves_of types id) leaf → is_named leaf.steps [] ≡ true
      → IsTypeOf types id leaf
  whole-typed id leaf None is has named = record {
    values_are = ap scalar_of is
        ∙ ap (λ (l : Leaf). l.values) (only (scalar None None) leaf (subst (λ (all : List Leaf). Has all leaf) (leaves_of_none types id is) has));
    type_is = λ one_value. absurd (false≢true (sym (ap (λ (f : Option Form). is_some (scalar_of f)) is) ∙ one_value));
  }
  whole-typed id leaf (Some form) is has named = by form is (subst (λ (all : List Leaf). Has all leaf) (leaves_of_form types id form is) has)
    where
      by : (form : Form) → form_at types id ≡ Some form → Has (form_leaves (leafed_before types id) form) leaf → IsTypeOf types id leaf
      by Integer is has = scalar-typed id leaf Integer is has
      by Boolean is has = scalar-typed id leaf Boolean is has
      by Char is has = scalar-typed id leaf Char is has
      by (Enumeration last) is has = scalar-typed id leaf (Enumeration last) is has
      by (Subrange host first last) is has = scalar-typed id leaf (Subrange host first last) is has
      by (Set packed host first last) is has = scalar-typed id leaf (Set packed host first last) is has
      by (Array packed index element) is has =
          let found = mapped-at (behind_elements (range_at (leafed_before types id) index)) (leaves_at (leafed_before types id) element) has.0 leaf has.1 in
          absurd (no-step leaf.steps Elements found.0.steps (ap (λ (l : Leaf). l.steps) (sym found.2)) named)
      by (Record packed fields) is has =
          let found = in-field_leaf (leafed_before types id) 0 fields has.0 leaf has.1 in
          absurd (no-step leaf.steps (FieldAt (0 + found.0)) found.2.steps (ap (λ (l : Leaf). l.steps) (sym found.4)) named)

  -- a leaf of a part says the same behind it
  still-typed : (part : TypeId) (own leaf : Leaf) → own.values ≡ leaf.values → own.type_id ≡ leaf.type_id → IsTypeOf types part own
      → IsTypeOf types part leaf
  still-typed part own leaf values type_id is = record {
    values_are = is.values_are ∙ values;
    type_is = λ one_value. sym type_id ∙ is.type_is one_value;
  }

  behind-name : (position place : ℕ) (path : List LeafStep) (steps : Steps) → is_named (FieldAt position ∷ path) (step.Field place ∷ steps) ≡ true
      → (position ≡ place) × (is_named path steps ≡ true)
  behind-name position place path steps named =
      let both = and_parts (nat_eq position place) (is_named path steps) named in
      (eqb-true position place both.0, both.1)

  -- a component that a leaf of a type names has the leaf's type
  pub leaf-typed : (steps : Steps) (id part : TypeId) (leaf : Leaf) → Has (leaves_of types id) leaf → is_named leaf.steps steps ≡ true
      → type_led types steps id ≡ Some part → IsTypeOf types part leaf
  leaf-typed [] id part leaf has named leads =
      subst (λ (t : TypeId). IsTypeOf types t leaf) (same_Some id part leads) (whole-typed id leaf (form_at types id) refl has named)
  leaf-typed (step.Element index ∷ steps) id part leaf has named leads =
      let first = first-led (step.Element index) steps id part leads in
      let element = element-led index id first.0 first.1 in
      let is = element.1 in
      let of_form = subst (λ (all : List Leaf). Has all leaf) (leaves_of_form types id (Array is.packed element.0.index element.0.type_id) is.form) has in
      let index_range = range_at (leafed_before types id) element.0.index in
      let found = mapped-at (behind_elements index_range) (leaves_at (leafed_before types id) element.0.type_id) of_form.0 leaf of_form.1 in
      let own : Has (leaves_of types first.0) found.0 =
      subst (λ (t : TypeId). Has (leaves_of types t) found.0) element.2
      (subst (λ (all : List Leaf). Has all found.0) (leaves_before types id element.0.type_id is.type_before) (of_form.0, found.1)) in
      still-typed part found.0 leaf (ap (λ (l : Leaf). l.values) found.2) (ap (λ (l : Leaf). l.type_id) found.2)
      (leaf-typed steps first.0 part found.0 own
      (subst (λ (l : Leaf). is_named l.steps (step.Element index ∷ steps) ≡ true) (sym found.2) named) first.2)
  leaf-typed (step.Field position ∷ steps) id part leaf has named leads =
      let first = first-led (step.Field position) steps id part leads in
      let field = field-led position id first.0 first.1 in
      let is = field.1 in
      let of_form = subst (λ (all : List Leaf). Has all leaf) (leaves_of_form types id (Record is.packed is.fields) is.form) has in
      let found = in-field_leaf (leafed_before types id) 0 is.fields of_form.0 leaf of_form.1 in
      let both = behind-name (0 + found.0) position found.2.steps steps
      (subst (λ (l : Leaf). is_named l.steps (step.Field position ∷ steps) ≡ true) (sym found.4) named) in
      let at : found.0 ≡ position = omega (arith, both.0) in
      let placed = placed-field types (before types id) 0 0 is.fields position field.0 is.placed in
      let same : found.1.type_id ≡ field.0.type_id =
      ap (λ (f : FieldForm). f.type_id) (same_Some found.1 placed.0 (sym found.3 ∙ ap (slice_get is.fields) at ∙ placed.1)) ∙ placed.2 in
      let own : Has (leaves_of types first.0) found.2 =
      subst (λ (t : TypeId). Has (leaves_of types t) found.2) field.2
      (subst (λ (all : List Leaf). Has all found.2) (leaves_before types id field.0.type_id is.type_before)
      (subst (λ (t : TypeId). Has (leaves_at (leafed_before types id) t) found.2) same found.5)) in
      still-typed part found.2 leaf (ap (λ (l : Leaf). l.values) found.4) (ap (λ (l : Leaf). l.type_id) found.4)
      (leaf-typed steps first.0 part found.2 own both.1 first.2)

  -- ---- the type of what is accessed

  field-typed : (position offset : ℕ) (from next : TypeId) → selected types (Field position offset) from ≡ Some next
      → type_behind types (step.Field position) from ≡ Some next
  field-typed position offset from next leads = by (field_at types from position) leads
    where
      by : (found : Option RecordField) → field_type offset found ≡ Some next → field_behind found ≡ Some next
      by None leads = absurd (none-some next leads)
      by (Some field) leads = ap Some (cond_some (nat_eq offset field.offset) field.type_id next leads).1

  index-typed : (range : OrdinalRange) (from next : TypeId) (index : ℤ) → IsElement types range from next → range.first ≤ℤ index → index ≤ℤ range.last
      → type_behind types (step.Element index) from ≡ Some next
  index-typed range from next index is low high =
      let element = is.element in
      let above : element.range.first ≤ℤ index = subst (λ (n : ℤ). n ≤ℤ index) is.first low in
      let below : index ≤ℤ element.range.last = subst (λ (n : ℤ). index ≤ℤ n) is.last high in
      let first : int_le element.range.first index ≡ true = grind (arith, ints) in
      let second : int_le index element.range.last ≡ true = grind (arith, ints) in
      let inside : is_within element.range.first element.range.last index ≡ true =
      ap (λ (b : Bool). cond b (int_le index element.range.last) false) first ∙ second in
      ap (element_behind index) is.is ∙ ap (λ (b : Bool). cond b (Some element.type_id) None) inside ∙ ap Some is.type_is

  -- ways that selectors go lead where these do
  pub way-typed : (selectors : List Selector) (way : List Step) (from id : TypeId) → led types selectors from ≡ Some id → Matches selectors way
      → type_led types way from ≡ Some id
  way-typed [] [] from id leads matches = leads
  way-typed [] (s ∷ way) from id leads matches = absurd matches
  way-typed (selector ∷ selectors) [] from id leads matches = absurd matches
  way-typed (Element fits cells ∷ selectors) (step.Element index ∷ way) from id leads (low, high, matches) =
      let next = led-on types (Element fits cells) selectors from id (selected types (Element fits cells) from) refl leads in
      ap (option_and_then (type_led types way)) (index-typed fits.range from next.0 index (is-element types fits cells from next.0 next.1) low high)
      ∙ way-typed selectors way next.0 id next.2 matches
  way-typed (Element fits cells ∷ selectors) (step.Field place ∷ way) from id leads matches = absurd matches
  way-typed (Field position offset ∷ selectors) (step.Element index ∷ way) from id leads matches = absurd matches
  way-typed (Field position offset ∷ selectors) (step.Field place ∷ way) from id leads (same, matches) =
      let next = led-on types (Field position offset) selectors from id (selected types (Field position offset) from) refl leads in
      ap (option_and_then (type_led types way))
      (subst (λ (p : ℕ). type_behind types (step.Field p) from ≡ Some next.0) same (field-typed position offset from next.0 next.1))
      ∙ way-typed selectors way next.0 id next.2 matches
